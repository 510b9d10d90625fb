use Rattle.std.proofs.Common.{rules, ◌≡◌, ◌+◌, ◌-◌, Some, length, vec_len, arith, sym, ap, ◌∙◌, subst, take, drop}
use Rattle.std.specs.Prelude.{reverse, slice_index_or}
use Rattle.cluster_locks.specs.Places.{ClosedAll}
use Rattle.turn_lock.specs.Turned.{Closes}
use Rattle.turn_lock.specs.Seats.{lock_of, seat_lock}
use Rattle.cluster_locks.proofs.Places.{same_at, same_length, popped_at, take_fewer, rest_at, one_built}
use Rattle.std.proofs.lemmas.Grind.{common_steps}
use Rattle.cluster_locks.proofs.rows.close_all.Goals as goal

pub close-requires : goal.close-requires
close-requires g c = let inv = c.loop-lock.invariant in let ls = c.args.locks.items in let ss = c.args.seats.items in
    let n = vec_len c.loop-lock.locks in let k = vec_len c.pop.new.self in
    let one : k + 1 ≡ n = search rules in
    let count = inv.count in
    let same = inv.same in
    let long : length ss ≡ length ls = same_length seat_lock lock_of ss ls c.requires.own in
    let at = popped_at ls c.loop-lock.locks.items n k c.in-Some.lock inv.locks (omega arith) (omega arith) (c.in-Some.ensures.value c.in-Some.lock (omega arith)) in
    let last : vec_len c.loop-lock.seats - 1 ≡ n - 1 = omega arith in
    let at' = popped_at ss c.loop-lock.seats.items n k c.unwrap-seat.result inv.seats (omega arith) (omega arith) (sym c.unwrap-seat.ensures ∙ (c.pop-in-Some.ensures.value c.unwrap-seat.result (omega arith) ∙ ap (λ i. Some (slice_index_or c.loop-lock.seats.items i c.unwrap-seat.result)) last)) in
    same_at seat_lock lock_of ss ls k _ _ (omega arith) c.requires.own at' at

pub loop-lock-preserved : goal.loop-lock-preserved
loop-lock-preserved g c = let inv = c.loop-lock.invariant in let ls = c.args.locks.items in let ss = c.args.seats.items in
    let n = vec_len c.loop-lock.locks in let k = vec_len c.pop.new.self in
    let one : k + 1 ≡ n = search rules in
    let count = inv.count in
    let same = inv.same in
    let long : length ss ≡ length ls = same_length seat_lock lock_of ss ls c.requires.own in
    let at = popped_at ls c.loop-lock.locks.items n k c.in-Some.lock inv.locks (omega arith) (omega arith) (c.in-Some.ensures.value c.in-Some.lock (omega arith)) in
    let last : vec_len c.loop-lock.seats - 1 ≡ n - 1 = omega arith in
    let at' = popped_at ss c.loop-lock.seats.items n k c.unwrap-seat.result inv.seats (omega arith) (omega arith) (sym c.unwrap-seat.ensures ∙ (c.pop-in-Some.ensures.value c.unwrap-seat.result (omega arith) ∙ ap (λ i. Some (slice_index_or c.loop-lock.seats.items i c.unwrap-seat.result)) last)) in
    let more : vec_len c.push_reserved.new.self ≡ vec_len c.loop-lock.out + 1 = search rules in record {
      same = search rules;
      count = omega arith;
      room = search rules;
      locks = c.pop.ensures.rest ∙ take_fewer ls c.loop-lock.locks.items n k inv.locks one;
      seats = c.pop-in-Some.ensures.rest ∙ (ap (λ i. take i c.loop-lock.seats.items) last ∙ take_fewer ss c.loop-lock.seats.items n k inv.seats one);
      closed = subst (λ z. ClosedAll g.T.Recorded.after g.T.Recorded.fits g.T.Recorded.state (drop k ls) (drop k ss) (reverse z)) (sym c.push_reserved.ensures.items)
          (one_built (λ l s x. Closes g.T.Recorded.after g.T.Recorded.fits l.first (g.T.Recorded.state x) s) ls ss c.loop-lock.out.items k n c.in-Some.lock c.unwrap-seat.result c.close.result one
          (rest_at ls k n c.in-Some.lock one (omega arith) at) (rest_at ss k n c.unwrap-seat.result one (omega arith) at') c.close.ensures inv.closed);
    }

pub loop-lock-init : goal.loop-lock-init
loop-lock-init c = grind (arith, common_steps)

pub returns : goal.returns
returns g c = search rules
