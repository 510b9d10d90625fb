use Rattle.std.proofs.Common.{rules, ◌≡◌, ◌+◌, ◌<◌, [], map, length, take, set, arith, sym, ap, ◌∙◌, subst}
use Rattle.std.specs.Prelude.{All}
use Rattle.std.proofs.lemmas.List.{length-map, set-get_or}
use Rattle.std.proofs.lemmas.List.Elements.{All-push}
use Rattle.turn_lock.specs.Seats.{lock_of, seat_lock, seen_by}
use Rattle.cluster_locks.proofs.Places.{at_read, read_at, same_at, same_length, grown}
use Rattle.std.proofs.lemmas.Grind.{common_steps}
use Rattle.cluster_locks.proofs.rows.split_all.Goals as goal

pub split_seat-requires : goal.split_seat-requires
split_seat-requires g c = same_at seat_lock lock_of c.loop-k.seats c.args.locks.now c.loop-k.k _ _ c.loop-k-test.true (ap (map seat_lock) c.loop-k.invariant.same ∙ c.requires.own) (at_read c.loop-k.seats c.loop-k.k c.index-seats-k.result c.index-seats-k.is) c.index-locks-k.is

pub loop-k-preserved : goal.loop-k-preserved
loop-k-preserved g c = let inv = c.loop-k.invariant in let k = c.loop-k.k in let ps = c.loop-k.seats in let ls = c.args.locks.now in
    let below : k < length ls = c.loop-k-test.true in
    let long : length ps ≡ length ls = same_length seat_lock lock_of ps ls (ap (map seat_lock) inv.same ∙ c.requires.own) in
    let inside : k < length ps = omega arith in
    let at = at_read ps k c.index-seats-k.result c.index-seats-k.is in
    let same = c.split_seat.ensures.same in
    let new = c.split_seat.ensures.new in
    let n = length-map ps seen_by in
    let n' = length-map ls lock_of in record {
      count = search rules;
      room = search rules;
      same = ap (set ps k) same ∙ (set-get_or ps k c.index-seats-k.result ∙ inv.same);
      new_locks = ap (map seat_lock) c.push_reserved.ensures.items ∙ grown seat_lock c.loop-k.all.items c.split_seat.result (map lock_of ls) k (lock_of c.index-locks-k.result) (omega arith) inv.new_locks (new.0 ∙ sym (read_at lock_of ls k below _ _ c.index-locks-k.is));
      new_seen = ap (map seen_by) c.push_reserved.ensures.items ∙ (grown seen_by c.loop-k.all.items c.split_seat.result (map seen_by ps) k [] (omega arith) (inv.new_seen ∙ ap (λ l. take k (map seen_by l)) (sym inv.same)) (new.1 ∙ sym (read_at seen_by ps k inside _ [] at)) ∙ ap (λ l. take (k + 1) (map seen_by l)) inv.same);
      none = subst (All (λ s. s.share ≡ 0)) (sym c.push_reserved.ensures.items) (All-push (λ s. s.share ≡ 0) c.loop-k.all.items c.split_seat.result inv.none new.2);
    }

pub bounds-seats-k : goal.bounds-seats-k
bounds-seats-k g c = grind (arith, common_steps)

pub returns-clause-locks : goal.returns-clause-locks
returns-clause-locks g c = grind (arith, common_steps)

pub returns-clause-seen : goal.returns-clause-seen
returns-clause-seen g c = grind (arith, common_steps)
