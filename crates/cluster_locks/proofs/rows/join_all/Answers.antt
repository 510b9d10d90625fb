use Rattle.std.proofs.Common.{rules, ◌≡◌, ◌+◌, ◌<◌, get_or, set, take, drop, length, vec_len, arith, refl, sym, ap, ◌∙◌, subst}
use Rattle.std.proofs.lemmas.List.{get_or-take}
use Rattle.turn_lock.specs.Seats.{lock_of, seat_lock}
use Rattle.cluster_locks.specs.Places.{InStep, TakesIn}
use Rattle.cluster_locks.proofs.Places.{at_read, put_same, same_at, same_length, popped_at, take_fewer, take_whole, take_put, none_left, one_put, rest_at}
use Rattle.std.proofs.lemmas.Grind.{common_steps}
use Rattle.cluster_locks.proofs.rows.join_all.Goals as goal

pub loop-other-init : goal.loop-other-init
loop-other-init g c =
    let n : length c.args.others.items ≡ vec_len c.args.others = sym c.args.others.ok.0 in
    let long : length c.args.others.items ≡ length c.args.locks.now = same_length seat_lock lock_of c.args.others.items c.args.locks.now c.requires.other in
    let long' : length c.args.seats.now ≡ length c.args.locks.now = same_length seat_lock lock_of c.args.seats.now c.args.locks.now c.requires.own in record {
      short = omega arith;
      others = take_whole c.args.others.items (vec_len c.args.others) n;
      locks = refl;
      todo = refl;
      done = none_left TakesIn c.args.seats.now c.args.others.items c.args.seats.now (vec_len c.args.others) (omega arith) n (omega arith);
    }

pub take_in-requires-clause-own : goal.take_in-requires-clause-own
take_in-requires-clause-own g c = let inv = c.loop-other.invariant in let k = c.len-k.result in let ls = c.args.locks.now in
    let long : length c.args.others.items ≡ length ls = same_length seat_lock lock_of c.args.others.items ls c.requires.other in
    let one : vec_len c.pop.new.self + 1 ≡ vec_len c.loop-other.others = search rules in
    let here : k ≡ vec_len c.pop.new.self = search rules in
    let short = inv.short in
    same_at seat_lock lock_of c.loop-other.seats ls k _ _ (omega arith) (inv.locks ∙ c.requires.own) (at_read c.loop-other.seats k c.index-seats-k.result c.index-seats-k.is) c.index-locks-k.is

pub take_in-requires-clause-other : goal.take_in-requires-clause-other
take_in-requires-clause-other g c = let inv = c.loop-other.invariant in let k = c.len-k.result in let ls = c.args.locks.now in
    let long : length c.args.others.items ≡ length ls = same_length seat_lock lock_of c.args.others.items ls c.requires.other in
    let one : vec_len c.pop.new.self + 1 ≡ vec_len c.loop-other.others = search rules in
    let here : k ≡ vec_len c.pop.new.self = search rules in
    let short = inv.short in
    let is = popped_at c.args.others.items c.loop-other.others.items (vec_len c.loop-other.others) k c.in-Some.other inv.others (omega arith) (omega arith) (c.in-Some.ensures.value c.in-Some.other (omega arith)) in
    same_at seat_lock lock_of c.args.others.items ls k _ _ (omega arith) c.requires.other is c.index-locks-k.is

pub loop-other-preserved : goal.loop-other-preserved
loop-other-preserved g c = let inv = c.loop-other.invariant in let k = c.len-k.result in let ls = c.args.locks.now in let ps = c.loop-other.seats in
    let n = vec_len c.loop-other.others in
    let os = c.args.others.items in
    let old = c.args.seats.now in
    let long : length os ≡ length ls = same_length seat_lock lock_of os ls c.requires.other in
    let long' : length ps ≡ length ls = same_length seat_lock lock_of ps ls (inv.locks ∙ c.requires.own) in
    let long'' : length old ≡ length ls = same_length seat_lock lock_of old ls c.requires.own in
    let one : vec_len c.pop.new.self + 1 ≡ n = search rules in
    let here : k ≡ vec_len c.pop.new.self = search rules in
    let next : k + 1 ≡ n = omega arith in
    let short = inv.short in
    let inside : k < length ps = omega arith in
    let is = popped_at os c.loop-other.others.items n k c.in-Some.other inv.others (omega arith) (omega arith) (c.in-Some.ensures.value c.in-Some.other (omega arith)) in
    let before = get_or ps k c.index-seats-k.result in
    let at = at_read ps k c.index-seats-k.result c.index-seats-k.is in
    let at_old : before ≡ get_or old k before = at ∙ (sym (get_or-take n ps k before (omega arith)) ∙ (ap (λ l. get_or l k before) inv.todo ∙ get_or-take n old k before (omega arith))) in
    let took : TakesIn before c.in-Some.other c.take_in.new.seat = c.take_in.ensures in
    let done : InStep TakesIn (drop k old) (drop k os) (drop k (set ps k c.take_in.new.seat)) = one_put TakesIn old os ps k n before c.in-Some.other c.take_in.new.seat next inside (rest_at old k n before next (omega arith) at_old) (rest_at os k n c.in-Some.other next (omega arith) is) took inv.done in
    record {
      short = omega arith;
      others = c.pop.ensures.rest ∙ take_fewer os c.loop-other.others.items n (vec_len c.pop.new.self) inv.others (omega arith);
      locks = put_same seat_lock ps k inside _ _ at c.take_in.ensures.same.0 ∙ inv.locks;
      todo = ap (λ i. take i (set ps k c.take_in.new.seat)) (sym here) ∙ (take_put ps old k n c.take_in.new.seat (omega arith) inv.todo ∙ ap (λ i. take i old) here);
      done = subst (λ i. InStep TakesIn (drop i old) (drop i os) (drop i (set ps k c.take_in.new.seat))) here done;
    }

pub returns-clause-taken : goal.returns-clause-taken
returns-clause-taken g c = let z : vec_len c.loop-other.others ≡ 0 = search rules in subst (λ i. InStep TakesIn (drop i c.args.seats.now) (drop i c.args.others.items) (drop i c.loop-other.seats)) z c.loop-other.invariant.done

pub bounds-seats-k : goal.bounds-seats-k
bounds-seats-k c = grind (arith, common_steps)

pub offset_bounds-locks-k : goal.offset_bounds-locks-k
offset_bounds-locks-k c = grind (arith, common_steps)

pub bounds-locks-k : goal.bounds-locks-k
bounds-locks-k c = grind (arith, common_steps)
