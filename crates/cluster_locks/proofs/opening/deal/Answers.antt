use Rattle.std.proofs.Common.{rules, ◌≡◌, ◌+◌, ◌-◌, [], ◌∷◌, ◌++◌, Some, take, drop, length, vec_len, arith, sym, ap, ◌∙◌, subst}
use Rattle.std.specs.Prelude.{reverse, slice_index_or}
use Rattle.cluster_locks.specs.Places.{InStep}
use Rattle.cluster_locks.proofs.Places.{popped_at, take_fewer, rest_at, one_built}
use Rattle.std.proofs.lemmas.Grind.{common_steps}
use Rattle.cluster_locks.proofs.opening.deal.Goals as goal

pub loop-row-preserved : goal.loop-row-preserved
loop-row-preserved g c = let inv = c.loop-row.invariant in let rs = c.args.rows.items in let ss = c.args.seats.items in
    let n = vec_len c.loop-row.rows in let k = vec_len c.pop.new.self in
    let one : k + 1 ≡ n = search rules in
    let same = inv.same in
    let short = inv.short in
    let all : vec_len c.args.seats ≡ vec_len c.args.rows = c.requires in
    let long : vec_len c.args.rows ≡ length rs = c.args.rows.ok.0 in
    let long' : vec_len c.args.seats ≡ length ss = c.args.seats.ok.0 in
    let at = popped_at rs c.loop-row.rows.items n k c.in-Some.row inv.rows (omega arith) (omega arith) (c.in-Some.ensures.value c.in-Some.row (omega arith)) in
    let last : vec_len c.loop-row.seats - 1 ≡ n - 1 = omega arith in
    let at' = popped_at ss c.loop-row.seats.items n k c.unwrap.result inv.seats (omega arith) (omega arith) (sym c.unwrap.ensures ∙ (c.pop-in-Some.ensures.value c.unwrap.result (omega arith) ∙ ap (λ i. Some (slice_index_or c.loop-row.seats.items i c.unwrap.result)) last)) in
    record {
      same = search rules;
      short = omega arith;
      rows = c.pop.ensures.rest ∙ take_fewer rs c.loop-row.rows.items n k inv.rows one;
      seats = c.pop-in-Some.ensures.rest ∙ (ap (λ i. take i c.loop-row.seats.items) last ∙ take_fewer ss c.loop-row.seats.items n k inv.seats one);
      dealt = subst (λ z. InStep (λ row seat longer. longer.items ≡ row.items ++ seat ∷ []) (drop k rs) (drop k ss) (reverse z)) (sym c.in_ok-push-2.ensures.items)
          (one_built (λ row seat longer. longer.items ≡ row.items ++ seat ∷ []) rs ss c.loop-row.dealt.items k n c.in-Some.row c.unwrap.result c.push.new.self one
          (rest_at rs k n c.in-Some.row one (omega arith) at) (rest_at ss k n c.unwrap.result one (omega arith) at') c.in_ok-push.ensures.items inv.dealt);
    }

pub loop-row-init : goal.loop-row-init
loop-row-init c = grind (arith, common_steps)
