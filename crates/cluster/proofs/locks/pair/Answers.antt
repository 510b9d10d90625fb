use Rattle.std.proofs.Common.{rules, ◌≡◌, ◌+◌, ◌-◌, Some, take, drop, length, vec_len, arith, sym, ap, ◌∙◌, subst}
use Rattle.std.specs.Prelude.{reverse, slice_index_or}
use Rattle.cluster_locks.specs.Places.{InStep}
use Rattle.cluster_locks.proofs.Places.{popped_at, take_fewer, rest_at, one_built}
use Rattle.std.proofs.lemmas.Grind.{common_steps}
use Rattle.cluster.proofs.locks.pair.Goals as goal

pub loop-row-preserved : goal.loop-row-preserved
loop-row-preserved c = let inv = c.loop-row.invariant in let rs = c.args.rows.items in let ss = c.args.users.items in
    let n = vec_len c.loop-row.rows in let k = vec_len c.pop.new.self in
    let one : k + 1 ≡ n = search rules in
    let same = inv.same in
    let short = inv.short in
    let all : vec_len c.args.users ≡ vec_len c.args.rows = c.requires in
    let long : vec_len c.args.rows ≡ length rs = c.args.rows.ok.0 in
    let long' : vec_len c.args.users ≡ length ss = c.args.users.ok.0 in
    let at = popped_at rs c.loop-row.rows.items n k c.in-Some.row inv.rows (omega arith) (omega arith) (c.in-Some.ensures.value c.in-Some.row (omega arith)) in
    let last : vec_len c.loop-row.users - 1 ≡ n - 1 = omega arith in
    let at' = popped_at ss c.loop-row.users.items n k c.unwrap.result inv.users (omega arith) (omega arith) (sym c.unwrap.ensures ∙ (c.pop-in-Some.ensures.value c.unwrap.result (omega arith) ∙ ap (λ i. Some (slice_index_or c.loop-row.users.items i c.unwrap.result)) last)) in
    record {
      same = search rules;
      short = omega arith;
      rows = c.pop.ensures.rest ∙ take_fewer rs c.loop-row.rows.items n k inv.rows one;
      users = c.pop-in-Some.ensures.rest ∙ (ap (λ i. take i c.loop-row.users.items) last ∙ take_fewer ss c.loop-row.users.items n k inv.users one);
      all = subst (λ z. InStep (λ row seat s. (s.groups.items ≡ row.items) × (s.users ≡ seat)) (drop k rs) (drop k ss) (reverse z)) (sym c.in_ok-push.ensures.items)
          (one_built (λ row seat s. (s.groups.items ≡ row.items) × (s.users ≡ seat)) rs ss c.loop-row.all.items k n c.in-Some.row c.unwrap.result c.of.result one
          (rest_at rs k n c.in-Some.row one (omega arith) at) (rest_at ss k n c.unwrap.result one (omega arith) at') (ap (λ v. v.items) c.of.ensures.0, c.of.ensures.1) inv.all);
    }

pub loop-row-init : goal.loop-row-init
loop-row-init c = grind (arith, common_steps)
