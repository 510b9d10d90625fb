use Rattle.std.proofs.Common.{◌∙◌, ◌++◌, ◌∷◌, [], ap, sym, append_assoc, map, arith}
use Rattle.std.specs.List.{range_with_len}
use Rattle.std.proofs.lemmas.List.FromFn.{map-range_with_len_more}
use Rattle.world_script.specs.Script.{place}
use Rattle.world_script.proofs.groups.push_groups.Goals as goal

pub loop-number-preserved : goal.loop-number-preserved
loop-number-preserved c =
    let more = map-range_with_len_more (place c.args.pool.now.name) 0 c.loop-number.number c.loop-number.number (omega arith) in
    let old = c.args.groups.now.items in
    let before = map (place c.args.pool.now.name) (range_with_len 0 c.loop-number.number) in
    c.in_ok-push.ensures.items
    ∙ ap (λ gs. gs ++ place c.in_ok-pool.pool c.loop-number.number ∷ []) c.loop-number.invariant
    ∙ append_assoc old before (place c.in_ok-pool.pool c.loop-number.number ∷ [])
    ∙ ap (λ p. old ++ (before ++ place p c.loop-number.number ∷ [])) c.in_ok-pool.ensures
    ∙ ap (λ gs. old ++ gs) (sym more)
