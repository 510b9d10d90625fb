use Rattle.std.proofs.Common.{◌≡◌, [], ap, ◌∙◌, arith}
use Rattle.std.proofs.lemmas.Grind.{common_steps}
use Rattle.rules_core.specs.Narrowed.{narrowed}
use Rattle.rules_core.proofs.NarrowSteps.{empty_region, found_nowhere, found_placed}
use Rattle.rules_core.proofs.always.lacking_in.Goals as goal

pub returns-then-is_empty : goal.returns-then-is_empty
returns-then-is_empty c =
    let empty : c.in_ok-narrow_region.narrow_region.items ≡ [] = grind (arith, common_steps) in
    empty_region c.args.pool.now c.args.region.now.grants c.args.entity.now.grants c.in_ok-narrow_region.narrow_region.items (c.in_ok-narrow_region.ensures ∙ ap (narrowed c.args.pool.now) c.grants.ensures.grants) empty

pub returns-in-None : goal.returns-in-None
returns-in-None c =
    found_nowhere c.args.pool.now c.args.region.now.grants c.args.entity.now.grants c.as_slice.result.now c.in_ok-narrow_entity.narrow_entity.grants c.in_ok-found.found
    (c.as_slice.ensures.value ∙ (c.in_ok-narrow_region.ensures ∙ ap (narrowed c.args.pool.now) c.grants.ensures.grants)) c.in_ok-narrow_entity.ensures c.in-None.is c.in_ok-found.ensures

pub returns : goal.returns
returns c =
    found_placed c.args.pool.now c.args.region.now.grants c.args.entity.now.grants c.as_slice.result.now c.in_ok-narrow_entity.narrow_entity.grants c.in_ok-found.found c.in-Some.example c.in_ok-placed-in-Some.field-0
    (c.as_slice.ensures.value ∙ (c.in_ok-narrow_region.ensures ∙ ap (narrowed c.args.pool.now) c.grants.ensures.grants)) c.in_ok-narrow_entity.ensures c.in-Some.is c.in_ok-placed-in-Some.ensures c.in_ok-found.ensures
