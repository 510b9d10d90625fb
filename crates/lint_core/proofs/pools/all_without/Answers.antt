use Rattle.std.proofs.Common.{not, arith}
use Rattle.std.specs.List.{list_any}
use Rattle.grant_core.specs.Flat.{flat}
use Rattle.share_core.specs.Pools.{is_for}
use Rattle.lint_core.proofs.Places.{told_next}
use Rattle.std.proofs.lemmas.Grind.{common_steps}
use Rattle.lint_core.proofs.pools.all_without.Goals as goal

pub loop-place-preserved : goal.loop-place-preserved
loop-place-preserved c =
    told_next (λ grants. not (list_any (λ entry. list_any (is_for entry.1) c.args.pools.now) (flat c.args.table.now grants)))
    c.args.grants.now c.loop-place.place c.loop-place.without.items _ c.in_ok-is_without.field-0 (omega arith) c.loop-place.invariant c.in_ok-push.ensures.items c.in_ok-is_without.ensures

pub returns : goal.returns
returns c = grind (arith, common_steps)
