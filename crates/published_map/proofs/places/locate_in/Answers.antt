use Rattle.std.proofs.Common.{◌≡◌, ℕ, Some, sym, ◌∙◌, subst}
use Rattle.map_core.specs.Map.{view_at}
use Rattle.published_map.proofs.ActingSets.{has_set}
use Rattle.published_map.proofs.places.locate_in.Goals as goal

pub unreachable-requires : goal.unreachable-requires
unreachable-requires c = has_set c.args.map.now c.args.sought.pool.now c.group_of-group.result c.in-Ok.view
    (subst (λ (epoch : ℕ). view_at c.args.map.now c.args.sought.pool.now epoch ≡ Some c.in-Ok.view) c.epoch.ensures.value c.in-Ok.ensures.view) (sym c.in-None.is ∙ c.acting_set.ensures.members)
