use Rattle.std.proofs.Common.{◌≡◌, ◌⊎◌, Some, sym, subst}
use Rattle.map_core.specs.Map.{view_at}
use Rattle.world_front.specs.Event.{NoPool, OutOfMemory}
use Rattle.world_front.specs.ControlPlane.{error_of, need}
use Rattle.world_front.proofs.Views.{view_refused}
use Rattle.world_front.proofs.asking.view_for.Goals as goal

pub returns-in-Err-clause-refused : goal.returns-in-Err-clause-refused
returns-in-Err-clause-refused c =
    subst (λ f. (f ≡ OutOfMemory) ⊎ (error_of (need (view_at c.args.map.now c.args.pool.now c.args.epoch) NoPool) ≡ Some f)) (sym c.fault_of_view.ensures)
    (view_refused c.args.map.now c.args.pool.now c.args.epoch c.in-Err.fault c.requires.accepted c.requires.past c.in-Err.ensures.refused)
