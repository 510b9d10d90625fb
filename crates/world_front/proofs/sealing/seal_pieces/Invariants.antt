use Rattle.std.proofs.Common.{◌≡◌, map}
use Rattle.std.specs.List.{range_with_len}
use Rattle.store_core.specs.Request.{Listing}
use Rattle.world_front.specs.ControlPlane.{sealed_of}
use Rattle.world_front.proofs.sealing.seal_pieces.Given as goal

abbrev pub invariant-loop-group : goal.invariant-loop-group
invariant-loop-group l = l.all ≡ map (λ n. sealed_of l.ask (record { session = l.asker.session.now; view = l.asker.view }) Listing n n) (range_with_len 0 l.group)
