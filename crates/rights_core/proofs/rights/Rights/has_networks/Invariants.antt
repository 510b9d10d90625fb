use Rattle.std.proofs.Common.{◌≡◌, length}
use Rattle.rights_core.specs.Rights.{has_networks, with_networks}
use Rattle.rights_core.proofs.rights.Rights.has_networks.Given as goal

abbrev pub invariant-loop-others : goal.invariant-loop-others
invariant-loop-others l = has_networks (with_networks l.grants l.networks) ≡ has_networks l.self.grants

abbrev pub decreases-loop-others : goal.decreases-loop-others
decreases-loop-others l = length l.grants
