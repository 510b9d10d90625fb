use Rattle.std.proofs.Common.{refl, Some}
use Rattle.cluster_locks.specs.Users.{change_entry, ChangeTells}
use Rattle.cluster.proofs.Held.{pass_turned, same_numbers}
use Rattle.cluster.proofs.cluster.Cluster.auth.Goals as goal

pub returns-in-Ok-clause-pass : goal.returns-in-Ok-clause-pass
returns-in-Ok-clause-pass g c = let old = c.args.pass.now in
    pass_turned change_entry ChangeTells (record { 0 = Some c.args.command }) c.user_turn.result c.args.self.now old _ c.requires c.user_turn.ensures.seats c.user_turn.ensures.turn (same_numbers old.sessions.items old.sessions.items refl) refl

pub returns-in-Err-clause-pass : goal.returns-in-Err-clause-pass
returns-in-Err-clause-pass g c = let old = c.args.pass.now in
    pass_turned change_entry ChangeTells (record { 0 = Some c.args.command }) c.user_turn.result c.args.self.now old _ c.requires c.user_turn.ensures.seats c.user_turn.ensures.turn (same_numbers old.sessions.items old.sessions.items refl) refl
