use Rattle.std.proofs.Common.{arith, [], ◌∷◌, ◌++◌, ap, ◌∙◌, refl}
use Rattle.world_front.specs.declared.session.Session.{Session}
use Rattle.cluster.specs.declared.pass.OwnSession.{OwnSession}
use Rattle.cluster_locks.specs.Users.{open_entry, OpenTells}
use Rattle.cluster.proofs.Held.{pass_turned, same_numbers, opened_numbers}
use Rattle.std.proofs.lemmas.Grind.{common_steps}
use Rattle.cluster.proofs.cluster.Cluster.open.Goals as goal

pub returns-in-Ok-clause-pass : goal.returns-in-Ok-clause-pass
returns-in-Ok-clause-pass g c =
    let old = c.args.pass.now in
    let o : OwnSession = record { number = c.in-Ok.number; session = c.new.result } in
    let items = c.push_reserved.ensures.items ∙ ap (λ l. l ++ o ∷ []) c.reserve.ensures.items in
    pass_turned open_entry OpenTells _ c.user_turn.result c.args.self.now old _ c.requires c.user_turn.ensures.seats c.user_turn.ensures.turn
    (opened_numbers o old.sessions.items c.push_reserved.new.self.items (ap (λ (s : Session). s.next) c.new.ensures) items) refl

pub returns-in-Err-clause-pass : goal.returns-in-Err-clause-pass
returns-in-Err-clause-pass g c = let old = c.args.pass.now in
    pass_turned open_entry OpenTells _ c.user_turn.result c.args.self.now old _ c.requires c.user_turn.ensures.seats c.user_turn.ensures.turn
    (same_numbers old.sessions.items c.reserve.new.self.items c.reserve.ensures.items) refl

pub push_reserved-requires : goal.push_reserved-requires
push_reserved-requires c = grind (arith, common_steps)
