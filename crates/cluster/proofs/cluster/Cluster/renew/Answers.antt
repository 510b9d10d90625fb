use Rattle.std.proofs.Common.{◌≡◌, Some, Ok, length, sym, ap, ◌∙◌, refl, subst}
use Rattle.std.specs.Vec.{with_items}
use Rattle.std.proofs.lemmas.List.{with_items_is}
use Rattle.world_front.specs.declared.session.Session.{Session}
use Rattle.cluster.specs.Sessions.{own_session, own_session_at}
use Rattle.cluster_locks.specs.Users.{renew_entry, RenewTells}
use Rattle.cluster.specs.UserTurns.{RenewTurn}
use Rattle.cluster.proofs.OwnNumbers.{same_count}
use Rattle.cluster.proofs.Held.{pass_turned, same_numbers, renewed_numbers}
use Rattle.cluster.proofs.cluster.Cluster.renew.Goals as goal

pub returns-in-Ok-clause-pass : goal.returns-in-Ok-clause-pass
returns-in-Ok-clause-pass g c =
    let old = c.args.pass.now in
    let change : Session → Session = λ s. record s { ticket = c.in-Ok.ticket } in
    let own = old.sessions.items in
    let put = c.put_ticket.new.sessions in
    let wrote : put ≡ own_session_at own c.args.session change = c.put_ticket.ensures ∙ ap (λ l. own_session_at l c.args.session change) c.as_mut_slice.ensures.value in
    let items = with_items_is old.sessions put (ap length wrote ∙ (same_count own c.args.session change ∙ sym old.sessions.ok.0)) ∙ wrote in
    pass_turned renew_entry RenewTells _ c.user_turn.result c.args.self.now old (record old { seats = c.user_turn.new.seats; sessions = with_items old.sessions put }) c.requires c.user_turn.ensures.seats c.user_turn.ensures.turn
    (renewed_numbers change (λ s. refl) own (with_items old.sessions put).items c.args.session items) refl

pub returns-in-Err-clause-pass : goal.returns-in-Err-clause-pass
returns-in-Err-clause-pass g c = let old = c.args.pass.now in
    pass_turned renew_entry RenewTells _ c.user_turn.result c.args.self.now old _ c.requires c.user_turn.ensures.seats c.user_turn.ensures.turn
    (same_numbers old.sessions.items old.sessions.items refl) refl

pub returns-in-Ok-clause-renews : goal.returns-in-Ok-clause-renews
returns-in-Ok-clause-renews g c own found =
    let old = c.args.pass.now in
    let new = record old { seats = c.user_turn.new.seats } in
    let n = c.args.session in
    let there : own_session old.sessions.items n ≡ Some c.in-Some.own.now = ap (λ l. own_session l n) (sym c.as_slice.ensures.value) ∙ c.in-Some.ensures in
    let both : Some own ≡ Some c.in-Some.own.now = sym found ∙ there in
    let same : own ≡ c.in-Some.own.now = cc in
    let name : c.in_ok-name.name ≡ own.entity = c.in_ok-name.ensures ∙ ap (λ (s : Session). s.entity) (sym same) in
    let change : Session → Session = λ s. record s { ticket = c.in-Ok.ticket } in
    let put = c.put_ticket.new.sessions in
    let wrote : put ≡ own_session_at old.sessions.items n change = c.put_ticket.ensures ∙ ap (λ l. own_session_at l n change) c.as_mut_slice.ensures.value in
    let turn = subst (λ a. RenewTurn c.args.self.now c.in_ok-name.name c.args.until old new a) c.in-Ok.is c.user_turn.ensures.turn in (
      c.in-Ok.ticket,
      subst (λ e. RenewTurn c.args.self.now e c.args.until old new (Ok c.in-Ok.ticket)) name turn,
      with_items_is old.sessions put (ap length wrote ∙ (same_count old.sessions.items n change ∙ sym old.sessions.ok.0)) ∙ wrote,
      refl,
    )
