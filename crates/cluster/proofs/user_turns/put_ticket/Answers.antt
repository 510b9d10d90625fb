use Rattle.std.proofs.Common.{◌≡◌, ◌==◌, ◌≤◌, ◌<◌, true, Some, length, get_or, arith, sym, ap, ◌∙◌, subst}
use Rattle.std.specs.Prelude.{slice_get}
use Rattle.std.proofs.lemmas.Option.{slice_get-get_or}
use Rattle.world_front.specs.declared.session.Session.{Session}
use Rattle.cluster.specs.declared.pass.OwnSession.{OwnSession}
use Rattle.cluster.specs.Sessions.{own_session_at}
use Rattle.cluster_locks.proofs.Places.{get_at}
use Rattle.cluster.proofs.OwnNumbers.{NoneBefore, is_same, not_same, none_next, changed_at, none_changed}
use Rattle.cluster.proofs.user_turns.put_ticket.Goals as goal

pub returns-then-sessions-k : goal.returns-then-sessions-k
returns-then-sessions-k c =
    let own = c.loop-k.sessions in let k = c.loop-k.k in let n = c.args.number in
    let change : Session → Session = λ s. record s { ticket = c.args.ticket } in
    let long : length own ≡ length c.args.sessions.now = ap length c.loop-k.invariant.same in
    let below : k < length c.args.sessions.now = c.loop-k-test.true in
    let inside : k < length own = omega arith in
    let r = c.index-sessions-k.result in
    let o = get_or own k c.index-sessions-k-then-sessions-k.result in
    let at : slice_get own k ≡ Some o = slice_get-get_or own k c.index-sessions-k-then-sessions-k.result inside in
    let both : Some r ≡ Some o = sym (get_at own k r inside c.index-sessions-k.is) ∙ at in
    let same : r ≡ o = cc in
    let is : (o.number == n) ≡ true = is_same o.number n (ap (λ (q : OwnSession). q.number) (sym same ∙ c.index-sessions-k.is) ∙ c.if-sessions-k.true) in
    sym (changed_at own n k o change at is (subst (λ l. NoneBefore l n k) (sym c.loop-k.invariant.same) c.loop-k.invariant.none))
    ∙ ap (λ l. own_session_at l n change) c.loop-k.invariant.same

pub loop-k-preserved : goal.loop-k-preserved
loop-k-preserved c =
    let own = c.loop-k.sessions in let k = c.loop-k.k in let n = c.args.number in
    let long : length own ≡ length c.args.sessions.now = ap length c.loop-k.invariant.same in
    let below : k < length c.args.sessions.now = c.loop-k-test.true in
    let inside : k < length own = omega arith in
    let r = c.index-sessions-k.result in
    let at = get_at own k r inside c.index-sessions-k.is in record {
      same = c.loop-k.invariant.same;
      none = none_next c.args.sessions.now n k r (ap (λ l. slice_get l k) (sym c.loop-k.invariant.same) ∙ at) (not_same r.number n (λ e. c.if-sessions-k.false (ap (λ (q : OwnSession). q.number) (sym c.index-sessions-k.is) ∙ e))) c.loop-k.invariant.none;
    }

pub returns : goal.returns
returns c =
    let own = c.args.sessions.now in let n = c.args.number in
    let change : Session → Session = λ s. record s { ticket = c.args.ticket } in
    let past : length own ≤ c.loop-k.k = omega arith in
    c.loop-k.invariant.same ∙ sym (none_changed own n change (λ j o h at. c.loop-k.invariant.none j o (omega arith) at))
