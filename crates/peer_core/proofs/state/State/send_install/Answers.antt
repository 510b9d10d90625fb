use Rattle.std.proofs.Common.{◌==◌, ◌++◌, not, ℕ, Bool, [], ◌∷◌, slice_index_or}
use Rattle.std.proofs.Common.{ap, ◌∙◌, sym}
use Rattle.peer_core.proofs.Passing.{sends, passes, is_other, is_itself, counts}
use Rattle.entry_core.specs.Log.{is_in}
use Rattle.peer_core.specs.Types as types
use Rattle.group_messages.specs.Beginnings.{count_at}
use Rattle.peer_core.specs.Copy.{install_from}
use Rattle.peer_core.specs.Fittings.{becomes}
use Rattle.peer_core.proofs.state.State.send_install.Goals as goal
use Rattle.peer_core.proofs.state.State.send_install.Goals.{then-member-self+then-not-has_member+in_ok-install_for+in_ok-push, else-member-self, else-member-self-via-then-member-self+else-not-has_member, else-member-self-via-else-member-self}

pub loop-member-preserved : goal.loop-member-preserved
loop-member-preserved c =
    let others : ℕ → Bool = λ m. not (m == c.args.self.now.number) in
    let missing : ℕ → Bool = λ m. not (is_in c.args.done.now m) in
    let message : ℕ → types.Sent = λ m. install_from c.args.self.now (becomes c.args.fitting.now) m (count_at c.args.common.now m) in
    elim c.if-member-self.branch [
      | then-member-self+then-not-has_member+in_ok-install_for+in_ok-push w ↦
          w.sent-is ∙ w.in_ok-push.ensures.ok ∙ ap (λ m. c.loop-member.sent ++ m ∷ []) (w.in_ok-install_for.ensures ∙ ap (λ n. install_from c.args.self.now (becomes c.args.fitting.now) (slice_index_or c.set-member-items.result.now c.loop-member.member-index 0) n) w.count_at-start.ensures)
          ∙ sends others missing message c.args.sent.now c.loop-member.sent c.set-member-items.result.now c.loop-member.member-index c.loop-member-test.true c.loop-member.invariant (is_other _ _ w.if-member-self.true) (sym (ap not w.if-not-has_member.ensures))
      | else-member-self w ↦
          w.sent-is ∙ passes others missing message c.args.sent.now c.loop-member.sent c.set-member-items.result.now c.loop-member.member-index c.loop-member-test.true c.loop-member.invariant
          (elim w.else-member-self.branch [
            | else-member-self-via-then-member-self+else-not-has_member v ↦ counts _ _ v.if-not-has_member.ensures
            | else-member-self-via-else-member-self v ↦ is_itself _ _ _ v.if-member-self.false
          ])
    ]
