-- Settling only adds.
use Rattle.std.proofs.Common.{ℕ, ◌≡◌, [], replicate, sym, ◌∙◌, subst}
use Rattle.std.specs.Prelude.{Some}
use Rattle.group_model_whole.specs.Types.{EntryReply}
use Rattle.group_model_whole.specs.History.{Begins}
use Rattle.group_model.specs.Group.{Group, Deliver, settle, answer_of}
use Rattle.group_model.proofs.Runs.{settle_is_run}
use Rattle.group_model.proofs.Additions.{audit_grows, answer_stands}

pub settle_grows : (g new : Group) (n : ℕ) → new ≡ settle n g → Begins g.audit new.audit
settle_grows g new n is = subst (λ (v : Group). Begins g.audit v.audit) (sym (is ∙ settle_is_run n [] g)) (audit_grows [] (replicate n (Deliver 0)) g)

pub settle_stands : (g new : Group) (n : ℕ) → new ≡ settle n g → (id : ℕ) (reply : EntryReply) → answer_of g.answers id ≡ Some reply → answer_of new.answers id ≡ Some reply
settle_stands g new n is id reply was = subst (λ (v : Group). answer_of v.answers id ≡ Some reply) (sym (is ∙ settle_is_run n [] g)) (answer_stands id reply [] (replicate n (Deliver 0)) g was)
