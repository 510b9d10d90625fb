-- Each rule of a copy agrees with that of whole logs.
use Rattle.std.proofs.Common.{ℕ, List, refl, sym, subst}
use Rattle.store_core.specs.Request.{Sealed}
use Rattle.group_model_whole.specs.Copy.{on_body as whole_on_body}
use Rattle.group_model_whole.specs.Types.{Role as WholeRole, Body as WholeBody, Party, Osd, Client}
use Rattle.group_model_whole.specs.Asked.{IsAsked, InLog}
use Rattle.group_model_whole.specs.History.{History, IsSound}
use Rattle.group_model_whole.proofs.Invariant.{CopyOk, BodyOk, Extends}
use Rattle.group_model.specs.Types.{Body, Interval, Query, Info, Install, Installed, Append, Appended, Request, Reply, NotHere, Copy}
use Rattle.peer_core.specs.ActingSets.{others}
use Rattle.peer_core.specs.Copy.{on_body}
use Rattle.group_model.proofs.Agreeing.{BodyAgrees, RoleAgrees, CopyAgrees, StepAgrees, whole}
use Rattle.group_model.proofs.Pasts.{Past-stays, unchosen_before}
use Rattle.group_model.proofs.Stays.{BodyAgrees-stays, RoleAgrees-stays}
use Rattle.group_model.proofs.SuffixServing.{still_agrees, request_agrees}
use Rattle.group_model.proofs.Queries.{query_agrees}
use Rattle.group_model.proofs.Peering.{info_agrees}
use Rattle.group_model.proofs.Intervals.{interval_agrees}
use Rattle.group_model.proofs.Members.{installed_agrees, appended_agrees, append_agrees, install_comes_agrees}

module _ (requests : List Sealed) (z : ℕ) (sets : List (List ℕ)) (d : ℕ) (p : ℕ → ℕ) (h : History) (sound : IsSound p z sets h) (asks : (n : ℕ) → InLog (IsAsked requests) (h.grown n))
    (p' : ℕ → ℕ) (h' : History) (to : Extends sets d p h p' h') (sound' : IsSound p' z sets h') (asks' : (n : ℕ) → InLog (IsAsked requests) (h'.grown n))
    (c : Copy) (r : WholeRole) (ok : CopyOk z sets p h d (whole c r)) (a : RoleAgrees p h c.promise c.log (others c) c.role r) where
  later_role : RoleAgrees p' h' c.promise c.log (others c) c.role r
  later_role = RoleAgrees-stays p h p' h' (Past-stays sets d p h p' h' to) (unchosen_before sets d p h p' h' to) c.promise c.log (others c) c.role r a

  unchanged : CopyAgrees p' h' c (whole c r)
  unchanged = record { role = r; is = refl; agrees = later_role }

  abbrev pub Comes : Body → WholeBody → Party → Type 0
  Comes b w from = BodyOk sets p h from w → CopyOk z sets p' h' d (whole_on_body w (whole c r) from).copy → StepAgrees p' h' (on_body b c from) (whole_on_body w (whole c r) from)

  pub comes_agrees : (b : Body) (w : WholeBody) (from : Party) → BodyAgrees p h from (Osd d) b w → Comes b w from
  comes_agrees (Interval known) w from agrees = subst (λ v. Comes (Interval known) v from) (sym agrees)
      (λ good ok'. interval_agrees requests z sets d p h sound asks p' h' c r known ok.state unchanged good ok')
  comes_agrees (Query n len end) w from agrees = subst (λ v. Comes (Query n len end) v from) (sym agrees.0)
      (λ good ok'. query_agrees requests z sets d p' h' sound' asks' c r from n len end ok.state.number later_role
      (BodyAgrees-stays p h p' h' (Past-stays sets d p h p' h' to) (unchosen_before sets d p h p' h' to) from (Osd d) (Query n len end) w agrees).1 ok')
  comes_agrees (Info n base start part) w Client agrees = subst (λ v. Comes (Info n base start part) v Client) (sym agrees.is) (λ good ok'. still_agrees p' h' c (whole c r) unchanged)
  comes_agrees (Info n base start part) w (Osd m) agrees = subst (λ v. Comes (Info n base start part) v (Osd m)) (sym agrees.is)
      (λ good ok'. info_agrees requests z sets d p h sound asks p' h' (Past-stays sets d p h p' h' to) (unchosen_before sets d p h p' h' to) c r ok a n m base start part agrees.log good agrees.agrees)
  comes_agrees (Install n start part) w from agrees = subst (λ v. Comes (Install n start part) v from) (sym agrees.is)
      (λ good ok'. install_comes_agrees requests z sets d p h sound asks c r ok n start part agrees.log good.1 agrees.agrees p' h' from later_role)
  comes_agrees (Installed n) w Client agrees = subst (λ v. Comes (Installed n) v Client) (sym agrees) (λ good ok'. still_agrees p' h' c (whole c r) unchanged)
  comes_agrees (Installed n) w (Osd m) agrees = subst (λ v. Comes (Installed n) v (Osd m)) (sym agrees) (λ good ok'. installed_agrees p' h' c r unchanged c.role n m later_role)
  comes_agrees (Append n place s) w from agrees = subst (λ v. Comes (Append n place s) v from) (sym agrees)
      (λ good ok'. append_agrees z sets d p h p' h' (λ k log is. (to.chosen k log is).0) c r ok from n place s later_role ok')
  comes_agrees (Appended n place) w Client agrees = subst (λ v. Comes (Appended n place) v Client) (sym agrees) (λ good ok'. still_agrees p' h' c (whole c r) unchanged)
  comes_agrees (Appended n place) w (Osd m) agrees = subst (λ v. Comes (Appended n place) v (Osd m)) (sym agrees) (λ good ok'. appended_agrees p' h' c r unchanged c.role n place m later_role)
  comes_agrees (Request s) w from agrees = subst (λ v. Comes (Request s) v from) (sym agrees) (λ good ok'. request_agrees p' h' c r s later_role)
  comes_agrees (Reply id reply) w from agrees = subst (λ v. Comes (Reply id reply) v from) (sym agrees) (λ good ok'. still_agrees p' h' c (whole c r) unchanged)
  comes_agrees (NotHere id) w from agrees = subst (λ v. Comes (NotHere id) v from) (sym agrees) (λ good ok'. still_agrees p' h' c (whole c r) unchanged)
