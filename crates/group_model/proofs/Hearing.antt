-- A copy of each group hears a message.
use Rattle.std.proofs.Common.{ℕ, ◌≡◌, List, ◌++◌, sym, ◌∙◌, ap, subst, inl, inr}
use Rattle.std.specs.Prelude.{Some, slice_get, slice_set}
use Rattle.std.proofs.lemmas.Bool.{cases_eq}
use Rattle.store_core.specs.Request.{Sealed}
use Rattle.store_core.specs.declared.entry.Entry.{Entry}
use Rattle.group_model_whole.specs.Copy.{on_body as whole_on_body}
use Rattle.group_model_whole.specs.Decided.{decided_by as whole_decided_by}
use Rattle.group_model_whole.specs.Steps.{Stepped as WholeStepped}
use Rattle.group_model_whole.specs.Types.{Role as WholeRole, Idle as WholeIdle, Peering as WholePeering, Installing as WholeInstalling, Active as WholeActive, Daemon, Body as WholeBody, Sent as WholeSent, Party, Osd}
use Rattle.group_model_whole.specs.Asked.{IsAsked, InLog, InCopy, InBody}
use Rattle.group_model_whole.specs.History.{History}
use Rattle.group_model_whole.proofs.Asks.{comes_in}
use Rattle.group_model_whole.proofs.Eaches.{Each-append, Each-weaker}
use Rattle.group_model_whole.proofs.Invariant.{RoleOk, CopyOk, BodyOk, SentOk}
use Rattle.group_model_whole.proofs.Leading.{IsLeading}
use Rattle.group_model_whole.proofs.Rules.{After, comes_after}
use Rattle.group_model_whole.proofs.Stable.{CopyOk-stays, BodyOk-stays}
use Rattle.group_model_whole.proofs.Groups.{get-set_same, get-set_other}
use Rattle.group_model.specs.Types.{Body, Sent, Role, Idle, Peering, Installing, Active, Copy}
use Rattle.peer_core.specs.Steps.{Stepped}
use Rattle.peer_core.specs.ActingSets.{others}
use Rattle.peer_core.specs.Decided.{decided_by}
use Rattle.peer_core.specs.Copy.{on_body}
use Rattle.group_model.proofs.Agreeing.{BodyAgrees, SentAgrees, RoleAgrees, CopyAgrees, StepAgrees}
use Rattle.group_model.proofs.Lists.{Both-append, Both-set, Both-weaker}
use Rattle.group_model.proofs.Pasts.{Past-stays, unchosen_before}
use Rattle.group_model.proofs.Stays.{SentAgrees-stays, CopyAgrees-stays}
use Rattle.group_model.proofs.Rules.{comes_agrees}
use Rattle.group_model.proofs.Locked.{Facts}

-- both show the same to be decided
shown_as : (p : ℕ → ℕ) (h : History) (n : ℕ) (log : List Entry) (members : List ℕ) (q : Role) (r : WholeRole) → RoleAgrees p h n log members q r → decided_by q log ≡ whole_decided_by r log
shown_as p h n log members Idle r is = ap (λ v. whole_decided_by v log) (sym is)
shown_as p h n log members (Peering informed) r is = ap (λ v. whole_decided_by v log) (sym is.is)
shown_as p h n log members (Installing done common) r is = ap (λ v. whole_decided_by v log) (sym is.0)
shown_as p h n log members (Active flight) r is = ap (λ v. whole_decided_by v log) (sym is)

pub shown_same : (p : ℕ → ℕ) (h : History) (c : Copy) (w : Daemon) → CopyAgrees p h c w → decided_by c.role c.log ≡ whole_decided_by w.role w.log
shown_same p h c w a = shown_as p h c.promise c.log (others c) c.role a.role a.agrees ∙ ap (λ (v : Daemon). whole_decided_by v.role v.log) (sym a.is)

-- a copy that has chosen has its interval's log
grown_is : (z : ℕ) (sets : List (List ℕ)) (p : ℕ → ℕ) (h : History) (d : ℕ) (c : Daemon) (r : WholeRole) → RoleOk z sets p h d c r → IsLeading r → c.log ≡ h.grown c.promise
grown_is z sets p h d c WholeIdle ok leads = absurd leads
grown_is z sets p h d c (WholePeering infos) ok leads = absurd leads
grown_is z sets p h d c (WholeInstalling done) ok leads = ok.owns.whole
grown_is z sets p h d c (WholeActive flight) ok leads = ok.0.whole

pub record Heard (z : ℕ) (sets : List (List ℕ)) (requests : List Sealed) (cs : List Copy) (ss : List Sent) (ws : List Daemon) (ms : List WholeSent) (d : ℕ) (s : Stepped) (s' : WholeStepped) : Type 0 where
  pub facts : Facts z sets requests (slice_set cs d s.copy) (ss ++ s.sent) (slice_set ws d s'.copy) (ms ++ s'.sent)
  pub shown : decided_by s.copy.role s.copy.log ≡ whole_decided_by s'.copy.role s'.copy.log

module _ (z : ℕ) (sets : List (List ℕ)) (requests : List Sealed) (cs : List Copy) (ss : List Sent) (ws : List Daemon) (ms : List WholeSent) (f : Facts z sets requests cs ss ws ms)
    (d : ℕ) (c : Copy) (w : Daemon) (here : slice_get ws d ≡ Some w) (agrees : CopyAgrees f.promise f.h c w) (asked : InCopy (IsAsked requests) w) where
  pub after : (b : WholeBody) (from : Party) → BodyOk sets f.promise f.h from b → After z sets f.promise f.h d (whole_on_body b w from)
  after b from good = comes_after z sets d b f.promise f.h w from f.sound (f.copies_ok d w here) good

  module _ (b : Body) (b' : WholeBody) (from : Party) (says : BodyAgrees f.promise f.h from (Osd d) b b') (asks : InBody (IsAsked requests) b') (a : After z sets f.promise f.h d (whole_on_body b' w from)) (good : BodyOk sets f.promise f.h from b') where
    pub next_asked : (n : ℕ) → InLog (IsAsked requests) (a.h'.grown n)
    next_asked n = elim (a.only n) [
      | inl same ↦ subst (λ l. InLog (IsAsked requests) l) (sym same) (f.asked n)
      | inr grew ↦ (
          let s = whole_on_body b' w from in
          let inside = comes_in (IsAsked requests) b' w from asked asks in
          let is : s.copy.log ≡ a.h'.grown s.copy.promise = grown_is z sets a.promise' a.h' d s.copy s.copy.role a.copy.role grew.1 in
          subst (λ v. InLog (IsAsked requests) (a.h'.grown v)) (sym grew.0) (subst (λ l. InLog (IsAsked requests) l) is inside.copy.log))
    ]

    pub step : StepAgrees a.promise' a.h' (on_body b c from) (whole_on_body b' w from)
    step =
        let P : Daemon → Type 0 = λ v. CopyOk z sets f.promise f.h d v → CopyOk z sets a.promise' a.h' d (whole_on_body b' v from).copy → StepAgrees a.promise' a.h' (on_body b c from) (whole_on_body b' v from) in
        subst P (sym agrees.is)
        (λ ok ok'. comes_agrees requests z sets d f.promise f.h f.sound f.asked a.promise' a.h' a.to a.sound next_asked c agrees.role ok agrees.agrees b b' from says good ok')
        (f.copies_ok d w here) a.copy

    heard_by : Heard z sets requests cs ss ws ms d (on_body b c from) (whole_on_body b' w from)
    heard_by =
        let s = on_body b c from in
        let s' = whole_on_body b' w from in
        record {
          facts = record {
            promise = a.promise';
            h = a.h';
            sound = a.sound;
            copies_ok = λ e v is. (elim (cases_eq e d) [
              | inl same ↦ (
                  let there : slice_get (slice_set ws d s'.copy) d ≡ Some s'.copy = get-set_same ws d w s'.copy here in
                  let is' : slice_get (slice_set ws d s'.copy) d ≡ Some v = subst (λ i. slice_get (slice_set ws d s'.copy) i ≡ Some v) same is in
                  let agree : s'.copy ≡ v = cc in
                  subst (λ i. CopyOk z sets a.promise' a.h' i v) (sym same) (subst (λ x. CopyOk z sets a.promise' a.h' d x) agree a.copy))
              | inr other ↦ CopyOk-stays z sets d f.promise f.h a.promise' a.h' a.to e v other (f.copies_ok e v (sym (get-set_other ws d e s'.copy other) ∙ is))
            ]);
            wire_ok = Each-append (SentOk sets a.promise' a.h') ms s'.sent
                (Each-weaker (SentOk sets f.promise f.h) (SentOk sets a.promise' a.h') (λ v. BodyOk-stays z sets d f.promise f.h a.promise' a.h' a.to v.from v.body) ms f.wire_ok) a.sent;
            asked = next_asked;
            copies = Both-set (CopyAgrees a.promise' a.h') cs ws d s.copy s'.copy
                (Both-weaker (CopyAgrees f.promise f.h) (CopyAgrees a.promise' a.h') (CopyAgrees-stays f.promise f.h a.promise' a.h' (Past-stays sets d f.promise f.h a.promise' a.h' a.to) (unchosen_before sets d f.promise f.h a.promise' a.h' a.to)) cs ws f.copies)
                step.copy;
            wire = Both-append (SentAgrees a.promise' a.h') ss ms s.sent s'.sent
                (Both-weaker (SentAgrees f.promise f.h) (SentAgrees a.promise' a.h') (SentAgrees-stays f.promise f.h a.promise' a.h' (Past-stays sets d f.promise f.h a.promise' a.h' a.to) (unchosen_before sets d f.promise f.h a.promise' a.h' a.to)) ss ms f.wire)
                step.sent;
          };
          shown = shown_same a.promise' a.h' s.copy s'.copy step.copy;
        }

  pub heard : (b : Body) (b' : WholeBody) (from : Party) → BodyAgrees f.promise f.h from (Osd d) b b' → InBody (IsAsked requests) b' → BodyOk sets f.promise f.h from b' → Heard z sets requests cs ss ws ms d (on_body b c from) (whole_on_body b' w from)
  heard b b' from says asks good = heard_by b b' from says asks (after b' from good) good
