-- Each log that a step fits to a part fits.
use Rattle.std.proofs.Common.{ℕ, ◌≡◌, Bool, true, false, nat_lt, List, length, refl, subst, if◌then◌else◌}
use Rattle.std.specs.Prelude.{Option, Some, None, slice_get}
use Rattle.std.proofs.lemmas.Bool.{ltb-true, ltb-false}
use Rattle.store_core.specs.Request.{Sealed}
use Rattle.entry_core.specs.Fitting.{can_fit}
use Rattle.group_model_whole.specs.Types.{Role as WholeRole, Daemon, Body as WholeBody, Info as WholeInfo, Install as WholeInstall, Sent as WholeSent, Party, Osd, Client}
use Rattle.group_model_whole.specs.Asked.{IsAsked, InLog}
use Rattle.group_model_whole.specs.Group.{run as whole_run, start as whole_start}
use Rattle.group_model_whole.specs.History.{History, IsSound}
use Rattle.group_model_whole.proofs.Eaches.{Each-get}
use Rattle.group_model_whole.proofs.Invariant.{CopyOk, BodyOk, SentOk}
use Rattle.group_model.specs.Types.{Body, Interval, Query, Info, Install, Installed, Append, Appended, Request, Reply, NotHere, Sent, Copy}
use Rattle.peer_core.specs.ActingSets.{others}
use Rattle.group_model.specs.Group.{Group, run, start}
use Rattle.group_model.specs.Fits.{Fit, info_fit_as, info_fit, install_fit, fit_at, FitsAnswerTrue}
use Rattle.group_model.specs.Refinement.{FitAnswersTrue}
use Rattle.group_model.proofs.Agreeing.{BodyAgrees, SentAgrees, RoleAgrees, CopyAgrees, whole}
use Rattle.group_model.proofs.Lists.{IfBoth, Both-get}
use Rattle.group_model.proofs.Choosing.{can_fit_by}
use Rattle.group_model.proofs.Peering.{info_fits}
use Rattle.group_model.proofs.Intervals.{interval_fits}
use Rattle.group_model.proofs.Members.{install_fits}
use Rattle.group_model.proofs.Locked.{Facts}
use Rattle.group_model.proofs.Events.{reached_locked}

module _ (requests : List Sealed) (z : ℕ) (sets : List (List ℕ)) (d : ℕ) (p : ℕ → ℕ) (h : History) (sound : IsSound p z sets h) (asks : (n : ℕ) → InLog (IsAsked requests) (h.grown n))
    (c : Copy) (r : WholeRole) (ok : CopyOk z sets p h d (whole c r)) (a : RoleAgrees p h c.promise c.log (others c) c.role r) (f : Fit) where
  install_can : (n start : ℕ) (part : List Sealed) (w : WholeBody) (from : Party) → BodyAgrees p h from (Osd d) (Install n start part) w → BodyOk sets p h from w → install_fit c n start part ≡ Some f → can_fit c.log f.start f.part ≡ true
  install_can n start part w from says good is = go (nat_lt n c.promise) (nat_lt c.base n) refl refl is
    where
      good' : BodyOk sets p h from (WholeInstall n says.log)
      good' = subst (λ v. BodyOk sets p h from v) says.is good

      go : (b q : Bool) → nat_lt n c.promise ≡ b → nat_lt c.base n ≡ q → (if b then None else (if q then Some (record { start = start; part = part }) else None)) ≡ Some f → can_fit c.log f.start f.part ≡ true
      go true q early based is = absurd (cc)
      go false false early based is = absurd (cc)
      go false true early based is =
          let one : Fit = record { start = start; part = part } in
          let same : one ≡ f = cc in
          subst (λ (v : Fit). can_fit c.log v.start v.part ≡ true) same
          (can_fit_by c.log says.log start part (install_fits requests z sets d p h sound asks c r ok n start part says.log good'.1 says.agrees (ltb-false n c.promise early) (ltb-true c.base n based)))

  info_can : (n base start : ℕ) (part : List Sealed) (w : WholeBody) (m : ℕ) → BodyAgrees p h (Osd m) (Osd d) (Info n base start part) w → BodyOk sets p h (Osd m) w → info_fit (Osd m) c n base start part ≡ Some f → can_fit c.log f.start f.part ≡ true
  info_can n base start part w m says good is = go (nat_lt (length c.log) start) is
    where
      good' : BodyOk sets p h (Osd m) (WholeInfo n base says.log)
      good' = subst (λ v. BodyOk sets p h (Osd m) v) says.is good

      go : (b : Bool) → (if b then None else info_fit_as c.role c n (record { number = m; base = base; start = start; part = part })) ≡ Some f → can_fit c.log f.start f.part ≡ true
      go true is = absurd (cc)
      go false is = info_fits requests z sets d p h sound asks p h (λ m n log past. past) (λ n none. none) c r ok a n m base start part says.log good' says.agrees c.role a f is

  fit_can : (b : Body) (w : WholeBody) (from : Party) → BodyAgrees p h from (Osd d) b w → BodyOk sets p h from w → fit_at b c from ≡ Some f → can_fit c.log f.start f.part ≡ true
  fit_can (Interval known) w from says good is = interval_fits requests z sets d p h sound asks p h c r known ok.state (subst (λ v. BodyOk sets p h from v) says good) f is
  fit_can (Info n base start part) w Client says good is = absurd (cc)
  fit_can (Info n base start part) w (Osd m) says good is = info_can n base start part w m says good is
  fit_can (Install n start part) w from says good is = install_can n start part w from says good is
  fit_can (Query n len end) w from says good is = absurd (cc)
  fit_can (Installed n) w from says good is = absurd (cc)
  fit_can (Append n place s) w from says good is = absurd (cc)
  fit_can (Appended n place) w from says good is = absurd (cc)
  fit_can (Request s) w from says good is = absurd (cc)
  fit_can (Reply id reply) w from says good is = absurd (cc)
  fit_can (NotHere id) w from says good is = absurd (cc)

module _ (g : Group) (ws : List Daemon) (ms : List WholeSent) (f : Facts g.min_size g.sets g.requests g.copies g.wire ws ms) where
  heard_can : (d : ℕ) (m : Sent) (m' : WholeSent) (c : Copy) (w : Daemon) (fit : Fit) → SentAgrees f.promise f.h m m' → SentOk g.sets f.promise f.h m' → m.to ≡ Osd d → CopyAgrees f.promise f.h c w → CopyOk g.min_size g.sets f.promise f.h d w →
      fit_at m.body c m.from ≡ Some fit → can_fit c.log fit.start fit.part ≡ true
  heard_can d m m' c w fit says good to agrees ok is =
      fit_can g.requests g.min_size g.sets d f.promise f.h f.sound f.asked c agrees.role (subst (λ v. CopyOk g.min_size g.sets f.promise f.h d v) agrees.is ok) agrees.agrees fit m.body m'.body m.from
      (subst (λ v. BodyAgrees f.promise f.h m.from v m.body m'.body) to says.body) (subst (λ v. BodyOk g.sets f.promise f.h v m'.body) says.from good) is

  found_can : (k d : ℕ) (m : Sent) (c : Copy) (fit : Fit) (m' : Option WholeSent) (w : Option Daemon) → slice_get ms k ≡ m' → slice_get ws d ≡ w → IfBoth (SentAgrees f.promise f.h) (Some m) m' → IfBoth (CopyAgrees f.promise f.h) (Some c) w →
      m.to ≡ Osd d → fit_at m.body c m.from ≡ Some fit → can_fit c.log fit.start fit.part ≡ true
  found_can k d m c fit None w is there says agrees to fits = absurd says
  found_can k d m c fit (Some m') None is there says agrees to fits = absurd agrees
  found_can k d m c fit (Some m') (Some w) is there says agrees to fits = heard_can d m m' c w fit says (Each-get (SentOk g.sets f.promise f.h) ms k m' f.wire_ok is) to agrees (f.copies_ok d w there) fits

  fits_true : FitsAnswerTrue g
  fits_true k d m c fit is to there fits =
      found_can k d m c fit (slice_get ms k) (slice_get ws d) refl refl
      (subst (λ v. IfBoth (SentAgrees f.promise f.h) v (slice_get ms k)) is (Both-get (SentAgrees f.promise f.h) g.wire ms k f.wire))
      (subst (λ v. IfBoth (CopyAgrees f.promise f.h) v (slice_get ws d)) there (Both-get (CopyAgrees f.promise f.h) g.copies ws d f.copies)) to fits

pub fit_answers : FitAnswersTrue
fit_answers group z count acting up es =
    let w = whole_run es (whole_start group z count acting up) in
    fits_true (run es (start group z count acting up)) w.copies w.wire (reached_locked group z count acting up es).agree.facts
