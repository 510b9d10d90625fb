-- At a choice the chosen part fits, and gives the log that whole logs would have given.
use Rattle.std.proofs.Common.{ℕ, ◌≡◌, ◌≤◌, ◌<◌, Bool, true, false, List, [], ◌∷◌, length, take, drop, refl, sym, ◌∙◌, ap, subst, arith, if◌then◌else◌}
use Rattle.std.specs.Prelude.{Some, None}
use Rattle.std.proofs.Math.Seq.{drop-length}
use Rattle.entry_core.specs.Log.{Legal}
use Rattle.store_core.specs.Request.{Sealed}
use Rattle.entry_core.specs.Fitting.{requests_of, decided_behind, kept, agreed, can_fit, fitted}
use Rattle.store_core.specs.declared.entry.Entry.{Entry}
use Rattle.entry_core.proofs.Fitting.{fit_gives_the_log}
use Rattle.group_model_whole.specs.ActingSets.{set_of}
use Rattle.group_model_whole.specs.Choice.{best as whole_best, own_offer as whole_own_offer, can_choose as whole_can_choose}
use Rattle.group_model_whole.specs.Types.{PeerInfo, Role as WholeRole}
use Rattle.group_model_whole.specs.Each.{Each}
use Rattle.group_model_whole.specs.Offer.{IsOffer}
use Rattle.group_model_whole.specs.Asked.{IsAsked, InLog}
use Rattle.group_model_whole.specs.History.{Begins, History, IsSound, IsOpened, but_last}
use Rattle.group_model_whole.proofs.Choices.{best_among, chosen_opened, first_at_most}
use Rattle.group_model_whole.proofs.Invariant.{Leads, StateOk}
use Rattle.group_model_whole.proofs.Stable.{is_first_unique}
use Rattle.group_model.specs.Types.{Offer, Copy}
use Rattle.peer_core.specs.Choice.{best, own_offer, can_choose}
use Rattle.group_model.specs.Standing.{Both}
use Rattle.group_model.specs.Fits.{Fit, choice_fit}
use Rattle.group_model.proofs.Agreeing.{Past, IsPart, OfferAgrees, whole}
use Rattle.group_model.proofs.Leading.{legal_of, asked_of, same_next}
use Rattle.group_model.proofs.Pasts.{past_of_state}
use Rattle.group_model.proofs.Fits.{nearly}
use Rattle.group_model.proofs.Opening.{past_begins_opened}
use Rattle.group_model.proofs.Queries.{base_before}
use Rattle.group_model.proofs.Offers.{best_agrees, can_choose_same}

-- a part fits to a log that it nearly begins
pub fits_by : (requests : List Sealed) (mine log : List Entry) (start : ℕ) (part : List Sealed) → Legal mine → Legal log → InLog (IsAsked requests) mine → InLog (IsAsked requests) log →
    Begins (but_last mine) log → IsPart mine log start part → fitted mine start part ≡ Some log
fits_by requests mine log start part legal legal' asked asked' begins is =
    subst (λ v. fitted mine start v ≡ Some log) (sym is.part_is)
    (fit_gives_the_log mine log start legal legal' (nearly mine log start part begins is (same_next requests mine log asked asked')))

-- where fitting gives a log, `fit` answers true
pub can_fit_by : (mine log : List Entry) (start : ℕ) (part : List Sealed) → fitted mine start part ≡ Some log → can_fit mine start part ≡ true
can_fit_by mine log start part is = go (can_fit mine start part) is
  where
    go : (b : Bool) → (if b then Some (decided_behind (take (kept mine start part) mine) (drop (agreed (drop start mine) part) part)) else None) ≡ Some log → b ≡ true
    go true is = refl
    go false is = absurd (cc)

-- a copy's own log, told to itself
own_part : (log : List Entry) → IsPart log log (length log) []
own_part log = record { within = omega arith; within_log = omega arith; same = refl; part_is = sym (ap requests_of (drop-length log)) }

module _ (requests : List Sealed) (z : ℕ) (sets : List (List ℕ)) (d : ℕ) (p : ℕ → ℕ) (h : History) (sound : IsSound p z sets h) (asked : (n : ℕ) → InLog (IsAsked requests) (h.grown n))
    (c : Copy) (r : WholeRole) (informed : List Offer) (infos : List PeerInfo) (state : StateOk z sets p h d (whole c r)) (leads : Leads z sets d (whole c r))
    (unchosen : h.chosen c.promise ≡ None) (offers : Each (IsOffer p h c.promise) infos) (agree : Both (OfferAgrees p h c.promise c.log) informed infos) where
  below : c.base < c.promise
  below = base_before p z sets h d c.promise (whole c r) state unchosen state.base

  own_past : Past p h d c.promise c.log
  own_past = past_of_state p z sets h d c.promise (whole c r) state (omega arith) below

  own_is_offer : IsOffer p h c.promise (whole_own_offer (whole c r))
  own_is_offer = record {
    moved = subst (λ v. c.promise ≤ p v) (sym state.number) (omega (arith, state.promised));
    below = below;
    source = state.source;
    source_is = state.source_is;
    begins = state.begins;
    within = state.within;
    most = λ j k early held. (
        let held' : h.held d j ≡ Some k = subst (λ v. h.held v j ≡ Some k) state.number held in (
          state.held_below j k held',
          λ same. (
              let there : h.held d j ≡ Some (length c.log) = subst (λ v. h.held d v ≡ Some (length c.log)) (sym same) state.held in
              let equal : k ≡ length c.log = cc in
              omega arith),
        ));
  }

  own_agrees : OfferAgrees p h c.promise c.log (own_offer c) (whole_own_offer (whole c r))
  own_agrees = record { number = refl; base = refl; told = record { is_part = own_part c.log; past = subst (λ v. Past p h v c.promise c.log) (sym state.number) own_past } }

  pub choose_same : can_choose c informed ≡ whole_can_choose (whole c r) infos
  choose_same = can_choose_same p h c.promise c.log c r informed infos own_agrees agree

  pub winner_agrees : OfferAgrees p h c.promise c.log (best (own_offer c) informed) (whole_best (whole_own_offer (whole c r)) infos)
  winner_agrees = best_agrees p h c.promise c.log (own_offer c) (whole_own_offer (whole c r)) informed infos own_agrees agree

  winner_is_offer : IsOffer p h c.promise (whole_best (whole_own_offer (whole c r)) infos)
  winner_is_offer = best_among (IsOffer p h c.promise) (whole_own_offer (whole c r)) infos own_is_offer offers

  winner_opened : whole_can_choose (whole c r) infos ≡ true → IsOpened p z sets h c.promise (whole_best (whole_own_offer (whole c r)) infos).base (whole_best (whole_own_offer (whole c r)) infos).log
  winner_opened chosen =
      let known = state.known in
      let opened = chosen_opened p sets h (whole c r) infos own_is_offer offers (λ j from upto. known.same j from (omega (arith, leads.is_known))) leads.is_known chosen state.reached
      (subst (λ v. v ≤ length (set_of sets c.promise)) (sym state.same_size) leads.members)
      (λ e first. (let same : e ≡ d = is_first_unique (set_of sets c.promise) e d first leads.first in subst (λ v. c.promise ≤ p v) (sym same) (omega (arith, state.promised)))) in
      subst (λ v. IsOpened p v sets h c.promise (whole_best (whole_own_offer (whole c r)) infos).base (whole_best (whole_own_offer (whole c r)) infos).log) state.same_size opened

  pub winner_legal : Legal (whole_best (whole_own_offer (whole c r)) infos).log
  winner_legal = legal_of (whole_best (whole_own_offer (whole c r)) infos).log (h.grown (whole_best (whole_own_offer (whole c r)) infos).base) winner_is_offer.within (sound.legal (whole_best (whole_own_offer (whole c r)) infos).base)

  pub winner_asked : InLog (IsAsked requests) (whole_best (whole_own_offer (whole c r)) infos).log
  winner_asked = asked_of (IsAsked requests) (whole_best (whole_own_offer (whole c r)) infos).log (h.grown (whole_best (whole_own_offer (whole c r)) infos).base) winner_is_offer.within (asked (whole_best (whole_own_offer (whole c r)) infos).base)

  mine_begins : whole_can_choose (whole c r) infos ≡ true → Begins (but_last c.log) (whole_best (whole_own_offer (whole c r)) infos).log
  mine_begins chosen =
      let most = first_at_most (whole_own_offer (whole c r)) infos in
      let low = state.held_below own_past.at (length c.log) own_past.held in
      past_begins_opened p z sets h d c.promise (whole_best (whole_own_offer (whole c r)) infos).base c.log (whole_best (whole_own_offer (whole c r)) infos).log sound own_past (omega (arith, most.base, low)) (winner_opened chosen)

  -- so `fit` answers true at a choice
  pub choice_fits : whole_can_choose (whole c r) infos ≡ true → fitted c.log (best (own_offer c) informed).start (best (own_offer c) informed).part ≡ Some (whole_best (whole_own_offer (whole c r)) infos).log
  choice_fits chosen =
      fits_by requests c.log (whole_best (whole_own_offer (whole c r)) infos).log (best (own_offer c) informed).start (best (own_offer c) informed).part
      (legal_of c.log (h.grown c.base) state.within (sound.legal c.base)) winner_legal
      (asked_of (IsAsked requests) c.log (h.grown c.base) state.within (asked c.base)) winner_asked
      (mine_begins chosen) winner_agrees.told.is_part

  pub each_legal : Each (λ (o : PeerInfo). Legal o.log × InLog (IsAsked requests) o.log) infos
  each_legal = go infos offers
    where
      go : (os : List PeerInfo) → Each (IsOffer p h c.promise) os → Each (λ (o : PeerInfo). Legal o.log × InLog (IsAsked requests) o.log) os
      go [] each = tt
      go (o ∷ os) each = (
        (legal_of o.log (h.grown o.base) each.0.within (sound.legal o.base), asked_of (IsAsked requests) o.log (h.grown o.base) each.0.within (asked o.base)),
        go os each.1,
      )

  pub choice_can_fit : (f : Fit) → choice_fit c informed ≡ Some f → can_fit c.log f.start f.part ≡ true
  choice_can_fit f is = go (can_choose c informed) refl is
    where
      go : (b : Bool) → can_choose c informed ≡ b → (if b then Some (record { start = (best (own_offer c) informed).start; part = (best (own_offer c) informed).part }) else None) ≡ Some f → can_fit c.log f.start f.part ≡ true
      go true e is =
          let one : Fit = record { start = (best (own_offer c) informed).start; part = (best (own_offer c) informed).part } in
          let same : one ≡ f = cc in
          subst (λ (v : Fit). can_fit c.log v.start v.part ≡ true) same
          (can_fit_by c.log (whole_best (whole_own_offer (whole c r)) infos).log (best (own_offer c) informed).start (best (own_offer c) informed).part (choice_fits (sym choose_same ∙ e)))
      go false e is = absurd (cc)
