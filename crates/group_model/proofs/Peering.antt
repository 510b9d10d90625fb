-- The rules of a peering agree: the choice, and what leads to it.
use Rattle.std.proofs.Common.{ℕ, ◌≡◌, ◌<◌, ◌-◌, Bool, true, false, not, ◌==◌, ◌&&◌, nat_lt, List, [], ◌∷◌, ◌++◌, length, take, refl, sym, ap, subst, arith, inl, inr, if◌then◌else◌}
use Rattle.std.specs.Prelude.{Some, None}
use Rattle.std.specs.List.{list_any, list_all}
use Rattle.std.proofs.lemmas.Bool.{cases_eq, eqb-true, ltb-true, and_parts}
use Rattle.store_core.specs.Request.{Sealed}
use Rattle.entry_core.specs.Fitting.{can_fit, fitted}
use Rattle.store_core.specs.declared.entry.Entry.{Entry}
use Rattle.group_model_whole.specs.ActingSets.{set_of, others as whole_others}
use Rattle.group_model_whole.specs.Choice.{best as whole_best, own_offer as whole_own_offer, is_informed as whole_is_informed, can_choose as whole_can_choose, covers}
use Rattle.group_model_whole.specs.Copy.{install_chosen as whole_install_chosen, try_choice as whole_try_choice, on_info as whole_on_info}
use Rattle.group_model_whole.specs.Steps.{still as whole_still}
use Rattle.group_model_whole.specs.Types.{PeerInfo, Role as WholeRole, Peering as WholePeering}
use Rattle.group_model_whole.specs.Each.{Each}
use Rattle.group_model_whole.specs.Offer.{IsTold, IsOffer}
use Rattle.group_model_whole.specs.Asked.{IsAsked, InLog}
use Rattle.group_model_whole.specs.History.{History, IsSound}
use Rattle.group_model_whole.proofs.Eaches.{Each-push}
use Rattle.group_model_whole.proofs.Invariant.{Leads, RoleOk, StateOk, CopyOk}
use Rattle.group_model.specs.Types.{Offer, Role, Idle, Peering, Installing, Active, Copy}
use Rattle.peer_core.specs.Steps.{still}
use Rattle.peer_core.specs.ActingSets.{others}
use Rattle.peer_core.specs.Choice.{best, own_offer, is_informed, can_choose}
use Rattle.peer_core.specs.Copy.{fit_chosen, try_choice, on_info_as, on_info}
use Rattle.group_model.specs.Standing.{Both}
use Rattle.group_model.specs.Fits.{Fit, choice_fit, info_fit_as}
use Rattle.group_model.proofs.Agreeing.{Past, InfoAgrees, ToldAgrees, OfferAgrees, RoleAgrees, CopyAgrees, StepAgrees, whole}
use Rattle.group_model.proofs.Lists.{Both-push}
use Rattle.group_model.proofs.Pasts.{past_unique, past_of_state}
use Rattle.group_model.proofs.Stays.{Offers-stay, RoleAgrees-stays}
use Rattle.group_model.proofs.Queries.{base_before}
use Rattle.group_model.proofs.Offers.{informed_same}
use Rattle.group_model.proofs.SuffixServing.{by_tests}
use Rattle.group_model.proofs.Choosing.{choose_same, choice_fits, winner_legal, winner_asked, each_legal, choice_can_fit}
use Rattle.group_model.proofs.Installs.{heard_other, member_install, install_agrees}

pub offer_of : (p : ℕ → ℕ) (h : History) (n : ℕ) (o : PeerInfo) → h.chosen n ≡ None → IsTold p h n o → IsOffer p h n o
offer_of p h n o none told = record {
  moved = told.moved;
  source = told.source;
  source_is = told.source_is;
  begins = told.begins;
  within = told.within;
  most = told.most;
  below = elim (cases_eq o.base n) [
    | inl same ↦ (let some : h.chosen n ≡ Some told.source = subst (λ v. h.chosen v ≡ Some told.source) same told.source_is in absurd (cc))
    | inr other ↦ omega (arith, told.reach)
  ];
}

module _ (requests : List Sealed) (z : ℕ) (sets : List (List ℕ)) (d : ℕ) (p : ℕ → ℕ) (h : History) (sound : IsSound p z sets h) (asks : (n : ℕ) → InLog (IsAsked requests) (h.grown n)) (p' : ℕ → ℕ) (h' : History) where
  pub try_agrees : (c : Copy) (r : WholeRole) (informed : List Offer) (infos : List PeerInfo) → StateOk z sets p h d (whole c r) → Leads z sets d (whole c r) → h.chosen c.promise ≡ None → Each (IsOffer p h c.promise) infos →
      Both (OfferAgrees p h c.promise c.log) informed infos → Both (OfferAgrees p' h' c.promise c.log) informed infos → StepAgrees p' h' (try_choice c informed) (whole_try_choice (whole c r) infos)
  try_agrees c r informed infos state first none offers agree agree' = by_tests p' h' (can_choose c informed) (whole_can_choose (whole c r) infos)
      (fit_chosen c informed (fitted c.log (best (own_offer c) informed).start (best (own_offer c) informed).part)) (still (record c { role = Peering informed }))
      (whole_install_chosen (whole c r) (whole_best (whole_own_offer (whole c r)) infos).log (whole_others (whole c r))) (whole_still (record (whole c r) { role = WholePeering infos }))
      (choose_same requests z sets d p h sound asks c r informed infos state first none offers agree)
      (λ chosen. subst (λ v. StepAgrees p' h' (fit_chosen c informed v) (whole_install_chosen (whole c r) (whole_best (whole_own_offer (whole c r)) infos).log (whole_others (whole c r))))
      (sym (choice_fits requests z sets d p h sound asks c r informed infos state first none offers agree chosen))
      (install_agrees p' h' c r informed (whole_best (whole_own_offer (whole c r)) infos).log (others c) refl
      (λ m is. member_install requests p' h' c.promise c.log (whole_best (whole_own_offer (whole c r)) infos).log
      (winner_legal requests z sets d p h sound asks c r informed infos state first none offers agree)
      (winner_asked requests z sets d p h sound asks c r informed infos state first none offers agree)
      informed infos m agree' (each_legal requests z sets d p h sound asks c r informed infos state first none offers agree)
      (heard_other c (λ v. list_any (λ o. o.number == v) infos) m
      (and_parts (list_all (whole_is_informed (whole c r) infos) (set_of c.known c.promise)) (covers c.min_size (whole_best (whole_own_offer (whole c r)) infos).base (whole_is_informed (whole c r) infos) 1 (take (c.promise - 1) c.known)) chosen).0 is))))
      (λ _. record { copy = record { role = WholePeering infos; is = refl; agrees = record { infos = infos; is = refl; agree = agree' } }; sent = tt })

-- Info
module _ (requests : List Sealed) (z : ℕ) (sets : List (List ℕ)) (d : ℕ) (p : ℕ → ℕ) (h : History) (sound : IsSound p z sets h) (asks : (n : ℕ) → InLog (IsAsked requests) (h.grown n)) (p' : ℕ → ℕ) (h' : History) where
  -- what was told to this copy was told to its log as it is
  told_here : (c : Copy) (r : WholeRole) (m : ℕ) (log : List Entry) (start : ℕ) (part : List Sealed) → StateOk z sets p h d (whole c r) → h.chosen c.promise ≡ None → ToldAgrees p h c.promise m d log start part → InfoAgrees p h c.promise m c.log log start part
  told_here c r m log start part state none t =
      let own : Past p h d c.promise c.log = past_of_state p z sets h d c.promise (whole c r) state (omega arith) (base_before p z sets h d c.promise (whole c r) state none state.base) in
      subst (λ v. InfoAgrees p h c.promise m v log start part) (past_unique p h d c.promise t.mine c.log t.asked own) t.told

  module _ (stays : (m n : ℕ) (log : List Entry) → Past p h m n log → Past p' h' m n log) (unchosen : (n : ℕ) → h'.chosen n ≡ None → h.chosen n ≡ None)
      (c : Copy) (r : WholeRole) (ok : CopyOk z sets p h d (whole c r)) (a : RoleAgrees p h c.promise c.log (others c) c.role r) where
    unchanged : CopyAgrees p' h' c (whole c r)
    unchanged = record { role = r; is = refl; agrees = RoleAgrees-stays p h p' h' stays unchosen c.promise c.log (others c) c.role r a }

    same_still : StepAgrees p' h' (still c) (whole_still (whole c r))
    same_still = record { copy = unchanged; sent = tt }

    module _ (n m base start : ℕ) (part : List Sealed) (log : List Entry) (told : IsTold p h n (record { number = m; base = base; log = log }))
        (agrees : h.chosen n ≡ None → ToldAgrees p h n m d log start part) where
      heard : (none : h.chosen c.promise ≡ None) → c.promise ≡ n → InfoAgrees p h c.promise m c.log log start part
      heard none now = told_here c r m log start part ok.state none (subst (λ v. ToldAgrees p h v m d log start part) (sym now) (agrees (subst (λ v. h.chosen v ≡ None) now none)))

      info_as_agrees : (q : Role) → RoleAgrees p h c.promise c.log (others c) q r → StepAgrees p' h' (on_info_as q c n (record { number = m; base = base; start = start; part = part })) (whole_on_info r (whole c r) n (record { number = m; base = base; log = log }))
      info_as_agrees Idle is = subst (λ v. StepAgrees p' h' (still c) (whole_on_info v (whole c r) n (record { number = m; base = base; log = log }))) (sym is) same_still
      info_as_agrees (Installing done common) is = subst (λ v. StepAgrees p' h' (still c) (whole_on_info v (whole c r) n (record { number = m; base = base; log = log }))) (sym is.0) same_still
      info_as_agrees (Active flight) is = subst (λ v. StepAgrees p' h' (still c) (whole_on_info v (whole c r) n (record { number = m; base = base; log = log }))) (sym is) same_still
      info_as_agrees (Peering informed) is =
          let infos : List PeerInfo = is.infos in
          let offer : Offer = record { number = m; base = base; start = start; part = part } in
          let told_offer : PeerInfo = record { number = m; base = base; log = log } in
          let peering = subst (λ v. RoleOk z sets p h d (whole c r) v) is.is ok.role in
          let tests : ((c.promise == n) && not (is_informed c informed m)) ≡ ((c.promise == n) && not (whole_is_informed (whole c r) is.infos m)) =
          ap (λ b. (c.promise == n) && not b) (informed_same p h c.promise c.log c r informed is.infos is.agree m) in
          subst (λ v. StepAgrees p' h' (on_info_as (Peering informed) c n offer) (whole_on_info v (whole c r) n told_offer)) (sym is.is)
          (by_tests p' h' ((c.promise == n) && not (is_informed c informed m)) ((c.promise == n) && not (whole_is_informed (whole c r) is.infos m))
          (try_choice c (informed ++ offer ∷ [])) (still c) (whole_try_choice (whole c r) (infos ++ told_offer ∷ [])) (whole_still (whole c r)) tests
          (λ both. (
          let now : c.promise ≡ n = eqb-true c.promise n (and_parts (c.promise == n) (not (whole_is_informed (whole c r) is.infos m)) both).0 in
          let more : IsOffer p h c.promise told_offer = offer_of p h c.promise told_offer peering.unchosen (subst (λ v. IsTold p h v told_offer) (sym now) told) in
          let one : OfferAgrees p h c.promise c.log offer told_offer = record { number = refl; base = refl; told = heard peering.unchosen now } in
          let all : Both (OfferAgrees p h c.promise c.log) (informed ++ offer ∷ []) (infos ++ told_offer ∷ []) = Both-push (OfferAgrees p h c.promise c.log) informed is.infos offer told_offer is.agree one in
          try_agrees requests z sets d p h sound asks p' h' c r (informed ++ offer ∷ []) (infos ++ told_offer ∷ []) ok.state peering.leads peering.unchosen (Each-push (IsOffer p h c.promise) infos told_offer peering.offers more)
          all (Offers-stay p h p' h' stays unchosen c.promise c.log (informed ++ offer ∷ []) (infos ++ told_offer ∷ []) all)))
          (λ _. same_still))

      -- what begins behind this copy's log is not for it
      info_ignored : length c.log < start → (q : Role) → RoleAgrees p h c.promise c.log (others c) q r → StepAgrees p' h' (still c) (whole_on_info r (whole c r) n (record { number = m; base = base; log = log }))
      info_ignored beyond Idle is = subst (λ v. StepAgrees p' h' (still c) (whole_on_info v (whole c r) n (record { number = m; base = base; log = log }))) (sym is) same_still
      info_ignored beyond (Installing done common) is = subst (λ v. StepAgrees p' h' (still c) (whole_on_info v (whole c r) n (record { number = m; base = base; log = log }))) (sym is.0) same_still
      info_ignored beyond (Active flight) is = subst (λ v. StepAgrees p' h' (still c) (whole_on_info v (whole c r) n (record { number = m; base = base; log = log }))) (sym is) same_still
      info_ignored beyond (Peering informed) is =
          let told_offer : PeerInfo = record { number = m; base = base; log = log } in
          let peering = subst (λ v. RoleOk z sets p h d (whole c r) v) is.is ok.role in
          subst (λ v. StepAgrees p' h' (still c) (whole_on_info v (whole c r) n told_offer)) (sym is.is) (go ((c.promise == n) && not (whole_is_informed (whole c r) is.infos m)) (whole_is_informed (whole c r) is.infos m) refl peering.unchosen is.infos)
        where
          go : (b t : Bool) → ((c.promise == n) && not t) ≡ b → h.chosen c.promise ≡ None → (infos : List PeerInfo) →
              StepAgrees p' h' (still c) (if b then whole_try_choice (whole c r) (infos ++ record { number = m; base = base; log = log } ∷ []) else whole_still (whole c r))
          go true t both none infos =
              let now : c.promise ≡ n = eqb-true c.promise n (and_parts (c.promise == n) (not t) both).0 in
              absurd (omega (arith, beyond, (heard none now).is_part.within))
          go false t both none infos = same_still

      pub info_agrees : StepAgrees p' h' (on_info c n (record { number = m; base = base; start = start; part = part })) (whole_on_info r (whole c r) n (record { number = m; base = base; log = log }))
      info_agrees = go (nat_lt (length c.log) start) refl
        where
          go : (b : Bool) → nat_lt (length c.log) start ≡ b → StepAgrees p' h' (if b then still c else on_info_as c.role c n (record { number = m; base = base; start = start; part = part })) (whole_on_info r (whole c r) n (record { number = m; base = base; log = log }))
          go true e = info_ignored (ltb-true (length c.log) start e) c.role a
          go false e = info_as_agrees c.role a

      -- what is fitted at an Info fits
      pub info_fits : (q : Role) → RoleAgrees p h c.promise c.log (others c) q r → (f : Fit) → info_fit_as q c n (record { number = m; base = base; start = start; part = part }) ≡ Some f → can_fit c.log f.start f.part ≡ true
      info_fits Idle a f is = absurd (cc)
      info_fits (Installing done common) a f is = absurd (cc)
      info_fits (Active flight) a f is = absurd (cc)
      info_fits (Peering informed) a f is = go ((c.promise == n) && not (is_informed c informed m)) refl is
        where
          go : (b : Bool) → ((c.promise == n) && not (is_informed c informed m)) ≡ b → (if b then choice_fit c (informed ++ record { number = m; base = base; start = start; part = part } ∷ []) else None) ≡ Some f → can_fit c.log f.start f.part ≡ true
          go false e is = absurd (cc)
          go true both is =
              let one : Offer = record { number = m; base = base; start = start; part = part } in
              let told_offer : PeerInfo = record { number = m; base = base; log = log } in
              let infos : List PeerInfo = a.infos in
              let peering = subst (λ v. RoleOk z sets p h d (whole c r) v) a.is ok.role in
              let now : c.promise ≡ n = eqb-true c.promise n (and_parts (c.promise == n) (not (is_informed c informed m)) both).0 in
              let more : IsOffer p h c.promise told_offer = offer_of p h c.promise told_offer peering.unchosen (subst (λ v. IsTold p h v told_offer) (sym now) told) in
              choice_can_fit requests z sets d p h sound asks c r (informed ++ one ∷ []) (infos ++ told_offer ∷ []) ok.state peering.leads peering.unchosen (Each-push (IsOffer p h c.promise) infos told_offer peering.offers more)
              (Both-push (OfferAgrees p h c.promise c.log) informed infos one told_offer a.agree (record { number = refl; base = refl; told = heard peering.unchosen now })) f is
