-- What one daemon's step leaves true of everything else.
use Rattle.std.proofs.Common.{ℕ, ◌≡◌, ◌<◌, ◌-◌, true, List, [], ◌∷◌, ◌++◌, length, sym, ◌∙◌, ap, subst, arith, append_assoc, inl, inr}
use Rattle.std.specs.Prelude.{Option, Some, None}
use Rattle.std.proofs.lemmas.Bool.{cases_eq, eqb-true}
use Rattle.store_core.specs.Request.{Sealed}
use Rattle.store_core.specs.declared.entry.Entry.{Entry}
use Rattle.group_model_whole.specs.ActingSets.{set_of, is_primary}
use Rattle.group_model_whole.specs.Types.{PeerInfo, Role, Idle, Peering, Installing, Active, Daemon, Body, Interval, Query, Info, Install, Installed, Append, Appended, Request, Reply, NotHere, Party, Osd, Client}
use Rattle.group_model_whole.specs.History.{History, Held, IsDecided, IsOpened, Witness, IsSettled}
use Rattle.group_model_whole.specs.Offer.{IsTold, IsOffer}
use Rattle.group_model_whole.proofs.Eaches.{Each-weaker}
use Rattle.group_model_whole.proofs.Prefixes.{Begins-trans}
use Rattle.group_model_whole.proofs.Invariant.{AllHold, Owns, FlightOk, RoleOk, CopyOk, IsPlaced, BodyOk, Extends}

pub is_first_unique : (set : List ℕ) (d e : ℕ) → is_primary set d ≡ true → is_primary set e ≡ true → d ≡ e
is_first_unique [] d e p q = cc
is_first_unique (m ∷ ms) d e p q = let a = eqb-true m d p in let b = eqb-true m e q in cc

module _ (min_size : ℕ) (sets : List (List ℕ)) (d : ℕ) (promise : ℕ → ℕ) (h : History) (promise' : ℕ → ℕ) (h' : History)
    (to : Extends sets d promise h promise' h') where
  pub Held-stays : (m n k : ℕ) → Held h m n k → Held h' m n k
  Held-stays m n k held = elim (cases_eq m d) [
    | inl same ↦ subst (λ v. Held h' v n k) (sym same) (to.kept n k (subst (λ v. Held h v n k) same held))
    | inr other ↦ record { most = held.most; is = (to.others m other).1 n ∙ held.is; enough = held.enough }
  ]

  -- what was held of intervals before the promise is what it was
  frozen_at : (m j : ℕ) → j < promise m → h'.held m j ≡ h.held m j
  frozen_at m j early = elim (cases_eq m d) [
    | inl same ↦ subst (λ v. h'.held v j ≡ h.held v j) (sym same) (to.frozen j (subst (λ v. j < promise v) same early))
    | inr other ↦ (to.others m other).1 j
  ]

  pub IsTold-stays : (n : ℕ) (i : PeerInfo) → IsTold promise h n i → IsTold promise' h' n i
  IsTold-stays n i told = record {
    moved = omega (arith, told.moved, to.promises i.number);
    reach = told.reach;
    source = told.source;
    source_is = (to.chosen i.base told.source told.source_is).0;
    begins = told.begins;
    within = Begins-trans told.within (to.grows i.base);
    most = λ j k early held. (let was : h.held i.number j ≡ Some k = sym (frozen_at i.number j (omega (arith, told.moved))) ∙ held in told.most j k early was);
  }

  pub IsOffer-stays : (n : ℕ) (i : PeerInfo) → IsOffer promise h n i → IsOffer promise' h' n i
  IsOffer-stays n i told = record {
    moved = omega (arith, told.moved, to.promises i.number);
    below = told.below;
    source = told.source;
    source_is = (to.chosen i.base told.source told.source_is).0;
    begins = told.begins;
    within = Begins-trans told.within (to.grows i.base);
    most = λ j k early held. (let was : h.held i.number j ≡ Some k = sym (frozen_at i.number j (omega (arith, told.moved))) ∙ held in told.most j k early was);
  }

  pub IsPlaced-stays : (n place : ℕ) (s : Sealed) → IsPlaced h n place s → IsPlaced h' n place s
  IsPlaced-stays n place s p =
      let b = to.grows n in
      record {
        front = p.front;
        entry = p.entry;
        rest = p.rest ++ b.rest;
        whole = sym (append_assoc p.front (p.entry ∷ p.rest) b.rest) ∙ ap (λ l. l ++ b.rest) p.whole ∙ b.whole;
        at = p.at;
        is = p.is;
      }

  -- of an interval of which something was held or sent, a log was chosen
  pub BodyOk-stays : (from : Party) (b : Body) → BodyOk sets promise h from b → BodyOk sets promise' h' from b
  BodyOk-stays from (Interval known) ok = ok
  BodyOk-stays from (Query n) ok = ok
  BodyOk-stays (Osd m) (Info n base log) ok = IsTold-stays n (record { number = m; base = base; log = log }) ok
  BodyOk-stays Client (Info n base log) ok = tt
  BodyOk-stays from (Install n log) ok = (ok.0, (to.chosen n log ok.1).0)
  BodyOk-stays (Osd m) (Installed n) ok = record { log = ok.log; chosen = (to.chosen n ok.log ok.chosen).0; holds = Held-stays m n (length ok.log) ok.holds }
  BodyOk-stays Client (Installed n) ok = tt
  BodyOk-stays from (Append n place s) ok = IsPlaced-stays n place s ok
  BodyOk-stays (Osd m) (Appended n place) ok = Held-stays m n place ok
  BodyOk-stays Client (Appended n place) ok = tt
  BodyOk-stays from (Request s) ok = tt
  BodyOk-stays from (Reply id reply) ok = tt
  BodyOk-stays from (NotHere id) ok = tt

  pub AllHold-stays : (n k : ℕ) → AllHold sets h n k → AllHold sets h' n k
  AllHold-stays n k all m is = Held-stays m n k (all m is)

  -- the interval of another first member is as it was
  same_interval : (e n : ℕ) → (e ≡ d → ⊥) → is_primary (set_of sets n) e ≡ true → (h'.chosen n ≡ h.chosen n) × (h'.grown n ≡ h.grown n)
  same_interval e n other first = elim (to.by_first n) [
    | inl same ↦ same
    | inr mine ↦ absurd (other (is_first_unique (set_of sets n) e d first mine))
  ]

  FlightOk-stays : (c : Daemon) (f : Option (List ℕ)) → FlightOk sets h c f → FlightOk sets h' c f
  FlightOk-stays c None ok = AllHold-stays c.promise (length c.log) ok
  FlightOk-stays c (Some holders) ok = record {
    one = ok.one;
    before = AllHold-stays c.promise (length c.log - 1) ok.before;
    holders_hold = Each-weaker (λ m. Held h m c.promise (length c.log)) (λ m. Held h' m c.promise (length c.log)) (λ m. Held-stays m c.promise (length c.log)) holders ok.holders_hold;
  }

  Owns-stays : (e : ℕ) (c : Daemon) → (e ≡ d → ⊥) → Owns min_size sets h e c → Owns min_size sets h' e c
  Owns-stays e c other ok = record { leads = ok.leads; is_base = ok.is_base; whole = ok.whole ∙ sym (same_interval e c.promise other ok.leads.first).1 }

  RoleOk-stays : (e : ℕ) (c : Daemon) (r : Role) → (e ≡ d → ⊥) → RoleOk min_size sets promise h e c r → RoleOk min_size sets promise' h' e c r
  RoleOk-stays e c Idle other ok = tt
  RoleOk-stays e c (Peering informed) other ok = record {
    leads = ok.leads;
    unchosen = (same_interval e c.promise other ok.leads.first).0 ∙ ok.unchosen;
    offers = Each-weaker (IsOffer promise h c.promise) (IsOffer promise' h' c.promise) (IsOffer-stays c.promise) informed ok.offers;
  }
  RoleOk-stays e c (Installing done) other ok = record {
    owns = Owns-stays e c other ok.owns;
    chosen = (to.chosen c.promise c.log ok.chosen).0;
    holders = Each-weaker (λ m. Held h m c.promise (length c.log)) (λ m. Held h' m c.promise (length c.log)) (λ m. Held-stays m c.promise (length c.log)) done ok.holders;
  }
  RoleOk-stays e c (Active flight) other ok = (Owns-stays e c other ok.0, FlightOk-stays c flight ok.1)

  pub CopyOk-stays : (e : ℕ) (c : Daemon) → (e ≡ d → ⊥) → CopyOk min_size sets promise h e c → CopyOk min_size sets promise' h' e c
  CopyOk-stays e c other ok = record {
    state = record {
      number = ok.state.number;
      same_size = ok.state.same_size;
      promised = (to.others e other).0 ∙ ok.state.promised;
      reached = ok.state.reached;
      base = ok.state.base;
      known = ok.state.known;
      source = ok.state.source;
      source_is = (to.chosen c.base ok.state.source ok.state.source_is).0;
      begins = ok.state.begins;
      within = Begins-trans ok.state.within (to.grows c.base);
      held = (to.others e other).1 c.base ∙ ok.state.held;
      held_below = λ j k is. ok.state.held_below j k (sym ((to.others e other).1 j) ∙ is);
    };
    role = RoleOk-stays e c c.role other ok.role;
  }

  Witness-stays : (n basis : ℕ) (log : List Entry) (j : ℕ) → j < n → Witness promise sets h n basis log j → Witness promise' sets h' n basis log j
  Witness-stays n basis log j early w = record {
    member = w.member;
    is_member = w.is_member;
    moved = omega (arith, w.moved, to.promises w.member);
    most = λ k held. w.most k (sym (frozen_at w.member j (omega (arith, w.moved))) ∙ held);
  }

  pub IsOpened-stays : (n basis : ℕ) (log : List Entry) → IsOpened promise min_size sets h n basis log → IsOpened promise' min_size sets h' n basis log
  IsOpened-stays n basis log o = record {
    is_interval = o.is_interval;
    members = o.members;
    below = o.below;
    source = o.source;
    source_is = (to.chosen basis o.source o.source_is).0;
    begins = o.begins;
    within = Begins-trans o.within (to.grows basis);
    led = λ e first. omega (arith, o.led e first, to.promises e);
    witness = λ j from above below enough. Witness-stays n basis log j below (o.witness j from above below enough);
  }

  pub IsDecided-stays : (n k : ℕ) → IsDecided sets h n k → IsDecided sets h' n k
  IsDecided-stays n k ok = record { log = ok.log; begun = (to.chosen n ok.log ok.begun).0; later = ok.later; by_all = λ m is. Held-stays m n k (ok.by_all m is) }

  pub IsSettled-stays : (n : ℕ) (es : List Entry) → IsSettled sets h n es → IsSettled sets h' n es
  IsSettled-stays n es ok = elim ok [
    | inl none ↦ inl none
    | inr f ↦ inr (record { at = f.at; upto = f.upto; begins = Begins-trans f.begins (to.grows f.at); decided = IsDecided-stays f.at (length es) f.decided })
  ]

pub Extends-trans : (sets : List (List ℕ)) (d : ℕ) (p : ℕ → ℕ) (h : History) (p' : ℕ → ℕ) (h' : History) (p'' : ℕ → ℕ) (h'' : History) →
    Extends sets d p h p' h' → Extends sets d p' h' p'' h'' → Extends sets d p h p'' h''
Extends-trans sets d p h p' h' p'' h'' a b = record {
  promises = λ m. omega (arith, a.promises m, b.promises m);
  others = λ m other. ((b.others m other).0 ∙ (a.others m other).0, λ j. (b.others m other).1 j ∙ (a.others m other).1 j);
  chosen = λ n log is. (
      let first = a.chosen n log is in
      let second = b.chosen n log first.0 in
      (second.0, second.1 ∙ first.1));
  grows = λ n. Begins-trans (a.grows n) (b.grows n);
  frozen = λ j early. b.frozen j (omega (arith, a.promises d)) ∙ a.frozen j early;
  kept = λ j k held. b.kept j k (a.kept j k held);
  by_first = λ n. elim (a.by_first n) [
    | inr mine ↦ inr mine
    | inl same ↦ (elim (b.by_first n) [ inr mine ↦ inr mine | inl same' ↦ inl (same'.0 ∙ same.0, same'.1 ∙ same.1) ])
  ];
}
