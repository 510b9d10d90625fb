-- One more interval leaves all that holds of those before it.
use Rattle.std.proofs.Common.{ℕ, ◌≡◌, ◌≤◌, ◌-◌, true, List, [], ◌∷◌, ◌++◌, length, refl, sym, ◌∙◌, subst, arith, length-append, inl, inr}
use Rattle.std.specs.Prelude.{Some, None}
use Rattle.std.proofs.Math.ListN.{get_or-append}
use Rattle.entry_core.specs.Log.{is_in}
use Rattle.store_core.specs.declared.entry.Entry.{Entry}
use Rattle.group_model_whole.specs.ActingSets.{set_of, is_primary}
use Rattle.group_model_whole.specs.Types.{Role, Idle, Peering, Installing, Active, Daemon, Body, Interval, Query, Info, Install, Installed, Append, Appended, Request, Reply, NotHere, Party}
use Rattle.group_model_whole.specs.History.{History, IsDecided, IsOpened, IsSound, Witness, but_last, IsSettled}
use Rattle.group_model_whole.proofs.Invariant.{IsKnown, Leads, AllHold, Owns, RoleOk, CopyOk, BodyOk}

module _ (z : ℕ) (sets : List (List ℕ)) (acting : List ℕ) (p : ℕ → ℕ) (h : History) where
  pub set_of-longer : (j : ℕ) → 1 ≤ j → j ≤ length sets → set_of (sets ++ acting ∷ []) j ≡ set_of sets j
  set_of-longer j from upto = get_or-append sets (acting ∷ []) [] (j - 1) (omega arith)

  longer : length sets ≤ length (sets ++ acting ∷ [])
  longer = omega (arith, length-append sets (acting ∷ []))

  pub IsKnown-longer : (known : List (List ℕ)) → IsKnown sets known → IsKnown (sets ++ acting ∷ []) known
  IsKnown-longer known k = record { fits = omega (arith, k.fits, longer); same = λ j from upto. k.same j from upto ∙ sym (set_of-longer j from (omega (arith, k.fits))) }

  pub IsKnown-all : IsKnown (sets ++ acting ∷ []) (sets ++ acting ∷ [])
  IsKnown-all = record { fits = omega arith; same = λ j from upto. refl }

  Witness-longer : (n basis : ℕ) (log : List Entry) (j : ℕ) → 1 ≤ j → j ≤ length sets → Witness p sets h n basis log j → Witness p (sets ++ acting ∷ []) h n basis log j
  Witness-longer n basis log j from upto w = record { member = w.member; is_member = subst (λ l. is_in l w.member ≡ true) (sym (set_of-longer j from upto)) w.is_member; moved = w.moved; most = w.most }

  IsOpened-longer : (n basis : ℕ) (log : List Entry) → 1 ≤ n → IsOpened p z sets h n basis log → IsOpened p z (sets ++ acting ∷ []) h n basis log
  IsOpened-longer n basis log later o = record {
    is_interval = omega (arith, o.is_interval, longer);
    members = subst (λ l. z ≤ length l) (sym (set_of-longer n later o.is_interval)) o.members;
    below = o.below;
    source = o.source;
    source_is = o.source_is;
    begins = o.begins;
    within = o.within;
    led = λ e first. o.led e (subst (λ l. is_primary l e ≡ true) (set_of-longer n later o.is_interval) first);
    witness = λ j from above below enough. (
        let upto : j ≤ length sets = omega (arith, o.is_interval) in
        Witness-longer n basis log j from upto (o.witness j from above below (subst (λ l. z ≤ length l) (set_of-longer j from upto) enough)));
  }

  AllHold-longer : (n k : ℕ) → 1 ≤ n → n ≤ length sets → AllHold sets h n k → AllHold (sets ++ acting ∷ []) h n k
  AllHold-longer n k from upto all m is = all m (subst (λ l. is_in l m ≡ true) (set_of-longer n from upto) is)

  pub IsDecided-longer : IsSound p z sets h → (n k : ℕ) → IsDecided sets h n k → IsDecided (sets ++ acting ∷ []) h n k
  IsDecided-longer sound n k d =
      let o = sound.opened n d.log d.later d.begun in
      record { log = d.log; begun = d.begun; later = d.later; by_all = AllHold-longer n k d.later o.is_interval d.by_all }

  IsSettled-longer : IsSound p z sets h → (n : ℕ) (es : List Entry) → IsSettled sets h n es → IsSettled (sets ++ acting ∷ []) h n es
  IsSettled-longer sound n es ok = elim ok [
    | inl none ↦ inl none
    | inr f ↦ inr (record { at = f.at; upto = f.upto; begins = f.begins; decided = IsDecided-longer sound f.at (length es) f.decided })
  ]

  pub IsSound-longer : IsSound p z sets h → IsSound p z (sets ++ acting ∷ []) h
  IsSound-longer s = record {
    zero = s.zero;
    zero_grown = s.zero_grown;
    legal = s.legal;
    empty = s.empty;
    grows = s.grows;
    opened = λ n log later is. IsOpened-longer n (h.basis n) log later (s.opened n log later is);
    but_one = λ n. IsSettled-longer s n (but_last (h.grown n)) (s.but_one n);
  }

  Leads-longer : (d : ℕ) (c : Daemon) → c.promise ≤ length sets → Leads z sets d c → Leads z (sets ++ acting ∷ []) d c
  Leads-longer d c reached l = record {
    is_known = l.is_known;
    later = l.later;
    first = subst (λ s. is_primary s d ≡ true) (sym (set_of-longer c.promise l.later reached)) l.first;
    members = subst (λ s. z ≤ length s) (sym (set_of-longer c.promise l.later reached)) l.members;
  }

  Owns-longer : (d : ℕ) (c : Daemon) → c.promise ≤ length sets → Owns z sets h d c → Owns z (sets ++ acting ∷ []) h d c
  Owns-longer d c reached o = record { leads = Leads-longer d c reached o.leads; is_base = o.is_base; whole = o.whole }

  RoleOk-longer : (d : ℕ) (c : Daemon) (r : Role) → c.promise ≤ length sets → RoleOk z sets p h d c r → RoleOk z (sets ++ acting ∷ []) p h d c r
  RoleOk-longer d c Idle reached ok = tt
  RoleOk-longer d c (Peering informed) reached ok = record { leads = Leads-longer d c reached ok.leads; unchosen = ok.unchosen; offers = ok.offers }
  RoleOk-longer d c (Installing done) reached ok = record { owns = Owns-longer d c reached ok.owns; chosen = ok.chosen; holders = ok.holders }
  RoleOk-longer d c (Active None) reached ok = (Owns-longer d c reached ok.0, AllHold-longer c.promise (length c.log) ok.0.leads.later reached ok.1)
  RoleOk-longer d c (Active (Some holders)) reached ok = (Owns-longer d c reached ok.0, record { one = ok.1.one; before = AllHold-longer c.promise (length c.log - 1) ok.0.leads.later reached ok.1.before; holders_hold = ok.1.holders_hold })

  pub CopyOk-longer : (d : ℕ) (c : Daemon) → CopyOk z sets p h d c → CopyOk z (sets ++ acting ∷ []) p h d c
  CopyOk-longer d c ok = record {
    state = record {
      number = ok.state.number;
      same_size = ok.state.same_size;
      promised = ok.state.promised;
      reached = omega (arith, ok.state.reached, longer);
      base = ok.state.base;
      known = IsKnown-longer c.known ok.state.known;
      source = ok.state.source;
      source_is = ok.state.source_is;
      begins = ok.state.begins;
      within = ok.state.within;
      held = ok.state.held;
      held_below = ok.state.held_below;
    };
    role = RoleOk-longer d c c.role ok.state.reached ok.role;
  }

  pub BodyOk-longer : (from : Party) (b : Body) → BodyOk sets p h from b → BodyOk (sets ++ acting ∷ []) p h from b
  BodyOk-longer from (Interval known) ok = IsKnown-longer known ok
  BodyOk-longer from (Query n) ok = omega (arith, longer)
  BodyOk-longer from (Info n base log) ok = ok
  BodyOk-longer from (Install n log) ok = (omega (arith, ok.0, longer), ok.1)
  BodyOk-longer from (Installed n) ok = ok
  BodyOk-longer from (Append n place s) ok = ok
  BodyOk-longer from (Appended n place) ok = ok
  BodyOk-longer from (Request s) ok = tt
  BodyOk-longer from (Reply id reply) ok = tt
  BodyOk-longer from (NotHere id) ok = tt
