-- What is decided is one growing list.
use Rattle.std.proofs.Common.{ℕ, ◌≡◌, ◌≤◌, ◌-◌, Bool, true, false, not, ◌==◌, ◌||◌, List, [], ◌∷◌, ◌++◌, length, take, max, refl, sym, ◌∙◌, ap, subst, arith, append_assoc, inl, inr, ◌⊎◌}
use Rattle.std.specs.Prelude.{Some, None}
use Rattle.std.specs.List.{filter}
use Rattle.std.proofs.Math.Seq.{take-length}
use Rattle.std.proofs.lemmas.List.{append-nil, take-append-le}
use Rattle.std.proofs.lemmas.List.Elements.{filter-append}
use Rattle.std.proofs.lemmas.Bool.{cases_order, eq-eqb}
use Rattle.entry_core.specs.Log.{is_in, ids, Legal, LegalFrom}
use Rattle.store_core.specs.declared.entry.Entry.{Entry}
use Rattle.group_model_whole.specs.Types.{Role, Idle, Peering, Installing, Active, Daemon}
use Rattle.group_model_whole.specs.History.{Begins, History, IsDecided, IsSound}
use Rattle.group_model_whole.specs.Decided.{decided_by}
use Rattle.group_model_whole.proofs.Logs.{LegalFrom-front}
use Rattle.group_model_whole.proofs.Prefixes.{Begins-take, Begins-refl, Begins-nil, Begins-compare, Begins-length}
use Rattle.group_model_whole.proofs.Histories.{decided_begins_grown}
use Rattle.group_model_whole.proofs.Invariant.{RoleOk, StateOk, Extends}
use Rattle.group_model_whole.proofs.Stable.{IsDecided-stays}
use Rattle.group_model_whole.proofs.Longer.{IsDecided-longer}

-- a list that was decided, in one interval or by standing first
pub record IsDecidedList (sets : List (List ℕ)) (h : History) (es : List Entry) : Type 0 where
  pub n : ℕ
  pub k : ℕ
  pub is : es ≡ take k (h.grown n)
  pub fits : k ≤ length (h.grown n)
  pub decided : (k ≡ 0) ⊎ IsDecided sets h n k

ids-append_false : (xs ys : List Entry) (id : ℕ) → is_in (ids (xs ++ ys)) id ≡ false → is_in (ids xs) id ≡ false
ids-append_false [] ys id h = refl
ids-append_false (x ∷ xs) ys id h = go (x.sealed.id == id) h (ids-append_false xs ys id)
  where
    go : (b : Bool) → (b || is_in (ids (xs ++ ys)) id) ≡ false → (is_in (ids (xs ++ ys)) id ≡ false → is_in (ids xs) id ≡ false) → (b || is_in (ids xs) id) ≡ false
    go true bad f = bad
    go false rest f = f rest

pub ids-append_here : (xs : List Entry) (e : Entry) (ys : List Entry) → is_in (ids (xs ++ e ∷ ys)) e.sealed.id ≡ true
ids-append_here [] e ys = rw (eq-eqb e.sealed.id e.sealed.id refl) refl
ids-append_here (x ∷ xs) e ys = rw (ids-append_here xs e ys) (or_true (x.sealed.id == e.sealed.id))
  where
    or_true : (b : Bool) → (b || true) ≡ true
    or_true true = refl
    or_true false = refl

-- the entries of es whose numbers are not among those
abbrev fresh : List Entry → List Entry → List Entry
fresh audit es = filter (λ e. not (is_in (ids audit) e.sealed.id)) es

-- none of a beginning is fresh
fresh_none : (before xs after : List Entry) → fresh (before ++ xs ++ after) xs ≡ []
fresh_none before [] after = refl
fresh_none before (x ∷ xs) after =
    let here : is_in (ids (before ++ (x ∷ xs) ++ after)) x.sealed.id ≡ true =
    subst (λ l. is_in (ids l) x.sealed.id ≡ true) (sym (append_assoc before (x ∷ xs) after)) (ids-append_here before x (xs ++ after)) in
    let move : (before ++ x ∷ []) ++ xs ++ after ≡ before ++ (x ∷ xs) ++ after = ap (λ l. l ++ after) (append_assoc before (x ∷ []) xs) in
    rw here (subst (λ l. fresh l xs ≡ []) move (fresh_none (before ++ x ∷ []) xs after))

-- all of what follows a legal list is fresh
fresh_all : (audit more xs : List Entry) → LegalFrom (audit ++ more) xs → fresh audit xs ≡ xs
fresh_all audit more [] legal = refl
fresh_all audit more (x ∷ xs) legal =
    let new : is_in (ids audit) x.sealed.id ≡ false = ids-append_false audit more x.sealed.id legal.0 in
    let move : (audit ++ more) ++ x ∷ [] ≡ audit ++ (more ++ x ∷ []) = append_assoc audit more (x ∷ []) in
    rw new (ap (λ l. x ∷ l) (fresh_all audit (more ++ x ∷ []) xs (subst (λ l. LegalFrom l xs) move legal.2)))

pub legal_rest : (before front rest : List Entry) → LegalFrom before (front ++ rest) → LegalFrom (before ++ front) rest
legal_rest before [] rest legal = rw append-nil legal
legal_rest before (e ∷ front) rest legal = subst (λ l. LegalFrom l rest) (append_assoc before (e ∷ []) front) (legal_rest (before ++ e ∷ []) front rest legal.2)

-- the audit after a longer list
after_longer : (audit rest : List Entry) → Legal (audit ++ rest) → audit ++ fresh audit (audit ++ rest) ≡ audit ++ rest
after_longer audit rest legal =
    let none : fresh audit audit ≡ [] = subst (λ l. fresh l audit ≡ []) (append-nil audit) (fresh_none [] audit []) in
    let all : fresh audit rest ≡ rest = fresh_all audit [] rest (rw append-nil (legal_rest [] audit rest legal)) in
    ap (λ l. audit ++ l) (filter-append (λ e. not (is_in (ids audit) e.sealed.id)) audit rest ∙ ap (λ l. l ++ fresh audit rest) none ∙ all)

-- the audit after a list that begins it
after_shorter : (es rest : List Entry) → (es ++ rest) ++ fresh (es ++ rest) es ≡ es ++ rest
after_shorter es rest = ap (λ l. (es ++ rest) ++ l) (fresh_none [] es rest) ∙ append-nil (es ++ rest)

pub none_decided : (sets : List (List ℕ)) (h : History) → IsDecidedList sets h []
none_decided sets h = record { n = 0; k = 0; is = refl; fits = omega arith; decided = inl refl }

module _ (p : ℕ → ℕ) (z : ℕ) (sets : List (List ℕ)) (h : History) (sound : IsSound p z sets h) where
  -- beginnings of one list
  either : (xs ys zs : List Entry) → Begins xs zs → Begins ys zs → Begins xs ys ⊎ Begins ys xs
  either xs ys zs a b =
      let which : (length xs ≤ length ys) ⊎ (length ys ≤ length xs) = grind arith in
      elim which [ inl le ↦ inl (Begins-compare a b le) | inr le ↦ inr (Begins-compare b a le) ]

  decided_either : (n k n' k' : ℕ) → IsDecided sets h n k → IsDecided sets h n' k' → Begins (take k (h.grown n)) (take k' (h.grown n')) ⊎ Begins (take k' (h.grown n')) (take k (h.grown n))
  decided_either n k n' k' d d' = elim (cases_order n n') [
    | inl same ↦ either (take k (h.grown n)) (take k' (h.grown n')) (h.grown n') (subst (λ v. Begins (take k (h.grown n)) (h.grown v)) same (Begins-take k (h.grown n))) (Begins-take k' (h.grown n'))
    | inr apart ↦ (elim apart [
      | inl below ↦ either (take k (h.grown n)) (take k' (h.grown n')) (h.grown n') (decided_begins_grown p z sets h sound n n' k d'.log d below d'.begun) (Begins-take k' (h.grown n'))
      | inr above ↦ either (take k (h.grown n)) (take k' (h.grown n')) (h.grown n) (Begins-take k (h.grown n)) (decided_begins_grown p z sets h sound n' n k' d.log d' above d.begun)
    ])
  ]

  -- of two decided lists one begins the other
  pub compare_decided : (xs ys : List Entry) → IsDecidedList sets h xs → IsDecidedList sets h ys → Begins xs ys ⊎ Begins ys xs
  compare_decided xs ys a b = elim a.decided [
    | inl none ↦ inl (subst (λ l. Begins l ys) (sym (a.is ∙ ap (λ k. take k (h.grown a.n)) none)) (Begins-nil ys))
    | inr one ↦ (elim b.decided [
      | inl none ↦ inr (subst (λ l. Begins l xs) (sym (b.is ∙ ap (λ k. take k (h.grown b.n)) none)) (Begins-nil xs))
      | inr two ↦ subst (λ l. Begins l ys ⊎ Begins ys l) (sym a.is) (subst (λ l. Begins (take a.k (h.grown a.n)) l ⊎ Begins l (take a.k (h.grown a.n))) (sym b.is) (decided_either a.n a.k b.n b.k one two))
    ])
  ]

  pub decided_legal : (xs : List Entry) → IsDecidedList sets h xs → Legal xs
  decided_legal xs a =
      let b = Begins-take a.k (h.grown a.n) in
      subst (λ l. Legal l) (sym a.is) (LegalFrom-front [] (take a.k (h.grown a.n)) b.rest (subst (λ l. Legal l) (sym b.whole) (sound.legal a.n)))

  -- the audit after what a copy shows to be decided
  pub record Audited (audit es : List Entry) : Type 0 where
    pub decided : IsDecidedList sets h (audit ++ fresh audit es)
    pub covers : Begins es (audit ++ fresh audit es)

  pub audit_step : (audit es : List Entry) → IsDecidedList sets h audit → IsDecidedList sets h es → Audited audit es
  audit_step audit es a b = elim (compare_decided audit es a b) [
    | inl longer ↦ (
        let legal : Legal (audit ++ longer.rest) = subst (λ l. Legal l) (sym longer.whole) (decided_legal es b) in
        let same : audit ++ fresh audit es ≡ es = subst (λ l. audit ++ fresh audit l ≡ l) longer.whole (after_longer audit longer.rest legal) in
        record { decided = subst (λ l. IsDecidedList sets h l) (sym same) b; covers = subst (λ l. Begins es l) (sym same) (Begins-refl es) })
    | inr shorter ↦ (
        let same : audit ++ fresh audit es ≡ audit = subst (λ l. l ++ fresh l es ≡ l) shorter.whole (after_shorter es shorter.rest) in
        record { decided = subst (λ l. IsDecidedList sets h l) (sym same) a; covers = subst (λ l. Begins es l) (sym same) shorter })
  ]

  -- what a copy shows to be decided is
  pub shown_decided : (d : ℕ) (c : Daemon) (r : Role) → StateOk z sets p h d c → RoleOk z sets p h d c r → IsDecidedList sets h (decided_by r c.log)
  shown_decided d c Idle state ok = none_decided sets h
  shown_decided d c (Peering informed) state ok = none_decided sets h
  shown_decided d c (Installing done) state ok = none_decided sets h
  shown_decided d c (Active None) state ok =
      let owns = ok.0 in
      let long : length c.log ≡ length (h.grown c.promise) = ap (λ l. length l) owns.whole in
      record {
        n = c.promise;
        k = length c.log;
        is = owns.whole ∙ sym (ap (λ k. take k (h.grown c.promise)) long ∙ take-length (h.grown c.promise));
        fits = omega arith;
        decided = inr (record { log = state.source; begun = subst (λ v. h.chosen v ≡ Some state.source) owns.is_base state.source_is; later = owns.leads.later; by_all = ok.1 });
      }
  shown_decided d c (Active (Some holders)) state ok =
      let owns = ok.0 in
      let long : length c.log ≡ length (h.grown c.promise) = ap (λ l. length l) owns.whole in
      record {
        n = c.promise;
        k = length c.log - 1;
        is = ap (λ l. take (length c.log - 1) l) owns.whole;
        fits = omega arith;
        decided = inr (record { log = state.source; begun = subst (λ v. h.chosen v ≡ Some state.source) owns.is_base state.source_is; later = owns.leads.later; by_all = ok.1.before });
      }

pub IsDecidedList-stays : (z : ℕ) (sets : List (List ℕ)) (d : ℕ) (p : ℕ → ℕ) (h : History) (p' : ℕ → ℕ) (h' : History) → Extends sets d p h p' h' → (xs : List Entry) → IsDecidedList sets h xs → IsDecidedList sets h' xs
IsDecidedList-stays z sets d p h p' h' to xs a =
    let b = to.grows a.n in
    let same : take a.k (h'.grown a.n) ≡ take a.k (h.grown a.n) = ap (λ l. take a.k l) (sym b.whole) ∙ take-append-le a.k (h.grown a.n) b.rest a.fits in
    record {
      n = a.n;
      k = a.k;
      is = a.is ∙ sym same;
      fits = omega (arith, a.fits, Begins-length b);
      decided = elim a.decided [ inl none ↦ inl none | inr one ↦ inr (IsDecided-stays z sets d p h p' h' to a.n a.k one) ];
    }

pub IsDecidedList-longer : (z : ℕ) (sets : List (List ℕ)) (acting : List ℕ) (p : ℕ → ℕ) (h : History) → IsSound p z sets h → (xs : List Entry) → IsDecidedList sets h xs → IsDecidedList (sets ++ acting ∷ []) h xs
IsDecidedList-longer z sets acting p h sound xs a = record {
  n = a.n;
  k = a.k;
  is = a.is;
  fits = a.fits;
  decided = elim a.decided [ inl none ↦ inl none | inr one ↦ inr (IsDecided-longer z sets acting p h sound a.n a.k one) ];
}

-- a list that all of some entries begin is as long as the longer of it and these
pub audit_length : (audit es : List Entry) → Legal (audit ++ fresh audit es) → Begins es (audit ++ fresh audit es) → length (audit ++ fresh audit es) ≡ max (length audit) (length es)
audit_length audit es legal covers =
    let grows : Begins audit (audit ++ fresh audit es) = record { rest = fresh audit es; whole = refl } in
    let which : (length es ≤ length audit) ⊎ (length audit ≤ length es) = grind arith in
    elim which [
      | inl le ↦ (
          let b = Begins-compare covers grows le in
          let same : audit ++ fresh audit es ≡ audit = subst (λ l. l ++ fresh l es ≡ l) b.whole (after_shorter es b.rest) in
          ap length same ∙ as_max_left (length audit) (length es) le)
      | inr le ↦ (
          let b = Begins-compare grows covers le in
          let of_es : Legal es = LegalFrom-front [] es covers.rest (subst (λ l. Legal l) (sym covers.whole) legal) in
          let same : audit ++ fresh audit es ≡ es = subst (λ l. audit ++ fresh audit l ≡ l) b.whole (after_longer audit b.rest (subst (λ l. Legal l) (sym b.whole) of_es)) in
          ap length same ∙ as_max_right (length audit) (length es) le)
    ]
  where
    as_max_left : (m n : ℕ) → n ≤ m → m ≡ max m n
    as_max_left m n le = omega arith

    as_max_right : (m n : ℕ) → m ≤ n → n ≡ max m n
    as_max_right m n le = omega arith
