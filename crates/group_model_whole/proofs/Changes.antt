-- The one way in which a step takes the history on: at the interval that its daemon promised.
use Rattle.std.proofs.Common.{ℕ, ◌≡◌, ◌≤◌, true, ◌==◌, List, [], refl, sym, ◌∙◌, ap, subst, arith, inl, inr, ◌⊎◌, if◌then◌else◌}
use Rattle.std.specs.Prelude.{Some, None}
use Rattle.std.proofs.lemmas.Bool.{cases_eq, eq-eqb, ne_eqb}
use Rattle.entry_core.specs.Log.{Legal}
use Rattle.store_core.specs.declared.entry.Entry.{Entry}
use Rattle.group_model_whole.specs.ActingSets.{set_of, is_primary}
use Rattle.group_model_whole.specs.History.{Begins, History, Held, IsOpened, IsSound, but_last, IsSettled}
use Rattle.group_model_whole.proofs.Prefixes.{Begins-refl}
use Rattle.group_model_whole.proofs.Invariant.{Extends}
use Rattle.group_model_whole.proofs.Stable.{IsOpened-stays, IsSettled-stays}

-- f, with that value at n
pub put : {X : Type 0} → (ℕ → X) → ℕ → X → ℕ → X
put f n v m = if m == n then v else f m

pub put-same : {X : Type 0} (f : ℕ → X) (n : ℕ) (v : X) → put f n v n ≡ v
unfolding put
put-same f n v = rw (eq-eqb n n refl)

pub put-other : {X : Type 0} (f : ℕ → X) (n : ℕ) (v : X) (m : ℕ) → (m ≡ n → ⊥) → put f n v m ≡ f m
unfolding put
put-other f n v m other = rw (ne_eqb m n other)

-- the history with that at interval n
pub changed : History → ℕ → ℕ → List Entry → List Entry → ℕ → ℕ → History
changed h d n log grown basis k = record {
  chosen = put h.chosen n (Some log);
  grown = put h.grown n grown;
  basis = put h.basis n basis;
  held = λ m j. if m == d then put (h.held d) n (Some k) j else h.held m j;
}

pub changed-chosen : (h : History) (d n : ℕ) (log grown : List Entry) (basis k : ℕ) → (changed h d n log grown basis k).chosen n ≡ Some log
unfolding changed
changed-chosen h d n log grown basis k = put-same h.chosen n (Some log)

pub changed-grown : (h : History) (d n : ℕ) (log grown : List Entry) (basis k : ℕ) → (changed h d n log grown basis k).grown n ≡ grown
unfolding changed
changed-grown h d n log grown basis k = put-same h.grown n grown

pub changed-held : (h : History) (d n : ℕ) (log grown : List Entry) (basis k : ℕ) → (changed h d n log grown basis k).held d n ≡ Some k
unfolding changed
changed-held h d n log grown basis k = rw (eq-eqb d d refl, put-same (h.held d) n (Some k))

pub changed-held_other : (h : History) (d n : ℕ) (log grown : List Entry) (basis k j : ℕ) → (j ≡ n → ⊥) → (changed h d n log grown basis k).held d j ≡ h.held d j
unfolding changed
changed-held_other h d n log grown basis k j other = rw (eq-eqb d d refl, put-other (h.held d) n (Some k) j other)

pub changed-chosen_other : (h : History) (d n : ℕ) (log grown : List Entry) (basis k j : ℕ) → (j ≡ n → ⊥) → (changed h d n log grown basis k).chosen j ≡ h.chosen j
unfolding changed
changed-chosen_other h d n log grown basis k j other = put-other h.chosen n (Some log) j other

pub changed-grown_other : (h : History) (d n : ℕ) (log grown : List Entry) (basis k j : ℕ) → (j ≡ n → ⊥) → (changed h d n log grown basis k).grown j ≡ h.grown j
unfolding changed
changed-grown_other h d n log grown basis k j other = put-other h.grown n grown j other

pub changed-basis : (h : History) (d n : ℕ) (log grown : List Entry) (basis k : ℕ) → (changed h d n log grown basis k).basis n ≡ basis
unfolding changed
changed-basis h d n log grown basis k = put-same h.basis n basis

pub changed-basis_other : (h : History) (d n : ℕ) (log grown : List Entry) (basis k j : ℕ) → (j ≡ n → ⊥) → (changed h d n log grown basis k).basis j ≡ h.basis j
unfolding changed
changed-basis_other h d n log grown basis k j other = put-other h.basis n basis j other

-- what makes such a change sound
pub record CanChange (min_size : ℕ) (sets : List (List ℕ)) (promise : ℕ → ℕ) (h : History) (d n : ℕ) (log grown : List Entry) (basis k : ℕ) : Type 0 where
  pub forward : promise d ≤ n
  pub later : 1 ≤ n
  pub same : (old : List Entry) → h.chosen n ≡ Some old → (log ≡ old) × (basis ≡ h.basis n)
  pub grows : Begins (h.grown n) grown
  pub begins : Begins log grown
  pub more : (q : ℕ) → h.held d n ≡ Some q → q ≤ k
  pub legal : Legal grown
  pub opened : IsOpened promise min_size sets h n basis log
  pub but_one : IsSettled sets h n (but_last grown)
  pub by_first : ((h.chosen n ≡ Some log) × (h.grown n ≡ grown)) ⊎ (is_primary (set_of sets n) d ≡ true)

module _ (min_size : ℕ) (sets : List (List ℕ)) (promise : ℕ → ℕ) (h : History) (d n : ℕ) (log grown : List Entry) (basis k : ℕ)
    (can : CanChange min_size sets promise h d n log grown basis k) where
  pub changed_extends : Extends sets d promise h (put promise d n) (changed h d n log grown basis k)
  unfolding changed
  changed_extends = record {
    promises = λ m. (elim (cases_eq m d) [
      | inl same ↦ (let e : put promise d n m ≡ n = subst (λ v. put promise d n v ≡ n) (sym same) (put-same promise d n) in let le : promise m ≤ n = subst (λ v. promise v ≤ n) (sym same) can.forward in omega arith)
      | inr other ↦ (let e : put promise d n m ≡ promise m = put-other promise d n m other in omega arith)
    ]);
    others = λ m other. (put-other promise d n m other, λ j. rw (ne_eqb m d other));
    chosen = λ j old is. (elim (cases_eq j n) [
      | inl same ↦ (let was : h.chosen n ≡ Some old = subst (λ v. h.chosen v ≡ Some old) same is in let agree = can.same old was in
          subst (λ v. (put h.chosen n (Some log) v ≡ Some old) × (put h.basis n basis v ≡ h.basis v)) (sym same) (put-same h.chosen n (Some log) ∙ ap Some agree.0, put-same h.basis n basis ∙ agree.1))
      | inr other ↦ (put-other h.chosen n (Some log) j other ∙ is, put-other h.basis n basis j other)
    ]);
    grows = λ j. (elim (cases_eq j n) [
      | inl same ↦ subst (λ v. Begins (h.grown v) (put h.grown n grown v)) (sym same) (subst (λ l. Begins (h.grown n) l) (sym (put-same h.grown n grown)) can.grows)
      | inr other ↦ subst (λ l. Begins (h.grown j) l) (sym (put-other h.grown n grown j other)) (Begins-refl (h.grown j))
    ]);
    frozen = λ j early. (let other : j ≡ n → ⊥ = λ (same : j ≡ n). omega (arith, can.forward) in rw (eq-eqb d d refl, put-other (h.held d) n (Some k) j other));
    kept = λ j q held. (elim (cases_eq j n) [
      | inl same ↦ subst (λ v. Held (changed h d n log grown basis k) d v q) (sym same)
          (let was : h.held d n ≡ Some held.most = subst (λ v. h.held d v ≡ Some held.most) same held.is in
          record { most = k; is = changed-held h d n log grown basis k; enough = omega (arith, can.more held.most was, held.enough) })
      | inr other ↦ record { most = held.most; is = changed-held_other h d n log grown basis k j other ∙ held.is; enough = held.enough }
    ]);
    by_first = λ j. (elim (cases_eq j n) [
      | inl same ↦ (elim can.by_first [
        | inl as_was ↦ inl (subst (λ v. (put h.chosen n (Some log) v ≡ h.chosen v) × (put h.grown n grown v ≡ h.grown v)) (sym same) (put-same h.chosen n (Some log) ∙ sym as_was.0, put-same h.grown n grown ∙ sym as_was.1))
        | inr mine ↦ inr (subst (λ v. is_primary (set_of sets v) d ≡ true) (sym same) mine)
      ])
      | inr other ↦ inl (put-other h.chosen n (Some log) j other, put-other h.grown n grown j other)
    ]);
  }

  pub changed_sound : IsSound promise min_size sets h → IsSound (put promise d n) min_size sets (changed h d n log grown basis k)
  changed_sound sound =
      let to = changed_extends in
      record {
        zero = (to.chosen 0 [] sound.zero).0;
        zero_grown = changed-grown_other h d n log grown basis k 0 (λ (same : 0 ≡ n). omega (arith, can.later)) ∙ sound.zero_grown;
        legal = λ j. (elim (cases_eq j n) [
          | inl same ↦ subst (λ v. Legal ((changed h d n log grown basis k).grown v)) (sym same) (rw (changed-grown h d n log grown basis k) can.legal)
          | inr other ↦ rw (changed-grown_other h d n log grown basis k j other) (sound.legal j)
        ]);
        empty = λ j none. (elim (cases_eq j n) [
          | inl same ↦ (let some = changed-chosen h d n log grown basis k in let none' = subst (λ v. (changed h d n log grown basis k).chosen v ≡ None) same none in absurd (cc))
          | inr other ↦ changed-grown_other h d n log grown basis k j other ∙ sound.empty j (sym (changed-chosen_other h d n log grown basis k j other) ∙ none)
        ]);
        grows = λ j l is. (elim (cases_eq j n) [
          | inl same ↦ (
              let some = changed-chosen h d n log grown basis k in
              let is' = subst (λ v. (changed h d n log grown basis k).chosen v ≡ Some l) same is in
              let agree : l ≡ log = cc in
              subst (λ v. Begins l ((changed h d n log grown basis k).grown v)) (sym same)
              (rw (changed-grown h d n log grown basis k) (rw agree can.begins)))
          | inr other ↦ rw (changed-grown_other h d n log grown basis k j other) (sound.grows j l (sym (changed-chosen_other h d n log grown basis k j other) ∙ is))
        ]);
        opened = λ j l later is. (elim (cases_eq j n) [
          | inl same ↦ (
              let some = changed-chosen h d n log grown basis k in
              let is' = subst (λ v. (changed h d n log grown basis k).chosen v ≡ Some l) same is in
              let agree : l ≡ log = cc in
              subst (λ v. IsOpened (put promise d n) min_size sets (changed h d n log grown basis k) v ((changed h d n log grown basis k).basis v) l) (sym same)
              (rw (changed-basis h d n log grown basis k)
              (rw agree (IsOpened-stays min_size sets d promise h (put promise d n) (changed h d n log grown basis k) to n basis log can.opened))))
          | inr other ↦ rw (changed-basis_other h d n log grown basis k j other)
              (IsOpened-stays min_size sets d promise h (put promise d n) (changed h d n log grown basis k) to j (h.basis j) l
              (sound.opened j l later (sym (changed-chosen_other h d n log grown basis k j other) ∙ is)))
        ]);
        but_one = λ j. (elim (cases_eq j n) [
          | inl same ↦ subst (λ v. IsSettled sets (changed h d n log grown basis k) v (but_last ((changed h d n log grown basis k).grown v))) (sym same)
              (subst (λ l. IsSettled sets (changed h d n log grown basis k) n (but_last l)) (sym (changed-grown h d n log grown basis k))
              (IsSettled-stays min_size sets d promise h (put promise d n) (changed h d n log grown basis k) to n (but_last grown) can.but_one))
          | inr other ↦ subst (λ l. IsSettled sets (changed h d n log grown basis k) j (but_last l)) (sym (changed-grown_other h d n log grown basis k j other))
              (IsSettled-stays min_size sets d promise h (put promise d n) (changed h d n log grown basis k) to j (but_last (h.grown j)) (sound.but_one j))
        ]);
      }

-- a promise alone
pub promise_extends : (sets : List (List ℕ)) (promise : ℕ → ℕ) (h : History) (d n : ℕ) → promise d ≤ n → Extends sets d promise h (put promise d n) h
promise_extends sets promise h d n forward = record {
  promises = λ m. (elim (cases_eq m d) [
    | inl same ↦ (let e : put promise d n m ≡ n = subst (λ v. put promise d n v ≡ n) (sym same) (put-same promise d n) in let le : promise m ≤ n = subst (λ v. promise v ≤ n) (sym same) forward in omega arith)
    | inr other ↦ (let e : put promise d n m ≡ promise m = put-other promise d n m other in omega arith)
  ]);
  others = λ m other. (put-other promise d n m other, λ j. refl);
  chosen = λ j old is. (is, refl);
  grows = λ j. Begins-refl (h.grown j);
  frozen = λ j early. refl;
  kept = λ j q held. held;
  by_first = λ j. inl (refl, refl);
}

-- the same history with other promises, none of them lower
pub promise_sound : (min_size : ℕ) (sets : List (List ℕ)) (promise : ℕ → ℕ) (h : History) (d n : ℕ) → promise d ≤ n → IsSound promise min_size sets h → IsSound (put promise d n) min_size sets h
promise_sound min_size sets promise h d n forward sound = record {
  zero = sound.zero;
  zero_grown = sound.zero_grown;
  legal = sound.legal;
  empty = sound.empty;
  grows = sound.grows;
  opened = λ j l later is. IsOpened-stays min_size sets d promise h (put promise d n) h (promise_extends sets promise h d n forward) j (h.basis j) l (sound.opened j l later is);
  but_one = sound.but_one;
}
