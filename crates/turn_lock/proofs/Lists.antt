-- Lists of turns: beginnings, the entries of one seat, and the tickets that all seats may draw.
use Rattle.std.proofs.Common.{◌≡◌, ◌≢◌, ℕ, ◌≤◌, eqb, true, false, cond, ◌⊎◌, inl, inr, ⊎_elim, List, [], ◌∷◌, ◌++◌, length, refl, sym, ap, ◌∙◌, subst, arith, eq-eqb, ne_eqb, length-append}
use Rattle.std.proofs.lemmas.List.{append_assoc, append-nil}
use Rattle.atomic_table.specs.Table.{rest}
use Rattle.turn_lock.specs.declared.rule.Made.{Made}
use Rattle.turn_lock.specs.Turns.{StartsWith, made, made_by}

module _ {X : Type 0} where
  -- a token that has taken one slot has no other
  pub held_alone : {V : Type 0} → (me : V × List (ℕ × X)) (view : V) (one : ℕ × X) → me ≡ (view, one ∷ []) → me.1 ≡ one ∷ rest me.1
  held_alone {V} me view one is = let held : me.1 ≡ one ∷ [] = ap (λ (m : V × List (ℕ × X)). m.1) is in held ∙ ap (λ l. one ∷ rest l) (sym held)

  pub starts_whole : (xs : List X) → StartsWith xs xs
  starts_whole xs = ([], sym (append-nil xs))

  pub starts_none : (xs : List X) → StartsWith xs []
  starts_none xs = (xs, refl)

  pub starts_more : (xs seen ys : List X) → StartsWith xs seen → StartsWith (xs ++ ys) seen
  starts_more xs seen ys p = (p.0 ++ ys, ap (λ l. l ++ ys) p.1 ∙ append_assoc seen p.0 ys)

  pub starts_through : (xs ys zs : List X) → StartsWith xs ys → StartsWith ys zs → StartsWith xs zs
  starts_through xs ys zs p q = (q.0 ++ p.0, p.1 ∙ (ap (λ l. l ++ p.0) q.1 ∙ append_assoc zs q.0 p.0))

  -- two lists that begin with one another are one list
  pub starts_both : (xs ys : List X) → StartsWith xs ys → StartsWith ys xs → xs ≡ ys
  starts_both xs ys ([], is) q = is ∙ append-nil ys
  starts_both xs ys (z ∷ zs, is) (rest, is') = absurd (omega (arith, ap length is, ap length is', length-append ys (z ∷ zs), length-append xs rest))

  pub starts_of_none : (xs : List X) → StartsWith [] xs → xs ≡ []
  starts_of_none [] p = refl
  starts_of_none (x ∷ xs) p = absurd (omega (arith, ap length p.1))

  -- of two beginnings of one list the shorter begins the longer
  pub shorter_begins : (log a b : List X) → StartsWith log a → StartsWith log b → length b ≤ length a → StartsWith a b
  shorter_begins log a [] p q h = (a, refl)
  shorter_begins log [] (y ∷ ys) p q h = absurd (omega arith)
  shorter_begins log (x ∷ xs) (y ∷ ys) p q h =
      let e : x ∷ (xs ++ p.0) ≡ y ∷ (ys ++ q.0) = sym p.1 ∙ q.1 in
      let first : x ≡ y = cc in
      let others : xs ++ p.0 ≡ ys ++ q.0 = cc in
      let r : StartsWith xs ys = shorter_begins (xs ++ p.0) xs ys (p.0, refl) (q.0, others) (omega arith) in
      (r.0, λ i. first i ∷ r.1 i)

-- where a list ends with m, an element that stands in it is m, or stands before it
pub cut_last : {X : Type 0} → (log before rest : List X) (m n : X) → log ++ m ∷ [] ≡ before ++ n ∷ rest → ((more : List X) × (log ≡ before ++ n ∷ more)) ⊎ ((log ≡ before) × (m ≡ n))
cut_last [] [] rest m n is = let same : m ≡ n = cc in inr (refl, same)
cut_last [] (y ∷ ys) rest m n is = absurd (let short : 0 ≡ length (ys ++ n ∷ rest) = cc in let long = length-append ys (n ∷ rest) in omega arith)
cut_last (x ∷ xs) [] rest m n is = let same : x ≡ n = cc in inl (xs, ap (λ z. z ∷ xs) same)
cut_last (x ∷ xs) (y ∷ ys) rest m n is =
    let same : x ≡ y = cc in
    let rests : xs ++ m ∷ [] ≡ ys ++ n ∷ rest = cc in
    ⊎_elim (λ t. inl (t.0, λ i. same i ∷ t.1 i)) (λ t. inr ((λ i. same i ∷ t.0 i), t.1)) (cut_last xs ys rest m n rests)

pub nothing_cut : {X : Type 0} → (before rest : List X) (m : X) → [] ≡ before ++ m ∷ rest → ⊥
nothing_cut before rest m is = let long = length-append before (m ∷ rest) in let none : 0 ≡ length (before ++ m ∷ rest) = ap length is in omega arith

module _ {E : Type 0} where
  pub made_by-append : (by : ℕ) (xs ys : List (Made E)) → made_by by (xs ++ ys) ≡ made_by by xs ++ made_by by ys
  made_by-append by [] ys = refl
  made_by-append by (m ∷ ms) ys =
      elim (eqb m.by by) as (λ b. cond b (m.entry ∷ made_by by (ms ++ ys)) (made_by by (ms ++ ys)) ≡ cond b (m.entry ∷ made_by by ms) (made_by by ms) ++ made_by by ys) [
        | true ↦ ap (λ l. m.entry ∷ l) (made_by-append by ms ys)
        | false ↦ made_by-append by ms ys
      ]

  pub made_by_starts : (by : ℕ) (list seen : List (Made E)) → StartsWith list seen → StartsWith (made_by by list) (made_by by seen)
  made_by_starts by list seen p = (made_by by p.0, ap (made_by by) p.1 ∙ made_by-append by seen p.0)

  -- a seat that sees further, and has made no entry but its own, has its own
  pub own_kept : (by by' by'' : ℕ) (seen seen' : List (Made E)) (mine mine' : List E) → by' ≡ by → by'' ≡ by' → made_by by seen ≡ mine → mine' ≡ mine → StartsWith seen' seen → StartsWith mine' (made_by by' seen')
      → made_by by'' seen' ≡ mine'
  own_kept by by' by'' seen seen' mine mine' same same' own stays further fits =
      let whole : made_by by' seen ≡ mine' = ap (λ b. made_by b seen) same ∙ (own ∙ sym stays) in
      let all : made_by by' seen' ≡ mine' = starts_both (made_by by' seen') mine' (subst (λ (xs : List E). StartsWith (made_by by' seen') xs) whole (made_by_starts by' seen' seen further)) fits in
      ap (λ b. made_by b seen') same' ∙ all

  -- a seat that has made nothing has no entry in what it sees
  pub own_none : (by by' : ℕ) (seen : List (Made E)) (mine : List E) → by' ≡ by → mine ≡ [] → StartsWith mine (made_by by seen) → made_by by' seen ≡ mine
  own_none by by' seen mine same none fits =
      ap (λ b. made_by b seen) same ∙ (starts_of_none (made_by by seen) (subst (λ (xs : List E). StartsWith xs (made_by by seen)) none fits) ∙ sym none)

  -- one more entry, of this seat
  pub made_by-own : (by : ℕ) (log : List (Made E)) (e : E) → made_by by (log ++ made by e ∷ []) ≡ made_by by log ++ e ∷ []
  made_by-own by log e = made_by-append by log (made by e ∷ []) ∙ ap (λ b. made_by by log ++ cond b (e ∷ []) []) (eq-eqb by by refl)

  -- one more entry, of another seat
  pub made_by-other : (by other : ℕ) (log : List (Made E)) (e : E) → other ≢ by → made_by by (log ++ made other e ∷ []) ≡ made_by by log
  made_by-other by other log e ne = made_by-append by log (made other e ∷ []) ∙ (ap (λ b. made_by by log ++ cond b (e ∷ []) []) (ne_eqb other by ne) ∙ append-nil (made_by by log))
