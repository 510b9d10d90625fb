-- Looking a profile up in the table, and what its use expands to.
use Rattle.std.proofs.Common.{◌≡◌, ℕ, zero, suc, ◌+◌, ◌<◌, ◌≤◌, List, [], ◌∷◌, Bool, true, false, cond, is_some, length, get_or, take, map, reverse, refl, sym, ap, ◌∙◌, subst, arith, length-append, ◌⊎◌, inl, inr}
use Rattle.std.proofs.Math.Numerals.{add-one}
use Rattle.std.proofs.lemmas.Bool.{cases_lt}
use Rattle.std.proofs.lemmas.List.{reverse-append, length-map}
use Rattle.std.proofs.lemmas.Grind.{take_at_read}
use Rattle.std.specs.Option.{option_or}
use Rattle.std.specs.Str.{bytes_eq}
use Rattle.cap_grants.specs.declared.grant.Grant.{Grant}
use Rattle.cap_grants.specs.declared.grant.Grant.TheVariants.{Allow, Profile}
use Rattle.cap_grants.specs.declared.grant.ProfileUse.{ProfileUse}
use Rattle.grant_core.specs.Flat.{Flat, Table, parts_of, numbered, filled, filled_use, under}

abbrev pub nothing : List ℕ × List Grant
nothing = ([], [])

-- one more profile of the table stands first among the newest
next : (t : Table) (k : ℕ) (used : ProfileUse) → k < length t → parts_of (reverse (take (k + 1) t)) used ≡ parts_of (get_or t k nothing ∷ reverse (take k t)) used
next t k used h = ap (λ l. parts_of (reverse l) used) ((take_at_read t k nothing h).1) ∙ ap (λ l. parts_of l used) (reverse-append (take k t) (get_or t k nothing ∷ []))

next_suc : (t : Table) (k : ℕ) (used : ProfileUse) → k < length t → parts_of (reverse (take (suc k) t)) used ≡ parts_of (get_or t k nothing ∷ reverse (take k t)) used
next_suc t k used h = subst (λ n. parts_of (reverse (take n t)) used ≡ parts_of (get_or t k nothing ∷ reverse (take k t)) used) (add-one k) (next t k used h)

-- what a use of the profile at place j expands to
abbrev pub body_parts : Table → ProfileUse → ℕ → Flat
body_parts t used j = numbered (parts_of (reverse (take j t))) 1 (map (filled used) (get_or t j nothing).1)

-- no profile before this place has the name
pub absent : (b : ℕ) (t : Table) (used : ProfileUse) → b ≤ length t → ((k : ℕ) → k < b → bytes_eq used.name (get_or t k nothing).0 ≡ false) → parts_of (reverse (take b t)) used ≡ []
absent zero t used h others = refl
absent (suc k) t used h others =
    let small : k < length t = omega arith in
    let here : bytes_eq used.name (get_or t k nothing).0 ≡ false = others k (omega arith) in
    let rest : parts_of (reverse (take k t)) used ≡ [] = absent k t used (omega arith) (λ i l. others i (omega arith)) in
    next_suc t k used small ∙ ap (λ b. cond b (body_parts t used k) (parts_of (reverse (take k t)) used)) here ∙ rest

found_by : (k : ℕ) (t : Table) (j : ℕ) (used : ProfileUse) → j ≤ k → k < length t → bytes_eq used.name (get_or t j nothing).0 ≡ true
    → (j < k → bytes_eq used.name (get_or t k nothing).0 ≡ false) → (j < k → parts_of (reverse (take k t)) used ≡ body_parts t used j)
    → (j < k) ⊎ (k ≤ j) → parts_of (get_or t k nothing ∷ reverse (take k t)) used ≡ body_parts t used j
found_by k t j used low small here other rest (inl l) =
    ap (λ b. cond b (body_parts t used k) (parts_of (reverse (take k t)) used)) (other l) ∙ rest l
found_by k t j used low small here other rest (inr l) =
    let same : j ≡ k = omega arith in
    ap (λ b. cond b (body_parts t used k) (parts_of (reverse (take k t)) used)) (subst (λ n. bytes_eq used.name (get_or t n nothing).0 ≡ true) same here) ∙ ap (body_parts t used) (sym same)

-- the profile at place j has the name, and none between has it
pub found : (b : ℕ) (t : Table) (j : ℕ) (used : ProfileUse) → j < b → b ≤ length t → bytes_eq used.name (get_or t j nothing).0 ≡ true
    → ((k : ℕ) → j < k → k < b → bytes_eq used.name (get_or t k nothing).0 ≡ false)
    → parts_of (reverse (take b t)) used ≡ body_parts t used j
found zero t j used low h here others = absurd (omega arith)
found (suc k) t j used low h here others =
    next_suc t k used (omega arith)
    ∙ found_by k t j used (omega arith) (omega arith) here (λ l. others k l (omega arith)) (λ l. found k t j used l (omega arith) here (λ i m n. others i m (omega arith))) (cases_lt j k)

-- a list of one use expands to as many grants as the use
pub length-alone : (f : ProfileUse → Flat) (used : ProfileUse) → length (numbered f 1 (Profile used ∷ [])) ≡ length (f used)
length-alone f used = length-append (map (under 1) (f used)) [] ∙ omega (arith, length-map (f used) (under 1))

-- how many grants a grant and those after it expand to
pub length-numbered : (f : ProfileUse → Flat) (i : ℕ) (g : Grant) (gs : List Grant) → length (numbered f i (g ∷ gs)) ≡ length (numbered f 1 (g ∷ [])) + length (numbered f (i + 1) gs)
length-numbered f i (Allow g) gs = omega arith
length-numbered f i (Profile used) gs =
    length-append (map (under i) (f used)) (numbered f (i + 1) gs)
    ∙ ap (λ n. n + length (numbered f (i + 1) gs)) (length-map (f used) (under i) ∙ sym (length-alone f used))

-- a use keeps its name
pub name-filled : (used inner : ProfileUse) → (filled_use used inner).name ≡ inner.name
name-filled used inner = by (is_some inner.pool)
  where
    by : (b : Bool) → (cond b inner (record inner { pool = used.pool; namespace = option_or inner.namespace used.namespace })).name ≡ inner.name
    by true = refl
    by false = refl

-- what a use takes does not change how many there are
same_numbered : (f : ProfileUse → Flat) → ((p q : ProfileUse) → p.name ≡ q.name → length (f p) ≡ length (f q)) → (used : ProfileUse) (i j : ℕ) (gs : List Grant)
    → length (numbered f i (map (filled used) gs)) ≡ length (numbered f j gs)
same_numbered f same used i j [] = refl
same_numbered f same used i j (Allow g ∷ gs) = ap suc (same_numbered f same used (i + 1) (j + 1) gs)
same_numbered f same used i j (Profile p ∷ gs) =
    length-append (map (under i) (f (filled_use used p))) _
    ∙ (λ k. (length-map (f (filled_use used p)) (under i) ∙ same (filled_use used p) p (name-filled used p) ∙ sym (length-map (f p) (under j))) k + same_numbered f same used (i + 1) (j + 1) gs k)
    ∙ sym (length-append (map (under j) (f p)) _)

-- by cases on whether the first profile has the name
by_name : (b : Bool) (x y x' y' : Flat) → length x ≡ length x' → length y ≡ length y' → length (cond b x y) ≡ length (cond b x' y')
by_name true x y x' y' e f = e
by_name false x y x' y' e f = f

-- two uses of one profile expand to the same number of grants
pub names_of : (t : Table) (p q : ProfileUse) → p.name ≡ q.name → length (parts_of t p) ≡ length (parts_of t q)
names_of [] p q e = refl
names_of (profile ∷ before) p q e =
    let body : length (numbered (parts_of before) 1 (map (filled p) profile.1)) ≡ length (numbered (parts_of before) 1 (map (filled q) profile.1)) =
    same_numbered (parts_of before) (names_of before) p 1 1 profile.1 ∙ sym (same_numbered (parts_of before) (names_of before) q 1 1 profile.1) in
    ap (λ n. length (cond (bytes_eq n profile.0) (numbered (parts_of before) 1 (map (filled p) profile.1)) (parts_of before p))) e
    ∙ by_name (bytes_eq q.name profile.0) _ _ _ _ body (names_of before p q e)

-- the body of a profile expands to the same number of grants in any use
pub length-body : (t : Table) (used : ProfileUse) (body : List Grant) → length (numbered (parts_of t) 1 (map (filled used) body)) ≡ length (numbered (parts_of t) 1 body)
length-body t used body = same_numbered (parts_of t) (names_of t) used 1 1 body
