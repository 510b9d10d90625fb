-- Requests that groups take together, and give back.
use Prim.Native.Nat.{zero, suc}
use Rattle.std.proofs.Common.{◌≡◌, ◌∙◌, ℕ, ◌+◌, ◌-◌, ◌<◌, ◌||◌, List, [], ◌∷◌, ◌++◌, Bool, true, false, Some, get_or, take, drop, length, refl, sym, ap, subst, arith}
use Rattle.std.specs.Prelude.{slice_get, slice_set}
use Rattle.std.specs.List.{list_any}
use Rattle.std.specs.Option.{option_map_or}
use Rattle.std.proofs.lemmas.List.{take_more}
use Rattle.std.proofs.Math.Seq.{take-length}
use Rattle.std.specs.Bool.{◌==◌}
use Rattle.std.proofs.lemmas.Option.{slice_get_read}
use Rattle.store_core.specs.Request.{Sealed}
use Rattle.group_model_whole.specs.Each.{Each}
use Rattle.group_model.specs.Group.{Group, Submit, group_step, has_all_requests}
use Rattle.group_model.specs.Reached.{HasJustTaken}
use Rattle.world_front.proofs.Bytes.{number_same}
use Rattle.world_core.specs.Taking.{Takes, TakesAll, is_full_at}
use Rattle.world_core.proofs.RunPlaces.{set_there}

-- ---- tests over places

each_get : (P : ℕ → Type 0) (xs : List ℕ) (i d : ℕ) → Each P xs → i < length xs → P (get_or xs i d)
each_get P [] i d all low = absurd (omega arith)
each_get P (x ∷ xs) zero d all low = all.0
each_get P (x ∷ xs) (suc i) d all low = each_get P xs i d all.1 (omega arith)

or_later : (a b : Bool) → b ≡ true → (a || b) ≡ true
or_later true b h = refl
or_later false b h = h

any_at : (test : ℕ → Bool) (xs : List ℕ) (i d : ℕ) → i < length xs → test (get_or xs i d) ≡ true → list_any test xs ≡ true
any_at test [] i d low h = absurd (omega arith)
any_at test (x ∷ xs) zero d low h = ap (λ b. b || list_any test xs) h
any_at test (x ∷ xs) (suc i) d low h = or_later (test x) (list_any test xs) (any_at test xs i d (omega arith) h)

any_append : (test : ℕ → Bool) (xs : List ℕ) (x : ℕ) → list_any test xs ≡ false → test x ≡ false → list_any test (xs ++ x ∷ []) ≡ false
any_append test [] x h k = ap (λ b. b || false) k
any_append test (y ∷ ys) x h k = go (test y) h (λ e. any_append test ys x e k)
  where
    go : (b : Bool) → (b || list_any test ys) ≡ false → (list_any test ys ≡ false → list_any test (ys ++ x ∷ []) ≡ false) → (b || list_any test (ys ++ x ∷ [])) ≡ false
    go true e more = absurd (cc)
    go false e more = more e

-- what the group at a place says
tests_at : (groups : List Group) (places : List ℕ) (i : ℕ) (g : Group) (b : Bool) → Each (λ place. place < length groups) places → i < length places → g ≡ get_or groups (get_or places i 0) g → b ≡ has_all_requests g
    → is_full_at groups (get_or places i 0) ≡ b
tests_at groups places i g b all low is test =
    let place : ℕ = get_or places i 0 in
    let there : slice_get groups place ≡ Some g = slice_get_read groups (length groups) place g refl (each_get (λ p. p < length groups) places i 0 all low) is in
    ap (λ o. option_map_or has_all_requests o false) there ∙ sym test

pub one_full : (groups : List Group) (places : List ℕ) (i : ℕ) (g : Group) (b : Bool) → Each (λ place. place < length groups) places → i < length places → g ≡ get_or groups (get_or places i 0) g → b ≡ has_all_requests g → b ≡ true
    → true ≡ list_any (is_full_at groups) places
one_full groups places i g b all low is test full = sym (any_at (is_full_at groups) places i 0 low (tests_at groups places i g b all low is test ∙ full))

pub none_full : (groups : List Group) (places : List ℕ) (i : ℕ) (g : Group) (b : Bool) → Each (λ place. place < length groups) places → i < length places → g ≡ get_or groups (get_or places i 0) g → b ≡ has_all_requests g → b ≡ false
    → list_any (is_full_at groups) (take i places) ≡ false → list_any (is_full_at groups) (take (i + 1) places) ≡ false
none_full groups places i g b all low is test isnt before =
    ap (list_any (is_full_at groups)) (take_more places i 0 low)
    ∙ any_append (is_full_at groups) (take i places) (get_or places i 0) before (tests_at groups places i g b all low is test ∙ isnt)

-- ---- giving back

set_back : (gs : List Group) (place : ℕ) (g h : Group) → slice_get gs place ≡ Some g → slice_set (slice_set gs place h) place g ≡ gs
set_back [] place g h there = refl
set_back (x ∷ xs) zero g h there = let same : x ≡ g = cc in ap (λ v. v ∷ xs) (sym same)
set_back (x ∷ xs) (suc place) g h there = ap (λ l. x ∷ l) (set_back xs place g h there)

there_low : (gs : List Group) (place : ℕ) (g : Group) → slice_get gs place ≡ Some g → place < length gs
there_low [] place g h = absurd (cc)
there_low (x ∷ xs) zero g h = omega arith
there_low (x ∷ xs) (suc place) g h = let r : place < length xs = there_low xs place g h in omega arith

read_is : (gs : List Group) (place : ℕ) (g v : Group) → slice_get gs place ≡ Some g → v ≡ get_or gs place v → v ≡ g
read_is gs place g v there is = let both : Some v ≡ Some g = sym (slice_get_read gs (length gs) place v refl (there_low gs place g there) is) ∙ there in cc

-- the group after a request was taken
pub just_taken : (before gs : List Group) (place : ℕ) (s : Sealed) (v : Group) (h : Takes before place s gs) → v ≡ get_or gs place v → HasJustTaken v h.group s
just_taken before gs place s v h is =
    let there : slice_get gs place ≡ Some (group_step h.group (Submit s)) = ap (λ l. slice_get l place) h.are ∙ set_there before place h.group (group_step h.group (Submit s)) h.there in
    record { reached = h.reached; taken = h.taken; is = read_is gs place (group_step h.group (Submit s)) v there is }

pub given_back : (before gs : List Group) (place : ℕ) (s : Sealed) (v now : Group) (h : Takes before place s gs) → v ≡ get_or gs place v → ((b : Group) (r : Sealed) → HasJustTaken v b r → now ≡ b) → slice_set gs place now ≡ before
given_back before gs place s v now h is back =
    ap (slice_set gs place) (back h.group s (just_taken before gs place s v h is))
    ∙ ap (λ l. slice_set l place h.group) h.are
    ∙ set_back before place h.group (group_step h.group (Submit s)) h.there

rest_of : (p : ℕ) (ps : List ℕ) → take (length (p ∷ ps) - 1) (drop 1 (p ∷ ps)) ≡ ps
rest_of p ps = ap (λ n. take n ps) (less (length ps)) ∙ take-length ps
  where
    less : (n : ℕ) → suc n - 1 ≡ n
    less n = omega arith

pub all_given_back : (before gs between hs : List Group) (places : List ℕ) (requests : List Sealed) → (length places == 0) ≡ false → TakesAll before places requests gs
    → ((b : List Group) (rs : List Sealed) → TakesAll b (take (length places - 1) (drop 1 places)) rs gs → between ≡ b) → ((b : List Group) (s : Sealed) → Takes b (get_or places 0 0) s between → hs ≡ b) → hs ≡ before
all_given_back before gs between hs [] requests some h rest first = absurd (let e : true ≡ false = some in cc)
all_given_back before gs between hs (p ∷ ps) [] some h rest first = absurd h
all_given_back before gs between hs (p ∷ ps) (s ∷ ss) some h rest first =
    let P : List ℕ → Type 0 = λ l. TakesAll h.0 l ss gs in
    let back : between ≡ h.0 = rest h.0 ss (subst P (sym (rest_of p ps)) h.2) in
    let Q : List Group → Type 0 = λ l. Takes before p s l in
    first before s (subst Q (sym back) h.1)

-- where there are no places nothing was taken
pub none_given_back : (before gs : List Group) (places : List ℕ) (requests : List Sealed) → (length places == 0) ≡ true → TakesAll before places requests gs → gs ≡ before
none_given_back before gs [] [] none h = h
none_given_back before gs [] (s ∷ ss) none h = absurd h
none_given_back before gs (p ∷ ps) requests none h = absurd (let e : suc (length ps) ≡ 0 = number_same (suc (length ps)) 0 none in omega arith)

-- the requests behind the first were taken
pub rest_taken : (before gs : List Group) (places : List ℕ) (requests : List Sealed) → (length places == 0) ≡ false → TakesAll before places requests gs
    → (b : List Group) × ((rs : List Sealed) × TakesAll b (take (length places - 1) (drop 1 places)) rs gs)
rest_taken before gs [] requests some h = absurd (let e : true ≡ false = some in cc)
rest_taken before gs (p ∷ ps) [] some h = absurd h
rest_taken before gs (p ∷ ps) (s ∷ ss) some h =
    let P : List ℕ → Type 0 = λ l. TakesAll h.0 l ss gs in
    (h.0, (ss, subst P (sym (rest_of p ps)) h.2))

-- there are fewer of them
pub rest_less : (places : List ℕ) (t : ℕ) → (length places == 0) ≡ false → length places ≡ t → length (take (length places - 1) (drop 1 places)) < t
rest_less [] t some is = absurd (let e : true ≡ false = some in cc)
rest_less (p ∷ ps) t some is = let e : length (take (length (p ∷ ps) - 1) (drop 1 (p ∷ ps))) ≡ length ps = ap length (rest_of p ps) in omega arith

-- and the first was taken before them
pub first_taken : (before gs between : List Group) (places : List ℕ) (requests : List Sealed) → (length places == 0) ≡ false → TakesAll before places requests gs
    → ((b : List Group) (rs : List Sealed) → TakesAll b (take (length places - 1) (drop 1 places)) rs gs → between ≡ b) → (b : List Group) × ((s : Sealed) × Takes b (get_or places 0 0) s between)
first_taken before gs between [] requests some h rest = absurd (let e : true ≡ false = some in cc)
first_taken before gs between (p ∷ ps) [] some h rest = absurd h
first_taken before gs between (p ∷ ps) (s ∷ ss) some h rest =
    let P : List ℕ → Type 0 = λ l. TakesAll h.0 l ss gs in
    let back : between ≡ h.0 = rest h.0 ss (subst P (sym (rest_of p ps)) h.2) in
    let Q : List Group → Type 0 = λ l. Takes before p s l in
    (before, (s, subst Q (sym back) h.1))
