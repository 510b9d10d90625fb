-- Where in a list the elements stand that pass a test.
use Rattle.std.proofs.Common.{ℕ, zero, suc, inl, inr, ◌≡◌, ◌+◌, ◌-◌, ◌≤◌, ◌<◌, Bool, true, false, not, ◌==◌, ◌&&◌, ◌||◌, cond, nat_eq, List, [], ◌∷◌, ◌++◌, map, length, get_or, take, filter, filter_map, position, Option, Some, slice_get, refl, sym, ◌∙◌, ap, subst, arith, eqb-true, eq-eqb, true≢false, nat_lt, remove, if◌then◌else◌}
use Rattle.std.specs.List.{list_any, cons_option, position_or_len, IsDistinct, AllByRecursion}
use Rattle.std.proofs.Math.Seq.{take-append_seam}
use Rattle.std.proofs.lemmas.List.{append-nil, length-append, map-append, take_more, take_all}
use Rattle.std.proofs.lemmas.List.Elements.{filter_map-append}
use Rattle.std.proofs.lemmas.Bool.{ne_eqb, cases_lt}
use Rattle.std.proofs.lemmas.Option.{same_Some, none-some, cond_some, slice_get_within, get_or_from_slice_get}
use Rattle.std.proofs.lemmas.List.Folds.{list_any-append}
use Rattle.std.proofs.lemmas.Map.Keys.{IsDistinct-head, IsDistinct-tail}
use Rattle.store_core.specs.Request.{Sealed}
use Rattle.group_model.specs.Types.{Body}
use Rattle.group_model.specs.Group.{Answer, is_answered, is_submitted, to_daemon, to_primary}
use Rattle.group_model_whole.proofs.ById.{same_turned, some_has}
use Rattle.group_wire.specs.Places.{places_from, open_places, IsPlaceOf, IsRising}

-- ---- two lists, one behind the other

places-append : {X : Type 0} (p : X → Bool) (n m : ℕ) (xs ys : List X) → m ≡ n + length xs → places_from p n (xs ++ ys) ≡ places_from p n xs ++ places_from p m ys
places-append p n m [] ys is = (let same : n ≡ m = omega arith in ap (λ k. places_from p k ys) same)
places-append p n m (x ∷ xs) ys is = go (places-append p (n + 1) m xs ys (omega arith)) (p x)
  where
    go : places_from p (n + 1) (xs ++ ys) ≡ places_from p (n + 1) xs ++ places_from p m ys → (b : Bool) → (if b then n ∷ places_from p (n + 1) (xs ++ ys) else places_from p (n + 1) (xs ++ ys))
        ≡ (if b then n ∷ places_from p (n + 1) xs else places_from p (n + 1) xs) ++ places_from p m ys
    go rest true = ap (λ l. n ∷ l) rest
    go rest false = rest

pub places-push : {X : Type 0} (p : X → Bool) (xs : List X) (x : X) → places_from p 0 (xs ++ x ∷ []) ≡ places_from p 0 xs ++ (if p x then length xs ∷ [] else [])
places-push p xs x = places-append p 0 (length xs) xs (x ∷ []) (omega arith)

-- ---- they rise

rises_lower : (n m : ℕ) (ks : List ℕ) → n ≤ m → IsRising m ks → IsRising n ks
rises_lower n m [] le r = tt
rises_lower n m (k ∷ ks) le r = (let first = r.0 in (omega arith, r.1))

pub places_rise : {X : Type 0} (p : X → Bool) (n : ℕ) (xs : List X) → IsRising n (places_from p n xs)
places_rise p n [] = tt
places_rise p n (x ∷ xs) = go (places_rise p (n + 1) xs) (p x)
  where
    go : IsRising (n + 1) (places_from p (n + 1) xs) → (b : Bool) → IsRising n (if b then n ∷ places_from p (n + 1) xs else places_from p (n + 1) xs)
    go rest true = (omega arith, rest)
    go rest false = rises_lower n (n + 1) (places_from p (n + 1) xs) (omega arith) rest

rises_least : (n : ℕ) (ks : List ℕ) (j : ℕ) → IsRising n ks → j < length ks → n ≤ get_or ks j 0
rises_least n [] j r lt = absurd (omega arith)
rises_least n (k ∷ ks) zero r lt = r.0
rises_least n (k ∷ ks) (suc j) r lt = (let first = r.0 in let rest = rises_least (k + 1) ks j r.1 (omega arith) in omega arith)

pub rises_in_order : (n : ℕ) (ks : List ℕ) → IsRising n ks → (i j : ℕ) → i ≤ j → j < length ks → get_or ks i 0 ≤ get_or ks j 0
rises_in_order n [] r i j le lt = absurd (omega arith)
rises_in_order n (k ∷ ks) r zero zero le lt = omega arith
rises_in_order n (k ∷ ks) r zero (suc j) le lt = (let rest = rises_least (k + 1) ks j r.1 (omega arith) in omega arith)
rises_in_order n (k ∷ ks) r (suc i) zero le lt = absurd (omega arith)
rises_in_order n (k ∷ ks) r (suc i) (suc j) le lt = rises_in_order (k + 1) ks r.1 i j (omega arith) (omega arith)

-- ---- one is taken out

differs : (a b : ℕ) → (a ≡ b → ⊥) → not (a == b) ≡ true
differs a b ne = go (a == b) refl
  where
    go : (t : Bool) → (a == b) ≡ t → not t ≡ true
    go true e = absurd (ne (eqb-true a b e))
    go false e = refl

pub without_none : (v : ℕ) (ks : List ℕ) → ((j : ℕ) → j < length ks → get_or ks j 0 ≡ v → ⊥) → filter (λ k. not (k == v)) ks ≡ ks
without_none v [] none = refl
without_none v (k ∷ ks) none =
    ap (λ b. cond b (k ∷ filter (λ k. not (k == v)) ks) (filter (λ k. not (k == v)) ks)) (differs k v (none 0 (omega arith)))
    ∙ ap (λ l. k ∷ l) (without_none v ks (λ j lt. none (suc j) (omega arith)))

pub apart : (j i k v : ℕ) → (j < i → k < v) → (i ≤ j → v < k) → k ≡ v → ⊥
apart j i k v below above is = elim (cases_lt j i) [ inl lt ↦ (let less = below lt in omega arith) | inr le ↦ (let more = above le in omega arith) ]

pub without_one : (n v : ℕ) (ks : List ℕ) (j : ℕ) → IsRising n ks → j < length ks → get_or ks j 0 ≡ v → remove ks j ≡ filter (λ k. not (k == v)) ks
without_one n v [] j r lt is = absurd (omega arith)
without_one n v (k ∷ ks) zero r lt is =
    let none : (j : ℕ) → j < length ks → get_or ks j 0 ≡ v → ⊥ = λ j less at. (let rest = rises_least (k + 1) ks j r.1 less in omega arith) in
    sym (ap (λ b. cond (not b) (k ∷ filter (λ k. not (k == v)) ks) (filter (λ k. not (k == v)) ks)) (eq-eqb k v is) ∙ without_none v ks none)
without_one n v (k ∷ ks) (suc j) r lt is =
    let less : j < length ks = omega arith in
    let rest = rises_least (k + 1) ks j r.1 less in
    let other : k ≡ v → ⊥ = λ e. omega arith in
    ap (λ l. k ∷ l) (without_one (k + 1) v ks j r.1 less is)
    ∙ sym (ap (λ b. cond b (k ∷ filter (λ k. not (k == v)) ks) (filter (λ k. not (k == v)) ks)) (differs k v other))

-- ---- fewer pass

places-filter : {X : Type 0} (p r : X → Bool) (q : ℕ → Bool) (n : ℕ) (xs : List X) → ((j : ℕ) (x : X) → slice_get xs j ≡ Some x → r x ≡ (p x && q (n + j))) → places_from r n xs ≡ filter q (places_from p n xs)
places-filter p r q n [] h = refl
places-filter p r q n (x ∷ xs) h =
    let rest : places_from r (n + 1) xs ≡ filter q (places_from p (n + 1) xs) =
    places-filter p r q (n + 1) xs (λ j y at. (let same : n + suc j ≡ n + 1 + j = omega arith in h (suc j) y at ∙ ap (λ k. p y && q k) same)) in
    ap (λ b. if b then n ∷ places_from r (n + 1) xs else places_from r (n + 1) xs) here ∙ ap (λ l. if p x && q n then n ∷ l else l) rest ∙ go (p x)
  where
    here : r x ≡ (p x && q n)
    here = (let same : n + 0 ≡ n = omega arith in h 0 x refl ∙ ap (λ k. p x && q k) same)

    go : (b : Bool) → (if b && q n then n ∷ filter q (places_from p (n + 1) xs) else filter q (places_from p (n + 1) xs))
        ≡ filter q (if b then n ∷ places_from p (n + 1) xs else places_from p (n + 1) xs)
    go true = refl
    go false = refl

places-same : {X : Type 0} (p r : X → Bool) (n : ℕ) (xs : List X) → ((j : ℕ) (x : X) → slice_get xs j ≡ Some x → r x ≡ p x) → places_from r n xs ≡ places_from p n xs
places-same p r n [] h = refl
places-same p r n (x ∷ xs) h =
    ap (λ b. if b then n ∷ places_from r (n + 1) xs else places_from r (n + 1) xs) (h 0 x refl)
    ∙ ap (λ l. if p x then n ∷ l else l) (places-same p r (n + 1) xs (λ j y at. h (suc j) y at))

-- ---- a request is answered

one_answered : (answers : List Answer) (a : Answer) (id : ℕ) → not (is_answered (answers ++ a ∷ []) id) ≡ (not (is_answered answers id) && not (id == a.id))
one_answered answers a id = ap not (list_any-append (λ (v : Answer). v.id == id) answers (a ∷ [])) ∙ go (is_answered answers id) (a.id == id) ∙ ap (λ b. not (is_answered answers id) && not b) (same_turned a.id id)
  where
    go : (u v : Bool) → not (u || (v || false)) ≡ (not u && not v)
    go true v = refl
    go false true = refl
    go false false = refl

pub answer_closes : (requests : List Sealed) (answers : List Answer) (a : Answer) (k : ℕ) → IsPlaceOf requests a.id k → open_places requests (answers ++ a ∷ []) ≡ filter (λ j. not (j == k)) (open_places requests answers)
answer_closes requests answers a k place =
    places-filter (λ (s : Sealed). not (is_answered answers s.id)) (λ (s : Sealed). not (is_answered (answers ++ a ∷ []) s.id)) (λ j. not (j == k)) 0 requests
    (λ j s at. (let same : j ≡ 0 + j = omega arith in one_answered answers a s.id ∙ ap (λ b. not (is_answered answers s.id) && not b) (place j s at) ∙ ap (λ i. not (is_answered answers s.id) && not (i == k)) same))

none_of : (requests : List Sealed) (id : ℕ) → is_submitted requests id ≡ false → (j : ℕ) (s : Sealed) → slice_get requests j ≡ Some s → (s.id == id) ≡ false
none_of [] id none j s at = absurd (none-some s at)
none_of (r ∷ rs) id none zero s at = sym (ap (λ (v : Sealed). v.id == id) (same_Some r s at)) ∙ left (r.id == id) (is_submitted rs id) none
  where
    left : (u v : Bool) → (u || v) ≡ false → u ≡ false
    left true v e = absurd (cc)
    left false v e = refl
none_of (r ∷ rs) id none (suc j) s at = none_of rs id (right (r.id == id) (is_submitted rs id) none) j s at
  where
    right : (u v : Bool) → (u || v) ≡ false → v ≡ false
    right true v e = absurd (cc)
    right false v e = e

pub answer_of_none : (requests : List Sealed) (answers : List Answer) (a : Answer) → is_submitted requests a.id ≡ false → open_places requests (answers ++ a ∷ []) ≡ open_places requests answers
answer_of_none requests answers a none =
    places-same (λ (s : Sealed). not (is_answered answers s.id)) (λ (s : Sealed). not (is_answered (answers ++ a ∷ []) s.id)) 0 requests
    (λ j s at. one_answered answers a s.id ∙ ap (λ b. not (is_answered answers s.id) && not b) (none_of requests a.id none j s at) ∙ and_true (not (is_answered answers s.id)))
  where
    and_true : (b : Bool) → (b && true) ≡ b
    and_true true = refl
    and_true false = refl

-- ---- a request is submitted, or taken back

pub submit_opens : (requests : List Sealed) (answers : List Answer) (s : Sealed) (k : ℕ) → k ≡ length requests → is_answered answers s.id ≡ false → open_places (requests ++ s ∷ []) answers ≡ open_places requests answers ++ k ∷ []
submit_opens requests answers s k is none =
    places-push (λ (v : Sealed). not (is_answered answers v.id)) requests s ∙ ap (λ b. open_places requests answers ++ (if not b then length requests ∷ [] else [])) none
    ∙ ap (λ n. open_places requests answers ++ n ∷ []) (sym is)

pub submit_answered : (requests : List Sealed) (answers : List Answer) (s : Sealed) → is_answered answers s.id ≡ true → open_places (requests ++ s ∷ []) answers ≡ open_places requests answers
submit_answered requests answers s some =
    places-push (λ (v : Sealed). not (is_answered answers v.id)) requests s ∙ ap (λ b. open_places requests answers ++ (if not b then length requests ∷ [] else [])) some
    ∙ append-nil (open_places requests answers)

front_last : {X : Type 0} (xs : List X) (x : X) → slice_get xs (length xs - 1) ≡ Some x → take (length xs - 1) xs ++ x ∷ [] ≡ xs
front_last xs x at =
    let within = slice_get_within xs (length xs - 1) x at in
    let count : length xs - 1 + 1 ≡ length xs = omega arith in
    ap (λ y. take (length xs - 1) xs ++ y ∷ []) (sym (get_or_from_slice_get xs (length xs - 1) x x at)) ∙ sym (take_more xs (length xs - 1) x within)
    ∙ ap (λ n. take n xs) count ∙ take_all (length xs) xs (omega arith)

front_of_push : {X : Type 0} (xs : List X) (x : X) → take (length (xs ++ x ∷ []) - 1) (xs ++ x ∷ []) ≡ xs
front_of_push xs x = (let same : length (xs ++ x ∷ []) - 1 ≡ length xs = omega (arith, length-append xs (x ∷ [])) in ap (λ n. take n (xs ++ x ∷ [])) same ∙ take-append_seam xs (x ∷ []))

pub back_opens : (requests : List Sealed) (answers : List Answer) (s : Sealed) (ks : List ℕ) → slice_get requests (length requests - 1) ≡ Some s → is_answered answers s.id ≡ false → ks ≡ open_places requests answers →
    take (length ks - 1) ks ≡ open_places (take (length requests - 1) requests) answers
back_opens requests answers s ks at none is =
    let front : List Sealed = take (length requests - 1) requests in
    let whole : ks ≡ open_places front answers ++ length front ∷ [] = is ∙ ap (λ l. open_places l answers) (sym (front_last requests s at)) ∙ submit_opens front answers s (length front) refl none in
    ap (λ l. take (length l - 1) l) whole ∙ front_of_push (open_places front answers) (length front)

pub back_answered : (requests : List Sealed) (answers : List Answer) (s : Sealed) (ks : List ℕ) → slice_get requests (length requests - 1) ≡ Some s → is_answered answers s.id ≡ true → ks ≡ open_places requests answers →
    ks ≡ open_places (take (length requests - 1) requests) answers
back_answered requests answers s ks at some is =
    is ∙ ap (λ l. open_places l answers) (sym (front_last requests s at)) ∙ submit_answered (take (length requests - 1) requests) answers s some

-- ---- the open ones are those that are sent again

pub found-places : {X : Type 0} (p : X → Bool) (f : ℕ → Option X) (n : ℕ) (xs : List X) → ((j : ℕ) (x : X) → slice_get xs j ≡ Some x → f (n + j) ≡ Some x) → filter_map f (places_from p n xs) ≡ filter p xs
found-places p f n [] h = refl
found-places p f n (x ∷ xs) h = go (found-places p f (n + 1) xs (λ j y at. (let same : n + 1 + j ≡ n + suc j = omega arith in ap f same ∙ h (suc j) y at))) (p x)
  where
    here : f n ≡ Some x
    here = (let same : n ≡ n + 0 = omega arith in ap f same ∙ h 0 x refl)

    go : filter_map f (places_from p (n + 1) xs) ≡ filter p xs → (b : Bool) → filter_map f (if b then n ∷ places_from p (n + 1) xs else places_from p (n + 1) xs) ≡ cond b (x ∷ filter p xs) (filter p xs)
    go rest true = ap (λ o. cons_option o (filter_map f (places_from p (n + 1) xs))) here ∙ ap (λ l. x ∷ l) rest
    go rest false = rest

pub open_found : (requests : List Sealed) (answers : List Answer) → filter_map (slice_get requests) (open_places requests answers) ≡ filter (λ s. not (is_answered answers s.id)) requests
open_found requests answers = found-places (λ (s : Sealed). not (is_answered answers s.id)) (slice_get requests) 0 requests (λ j s at. (let same : 0 + j ≡ j = omega arith in ap (slice_get requests) same ∙ at))

pub found_more : {X Y Z : Type 0} (g : Y → Z) (h : X → Y) (f : ℕ → Option X) (ks : List ℕ) (i : ℕ) → i < length ks →
    map g (map h (filter_map f (take i ks))) ++ map g (map h (filter_map f (get_or ks i 0 ∷ []))) ≡ map g (map h (filter_map f (take (i + 1) ks)))
found_more g h f ks i lt =
    sym (map-append g (map h (filter_map f (take i ks))) (map h (filter_map f (get_or ks i 0 ∷ []))))
    ∙ ap (λ l. map g l) (sym (map-append h (filter_map f (take i ks)) (filter_map f (get_or ks i 0 ∷ []))))
    ∙ ap (λ l. map g (map h l)) (sym (filter_map-append f (take i ks) (get_or ks i 0 ∷ [])))
    ∙ ap (λ l. map g (map h (filter_map f l))) (sym (take_more ks i 0 lt))

pub to_first : (set : List ℕ) (d : ℕ) (bodies : List Body) → slice_get set 0 ≡ Some d → map (to_daemon d) bodies ≡ to_primary set bodies
to_first [] d bodies at = absurd (none-some d at)
to_first (x ∷ xs) d bodies at = ap (λ n. map (to_daemon n) bodies) (sym (same_Some x d at))

-- ---- the index of an id is the place of its request

abbrev ids_of : List Sealed → List ℕ
ids_of requests = map (λ (s : Sealed). s.id) requests

all_at : (P : ℕ → Type 0) (requests : List Sealed) (j : ℕ) (s : Sealed) → AllByRecursion P (ids_of requests) → slice_get requests j ≡ Some s → P s.id
all_at P [] j s all at = absurd (none-some s at)
all_at P (r ∷ rs) zero s all at = subst (λ (v : Sealed). P v.id) (same_Some r s at) all.0
all_at P (r ∷ rs) (suc j) s all at = all_at P rs j s all.1 at

both_more : (i k : ℕ) → (i == k) ≡ (suc i == 1 + k)
both_more i k = go (i == k) refl
  where
    go : (b : Bool) → (i == k) ≡ b → b ≡ (suc i == 1 + k)
    go true e = (let same = eqb-true i k e in sym (eq-eqb (suc i) (1 + k) (omega arith)))
    go false e = (let other : suc i ≡ 1 + k → ⊥ = λ q. true≢false (sym (eq-eqb i k (omega arith)) ∙ e) in sym (ne_eqb (suc i) (1 + k) other))

place_at : (requests : List Sealed) (id : ℕ) → IsDistinct nat_eq (ids_of requests) → IsPlaceOf requests id (position_or_len (λ k. id == k) (ids_of requests))
place_at [] id once j s at = absurd (none-some s at)
place_at (r ∷ rs) id once j s at = go (λ i here. place_at rs id (IsDistinct-tail nat_eq r.id (ids_of rs) once) i s here) (id == r.id) refl j at
  where
    go : ((i : ℕ) → slice_get rs i ≡ Some s → (s.id == id) ≡ (i == position_or_len (λ k. id == k) (ids_of rs))) → (b : Bool) → (id == r.id) ≡ b → (i : ℕ) → slice_get (r ∷ rs) i ≡ Some s → (s.id == id) ≡ (i == cond (not b) (1 + position_or_len (λ k. id == k) (ids_of rs)) 0)
    go rest true e zero here = sym (ap (λ (v : Sealed). v.id == id) (same_Some r s here)) ∙ same_turned r.id id ∙ e
    go rest true e (suc i) here =
        let same = eqb-true id r.id e in
        ap (λ n. s.id == n) same ∙ same_turned s.id r.id ∙ all_at (λ y. (r.id == y) ≡ false) rs i s (IsDistinct-head nat_eq r.id (ids_of rs) once) here ∙ sym (ne_eqb (suc i) 0 (λ q. omega arith))
    go rest false e zero here =
        sym (ap (λ (v : Sealed). v.id == id) (same_Some r s here)) ∙ same_turned r.id id ∙ e ∙ sym (ne_eqb 0 (1 + position_or_len (λ k. id == k) (ids_of rs)) (λ q. omega arith))
    go rest false e (suc i) here = rest i here ∙ both_more i (position_or_len (λ k. id == k) (ids_of rs))

pub placed : (requests : List Sealed) (ids : List ℕ) (id k : ℕ) → ids ≡ ids_of requests → IsDistinct nat_eq ids → position (λ j. id == j) ids ≡ Some k → IsPlaceOf requests id k
placed requests ids id k is once at =
    let found = cond_some (nat_lt (position_or_len (λ j. id == j) ids) (length ids)) (position_or_len (λ j. id == j) ids) k at in
    let same : position_or_len (λ j. id == j) (ids_of requests) ≡ k = ap (λ l. position_or_len (λ j. id == j) l) (sym is) ∙ found.1 in
    subst (IsPlaceOf requests id) same (place_at requests id (subst (IsDistinct nat_eq) is once))

pub unplaced : (requests : List Sealed) (ids : List ℕ) (id : ℕ) → ids ≡ ids_of requests → list_any (λ k. id == k) ids ≡ false → is_submitted requests id ≡ false
unplaced requests ids id is none = sym (ap (λ l. list_any (λ k. id == k) l) is ∙ some_has (λ (s : Sealed). s.id) requests id) ∙ none
