-- Sums over lists, and what passes a test in them.
use Rattle.std.proofs.Common.{ℕ, zero, suc, ◌≡◌, ◌≤◌, ◌<◌, ◌+◌, ◌-◌, ◌*◌, Bool, true, false, not, ◌==◌, ◌||◌, List, [], ◌∷◌, ◌++◌, map, length, take, refl, sym, ◌∙◌, ap, subst, arith, inl, inr, append_assoc, if◌then◌else◌}
use Rattle.std.specs.Prelude.{Some, None, slice_get, slice_set}
use Rattle.std.specs.List.{list_any, list_all, filter}
use Rattle.std.proofs.lemmas.Bool.{cases_eq, eq-eqb, ne_eqb, eqb-true, and_parts, or_cases, or_left, or_right, or_parts, and_from, both_ways, not-true}
use Rattle.entry_core.specs.Log.{is_in, ids, find, decide}
use Rattle.store_core.specs.Request.{Sealed}
use Rattle.store_core.specs.declared.entry.Entry.{Entry}
use Rattle.group_model_whole.specs.ActingSets.{daemons}
use Rattle.group_model_whole.specs.Each.{Each}
use Rattle.group_model_whole.specs.Group.{is_distinct}

abbrev pub one : Bool → ℕ
one true = 1
one false = 0

abbrev pub total : {X : Type 0} → (X → ℕ) → List X → ℕ
total f [] = 0
total f (x ∷ xs) = f x + total f xs

pub total-append : {X : Type 0} (f : X → ℕ) (xs ys : List X) → total f (xs ++ ys) ≡ total f xs + total f ys
total-append f [] ys = omega arith
total-append f (x ∷ xs) ys = let rest = total-append f xs ys in omega arith

pub total-map : {X Y : Type 0} (f : Y → ℕ) (g : X → Y) (xs : List X) → total f (map g xs) ≡ total (λ x. f (g x)) xs
total-map f g [] = refl
total-map f g (x ∷ xs) = let rest = total-map f g xs in omega arith

pub total-same : {X : Type 0} (f g : X → ℕ) → ((x : X) → f x ≡ g x) → (xs : List X) → total f xs ≡ total g xs
total-same f g same [] = refl
total-same f g same (x ∷ xs) = let rest = total-same f g same xs in let here = same x in omega arith

pub total-both : {X : Type 0} (f g : X → ℕ) (xs : List X) → total (λ x. f x + g x) xs ≡ total f xs + total g xs
total-both f g [] = refl
total-both f g (x ∷ xs) = let rest = total-both f g xs in omega arith

pub total-none : {X : Type 0} (xs : List X) → total (λ x. 0) xs ≡ 0
total-none [] = refl
total-none (x ∷ xs) = let rest = total-none xs in omega arith

pub total-twos : {X : Type 0} (xs : List X) → total (λ x. 2) xs ≡ 2 * length xs
total-twos [] = refl
total-twos (x ∷ xs) = let rest = total-twos xs in omega arith

pub length-filter : {X : Type 0} (test : X → Bool) (xs : List X) → length (filter test xs) ≡ total (λ x. one (test x)) xs
length-filter test [] = refl
length-filter test (x ∷ xs) = go (test x) (length-filter test xs)
  where
    go : (b : Bool) → length (filter test xs) ≡ total (λ x. one (test x)) xs → length (if b then x ∷ filter test xs else filter test xs) ≡ one b + total (λ x. one (test x)) xs
    go true rest = omega arith
    go false rest = omega arith

-- lists one after another

abbrev pub joined : {X Y : Type 0} → (X → List Y) → List X → List Y
joined f [] = []
joined f (x ∷ xs) = f x ++ joined f xs

pub joined-append : {X Y : Type 0} (f : X → List Y) (xs ys : List X) → joined f (xs ++ ys) ≡ joined f xs ++ joined f ys
joined-append f [] ys = refl
joined-append f (x ∷ xs) ys = ap (λ v. f x ++ v) (joined-append f xs ys) ∙ sym (append_assoc (f x) (joined f xs) (joined f ys))

pub joined-none : {X Y : Type 0} (f : X → List Y) (g : ℕ → X) (xs : List ℕ) → ((d : ℕ) → f (g d) ≡ []) → joined f (map g xs) ≡ []
joined-none f g [] none = refl
joined-none f g (x ∷ xs) none = ap (λ v. v ++ joined f (map g xs)) (none x) ∙ joined-none f g xs none

pub map-last : {X Y : Type 0} (f : X → Y) (xs : List X) (y : X) (zs : List Y) → map f (xs ++ y ∷ []) ++ zs ≡ map f xs ++ f y ∷ zs
map-last f [] y zs = refl
map-last f (x ∷ xs) y zs = ap (λ v. f x ∷ v) (map-last f xs y zs)

-- tests

pub none_passes : {X : Type 0} (test : X → Bool) (xs : List X) → total (λ x. one (test x)) xs ≡ 0 → list_any test xs ≡ false
none_passes test [] none = refl
none_passes test (x ∷ xs) none = go (test x) none (none_passes test xs)
  where
    go : (b : Bool) → one b + total (λ x. one (test x)) xs ≡ 0 → (total (λ x. one (test x)) xs ≡ 0 → list_any test xs ≡ false) → (b || list_any test xs) ≡ false
    go true none rest = absurd (omega arith)
    go false none rest = rest (omega arith)

pub one_passes : {X : Type 0} (test : X → Bool) (xs : List X) → 1 ≤ total (λ x. one (test x)) xs → list_any test xs ≡ true
one_passes test [] some = absurd (omega arith)
one_passes test (x ∷ xs) some = go (test x) some (one_passes test xs)
  where
    go : (b : Bool) → 1 ≤ one b + total (λ x. one (test x)) xs → (1 ≤ total (λ x. one (test x)) xs → list_any test xs ≡ true) → (b || list_any test xs) ≡ true
    go true some rest = refl
    go false some rest = rest (omega arith)

pub log_without : (log : List Entry) (id : ℕ) → total (λ e. one (e.sealed.id == id)) log ≡ 0 → is_in (ids log) id ≡ false
log_without [] id none = refl
log_without (e ∷ log) id none = go (e.sealed.id == id) none (log_without log id)
  where
    go : (b : Bool) → one b + total (λ e. one (e.sealed.id == id)) log ≡ 0 → (total (λ e. one (e.sealed.id == id)) log ≡ 0 → is_in (ids log) id ≡ false) → (b || is_in (ids log) id) ≡ false
    go true none rest = absurd (omega arith)
    go false none rest = rest (omega arith)

pub finds_none : (log : List Entry) (id : ℕ) → total (λ e. one (e.sealed.id == id)) log ≡ 0 → find log id ≡ None
finds_none [] id none = refl
finds_none (e ∷ log) id none = go (e.sealed.id == id) none (finds_none log id)
  where
    go : (b : Bool) → one b + total (λ e. one (e.sealed.id == id)) log ≡ 0 → (total (λ e. one (e.sealed.id == id)) log ≡ 0 → find log id ≡ None) → (if b then Some e else find log id) ≡ None
    go true none rest = absurd (omega arith)
    go false none rest = rest (omega arith)

pub all_at : (test : ℕ → Bool) (xs : List ℕ) (d : ℕ) → list_all test xs ≡ true → is_in xs d ≡ true → test d ≡ true
all_at test [] d all is = absurd (both_ways false refl is)
all_at test (x ∷ xs) d all is =
    let parts = and_parts (test x) (list_all test xs) all in
    elim (or_cases (x == d) (is_in xs d) is) [
      | inl here ↦ subst (λ v. test v ≡ true) (eqb-true x d here) parts.0
      | inr later ↦ all_at test xs d parts.1 later
    ]

pub all_pass : (test : ℕ → Bool) (xs : List ℕ) → ((d : ℕ) → is_in xs d ≡ true → test d ≡ true) → list_all test xs ≡ true
all_pass test [] each = refl
all_pass test (x ∷ xs) each = and_from (test x) (list_all test xs) (each x (or_left (x == x) (is_in xs x) (eq-eqb x x refl)))
    (all_pass test xs (λ d is. each d (or_right (x == d) (is_in xs d) is)))

pub any-push : {X : Type 0} (test : X → Bool) (xs : List X) (y : X) → list_any test (xs ++ y ∷ []) ≡ (test y || list_any test xs)
any-push test [] y = refl
any-push test (x ∷ xs) y = ap (λ v. test x || v) (any-push test xs y) ∙ go (test x) (test y)
  where
    go : (a b : Bool) → (a || (b || list_any test xs)) ≡ (b || (a || list_any test xs))
    go true true = refl
    go true false = refl
    go false true = refl
    go false false = refl

pub in-push : (xs : List ℕ) (y d : ℕ) → is_in (xs ++ y ∷ []) d ≡ ((y == d) || is_in xs d)
in-push [] y d = refl
in-push (x ∷ xs) y d = ap (λ v. (x == d) || v) (in-push xs y d) ∙ go (x == d) (y == d)
  where
    go : (a b : Bool) → (a || (b || is_in xs d)) ≡ (b || (a || is_in xs d))
    go true true = refl
    go true false = refl
    go false true = refl
    go false false = refl

-- the entry that a request becomes carries it

pub carries : (log : List Entry) (s : Sealed) → (decide log s).sealed ≡ s
carries log s = refl

pub carries_id : (log : List Entry) (s : Sealed) (id : ℕ) → one ((decide log s).sealed.id == id) ≡ one (s.id == id)
carries_id log s id = ap (λ v. one (v.id == id)) (carries log s)

pub logs-push : (log : List Entry) (s : Sealed) (id : ℕ) → total (λ e. one (e.sealed.id == id)) (log ++ decide log s ∷ []) ≡ total (λ e. one (e.sealed.id == id)) log + one (s.id == id)
logs-push log s id =
    let sum = total-append (λ e. one (e.sealed.id == id)) log (decide log s ∷ []) in
    let same = carries_id log s id in
    omega arith

-- what a filter keeps

pub filter-append : {X : Type 0} (test : X → Bool) (xs ys : List X) → filter test (xs ++ ys) ≡ filter test xs ++ filter test ys
filter-append test [] ys = refl
filter-append test (x ∷ xs) ys = go (test x) (filter-append test xs ys)
  where
    go : (b : Bool) → filter test (xs ++ ys) ≡ filter test xs ++ filter test ys → (if b then x ∷ filter test (xs ++ ys) else filter test (xs ++ ys)) ≡ (if b then x ∷ filter test xs else filter test xs) ++ filter test ys
    go true rest = ap (λ v. x ∷ v) rest
    go false rest = rest

pub filter_in : (test : ℕ → Bool) (xs : List ℕ) (d : ℕ) → is_in xs d ≡ true → test d ≡ true → is_in (filter test xs) d ≡ true
filter_in test [] d is passes = is
filter_in test (x ∷ xs) d is passes = elim (or_cases (x == d) (is_in xs d) is) [
  | inl here ↦ (
      let same : x ≡ d = eqb-true x d here in
      let t : test x ≡ true = subst (λ v. test v ≡ true) (sym same) passes in
      rw t (or_left (x == d) (is_in (filter test xs) d) here))
  | inr later ↦ go (test x) (filter_in test xs d later passes)
]
  where
    go : (b : Bool) → is_in (filter test xs) d ≡ true → is_in (if b then x ∷ filter test xs else filter test xs) d ≡ true
    go true h = or_right (x == d) (is_in (filter test xs) d) h
    go false h = h

filter_out : (test : ℕ → Bool) (xs : List ℕ) (d : ℕ) → is_in xs d ≡ false → is_in (filter test xs) d ≡ false
filter_out test [] d is = refl
filter_out test (x ∷ xs) d is = let parts = or_parts (x == d) (is_in xs d) is in go (test x) parts.0 (filter_out test xs d parts.1)
  where
    go : (b : Bool) → (x == d) ≡ false → is_in (filter test xs) d ≡ false → is_in (if b then x ∷ filter test xs else filter test xs) d ≡ false
    go true other rest = rw other rest
    go false other rest = rest

pub distinct_parts : (x : ℕ) (xs : List ℕ) → is_distinct (x ∷ xs) ≡ true → (is_in xs x ≡ false) × (is_distinct xs ≡ true)
distinct_parts x xs is = let parts = and_parts (not (is_in xs x)) (is_distinct xs) is in (not-true (is_in xs x) parts.0, parts.1)

pub filter_distinct : (test : ℕ → Bool) (xs : List ℕ) → is_distinct xs ≡ true → is_distinct (filter test xs) ≡ true
filter_distinct test [] is = refl
filter_distinct test (x ∷ xs) is = let parts = distinct_parts x xs is in go (test x) (filter_out test xs x parts.0) (filter_distinct test xs parts.1)
  where
    go : (b : Bool) → is_in (filter test xs) x ≡ false → is_distinct (filter test xs) ≡ true → is_distinct (if b then x ∷ filter test xs else filter test xs) ≡ true
    go true out rest = rw out rest
    go false out rest = rest

-- of what is sent to each, what goes to d
module _ {X : Type 0} (test : X → Bool) (f : ℕ → X) (d : ℕ) (same : (e : ℕ) → test (f e) ≡ (e == d)) where
  pub sent_none : (xs : List ℕ) → is_in xs d ≡ false → filter test (map f xs) ≡ []
  sent_none [] out = refl
  sent_none (x ∷ xs) out = let parts = or_parts (x == d) (is_in xs d) out in rw (same x) (rw parts.0 (sent_none xs parts.1))

  pub sent_once : (xs : List ℕ) → is_distinct xs ≡ true → is_in xs d ≡ true → filter test (map f xs) ≡ f d ∷ []
  sent_once [] once is = absurd (both_ways false refl is)
  sent_once (x ∷ xs) once is =
      let parts = distinct_parts x xs once in
      elim (cases_eq x d) [
        | inl here ↦ (
            let out : is_in xs d ≡ false = subst (λ v. is_in xs v ≡ false) here parts.0 in
            rw (same x) (rw (eq-eqb x d here) (ap (λ v. f v ∷ filter test (map f xs)) here ∙ ap (λ v. f d ∷ v) (sent_none xs out))))
        | inr other ↦ (
            let no : (x == d) ≡ false = ne_eqb x d other in
            let later : is_in xs d ≡ true = subst (λ v. (v || is_in xs d) ≡ true) no is in
            rw (same x) (rw no (sent_once xs parts.1 later)))
      ]

-- copies

pub get-set : {X : Type 0} (xs : List X) (d : ℕ) (x y : X) → slice_get xs d ≡ Some x → slice_get (slice_set xs d y) d ≡ Some y
get-set [] d x y is = absurd (cc)
get-set (w ∷ xs) zero x y is = refl
get-set (w ∷ xs) (suc d) x y is = get-set xs d x y is

pub get-set_other : {X : Type 0} (xs : List X) (d e : ℕ) (y : X) → (e ≡ d → ⊥) → slice_get (slice_set xs d y) e ≡ slice_get xs e
get-set_other [] d e y other = refl
get-set_other (w ∷ xs) zero zero y other = absurd (other refl)
get-set_other (w ∷ xs) zero (suc e) y other = refl
get-set_other (w ∷ xs) (suc d) zero y other = refl
get-set_other (w ∷ xs) (suc d) (suc e) y other = get-set_other xs d e y (λ same. other (ap suc same))

-- the members of a set

pub others_are : (p : ℕ) (os : List ℕ) → is_in os p ≡ false → filter (λ m. not (m == p)) os ≡ os
others_are p [] out = refl
others_are p (o ∷ os) out = let parts = or_parts (o == p) (is_in os p) out in rw parts.0 (ap (λ v. o ∷ v) (others_are p os parts.1))

one_daemon : (o : ℕ) → o < 16 → total (λ d. one (o == d)) daemons ≡ 1
one_daemon zero few = refl
one_daemon (suc zero) few = refl
one_daemon (suc (suc zero)) few = refl
one_daemon (suc (suc (suc zero))) few = refl
one_daemon (suc (suc (suc (suc zero)))) few = refl
one_daemon (suc (suc (suc (suc (suc zero))))) few = refl
one_daemon (suc (suc (suc (suc (suc (suc zero)))))) few = refl
one_daemon (suc (suc (suc (suc (suc (suc (suc zero))))))) few = refl
one_daemon (suc (suc (suc (suc (suc (suc (suc (suc zero)))))))) few = refl
one_daemon (suc (suc (suc (suc (suc (suc (suc (suc (suc zero))))))))) few = refl
one_daemon (suc (suc (suc (suc (suc (suc (suc (suc (suc (suc zero)))))))))) few = refl
one_daemon (suc (suc (suc (suc (suc (suc (suc (suc (suc (suc (suc zero))))))))))) few = refl
one_daemon (suc (suc (suc (suc (suc (suc (suc (suc (suc (suc (suc (suc zero)))))))))))) few = refl
one_daemon (suc (suc (suc (suc (suc (suc (suc (suc (suc (suc (suc (suc (suc zero))))))))))))) few = refl
one_daemon (suc (suc (suc (suc (suc (suc (suc (suc (suc (suc (suc (suc (suc (suc zero)))))))))))))) few = refl
one_daemon (suc (suc (suc (suc (suc (suc (suc (suc (suc (suc (suc (suc (suc (suc (suc zero))))))))))))))) few = refl
one_daemon (suc (suc (suc (suc (suc (suc (suc (suc (suc (suc (suc (suc (suc (suc (suc (suc d)))))))))))))))) few = absurd (omega arith)

counted_in : (d : ℕ) (ds : List ℕ) → 1 ≤ total (λ e. one (d == e)) ds → is_in ds d ≡ true
counted_in d [] some = absurd (omega arith)
counted_in d (e ∷ ds) some = here (d == e) refl some (counted_in d ds)
  where
    here : (b : Bool) → (d == e) ≡ b → 1 ≤ one b + total (λ e. one (d == e)) ds → (1 ≤ total (λ e. one (d == e)) ds → is_in ds d ≡ true) → is_in (e ∷ ds) d ≡ true
    here true is some rest = or_left (e == d) (is_in ds d) (eq-eqb e d (sym (eqb-true d e is)))
    here false is some rest = or_right (e == d) (is_in ds d) (rest (omega arith))

pub is_daemon : (d : ℕ) → d < 16 → is_in daemons d ≡ true
is_daemon d few = counted_in d daemons (let e = one_daemon d few in omega arith)

pub members_counted : (os : List ℕ) → is_distinct os ≡ true → ((d : ℕ) → is_in os d ≡ true → d < 16) → total (λ d. one (is_in os d)) daemons ≡ length os
members_counted [] once few = refl
members_counted (o ∷ os) once few =
    let parts = distinct_parts o os once in
    let rest : total (λ d. one (is_in os d)) daemons ≡ length os = members_counted os parts.1 (λ d is. few d (or_right (o == d) (is_in os d) is)) in
    let here : total (λ d. one (o == d)) daemons ≡ 1 = one_daemon o (few o (or_left (o == o) (is_in os o) (eq-eqb o o refl))) in
    let split : total (λ d. one ((o == d) || is_in os d)) daemons ≡ total (λ d. one (o == d) + one (is_in os d)) daemons =
    total-same (λ d. one ((o == d) || is_in os d)) (λ d. one (o == d) + one (is_in os d)) (λ d. apart d parts.0) daemons in
    let both : total (λ d. one (o == d) + one (is_in os d)) daemons ≡ total (λ d. one (o == d)) daemons + total (λ d. one (is_in os d)) daemons = total-both (λ d. one (o == d)) (λ d. one (is_in os d)) daemons in
    split ∙ both ∙ omega arith
  where
    apart : (d : ℕ) → is_in os o ≡ false → one ((o == d) || is_in os d) ≡ one (o == d) + one (is_in os d)
    apart d out = go (o == d) refl
      where
        go : (b : Bool) → (o == d) ≡ b → one (b || is_in os d) ≡ one b + one (is_in os d)
        go false is = omega arith
        go true is = let no : is_in os d ≡ false = subst (λ v. is_in os v ≡ false) (eqb-true o d is) out in rw no refl

pub take-front : {X : Type 0} (xs : List X) (y : X) → take (length (xs ++ y ∷ []) - 1) (xs ++ y ∷ []) ≡ xs
take-front {X = X} [] y = refl
take-front {X = X} (x ∷ xs) y =
    let long : length (x ∷ (xs ++ y ∷ [])) - 1 ≡ suc (length (xs ++ y ∷ []) - 1) = (let some : 1 ≤ length (xs ++ y ∷ []) = longer xs in omega arith) in
    subst (λ v. take v (x ∷ (xs ++ y ∷ [])) ≡ x ∷ xs) (sym long) (ap (λ v. x ∷ v) (take-front xs y))
  where
    longer : (zs : List X) → 1 ≤ length (zs ++ y ∷ [])
    longer [] = omega arith
    longer (z ∷ zs) = omega arith

pub append-nil : {X : Type 0} (xs : List X) → xs ++ [] ≡ xs
append-nil [] = refl
append-nil (x ∷ xs) = ap (λ v. x ∷ v) (append-nil xs)

pub each_sent : {X : Type 0} (P : X → Type 0) (f : ℕ → X) (xs : List ℕ) → ((d : ℕ) → is_in xs d ≡ true → P (f d)) → Each P (map f xs)
each_sent P f [] each = tt
each_sent P f (x ∷ xs) each = (each x (or_left (x == x) (is_in xs x) (eq-eqb x x refl)), each_sent P f xs (λ d is. each d (or_right (x == d) (is_in xs d) is)))

pub head_same : {X : Type 0} (x y : X) (xs ys : List X) → x ∷ xs ≡ y ∷ ys → x ≡ y
head_same x y xs ys same = cc

pub tail_same : {X : Type 0} (x y : X) (xs ys : List X) → x ∷ xs ≡ y ∷ ys → xs ≡ ys
tail_same x y xs ys same = cc

pub total-take : {X : Type 0} (f : X → ℕ) (n : ℕ) (xs : List X) → total f (take n xs) ≤ total f xs
total-take f zero xs = omega arith
total-take f (suc n) [] = omega arith
total-take f (suc n) (x ∷ xs) = let rest = total-take f n xs in omega arith

pub filter-same : {X : Type 0} (f g : X → Bool) → ((x : X) → f x ≡ g x) → (xs : List X) → filter f xs ≡ filter g xs
filter-same f g same [] = refl
filter-same f g same (x ∷ xs) = ap (λ b. if b then x ∷ filter f xs else filter f xs) (same x) ∙ ap (λ v. if g x then x ∷ v else v) (filter-same f g same xs)

pub filtered_in : (test : ℕ → Bool) (xs : List ℕ) (d : ℕ) → is_in (filter test xs) d ≡ true → test d ≡ true
filtered_in test [] d is = absurd (both_ways false refl is)
filtered_in test (x ∷ xs) d is = go (test x) refl is (filtered_in test xs d)
  where
    go : (b : Bool) → test x ≡ b → is_in (if b then x ∷ filter test xs else filter test xs) d ≡ true → (is_in (filter test xs) d ≡ true → test d ≡ true) → test d ≡ true
    go true t h rest = elim (or_cases (x == d) (is_in (filter test xs) d) h) [
      | inl here ↦ subst (λ v. test v ≡ true) (eqb-true x d here) t
      | inr later ↦ rest later
    ]
    go false t h rest = rest h

pub none_counts : {X : Type 0} (test : X → Bool) (xs : List X) → list_any test xs ≡ false → total (λ x. one (test x)) xs ≡ 0
none_counts test [] none = refl
none_counts test (x ∷ xs) none =
    let parts = or_parts (test x) (list_any test xs) none in
    let here : one (test x) ≡ 0 = ap one parts.0 in
    let rest = none_counts test xs parts.1 in
    omega arith

pub filter_none : {X : Type 0} (test : X → Bool) (xs : List X) → Each (λ x. test x ≡ false) xs → filter test xs ≡ []
filter_none test [] each = refl
filter_none test (x ∷ xs) each = ap (λ b. if b then x ∷ filter test xs else filter test xs) each.0 ∙ filter_none test xs each.1
