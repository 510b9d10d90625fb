-- Where the entries of a log stand.
use Rattle.std.proofs.Common.{◌≡◌, ℕ, suc, ◌+◌, ◌<◌, ◌≤◌, List, [], ◌∷◌, ◌++◌, Bool, true, false, ◌||◌, cond, ◌==◌, ltb, Option, Some, None, is_some, length, get_or, take, refl, sym, ap, ◌∙◌, arith, add-one}
use Prim.Native.Nat.{zero}
use Rattle.std.specs.Cmp.{unsigned_Decides}
use Rattle.std.proofs.lemmas.Bool.Decides.{nat_tests}
use Rattle.std.specs.Option.{option_map, IfSome}
use Rattle.entry_core.specs.Log.{find, reply_in, ids, is_in}
use Rattle.entry_core.specs.Stored.{place_in}
use Rattle.store_core.specs.declared.reply.Reply.{Reply}
use Rattle.store_core.specs.declared.entry.Entry.{Entry}

abbrev next : Option ℕ → Option ℕ
next o = option_map (λ n. n + 1) o

abbrev reply_of : Option Entry → Option Reply
reply_of f = option_map (λ e. e.reply) f

some_by : (b : Bool) (o : Option ℕ) (r : Bool) → r ≡ is_some o → (b || r) ≡ is_some (cond b (Some 0) (next o))
some_by true o r h = refl
some_by false None r h = h
some_by false (Some n) r h = h

-- a number is among the ids where it has a place
pub is_in-place : (log : List Entry) (id : ℕ) → is_in (ids log) id ≡ is_some (place_in log id)
is_in-place [] id = refl
is_in-place (e ∷ es) id = some_by (e.sealed.id == id) (place_in es id) (is_in (ids es) id) (is_in-place es id)

none_by : (b : Bool) (o : Option ℕ) (e : Entry) (f : Option Entry) → cond b (Some 0) (next o) ≡ None → (o ≡ None → reply_of f ≡ None) → reply_of (cond b (Some e) f) ≡ None
none_by true o e f h rest = absurd (cc)
none_by false None e f h rest = rest refl
none_by false (Some n) e f h rest = absurd (cc)

-- what has no place is not found, in a front of the log either
pub none_in_front : (log : List Entry) (n id : ℕ) → place_in log id ≡ None → reply_in (take n log) id ≡ None
none_in_front [] zero id h = refl
none_in_front [] (suc n) id h = refl
none_in_front (e ∷ es) zero id h = refl
none_in_front (e ∷ es) (suc n) id h = none_by (e.sealed.id == id) (place_in es id) e (find (take n es) id) h (none_in_front es n id)

pub none_at_all : (log : List Entry) (id : ℕ) → place_in log id ≡ None → reply_in log id ≡ None
none_at_all [] id h = refl
none_at_all (e ∷ es) id h = none_by (e.sealed.id == id) (place_in es id) e (find es id) h (none_at_all es id)

within_by : (b : Bool) (o : Option ℕ) (n p : ℕ) → cond b (Some 0) (next o) ≡ Some p → ((q : ℕ) → o ≡ Some q → q < n) → p < suc n
within_by true o n p h rest = let z : 0 ≡ p = cc in omega arith
within_by false None n p h rest = absurd (cc)
within_by false (Some q) n p h rest = let z : q + 1 ≡ p = cc in let l : q < n = rest q refl in omega arith

-- a place is within the log
pub place_within : (log : List Entry) (id p : ℕ) → place_in log id ≡ Some p → p < length log
place_within [] id p h = absurd (cc)
place_within (e ∷ es) id p h = within_by (e.sealed.id == id) (place_in es id) (length es) p h (place_within es id)

at_suc : (e : Entry) (es : List Entry) (q p : ℕ) (x : Entry) → q + 1 ≡ p → x ≡ get_or (e ∷ es) p x → x ≡ get_or es q x
at_suc e es q p x z is = is ∙ ap (λ n. get_or (e ∷ es) n x) (sym z ∙ add-one q)

at_zero : (e : Entry) (es : List Entry) (p : ℕ) (x : Entry) → 0 ≡ p → x ≡ get_or (e ∷ es) p x → e ≡ x
at_zero e es p x z is = sym (is ∙ ap (λ n. get_or (e ∷ es) n x) (sym z))

front_by : (b : Bool) (e : Entry) (es : List Entry) (n p : ℕ) (x : Entry) (o : Option ℕ) (f : Option Entry) → cond b (Some 0) (next o) ≡ Some p → p < suc n → x ≡ get_or (e ∷ es) p x
    → ((q : ℕ) → o ≡ Some q → q < n → x ≡ get_or es q x → reply_of f ≡ Some x.reply) → reply_of (cond b (Some e) f) ≡ Some x.reply
front_by true e es n p x o f h l is rest = let z : 0 ≡ p = cc in ap (λ (y : Entry). Some y.reply) (at_zero e es p x z is)
front_by false e es n p x None f h l is rest = absurd (cc)
front_by false e es n p x (Some q) f h l is rest = let z : q + 1 ≡ p = cc in rest q refl (omega arith) (at_suc e es q p x z is)

-- what stands in a front of the log is found there
pub found_in_front : (log : List Entry) (n id p : ℕ) (x : Entry) → place_in log id ≡ Some p → p < n → x ≡ get_or log p x → reply_in (take n log) id ≡ Some x.reply
found_in_front [] n id p x h l is = absurd (cc)
found_in_front (e ∷ es) zero id p x h l is = absurd (omega arith)
found_in_front (e ∷ es) (suc n) id p x h l is = front_by (e.sealed.id == id) e es n p x (place_in es id) (find (take n es) id) h l is (λ q. found_in_front es n id q x)

pub found_at_all : (log : List Entry) (id p : ℕ) (x : Entry) → place_in log id ≡ Some p → x ≡ get_or log p x → reply_in log id ≡ Some x.reply
found_at_all [] id p x h is = absurd (cc)
found_at_all (e ∷ es) id p x h is = front_by (e.sealed.id == id) e es (length es) p x (place_in es id) (find es id) h (place_within (e ∷ es) id p h) is (λ q r l. found_at_all es id q x r)

behind_by : (b : Bool) (e : Entry) (n p : ℕ) (o : Option ℕ) (f : Option Entry) → cond b (Some 0) (next o) ≡ Some p → suc n ≤ p → ((q : ℕ) → o ≡ Some q → n ≤ q → reply_of f ≡ None) → reply_of (cond b (Some e) f) ≡ None
behind_by true e n p o f h l rest = let z : 0 ≡ p = cc in absurd (omega arith)
behind_by false e n p None f h l rest = absurd (cc)
behind_by false e n p (Some q) f h l rest = let z : q + 1 ≡ p = cc in rest q refl (omega arith)

-- what stands behind a front of the log is not found there
pub none_behind : (log : List Entry) (n id p : ℕ) → place_in log id ≡ Some p → n ≤ p → reply_in (take n log) id ≡ None
none_behind [] n id p h l = absurd (cc)
none_behind (e ∷ es) zero id p h l = refl
none_behind (e ∷ es) (suc n) id p h l = behind_by (e.sealed.id == id) e n p (place_in es id) (find (take n es) id) h l (none_behind es n id)

pushed_by : (a b : Bool) (n : ℕ) (o : Option ℕ) → (a ≡ true → b ≡ false) → cond b (Some 0) (next (cond a (Some n) o)) ≡ cond a (Some (suc n)) (cond b (Some 0) (next o))
pushed_by true true n o apart = let e : true ≡ false = apart refl in absurd (cc)
pushed_by true false n o apart = ap (λ (m : ℕ). Some m) (add-one n)
pushed_by false b n o apart = refl

first_off : (a b : Bool) → (a || b) ≡ false → a ≡ false
first_off true b h = absurd (cc)
first_off false b h = refl

second_off : (a b : Bool) → (a || b) ≡ false → b ≡ false
second_off true b h = absurd (cc)
second_off false b h = h

-- one more entry, with a new number
pub place_push : (log : List Entry) (e : Entry) (id : ℕ) → is_in (ids log) e.sealed.id ≡ false → place_in (log ++ e ∷ []) id ≡ cond (e.sealed.id == id) (Some (length log)) (place_in log id)
place_push [] e id h = refl
place_push (f ∷ es) e id h =
    let off : (f.sealed.id == e.sealed.id) ≡ false = first_off _ _ h in
    ap (λ o. cond (f.sealed.id == id) (Some 0) (next o)) (place_push es e id (second_off (f.sealed.id == e.sealed.id) _ h))
    ∙ pushed_by (e.sealed.id == id) (f.sealed.id == id) (length es) (place_in es id) (λ t. ap (λ n. f.sealed.id == n) (sym ((unsigned_Decides e.sealed.id id).0 t)) ∙ off)

-- a place that was looked up
pub within_if : (log : List Entry) (id : ℕ) (o : Option ℕ) → o ≡ place_in log id → IfSome o (λ p. p < length log)
within_if log id None h = tt
within_if log id (Some p) h = place_within log id p (sym h)

-- whether a place is below a number
abbrev pub is_below : ℕ → Option ℕ → Bool
is_below n None = false
is_below n (Some p) = ltb p n

below_zero : (o : Option ℕ) → is_below 0 o ≡ false
below_zero None = refl
below_zero (Some p) = grind (arith, nat_tests)

below_by : (b : Bool) (n : ℕ) (o : Option ℕ) (r : Bool) → r ≡ is_below n o → (b || r) ≡ is_below (suc n) (cond b (Some 0) (next o))
below_by true n o r h = grind (arith, nat_tests)
below_by false n None r h = h
below_by false n (Some p) r h = h ∙ one_up p n
  where
    one_up : (p n : ℕ) → ltb p n ≡ ltb (p + 1) (suc n)
    one_up p n = grind (arith, nat_tests)

-- a number is among the first ids where its place is among the first
pub in_front : (log : List Entry) (n id : ℕ) → is_in (ids (take n log)) id ≡ is_below n (place_in log id)
in_front [] zero id = refl
in_front [] (suc n) id = refl
in_front (e ∷ es) zero id = sym (below_zero (place_in (e ∷ es) id))
in_front (e ∷ es) (suc n) id = below_by (e.sealed.id == id) n (place_in es id) (is_in (ids (take n es)) id) (in_front es n id)
