-- The list of the registry's calls has just those that the registry has.
use Rattle.std.proofs.Common.{◌≡◌, ℕ, List, [], ◌∷◌, Bool, true, false, ◌&&◌, cond, Some, None, refl, sym, subst, ◌∙◌, codes, lit<}
use Rattle.std.specs.Option.{option_map}
use Rattle.std.specs.List.{All, Contains}
use Rattle.std.specs.Str.{bytes_eq}
use Rattle.std.proofs.lemmas.Bool.{false≢true}
use Rattle.std.proofs.lemmas.Slice.Eq.{bytes_eq-Decides}
use Rattle.std.proofs.lemmas.List.Elements.{All-nil, All-cons}
use Rattle.request_types.specs.declared.request.ClassCall.{ClassCall}
use Rattle.object_core.specs.declared.class.Method.{Method}
use Rattle.object_core.specs.declared.class.Method.TheVariants.{CounterGet, CounterAdd, VaultPeek}
use Rattle.object_core.specs.Needs.{registered, IsRegistered, registry}

three : (a b c : ClassCall) → IsRegistered a → IsRegistered b → IsRegistered c → All IsRegistered (a ∷ b ∷ c ∷ [])
three a b c h k l =
    All-cons IsRegistered a (b ∷ c ∷ []) h (All-cons IsRegistered b (c ∷ []) k (All-cons IsRegistered c [] l (All-nil IsRegistered)))

pub registry-known : All IsRegistered registry
registry-known =
    three (registered (codes "counter") (codes "get") CounterGet) (registered (codes "counter") (codes "add") CounterAdd) (registered (codes "vault") (codes "peek") VaultPeek) refl refl refl

both_left : (a b : Bool) → (a && b) ≡ true → a ≡ true
both_left true b h = refl
both_left false b h = h

both_right : (a b : Bool) → (a && b) ≡ true → b ≡ true
both_right true b h = h
both_right false b h = absurd (false≢true h)

same_text : (a b : List ℕ) → bytes_eq a b ≡ true → a ≡ b
same_text a b = (bytes_eq-Decides a b).0

some_same : {X : Type 0} {a b : X} → Some a ≡ Some b → a ≡ b
some_same e = cc

-- a call of a method by these names is what the registry says of the method
by_names : (call : ClassCall) (class name : List ℕ) (method : Method) → (bytes_eq call.class class && bytes_eq call.method name) ≡ true → registered call.class call.method method ≡ call
    → registered class name method ≡ call
by_names call class name method h is =
    let of_class : call.class ≡ class = same_text call.class class (both_left _ _ h) in
    let of_method : call.method ≡ name = same_text call.method name (both_right (bytes_eq call.class class) _ h) in
    sym (λ i. registered (of_class i) (of_method i) method) ∙ is

-- the three tests of a call, one after another
among : (call : ClassCall) (b1 b2 b3 : Bool)
    → (bytes_eq call.class (codes "counter") && bytes_eq call.method (codes "get")) ≡ b1
    → (bytes_eq call.class (codes "counter") && bytes_eq call.method (codes "add")) ≡ b2
    → (bytes_eq call.class (codes "vault") && bytes_eq call.method (codes "peek")) ≡ b3
    → option_map (registered call.class call.method) (cond b1 (Some CounterGet) (cond b2 (Some CounterAdd) (cond b3 (Some VaultPeek) None))) ≡ Some call
    → Contains registry call
among call true b2 b3 e1 e2 e3 h = (0, lit< tt, by_names call (codes "counter") (codes "get") CounterGet e1 (some_same h))
among call false true b3 e1 e2 e3 h = (1, lit< tt, by_names call (codes "counter") (codes "add") CounterAdd e2 (some_same h))
among call false false true e1 e2 e3 h = (2, lit< tt, by_names call (codes "vault") (codes "peek") VaultPeek e3 (some_same h))
among call false false false e1 e2 e3 h = absurd (cc)

pub registry-whole : (call : ClassCall) → IsRegistered call → Contains registry call
registry-whole call h = among call _ _ _ refl refl refl h

pub all_calls : (calls : List ClassCall) → calls ≡ registry → All IsRegistered calls
all_calls calls is = subst (All IsRegistered) (sym is) registry-known

pub whole_calls : (calls : List ClassCall) → calls ≡ registry → (call : ClassCall) → IsRegistered call → Contains calls call
whole_calls calls is call h = subst (λ all. Contains all call) (sym is) (registry-whole call h)
