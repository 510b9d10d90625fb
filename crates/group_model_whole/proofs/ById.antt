-- Values that each have an id, and their ids in a set that keeps the order.
use Rattle.std.proofs.Common.{◌≡◌, ◌∙◌, ℕ, ◌==◌, ◌||◌, Bool, true, false, cond, nat_eq, List, [], ◌∷◌, ◌++◌, map, Some, None, slice_get, position, refl, sym, ap, eqb-true, eq-eqb, if◌then◌else◌}
use Rattle.std.specs.Option.{option_map}
use Rattle.std.specs.List.{list_any}
use Rattle.std.specs.Map.{lookup, keys_of, values_of}
use Rattle.std.proofs.lemmas.List.{map-append}
use Rattle.std.proofs.lemmas.Option.{slice_get-map}
use Rattle.indexmap.specs.IndexSet.{insert_key}
use Rattle.indexmap.proofs.MapLemmas.{Found-position, Missing-position}
use Rattle.group_model_whole.specs.Types.{EntryReply}
use Rattle.group_model_whole.specs.Group.{Answer, answer_of}

-- equality of numbers, turned round
pub same_turned : (a b : ℕ) → (a == b) ≡ (b == a)
same_turned a b = go (a == b) refl
  where
    go : (t : Bool) → (a == b) ≡ t → t ≡ (b == a)
    go true e = sym (eq-eqb b a (sym (eqb-true a b e)))
    go false e = other (b == a) refl
      where
        other : (u : Bool) → (b == a) ≡ u → false ≡ u
        other true f = sym e ∙ eq-eqb a b (sym (eqb-true b a f))
        other false f = refl

-- an id is among the ids where some value has it
pub some_has : {X : Type 0} (f : X → ℕ) (xs : List X) (id : ℕ) → list_any (λ k. id == k) (map f xs) ≡ list_any (λ x. f x == id) xs
some_has f [] id = refl
some_has f (x ∷ xs) id = λ i. same_turned id (f x) i || some_has f xs id i

-- a new id goes last, as its value does
pub one_more : {X : Type 0} (f : X → ℕ) (ids : List ℕ) (xs : List X) (x : X) → ids ≡ map f xs → list_any (λ y. f y == f x) xs ≡ false → insert_key nat_eq ids (f x) ≡ map f (xs ++ x ∷ [])
one_more f ids xs x is new =
    let none : list_any (λ k. f x == k) ids ≡ false = ap (λ l. list_any (λ k. f x == k) l) is ∙ some_has f xs (f x) ∙ new in
    ap (λ (b : Bool). if b then ids else ids ++ f x ∷ []) none ∙ ap (λ l. l ++ f x ∷ []) is ∙ sym (map-append f xs (x ∷ []))

-- ---- answers

abbrev pair : Answer → ℕ × EntryReply
pair a = (a.id, a.reply)

ids_are : (as' : List Answer) → keys_of (map pair as') ≡ map (λ (a : Answer). a.id) as'
ids_are [] = refl
ids_are (a ∷ as') = ap (λ l. a.id ∷ l) (ids_are as')

replies_are : (as' : List Answer) → values_of (map pair as') ≡ map (λ (a : Answer). a.reply) as'
replies_are [] = refl
replies_are (a ∷ as') = ap (λ l. a.reply ∷ l) (replies_are as')

looked_up : (as' : List Answer) (id : ℕ) → lookup (λ k. id == k) (map pair as') ≡ answer_of as' id
looked_up [] id = refl
looked_up (a ∷ as') id = λ i. cond (same_turned id a.id i) (Some a.reply) (looked_up as' id i)

-- the answer at the index of its id
pub answer_found : (as' : List Answer) (ids : List ℕ) (id k : ℕ) → ids ≡ map (λ (a : Answer). a.id) as' → position (λ j. id == j) ids ≡ Some k → answer_of as' id ≡ option_map (λ (a : Answer). a.reply) (slice_get as' k)
answer_found as' ids id k is at =
    let there = Found-position (λ j. id == j) (map pair as') k (ap (λ l. position (λ j. id == j) l) (ids_are as' ∙ sym is) ∙ at) in
    sym (looked_up as' id) ∙ there.value ∙ ap (λ l. slice_get l k) (replies_are as') ∙ slice_get-map (λ (a : Answer). a.reply) as' k

pub none_found : (as' : List Answer) (ids : List ℕ) (id : ℕ) → ids ≡ map (λ (a : Answer). a.id) as' → position (λ j. id == j) ids ≡ None → answer_of as' id ≡ None
none_found as' ids id is at =
    let none = Missing-position (λ j. id == j) (map pair as') (ap (λ l. position (λ j. id == j) l) (ids_are as' ∙ sym is) ∙ at) in
    sym (looked_up as' id) ∙ none.value
