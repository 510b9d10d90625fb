-- What is printed of the pairs of two lists is what is printed of the lists.
use Rattle.std.proofs.Common.{◌≡◌, ℕ, ◌+◌, ◌<◌, ◌≤◌, List, [], ◌∷◌, ◌++◌, Bool, true, false, ◌||◌, Option, Some, None, Ok, get_or, take, length, refl, sym, ap, subst, ◌∙◌, append_assoc, string_bytes}
use Rattle.std.proofs.lemmas.Grind.{take_at_read}
use Rattle.std.proofs.lemmas.List.{take_all}
use Rattle.std.specs.Option.{option_to_list}
use Rattle.std.specs.Str.{bytes_eq}
use Rattle.verdict_text.proofs.EachTold.{AreBothTold, told_apart, told_one}
use Rattle.verdict_text.specs.EachTold.{AreAllTold}
use Rattle.verdict_text.specs.Named.{entity_in}
use Rattle.verdict_text.specs.declared.entity.Entity.{Entity}
use Rattle.verdict_text.specs.declared.reading.Rules.{Rules}
use Rattle.compare_text.specs.Entities.{AreListsTold, AreTextsTold, IsBothTold, IsEntitiesAnswer, IsNewTold, IsNewToldBy, IsOldTold, IsOldToldBy, nothing}
use Rattle.compare_text.specs.Pairs.{AreFoundOf, ArePairs, ArePairsTold, IsBothPair, IsNewPair, IsNewPairBy, IsOldPair, IsOldPairBy, IsReadPairTold}
use Rattle.compare_text.specs.declared.comparison.Comparison.{Comparison}
use Rattle.compare_text.specs.declared.pairs.ReadPair.{ReadPair}
use Rattle.compare_text.specs.declared.relation.Presence.{Presence}
use Rattle.compare_text.specs.declared.relation.Presence.TheVariants.{Both, New, Gone}

-- ---- what is found of each item

append_nil : {X : Type 0} (xs : List X) → xs ++ [] ≡ xs
append_nil [] = refl
append_nil (x ∷ xs) = ap (λ rest. x ∷ rest) (append_nil xs)

found_step : {X Y : Type 0} (IsFound : X → Option Y → Type 0) (items : List X) (item : X) (all : List Y) (found : Option Y) → AreFoundOf IsFound items all → IsFound item found
    → AreFoundOf IsFound (items ++ item ∷ []) (all ++ option_to_list found)
found_step IsFound [] item all found so_far is = (found, [], is, refl, ap (λ a. a ++ option_to_list found) so_far ∙ sym (append_nil (option_to_list found)))
found_step IsFound (x ∷ xs) item all found (head, others, is_head, is_others, parts) is = (
  head,
  others ++ option_to_list found,
  is_head,
  found_step IsFound xs item others found is_others is,
  ap (λ a. a ++ option_to_list found) parts ∙ append_assoc (option_to_list head) others (option_to_list found),
)

-- one more item
pub next_found : {X Y : Type 0} (IsFound : X → Option Y → Type 0) (items : List X) (i : ℕ) (item : X) (old new : List Y) (found : Option Y) → i < length items
    → item ≡ get_or items i item → AreFoundOf IsFound (take i items) old → IsFound item found → new ≡ old ++ option_to_list found → AreFoundOf IsFound (take (i + 1) items) new
next_found IsFound items i item old new found within at so_far is all =
    let more : AreFoundOf IsFound (take i items ++ item ∷ []) (old ++ option_to_list found) = found_step IsFound (take i items) item old found so_far is in
    let longer : AreFoundOf IsFound (take (i + 1) items) (old ++ option_to_list found) =
    subst (λ some. AreFoundOf IsFound some (old ++ option_to_list found)) (ap (λ e. take i items ++ e ∷ []) at ∙ sym ((take_at_read items i item within).1)) more in
    subst (λ a. AreFoundOf IsFound (take (i + 1) items) a) (sym all) longer

-- all items
pub found_whole : {X Y : Type 0} (IsFound : X → Option Y → Type 0) (items : List X) (i : ℕ) (all : List Y) → length items ≤ i → AreFoundOf IsFound (take i items) all → AreFoundOf IsFound items all
found_whole IsFound items i all past so_far = subst (λ front. AreFoundOf IsFound front all) (take_all i items past) so_far

-- ---- an entity by its pair

abbrev PairsTold : Comparison → Option ReadPair → List ℕ → Bool → Type 0
PairsTold how found text fails = AreAllTold (IsReadPairTold how) (option_to_list found) text fails

-- what is printed of the pair, by its name and by which lists have it
named : (how : Comparison) (name : List ℕ) (presence : Presence) (pair : ReadPair) (text : List ℕ) (fails : Bool) → pair.name.now ≡ name → pair.presence ≡ presence
    → PairsTold how (Some pair) text fails → AreTextsTold how presence name pair.old pair.new text fails
named how name presence pair text fails names stands told =
    subst (λ p. AreTextsTold how p name pair.old pair.new text fails) stands
    (subst (λ n. AreTextsTold how pair.presence n pair.old pair.new text fails) names (told_one (IsReadPairTold how) pair text fails told))

both_told : (same : Bool) (rules : Rules) (how : Comparison) (name old new : List ℕ) (found : Option ReadPair) (text : List ℕ) (fails : Bool) → IsBothPair same rules name old new found
    → PairsTold how found text fails → IsBothTold same rules how name old new text fails
both_told true rules how name old new found text fails is told = subst (λ f. PairsTold how f text fails) is told
both_told false rules how name old new None text fails is told = absurd is
both_told false rules how name old new (Some pair) text fails is told = (pair.old, pair.new, is.1, is.2, named how name Both pair text fails is.0.0 is.0.1 told)

old_told_by : (rules : Rules) (how : Comparison) (other : Option Entity) (entity : Entity) (found : Option ReadPair) (text : List ℕ) (fails : Bool) → IsOldPairBy rules other entity found
    → PairsTold how found text fails → IsOldToldBy rules how other entity text fails
old_told_by rules how None entity None text fails is told = absurd is
old_told_by rules how None entity (Some pair) text fails is told =
    (pair.old, is.1, subst (λ new. AreTextsTold how Gone (string_bytes entity.name) pair.old new text fails) is.2 (named how (string_bytes entity.name) Gone pair text fails is.0.0 is.0.1 told))
old_told_by rules how (Some other) entity found text fails is told =
    both_told (bytes_eq (string_bytes entity.osd) (string_bytes other.osd)) rules how (string_bytes entity.name) (string_bytes entity.osd) (string_bytes other.osd) found text fails is told

new_told_by : (rules : Rules) (how : Comparison) (other : Option Entity) (entity : Entity) (found : Option ReadPair) (text : List ℕ) (fails : Bool) → IsNewPairBy rules other entity found
    → PairsTold how found text fails → IsNewToldBy rules how other entity text fails
new_told_by rules how None entity None text fails is told = absurd is
new_told_by rules how None entity (Some pair) text fails is told =
    (pair.new, is.2, subst (λ old. AreTextsTold how New (string_bytes entity.name) old pair.new text fails) is.1 (named how (string_bytes entity.name) New pair text fails is.0.0 is.0.1 told))
new_told_by rules how (Some other) entity found text fails is told = subst (λ f. PairsTold how f text fails) is told

-- ---- the entities of a list by their pairs

-- an entity and the others, by what is printed of their pairs
step : {X : Type 0} (how : Comparison) (IsTold : X → List ℕ → Bool → Type 0) (item : X) (items : List X) (found : Option ReadPair) (others : List ReadPair) (text : List ℕ) (fails : Bool)
    → ((t : List ℕ) (f : Bool) → PairsTold how found t f → IsTold item t f)
    → ((t : List ℕ) (f : Bool) → AreAllTold (IsReadPairTold how) others t f → AreAllTold IsTold items t f)
    → AreBothTold (IsReadPairTold how) (option_to_list found) others text fails → AreAllTold IsTold (item ∷ items) text fails
step how IsTold item items found others text fails one all (a, b, f, g, of_item, of_items, parts, ends) = (a, b, f, g, one a f of_item, all b g of_items, parts, ends)

list_told : {X : Type 0} (how : Comparison) (IsFound : X → Option ReadPair → Type 0) (IsTold : X → List ℕ → Bool → Type 0)
    → ((item : X) (found : Option ReadPair) (t : List ℕ) (f : Bool) → IsFound item found → PairsTold how found t f → IsTold item t f)
    → (items : List X) (pairs : List ReadPair) (text : List ℕ) (fails : Bool) → AreFoundOf IsFound items pairs → AreAllTold (IsReadPairTold how) pairs text fails → AreAllTold IsTold items text fails
list_told how IsFound IsTold one [] pairs text fails found told = subst (λ ps. AreAllTold (IsReadPairTold how) ps text fails) found told
list_told how IsFound IsTold one (x ∷ xs) pairs text fails (found, others, is, rest, whole) told =
    step how IsTold x xs found others text fails (λ t f. one x found t f is) (λ t f. list_told how IsFound IsTold one xs others t f rest)
    (told_apart (IsReadPairTold how) (option_to_list found) others text fails (subst (λ ps. AreAllTold (IsReadPairTold how) ps text fails) whole told))

-- ---- both lists

both_lists : (rules : Rules) (how : Comparison) (old new : List Entity) (pairs : List ReadPair) (text : List ℕ) (fails : Bool) (are : ArePairs rules old new pairs)
    → AreBothTold (IsReadPairTold how) are.of_old are.of_new text fails → AreListsTold rules how old new text fails
both_lists rules how old new pairs text fails are (a, b, f, g, of_old, of_new, parts, ends) = record {
  old_text = a;
  new_text = b;
  old_fails = f;
  new_fails = g;
  old_told = list_told how (IsOldPair rules new) (IsOldTold rules how new) (λ entity found t e is told. old_told_by rules how (entity_in new (string_bytes entity.name)) entity found t e is told) old are.of_old a f are.are_old of_old;
  new_told = list_told how (IsNewPair rules old) (IsNewTold rules how old) (λ entity found t e is told. new_told_by rules how (entity_in old (string_bytes entity.name)) entity found t e is told) new are.of_new b g are.are_new of_new;
  whole = parts;
  ends = ends;
}

pub answer_of_pairs : (rules : Rules) (how : Comparison) (old new : List Entity) (pairs : List ReadPair) (text : List ℕ) (fails : Bool) → ArePairs rules old new pairs
    → ArePairsTold how pairs text fails → IsEntitiesAnswer rules how old new text fails
answer_of_pairs rules how old new pairs text fails are told = record {
  told = told.told;
  lists = both_lists rules how old new pairs told.told fails are
      (told_apart (IsReadPairTold how) are.of_old are.of_new told.told fails (subst (λ ps. AreAllTold (IsReadPairTold how) ps told.told fails) are.whole told.each));
  printed = told.printed;
}
