-- What the entries of a search hold.
use Rattle.std.proofs.Common.{◌≡◌, ℕ, ◌<◌, List, [], ◌∷◌, ◌++◌, Bool, true, false, cond, slice_get, zero, suc, eq-eqb, eqb-true, Contains, get_or, subst, Option, None, Some, is_some, length, refl, sym, ap, ◌∙◌, arith, nat_eq, IsSome}
use Rattle.std.specs.Map.{keys_of, lookup}
use Rattle.std.specs.Prelude.{Vec}
use Rattle.std.specs.declared.alloc.Global.{Global}
use Rattle.std.proofs.lemmas.Bool.{false≢true}
use Rattle.std.proofs.lemmas.Map.Views.{Contains-keys_from_lookup, exact_unsigned_eq}
use Rattle.std.proofs.lemmas.Option.{none-some}
use Rattle.std.proofs.lemmas.Grind.{get_or_default_zero}
use Rattle.flow_core.specs.Searching.{Entries, IsNew}

abbrev pub items_or_none : Option (Vec ℕ Global) → List ℕ
items_or_none None = []
items_or_none (Some chain) = chain.items

-- the chain that found a place; none has no places
abbrev pub chain_at : Entries → ℕ → List ℕ
chain_at found place = items_or_none (lookup (nat_eq place) found)

-- the places, in the order in which they were found
abbrev pub places_of : Entries → List ℕ
places_of found = keys_of found

pub places_push : (found : Entries) (place : ℕ) (chain : Vec ℕ Global) → places_of (found ++ (place, chain) ∷ []) ≡ places_of found ++ place ∷ []
places_push [] place chain = refl
places_push (e ∷ es) place chain = ap (λ l. e.0 ∷ l) (places_push es place chain)

pub chain_here : (found : Entries) (place : ℕ) (chain : Vec ℕ Global) → lookup (nat_eq place) found ≡ None → chain_at (found ++ (place, chain) ∷ []) place ≡ chain.items
chain_here [] place chain none = go (nat_eq place place) (eq-eqb place place refl)
  where
    go : (b : Bool) → b ≡ true → items_or_none (cond b (Some chain) None) ≡ chain.items
    go true h = refl
    go false h = absurd (false≢true h)
chain_here (e ∷ es) place chain none = go (nat_eq place e.0) none (chain_here es place chain)
  where
    go : (b : Bool) → cond b (Some e.1) (lookup (nat_eq place) es) ≡ None → (lookup (nat_eq place) es ≡ None → chain_at (es ++ (place, chain) ∷ []) place ≡ chain.items)
        → items_or_none (cond b (Some e.1) (lookup (nat_eq place) (es ++ (place, chain) ∷ []))) ≡ chain.items
    go true h later = absurd (cc)
    go false h later = later h

pub chain_other : (found : Entries) (place : ℕ) (chain : Vec ℕ Global) (b : ℕ) → (b ≡ place → ⊥) → chain_at (found ++ (place, chain) ∷ []) b ≡ chain_at found b
chain_other [] place chain b other = go (nat_eq b place) refl
  where
    go : (t : Bool) → nat_eq b place ≡ t → items_or_none (cond t (Some chain) None) ≡ []
    go true h = absurd (other (eqb-true b place h))
    go false h = refl
chain_other (e ∷ es) place chain b other = go (nat_eq b e.0) (chain_other es place chain b other)
  where
    go : (t : Bool) → chain_at (es ++ (place, chain) ∷ []) b ≡ chain_at es b
        → items_or_none (cond t (Some e.1) (lookup (nat_eq b) (es ++ (place, chain) ∷ []))) ≡ items_or_none (cond t (Some e.1) (lookup (nat_eq b) es))
    go true later = refl
    go false later = later

-- a place that is listed has a chain, where each place of the queue has one
pub known_at : (found : Entries) (place : ℕ) → ((i : ℕ) → i < length (places_of found) → 0 < length (chain_at found (get_or (places_of found) i 0)))
    → IsSome (lookup (nat_eq place) found) → 0 < length (chain_at found place)
known_at found place known there = here (Contains-keys_from_lookup exact_unsigned_eq place found there)
  where
    here : Contains (places_of found) place → 0 < length (chain_at found place)
    here (i, inside, is) = subst (λ p. 0 < length (chain_at found p)) (sym (get_or_default_zero (places_of found) i place inside) ∙ is) (known i inside)

some_chain : (o : Option (Vec ℕ Global)) → 0 < length (items_or_none o) → IsSome o
some_chain None found = absurd (omega arith)
some_chain (Some chain) found = refl

-- a place that was found is listed
pub found_listed : (found : Entries) (place : ℕ) → 0 < length (chain_at found place) → Contains (places_of found) place
found_listed found place is = Contains-keys_from_lookup exact_unsigned_eq place found (some_chain (lookup (nat_eq place) found) is)

-- a place that is not listed is found by the chain with it behind
pub is_new : (places : ℕ) (walk : List ℕ) (place : ℕ) (found found' : Entries) (chain : Vec ℕ Global) → place < places → lookup (nat_eq place) found ≡ None
    → chain.items ≡ walk ++ place ∷ [] → found' ≡ found ++ (place, chain) ∷ [] → IsNew places walk place found found'
is_new places walk place found found' chain exists unknown longer added = record { exists = exists; unknown = unknown; longer = chain; is_longer = longer; added = added }

pub nothing_there : (o : Option (Vec ℕ Global)) → is_some o ≡ false → o ≡ None
nothing_there None known = refl
nothing_there (Some chain) known = absurd (false≢true (sym known))

-- the place of an entry
pub entry_place : (found : Entries) (i place : ℕ) (chain : Vec ℕ Global) → slice_get found i ≡ Some (place, chain) → (i < length (places_of found)) × (get_or (places_of found) i 0 ≡ place)
entry_place [] i place chain at = absurd (none-some (place, chain) at)
entry_place (e ∷ es) zero place chain at = (omega arith, cc)
entry_place (e ∷ es) (suc i) place chain at = let later = entry_place es i place chain at in (omega arith, later.1)
