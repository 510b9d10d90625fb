-- An attribute that was removed is gone.
use Rattle.std.proofs.Common.{◌≡◌, ℕ, suc, ◌+◌, ◌<◌, List, [], ◌∷◌, Bool, true, false, cond, length, get_or, remove, if◌then◌else◌, Option, Some, None, Ok, Err, is_none, inl, inr, refl, sym, ap, ◌∙◌, arith, subst}
use Rattle.std.specs.List.{AllPairs, find}
use Rattle.std.specs.Option.{option_map, option_map_or}
use Rattle.std.proofs.lemmas.Bool.{cases_lt}
use Rattle.std.proofs.lemmas.Slice.Eq.{bytes_eq-Decides}
use Rattle.std.proofs.lemmas.List.Edits.{length-remove, get_or-remove_below, get_or-remove_above}
use Rattle.std.proofs.lemmas.List.Quantifiers.{position-Some}
use Rattle.object_core.proofs.AttributeNames.{Attribute, Differ, has_name}
use Rattle.object_core.specs.Content.{Content, place_of}
use Rattle.object_core.specs.Operations.{or_no_data}
use Rattle.object_core.specs.declared.op.Op.TheVariants.{GetAttribute}
use Rattle.object_core.specs.Effect.{Effect, effect_of, changes, looks}
use Rattle.object_core.specs.Laws.{RemovedIsGone}

-- where each element fails, none is found
found_none : (test : Attribute → Bool) (xs : List Attribute) → ((k : ℕ) (d : Attribute) → k < length xs → test (get_or xs k d) ≡ false) → find test xs ≡ None
found_none test [] h = refl
found_none test (x ∷ xs) h = ap (λ b. cond b (Some x) (find test xs)) (h 0 x (omega arith)) ∙ found_none test xs (λ k d low. h (suc k) d (omega arith))

fails : (name : List ℕ) (a : Attribute) → (a.0 ≡ name → ⊥) → has_name name a ≡ false
fails name a differ = go (has_name name a) refl
  where
    go : (b : Bool) → has_name name a ≡ b → b ≡ false
    go true e = absurd (differ ((bytes_eq-Decides a.0 name).0 e))
    go false e = refl

-- no other has the name of the one that is removed
others : (attributes : List Attribute) (name : List ℕ) (place : ℕ) → AllPairs Differ attributes → place_of name attributes ≡ Some place
    → (k : ℕ) (d : Attribute) → k < length (remove attributes place) → has_name name (get_or (remove attributes place) k d) ≡ false
others attributes name place h at k d low =
    let found = position-Some (has_name name) attributes place d at in
    let is : (get_or attributes place d).0 ≡ name = (bytes_eq-Decides (get_or attributes place d).0 name).0 found.1 in
    let long = length-remove attributes place found.0 in
    elim (cases_lt k place) as (λ c. has_name name (get_or (remove attributes place) k d) ≡ false) [
      | inl below ↦ ap (has_name name) (get_or-remove_below attributes place d k below found.0) ∙ fails name (get_or attributes k d) (λ e. h k place d below found.0 (e ∙ sym is))
      | inr above ↦ ap (has_name name) (get_or-remove_above attributes place d k above found.0) ∙ fails name (get_or attributes (k + 1) d) (λ e. h place (k + 1) d (omega arith) (omega (arith, long, low)) (is ∙ sym e))
    ]

pub removed_is_gone : RemovedIsGone
removed_is_gone object name output left are done = go (place_of name object.attributes) refl (λ o e. sym (ap of e) ∙ done)
  where
    without : Option ℕ → Content
    without o = record { bytes = object.bytes; attributes = option_map_or (λ place. remove object.attributes place) o object.attributes }

    of : Option ℕ → Effect
    of o = changes (if is_none o then Err 61 else Ok (Some (without o)))

    go : (o : Option ℕ) → place_of name object.attributes ≡ o → ((p : Option ℕ) → place_of name object.attributes ≡ p → of p ≡ Ok (output, left)) → effect_of left (GetAttribute name) ≡ Err 61
    go None at h = absurd (let e : of None ≡ Ok (output, left) = h None at in cc)
    go (Some place) at h =
        let e : of (Some place) ≡ Ok (output, left) = h (Some place) at in
        let pair : ◌≡◌ {A = List ℕ × Option Content} ([], Some (without (Some place))) (output, left) = cc in
        let same : Some (without (Some place)) ≡ left = ap (λ p. p.1) pair in
        let none : find (has_name name) (remove object.attributes place) ≡ None = found_none (has_name name) (remove object.attributes place) (others object.attributes name place are.distinct at) in
        subst (λ (o : Option Content). effect_of o (GetAttribute name) ≡ Err 61) same
        (ap (λ o. looks (Some (without (Some place))) (or_no_data (option_map (λ (a : Attribute). a.1) o))) none)
