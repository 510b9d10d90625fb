-- A store that takes the objects that requests need from another one.
use Rattle.std.proofs.Common.{◌≡◌, ℕ, ◌+◌, ◌<◌, List, [], ◌∷◌, ◌++◌, Bool, true, false, cond, Option, None, length, get_or, take, refl, sym, ap, ◌∙◌, subst}
use Rattle.std.proofs.lemmas.List.{take_more}
use Rattle.std.specs.FinMap.{get, same_map}
use Rattle.std.specs.Ordering.{eq_by_cmp}
use Rattle.object_core.specs.Content.{Content}
use Rattle.store_core.specs.Request.{Sealed, Work, Vector, Listing}
use Rattle.store_core.specs.Store.{Store, ObjectName, name_cmp, with_object}
use Rattle.store_core.specs.Names.{name_cmp_total, same_names, is_same, is_same-ties, is_same_equiv, same_from_is_same}
use Rattle.store_core.specs.Deciding.{name_of}
use Rattle.store_core.specs.Objects.{AlikeAt, AlikeFor}
use Rattle.store_core.specs.Sealing.{ops_of}
use Rattle.store_core.proofs.Stores.{get-with_object}

-- a name that is not tied to another one is another one
not_same : (q k : ObjectName) → eq_by_cmp name_cmp q k ≡ false → q ≡ k → ⊥
not_same q k off e =
    let on : is_same q k ≡ true = ap (λ x. is_same x k) e ∙ is_same_equiv.refl k in
    let tied : is_same q k ≡ eq_by_cmp name_cmp q k = is_same-ties q k in
    cc

-- an object that is brought from another store, where the stores hold the same at the other names
brought_by : (b : Bool) (few store : Store) (k q : ObjectName) (o : Option Content) → eq_by_cmp name_cmp q k ≡ b → o ≡ get store k → ((q ≡ k → ⊥) → get few q ≡ get store q) → cond b o (get few q) ≡ get store q
brought_by true few store k q o tied is other = is ∙ ap (get store) (sym (same_from_is_same q k (is_same-ties q k ∙ tied)))
brought_by false few store k q o tied is other = other (not_same q k tied)

pub brought : (few store : Store) (k q : ObjectName) (o : Option Content) → o ≡ get store k → ((q ≡ k → ⊥) → get few q ≡ get store q) → get (with_object few k o) q ≡ get store q
brought few store k q o is other = get-with_object few k q o ∙ brought_by (eq_by_cmp name_cmp q k) few store k q o refl is other

brought_at : (few store : Store) (k q : ObjectName) (o : Option Content) (w : Work) → o ≡ get store k → AlikeAt few store q w → AlikeAt (with_object few k o) store q w
brought_at few store k q o (Vector object ops) is h = brought few store k q o is (λ off. h)
brought_at few store k q o Listing is h = same_map name_cmp_total same_names _ _ (λ r. brought few store k r o is (λ off. ap (λ s. get s r) h))

all_brought : (few store : Store) (k : ObjectName) (o : Option Content) (part : List Sealed) → o ≡ get store k → AlikeFor few store part → AlikeFor (with_object few k o) store part
all_brought few store k o [] is h = tt
all_brought few store k o (s ∷ part) is h = (brought_at few store k (name_of s) o s.work is h.0, all_brought few store k o part is h.1)

alike-push : (a b : Store) (part : List Sealed) (s : Sealed) → AlikeFor a b part → AlikeAt a b (name_of s) s.work → AlikeFor a b (part ++ s ∷ [])
alike-push a b [] s h here = (here, tt)
alike-push a b (t ∷ part) s h here = (h.0, alike-push a b part s h.1 here)

brought_here : (few store : Store) (k : ObjectName) (o : Option Content) (w : Work) → o ≡ get store k → (ops_of w ≡ None → ⊥) → AlikeAt (with_object few k o) store k w
brought_here few store k o (Vector object ops) is vector = brought few store k k o is (λ off. absurd (off refl))
brought_here few store k o Listing is vector = absurd (vector refl)

-- the object of one more vector
pub bring_more : (few few' store : Store) (part : List Sealed) (p : ℕ) (s : Sealed) (o : Option Content) → p < length part → s ≡ get_or part p s → AlikeFor few store (take p part) → o ≡ get store (name_of s)
    → few' ≡ with_object few (name_of s) o → (ops_of s.work ≡ None → ⊥) → AlikeFor few' store (take (p + 1) part)
bring_more few few' store part p s o within at h is grown vector =
    let more : take p part ++ s ∷ [] ≡ take (p + 1) part = ap (λ (x : Sealed). take p part ++ x ∷ []) at ∙ sym (take_more part p s within) in
    subst (λ l. AlikeFor few' store l) more
    (subst (λ f. AlikeFor f store (take p part ++ s ∷ [])) (sym grown)
    (alike-push (with_object few (name_of s) o) store (take p part) s (all_brought few store (name_of s) o (take p part) is h) (brought_here few store (name_of s) o s.work is vector)))

same_alike_at : (a b : Store) (q : ObjectName) (w : Work) → a ≡ b → AlikeAt a b q w
same_alike_at a b q (Vector object ops) h = ap (λ s. get s q) h
same_alike_at a b q Listing h = h

pub same_alike : (a b : Store) (part : List Sealed) → a ≡ b → AlikeFor a b part
same_alike a b [] h = tt
same_alike a b (s ∷ part) h = (same_alike_at a b (name_of s) s.work h, same_alike a b part h)
