-- A profile that is put last.
use Rattle.std.proofs.Common.{◌≡◌, ℕ, zero, suc, ◌<◌, ◌≤◌, List, [], ◌∷◌, ◌++◌, false, Option, None, Some, is_some, length, take, slice_get, ap, refl, ◌∙◌, sym, arith, length-append, ◌⊎◌, inl, inr}
use Rattle.std.specs.Prelude.{String, string_bytes}
use Rattle.std.specs.declared.alloc.Global.{Global}
use Rattle.std.specs.Map.{lookup}
use Rattle.std.specs.Str.{bytes_eq}
use Rattle.std.proofs.lemmas.List.{map-append, take-append-le, length-map, take_all}
use Rattle.std.specs.HashMap.{HashMap as IndexMap}
use Rattle.indexmap.specs.IndexMap.{insert_entry}
use Rattle.indexmap.proofs.CallerLemmas.{insert_entry-new}
use Rattle.grant_core.specs.Flat.{flat}
use Rattle.grant_core.specs.Refusal.{has_profile}
use Rattle.grant_core.specs.Table.{Entries, table_of, IsSized}
use Rattle.grant_core.specs.declared.table.Profile.{Profile}
use Rattle.grant_core.proofs.Sizes.{has_is}

none_of : {X : Type 0} (o : Option X) → is_some o ≡ false → o ≡ None
none_of None h = refl
none_of (Some x) h = absurd (cc)

-- a new name has no entry
pub fresh_lookup : (es : Entries) (name : List ℕ) → has_profile (table_of es) name ≡ false → lookup (λ (k : String Global). bytes_eq name (string_bytes k)) es ≡ None
fresh_lookup es name h = none_of _ (has_is es name ∙ h)

pub table_of-push : (es : Entries) (k : String Global) (p : Profile) → table_of (es ++ (k, p) ∷ []) ≡ table_of es ++ (string_bytes k, p.body) ∷ []
table_of-push es k p = map-append (λ (e : String Global × Profile). (string_bytes e.0, e.1.body)) es ((k, p) ∷ [])

-- the entry at a place of the longer list
at_push : (es : Entries) (x e : String Global × Profile) (k : ℕ) → slice_get (es ++ x ∷ []) k ≡ Some e → ((k < length es) × (slice_get es k ≡ Some e)) ⊎ ((k ≡ length es) × (e ≡ x))
at_push [] x e zero h = inr (refl, cc)
at_push [] x e (suc k) h = absurd (cc)
at_push (y ∷ ys) x e zero h = inl (omega arith, h)
at_push (y ∷ ys) x e (suc k) h = elim (at_push ys x e k h) [ inl w ↦ inl (omega (arith, w.0), w.1) | inr w ↦ inr (ap suc w.0, w.1) ]

before_push : (es : Entries) (x : String Global × Profile) (k : ℕ) → k ≤ length es → take k (table_of (es ++ x ∷ [])) ≡ take k (table_of es)
before_push es x k h = ap (take k) (table_of-push es x.0 x.1) ∙ take-append-le k (table_of es) _ (rw length-map h)

pub IsSized-push : (es : Entries) (x : String Global × Profile) → IsSized es → length es < 32 → x.1.size ≡ length (flat (table_of es) x.1.body) → x.1.size ≤ 256 → IsSized (es ++ x ∷ [])
IsSized-push es x sized room size small = record {
  few = omega (arith, room, length-append es (x ∷ []));
  sizes = λ k e at. elim (at_push es x e k at) [
    | inl w ↦ sized.sizes k e w.1 ∙ ap (λ t. length (flat t e.1.body)) (sym (before_push es x k (omega (arith, w.0))))
    | inr w ↦ ap (λ y. y.1.size) w.1 ∙ size ∙ ap (λ y. length (flat (table_of es) y.1.body)) (sym w.1)
        ∙ ap (λ t. length (flat t e.1.body)) (sym (before_push es x k (omega (arith, w.0)) ∙ take_all k (table_of es) (rw length-map (omega (arith, w.0)))))
  ];
  small = λ k e at. elim (at_push es x e k at) [ inl w ↦ sized.small k e w.1 | inr w ↦ rw w.1 small ];
}

-- a new name goes last
pub pushed_entries : {S : Type 0} (m : IndexMap (String Global) Profile S) (name : List ℕ) (k : String Global) (p : Profile) → string_bytes k ≡ name → has_profile (table_of m.entries) name ≡ false
    → insert_entry (λ (a b : String Global). bytes_eq (string_bytes a) (string_bytes b)) m.entries k p ≡ m.entries ++ (k, p) ∷ []
pushed_entries m name k p is fresh =
    insert_entry-new (λ (a b : String Global). bytes_eq (string_bytes a) (string_bytes b)) m k p
    (ap (λ n. lookup (λ (q : String Global). bytes_eq n (string_bytes q)) m.entries) is ∙ fresh_lookup m.entries name fresh)
