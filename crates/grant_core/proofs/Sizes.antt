-- Sizes of profiles.
use Rattle.std.proofs.Common.{◌≡◌, ℕ, List, [], ◌∷◌, length, reverse, take, Bool, true, false, ◌||◌, cond, Option, Some, is_some, sym, ap, ◌∙◌, refl, subst, arith}
use Rattle.std.specs.Prelude.{String, string_bytes}
use Rattle.std.specs.declared.alloc.Global.{Global}
use Rattle.std.specs.List.{list_any}
use Rattle.std.specs.Map.{lookup}
use Rattle.std.specs.Str.{bytes_eq}
use Rattle.std.proofs.lemmas.List.{length-map, take_all}
use Rattle.cap_grants.specs.declared.grant.Grant.TheVariants.{Profile as Used}
use Rattle.cap_grants.specs.declared.grant.ProfileUse.{ProfileUse}
use Rattle.grant_core.specs.Flat.{Flat, filled_use, flat, parts_of}
use Rattle.grant_core.specs.Table.{Entries, table_of, IsSized}
use Rattle.grant_core.specs.Found.{parts_before, IsFound}
use Rattle.grant_core.specs.declared.table.Profile.{Profile}
use Rattle.grant_core.proofs.Tables.{length-alone, length-body, name-filled}

-- a use of the profile expands to as many grants as its size says
pub size_found : (es : Entries) (before : ℕ) (used : ProfileUse) (place : ℕ) (profile : Profile) → IsSized es → IsFound es before used.name place profile → profile.size ≡ length (parts_before es before used)
size_found es before used place profile sized found =
    sized.sizes place (found.key, profile) found.there ∙ sym (length-body (reverse (take place (table_of es))) used profile.body) ∙ ap length (sym (found.means used refl))

-- the same of the whole table, for a list of that use alone
pub size_in_table : (es : Entries) (used : ProfileUse) (place : ℕ) (profile : Profile) → IsSized es → IsFound es (length es) used.name place profile → profile.size ≡ length (flat (table_of es) (Used used ∷ []))
size_in_table es used place profile sized found =
    size_found es (length es) used place profile sized found
    ∙ ap (λ t. length (parts_of (reverse t) used)) (take_all (length es) (table_of es) (rw length-map (omega arith)))
    ∙ sym (length-alone (parts_of (reverse (table_of es))) used)

has_by : (b : Bool) (x : Profile) (rest : Option Profile) (others : Bool) → is_some rest ≡ others → is_some (cond b (Some x) rest) ≡ (b || others)
has_by true x rest others e = refl
has_by false x rest others e = e

-- the map has the name just where the table has it
pub has_is : (es : Entries) (name : List ℕ) → is_some (lookup (λ (k : String Global). bytes_eq name (string_bytes k)) es) ≡ list_any (λ profile. bytes_eq name profile.0) (table_of es)
has_is [] name = refl
has_is (e ∷ es) name = has_by (bytes_eq name (string_bytes e.0)) e.1 _ _ (has_is es name)

-- a use of a profile of no size, whatever it takes from the use around it, gives nothing
pub nothing_found : (es : Entries) (before : ℕ) (used inner : ProfileUse) (place : ℕ) (profile : Profile) → IsSized es → IsFound es before inner.name place profile → profile.size ≡ 0 → parts_before es before (filled_use used inner) ≡ []
nothing_found es before used inner place profile sized found none =
    length-zero _ (sym (size_found es before (filled_use used inner) place profile sized (subst (λ n. IsFound es before n place profile) (sym (name-filled used inner)) found)) ∙ none)
  where
    length-zero : (l : Flat) → length l ≡ 0 → l ≡ []
    length-zero [] e = refl
    length-zero (x ∷ xs) e = absurd (omega arith)
