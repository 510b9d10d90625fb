-- What the map of profiles says of names, as places in the table.
use Rattle.std.proofs.Common.{◌≡◌, ℕ, ◌<◌, ◌≤◌, List, [], true, false, None, Some, length, get_or, slice_get, map, reverse, take, position, sym, ap, ◌∙◌, arith, inl, inr}
use Rattle.std.specs.Prelude.{String, string_bytes}
use Rattle.std.specs.declared.alloc.Global.{Global}
use Rattle.std.specs.Map.{keys_of}
use Rattle.std.specs.List.{IsDistinct}
use Rattle.std.specs.Str.{bytes_eq}
use Rattle.std.proofs.lemmas.List.{get_or-map, length-map}
use Rattle.std.proofs.lemmas.List.Sums.{fails_before_first}
use Rattle.std.proofs.lemmas.List.Quantifiers.{position-Some}
use Rattle.std.proofs.lemmas.Map.Keys.{apart_from_distinct}
use Rattle.std.proofs.lemmas.Option.{slice_get_cases, get_or_from_slice_get}
use Rattle.std.proofs.lemmas.Slice.Eq.{bytes_eq-Decides}
use Rattle.indexmap.proofs.MapLemmas.{Missing-position}
use Rattle.cap_grants.specs.declared.grant.ProfileUse.{ProfileUse}
use Rattle.grant_core.specs.Flat.{numbered, parts_of, filled}
use Rattle.grant_core.specs.Table.{Entries, table_of}
use Rattle.grant_core.specs.Found.{parts_before, IsFound}
use Rattle.grant_core.specs.declared.table.Profile.{Profile}
use Rattle.grant_core.proofs.Tables.{nothing, absent, found}

-- the entry at a place, in the table
table_at : (es : Entries) (k : ℕ) (x : String Global × Profile) → k < length es → get_or es k x ≡ x → get_or (table_of es) k nothing ≡ (string_bytes x.0, x.1.body)
table_at es k x h at = get_or-map (λ e. (string_bytes e.0, e.1.body)) es k x nothing h ∙ ap (λ e. (string_bytes e.0, e.1.body)) at

key_at : (es : Entries) (k : ℕ) (x : String Global × Profile) (d : String Global) → k < length es → get_or es k x ≡ x → get_or (keys_of es) k d ≡ x.0
key_at es k x d h at = get_or-map (λ e. e.0) es k x d h ∙ ap (λ e. e.0) at

-- where the test of keys fails, the name in the table differs
name_fails : (es : Entries) (name : List ℕ) (k : ℕ) → k < length es → ((d : String Global) → bytes_eq name (string_bytes (get_or (keys_of es) k d)) ≡ false) → bytes_eq name (get_or (table_of es) k nothing).0 ≡ false
name_fails es name k h fails = elim (slice_get_cases es k).1 [
  | inl w ↦ ap (λ e. bytes_eq name e.0) (table_at es k w.0 h w.3) ∙ ap (λ d. bytes_eq name (string_bytes d)) (sym (key_at es k w.0 w.0.0 h w.3)) ∙ fails w.0.0
  | inr w ↦ absurd (omega arith)
]

-- the name is no key
pub missing : (es : Entries) (name : List ℕ) (before : ℕ) (used : ProfileUse) → position (λ k. bytes_eq name (string_bytes k)) (keys_of es) ≡ None → before ≤ length es → used.name ≡ name → parts_before es before used ≡ []
missing es name before used none h is =
    let all = (Missing-position (λ (k : String Global). bytes_eq name (string_bytes k)) es none).or_len in
    absent before (table_of es) used (rw length-map h) (λ k l. rw is (name_fails es name k (omega arith) (λ d. fails_before_first (λ k'. bytes_eq name (string_bytes k')) (keys_of es) k d (omega (arith, all)))))

-- the name is a key at this place or after it
pub later : (es : Entries) (name : List ℕ) (before place : ℕ) (used : ProfileUse) → position (λ k. bytes_eq name (string_bytes k)) (keys_of es) ≡ Some place → before ≤ length es → before ≤ place → used.name ≡ name → parts_before es before used ≡ []
later es name before place used at h low is =
    absent before (table_of es) used (rw length-map h) (λ k l. rw is (name_fails es name k (omega arith) (λ d. (position-Some (λ k'. bytes_eq name (string_bytes k')) (keys_of es) place d at).2 k (omega arith))))

-- the name is the key at this place, and no other key equals it
pub here : (es : Entries) (name : List ℕ) (before place : ℕ) (key : String Global) (profile : Profile)
    → IsDistinct (λ (a b : String Global). bytes_eq (string_bytes a) (string_bytes b)) (keys_of es) → position (λ k. bytes_eq name (string_bytes k)) (keys_of es) ≡ Some place
    → slice_get es place ≡ Some (key, profile) → before ≤ length es → place < before → IsFound es before name place profile
here es name before place key profile unique at there h low =
    let first = position-Some (λ (k : String Global). bytes_eq name (string_bytes k)) (keys_of es) place key at in
    let entry = get_or_from_slice_get es place (key, profile) (key, profile) there in
    let in_table = table_at es place (key, profile) (omega arith) entry in
    let own : get_or (keys_of es) place key ≡ key = key_at es place (key, profile) key (omega arith) entry in
    let tested : bytes_eq name (string_bytes key) ≡ true = ap (λ d. bytes_eq name (string_bytes d)) (sym own) ∙ first.1 in
    let same : name ≡ string_bytes key = (bytes_eq-Decides name (string_bytes key)).0 tested in
    record {
      within = low;
      key = key;
      there = there;
      means = λ used is.
          found before (table_of es) place used low (rw length-map h)
          (rw (is, in_table) tested)
          (λ k l m. rw is (name_fails es name k (omega arith) (λ d.
          rw same (ap (λ x. bytes_eq (string_bytes x) (string_bytes (get_or (keys_of es) k d))) (sym (key_at es place (key, profile) d (omega arith) entry))
          ∙ apart_from_distinct (λ (a b : String Global). bytes_eq (string_bytes a) (string_bytes b)) (keys_of es) place k d unique l (rw length-map (omega arith))))))
          ∙ ap (λ e. numbered (parts_of (reverse (take place (table_of es)))) 1 (map (filled used) e.1)) in_table;
    }
