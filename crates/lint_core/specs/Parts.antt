-- Refinement: only contracts inside the crate use it.
-- Parts of a list that can be expanded, and a list that is tidied from a place on.
use Rattle.std.specs.Prelude.{◌≡◌, ℕ, ◌<◌, ◌≤◌, List, ◌++◌, true, None, length, take, drop}
use Rattle.std.specs.List.{list_all, remove}
use Rattle.cap_grants.specs.declared.grant.Grant.{Grant}
use Rattle.cap_grants.specs.Spellable.{is_spellable}
use Rattle.grant_core.specs.Flat.{Table, flat}
use Rattle.grant_core.specs.Refusal.{expand_refusal}
use Rattle.lint_core.specs.Lint.{AllowsAll, AreKept, IsSublist}

-- grants that make a list, and can be expanded
pub record CanExpand (table : Table) (grants : List Grant) : Type 0 where
  pub few : length grants ≤ 64
  pub spellable : list_all is_spellable grants ≡ true
  pub accepted : expand_refusal table grants ≡ None

-- From this place on these grants are kept. With those before the place they allow the same as all, and without any one of
-- them less.
pub record IsTidyFrom (table : Table) (grants : List Grant) (place : ℕ) (kept : List Grant) : Type 0 where
  pub expands : CanExpand table (take place grants ++ kept)
  pub among : IsSublist kept (drop place grants)
  pub same : AllowsAll (flat table (take place grants ++ kept)) (flat table grants)
  pub no_more : AllowsAll (flat table grants) (flat table (take place grants ++ kept))
  pub chosen : AreKept table grants (take place grants) (drop place grants) kept
  pub needed : (k : ℕ) → k < length kept → ¬ AllowsAll (flat table (take place grants ++ remove kept k)) (flat table grants)
