-- Refinement: only contracts inside the crate use it.
-- Where the grants of a ticket stand that may speak of a request. Only inner contracts use this: a public one speaks of
-- the verdict alone.
use Rattle.std.specs.Prelude.{◌≡◌, ◌≢◌, ℕ, ◌<◌, ◌≤◌, List, Bool, false, Option, None, Some, ◌&&◌, length, slice_index}
use Rattle.std.specs.List.{slice_get}
use Rattle.cap_grants.specs.declared.grant.AllowGrant.{AllowGrant}
use Rattle.common_types.specs.declared.tags.AppTags.{AppTags}
use Rattle.verdict_core.specs.declared.kinds.IndexKey.{IndexKey}
use Rattle.verdict_core.specs.Hash.{folded}
use Rattle.verdict_core.specs.Kinds.{pair_hash, chain_in, chain_of}
use Rattle.request_types.specs.declared.request.Needs.{Needs}
use Rattle.request_types.specs.declared.request.ClassCall.{ClassCall}
use Rattle.request_types.specs.Target.{Target}
use Rattle.verdict_core.specs.Verdict.{is_usable, covers}

-- The places from some place on are chained. `first` has the first place of each chain. `next` has the one behind
-- each place in its chain. Where a chain has no such place, the value is the number of all places.
pub record AreChained (from : ℕ) (chains first next : List ℕ) : Type 0 where
  pub heads : length first ≡ 257
  pub places : length next ≡ length chains
  pub low : (chain : ℕ) → chain < 257 → from ≤ slice_index first chain
  pub first_in : (chain : ℕ) → chain < 257 → slice_index first chain < length chains → slice_index chains (slice_index first chain) ≡ chain
  pub first_is : (chain i : ℕ) → chain < 257 → from ≤ i → i < slice_index first chain → i < length chains → slice_index chains i ≢ chain
  pub next_in : (j : ℕ) → from ≤ j → j < length chains → slice_index next j < length chains → slice_index chains (slice_index next j) ≡ slice_index chains j
  pub next_is : (j i : ℕ) → from ≤ j → j < length chains → j < i → i < slice_index next j → i < length chains → slice_index chains i ≢ slice_index chains j
  pub rises : (j : ℕ) → from ≤ j → j < length chains → j < slice_index next j

-- whether a grant is usable, and covers the call where one is asked for
abbrev pub gives : AllowGrant → Target → Needs → Option ClassCall → Bool
gives g place needs None = is_usable g place needs
gives g place needs (Some call) = is_usable g place needs && covers g.access call

-- no grant of the chain before some place gives it
abbrev pub NoneBefore : List IndexKey → ℕ → List (List ℕ × AllowGrant) → ℕ → Target → Needs → Option ClassCall → Type 0
NoneBefore kinds place grants chain at needs call = (i : ℕ) (entry : List ℕ × AllowGrant) → i < place → slice_get grants i ≡ Some entry → chain_of kinds entry.1 ≡ chain → gives entry.1 at needs call ≡ false

-- no grant that is found by this kind gives it
abbrev pub NoneOfKind : IndexKey → List IndexKey → List (List ℕ × AllowGrant) → Target → Needs → Option ClassCall → Type 0
NoneOfKind kind kinds grants at needs call = (i : ℕ) (entry : List ℕ × AllowGrant) → slice_get grants i ≡ Some entry → chain_in kind entry.1 ≡ Some (chain_of kinds entry.1) → gives entry.1 at needs call ≡ false

-- no grant gives it that is in the chain of an application with one of its first `count` pairs, by the hash `front`
abbrev pub NoneOfPairs : ℕ → List (List ℕ × List ℕ) → List ℕ → ℕ → List IndexKey → List (List ℕ × AllowGrant) → Target → Needs → Option ClassCall → Type 0
NoneOfPairs count pairs application front kinds grants at needs call = (j : ℕ) (pair : List ℕ × List ℕ) → j < count → slice_get pairs j ≡ Some pair → NoneBefore kinds (length grants) grants (folded (pair_hash application pair.0 pair.1) front) at needs call

-- the same of all applications
abbrev pub NoneOfTags : ℕ → List AppTags → ℕ → List IndexKey → List (List ℕ × AllowGrant) → Target → Needs → Option ClassCall → Type 0
NoneOfTags count tags front kinds grants at needs call = (j : ℕ) (app : AppTags) → j < count → slice_get tags j ≡ Some app → NoneOfPairs (length app.pairs) app.pairs app.application front kinds grants at needs call
