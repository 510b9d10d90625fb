-- Refinement: only contracts inside the crate use it.
-- Why each grant of a suggestion is there, and how far a suggestion has come.
use Rattle.std.specs.Prelude.{◌≡◌, ℕ, List, [], ◌∷◌, true, false, Some, ◌⊎◌}
use Rattle.std.specs.List.{Contains}
use Rattle.cap_grants.specs.declared.grant.AllowGrant.{AllowGrant}
use Rattle.cap_grants.specs.declared.grant.Access.TheVariants.{Class}
use Rattle.request_types.specs.declared.request.ClassCall.{ClassCall}
use Rattle.verdict_core.specs.Verdict.{covers, is_covered}
use Rattle.suggest_core.specs.declared.grain.Grain.{Grain}
use Rattle.suggest_core.specs.declared.seen.Seen.{Seen}
use Rattle.suggest_core.specs.Grain.{access_for, moves, some_moving}
use Rattle.suggest_core.specs.Region.{grant_for, region_of}
use Rattle.suggest_core.specs.Suggestion.{AreNumbered}

-- the grant of all flags of a region, in which this request reads or writes
pub record IsMovingGrant (grain : Grain) (seen : List Seen) (grant : AllowGrant) : Type 0 where
  pub request : Seen
  pub there : Contains seen request
  pub moving : moves request.needs ≡ true
  pub is : grant ≡ grant_for (region_of grain seen request.target) (access_for seen (region_of grain seen request.target))

-- the grant of a method, which this request calls and the region's flags do not cover
pub record IsCallGrant (grain : Grain) (seen : List Seen) (grant : AllowGrant) : Type 0 where
  pub request : Seen
  pub there : Contains seen request
  pub still : moves request.needs ≡ false
  pub call : ClassCall
  pub called : Contains request.needs.calls call
  pub is : grant ≡ grant_for (region_of grain seen request.target) (Class call.class (Some call.method))
  pub uncovered : some_moving seen (region_of grain seen request.target) (λ needs. true) ≡ true → covers (access_for seen (region_of grain seen request.target)) call ≡ false

abbrev pub Comes : Grain → List Seen → AllowGrant → Type 0
Comes grain seen grant = IsMovingGrant grain seen grant ⊎ IsCallGrant grain seen grant

-- no two of the grants are equal
abbrev pub AreApart : List (List ℕ × AllowGrant) → Type 0
AreApart [] = Unit {0}
AreApart (entry ∷ entries) = ((other : List ℕ × AllowGrant) → Contains entries other → other.1 ≡ entry.1 → ⊥) × AreApart entries

-- the grant of a request's region is there
abbrev pub HasFlags : Grain → List Seen → List (List ℕ × AllowGrant) → Seen → Type 0
HasFlags grain seen entries request =
    (entry : List ℕ × AllowGrant) × Contains entries entry × (entry.1 ≡ grant_for (region_of grain seen request.target) (access_for seen (region_of grain seen request.target)))

-- the flags of the requests so far
pub record HasMoving (grain : Grain) (seen far : List Seen) (entries : List (List ℕ × AllowGrant)) : Type 0 where
  pub comes : (entry : List ℕ × AllowGrant) → Contains entries entry → IsMovingGrant grain seen entry.1
  pub apart : AreApart entries
  pub numbered : AreNumbered entries
  pub given : (request : Seen) → Contains far request → moves request.needs ≡ true → HasFlags grain seen entries request

-- all flags, and the methods of the requests so far
pub record HasCalls (grain : Grain) (seen far : List Seen) (entries : List (List ℕ × AllowGrant)) : Type 0 where
  pub comes : (entry : List ℕ × AllowGrant) → Contains entries entry → Comes grain seen entry.1
  pub apart : AreApart entries
  pub numbered : AreNumbered entries
  pub given : (request : Seen) → Contains seen request → moves request.needs ≡ true → HasFlags grain seen entries request
  pub covered : (request : Seen) → Contains far request → moves request.needs ≡ false → (call : ClassCall) → Contains request.needs.calls call → is_covered entries request.target request.needs call ≡ true

-- the same, and of this request the calls so far
pub record HasSome (grain : Grain) (seen far : List Seen) (request : Seen) (calls : List ClassCall) (entries : List (List ℕ × AllowGrant)) : Type 0 where
  pub before : HasCalls grain seen far entries
  pub also : (call : ClassCall) → Contains calls call → is_covered entries request.target request.needs call ≡ true
