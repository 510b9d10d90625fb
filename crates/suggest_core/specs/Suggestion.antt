-- Statement: contracts of public calls use it.
-- What a suggested text is: of its grain, enough for the requests seen, least, and without a redundant grant (this project's profile).
use Rattle.std.specs.Prelude.{◌≡◌, ℕ, ◌+◌, ◌∷◌, ◌++◌, [], List, Bool, true, false, not, ◌&&◌, ◌||◌, ◌==◌, length, nat_eq, nat_le, Some}
use Rattle.std.specs.List.{list_all, list_any, starts_with, Contains, slice_get}
use Rattle.cap_grants.specs.declared.grant.AllowGrant.{AllowGrant}
use Rattle.request_types.specs.Target.{Target}
use Rattle.request_types.specs.declared.request.Needs.{Needs}
use Rattle.request_types.specs.declared.request.ClassCall.{ClassCall}
use Rattle.verdict_core.specs.Verdict.{grants_allow, matches}
use Rattle.suggest_core.specs.declared.grain.Grain.{Grain}
use Rattle.suggest_core.specs.declared.seen.Seen.{Seen}
use Rattle.suggest_core.specs.Grain.{IsOfGrain, moves}

-- a request that neither reads nor writes nor calls: no grant is the least for it
abbrev pub asks_nothing : Needs → Bool
asks_nothing needs = not (moves needs) && length needs.calls == 0

-- a request that reads or writes, with a call of a class that is not listed: only * allows it
abbrev pub needs_all : Needs → Bool
needs_all needs = moves needs && list_any (λ call. not call.listed) needs.calls

-- a request for which nothing is suggested
abbrev pub is_left_out : Bool → Seen → Bool
is_left_out allow_all request = asks_nothing request.needs || (not allow_all && needs_all request.needs)

-- a text allows each request seen
abbrev pub AllowsSeen : List Seen → List (List ℕ × AllowGrant) → Type 0
AllowsSeen seen text = (request : Seen) → Contains seen request → grants_allow text request.target request.needs ≡ true

-- a call of some request seen
abbrev pub IsSeenCall : List Seen → ClassCall → Type 0
IsSeenCall seen call = (request : Seen) × Contains seen request × Contains request.needs.calls call

-- the methods that were seen read, write and are listed as they were seen
abbrev pub AgreesWith : List Seen → Needs → Type 0
AgreesWith seen needs = (call known : ClassCall) → Contains needs.calls call → IsSeenCall seen known → known.class ≡ call.class → known.method ≡ call.method → known ≡ call

-- each text of the grain that allows all requests seen allows all that this one does
abbrev pub IsLeast : Grain → List Seen → List (List ℕ × AllowGrant) → Type 0
IsLeast grain seen text =
    (other : List (List ℕ × AllowGrant)) → IsOfGrain grain seen other → AllowsSeen seen other
    → (target : Target) (needs : Needs) → AgreesWith seen needs → grants_allow text target needs ≡ true → grants_allow other target needs ≡ true

-- without any one of its grants the text denies some request seen
abbrev pub EachIsNeeded : List Seen → List (List ℕ × AllowGrant) → Type 0
EachIsNeeded seen text =
    (front behind : List (List ℕ × AllowGrant)) (entry : List ℕ × AllowGrant) → text ≡ front ++ entry ∷ behind
    → (request : Seen) × Contains seen request × (grants_allow (front ++ behind) request.target request.needs ≡ false)

-- no longer beginning of ASCII bytes is one of all names seen where a grant with a prefix applies
abbrev pub HasLongestPrefix : List Seen → AllowGrant → Type 0
HasLongestPrefix seen grant =
    (prefix other : List ℕ) → grant.prefix ≡ Some prefix → list_all (λ byte. nat_le byte 127) other ≡ true
    → ((request : Seen) → Contains seen request → matches grant request.target ≡ true → starts_with nat_eq request.target.object other ≡ true) → starts_with nat_eq prefix other ≡ true

-- the paths are the numbers from 1
abbrev pub AreNumbered : List (List ℕ × AllowGrant) → Type 0
AreNumbered text = (place : ℕ) (entry : List ℕ × AllowGrant) → slice_get text place ≡ Some entry → entry.0 ≡ (place + 1) ∷ []

pub record IsSuggested (grain : Grain) (seen : List Seen) (text : List (List ℕ × AllowGrant)) : Type 0 where
  pub of_grain : IsOfGrain grain seen text
  pub allows : AllowsSeen seen text
  pub least : IsLeast grain seen text
  pub needed : EachIsNeeded seen text
  pub longest : (entry : List ℕ × AllowGrant) → Contains text entry → HasLongestPrefix seen entry.1
  pub numbered : AreNumbered text
