-- Refinement: only contracts inside the crate use it.
-- Which places of a list of tickets are noted for a pool, or for grants without one.
use Rattle.std.specs.Prelude.{◌≡◌, ℕ, ◌++◌, ◌&&◌, nat_le, nat_lt, List, [], Bool, is_none, Option, Some, None, String, string_bytes, Vec}
use Rattle.std.specs.List.{Contains, flat_map, list_any, slice_get}
use Rattle.std.specs.Map.{lookup}
use Rattle.std.specs.Str.{bytes_eq}
use Rattle.std.specs.declared.alloc.Global.{Global}
use Rattle.cap_grants.specs.declared.grant.AllowGrant.{AllowGrant}
use Rattle.grant_core.specs.Flat.{Flat}
use Rattle.share_core.specs.declared.pool_places.PoolPlaces.{PoolPlaces}

-- lists of places by the names of pools
abbrev pub Named : Type 0
Named = List (String Global × Vec ℕ Global)

abbrev pub list_of : Named → List ℕ → Option (Vec ℕ Global)
list_of named name = lookup (λ (key : String Global). bytes_eq name (string_bytes key)) named

abbrev pub items_or_none : Option (Vec ℕ Global) → List ℕ
items_or_none None = []
items_or_none (Some places) = places.items

-- those of a name
abbrev pub of_name : Named → List ℕ → List ℕ
of_name named name = items_or_none (list_of named name)

-- those of a grant's pool, or of the grants without one
abbrev pub noted : PoolPlaces → Option (List ℕ) → List ℕ
noted places None = places.unnamed.items
noted places (Some name) = of_name places.named.entries name

-- no place is lost
abbrev pub AreKept : (Option (List ℕ) → List ℕ) → (Option (List ℕ) → List ℕ) → Type 0
AreKept old new = (pool : Option (List ℕ)) (place : ℕ) → Contains (old pool) place → Contains (new pool) place

-- a place is noted for each of some grants
abbrev pub IsNotedFor : (Option (List ℕ) → List ℕ) → ℕ → Flat → Type 0
IsNotedFor at place grants = (i : ℕ) (entry : List ℕ × AllowGrant) → slice_get grants i ≡ Some entry → Contains (at entry.1.pool) place

-- each ticket's place is noted for each of its grants
abbrev pub AreNoted : (Option (List ℕ) → List ℕ) → List Flat → Type 0
AreNoted at tickets = (place : ℕ) (grants : Flat) → slice_get tickets place ≡ Some grants → IsNotedFor at place grants

-- those of a grant's pool, where it names one
abbrev pub named_of : PoolPlaces → Option (List ℕ) → List ℕ
named_of places None = []
named_of places (Some name) = of_name places.named.entries name

-- those of the grants without a pool, and of the pools of some grants
abbrev pub gathered : PoolPlaces → Flat → List ℕ
gathered places grants = places.unnamed.items ++ flat_map (λ entry. named_of places entry.1.pool) grants

-- some grant names no pool
abbrev pub has_unnamed : Flat → Bool
has_unnamed grants = list_any (λ entry. is_none entry.1.pool) grants

-- a place is from one on and below another
abbrev pub is_between : ℕ → ℕ → ℕ → Bool
is_between from count place = nat_le from place && nat_lt place count
