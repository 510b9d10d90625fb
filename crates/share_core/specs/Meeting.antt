-- Refinement: only contracts inside the crate use it.
-- Which grants meet, and a target at which they do.
use Rattle.std.specs.Prelude.{ℕ, List, [], ◌∷◌, length, ◌==◌, ◌++◌, Bool, true, false, not, ◌&&◌, ◌||◌, Option, None, Some, nat_eq, if◌then◌else◌, codes}
use Rattle.std.specs.List.{starts_with, list_any}
use Rattle.std.specs.Str.{bytes_eq}
use Rattle.cap_grants.specs.declared.grant.AllowGrant.{AllowGrant}
use Rattle.cap_grants.specs.declared.grant.Access.{Access}
use Rattle.cap_grants.specs.declared.grant.Access.TheVariants.{All, Flags, Class}
use Rattle.cap_grants.specs.declared.grant.NsMatch.{NsMatch}
use Rattle.cap_grants.specs.declared.grant.NsMatch.TheVariants.{Exact, Prefix}
use Rattle.cap_grants.specs.declared.grant.Part.{Part}
use Rattle.cap_grants.specs.declared.grant.Part.TheVariants.{Any, Is}
use Rattle.cap_grants.specs.declared.grant.Tag.{Tag}
use Rattle.common_types.specs.declared.tags.AppTags.{AppTags}
use Rattle.request_types.specs.Target.{Target}
use Rattle.verdict_core.specs.Verdict.{can_read, can_write, covers}
use Rattle.compare_core.specs.Fresh.{any_pool, both_any}
use Rattle.share_core.specs.declared.touches.Touch.{Touch}
use Rattle.share_core.specs.declared.touches.Touch.TheVariants.{Read, Write, Call, AnyRead, AnyWrite}
use Rattle.share_core.specs.declared.reaching.Shared.{Shared}
use Rattle.share_core.specs.declared.pools.Pool.{Pool}
pub use Rattle.share_core.specs.Pools.{is_for}

-- an access covers some call whose method reads, or writes: that of a class covers its calls, whatever they do

abbrev pub calls_reading : Access → Bool
calls_reading All = true
calls_reading (Flags flags) = flags.class_read
calls_reading (Class class method) = true

abbrev pub calls_writing : Access → Bool
calls_writing All = true
calls_writing (Flags flags) = flags.class_write
calls_writing (Class class method) = true

-- whether an access gives a touch, wherever its grant matches
abbrev pub gives : Access → Touch → Bool
gives access Read = can_read access
gives access Write = can_write access
gives access (Call call) = covers access call
gives access AnyRead = can_read access || calls_reading access
gives access AnyWrite = can_write access || calls_writing access

-- one text begins with the other
abbrev pub are_alike : List ℕ → List ℕ → Bool
are_alike a b = starts_with nat_eq a b || starts_with nat_eq b a

abbrev pub longer : List ℕ → List ℕ → List ℕ
longer a b = if starts_with nat_eq a b then a else b

-- pools: they agree where both are named

abbrev pub pools_meet : Option (List ℕ) → Option (List ℕ) → Bool
pools_meet None other = true
pools_meet (Some pool) None = true
pools_meet (Some pool) (Some other) = bytes_eq pool other

abbrev pub common_pool : Option (List ℕ) → Option (List ℕ) → List ℕ
common_pool (Some pool) other = pool
common_pool None (Some other) = other
common_pool None None = any_pool

-- namespaces

abbrev pub namespaces_meet : Option NsMatch → Option NsMatch → Bool
namespaces_meet None other = true
namespaces_meet (Some mine) None = true
namespaces_meet (Some (Exact mine)) (Some (Exact theirs)) = bytes_eq mine theirs
namespaces_meet (Some (Exact mine)) (Some (Prefix theirs)) = starts_with nat_eq mine theirs
namespaces_meet (Some (Prefix mine)) (Some (Exact theirs)) = starts_with nat_eq theirs mine
namespaces_meet (Some (Prefix mine)) (Some (Prefix theirs)) = are_alike mine theirs

abbrev pub common_namespace : Option NsMatch → Option NsMatch → List ℕ
common_namespace None None = []
common_namespace None (Some (Exact theirs)) = theirs
common_namespace None (Some (Prefix theirs)) = theirs
common_namespace (Some (Exact mine)) other = mine
common_namespace (Some (Prefix mine)) None = mine
common_namespace (Some (Prefix mine)) (Some (Exact theirs)) = theirs
common_namespace (Some (Prefix mine)) (Some (Prefix theirs)) = longer mine theirs

-- objects

abbrev pub prefixes_meet : Option (List ℕ) → Option (List ℕ) → Bool
prefixes_meet None other = true
prefixes_meet (Some mine) None = true
prefixes_meet (Some mine) (Some theirs) = are_alike mine theirs

-- an object's name in place of the empty one
abbrev pub or_a : List ℕ → List ℕ
or_a text = if length text == 0 then codes "a" else text

abbrev pub common_object : Option (List ℕ) → Option (List ℕ) → List ℕ
common_object None None = codes "a"
common_object None (Some theirs) = or_a theirs
common_object (Some mine) None = or_a mine
common_object (Some mine) (Some theirs) = or_a (longer mine theirs)

-- tags: of one application, they clash where they ask for two values of one key

abbrev pub differ : Part → Part → Bool
differ Any theirs = false
differ (Is mine) Any = false
differ (Is mine) (Is theirs) = not (bytes_eq mine theirs)

-- both parts are the same name
abbrev pub same_key : Part → Part → Bool
same_key Any theirs = false
same_key (Is mine) Any = false
same_key (Is mine) (Is theirs) = bytes_eq mine theirs

abbrev pub clash : Tag → Tag → Bool
clash mine theirs = bytes_eq mine.application theirs.application && same_key mine.key theirs.key && differ mine.value theirs.value

abbrev pub tags_meet : Option Tag → Option Tag → Bool
tags_meet None other = true
tags_meet (Some mine) None = true
tags_meet (Some mine) (Some theirs) = not (clash mine theirs)

-- the name of a part, or another one
abbrev pub or_name : Part → List ℕ → List ℕ
or_name Any other = other
or_name (Is name) other = name

-- a name other than this one
abbrev pub other_than : List ℕ → List ℕ
other_than name = if bytes_eq name (codes "a") then codes "b" else codes "a"

-- the pair of a tag, if it asks for one
abbrev pub asked : Tag → List ℕ → List ℕ → List (List ℕ × List ℕ)
asked tag key value = if both_any tag.key tag.value then [] else (key, value) ∷ []

abbrev pub own_tags : Tag → AppTags
own_tags tag = record { application = tag.application; pairs = asked tag (or_name tag.key (codes "a")) (or_name tag.value (codes "a")) }

-- the keys that two tags of one application get, where they do not ask for one key
abbrev pub key_of : Tag → Tag → List ℕ
key_of mine theirs = or_name mine.key (other_than (or_name theirs.key (codes "b")))

-- the pairs of one application for two tags that do not clash
abbrev pub common_pairs : Tag → Tag → List (List ℕ × List ℕ)
common_pairs mine theirs =
    if same_key mine.key theirs.key then (key_of mine theirs, or_name mine.value (or_name theirs.value (codes "a"))) ∷ []
    else asked mine (key_of mine theirs) (or_name mine.value (codes "a")) ++ asked theirs (or_name theirs.key (other_than (key_of mine theirs))) (or_name theirs.value (codes "a"))

abbrev pub common_app : Tag → Tag → AppTags
common_app mine theirs = record { application = mine.application; pairs = common_pairs mine theirs }

abbrev pub common_tags : Option Tag → Option Tag → List AppTags
common_tags None None = []
common_tags None (Some theirs) = own_tags theirs ∷ []
common_tags (Some mine) None = own_tags mine ∷ []
common_tags (Some mine) (Some theirs) = if bytes_eq mine.application theirs.application then common_app mine theirs ∷ [] else own_tags mine ∷ own_tags theirs ∷ []

-- whole grants

abbrev pub meet : AllowGrant → AllowGrant → Bool
meet g h = pools_meet g.pool h.pool && namespaces_meet g.namespace h.namespace && prefixes_meet g.prefix h.prefix && tags_meet g.tag h.tag

abbrev pub common : AllowGrant → AllowGrant → Target
common g h = record { pool = common_pool g.pool h.pool; tags = common_tags g.tag h.tag; namespace = common_namespace g.namespace h.namespace; object = common_object g.prefix h.prefix }

-- whether two grants give the touches, and meet
abbrev pub reach : Touch → Touch → AllowGrant → AllowGrant → Bool
reach one other g h = gives g.access one && gives h.access other && meet g h

abbrev pub shared_by : (List ℕ × AllowGrant) × (List ℕ × AllowGrant) → Shared
shared_by pair = record { path = pair.0.0; other_path = pair.1.0; target = common pair.0.1 pair.1.1 }

abbrev pub example_of : Touch → Touch → (List ℕ × AllowGrant) × (List ℕ × AllowGrant) → Option Shared
example_of one other pair = if reach one other pair.0.1 pair.1.1 then Some (shared_by pair) else None

-- ---- of pools that are given

abbrev pub both_for : AllowGrant → AllowGrant → Pool → Bool
both_for g h pool = is_for g pool && is_for h pool

-- whether two grants give the touches, and meet wherever both are for the pool
abbrev pub can_reach : Touch → Touch → AllowGrant → AllowGrant → Bool
can_reach one other g h = gives g.access one && gives h.access other && namespaces_meet g.namespace h.namespace && prefixes_meet g.prefix h.prefix

-- whether two grants give the touches at a common target of a pool, or of some of the pools

abbrev pub reach_at : Pool → Touch → Touch → AllowGrant → AllowGrant → Bool
reach_at pool one other g h = can_reach one other g h && both_for g h pool

abbrev pub reach_in : List Pool → Touch → Touch → AllowGrant → AllowGrant → Bool
reach_in pools one other g h = can_reach one other g h && (pools_meet g.pool h.pool && list_any (both_for g h) pools)

-- a target of a pool for two grants that meet there
abbrev pub common_in : Pool → AllowGrant → AllowGrant → Target
common_in pool g h = record { pool = pool.name; tags = pool.tags; namespace = common_namespace g.namespace h.namespace; object = common_object g.prefix h.prefix }
