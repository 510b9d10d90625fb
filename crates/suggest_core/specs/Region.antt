-- Statement: contracts of public calls use it.
-- Where the grants of a suggestion apply: regions of targets, by what was seen (this project's profile).
use Rattle.std.specs.Prelude.{ℕ, List, [], ◌∷◌, Bool, not, ◌&&◌, ◌==◌, nat_le, length, if◌then◌else◌, Option, None, Some}
use Rattle.std.specs.Option.{option_map}
use Rattle.std.specs.List.{find, list_all, list_any}
use Rattle.std.specs.Str.{bytes_eq}
use Rattle.cap_grants.specs.declared.grant.AllowGrant.{AllowGrant}
use Rattle.cap_grants.specs.declared.grant.Access.{Access}
use Rattle.cap_grants.specs.declared.grant.NsMatch.TheVariants.{Exact}
use Rattle.cap_grants.specs.declared.grant.Tag.{Tag}
use Rattle.request_types.specs.Target.{Target}
use Rattle.verdict_core.specs.Verdict.{matches_prefix, matches_tag, names}
use Rattle.suggest_core.specs.declared.grain.Division.{Division}
use Rattle.suggest_core.specs.declared.grain.Division.TheVariants as by
use Rattle.suggest_core.specs.declared.grain.Grain.{Grain}
use Rattle.suggest_core.specs.declared.region.Region.{Region}
use Rattle.suggest_core.specs.declared.seen.Seen.{Seen}

abbrev pub is_in : Region → Target → Bool
is_in region target = names region.pool target.pool && names region.namespace target.namespace && matches_tag region.tag target.tags && matches_prefix region.prefix target.object

-- the grant of an access, for a region
abbrev pub grant_for : Region → Access → AllowGrant
grant_for region access = record { access = access; pool = region.pool; namespace = option_map (λ name. Exact name) region.namespace; prefix = region.prefix; tag = region.tag }

-- the first tag that the pools of all requests seen have
abbrev pub shared_tag : List Tag → List Seen → Option Tag
shared_tag tags seen = find (λ tag. list_all (λ request. matches_tag (Some tag) request.target.tags) seen) tags

-- Ceph has no text for a tag with a prefix
abbrev pub tag_of : Division → List Tag → List Seen → Option Tag
tag_of by.Pool tags seen = shared_tag tags seen
tag_of by.Namespace tags seen = shared_tag tags seen
tag_of by.Prefix tags seen = None

-- a tag replaces the name of a pool
abbrev pub pool_of : Option Tag → Target → Option (List ℕ)
pool_of None target = Some target.pool
pool_of (Some tag) target = None

abbrev pub namespace_of : Division → Target → Option (List ℕ)
namespace_of by.Pool target = None
namespace_of by.Namespace target = Some target.namespace
namespace_of by.Prefix target = Some target.namespace

-- the longest beginning of ASCII bytes that two names have in common
abbrev pub common : List ℕ → List ℕ → List ℕ
common [] other = []
common (byte ∷ name) [] = []
common (byte ∷ name) (first ∷ other) = if byte == first && nat_le byte 127 then byte ∷ common name other else []

abbrev pub with_name : Option (List ℕ) → List ℕ → List ℕ
with_name None name = common name name
with_name (Some front) name = common front name

-- the same of a beginning, if there is one, and all names that were seen in a place
abbrev pub common_in : (Target → Bool) → Option (List ℕ) → List Seen → Option (List ℕ)
common_in there front [] = front
common_in there front (request ∷ seen) = common_in there (if there request.target then Some (with_name front request.target.object) else front) seen

-- a beginning that is not empty, behind which some name seen there goes on
abbrev pub useful : (Target → Bool) → List Seen → Option (List ℕ) → Option (List ℕ)
useful there seen None = None
useful there seen (Some front) = if not (length front == 0) && list_any (λ request. there request.target && not (bytes_eq front request.target.object)) seen then Some front else None

abbrev pub prefix_of : Division → (Target → Bool) → List Seen → Option (List ℕ)
prefix_of by.Pool there seen = None
prefix_of by.Namespace there seen = None
prefix_of by.Prefix there seen = useful there seen (common_in there None seen)

-- the region of a target without its prefix: its pool, or a tag of it, and for finer grains its namespace
unfoldable pub place_of : Grain → List Seen → Target → Region
place_of grain seen target = record { pool = pool_of (tag_of grain.by grain.tags.items seen) target; tag = tag_of grain.by grain.tags.items seen; namespace = namespace_of grain.by target; prefix = None }

-- a place, and for the finest grain the longest beginning of the names seen there
unfoldable pub region_of : Grain → List Seen → Target → Region
region_of grain seen target =
    record { pool = (place_of grain seen target).pool; tag = (place_of grain seen target).tag; namespace = (place_of grain seen target).namespace; prefix = prefix_of grain.by (is_in (place_of grain seen target)) seen }
