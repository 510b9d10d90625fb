-- Which targets the grant of a region matches.
use Rattle.std.proofs.Common.{◌≡◌, ℕ, List, true, not, ◌&&◌, ◌||◌, nat_eq, nat_le, Option, Some, None, refl, sym, ap, ◌∙◌}
use Rattle.std.specs.Option.{option_map}
use Rattle.std.specs.List.{Contains, list_all, starts_with}
use Rattle.std.specs.Str.{bytes_eq}
use Rattle.std.proofs.lemmas.Slice.Eq.{bytes_eq-Decides}
use Rattle.cap_grants.specs.declared.grant.AllowGrant.{AllowGrant}
use Rattle.cap_grants.specs.declared.grant.Access.{Access}
use Rattle.cap_grants.specs.declared.grant.NsMatch.TheVariants.{Exact}
use Rattle.cap_grants.specs.declared.grant.Tag.{Tag}
use Rattle.request_types.specs.Target.{Target}
use Rattle.request_types.specs.declared.request.Needs.{Needs}
use Rattle.verdict_core.specs.Verdict.{can_read, can_write, is_usable, matches, matches_namespace, matches_prefix, matches_tag, names}
use Rattle.compare_core.proofs.Bools.{both, both_left, both_right}
use Rattle.suggest_core.specs.declared.grain.Division.{Division}
use Rattle.suggest_core.specs.declared.grain.Division.TheVariants as by
use Rattle.suggest_core.specs.declared.grain.Grain.{Grain}
use Rattle.suggest_core.specs.declared.region.Region.{Region}
use Rattle.suggest_core.specs.declared.seen.Seen.{Seen}
use Rattle.suggest_core.specs.Region.{grant_for, is_in, namespace_of, place_of, pool_of, prefix_of, region_of, tag_of}
use Rattle.suggest_core.proofs.Beginnings.{prefix_fits, tag_fits}
use Rattle.suggest_core.proofs.Longest.{prefix_longest}

pub same_bytes : (a b : List ℕ) → bytes_eq a b ≡ true → a ≡ b
same_bytes a b h = (bytes_eq-Decides a b).0 h

pub itself : (a : List ℕ) → bytes_eq a a ≡ true
itself a = (bytes_eq-Decides a a).1 refl

-- ---- a request seen is in its own region

own_pool : (tag : Option Tag) (target : Target) → names (pool_of tag target) target.pool ≡ true
own_pool None target = itself target.pool
own_pool (Some tag) target = refl

own_namespace : (division : Division) (target : Target) → names (namespace_of division target) target.namespace ≡ true
own_namespace by.Pool target = refl
own_namespace by.Namespace target = itself target.namespace
own_namespace by.Prefix target = itself target.namespace

own_place : (grain : Grain) (seen : List Seen) (request : Seen) → Contains seen request → is_in (place_of grain seen request.target) request.target ≡ true
unfolding place_of
own_place grain seen request there =
    both _ _ (both _ _ (both _ _ (own_pool (tag_of grain.by grain.tags.items seen) request.target) (own_namespace grain.by request.target)) (tag_fits grain.by grain.tags.items seen request there)) refl

-- the prefix of a place fits each request seen there
in_place : (grain : Grain) (seen : List Seen) (target : Target) (request : Seen) → Contains seen request → is_in (place_of grain seen target) request.target ≡ true → is_in (region_of grain seen target) request.target ≡ true
unfolding region_of
in_place grain seen target request there inside =
    let place : Region = place_of grain seen target in
    both _ _ (both_left _ (matches_prefix place.prefix request.target.object) inside) (prefix_fits grain.by (is_in place) seen request there inside)

pub in_own : (grain : Grain) (seen : List Seen) (request : Seen) → Contains seen request → is_in (region_of grain seen request.target) request.target ≡ true
in_own grain seen request there = in_place grain seen request.target request there (own_place grain seen request there)

-- no longer prefix fits each request seen there
pub longest_there : (grain : Grain) (seen : List Seen) (target : Target) (prefix other : List ℕ) → (region_of grain seen target).prefix ≡ Some prefix → list_all (λ byte. nat_le byte 127) other ≡ true
    → ((request : Seen) → Contains seen request → is_in (region_of grain seen target) request.target ≡ true → starts_with nat_eq request.target.object other ≡ true) → starts_with nat_eq prefix other ≡ true
unfolding region_of
longest_there grain seen target prefix other is ascii each =
    prefix_longest grain.by (is_in (place_of grain seen target)) seen prefix other is ascii (λ request there inside. each request there (in_place grain seen target request there inside))

-- ---- a target in a region has that region

same_pool : (tag : Option Tag) (target other : Target) → names (pool_of tag target) other.pool ≡ true → pool_of tag other ≡ pool_of tag target
same_pool None target other h = ap (λ (pool : List ℕ). Some pool) (sym (same_bytes target.pool other.pool h))
same_pool (Some tag) target other h = refl

same_namespace : (division : Division) (target other : Target) → names (namespace_of division target) other.namespace ≡ true → namespace_of division other ≡ namespace_of division target
same_namespace by.Pool target other h = refl
same_namespace by.Namespace target other h = ap (λ (name : List ℕ). Some name) (sym (same_bytes target.namespace other.namespace h))
same_namespace by.Prefix target other h = ap (λ (name : List ℕ). Some name) (sym (same_bytes target.namespace other.namespace h))

-- regions go by the pool and the namespace
by_parts : (grain : Grain) (seen : List Seen) (target other : Target) → pool_of (tag_of grain.by grain.tags.items seen) other ≡ pool_of (tag_of grain.by grain.tags.items seen) target
    → namespace_of grain.by other ≡ namespace_of grain.by target → region_of grain seen other ≡ region_of grain seen target
unfolding place_of region_of
by_parts grain seen target other pools namespaces =
    let place : (pool namespace : Option (List ℕ)) → Region = λ pool namespace. record { pool = pool; tag = tag_of grain.by grain.tags.items seen; namespace = namespace; prefix = None } in
    λ i. record { pool = pools i; tag = tag_of grain.by grain.tags.items seen; namespace = namespaces i; prefix = prefix_of grain.by (is_in (place (pools i) (namespaces i))) seen }

pub same_region : (grain : Grain) (seen : List Seen) (target other : Target) → is_in (region_of grain seen target) other ≡ true → region_of grain seen other ≡ region_of grain seen target
unfolding place_of region_of
same_region grain seen target other h =
    let region : Region = region_of grain seen target in
    let parts : (names region.pool other.pool && names region.namespace other.namespace) ≡ true = both_left _ (matches_tag region.tag other.tags) (both_left _ (matches_prefix region.prefix other.object) h) in
    by_parts grain seen target other
    (same_pool (tag_of grain.by grain.tags.items seen) target other (both_left _ _ parts))
    (same_namespace grain.by target other (both_right (names region.pool other.pool) _ parts))

-- ---- the grant of a region matches the targets in it

same_namespaces : (namespace : Option (List ℕ)) (name : List ℕ) → matches_namespace (option_map (λ name. Exact name) namespace) name ≡ names namespace name
same_namespaces None name = refl
same_namespaces (Some n) name = refl

pub matches_in : (region : Region) (access : Access) (target : Target) → matches (grant_for region access) target ≡ is_in region target
matches_in region access target =
    λ i. ((names region.pool target.pool && same_namespaces region.namespace target.namespace i) && matches_tag region.tag target.tags) && matches_prefix region.prefix target.object

-- it matches each request seen of its region
pub matches_own : (grain : Grain) (seen : List Seen) (access : Access) (request : Seen) → Contains seen request → matches (grant_for (region_of grain seen request.target) access) request.target ≡ true
matches_own grain seen access request there = matches_in (region_of grain seen request.target) access request.target ∙ in_own grain seen request there

-- where the grant of another's region matches a target, the regions are the same
pub matched_region : (grain : Grain) (seen : List Seen) (access : Access) (target other : Target) → matches (grant_for (region_of grain seen other) access) target ≡ true → region_of grain seen target ≡ region_of grain seen other
matched_region grain seen access target other h = same_region grain seen other target (sym (matches_in (region_of grain seen other) access target) ∙ h)

-- grants of regions with the same pool and namespace
same_options : (one other : Option (List ℕ)) → option_map (λ (name : List ℕ). Exact name) one ≡ option_map (λ (name : List ℕ). Exact name) other → one ≡ other
same_options None None h = refl
same_options None (Some b) h = absurd (cc)
same_options (Some a) None h = absurd (cc)
same_options (Some a) (Some b) h = cc

pub regions_from : (grain : Grain) (seen : List Seen) (one other : Target) → (region_of grain seen one).pool ≡ (region_of grain seen other).pool
    → option_map (λ (name : List ℕ). Exact name) (region_of grain seen one).namespace ≡ option_map (λ (name : List ℕ). Exact name) (region_of grain seen other).namespace
    → region_of grain seen one ≡ region_of grain seen other
unfolding place_of region_of
regions_from grain seen one other pools namespaces =
    by_parts grain seen other one pools (same_options (namespace_of grain.by one) (namespace_of grain.by other) namespaces)

-- the parts of a usable grant

pub usable_matches : (g : AllowGrant) (target : Target) (needs : Needs) → is_usable g target needs ≡ true → matches g target ≡ true
usable_matches g target needs h = both_left _ _ (both_left (matches g target && (not needs.reads || can_read g.access)) _ h)

pub usable_reads : (g : AllowGrant) (target : Target) (needs : Needs) → is_usable g target needs ≡ true → (not needs.reads || can_read g.access) ≡ true
usable_reads g target needs h = both_right (matches g target) _ (both_left (matches g target && (not needs.reads || can_read g.access)) _ h)

pub usable_writes : (g : AllowGrant) (target : Target) (needs : Needs) → is_usable g target needs ≡ true → (not needs.writes || can_write g.access) ≡ true
usable_writes g target needs h = both_right (matches g target && (not needs.reads || can_read g.access)) _ h

pub usable_from : (g : AllowGrant) (target : Target) (needs : Needs) → matches g target ≡ true → (not needs.reads || can_read g.access) ≡ true → (not needs.writes || can_write g.access) ≡ true → is_usable g target needs ≡ true
usable_from g target needs m r w = both _ _ (both _ _ m r) w
