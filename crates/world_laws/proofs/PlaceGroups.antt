-- Every place of the map has its group.
use Rattle.std.proofs.Common.{◌≡◌, ◌∙◌, ℕ, ◌<◌, List, ◌∷◌, ◌++◌, Bool, true, false, cond, if◌then◌else◌, Option, Some, None, is_some, map, fold, refl, sym, ap, subst, arith, append-nil, append_assoc, []}
use Rattle.std.specs.Prelude.{nat_le}
use Rattle.std.specs.List.{filter, find, flat_map}
use Rattle.std.specs.Option.{option_map, option_map_or}
use Rattle.std.proofs.lemmas.Bool.Decides.{nat_tests}
use Rattle.map_core.specs.State.{MapState}
use Rattle.map_core.specs.Map.{change_first, is_named, tagged, created, after, map_of, pool_in}
use Rattle.map_core.specs.Refusal.{acting_tests, first_of, groups_in}
use Rattle.map_core.specs.Limits.{IsAccepted}
use Rattle.map_core.specs.declared.pool.Pool.{Pool}
use Rattle.map_core.specs.declared.command.MapCommand.{MapCommand}
use Rattle.map_core.specs.declared.command.MapCommand.TheVariants.{PoolCreate, AppEnable, AppSet, AppRm, OsdUp, OsdDown, OsdRestart}
use Rattle.map_core.proofs.Current.{after_push}
use Rattle.map_core.proofs.Acceptance.{all_fail, not_false}
use Rattle.store_core.specs.declared.sealed.GroupId.{GroupId}
use Rattle.group_model.specs.Group.{Group, group_step}
use Rattle.world_events.specs.declared.event.Event.{Event}
use Rattle.world_events.specs.declared.event.Event.TheVariants.{Auth, Map, Open, Renew, Close, Submit, List as ListNames, Deliver, Lose, Repeat, Kick}
use Rattle.world_events.specs.declared.fault.WorldFault.TheVariants.{Map as OfMap}
use Rattle.world_front.specs.Groups.{is_same_group, groups_of}
use Rattle.world_front.specs.ControlPlane.{ControlPlane, front_step, group_refusal}
use Rattle.world_core.specs.World.{World, Part, first_world, group_at, at_group, begun_group, act, acted, parts_of, created_by, world_step, world_after}
use Rattle.world_laws.specs.Places.{places_of, HasPlaces, EveryPlaceHasItsGroup, PlacesStay, IsPlace, HasGroup, GroupsAreFoundByPlace}
use Rattle.world_core.proofs.Standing.{step_is}
use Rattle.world_core.proofs.Acting.{group_at_is}
use Rattle.world_front.proofs.Pools.{found_in}
use Rattle.world_front.proofs.Places.{places_once}
use Rattle.world_core.proofs.Limits.{wrapped_none, once}
use Rattle.world_core.specs.Sound.{FrontKept, WorldKept, GroupKept}
use Rattle.world_laws.proofs.AcceptedLaws.{accepted_kept}
use Rattle.world_core.proofs.PlacesNamed.{place_there}

-- ---- the groups' ids

at_ids : (id : GroupId) (change : Group → Group) → ((g : Group) → (change g).group ≡ g.group) → (gs : List Group) → map (λ g. g.group) (at_group id change gs) ≡ map (λ g. g.group) gs
at_ids id change keeps [] = refl
at_ids id change keeps (g ∷ gs) = go (is_same_group id g.group) (at_ids id change keeps gs)
  where
    go : (b : Bool) → map (λ g. g.group) (at_group id change gs) ≡ map (λ g. g.group) gs → map (λ g. g.group) (if b then change g ∷ gs else g ∷ at_group id change gs) ≡ map (λ g. g.group) (g ∷ gs)
    go true rest = ap (λ i. i ∷ map (λ g. g.group) gs) (keeps g)
    go false rest = ap (λ l. g.group ∷ l) rest

-- no part of an event changes them
pub acted_ids : (parts : List Part) (w : World) → map (λ g. g.group) (acted w parts).groups ≡ map (λ g. g.group) w.groups
acted_ids [] w = refl
acted_ids (p ∷ ps) w = acted_ids ps (act w p) ∙ at_ids p.id (λ g. group_step g p.event) (λ g. step_is g.group p.event g refl) w.groups

begun_ids : (state : MapState) (min_size : ℕ) (ids : List GroupId) → map (λ g. g.group) (map (begun_group state min_size) ids) ≡ ids
begun_ids state min_size [] = refl
begun_ids state min_size (id ∷ ids) = ap (λ l. id ∷ l) (begun_ids state min_size ids)

joined_ids : (gs news : List Group) → map (λ g. g.group) (gs ++ news) ≡ map (λ g. g.group) gs ++ map (λ g. g.group) news
joined_ids [] news = refl
joined_ids (g ∷ gs) news = ap (λ l. g.group ∷ l) (joined_ids gs news)

-- ---- the places

one_pool_more : (pools : List Pool) (p : Pool) → flat_map groups_of (pools ++ p ∷ []) ≡ flat_map groups_of pools ++ groups_of p
one_pool_more [] p = append-nil (groups_of p)
one_pool_more (q ∷ qs) p = ap (λ l. groups_of q ++ l) (one_pool_more qs p) ∙ sym (append_assoc (groups_of q) (flat_map groups_of qs) (groups_of p))

tagged_places : (test : Pool → Bool) (c : MapCommand) (pools : List Pool) → flat_map groups_of (change_first test (tagged c) pools) ≡ flat_map groups_of pools
tagged_places test c [] = refl
tagged_places test c (p ∷ ps) = go (test p) (tagged_places test c ps)
  where
    go : (b : Bool) → flat_map groups_of (change_first test (tagged c) ps) ≡ flat_map groups_of ps → flat_map groups_of (if b then tagged c p ∷ ps else p ∷ change_first test (tagged c) ps) ≡ flat_map groups_of (p ∷ ps)
    go true rest = refl
    go false rest = ap (λ l. groups_of p ++ l) rest

after_places : (f : ControlPlane) (c : MapCommand) → flat_map groups_of (after (map_of f.history) c).pools ≡ places_of f.history ++ map (λ g. g.group) (created_by f (Map c))
after_places f (PoolCreate name pg_num size min_size) =
    let p : Pool = created name pg_num size min_size in
    one_pool_more (map_of f.history).pools p ∙ ap (λ l. places_of f.history ++ l) (sym (begun_ids (after (map_of f.history) (PoolCreate name pg_num size min_size)) min_size (groups_of p)))
after_places f (AppEnable pool app) = tagged_places (is_named pool) (AppEnable pool app) (map_of f.history).pools ∙ sym (append-nil (places_of f.history))
after_places f (AppSet pool app key value) = tagged_places (is_named pool) (AppSet pool app key value) (map_of f.history).pools ∙ sym (append-nil (places_of f.history))
after_places f (AppRm pool app key) = tagged_places (is_named pool) (AppRm pool app key) (map_of f.history).pools ∙ sym (append-nil (places_of f.history))
after_places f (OsdUp d) = sym (append-nil (places_of f.history))
after_places f (OsdDown d) = sym (append-nil (places_of f.history))
after_places f (OsdRestart d) = sym (append-nil (places_of f.history))

-- an event adds the places of the groups that it creates
pub step_places : (f : ControlPlane) (e : Event) → places_of (front_step f e).history ≡ places_of f.history ++ map (λ g. g.group) (created_by f e)
step_places f (Map c) = ap (λ (s : MapState). flat_map groups_of s.pools) (after_push f.history.daemons f.history.commands c) ∙ after_places f c
step_places f (Auth command) = sym (append-nil (places_of f.history))
step_places f (Open entity until) = sym (append-nil (places_of f.history))
step_places f (Renew n until) = sym (append-nil (places_of f.history))
step_places f (Close n) = sym (append-nil (places_of f.history))
step_places f (Submit ask object ops) = sym (append-nil (places_of f.history))
step_places f (ListNames ask) = sym (append-nil (places_of f.history))
step_places f (Deliver id k) = sym (append-nil (places_of f.history))
step_places f (Lose id k) = sym (append-nil (places_of f.history))
step_places f (Repeat id k) = sym (append-nil (places_of f.history))
step_places f (Kick id) = sym (append-nil (places_of f.history))

pub places_stay : PlacesStay
places_stay w e h =
    joined_ids (acted w (parts_of w.front e)).groups (created_by w.front e)
    ∙ ap (λ l. l ++ map (λ g. g.group) (created_by w.front e)) (acted_ids (parts_of w.front e) w ∙ h)
    ∙ sym (step_places w.front e)

places_through : (es : List Event) (w : World) → HasPlaces w → HasPlaces (fold world_step w es)
places_through [] w h = h
places_through (e ∷ es) w h = places_through es (world_step w e) (places_stay w e h)

pub every_place_has_its_group : EveryPlaceHasItsGroup
every_place_has_its_group table daemons events = places_through events (first_world table daemons) refl

-- ---- a group is found by its place

pub none_filtered : (id : GroupId) (gs : List Group) → group_at id gs ≡ None → filter (is_same_group id) (map (λ g. g.group) gs) ≡ []
none_filtered id [] h = refl
none_filtered id (g ∷ gs) h = go (is_same_group id g.group) h (λ k. none_filtered id gs k)
  where
    go : (b : Bool) → (if b then Some g else group_at id gs) ≡ None → (group_at id gs ≡ None → filter (is_same_group id) (map (λ g. g.group) gs) ≡ [])
        → cond b (g.group ∷ filter (is_same_group id) (map (λ g. g.group) gs)) (filter (is_same_group id) (map (λ g. g.group) gs)) ≡ []
    go true k rest = absurd (cc)
    go false k rest = rest k

pub at_place : (w : World) (id : GroupId) → FrontKept w.front → HasPlaces w → IsPlace w.front.history id → HasGroup w.groups id
at_place w id kept has p = go (group_at id w.groups) refl
  where
    one : filter (is_same_group id) (map (λ g. g.group) w.groups) ≡ id ∷ []
    one = ap (filter (is_same_group id)) has ∙ places_once id (map_of w.front.history).pools p.pool (once w.front kept) p.found p.number

    go : (o : Option Group) → group_at id w.groups ≡ o → HasGroup w.groups id
    go None is = absurd (let clash : id ∷ [] ≡ [] = sym one ∙ none_filtered id w.groups is in cc)
    go (Some g) is = record { group = g; there = is; is = sym (group_at_is id w.groups g is) }

pub of_place : (f : ControlPlane) (id : GroupId) (g : Group) → GroupKept f id g → IsPlace f.history id
of_place f id g h = record {
  pool = h.pool.is.pool;
  found = found_in f.history id.pool h.groups h.pool;
  number = subst (λ n. id.number < n) (sym h.pool.is.groups) h.number;
}

-- what the front says of a name and a number

above : (a b : ℕ) → nat_le a b ≡ false → b < a
above a b h = grind (arith, nat_tests)

some_found : (o : Option Pool) → is_some o ≡ true → (p : Pool) × (o ≡ Some p)
some_found None h = absurd (cc)
some_found (Some p) h = (p, refl)

named_place : (f : ControlPlane) (id : GroupId) → group_refusal f id ≡ None → IsPlace f.history id
unfolding pool_in groups_in
named_place f id h =
    let fails = all_fail (acting_tests (map_of f.history).pools id.pool id.number) (wrapped_none OfMap (first_of (acting_tests (map_of f.history).pools id.pool id.number)) h) in
    let found = some_found (find (is_named id.pool) (map_of f.history).pools) (not_false (is_some (find (is_named id.pool) (map_of f.history).pools)) fails.1.0) in
    record {
      pool = found.0;
      found = found.1;
      number = above found.0.pg_num id.number (sym (ap (λ o. nat_le (option_map_or (λ (p : Pool). p.pg_num) o 0) id.number) found.1) ∙ fails.1.1.0);
    }

place_named : (f : ControlPlane) (id : GroupId) → IsAccepted f.history → IsPlace f.history id → group_refusal f id ≡ None
place_named f id accepted p = ap (option_map OfMap) (place_there f.history id p.pool accepted p.found p.number)

pub groups_are_found_by_place : GroupsAreFoundByPlace
groups_are_found_by_place table daemons events id accepted =
    let w : World = world_after table daemons events in
    let k : WorldKept w = accepted_kept table daemons events accepted in
    let has : HasPlaces w = every_place_has_its_group table daemons events in
    record {
      at_place = at_place w id k.front has;
      of_place = λ g there. of_place w.front id g (k.groups id g there);
      named = λ none. at_place w id k.front has (named_place w.front id none);
      unrefused = λ g there. place_named w.front id k.front.accepted (of_place w.front id g (k.groups id g there));
    }
