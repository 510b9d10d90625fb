-- Every world of the program is sound: at first, and after one more accepted event.
use Rattle.std.proofs.Common.{◌≡◌, ◌∙◌, ℕ, ◌+◌, ◌<◌, ◌≤◌, List, [], ◌∷◌, ◌++◌, Bool, true, false, if◌then◌else◌, map, length, refl, sym, ap, arith, append-nil, length-append}
use Rattle.std.specs.List.{flat_map}
use Rattle.std.proofs.lemmas.Grind.{flat_map-append}
use Rattle.std.proofs.lemmas.List.{map-append}
use Rattle.grant_core.specs.Flat.{Table}
use Rattle.map_core.specs.State.{MapState}
use Rattle.map_core.specs.Map.{map_of, after, change_first, created, is_named, tagged, pools_after}
use Rattle.map_core.specs.declared.pool.Pool.{Pool}
use Rattle.map_core.specs.declared.command.MapCommand.{MapCommand}
use Rattle.map_core.specs.declared.command.MapCommand.TheVariants.{PoolCreate, AppEnable, AppSet, AppRm, OsdUp, OsdDown, OsdRestart}
use Rattle.map_core.proofs.Current.{after_push}
use Rattle.store_core.specs.Request.{Sealed}
use Rattle.store_core.specs.declared.sealed.GroupId.{GroupId}
use Rattle.group_model.specs.Group.{Group, group_step}
use Rattle.world_events.specs.declared.event.Event.{Event}
use Rattle.world_events.specs.declared.event.Event.TheVariants.{Auth, Map, Open, Renew, Close, Submit, List as ListNames, Deliver, Lose, Repeat, Kick}
use Rattle.world_front.specs.Groups.{is_same_group, groups_of}
use Rattle.world_front.specs.ControlPlane.{ControlPlane, front_step, sealed_by}
use Rattle.world_core.specs.World.{World, Part, first_world, at_group, act, acted, parts_of, begun_group, created_by, is_accepted, world_step}
use Rattle.world_core.specs.Standing.{HasNumbers}
use Rattle.world_core.specs.Sound.{FrontKept, HasGroups, WorldKept, IsSound}
use Rattle.world_core.proofs.Standing.{step_is}
use Rattle.world_front.proofs.NewRequests.{event_new, new_joined}
use Rattle.world_core.proofs.Worlds.{first_stands, step_stands}
use Rattle.world_core.proofs.Limits.{allowed, first_kept, front_kept, few_submissions}
use Rattle.world_core.proofs.Accepted.{world_kept}

-- ---- which groups there are

abbrev pub ids_of : List Group → List GroupId
ids_of groups = map (λ g. g.group) groups

pub at_group_ids : (id : GroupId) (change : Group → Group) → ((g : Group) → (change g).group ≡ g.group) → (gs : List Group) → ids_of (at_group id change gs) ≡ ids_of gs
at_group_ids id change keeps [] = refl
at_group_ids id change keeps (g ∷ gs) = go (is_same_group id g.group) (at_group_ids id change keeps gs)
  where
    go : (b : Bool) → ids_of (at_group id change gs) ≡ ids_of gs → ids_of (if b then change g ∷ gs else g ∷ at_group id change gs) ≡ g.group ∷ ids_of gs
    go true rest = ap (λ i. i ∷ ids_of gs) (keeps g)
    go false rest = ap (λ l. g.group ∷ l) rest

acted_ids : (ps : List Part) (w : World) → ids_of (acted w ps).groups ≡ ids_of w.groups
acted_ids [] w = refl
acted_ids (p ∷ ps) w = acted_ids ps (act w p) ∙ at_group_ids p.id (λ g. group_step g p.event) (λ g. step_is g.group p.event g refl) w.groups

begun_ids : (state : MapState) (min_size : ℕ) (ids : List GroupId) → ids_of (map (begun_group state min_size) ids) ≡ ids
begun_ids state min_size [] = refl
begun_ids state min_size (id ∷ ids) = ap (λ l. id ∷ l) (begun_ids state min_size ids)

tagged_places : (c : MapCommand) (name : List ℕ) (pools : List Pool) → flat_map groups_of (change_first (is_named name) (tagged c) pools) ≡ flat_map groups_of pools
tagged_places c name [] = refl
tagged_places c name (p ∷ ps) = go (is_named name p) (tagged_places c name ps)
  where
    go : (b : Bool) → flat_map groups_of (change_first (is_named name) (tagged c) ps) ≡ flat_map groups_of ps → flat_map groups_of (if b then tagged c p ∷ ps else p ∷ change_first (is_named name) (tagged c) ps) ≡ groups_of p ++ flat_map groups_of ps
    go true rest = refl
    go false rest = ap (λ l. groups_of p ++ l) rest

-- the places of a map after a command: those before it, and then those of a new pool
pub command_places : (state : MapState) (f : ControlPlane) (c : MapCommand) → map_of f.history ≡ state → flat_map groups_of (pools_after c state.pools) ≡ flat_map groups_of state.pools ++ ids_of (created_by f (Map c))
command_places state f (PoolCreate name pg_num size min_size) is =
    let new : Pool = created name pg_num size min_size in
    flat_map-append groups_of state.pools (new ∷ [])
    ∙ ap (λ l. flat_map groups_of state.pools ++ l) (append-nil (groups_of new) ∙ sym (begun_ids (after (map_of f.history) (PoolCreate name pg_num size min_size)) min_size (groups_of new)))
command_places state f (AppEnable pool app) is = tagged_places (AppEnable pool app) pool state.pools ∙ sym (append-nil (flat_map groups_of state.pools))
command_places state f (AppSet pool app key value) is = tagged_places (AppSet pool app key value) pool state.pools ∙ sym (append-nil (flat_map groups_of state.pools))
command_places state f (AppRm pool app key) is = tagged_places (AppRm pool app key) pool state.pools ∙ sym (append-nil (flat_map groups_of state.pools))
command_places state f (OsdUp d) is = sym (append-nil (flat_map groups_of state.pools))
command_places state f (OsdDown d) is = sym (append-nil (flat_map groups_of state.pools))
command_places state f (OsdRestart d) is = sym (append-nil (flat_map groups_of state.pools))

places_of : ControlPlane → List GroupId
places_of f = flat_map groups_of (map_of f.history).pools

step_places : (f : ControlPlane) (e : Event) → places_of (front_step f e) ≡ places_of f ++ ids_of (created_by f e)
unfolding places_of
step_places f (Map c) = ap (λ s. flat_map groups_of s.pools) (after_push f.history.daemons f.history.commands c) ∙ command_places (map_of f.history) f c refl
step_places f (Auth command) = sym (append-nil (flat_map groups_of (map_of f.history).pools))
step_places f (Open entity until) = sym (append-nil (flat_map groups_of (map_of f.history).pools))
step_places f (Renew n until) = sym (append-nil (flat_map groups_of (map_of f.history).pools))
step_places f (Close n) = sym (append-nil (flat_map groups_of (map_of f.history).pools))
step_places f (Submit ask object ops) = sym (append-nil (flat_map groups_of (map_of f.history).pools))
step_places f (ListNames ask) = sym (append-nil (flat_map groups_of (map_of f.history).pools))
step_places f (Deliver id k) = sym (append-nil (flat_map groups_of (map_of f.history).pools))
step_places f (Lose id k) = sym (append-nil (flat_map groups_of (map_of f.history).pools))
step_places f (Repeat id k) = sym (append-nil (flat_map groups_of (map_of f.history).pools))
step_places f (Kick id) = sym (append-nil (flat_map groups_of (map_of f.history).pools))

has_groups_on : (w : World) (e : Event) → HasGroups w → HasGroups (world_step w e)
unfolding places_of
has_groups_on w e h =
    map-append (λ (g : Group). g.group) (acted w (parts_of w.front e)).groups (created_by w.front e)
    ∙ ap (λ l. l ++ ids_of (created_by w.front e)) (acted_ids (parts_of w.front e) w ∙ h)
    ∙ sym (step_places w.front e)

-- ---- worlds

pub few_numbers : (f : ControlPlane) → FrontKept f → length f.submissions < 4294967296
few_numbers f h = fits (length f.submissions) (few_submissions f h)
  where
    fits : (n : ℕ) → n ≤ 33554432 → n < 4294967296
    fits n less = omega arith

pub has_numbers_on : (w : World) (e : Event) → FrontKept w.front → is_accepted w e ≡ true → HasNumbers (world_step w e)
has_numbers_on w e h accepted = few_numbers (front_step w.front e) (front_kept w.front e h (allowed w e accepted))

pub first_sound : (table : Table) (daemons : ℕ) → IsSound (first_world table daemons)
first_sound table daemons = record {
  stands = first_stands table daemons;
  kept = record { front = first_kept table daemons; groups = λ id g is. absurd (cc) };
  places = refl;
  new = tt;
}

pub sound_on : (w : World) (e : Event) → IsSound w → is_accepted w e ≡ true → IsSound (world_step w e)
sound_on w e h accepted =
    let kept : WorldKept (world_step w e) = world_kept w e h.kept accepted in
    let old : List Sealed = w.front.submissions in
    let few : length old ≤ 33554432 = few_submissions w.front h.kept.front in
    let all : length (old ++ sealed_by w.front e) ≤ 33554432 = few_submissions (front_step w.front e) kept.front in
    let sum : length (old ++ sealed_by w.front e) ≡ length old + length (sealed_by w.front e) = length-append old (sealed_by w.front e) in
    record {
      stands = step_stands w e h.stands (has_numbers_on w e h.kept.front accepted);
      kept = kept;
      places = has_groups_on w e h.places;
      new = new_joined [] old (sealed_by w.front e) h.new (event_new w.front e h.stands.front few (omega arith));
    }
