-- The groups of a sound world are those of its map, each as the map has it.
use Prim.Native.Nat.{zero, suc}
use Rattle.std.proofs.Common.{◌≡◌, ◌∙◌, ℕ, ◌+◌, ◌<◌, ◌≤◌, List, [], ◌∷◌, Bool, true, false, cond, Option, Some, None, if◌then◌else◌, map, refl, sym, ap, subst, arith, Result, get_or, length}
use Rattle.std.specs.Prelude.{slice_get}
use Rattle.std.specs.List.{filter, flat_map, find, range_with_len}
use Rattle.place_core.specs.Placement.{numbers_of}
use Rattle.map_core.specs.Map.{is_named, map_of}
use Rattle.map_core.specs.Intervals.{set_of}
use Rattle.map_core.specs.declared.pool.Pool.{Pool}
use Rattle.store_core.specs.declared.sealed.GroupId.{GroupId}
use Rattle.group_model_whole.specs.Each.{Each}
use Rattle.group_model.specs.Group.{Group, last_set}
use Rattle.world_front.specs.Groups.{is_same_group, groups_of}
use Rattle.world_core.specs.World.{World, group_at}
use Rattle.world_core.specs.Moves.{AreGroupsOf, IsAt}
use Rattle.world_core.specs.Sound.{GroupKept, IsSound, IsKept}
use Rattle.std.proofs.lemmas.Option.{slice_get_read}
use Rattle.std.specs.Option.{option_map}
use Rattle.map_core.specs.State.{History}
use Rattle.map_core.specs.Refusal.{acting_refusal}
use Rattle.group_messages.specs.declared.fault.GroupFault.{GroupFault}
use Rattle.world_events.specs.declared.fault.WorldFault.{WorldFault as Fault}
use Rattle.world_events.specs.declared.fault.WorldFault.TheVariants.{Map as OfMap}
use Rattle.world_front.specs.ControlPlane.{ControlPlane, group_refusal}
use Rattle.world_core.specs.declared.audit.Run.{Run}
use Rattle.group_core.specs.declared.call.GroupCall.{GroupCall}
use Rattle.world_core.specs.Inside.{world_of}
use Rattle.group_core.specs.Calls.{event_of}
use Rattle.world_core.specs.Applying.{CalledAt}
use Rattle.world_core.proofs.Messages.{Called, called}
use Rattle.world_core.proofs.Acting.{each_join, each_weaker}
use Rattle.world_front.proofs.Bytes.{bytes_same}
use Rattle.world_core.proofs.Limits.{once}
use Rattle.world_front.proofs.Merge.{group_refl, bytes_refl}
use Rattle.world_front.proofs.Places.{NamedOnce, numbered, places_once}
use Rattle.world_core.proofs.Sounds.{ids_of}

-- ---- each place of the map stands there once

-- the pool of the place, which has its number
pub record HasPlace (pools : List Pool) (id : GroupId) : Type 0 where
  pub pool : Pool
  pub found : find (is_named id.pool) pools ≡ Some pool
  pub less : id.number < pool.pg_num

own_places : (p : Pool) (ps : List Pool) (k n : ℕ) → k + n ≤ p.pg_num → Each (HasPlace (p ∷ ps)) (map (numbered p.name) (range_with_len k n))
own_places p ps k zero low = tt
own_places p ps k (suc n) low =
    (record { pool = p; found = ap (λ b. cond b (Some p) (find (is_named p.name) ps)) (bytes_refl p.name); less = omega arith }, own_places p ps (k + 1) n (omega arith))

later_place : (p : Pool) (ps : List Pool) (id : GroupId) → find (is_named p.name) ps ≡ None → HasPlace ps id → HasPlace (p ∷ ps) id
later_place p ps id none h = go (is_named id.pool p) refl
  where
    go : (b : Bool) → is_named id.pool p ≡ b → HasPlace (p ∷ ps) id
    go true is =
        let name : p.name ≡ id.pool = bytes_same p.name id.pool is in
        absurd (let both : None ≡ Some h.pool = sym none ∙ ap (λ n. find (is_named n) ps) name ∙ h.found in cc)
    go false is = record { pool = h.pool; found = ap (λ b. cond b (Some p) (find (is_named id.pool) ps)) is ∙ h.found; less = h.less }

pub all_places : (pools : List Pool) → NamedOnce pools → Each (HasPlace pools) (flat_map groups_of pools)
all_places [] once = tt
all_places (p ∷ ps) once =
    each_join (HasPlace (p ∷ ps)) (groups_of p) (flat_map groups_of ps) (own_places p ps 0 p.pg_num (omega arith))
    (each_weaker (HasPlace ps) (HasPlace (p ∷ ps)) (λ id h. later_place p ps id once.0 h) (flat_map groups_of ps) (all_places ps once.1))

-- ---- each group is found by its name

each_at : (P : GroupId → Type 0) (gs : List Group) (place : ℕ) (g : Group) → Each P (ids_of gs) → slice_get gs place ≡ Some g → P g.group
each_at P [] place g all h = absurd (cc)
each_at P (x ∷ xs) zero g all h = let same : x ≡ g = cc in subst (λ v. P v.group) same all.0
each_at P (x ∷ xs) (suc place) g all h = each_at P xs place g all.1 h

from_places : (P : Group → Type 0) (gs : List Group) → ((place : ℕ) (g : Group) → slice_get gs place ≡ Some g → P g) → Each P gs
from_places P [] h = tt
from_places P (x ∷ xs) h = (h zero x refl, from_places P xs (λ place g e. h (suc place) g e))

-- a group that is there is not left out
not_left_out : (gs : List Group) (place : ℕ) (g : Group) → slice_get gs place ≡ Some g → filter (is_same_group g.group) (ids_of gs) ≡ [] → ⊥
not_left_out [] place g h none = cc
not_left_out (x ∷ xs) zero g h none =
    let same : x ≡ g = cc in
    let is : is_same_group g.group x.group ≡ true = ap (λ v. is_same_group g.group v.group) same ∙ group_refl g.group in
    let e : x.group ∷ filter (is_same_group g.group) (ids_of xs) ≡ [] = sym (ap (λ b. cond b (x.group ∷ filter (is_same_group g.group) (ids_of xs)) (filter (is_same_group g.group) (ids_of xs))) is) ∙ none in
    cc
not_left_out (x ∷ xs) (suc place) g h none = go (is_same_group g.group x.group) none (λ e. not_left_out xs place g h e)
  where
    go : (b : Bool) → cond b (x.group ∷ filter (is_same_group g.group) (ids_of xs)) (filter (is_same_group g.group) (ids_of xs)) ≡ [] → (filter (is_same_group g.group) (ids_of xs) ≡ [] → ⊥) → ⊥
    go true e more = cc
    go false e more = more e

found_by_name : (gs : List Group) (place : ℕ) (g : Group) → slice_get gs place ≡ Some g → filter (is_same_group g.group) (ids_of gs) ≡ g.group ∷ [] → group_at g.group gs ≡ Some g
found_by_name [] place g h one = absurd (cc)
found_by_name (x ∷ xs) zero g h one =
    let same : x ≡ g = cc in
    ap (λ b. if b then Some x else group_at g.group xs) (ap (λ v. is_same_group g.group v.group) same ∙ group_refl g.group) ∙ ap (λ v. Some v) same
found_by_name (x ∷ xs) (suc place) g h one = go (is_same_group g.group x.group) one (λ e. found_by_name xs place g h e)
  where
    go : (b : Bool) → cond b (x.group ∷ filter (is_same_group g.group) (ids_of xs)) (filter (is_same_group g.group) (ids_of xs)) ≡ g.group ∷ [] → (filter (is_same_group g.group) (ids_of xs) ≡ g.group ∷ [] → group_at g.group xs ≡ Some g)
        → (if b then Some x else group_at g.group xs) ≡ Some g
    go true e more = absurd (not_left_out xs place g h (let tails : filter (is_same_group g.group) (ids_of xs) ≡ [] = cc in tails))
    go false e more = more e

-- ---- sound worlds

pub at_place : (w : World) → IsSound w → (place : ℕ) (g : Group) → slice_get w.groups place ≡ Some g → group_at g.group w.groups ≡ Some g
at_place w h place g there =
    let pools : List Pool = (map_of w.front.history).pools in
    let all : Each (HasPlace pools) (ids_of w.groups) = subst (Each (HasPlace pools)) (sym h.places) (all_places pools (once w.front h.kept.front)) in
    let p : HasPlace pools g.group = each_at (HasPlace pools) w.groups place g all there in
    found_by_name w.groups place g there
    (ap (filter (is_same_group g.group)) h.places ∙ places_once g.group pools p.pool (once w.front h.kept.front) p.found p.less)

pub kept_at : (w : World) → IsSound w → (place : ℕ) (g : Group) → slice_get w.groups place ≡ Some g → GroupKept w.front g.group g
kept_at w h place g there = h.kept.groups g.group g (at_place w h place g there)

pub are_groups : (w : World) → IsSound w → AreGroupsOf w.front.history w.groups
are_groups w h = record {
  places = h.places;
  present = from_places (λ g. set_of (map_of w.front.history) g.group.pool g.group.number ≡ Some (last_set g.sets)) w.groups (λ place g there. (kept_at w h place g there).sets.present);
  up = from_places (λ g. g.up ≡ numbers_of (map_of w.front.history).up) w.groups (λ place g there. (kept_at w h place g there).up);
}

-- ---- a group that was asked for, by the map of the front

pub asked_place : (f : ControlPlane) (gs : List Group) (runs : List Run) (id : GroupId) (place : ℕ) (history : History) → IsKept f gs runs → history ≡ f.history → ((groups : List Group) → AreGroupsOf history groups → IsAt groups id place) → IsAt gs id place
asked_place f gs runs id place history h same at = at gs (subst (λ k. AreGroupsOf k gs) (sym same) (are_groups (world_of f gs runs) h.sound))

pub asked_there : (f : ControlPlane) (id : GroupId) (history : History) (refusal : Option Fault) → history ≡ f.history → refusal ≡ option_map OfMap (acting_refusal history id.pool id.number) → group_refusal f id ≡ refusal
asked_there f id history refusal same is = ap (λ k. option_map OfMap (acting_refusal k id.pool id.number)) (sym same) ∙ sym is

pub call_done : (f : ControlPlane) (gs : List Group) (runs : List Run) (id : GroupId) (c : GroupCall) (place : ℕ) (history : History) (r : Result (Unit {0}) GroupFault) (gs' : List Group) (runs' : List Run)
    → IsKept f gs runs → history ≡ f.history → None ≡ option_map OfMap (acting_refusal history id.pool id.number) → ((groups : List Group) → AreGroupsOf history groups → IsAt groups id place)
    → CalledAt gs runs place (event_of c) r gs' runs' → Called f gs runs id c r gs' runs'
call_done f gs runs id c place history r gs' runs' h same none at did =
    called f gs runs id c place r gs' runs' h.fit (asked_there f id history None same none) (asked_place f gs runs id place history h same at) did

-- the group that stands at the place that was asked for
pub asked_found : (f : ControlPlane) (gs : List Group) (runs : List Run) (id : GroupId) (place : ℕ) (history : History) (g : Group) → IsKept f gs runs → history ≡ f.history → ((groups : List Group) → AreGroupsOf history groups → IsAt groups id place)
    → g ≡ get_or gs place g → group_at id gs ≡ Some g
asked_found f gs runs id place history g h same at here =
    let a : IsAt gs id place = asked_place f gs runs id place history h same at in
    a.found ∙ sym a.there ∙ slice_get_read gs (length gs) place g refl a.within here
