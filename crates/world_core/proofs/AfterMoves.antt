-- After a command the groups are those of the map again.
use Rattle.std.proofs.Common.{◌≡◌, ◌∙◌, ℕ, List, [], ◌∷◌, ◌++◌, Bool, true, false, if◌then◌else◌, Some, None, Result, Ok, Err, map, refl, sym, ap, subst, append-nil}
use Rattle.std.specs.Prelude.{OnOk, OnErr}
use Rattle.std.specs.List.{flat_map, range_with_len, find}
use Rattle.std.specs.Option.{option_map}
use Rattle.std.proofs.lemmas.List.{map-append}
use Rattle.std.proofs.lemmas.Grind.{flat_map-append}
use Rattle.place_core.specs.Placement.{acting_of, numbers_of}
use Rattle.map_core.specs.State.{MapState, History}
use Rattle.map_core.specs.Map.{change_first, is_named, tagged, created, after, map_of, epoch_of, pool_in}
use Rattle.map_core.specs.Refusal.{refusal}
use Rattle.map_core.specs.Intervals.{size_in, set_of}
use Rattle.map_core.specs.Replay.{pool_step}
use Rattle.map_core.specs.declared.pool.Pool.{Pool}
use Rattle.map_core.specs.declared.command.MapCommand.{MapCommand}
use Rattle.map_core.specs.declared.command.MapCommand.TheVariants.{PoolCreate, AppEnable, AppSet, AppRm, OsdUp, OsdDown, OsdRestart}
use Rattle.map_core.proofs.Current.{after_push}
use Rattle.map_core.proofs.Kept.{others_leave_sets}
use Rattle.map_core.proofs.OnePool.{pool_after_step}
use Rattle.entry_core.specs.Log.{is_in}
use Rattle.store_core.specs.declared.sealed.GroupId.{GroupId}
use Rattle.group_model_whole.specs.Each.{Each}
use Rattle.group_model.specs.Group.{Group, group_step, refusal_of, last_set, same_set}
use Rattle.group_model.specs.Group as group
use Rattle.world_events.specs.declared.fault.WorldFault.{WorldFault as Fault}
use Rattle.world_events.specs.declared.event.Event.TheVariants.{Map}
use Rattle.world_events.specs.declared.fault.WorldFault.TheVariants.{Group as OfGroup}
use Rattle.world_front.specs.ControlPlane.{ControlPlane, front_step}
use Rattle.world_front.specs.Refusing.{RefusedOrMemory}
use Rattle.world_front.specs.Groups.{groups_of}
use Rattle.world_core.specs.World.{members_of, begun_group}
use Rattle.world_core.specs.Moves.{AreGroupsOf, moves_groups, move_of, made_by, all_moved, first_refusal}
use Rattle.world_front.proofs.Merge.{bytes_refl}
use Rattle.world_core.proofs.Acting.{each_join}
use Rattle.world_core.proofs.Standing.{step_is}
use Rattle.world_front.proofs.Places.{numbered, true_not_false}
use Rattle.world_core.proofs.Limits.{or_first, or_second, wrapped_none, creates_well}
use Rattle.world_core.proofs.Requests.{moved_sets, restarted_sets, interval_facts, restart_facts}
use Rattle.world_core.proofs.Intervals.{same_set_is, last_pushed, sized_set, members_are, later}
use Rattle.world_core.proofs.FullMoves.{has_set}

-- a group, as a map has it
record IsOf (state : MapState) (g : Group) : Type 0 where
  present : set_of state g.group.pool g.group.number ≡ Some (last_set g.sets)
  up : g.up ≡ numbers_of state.up

abbrev AreOf : MapState → List Group → Type 0
AreOf state groups = (map (λ g. g.group) groups ≡ flat_map groups_of state.pools) × Each (IsOf state) groups

each_of : (history : History) (groups : List Group) → Each (λ g. set_of (map_of history) g.group.pool g.group.number ≡ Some (last_set g.sets)) groups → Each (λ g. g.up ≡ numbers_of (map_of history).up) groups → Each (IsOf (map_of history)) groups
each_of history [] present up = tt
each_of history (g ∷ gs) present up = (record { present = present.0; up = up.0 }, each_of history gs present.1 up.1)

each_present : (state : MapState) (groups : List Group) → Each (IsOf state) groups → Each (λ g. set_of state g.group.pool g.group.number ≡ Some (last_set g.sets)) groups
each_present state [] all = tt
each_present state (g ∷ gs) all = (all.0.present, each_present state gs all.1)

each_up : (state : MapState) (groups : List Group) → Each (IsOf state) groups → Each (λ g. g.up ≡ numbers_of state.up) groups
each_up state [] all = tt
each_up state (g ∷ gs) all = (all.0.up, each_up state gs all.1)

-- the groups of the map after a command
groups_after : (h : History) (c : MapCommand) (groups : List Group) → AreOf (after (map_of h) c) groups → AreGroupsOf (later h c) groups
groups_after h c groups are =
    let P : MapState → Type 0 = λ s. AreOf s groups in
    let now : AreOf (map_of (later h c)) groups = subst P (sym (after_push h.daemons h.commands c)) are in
    record { places = now.0; present = each_present (map_of (later h c)) groups now.1; up = each_up (map_of (later h c)) groups now.1 }

-- ---- a command on a daemon

last_moved : (sets : List (List ℕ)) (new : List ℕ) → last_set (moved_sets sets new) ≡ new
last_moved sets new = go (same_set new (last_set sets)) refl
  where
    go : (b : Bool) → same_set new (last_set sets) ≡ b → last_set (if b then sets else sets ++ new ∷ []) ≡ new
    go true e = sym (same_set_is new (last_set sets) e)
    go false e = last_pushed sets new

last_restarted : (sets : List (List ℕ)) (d : ℕ) → last_set (restarted_sets sets d) ≡ last_set sets
last_restarted sets d = go (is_in (last_set sets) d)
  where
    go : (b : Bool) → last_set (if b then sets ++ last_set sets ∷ [] else sets) ≡ last_set sets
    go true = last_pushed sets (last_set sets)
    go false = refl

-- a group that did not refuse its part
after_interval : (state : MapState) (g : Group) → refusal_of g (group.NewInterval (members_of state g.group) (numbers_of state.up)) ≡ None
    → set_of state g.group.pool g.group.number ≡ Some (members_of state g.group) → IsOf state (group_step g (group.NewInterval (members_of state g.group) (numbers_of state.up)))
after_interval state g none has =
    let event : group.Event = group.NewInterval (members_of state g.group) (numbers_of state.up) in
    let now = interval_facts g (members_of state g.group) (numbers_of state.up) none in
    record {
      present = ap (λ (id : GroupId). set_of state id.pool id.number) (step_is g.group event g refl) ∙ has ∙ ap Some (sym (ap (λ f. last_set f.sets) now ∙ last_moved g.sets (members_of state g.group)));
      up = ap (λ f. f.up) now;
    }

after_restart : (state : MapState) (g : Group) (d : ℕ) → refusal_of g (group.Restart d) ≡ None → IsOf state g → IsOf state (group_step g (group.Restart d))
after_restart state g d none is =
    let now = restart_facts g d none in
    record {
      present = ap (λ (id : GroupId). set_of state id.pool id.number) (step_is g.group (group.Restart d) g refl) ∙ is.present ∙ ap Some (sym (ap (λ f. last_set f.sets) now ∙ last_restarted g.sets d));
      up = ap (λ f. f.up) now ∙ is.up;
    }

one_after : (state : MapState) (c : MapCommand) (g : Group) → moves_groups c ≡ true → refusal_of g (move_of state c g.group) ≡ None → IsOf state g → IsOf (after state c) (group_step g (move_of state c g.group))
one_after state (OsdUp d) g moves none is = after_interval (after state (OsdUp d)) g none (has_set state (OsdUp d) g.group (last_set g.sets) is.present)
one_after state (OsdDown d) g moves none is = after_interval (after state (OsdDown d)) g none (has_set state (OsdDown d) g.group (last_set g.sets) is.present)
one_after state (OsdRestart d) g moves none is = after_restart state g d none is
one_after state (PoolCreate name pg_num size min_size) g moves none is = absurd (true_not_false (sym moves))
one_after state (AppEnable pool app) g moves none is = absurd (true_not_false (sym moves))
one_after state (AppSet pool app key value) g moves none is = absurd (true_not_false (sym moves))
one_after state (AppRm pool app key) g moves none is = absurd (true_not_false (sym moves))

all_after : (state : MapState) (c : MapCommand) (groups : List Group) → moves_groups c ≡ true → first_refusal (move_of state c) groups ≡ None → Each (IsOf state) groups → Each (IsOf (after state c)) (all_moved (move_of state c) groups)
all_after state c [] moves none all = tt
all_after state c (g ∷ gs) moves none all = (
  one_after state c g moves (or_first (refusal_of g (move_of state c g.group)) (first_refusal (move_of state c) gs) none) all.0,
  all_after state c gs moves (or_second (refusal_of g (move_of state c g.group)) (first_refusal (move_of state c) gs) none) all.1,
)

same_places : (event : GroupId → group.Event) (groups : List Group) → map (λ g. g.group) (all_moved event groups) ≡ map (λ g. g.group) groups
same_places event [] = refl
same_places event (g ∷ gs) =
    ap (λ id. id ∷ map (λ h. h.group) (all_moved event gs)) (step_is g.group (event g.group) g refl) ∙ ap (λ l. g.group ∷ l) (same_places event gs)

same_pools : (state : MapState) (c : MapCommand) → moves_groups c ≡ true → (after state c).pools ≡ state.pools
same_pools state (OsdUp d) moves = refl
same_pools state (OsdDown d) moves = refl
same_pools state (OsdRestart d) moves = refl
same_pools state (PoolCreate name pg_num size min_size) moves = absurd (true_not_false (sym moves))
same_pools state (AppEnable pool app) moves = absurd (true_not_false (sym moves))
same_pools state (AppSet pool app key value) moves = absurd (true_not_false (sym moves))
same_pools state (AppRm pool app key) moves = absurd (true_not_false (sym moves))

moved_are : (h : History) (c : MapCommand) (groups : List Group) → moves_groups c ≡ true → first_refusal (move_of (map_of h) c) groups ≡ None → AreGroupsOf h groups → AreGroupsOf (later h c) (all_moved (move_of (map_of h) c) groups)
moved_are h c groups moves none are =
    groups_after h c (all_moved (move_of (map_of h) c) groups) (
      same_places (move_of (map_of h) c) groups ∙ are.places ∙ ap (flat_map groups_of) (sym (same_pools (map_of h) c moves)),
      all_after (map_of h) c groups moves none (each_of h groups are.present are.up),
    )

-- ---- a command on pools

-- tags have no part in the places
same_groups : (name : List ℕ) (c : MapCommand) (pools : List Pool) → flat_map groups_of (change_first (is_named name) (tagged c) pools) ≡ flat_map groups_of pools
same_groups name c [] = refl
same_groups name c (p ∷ ps) = go (is_named name p) (same_groups name c ps)
  where
    go : (b : Bool) → flat_map groups_of (change_first (is_named name) (tagged c) ps) ≡ flat_map groups_of ps
        → flat_map groups_of (if b then tagged c p ∷ ps else p ∷ change_first (is_named name) (tagged c) ps) ≡ groups_of p ++ flat_map groups_of ps
    go true rest = refl
    go false rest = ap (λ l. groups_of p ++ l) rest

-- old groups stand as before
one_stays : (state : MapState) (c : MapCommand) (g : Group) → moves_groups c ≡ false → IsOf state g → IsOf (after state c) g
one_stays state (OsdUp d) g still is = absurd (true_not_false still)
one_stays state (OsdDown d) g still is = absurd (true_not_false still)
one_stays state (OsdRestart d) g still is = absurd (true_not_false still)
one_stays state (PoolCreate name pg_num size min_size) g still is = record { present = others_leave_sets state (PoolCreate name pg_num size min_size) g.group.pool g.group.number (last_set g.sets) refl is.present; up = is.up }
one_stays state (AppEnable pool app) g still is = record { present = others_leave_sets state (AppEnable pool app) g.group.pool g.group.number (last_set g.sets) refl is.present; up = is.up }
one_stays state (AppSet pool app key value) g still is = record { present = others_leave_sets state (AppSet pool app key value) g.group.pool g.group.number (last_set g.sets) refl is.present; up = is.up }
one_stays state (AppRm pool app key) g still is = record { present = others_leave_sets state (AppRm pool app key) g.group.pool g.group.number (last_set g.sets) refl is.present; up = is.up }

all_stay : (state : MapState) (c : MapCommand) (groups : List Group) → moves_groups c ≡ false → Each (IsOf state) groups → Each (IsOf (after state c)) groups
all_stay state c [] still all = tt
all_stay state c (g ∷ gs) still all = (one_stays state c g still all.0, all_stay state c gs still all.1)

-- new groups are in the pool that the command creates
begun_places : (state : MapState) (min_size : ℕ) (ids : List GroupId) → map (λ g. g.group) (map (begun_group state min_size) ids) ≡ ids
begun_places state min_size [] = refl
begun_places state min_size (id ∷ ids) = ap (λ l. id ∷ l) (begun_places state min_size ids)

new_set : (state : MapState) (name : List ℕ) (pg_num size min_size number : ℕ) → find (is_named name) state.pools ≡ None
    → set_of (after state (PoolCreate name pg_num size min_size)) name number ≡ Some (members_of (after state (PoolCreate name pg_num size min_size)) (numbered name number))
unfolding size_in pool_in
new_set state name pg_num size min_size number fresh =
    let c : MapCommand = PoolCreate name pg_num size min_size in
    let found : find (is_named name) (after state c).pools ≡ Some (created name pg_num size min_size) =
    pool_after_step name state.pools c ∙ ap (λ o. pool_step name o c) fresh ∙ ap (λ b. if b then Some (created name pg_num size min_size) else None) (bytes_refl name) in
    let sized : size_in (after state c).pools name ≡ Some size = ap (option_map (λ (p : Pool). p.size)) found in
    let present = sized_set (after state c) name number size sized in
    present ∙ ap Some (sym (members_are (after state c) (numbered name number) (acting_of name number (numbers_of (after state c).up) size) present))

all_begun : (state : MapState) (min_size : ℕ) (name : List ℕ) (ns : List ℕ) → ((n : ℕ) → set_of state name n ≡ Some (members_of state (numbered name n))) → Each (IsOf state) (map (begun_group state min_size) (map (numbered name) ns))
all_begun state min_size name [] has = tt
all_begun state min_size name (n ∷ ns) has = (record { present = has n; up = refl }, all_begun state min_size name ns has)

new_groups : (state : MapState) (c : MapCommand) (epoch : ℕ) → refusal state epoch c ≡ None → moves_groups c ≡ false → (groups : List Group) → AreOf state groups → AreOf (after state c) (groups ++ made_by state c)
new_groups state (OsdUp d) epoch free still groups are = absurd (true_not_false still)
new_groups state (OsdDown d) epoch free still groups are = absurd (true_not_false still)
new_groups state (OsdRestart d) epoch free still groups are = absurd (true_not_false still)
new_groups state (AppEnable pool app) epoch free still groups are =
    let c : MapCommand = AppEnable pool app in
    subst (AreOf (after state c)) (sym (append-nil groups)) (are.0 ∙ sym (same_groups pool c state.pools), all_stay state c groups refl are.1)
new_groups state (AppSet pool app key value) epoch free still groups are =
    let c : MapCommand = AppSet pool app key value in
    subst (AreOf (after state c)) (sym (append-nil groups)) (are.0 ∙ sym (same_groups pool c state.pools), all_stay state c groups refl are.1)
new_groups state (AppRm pool app key) epoch free still groups are =
    let c : MapCommand = AppRm pool app key in
    subst (AreOf (after state c)) (sym (append-nil groups)) (are.0 ∙ sym (same_groups pool c state.pools), all_stay state c groups refl are.1)
new_groups state (PoolCreate name pg_num size min_size) epoch free still groups are =
    let c : MapCommand = PoolCreate name pg_num size min_size in
    let ids : List GroupId = map (numbered name) (range_with_len 0 pg_num) in (
      map-append (λ g. g.group) groups (made_by state c)
          ∙ ap (λ l. l ++ map (λ g. g.group) (made_by state c)) are.0
          ∙ ap (λ l. flat_map groups_of state.pools ++ l) (begun_places (after state c) min_size ids ∙ sym (append-nil ids))
          ∙ sym (flat_map-append groups_of state.pools (created name pg_num size min_size ∷ [])),
      each_join (IsOf (after state c)) groups (made_by state c) (all_stay state c groups refl are.1)
          (all_begun (after state c) min_size name (range_with_len 0 pg_num) (λ n. new_set state name pg_num size min_size n (creates_well state epoch name pg_num size min_size free).fresh)),
    )

grown_are : (h : History) (c : MapCommand) (groups : List Group) → refusal (map_of h) (epoch_of h) c ≡ None → moves_groups c ≡ false → AreGroupsOf h groups → AreGroupsOf (later h c) (groups ++ made_by (map_of h) c)
grown_are h c groups free still are =
    groups_after h c (groups ++ made_by (map_of h) c) (new_groups (map_of h) c (epoch_of h) free still groups (are.places, each_of h groups are.present are.up))

-- ---- what a call leaves

stay_are : (f f' : ControlPlane) (groups groups' : List Group) → AreGroupsOf f.history groups → f' ≡ f → groups' ≡ groups → AreGroupsOf f'.history groups'
stay_are f f' groups groups' are front same =
    let P : ControlPlane → Type 0 = λ k. AreGroupsOf k.history groups' in
    subst P (sym front) (subst (AreGroupsOf f.history) (sym same) are)

pub after_move : {T : Type 0} (r : Result T Fault) (f f' : ControlPlane) (c : MapCommand) (groups groups' : List Group) → AreGroupsOf f.history groups → moves_groups c ≡ true
    → OnOk r (f' ≡ front_step f (Map c)) → OnOk r (groups' ≡ all_moved (move_of (map_of f.history) c) groups) → OnErr r ((f' ≡ f) × (groups' ≡ groups))
    → RefusedOrMemory (option_map OfGroup (first_refusal (move_of (map_of f.history) c) groups)) r → AreGroupsOf f'.history groups'
after_move (Ok x) f f' c groups groups' are moves front same unchanged none =
    stay_are (front_step f (Map c)) f' (all_moved (move_of (map_of f.history) c) groups) groups' (moved_are f.history c groups moves (wrapped_none OfGroup (first_refusal (move_of (map_of f.history) c) groups) none) are) front same
after_move (Err e) f f' c groups groups' are moves front same unchanged refused = stay_are f f' groups groups' are unchanged.0 unchanged.1

pub after_growth : {T : Type 0} (r : Result T Fault) (f f' : ControlPlane) (c : MapCommand) (groups groups' : List Group) → AreGroupsOf f.history groups → refusal (map_of f.history) (epoch_of f.history) c ≡ None → moves_groups c ≡ false
    → OnOk r (f' ≡ front_step f (Map c)) → OnOk r (groups' ≡ groups ++ made_by (map_of f.history) c) → OnErr r ((f' ≡ f) × (groups' ≡ groups)) → AreGroupsOf f'.history groups'
after_growth (Ok x) f f' c groups groups' are free still front same unchanged =
    stay_are (front_step f (Map c)) f' (groups ++ made_by (map_of f.history) c) groups' (grown_are f.history c groups free still are) front same
after_growth (Err e) f f' c groups groups' are free still front same unchanged = stay_are f f' groups groups' are unchanged.0 unchanged.1
