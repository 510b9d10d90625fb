-- A group refuses its part of a command on a daemon just where the command begins an interval of it, and it has all that there can be.
use Rattle.std.proofs.Common.{◌≡◌, ◌∙◌, ℕ, ◌++◌, ◌||◌, List, Bool, true, false, not, Option, Some, None, option_to_list, if◌then◌else◌, refl, sym, ap}
use Rattle.std.specs.Str.{bytes_eq}
use Rattle.std.proofs.lemmas.List.{append_cancel_left}
use Rattle.place_core.specs.Placement.{acting_of, numbers_of}
use Rattle.map_core.specs.State.{MapState, History}
use Rattle.map_core.specs.Map.{after, map_of}
use Rattle.map_core.specs.Intervals.{set_of, begun, intervals_of, restarts}
use Rattle.map_core.specs.declared.command.MapCommand.{MapCommand}
use Rattle.map_core.specs.declared.command.MapCommand.TheVariants.{PoolCreate, AppEnable, AppSet, AppRm, OsdUp, OsdDown, OsdRestart}
use Rattle.map_core.proofs.Daemons.{set_sized}
use Rattle.entry_core.specs.Log.{is_in}
use Rattle.store_core.specs.declared.sealed.GroupId.{GroupId}
use Rattle.group_model.specs.Group.{Group, last_set, same_set, has_all_intervals, refusal_of}
use Rattle.group_model.specs.Group as group
use Rattle.group_messages.specs.declared.fault.GroupFault.{GroupFault}
use Rattle.group_messages.specs.declared.fault.GroupFault.TheVariants as group_fault
use Rattle.world_core.specs.World.{members_of}
use Rattle.world_core.specs.Moves.{moves_groups, move_of}
use Rattle.world_front.proofs.Bytes.{bytes_same}
use Rattle.world_front.proofs.Merge.{bytes_refl}
use Rattle.world_front.proofs.Places.{true_not_false}
use Rattle.world_core.proofs.Intervals.{same_set_is, same_set_refl, restarts_is, set_later, members_are, intervals_after, later}

same_is : (a b : List ℕ) → same_set a b ≡ bytes_eq b a
same_is a b = go (same_set a b) refl (bytes_eq b a) refl
  where
    go : (s : Bool) → same_set a b ≡ s → (t : Bool) → bytes_eq b a ≡ t → s ≡ t
    go true p true q = refl
    go false p false q = refl
    go true p false q = sym (bytes_refl b) ∙ ap (bytes_eq b) (sym (same_set_is a b p)) ∙ q
    go false p true q = sym p ∙ ap (same_set a) (bytes_same b a q) ∙ same_set_refl a

-- what is refused where this set begins an interval
abbrev pub refused_at : Group → Option (List ℕ) → Option GroupFault
refused_at g None = None
refused_at g (Some set) = if has_all_intervals g then Some group_fault.Full else None

moves_at : (g : Group) (new up : List ℕ) → refusal_of g (group.NewInterval new up) ≡ refused_at g (if not (bytes_eq (last_set g.sets) new) then Some new else None)
moves_at g new up =
    ap (λ s. if s then None else (if has_all_intervals g then Some group_fault.Full else None)) (same_is new (last_set g.sets)) ∙ go (bytes_eq (last_set g.sets) new)
  where
    go : (b : Bool) → (if b then None else (if has_all_intervals g then Some group_fault.Full else None)) ≡ refused_at g (if not b then Some new else None)
    go true = refl
    go false = refl

restarts_at : (g : Group) (d : ℕ) (new : List ℕ) → new ≡ last_set g.sets → refusal_of g (group.Restart d) ≡ refused_at g (begun (OsdRestart d) (Some (last_set g.sets)) (Some new))
restarts_at g d new same =
    go (is_in (last_set g.sets) d)
    ∙ ap (λ b. refused_at g (if b || false then Some new else None)) (sym (restarts_is d (last_set g.sets)))
    ∙ ap (λ b. refused_at g (if restarts (OsdRestart d) (last_set g.sets) || not b then Some new else None)) (sym (ap (bytes_eq (last_set g.sets)) same ∙ bytes_refl (last_set g.sets)))
  where
    go : (b : Bool) → (if b then (if has_all_intervals g then Some group_fault.Full else None) else None) ≡ refused_at g (if b || false then Some new else None)
    go true = refl
    go false = refl

-- the set that begins an interval, from the intervals
one_or_none : (a b : Option (List ℕ)) → option_to_list a ≡ option_to_list b → a ≡ b
one_or_none None None e = refl
one_or_none (Some x) (Some y) e = cc
one_or_none None (Some y) e = absurd (cc)
one_or_none (Some x) None e = absurd (cc)

begun_is : (h : History) (c : MapCommand) (id : GroupId) (o : Option (List ℕ)) → intervals_of (later h c) id.pool id.number ≡ intervals_of h id.pool id.number ++ option_to_list o
    → begun c (set_of (map_of h) id.pool id.number) (set_of (after (map_of h) c) id.pool id.number) ≡ o
begun_is h c id o e =
    one_or_none (begun c (set_of (map_of h) id.pool id.number) (set_of (after (map_of h) c) id.pool id.number)) o
    (append_cancel_left (intervals_of h id.pool id.number) (option_to_list (begun c (set_of (map_of h) id.pool id.number) (set_of (after (map_of h) c) id.pool id.number))) (option_to_list o)
    (sym (intervals_after h c id.pool id.number) ∙ e))

-- a group that is there has a set after a command
pub has_set : (state : MapState) (c : MapCommand) (id : GroupId) (old : List ℕ) → set_of state id.pool id.number ≡ Some old → set_of (after state c) id.pool id.number ≡ Some (members_of (after state c) id)
has_set state c id old present =
    let found = set_sized state id.pool id.number old present in
    let next = set_later state c id found.0 found.1 in
    next ∙ ap Some (sym (members_are (after state c) id (acting_of id.pool id.number (numbers_of (after state c).up) found.0) next))

by_command : (state : MapState) (c : MapCommand) (g : Group) → moves_groups c ≡ true → set_of state g.group.pool g.group.number ≡ Some (last_set g.sets)
    → refusal_of g (move_of state c g.group) ≡ refused_at g (begun c (Some (last_set g.sets)) (Some (members_of (after state c) g.group)))
by_command state (OsdUp d) g moves present = moves_at g (members_of (after state (OsdUp d)) g.group) (numbers_of (after state (OsdUp d)).up)
by_command state (OsdDown d) g moves present = moves_at g (members_of (after state (OsdDown d)) g.group) (numbers_of (after state (OsdDown d)).up)
by_command state (OsdRestart d) g moves present = restarts_at g d (members_of (after state (OsdRestart d)) g.group) (members_are (after state (OsdRestart d)) g.group (last_set g.sets) present)
by_command state (PoolCreate name pg_num size min_size) g moves present = absurd (true_not_false (sym moves))
by_command state (AppEnable pool app) g moves present = absurd (true_not_false (sym moves))
by_command state (AppSet pool app key value) g moves present = absurd (true_not_false (sym moves))
by_command state (AppRm pool app key) g moves present = absurd (true_not_false (sym moves))

pub refused_as : (h : History) (c : MapCommand) (g : Group) (o : Option (List ℕ)) → moves_groups c ≡ true → set_of (map_of h) g.group.pool g.group.number ≡ Some (last_set g.sets)
    → intervals_of (later h c) g.group.pool g.group.number ≡ intervals_of h g.group.pool g.group.number ++ option_to_list o
    → refusal_of g (move_of (map_of h) c g.group) ≡ refused_at g o
refused_as h c g o moves present e =
    by_command (map_of h) c g moves present
    ∙ ap (λ s. refused_at g (begun c s (Some (members_of (after (map_of h) c) g.group)))) (sym present)
    ∙ ap (λ s. refused_at g (begun c (set_of (map_of h) g.group.pool g.group.number) s)) (sym (has_set (map_of h) c g.group (last_set g.sets) present))
    ∙ ap (refused_at g) (begun_is h c g.group o e)
