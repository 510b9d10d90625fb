-- The intervals of a group after one more command.
use Rattle.std.proofs.Common.{◌≡◌, ◌∙◌, ℕ, ◌==◌, ◌&&◌, ◌||◌, List, [], ◌∷◌, ◌++◌, Bool, true, false, not, if◌then◌else◌, Some, None, option_to_list, length, refl, sym, ap, subst, append-nil, length-append, arith, ◌-◌, slice_index_or, unwrap_or}
use Rattle.std.specs.List.{list_any}
use Rattle.std.specs.Option.{option_map}
use Rattle.std.specs.Str.{bytes_eq}
use Rattle.place_core.specs.Placement.{acting_of, numbers_of}
use Rattle.map_core.specs.State.{MapState, History}
use Rattle.map_core.specs.Map.{after, map_of}
use Rattle.map_core.specs.Intervals.{size_in, set_of, restarts, begun, intervals_of}
use Rattle.map_core.specs.declared.command.MapCommand.{MapCommand}
use Rattle.map_core.specs.declared.command.MapCommand.TheVariants.{PoolCreate, AppEnable, AppSet, AppRm, OsdUp, OsdDown, OsdRestart}
use Rattle.map_core.specs.Laws.{EndIn}
use Rattle.map_core.proofs.Daemons.{set_sized}
use Rattle.map_core.proofs.IntervalLists.{size_stays}
use Rattle.map_core.proofs.Kept.{commands_begin_intervals, present_set_is_last}
use Rattle.entry_core.specs.Log.{is_in}
use Rattle.store_core.specs.declared.sealed.GroupId.{GroupId}
use Rattle.group_model.specs.Group.{last_set, same_set}
use Rattle.world_core.specs.World.{members_of}
use Rattle.world_front.proofs.Merge.{bytes_refl, number_refl}
use Rattle.world_front.proofs.Bytes.{bytes_same, number_same, both_true}
use Rattle.world_front.proofs.Places.{true_not_false}
use Rattle.world_core.proofs.Requests.{moved_sets, restarted_sets}
pub use Rattle.world_core.specs.Sound.{HasSets}

-- ---- sets

pub same_set_is : (a b : List ℕ) → same_set a b ≡ true → a ≡ b
same_set_is [] [] h = refl
same_set_is [] (y ∷ ys) h = absurd (cc)
same_set_is (x ∷ xs) [] h = absurd (cc)
same_set_is (x ∷ xs) (y ∷ ys) h =
    let both = both_true (x == y) (same_set xs ys) h in
    ap (λ n. n ∷ xs) (number_same x y both.0) ∙ ap (λ l. y ∷ l) (same_set_is xs ys both.1)

pub same_set_refl : (a : List ℕ) → same_set a a ≡ true
same_set_refl [] = refl
same_set_refl (x ∷ xs) = ap (λ b. b && same_set xs xs) (number_refl x) ∙ same_set_refl xs

at_end : (sets : List (List ℕ)) (set : List ℕ) → slice_index_or (sets ++ set ∷ []) (length sets) [] ≡ set
at_end [] set = refl
at_end (x ∷ xs) set = at_end xs set

pub last_pushed : (sets : List (List ℕ)) (set : List ℕ) → last_set (sets ++ set ∷ []) ≡ set
last_pushed sets set =
    let e : length (sets ++ set ∷ []) - 1 ≡ length sets = omega (arith, length-append sets (set ∷ [])) in
    ap (λ n. slice_index_or (sets ++ set ∷ []) n []) e ∙ at_end sets set

pub restarts_is : (d : ℕ) (set : List ℕ) → list_any (λ x. x == d) set ≡ is_in set d
restarts_is d [] = refl
restarts_is d (x ∷ xs) = ap (λ b. (x == d) || b) (restarts_is d xs)

-- ---- the map

-- the set of a group whose pool has a size
pub sized_set : (state : MapState) (pool : List ℕ) (group size : ℕ) → size_in state.pools pool ≡ Some size → set_of state pool group ≡ Some (acting_of pool group (numbers_of state.up) size)
unfolding set_of
sized_set state pool group size h = ap (option_map (acting_of pool group (numbers_of state.up))) h

-- a pool that is there after a command has a set for each number
pub set_later : (state : MapState) (c : MapCommand) (id : GroupId) (size : ℕ) → size_in state.pools id.pool ≡ Some size
    → set_of (after state c) id.pool id.number ≡ Some (acting_of id.pool id.number (numbers_of (after state c).up) size)
set_later state c id size sized = sized_set (after state c) id.pool id.number size (size_stays id.pool state.pools c size sized)

pub members_are : (state : MapState) (id : GroupId) (set : List ℕ) → set_of state id.pool id.number ≡ Some set → members_of state id ≡ set
members_are state id set h = ap (λ o. unwrap_or o []) h

pub intervals_after : (h : History) (c : MapCommand) (pool : List ℕ) (number : ℕ)
    → intervals_of (record h { commands = h.commands ++ c ∷ [] }) pool number ≡ intervals_of h pool number ++ option_to_list (begun c (set_of (map_of h) pool number) (set_of (after (map_of h) c) pool number))
intervals_after h c pool number = commands_begin_intervals h c pool number

-- no intervals before the pool
pub intervals_none : (h : History) (pool : List ℕ) (number : ℕ) → set_of (map_of h) pool number ≡ None → intervals_of h pool number ≡ []
intervals_none h pool number none = subst (λ o. EndIn o (intervals_of h pool number)) none (present_set_is_last h pool number)

-- ---- one more command, in a group that is there

abbrev pub later : History → MapCommand → History
later h c = record h { commands = h.commands ++ c ∷ [] }

-- what a group makes of a command, where its set was old and is new
record Moves (c : MapCommand) (old new : List ℕ) (sets moved : List (List ℕ)) : Type 0 where
  adds : moved ≡ sets ++ option_to_list (begun c (Some old) (Some new))
  last : last_set moved ≡ new

begun_by : (c : MapCommand) (old new : List ℕ) (b : Bool) → (restarts c old || not (bytes_eq old new)) ≡ b → begun c (Some old) (Some new) ≡ (if b then Some new else None)
begun_by c old new b e = ap (λ t. if t then Some new else None) e

stays : (c : MapCommand) (old new : List ℕ) (sets : List (List ℕ)) → last_set sets ≡ old → restarts c old ≡ false → old ≡ new → Moves c old new sets sets
stays c old new sets is quiet same =
    let none : begun c (Some old) (Some new) ≡ None =
    begun_by c old new false (ap (λ b. b || not (bytes_eq old new)) quiet ∙ ap not (ap (bytes_eq old) (sym same) ∙ bytes_refl old)) in
    record { adds = sym (append-nil sets) ∙ ap (λ o. sets ++ option_to_list o) (sym none); last = is ∙ same }

moves : (c : MapCommand) (old new : List ℕ) (sets : List (List ℕ)) → last_set sets ≡ old → restarts c old ≡ false → Moves c old new sets (moved_sets sets new)
moves c old new sets is quiet = go (same_set new (last_set sets)) refl
  where
    go : (b : Bool) → same_set new (last_set sets) ≡ b → Moves c old new sets (if b then sets else sets ++ new ∷ [])
    go true e = stays c old new sets is quiet (sym is ∙ sym (same_set_is new (last_set sets) e))
    go false e = record { adds = ap (λ o. sets ++ option_to_list o) (sym (begun_by c old new true (ap (λ b. b || not (bytes_eq old new)) quiet ∙ ap not (differ (bytes_eq old new) refl)))); last = last_pushed sets new }
      where
        differ : (q : Bool) → bytes_eq old new ≡ q → q ≡ false
        differ false k = refl
        differ true k =
            let same : old ≡ new = bytes_same old new k in
            absurd (true_not_false (sym (same_set_refl new) ∙ ap (same_set new) (sym same ∙ sym is) ∙ e))

restarts_sets : (d : ℕ) (old new : List ℕ) (sets : List (List ℕ)) → last_set sets ≡ old → old ≡ new → Moves (OsdRestart d) old new sets (restarted_sets sets d)
restarts_sets d old new sets is same = go (is_in (last_set sets) d) refl
  where
    hears : (b : Bool) → is_in (last_set sets) d ≡ b → restarts (OsdRestart d) old ≡ b
    hears b e = restarts_is d old ∙ ap (λ s. is_in s d) (sym is) ∙ e

    go : (b : Bool) → is_in (last_set sets) d ≡ b → Moves (OsdRestart d) old new sets (if b then sets ++ last_set sets ∷ [] else sets)
    go true e = record {
      adds = ap (λ s. sets ++ s ∷ []) (is ∙ same) ∙ ap (λ o. sets ++ option_to_list o) (sym (begun_by (OsdRestart d) old new true (ap (λ b. b || not (bytes_eq old new)) (hears true e))));
      last = last_pushed sets (last_set sets) ∙ is ∙ same;
    }
    go false e = stays (OsdRestart d) old new sets is (hears false e) same

has_moved : (h : History) (c : MapCommand) (id : GroupId) (sets moved : List (List ℕ)) (old new : List ℕ) → HasSets h id sets → last_set sets ≡ old → set_of (after (map_of h) c) id.pool id.number ≡ Some new
    → map_of (later h c) ≡ after (map_of h) c → Moves c old new sets moved → HasSets (later h c) id moved
has_moved h c id sets moved old new has is next map_is m = record {
  are = m.adds ∙ ap (λ l. l ++ option_to_list (begun c (Some old) (Some new))) has.are
      ∙ ap (λ o. intervals_of h id.pool id.number ++ option_to_list (begun c o (Some new))) (sym (has.present ∙ ap Some is))
      ∙ ap (λ o. intervals_of h id.pool id.number ++ option_to_list (begun c (set_of (map_of h) id.pool id.number) o)) (sym next)
      ∙ sym (intervals_after h c id.pool id.number);
  present = ap (λ s. set_of s id.pool id.number) map_is ∙ next ∙ ap Some (sym m.last);
}

-- the sets after a command, as the group makes them
abbrev pub sets_after : History → GroupId → List (List ℕ) → MapCommand → List (List ℕ)
sets_after h id sets (PoolCreate name pg_num size min_size) = sets
sets_after h id sets (AppEnable pool app) = sets
sets_after h id sets (AppSet pool app key value) = sets
sets_after h id sets (AppRm pool app key) = sets
sets_after h id sets (OsdUp d) = moved_sets sets (members_of (after (map_of h) (OsdUp d)) id)
sets_after h id sets (OsdDown d) = moved_sets sets (members_of (after (map_of h) (OsdDown d)) id)
sets_after h id sets (OsdRestart d) = restarted_sets sets d

pub sets_kept : (h : History) (c : MapCommand) (id : GroupId) (sets : List (List ℕ)) → map_of (later h c) ≡ after (map_of h) c → HasSets h id sets → HasSets (later h c) id (sets_after h id sets c)
sets_kept h c id sets map_is has = by c (set_later (map_of h) c id found.0 found.1) map_is
  where
    found : (size : ℕ) × (size_in (map_of h).pools id.pool ≡ Some size) × (acting_of id.pool id.number (numbers_of (map_of h).up) size ≡ last_set sets)
    found = set_sized (map_of h) id.pool id.number (last_set sets) has.present

    same : (d : MapCommand) → set_of (after (map_of h) d) id.pool id.number ≡ Some (acting_of id.pool id.number (numbers_of (map_of h).up) found.0) → map_of (later h d) ≡ after (map_of h) d → restarts d (last_set sets) ≡ false
        → HasSets (later h d) id sets
    same d next is quiet = has_moved h d id sets sets (last_set sets) (acting_of id.pool id.number (numbers_of (map_of h).up) found.0) has refl next is
        (stays d (last_set sets) (acting_of id.pool id.number (numbers_of (map_of h).up) found.0) sets refl quiet (sym found.2))

    moving : (d : MapCommand) (new : List ℕ) → set_of (after (map_of h) d) id.pool id.number ≡ Some new → map_of (later h d) ≡ after (map_of h) d → restarts d (last_set sets) ≡ false
        → HasSets (later h d) id (moved_sets sets (members_of (after (map_of h) d) id))
    moving d new next is quiet =
        let P : List ℕ → Type 0 = λ s. HasSets (later h d) id (moved_sets sets s) in
        subst P (sym (members_are (after (map_of h) d) id new next)) (has_moved h d id sets (moved_sets sets new) (last_set sets) new has refl next is (moves d (last_set sets) new sets refl quiet))

    by : (d : MapCommand) → set_of (after (map_of h) d) id.pool id.number ≡ Some (acting_of id.pool id.number (numbers_of (after (map_of h) d).up) found.0) → map_of (later h d) ≡ after (map_of h) d → HasSets (later h d) id (sets_after h id sets d)
    by (PoolCreate name pg_num size min_size) next is = same (PoolCreate name pg_num size min_size) next is refl
    by (AppEnable pool app) next is = same (AppEnable pool app) next is refl
    by (AppSet pool app key value) next is = same (AppSet pool app key value) next is refl
    by (AppRm pool app key) next is = same (AppRm pool app key) next is refl
    by (OsdUp d) next is = moving (OsdUp d) (acting_of id.pool id.number (numbers_of (after (map_of h) (OsdUp d)).up) found.0) next is refl
    by (OsdDown d) next is = moving (OsdDown d) (acting_of id.pool id.number (numbers_of (after (map_of h) (OsdDown d)).up) found.0) next is refl
    by (OsdRestart d) next is =
        has_moved h (OsdRestart d) id sets (restarted_sets sets d) (last_set sets) (acting_of id.pool id.number (numbers_of (map_of h).up) found.0) has refl next is
        (restarts_sets d (last_set sets) (acting_of id.pool id.number (numbers_of (map_of h).up) found.0) sets refl (sym found.2))
