-- A change that goes on from some group goes on from where it began.
use Rattle.std.proofs.Common.{◌≡◌, ℕ, ◌≤◌, List, [], ◌∷◌, ◌++◌, refl, sym, ap, ◌∙◌, subst, arith}
use Rattle.std.specs.Prelude.{Result, Ok, Err, Option, Some, None, IsNone, IfErr, MatchResult}
use Rattle.std.specs.Option.{option_to_list}
use mathlib.Core.Logic.{inl, inr}
use Rattle.std.proofs.lemmas.Bool.Decides.{leb_tells}
use Rattle.std.proofs.lemmas.List.Sums.{fold-append}
use Rattle.place_core.specs.Placement.{numbers_of}
use Rattle.map_core.specs.State.{MapState, History}
use Rattle.map_core.specs.Map.{map_of, after, initial}
use Rattle.map_core.specs.declared.command.MapCommand.{MapCommand}
use Rattle.map_core.specs.declared.command.MapCommand.TheVariants.{PoolCreate, AppEnable, AppSet, AppRm, OsdUp, OsdDown, OsdRestart}
use Rattle.store_core.specs.declared.sealed.GroupId.{GroupId}
use Rattle.group_model.specs.Group.{Event, NewInterval}
use Rattle.world_core.specs.World.{members_of}
use Rattle.cluster.specs.declared.cluster.Cluster.{Cluster}
use Rattle.cluster.specs.declared.cluster.Seats.{Seats}
use Rattle.cluster.specs.declared.monitor.Monitor.{Monitor}
use Rattle.cluster.specs.declared.monitor.Unfinished.{Unfinished}
use Rattle.cluster.specs.declared.monitor.Unfinished.TheVariants.{Staged}
use Rattle.published_map.specs.Published.{with_command}
use Rattle.cluster.specs.Passes.{group_count}
use Rattle.cluster.specs.MapCommands.{move_in, move_by}
use Rattle.cluster.specs.GroupMoves.{HaveMoved, HaveLooked, event_at}
use Rattle.cluster.specs.Monitors.{StandsBy, WhereLeft, HasBegun, IsLeftBy}
use Rattle.cluster.proofs.Moved.{goes_through, after_looks, none_moved}

-- ---- the event of a command, by the map after it and by the map before it

map_more : (h : History) (command : MapCommand) → map_of (with_command h command) ≡ after (map_of h) command
map_more h command = fold-append after (initial h.daemons) h.commands (command ∷ [])

pub move_after : (h : History) (command : MapCommand) (id : GroupId) → move_in (map_of (with_command h command)) command id ≡ move_by (map_of h) command id
move_after h (OsdUp daemon) id = ap (λ (s : MapState). Some (NewInterval (members_of s id) (numbers_of s.up))) (map_more h (OsdUp daemon))
move_after h (OsdDown daemon) id = ap (λ (s : MapState). Some (NewInterval (members_of s id) (numbers_of s.up))) (map_more h (OsdDown daemon))
move_after h (OsdRestart daemon) id = refl
move_after h (PoolCreate name pg_num size min_size) id = refl
move_after h (AppEnable pool app) id = refl
move_after h (AppSet pool app key value) id = refl
move_after h (AppRm pool app key) id = refl

pub events_same : (now first : History) (command : MapCommand) (places places' : List GroupId) → now ≡ with_command first command → places ≡ places'
    → event_at (move_in (map_of now) command) places ≡ event_at (move_by (map_of first) command) places'
events_same now first command places places' is same =
    ap (λ (h : History). event_at (move_in (map_of h) command) places) is ∙ ((λ i. event_at (λ id. move_after first command id i) places) ∙ ap (event_at (move_by (map_of first) command)) same)

-- ---- going on

moved_on : (event : ℕ → Option Event) (from at to : ℕ) (first old new : Seats) → at ≤ to → from ≤ at → HaveMoved event from at first old → HaveMoved event at to old new → HaveMoved event from to first new
moved_on event from at to first old new far near h k = record {
  moved = λ j a b. elim (leb_tells at j) [
    | inl p ↦ k.moved j p.1 b ∙ ap (λ l. l ++ option_to_list (event j)) (h.later j p.1)
    | inr p ↦ k.before j p.1 ∙ h.moved j a p.1
  ];
  before = λ j a. k.before j (omega arith) ∙ h.before j a;
  later = λ j a. k.later j a ∙ h.later j (omega arith);
  goes = goes_through first old new h.goes k.goes;
}

module _ (command : MapCommand) where
  pub goes_on : (at to : ℕ) (first old new : Monitor) → at ≤ to → HasBegun command at first old → new.map ≡ old.map → new.places ≡ old.places
      → HaveMoved (event_at (move_in (map_of old.map) command) old.places.items) at to old.seats new.seats → HasBegun command to first new
  goes_on at to first old new far h same places k =
      let event = event_at (move_by (map_of first.map) command) first.places.items in
      let is : event_at (move_in (map_of old.map) command) old.places.items ≡ event = events_same old.map first.map command old.places.items first.places.items h.map_is (ap (λ z. z.items) h.places) in record {
        map_is = same ∙ h.map_is;
        places = places ∙ h.places;
        moved = moved_on event 0 at to first.seats old.seats new.seats far (omega arith) h.moved (subst (λ (e : ℕ → Option Event). HaveMoved e at to old.seats new.seats) is k);
      }

  -- a change stays as far as it was
  pub stays : (at to : ℕ) (first old new : Monitor) → to ≡ at → HasBegun command at first old → new.map ≡ old.map → new.places ≡ old.places → new.seats ≡ old.seats → HasBegun command to first new
  stays at to first old new is h same places seats = subst (λ (t : ℕ). HasBegun command t first new) (sym is) (record {
    map_is = same ∙ h.map_is;
    places = places ∙ h.places;
    moved = subst (λ z. HaveMoved (event_at (move_by (map_of first.map) command) first.places.items) 0 at first.seats z) (sym seats) h.moved;
  })

  -- a change that begins, after looks
  pub begins : (old new : Monitor) → HaveLooked old.seats new.seats → new.map ≡ with_command old.map command → new.places ≡ old.places → HasBegun command 0 old new
  begins old new look is places = let event = event_at (move_by (map_of old.map) command) old.places.items in record {
    map_is = is;
    places = places;
    moved = after_looks event 0 0 old.seats new.seats new.seats look (none_moved event 0 new.seats);
  }

-- what is left where all is staged is left at the number of groups
pub left_staged : (c : Cluster) (command : MapCommand) (at : ℕ) (u : Option Unfinished) → u ≡ Some Staged → IsLeftBy c command at u → at ≡ group_count c
left_staged c command at u is h = subst (λ z. IsLeftBy c command at z) is h

-- an answer that is left at the count is as far as one that is whole
pub either : (P : ℕ → Type 0) (count : ℕ) (r : Result (Unit {0}) ℕ) → P count → IfErr r (λ at. at ≡ count) → MatchResult r (λ _. P count) P
either P count (Ok x) h e = h
either P count (Err at) h e = subst P (sym e) h

-- ---- where no change is unfinished

pub stands_whole : (u : Option Unfinished) (count : ℕ) (own shown : History) (waiting : List MapCommand) → IsNone u → StandsBy u count own shown waiting → shown ≡ own
stands_whole None count own shown waiting none h = h.0
stands_whole (Some x) count own shown waiting none h = cc

pub where_none : (u : Option Unfinished) (Q : Unfinished → Type 0) (P : Type 0) → IsNone u → P → WhereLeft u Q P
where_none None Q P none p = p
where_none (Some x) Q P none p = absurd (cc)
