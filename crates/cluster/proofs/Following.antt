-- The monitor's seats make the events of the commands that its map has since a first one.
use Rattle.std.proofs.Common.{◌≡◌, ℕ, zero, suc, ◌≤◌, Bool, true, false, List, [], ◌∷◌, ◌++◌, map, length, get_or, refl, sym, ap, ◌∙◌, subst, arith}
use Rattle.std.specs.Prelude.{All, Result, Ok, Err, Option, Some, None, IsNone, OnOk, IfErr, if◌then◌else◌}
use Rattle.std.specs.Option.{option_to_list}
use mathlib.Core.Logic.{inl, inr}
use Rattle.std.proofs.lemmas.Bool.Decides.{leb_tells}
use Rattle.std.proofs.lemmas.List.{append_assoc, append-nil, length-map}
use Rattle.turn_lock.specs.Seats.{Locked, Seated, first_of, mine_of}
use Rattle.std.proofs.lemmas.List.Elements.{All-head, All-tail, All-cons, All-nil}
use Rattle.map_core.specs.State.{History}
use Rattle.map_core.specs.Map.{map_of, epoch_of}
use Rattle.map_core.specs.Refusal.{refusal}
use Rattle.map_core.specs.declared.command.MapCommand.{MapCommand}
use Rattle.map_core.specs.declared.fault.MapFault.{MapFault}
use Rattle.map_core.specs.declared.fault.MapFault.TheVariants as map_fault
use Rattle.store_core.specs.declared.sealed.GroupId.{GroupId}
use Rattle.group_model.specs.Group.{Event}
use Rattle.cluster_locks.specs.declared.groups.GroupEntry.{GroupEntry}
use Rattle.cluster.specs.declared.cluster.Cluster.{Cluster}
use Rattle.cluster.specs.declared.cluster.Seats.{Seats}
use Rattle.cluster.specs.declared.monitor.Monitor.{Monitor}
use Rattle.cluster.specs.declared.monitor.Unfinished.{Unfinished}
use Rattle.cluster.specs.declared.monitor.Unfinished.TheVariants.{Left, Staged}
use Rattle.cluster_locks.specs.Places.{IsFreshRow}
use Rattle.published_map.specs.Published.{with_command, with_commands}
use Rattle.cluster.specs.Passes.{AreFreshOf, group_count, firsts_of}
use Rattle.cluster.specs.MapCommands.{move_in, move_by, is_creation}
use Rattle.cluster.specs.GroupMoves.{happened, HaveMoved, HaveLooked, event_at}
use Rattle.cluster.specs.Monitors.{IsMonitorOf, IsLeftBy, moves_from, AllFollow, SomeFollow, FollowBy, Follows, left_with, change_refusal}
use Rattle.cluster.proofs.Moved.{at_place, looked_nowhere}
use Rattle.cluster.proofs.GoingOn.{events_same}

-- ---- one command more

with_more : (h : History) (command : MapCommand) (commands : List MapCommand) → with_commands (with_command h command) commands ≡ with_commands h (command ∷ commands)
with_more h command commands = λ i. record h { commands = append_assoc h.commands (command ∷ []) commands i }

with_last : (h : History) (commands : List MapCommand) (command : MapCommand) → with_command (with_commands h commands) command ≡ with_commands h (commands ++ command ∷ [])
with_last h commands command = λ i. record h { commands = append_assoc h.commands commands (command ∷ []) i }

with_none : (h : History) → h ≡ with_commands h []
with_none h = λ i. record h { commands = sym (append-nil h.commands) i }

moves_more : (h : History) (id : GroupId) (commands : List MapCommand) (command : MapCommand)
    → moves_from h id (commands ++ command ∷ []) ≡ moves_from h id commands ++ option_to_list (move_by (map_of (with_commands h commands)) command id)
moves_more h id [] command = append-nil _ ∙ ap (λ (x : History). option_to_list (move_by (map_of x) command id)) (with_none h)
moves_more h id (x ∷ xs) command =
    let first : List Event = option_to_list (move_by (map_of h) x id) in
    let rest : List Event = moves_from (with_command h x) id xs in
    ap (λ l. first ++ l) (moves_more (with_command h x) id xs command ∙ ap (λ (y : History). rest ++ option_to_list (move_by (map_of y) command id)) (with_more h x xs))
    ∙ sym (append_assoc first rest (option_to_list (move_by (map_of (with_commands h (x ∷ xs))) command id)))

module _ (first : History) (before : List MapCommand) (command : MapCommand) (places : List GroupId) where
  -- more groups have moved
  pub some_on : (now : History) (at to : ℕ) (old new : Seats) → now ≡ with_commands first (before ++ command ∷ []) → at ≤ to → SomeFollow first before command at places old
      → HaveMoved (event_at (move_in (map_of now) command) places) at to old new → SomeFollow first before command to places new
  some_on now at to old new is far h m k id inside there =
      let event : ℕ → Option Event = event_at (move_in (map_of now) command) places in
      let same : event ≡ event_at (move_by (map_of (with_commands first before)) command) places = events_same now (with_commands first before) command places places (is ∙ sym (with_last first before command)) refl in
      let here : event k ≡ move_by (map_of (with_commands first before)) command id = ap (λ (e : ℕ → Option Event). e k) same ∙ at_place (move_by (map_of (with_commands first before)) command) places k id there in (
        λ below. elim (leb_tells at k) [
          | inl p ↦ m.moved k p.1 below ∙ ((λ i. (h k id inside there).1 p.1 i ++ option_to_list (here i)) ∙ sym (moves_more first id before command))
          | inr p ↦ m.before k p.1 ∙ (h k id inside there).0 p.1
        ],
        λ above. m.later k above ∙ (h k id inside there).1 (omega arith),
      )

  -- all have
  pub all_on : (count : ℕ) (seats : Seats) → length places ≡ count → SomeFollow first before command count places seats → AllFollow first (before ++ command ∷ []) places seats
  all_on count seats long h k id inside there = (h k id inside there).0 (omega arith)

pub follow_none : (u : Option Unfinished) (first : History) (commands : List MapCommand) (places : List GroupId) (seats : Seats) → IsNone u → AllFollow first commands places seats → FollowBy u first commands places seats
follow_none None first commands places seats none h = h
follow_none (Some x) first commands places seats none h = absurd (cc)

pub follow_staged : (u : Option Unfinished) (first : History) (commands : List MapCommand) (places : List GroupId) (seats : Seats) → u ≡ Some Staged → AllFollow first commands places seats → FollowBy u first commands places seats
follow_staged u first commands places seats is h = subst (λ (x : Option Unfinished). FollowBy x first commands places seats) (sym is) h

module _ (c : Cluster) (first : History) (before : List MapCommand) (command : MapCommand) (places : List GroupId) (seats : Seats) where
  follow_left : (u : Option Unfinished) → IsLeftBy c command (group_count c) u → SomeFollow first before command (group_count c) places seats → AllFollow first (before ++ command ∷ []) places seats
      → FollowBy u first (before ++ command ∷ []) places seats
  follow_left None left some all = absurd left
  follow_left (Some (Left other from)) left some all =
      (before, ap (λ (x : MapCommand). before ++ x ∷ []) (sym left.0), subst (λ (x : MapCommand). SomeFollow first before x from places seats) (sym left.0) (subst (λ (n : ℕ). SomeFollow first before command n places seats) (sym left.1) some))
  follow_left (Some Staged) left some all = all

  -- what an answer leaves, once all groups have moved
  pub follow_lain : (u : Option Unfinished) (r : Result (Unit {0}) ℕ) (P : ℕ → Type 0) → length places ≡ group_count c → OnOk r (IsNone u) → IfErr r (λ at. at ≡ group_count c) → IfErr r (λ at. P at × IsLeftBy c command at u)
      → SomeFollow first before command (group_count c) places seats → FollowBy u first (before ++ command ∷ []) places seats
  follow_lain u (Ok x) P long ok at err some = follow_none u first (before ++ command ∷ []) places seats ok (all_on first before command places (group_count c) seats long some)
  follow_lain u (Err n) P long ok at err some = follow_left u (subst (λ (m : ℕ). IsLeftBy c command m u) at err.1) some (all_on first before command places (group_count c) seats long some)

-- ---- where only looks were taken

all_looked : (first : History) (commands : List MapCommand) (places : List GroupId) (old new : Seats) → HaveLooked old new → AllFollow first commands places old → AllFollow first commands places new
all_looked first commands places old new look h k id inside there = look.same k ∙ h k id inside there

by_looked : (u : Option Unfinished) (first : History) (commands : List MapCommand) (places : List GroupId) (old new : Seats) → HaveLooked old new → FollowBy u first commands places old → FollowBy u first commands places new
by_looked None first commands places old new look h = all_looked first commands places old new look h
by_looked (Some Staged) first commands places old new look h = all_looked first commands places old new look h
by_looked (Some (Left command at)) first commands places old new look h = (h.0, h.1, λ k id inside there. let s = h.2 k id inside there in ((λ below. look.same k ∙ s.0 below), (λ above. look.same k ∙ s.1 above)))

pub follows_looked : (first : History) (old new : Monitor) → new.map ≡ old.map → new.places ≡ old.places → new.unfinished ≡ old.unfinished → HaveLooked old.seats new.seats → Follows first old → Follows first new
follows_looked first old new map_is places left look h = record {
  commands = h.commands;
  map_is = map_is ∙ h.map_is;
  pools = h.pools;
  events = subst (λ (u : Option Unfinished). FollowBy u first h.commands new.places.items new.seats) (sym left)
      (subst (λ z. FollowBy old.unfinished first h.commands z.items new.seats) (sym places) (by_looked old.unfinished first h.commands old.places.items old.seats new.seats look h.events));
}

pub follows_same : (first : History) (old new : Monitor) → new.map ≡ old.map → new.places ≡ old.places → new.unfinished ≡ old.unfinished → new.seats ≡ old.seats → Follows first old → Follows first new
follows_same first old new map_is places left seats h = follows_looked first old new map_is places left (subst (λ z. HaveLooked old.seats z) (sym seats) (looked_nowhere old.seats)) h

-- ---- where a change begins

not_created : (b : Bool) (r : Option MapFault) → (if b then Some map_fault.Limit else r) ≡ None → b ≡ false
not_created true r h = absurd (cc)
not_created false r h = refl

all_more : (P : MapCommand → Type 0) (xs : List MapCommand) (x : MapCommand) → All P xs → P x → All P (xs ++ x ∷ [])
all_more P [] x h p = All-cons P x [] p (All-nil P)
all_more P (y ∷ ys) x h p = All-cons P y (ys ++ x ∷ []) (All-head P y ys h) (all_more P ys x (All-tail P y ys h) p)

whole_events : (u : Option Unfinished) (first : History) (commands : List MapCommand) (places : List GroupId) (seats : Seats) → IsNone u → FollowBy u first commands places seats → AllFollow first commands places seats
whole_events None first commands places seats none h = h
whole_events (Some x) first commands places seats none h = absurd (cc)

pub follows_begun : (first : History) (command kept : MapCommand) (old mid : Monitor) → IsNone old.unfinished → change_refusal old.map command ≡ None → kept ≡ command → HaveLooked old.seats mid.seats
    → mid.map ≡ with_command old.map command → mid.places ≡ old.places → Follows first old → Follows first (left_with kept 0 mid)
follows_begun first command kept old mid whole free same look map_is places h =
    let plain : is_creation kept ≡ false = ap is_creation same ∙ not_created (is_creation command) (refusal (map_of old.map) (epoch_of old.map) command) free in
    let all : AllFollow first h.commands mid.places.items mid.seats = subst (λ z. AllFollow first h.commands z.items mid.seats) (sym places)
    (all_looked first h.commands old.places.items old.seats mid.seats look (whole_events old.unfinished first h.commands old.places.items old.seats whole h.events)) in record {
      commands = h.commands ++ kept ∷ [];
      map_is = map_is ∙ ((λ i. with_command (h.map_is i) (sym same i)) ∙ with_last first h.commands kept);
      pools = all_more (λ x. is_creation x ≡ false) h.commands kept h.pools plain;
      events = (h.commands, refl, λ k id inside there. ((λ below. absurd (omega arith)), (λ above. all k id inside there)));
    }

-- ---- where a change goes on

pub places_long : (c : Cluster) (m : Monitor) → IsMonitorOf c m → length m.places.items ≡ group_count c
places_long c m h = ap length h.places ∙ (length-map (firsts_of c) (λ g. g.group) ∙ length-map c.groups.items first_of)

module _ (first : History) (command : MapCommand) (at : ℕ) (old new : Monitor) (map_is : new.map ≡ old.map) (places : new.places ≡ old.places) (h : Follows first (left_with command at old)) where
  commands_are : h.commands ≡ h.events.0 ++ command ∷ []
  commands_are = h.events.1

  some_moved : (to : ℕ) (mid : Seats) → at ≤ to → HaveMoved (event_at (move_in (map_of old.map) command) old.places.items) at to old.seats mid → new.seats ≡ mid
      → SomeFollow first h.events.0 command to new.places.items new.seats
  some_moved to mid far moved seats =
      subst (λ z. SomeFollow first h.events.0 command to new.places.items z) (sym seats) (subst (λ z. SomeFollow first h.events.0 command to z.items mid) (sym places)
      (some_on first h.events.0 command old.places.items old.map at to old.seats mid (h.map_is ∙ ap (with_commands first) commands_are) far h.events.2 moved))

  -- as far as a group that did not move
  pub follows_left : (to : ℕ) → at ≤ to → HaveMoved (event_at (move_in (map_of old.map) command) old.places.items) at to old.seats new.seats → Follows first (left_with command to new)
  follows_left to far moved = record {
    commands = h.events.0 ++ command ∷ [];
    map_is = map_is ∙ (h.map_is ∙ ap (with_commands first) commands_are);
    pools = subst (λ (l : List MapCommand). All (λ x. is_creation x ≡ false) l) commands_are h.pools;
    events = (h.events.0, refl, some_moved to new.seats far moved refl);
  }

  -- to the publication
  pub follows_staged : (c : Cluster) (mid : Seats) (r : Result (Unit {0}) ℕ) (P : ℕ → Type 0) → at ≤ group_count c → length new.places.items ≡ group_count c
      → HaveMoved (event_at (move_in (map_of old.map) command) old.places.items) at (group_count c) old.seats mid → new.seats ≡ mid
      → OnOk r (IsNone new.unfinished) → IfErr r (λ n. n ≡ group_count c) → IfErr r (λ n. P n × IsLeftBy c command n new.unfinished) → Follows first new
  follows_staged c mid r P far long moved seats ok is err = record {
    commands = h.events.0 ++ command ∷ [];
    map_is = map_is ∙ (h.map_is ∙ ap (with_commands first) commands_are);
    pools = subst (λ (l : List MapCommand). All (λ x. is_creation x ≡ false) l) commands_are h.pools;
    events = follow_lain c first h.events.0 command new.places.items new.seats new.unfinished r P long ok is err (some_moved (group_count c) mid far moved seats);
  }

-- ---- at the beginning

pub fresh_mine : {S : Type 0} → (share : ℕ) (ls : List (Locked S)) (ss : List (Seated GroupEntry)) (k : ℕ) → IsFreshRow share ls ss → get_or (map mine_of ss) k [] ≡ []
fresh_mine share [] [] k h = refl
fresh_mine share [] (s ∷ ss) k h = absurd h
fresh_mine share (l ∷ ls) [] k h = absurd h
fresh_mine share (l ∷ ls) (s ∷ ss) zero h = h.0.2
fresh_mine share (l ∷ ls) (s ∷ ss) (suc k) h = fresh_mine share ls ss k h.2

pub follows_first : (c : Cluster) (share : ℕ) (m : Monitor) → AreFreshOf c share m.seats → IsNone m.unfinished → Follows m.map m
follows_first c share m fresh whole = record {
  commands = [];
  map_is = with_none m.map;
  pools = All-nil (λ x. is_creation x ≡ false);
  events = follow_none m.unfinished m.map [] m.places.items m.seats whole (λ k id inside there. ap happened (fresh_mine share c.groups.items m.seats.groups.items k fresh.0));
}
