-- What worlds keep whose events were all accepted.
use Rattle.std.proofs.Common.{ℕ, ◌<◌, ◌≤◌, List, ◌∷◌, length, fold, arith, []}
use Rattle.grant_core.specs.Flat.{Table}
use Rattle.world_events.specs.declared.event.Event.{Event}
use Rattle.world_core.specs.World.{World, first_world, world_step, world_after}
use Rattle.world_core.specs.Holds.{AcceptedFrom, AreAccepted}
use Rattle.world_laws.specs.Accepted.{RequestsAreSubmissions, FrontTellsRequests, AcceptedHolds, AcceptedAnswers, IntervalsAreTheMaps, GroupsAreServed, AcceptedHasNumbers}
use Rattle.world_core.proofs.Worlds.{world_stands}
use Rattle.world_core.proofs.Holding.{world_holds}
use Rattle.world_core.proofs.Replied.{answers_are_decided}
use Rattle.world_core.proofs.Limits.{allowed, first_kept, front_kept, few_submissions}
use Rattle.world_core.specs.Sound.{FrontKept, WorldKept}
use Rattle.world_core.proofs.Accepted.{world_kept, front_tells, group_served}

front_kept_through : (es : List Event) (w : World) → AcceptedFrom w es → FrontKept w.front → FrontKept (fold world_step w es).front
front_kept_through [] w accepted h = h
front_kept_through (e ∷ es) w accepted h = front_kept_through es (world_step w e) accepted.1 (front_kept w.front e h (allowed w e accepted.0))

pub world_front_kept : (table : Table) (daemons : ℕ) (events : List Event) → AreAccepted table daemons events → FrontKept (world_after table daemons events).front
world_front_kept table daemons events accepted = front_kept_through events (first_world table daemons) accepted (first_kept table daemons)

pub accepted_has_numbers : AcceptedHasNumbers
accepted_has_numbers table daemons events accepted =
    let a : length (world_after table daemons events).front.submissions ≤ 33554432 = few_submissions (world_after table daemons events).front (world_front_kept table daemons events accepted) in
    fits (length (world_after table daemons events).front.submissions) a
  where
    fits : (n : ℕ) → n ≤ 33554432 → n < 4294967296
    fits n h = omega arith

kept_through : (es : List Event) (w : World) → AcceptedFrom w es → WorldKept w → WorldKept (fold world_step w es)
kept_through [] w accepted h = h
kept_through (e ∷ es) w accepted h = kept_through es (world_step w e) accepted.1 (world_kept w e h accepted.0)

pub accepted_kept : (table : Table) (daemons : ℕ) (events : List Event) → AreAccepted table daemons events → WorldKept (world_after table daemons events)
accepted_kept table daemons events accepted = kept_through events (first_world table daemons) accepted (record { front = first_kept table daemons; groups = λ id g is. absurd (cc) })

pub requests_are_submissions : RequestsAreSubmissions
requests_are_submissions table daemons events accepted id g there = ((accepted_kept table daemons events accepted).groups id g there).requests

pub intervals_are_the_maps : IntervalsAreTheMaps
intervals_are_the_maps table daemons events accepted id g there = ((accepted_kept table daemons events accepted).groups id g there).sets.are

pub accepted_holds : AcceptedHolds
accepted_holds table daemons events accepted = world_holds table daemons events (accepted_has_numbers table daemons events accepted)

pub groups_are_served : GroupsAreServed
groups_are_served table daemons events id g accepted there = group_served (world_after table daemons events) id g (accepted_kept table daemons events accepted) there

pub front_tells_requests : FrontTellsRequests
front_tells_requests table daemons events accepted =
    front_tells (world_after table daemons events) (accepted_kept table daemons events accepted) (world_stands table daemons events (accepted_has_numbers table daemons events accepted)).front

pub accepted_answers : AcceptedAnswers
accepted_answers table daemons events id reply accepted is = answers_are_decided table daemons events id reply (accepted_has_numbers table daemons events accepted) is
