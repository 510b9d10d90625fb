use Rattle.std.proofs.Common.{◌<◌, map, arith, refl, subst}
use Rattle.map_core.specs.Limits.{IsAccepted}
use Rattle.world_core.specs.declared.world.parts.WorldParts.{WorldParts}
use Rattle.world_laws.proofs.Together.{fit_together}
use Rattle.cluster.specs.declared.cluster.Seats.{Seats}
use Rattle.cluster.specs.Passes.{AreSeatsOf, Gathers, Closed}
use Rattle.cluster.specs.Asks.{IsPassOf, seats_of}
use Rattle.cluster.proofs.Begun.{all_are}
use Rattle.cluster_locks.proofs.FreshRows.{in_step_long}
use Rattle.cluster.proofs.Ending.{ran_apart}
use Rattle.cluster.proofs.closing.end_all.Goals as goal

pub gather-all-requires-clause-passes : goal.gather-all-requires-clause-passes
gather-all-requires-clause-passes g c = all_are (IsPassOf c.args.cluster) (λ pass. AreSeatsOf c.args.cluster pass.seats) c.args.passes.items (λ pass h. h.seats.0) c.requires.passes

pub unlock-requires : goal.unlock-requires
unlock-requires g c =
    let room = c.requires.room in
    let long = (in_step_long _ _ _ _ c.end-locked.ensures.groups).1 in
    let count = c.end-locked.result.groups.ok.0 in
    let enough = room.for_groups in (room.no_groups, omega arith)

pub returns-clause-end : goal.returns-clause-end
returns-clause-end g c = record {
  ended = c.end-locked.result;
  closed = (
    c.gather-all.result,
    subst (λ (s : Seats). Gathers s (map seats_of c.args.passes.items) c.gather-all.result) c.end-map.ensures.1 c.gather-all.ensures.heard,
    c.end-locked.ensures.groups,
    c.end-locked.ensures.users,
  );
  groups = c.unlock.ensures;
  users = refl;
  map_is = c.end-map.ensures.0;
  sessions = c.requires.room.sessions;
}

pub returns-clause-fits : goal.returns-clause-fits
returns-clause-fits g c =
    let m = c.args.monitor in
    let own = c.requires.monitor.0 in
    let all = c.requires.all in
    let count = all.count in
    let here = c.args.passes.ok in
    let small : c.args.cluster.passes < 18446744073709551615 = omega arith in
    let ended : Closed c.args.cluster m.seats (map seats_of c.args.passes.items) c.end-locked.result = (
      c.gather-all.result,
      subst (λ (s : Seats). Gathers s (map seats_of c.args.passes.items) c.gather-all.result) c.end-map.ensures.1 c.gather-all.ensures.heard,
      c.end-locked.ensures.groups,
      c.end-locked.ensures.users,
    ) in
    let parts : WorldParts = record { users = c.end-locked.result.users.db; map = c.end-map.result.0; sessions = c.args.room.sessions; groups = c.unlock.result } in
    fit_together parts (ran_apart c.args.cluster m c.args.passes.items c.end-locked.result parts c.requires.begun c.requires.passes count small own.seats c.requires.monitor.1 c.requires.monitor.2 own.places
    (subst IsAccepted c.end-map.ensures.0 c.epoch-epoch.ensures.accepted) ended c.unlock.ensures c.end-map.ensures.0 c.requires.room.sessions)
