use Rattle.std.proofs.Common.{arith, ◌≡◌, ◌≤◌, List, refl, sym, subst}
use Rattle.map_core.specs.Map.{map_of}
use Rattle.store_core.specs.declared.sealed.GroupId.{GroupId}
use Rattle.cluster.specs.Passes.{group_count}
use Rattle.cluster.specs.MapCommands.{move_in}
use Rattle.cluster.specs.GroupMoves.{HaveMoved, event_at}
use Rattle.cluster.specs.Monitors.{HasBegun, published_of}
use Rattle.cluster.proofs.GoingOn.{goes_on, either}
use Rattle.cluster.proofs.Following.{places_long, follows_left, follows_staged}
use Rattle.std.proofs.lemmas.Grind.{common_steps}
use Rattle.cluster.proofs.monitor.Monitor.resume.Goals as goal

pub returns-in-Ok-clause-begun : goal.returns-in-Ok-clause-begun
returns-in-Ok-clause-begun g c first h = let now = c.args.self.now in let new = c.stage.new.self in let command = c.args.command in
    let count = group_count c.args.cluster.now in
    let far : c.args.at ≤ count = c.requires.0.stands.0 in
    let moved : HaveMoved (event_at (move_in (map_of now.map) command) now.places.items) c.args.at count now.seats c.move_groups-moved.new.seats =
    subst (λ (l : List GroupId). HaveMoved (event_at (move_in (map_of now.map) command) l) c.args.at count now.seats c.move_groups-moved.new.seats) c.as_slice-places.ensures.value c.in-Ok.ensures.ok in
    let all : HaveMoved (event_at (move_in (map_of now.map) command) now.places.items) c.args.at count now.seats new.seats =
    subst (λ z. HaveMoved (event_at (move_in (map_of now.map) command) now.places.items) c.args.at count now.seats z) (sym c.stage.ensures.rest.2) moved in
    either (λ to. HasBegun command to first new) count c.stage.result
    (goes_on command c.args.at count first now new far h c.stage.ensures.rest.0 c.stage.ensures.rest.1 all) c.stage.ensures.at

pub returns-in-Err-clause-begun : goal.returns-in-Err-clause-begun
returns-in-Err-clause-begun g c first h = let now = c.args.self.now in
    goes_on c.args.command c.args.at c.in-Err.to first now _ c.in-Err.ensures.err.0 h refl refl
    (subst (λ (l : List GroupId). HaveMoved (event_at (move_in (map_of now.map) c.args.command) l) c.args.at c.in-Err.to now.seats c.move_groups-moved.new.seats) c.as_slice-places.ensures.value c.in-Err.ensures.err.2)

pub returns-in-Ok-clause-follows : goal.returns-in-Ok-clause-follows
returns-in-Ok-clause-follows g c first h = let now = c.args.self.now in let new = c.stage.new.self in let command = c.args.command in let world = c.args.cluster.now in
    let moved : HaveMoved (event_at (move_in (map_of now.map) command) now.places.items) c.args.at (group_count world) now.seats c.move_groups-moved.new.seats =
    subst (λ (l : List GroupId). HaveMoved (event_at (move_in (map_of now.map) command) l) c.args.at (group_count world) now.seats c.move_groups-moved.new.seats) c.as_slice-places.ensures.value c.in-Ok.ensures.ok in
    follows_staged first command c.args.at now new c.stage.ensures.rest.0 c.stage.ensures.rest.1 h world c.move_groups-moved.new.seats c.stage.result (λ at. published_of new ≡ published_of now)
    c.requires.0.stands.0 (places_long world new c.stage.ensures.monitor) moved c.stage.ensures.rest.2 c.stage.ensures.ok c.stage.ensures.at c.stage.ensures.err

pub returns-in-Err-clause-follows : goal.returns-in-Err-clause-follows
returns-in-Err-clause-follows g c first h = let now = c.args.self.now in
    follows_left first c.args.command c.args.at now (record now { seats = c.move_groups-moved.new.seats }) refl refl h c.in-Err.to c.in-Err.ensures.err.0
    (subst (λ (l : List GroupId). HaveMoved (event_at (move_in (map_of now.map) c.args.command) l) c.args.at c.in-Err.to now.seats c.move_groups-moved.new.seats) c.as_slice-places.ensures.value c.in-Err.ensures.err.2)

pub move_groups-moved-requires-clause-places : goal.move_groups-moved-requires-clause-places
move_groups-moved-requires-clause-places c = grind (arith, common_steps)
