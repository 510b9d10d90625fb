use Rattle.std.proofs.Common.{inr, refl, subst}
use Rattle.store_core.specs.declared.sealed.GroupId.{GroupId}
use Rattle.world_core.specs.Moves.{IsAt}
use Rattle.world_events.specs.declared.fault.WorldFault.TheVariants.{Map as OfMap}
use Rattle.cluster.specs.declared.pass.Pass.{Pass}
use Rattle.cluster.specs.Passes.{firsts_of}
use Rattle.cluster.proofs.ClusterPlaces.{groups_of_start, inside_count}
use Rattle.cluster.proofs.OwnSessions.{stands_at}
use Rattle.cluster.proofs.Submitting.{not_refused, asked_pass, refused_pass}
use Rattle.cluster.proofs.cluster.Cluster.put.Goals as goal

pub unreachable-requires : goal.unreachable-requires
unreachable-requires g c = not_refused c.args.self.now.start c.args.request c.in-Ok.group c.in-Err.field-0 OfMap c.requires.asks.sealed c.requires.asks.word c.in-Ok.ensures c.in-Err.ensures.refused

pub turn-requires-clause-group : goal.turn-requires-clause-group
turn-requires-clause-group g c =
    inside_count c.args.self.now c.in-Ok.group c.in-Ok-place_of.place (c.in-Ok-place_of.ensures.place (firsts_of c.args.self.now) (groups_of_start c.args.self.now c.requires.pass.begun))

pub returns-in-Err-turn-clause-pass : goal.returns-in-Err-turn-clause-pass
returns-in-Err-turn-clause-pass g c =
    let w = c.args.self.now in
    let at = c.in-Ok-place_of.ensures.place (firsts_of w) (groups_of_start w c.requires.pass.begun) in
    refused_pass w c.args.pass.now c.turn.new.seats c.args.request c.in-Ok-place_of.place c.in-Err-turn.fault (inside_count w c.in-Ok.group c.in-Ok-place_of.place at) c.requires.pass c.in-Err-turn.ensures.seats c.in-Err-turn.ensures.turn

pub returns-in-Err-turn-clause-err : goal.returns-in-Err-turn-clause-err
returns-in-Err-turn-clause-err g c =
    let w = c.args.self.now in
    let at = c.in-Ok-place_of.ensures.place (firsts_of w) (groups_of_start w c.requires.pass.begun) in
    inr (record {
      place = c.in-Ok-place_of.place;
      at = subst (λ (i : GroupId). IsAt (firsts_of w) i c.in-Ok-place_of.place) c.in-Ok.ensures at;
      why = c.in-Err-turn.fault;
      turns = record { turn = c.in-Err-turn.ensures.turn; reader = refl; sessions = refl };
      is = c.of_group.ensures;
    })

pub returns-in-Ok-turn-clause-pass : goal.returns-in-Ok-turn-clause-pass
returns-in-Ok-turn-clause-pass g c =
    let w = c.args.self.now in
    let old : Pass = c.args.pass.now in
    let at = subst (λ (i : GroupId). IsAt (firsts_of w) i c.in-Ok-place_of.place) c.in-Ok.ensures (c.in-Ok-place_of.ensures.place (firsts_of w) (groups_of_start w c.requires.pass.begun)) in
    let h = stands_at old.sessions.items c.args.ask.now.session c.args.k c.requires.place in
    asked_pass w old c.requires.pass c.args.ask.now c.args.request c.requires.asks h.one.session h.found c.in-Ok-place_of.place at
    (record { seats = c.turn.new.seats; reader = old.reader; sessions = c.move_on.new.own }) tt c.in-Ok-turn.ensures.seats c.in-Ok-turn.ensures.turn refl c.move_on.ensures

pub returns-in-Ok-turn-clause-ok : goal.returns-in-Ok-turn-clause-ok
returns-in-Ok-turn-clause-ok g c =
    let w = c.args.self.now in
    record {
      place = c.in-Ok-place_of.place;
      at = subst (λ (i : GroupId). IsAt (firsts_of w) i c.in-Ok-place_of.place) c.in-Ok.ensures (c.in-Ok-place_of.ensures.place (firsts_of w) (groups_of_start w c.requires.pass.begun));
      turn = c.in-Ok-turn.ensures.turn;
      reader = refl;
      sessions = c.move_on.ensures;
      told = λ i. record { id = c.id-id.ensures i; group = c.in-Ok.ensures i };
    }
