use Rattle.std.proofs.Common.{[], ◌∷◌, ◌++◌, ◌∙◌, length, length-append, arith, ap, sym}
use Rattle.std.specs.Prelude.{reverse}
use Rattle.std.proofs.lemmas.List.{append-nil}
use Rattle.map_core.specs.Map.{map_of}
use Rattle.world_core.specs.Moves.{move_of, all_prepared}
use Rattle.world_core.proofs.AllMoved.{all_ready, one_ready, one_refused}
use Rattle.world_core.proofs.moves.prepare_all.Goals as goal

pub loop-group-init : goal.loop-group-init
loop-group-init c =
    let event = move_of (map_of c.args.map.now) c.args.command.now in
    record {
      all = ap (λ l. all_prepared event c.args.groups.now.items ++ reverse l) c.in_ok-ready.ensures.items ∙ append-nil (all_prepared event c.args.groups.now.items);
      ready_room = omega (arith, c.in_ok-ready.ensures.len, c.in_ok-ready.ensures.capacity, c.len.ensures);
      room = omega (arith, c.in_ok-ready.ensures.len, c.args.groups.now.ok);
    }

pub loop-group-preserved : goal.loop-group-preserved
loop-group-preserved c =
    let inv = c.loop-group.invariant in
    let more = c.put.new.all.ok.0 ∙ ap length c.put.ensures.items ∙ length-append c.loop-group.ready.items (c.in-Ok.prepared ∷ []) in
    record {
      all = one_ready (move_of (map_of c.args.map.now) c.args.command.now) c.loop-group.groups.items c.pop.new.self.items c.args.groups.now.items c.in-Some.group c.in-Ok.prepared c.loop-group.ready.items c.put.new.all.items
          c.in-Some.ensures.items c.in-Ok.ensures.ready c.put.ensures.items inv.all;
      ready_room = omega (arith, inv.ready_room, more, c.loop-group.ready.ok.0, c.in-Some.ensures.cases, c.put.ensures.capacity);
      room = omega (arith, inv.room, more, c.loop-group.ready.ok.0, c.in-Some.ensures.cases, c.pop.ensures.capacity);
    }

pub returns-in-Err-clause-unchanged : goal.returns-in-Err-clause-unchanged
returns-in-Err-clause-unchanged c =
    one_refused (move_of (map_of c.args.map.now) c.args.command.now) c.loop-group.groups.items c.pop.new.self.items c.put-in-Err.new.all.items c.args.groups.now.items c.give_up_all.new.groups.items c.in-Some.group c.in-Err.group c.loop-group.ready.items
    c.in-Some.ensures.items c.in-Err.ensures.unchanged c.put-in-Err.ensures.items c.loop-group.invariant.all c.give_up_all.ensures

pub returns-clause-ready : goal.returns-clause-ready
returns-clause-ready c =
    all_ready (move_of (map_of c.args.map.now) c.args.command.now) c.loop-group.groups.items c.args.groups.now.items c.loop-group.ready.items (sym c.loop-group.groups.ok.0 ∙ c.in_default.ensures.cases.0) c.loop-group.invariant.all
