use Rattle.std.proofs.Common.{◌≡◌, ◌∙◌, sym, subst, Some, arith}
use Rattle.std.specs.Prelude.{Option, slice_get}
use Rattle.map_core.specs.Map.{map_of}
use Rattle.group_model.specs.Group.{Event}
use Rattle.cluster.specs.MapCommands.{move_in}
use Rattle.cluster.specs.GroupMoves.{OneMoved, event_at}
use Rattle.cluster_locks.proofs.Places.{get_at}
use Rattle.cluster.proofs.Moved.{one_more, no_more, none_moved, at_place}
use Rattle.cluster.proofs.group_moves.move_groups.Goals as goal

pub loop-k-init : goal.loop-k-init
loop-k-init g c = record {
  own = c.requires.own;
  moved = none_moved (event_at (move_in (map_of c.args.map.now) c.args.command.now) c.args.places.now) c.args.from c.args.seats.now;
}

pub returns-then-not-move_one-clause-err : goal.returns-then-not-move_one-clause-err
returns-then-not-move_one-clause-err g c = let h = c.loop-k-test.true in let long = c.requires.places in (
  c.loop-k.auto.k,
  omega arith,
  no_more (event_at (move_in (map_of c.args.map.now) c.args.command.now) c.args.places.now) c.args.from c.loop-k.k c.args.seats.now c.loop-k.seats c.move_one.new.seats c.loop-k.invariant.moved c.if-not-move_one.ensures.moved,
)

pub loop-k-preserved : goal.loop-k-preserved
loop-k-preserved g c = let h = c.loop-k-test.true in
    let there : slice_get c.args.places.now c.loop-k.k ≡ Some c.index-places-k.result = get_at c.args.places.now c.loop-k.k c.index-places-k.result (omega arith) c.index-places-k.is in
    let event = event_at (move_in (map_of c.args.map.now) c.args.command.now) c.args.places.now in
    let is : event c.loop-k.k ≡ move_in (map_of c.args.map.now) c.args.command.now c.index-places-k.result = at_place (move_in (map_of c.args.map.now) c.args.command.now) c.args.places.now c.loop-k.k c.index-places-k.result there in record {
      own = c.move_one.ensures.own;
      moved = one_more event c.args.from c.loop-k.k c.args.seats.now c.loop-k.seats c.move_one.new.seats c.loop-k.auto.k c.loop-k.invariant.moved
          (subst (λ (e : Option Event). OneMoved e c.loop-k.k c.loop-k.seats c.move_one.new.seats) (c.move_for-change.ensures ∙ sym is) c.if-not-move_one.ensures.moved);
    }
