use Rattle.std.proofs.Common.{ap, sym}
use Rattle.std.specs.Prelude.{Option}
use Rattle.std.specs.Option.{option_map}
use Rattle.group_core.specs.Moves.{event_of}
use Rattle.group_messages.specs.declared.group_move.GroupMove.{GroupMove}
use Rattle.cluster_locks.specs.Moves.{move_entry, MoveTells}
use Rattle.cluster.proofs.Moved.{inside_of, moved, refused, still_monitor}
use Rattle.cluster.proofs.group_moves.move_one.Goals as goal

pub returns-in-Ok-clause-moved : goal.returns-in-Ok-clause-moved
returns-in-Ok-clause-moved g c = moved c.args.cluster.now c.args.k c.args.seats.now c.turn.new.seats (inside_of c.args.cluster.now c.args.seats.now c.args.k c.requires.own.0 c.requires.inside)
    c.in-Some.change c.in-Ok.field-0 (option_map event_of c.args.change) (ap (λ (o : Option GroupMove). option_map event_of o) (sym c.in-Some.is)) c.in-Ok.ensures.turn

pub returns-in-Err-clause-moved : goal.returns-in-Err-clause-moved
returns-in-Err-clause-moved g c = refused c.args.cluster.now c.args.k c.args.seats.now c.turn.new.seats (inside_of c.args.cluster.now c.args.seats.now c.args.k c.requires.own.0 c.requires.inside)
    c.in-Some.change c.in-Err.field-0 c.in-Err.ensures.turn

pub returns-in-Ok-clause-own : goal.returns-in-Ok-clause-own
returns-in-Ok-clause-own g c = let w = c.args.cluster.now in
    still_monitor move_entry MoveTells w c.args.seats.now c.turn.new.seats c.args.k _ _ c.requires.own c.turn.ensures.seats (returns-in-Ok-clause-moved g c).goes c.turn.ensures.turn

pub returns-in-Err-clause-own : goal.returns-in-Err-clause-own
returns-in-Err-clause-own g c = let w = c.args.cluster.now in
    still_monitor move_entry MoveTells w c.args.seats.now c.turn.new.seats c.args.k _ _ c.requires.own c.turn.ensures.seats (returns-in-Err-clause-moved g c).goes c.turn.ensures.turn
