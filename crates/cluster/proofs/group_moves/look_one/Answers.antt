use Rattle.cluster_locks.specs.Moves.{full_entry, FullTells}
use Rattle.cluster.proofs.Moved.{inside_of, looked, found, still_monitor}
use Rattle.cluster.proofs.group_moves.look_one.Goals as goal

pub returns-clause-looked : goal.returns-clause-looked
returns-clause-looked g c = looked c.args.cluster.now c.args.k c.args.seats.now c.turn.new.seats (inside_of c.args.cluster.now c.args.seats.now c.args.k c.requires.own.0 c.requires.inside) c.turn.result c.turn.ensures.turn

pub returns-clause-found : goal.returns-clause-found
returns-clause-found g c = found c.args.cluster.now c.args.k c.args.seats.now c.turn.new.seats (inside_of c.args.cluster.now c.args.seats.now c.args.k c.requires.own.0 c.requires.inside) c.turn.result c.turn.ensures.turn

pub returns-clause-own : goal.returns-clause-own
returns-clause-own g c = let w = c.args.cluster.now in
    still_monitor full_entry FullTells w c.args.seats.now c.turn.new.seats c.args.k _ _ c.requires.own c.turn.ensures.seats (looked w c.args.k c.args.seats.now c.turn.new.seats (inside_of w c.args.seats.now c.args.k c.requires.own.0 c.requires.inside) c.turn.result c.turn.ensures.turn).goes c.turn.ensures.turn
