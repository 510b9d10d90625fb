use Rattle.std.proofs.Common.{rules}
use Rattle.cluster.proofs.Moved.{full_either, looked_nowhere}
use Rattle.cluster.specs.MapCommands.{begins_interval}
use Rattle.cluster.proofs.group_moves.full_at.Goals as goal

pub returns-clause-found : goal.returns-clause-found
returns-clause-found g c = full_either c.args.cluster.now c.args.k (begins_interval c.args.map.now c.args.command.now c.args.place.now) c.look_one.result c.args.seats.now c.look_one.new.seats (search rules) c.look_one.ensures.found

pub returns-then-not-begins-clause-looked : goal.returns-then-not-begins-clause-looked
returns-then-not-begins-clause-looked g c = looked_nowhere c.args.seats.now
