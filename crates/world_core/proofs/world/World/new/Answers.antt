use Rattle.std.proofs.Common.{refl}
use Rattle.world_core.proofs.Sounds.{first_sound}
use Rattle.world_core.proofs.world.World.new.Goals as goal

pub invariant_of-result : goal.invariant_of-result
invariant_of-result c = rw (c.new.ensures, c.new-2.ensures.items, c.new-3.ensures.items) (record { sound = first_sound c.args.table c.args.daemons; fit = tt })

pub returns-clause-begins : goal.returns-clause-begins
returns-clause-begins c = rw (c.new.ensures, c.new-2.ensures.items, c.new-3.ensures.items) refl
