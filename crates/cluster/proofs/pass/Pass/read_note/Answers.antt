use Rattle.std.proofs.Common.{refl}
use Rattle.cluster.proofs.Held.{pass_heard}
use Rattle.cluster.proofs.pass.Pass.read_note.Goals as goal

pub returns-clause-pass : goal.returns-clause-pass
returns-clause-pass c = pass_heard c.args.cluster.now c.args.note.seats c.args.self.now _ c.requires.pass c.requires.note.1 c.absorb.ensures.seats c.absorb.ensures.taken refl refl
