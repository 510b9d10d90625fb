use Rattle.std.proofs.Common.{refl}
use Rattle.cluster.proofs.Held.{pass_noted}
use Rattle.cluster.proofs.pass.Pass.note.Goals as goal

pub returns-in_err-seats-clause-pass : goal.returns-in_err-seats-clause-pass
returns-in_err-seats-clause-pass c = pass_noted c.args.cluster.now c.args.self.now _ c.requires (c.split_off.ensures.same, refl, refl)

pub returns-clause-pass : goal.returns-clause-pass
returns-clause-pass c = pass_noted c.args.cluster.now c.args.self.now _ c.requires (c.split_off.ensures.same, refl, refl)
