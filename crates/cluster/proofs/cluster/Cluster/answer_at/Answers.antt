use Rattle.std.specs.Prelude.{Ok, Err}
use Rattle.cluster.proofs.DeliveryTurns.{look_pass}
use Rattle.cluster.proofs.cluster.Cluster.answer_at.Goals as goal

pub returns-in-Ok-clause-pass : goal.returns-in-Ok-clause-pass
returns-in-Ok-clause-pass g c = look_pass c.args.self.now c.args.pass.now c.turn.new.seats c.args.place c.requires.place c.requires.pass c.in-Ok.ensures.seats (record { 0 = c.args.id }) (Ok c.in-Ok.reply) c.in-Ok.ensures.turn

pub returns-in-Err-clause-pass : goal.returns-in-Err-clause-pass
returns-in-Err-clause-pass g c = look_pass c.args.self.now c.args.pass.now c.turn.new.seats c.args.place c.requires.place c.requires.pass c.in-Err.ensures.seats (record { 0 = c.args.id }) (Err c.in-Err.fault) c.in-Err.ensures.turn
