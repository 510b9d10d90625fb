use Rattle.std.proofs.Common.{subst}
use Rattle.world_core.specs.Sound.{IsSound}
use Rattle.world_core.proofs.Messages.{applied_holds, lost_of}
use Rattle.world_core.proofs.Serving.{applied_serves}
use Rattle.world_core.proofs.world.World.apply.Goals as goal

pub returns : goal.returns
returns c =
    let a = c.carry_out.ensures.applies in
    record {
      holds = applied_holds c.args.self.now c.carry_out.new.self c.args.event c.carry_out.result (subst IsSound c.self.view_is c.self.invariant.sound) a;
      serves = applied_serves c.args.self.now c.carry_out.new.self c.args.event c.carry_out.result (subst IsSound c.self.view_is c.self.invariant.sound) a;
      steps = a.steps;
      tells = a.tells;
      refused = a.refused;
      lost = lost_of c.args.self.now c.args.event c.carry_out.result c.carry_out.ensures.lost;
      unchanged = a.unchanged;
    }
