use Rattle.std.proofs.Common.{string_bytes}
use Rattle.world_core.specs.World.{refusal_of}
use Rattle.world_script.proofs.Sweeps.{not_memory}
use Rattle.world_script.proofs.ScriptLines.{on_ok, refused_does}
use Rattle.world_script.proofs.machine.happen.Goals as goal

pub returns-in_default : goal.returns-in_default
returns-in_default c tick =
    on_ok c.push_refused.result
    (refused_does tick c.args.world.now c.apply.new.self c.args.event c.in-Err.fault (string_bytes c.args.text.now) (string_bytes c.push_refused.new.text)
    (not_memory c.in-Err.fault (refusal_of c.args.world.now c.args.event) c.in_default.not-OutOfMemory c.in-Err.ensures.refused) c.in-Err.ensures.steps c.in-Err.ensures.unchanged)
    c.push_refused.ensures
