use Rattle.std.proofs.Common.{◌≡◌, ℕ, List, length}
use Rattle.std.specs.Io.KnownBytes.{Appends}
use Rattle.world_script.specs.Script.{script_output, script_step, outputs, behind}
use Rattle.world_script.proofs.ScriptLines.{IsBehind}
use Rattle.world_script.proofs.script.run_lines.Given as goal

abbrev pub invariant-loop-line : goal.invariant-loop-line
invariant-loop-line g l = (done : List ℕ) × Appends (g.W.Write.contents l.initial.writer) (g.W.Write.contents l.writer) done
    × (script_output l.script ≡ behind done (outputs script_step l.lines.lines l.lines.taken l.state))
    × IsBehind l.script done l.lines.lines l.lines.taken l.state

abbrev pub decreases-loop-line : goal.decreases-loop-line
decreases-loop-line g l = length l.lines.lines
