use Rattle.std.proofs.Common.{◌≡◌, ◌∙◌, [], ◌++◌, ◌+◌, None, sym, ap, subst}
use Rattle.script_text.proofs.Known.{appends_more, appends_nil}
use Rattle.world_script.specs.Script.{script_output, script_step, outputs, behind}
use Rattle.world_script.proofs.ScriptLines.{IsBehind, line_goes, ended_by, behind_none, behind_more, runs_out}
use Rattle.world_script.proofs.script.run_lines.Goals as goal

pub loop-line-preserved : goal.loop-line-preserved
loop-line-preserved g c =
    let (done, app, is, far) = c.loop-line.invariant in
    let (text, goes, wrote) = c.in-Ok.ensures in
    let taken : c.loop-line.lines.taken + 1 ≡ c.next_line.new.self.taken = sym (c.in-Some.ensures.number.1 ∙ c.in-Some.ensures.number.0) in (
      done ++ text,
      appends_more (g.W.Write.contents c.args.writer.now) (g.W.Write.contents c.loop-line.writer) (g.W.Write.contents c.write_line.new.writer) done text app wrote,
      line_goes (script_output c.args.script.now) done text c.in-Some.line.text.now c.next_line.new.self.lines c.loop-line.lines.lines c.loop-line.lines.taken c.loop-line.state c.write_line.new.state c.in-Some.ensures.lines is goes
          ∙ ap (λ t. behind (done ++ text) (outputs script_step c.next_line.new.self.lines t c.write_line.new.state)) taken,
      subst (λ t. IsBehind c.args.script.now (done ++ text) c.next_line.new.self.lines t c.write_line.new.state) taken
          (behind_more c.args.script.now done text c.in-Some.line.text.now c.next_line.new.self.lines c.loop-line.lines.lines c.loop-line.lines.taken c.loop-line.state c.write_line.new.state c.in-Some.ensures.lines goes far),
    )

pub returns-in-Err-clause-memory : goal.returns-in-Err-clause-memory
returns-in-Err-clause-memory g c =
    let (done, app, is, far) = c.loop-line.invariant in
    runs_out c.args.script.now done c.in-Some.line.text.now c.next_line.new.self.lines c.loop-line.lines.lines c.loop-line.lines.taken c.in-Some.line.number c.loop-line.state c.write_line.new.state
    (g.W.Write.contents c.args.writer.now) (g.W.Write.contents c.loop-line.writer) (g.W.Write.contents c.write_line.new.writer) c.in-Err.fault c.in-Some.ensures.lines c.in-Some.ensures.number.0 far app c.in-Err.ensures

pub returns-in-Err-clause-wrote : goal.returns-in-Err-clause-wrote
returns-in-Err-clause-wrote g c =
    let (done, app, is, far) = c.loop-line.invariant in
    ended_by c.args.script.now (g.W.Write.contents c.args.writer.now) (g.W.Write.contents c.loop-line.writer) (g.W.Write.contents c.write_line.new.writer) done c.in-Some.line.text.now c.next_line.new.self.lines
    c.loop-line.lines.lines c.loop-line.lines.taken c.in-Some.line.number c.loop-line.state c.write_line.new.state c.in-Err.fault app is c.in-Some.ensures.lines c.in-Some.ensures.number.0 c.in-Err.ensures

pub loop-line-init : goal.loop-line-init
loop-line-init g c =
    let lines = c.new-lines.ensures.lines in
    let taken = c.new-lines.ensures.taken in (
      [],
      appends_nil (g.W.Write.contents c.args.writer.now),
      sym (λ i. behind [] (outputs script_step (lines i) (taken i) None)),
      subst (λ t. IsBehind c.args.script.now [] c.new-lines.result.lines t None) (sym taken)
          (subst (λ ls. IsBehind c.args.script.now [] ls 0 None) (sym lines) (behind_none c.args.script.now)),
    )
