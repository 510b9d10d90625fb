use Rattle.world_script.proofs.ScriptLines.{line_ended}
use Rattle.std.proofs.Common.{string_bytes}
use Rattle.world_script.proofs.line.write_line.Goals as goal

pub returns : goal.returns
returns g c =
    line_ended c.args.state.now c.args.line.now.text.now c.args.line.now.number c.run_line-ended.new.state (g.W.Write.contents c.args.writer.now) (g.W.Write.contents c.end_line.new.writer) c.run_line-ended.result c.end_line.result
    (string_bytes c.new-text.result) (string_bytes c.run_line-ended.new.text) c.as_str.result.now c.run_line-ended.ensures.goes c.run_line-ended.ensures.fault c.new-text.ensures.bytes c.as_str.ensures.value c.end_line.ensures
