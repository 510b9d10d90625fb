use Rattle.std.proofs.Common.{rules}
use Rattle.script_text.proofs.streams.end_line.Goals as goal

pub returns-in-Err-BadLine : goal.returns-in-Err-BadLine
returns-in-Err-BadLine g c = search rules
