use Rattle.script_text.proofs.FirstLines.{trimmed_end, trimmed_none, last_place}
use Rattle.script_text.proofs.lines.trimmed.Goals as goal

pub returns-then-line-last-eq13 : goal.returns-then-line-last-eq13
returns-then-line-last-eq13 c =
    trimmed_end c.args.line.now _ (last_place _ _ c.is_empty.ensures c.if-is_empty.false) c.if-line-last-eq13.true

pub returns-else-line-last-eq13 : goal.returns-else-line-last-eq13
returns-else-line-last-eq13 c =
    trimmed_none c.args.line.now _ (last_place _ _ c.is_empty.ensures c.if-is_empty.false) c.if-line-last-eq13.false
