use Rattle.std.proofs.Common.{sym, ap, ◌∙◌}
use Rattle.script_text.specs.Lines.{LinesLeft}
use Rattle.script_text.proofs.FirstLines.{lines_cut, not_empty}
use Rattle.script_text.proofs.lines.Lines.next_line.Goals as goal

pub returns-clause-lines : goal.returns-clause-lines
returns-clause-lines c =
    rw (c.trimmed.ensures, c.cut_line.ensures.line, c.cut_line.ensures.rest)
    (sym (ap (λ (v : LinesLeft). v.lines) c.self.view_is) ∙ lines_cut c.self.inside.rest.now (not_empty _ _ c.is_empty.ensures c.if-is_empty.false))
