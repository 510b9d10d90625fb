use Rattle.std.proofs.Common.{◌+◌, List, Result, length}
use Rattle.rules_text.specs.File.{AreLines, IsFile}
use Rattle.rules_text.specs.declared.fault.BadRule.{BadRule}
use Rattle.rules_text.specs.declared.file.RuleLine.{RuleLine}
use Rattle.rules_text.proofs.file.read_rules.Given as goal

-- whatever the lines that are left give is what the file gives
abbrev pub invariant-loop-line : goal.invariant-loop-line
invariant-loop-line l =
    (result : Result (List RuleLine) BadRule) → AreLines l.reader l.entities (l.lines.taken + 1) l.contents.groups.items l.contents.rules.items l.lines.lines result
    → IsFile l.reader l.entities l.text result

abbrev pub decreases-loop-line : goal.decreases-loop-line
decreases-loop-line l = length l.lines.lines
