use Rattle.std.proofs.Common.{option_copied, take}
use Rattle.rules_text.specs.Checked.{AreChecked}
use Rattle.rules_text.proofs.checked.outcomes_of.Given as goal

-- the rules so far
abbrev pub invariant-loop-line : goal.invariant-loop-line
invariant-loop-line g l = AreChecked (option_copied l.pools) l.entities (take l.line-index l.rules) l.all.items
