use Rattle.std.proofs.Common.{length}
use Rattle.compare_text.specs.Deciding.{AreBefore, DecideFor}
use Rattle.compare_text.proofs.widening.examples_of.Given as goal

-- the examples so far go before those of the rest, for which the samples decide
abbrev pub invariant-loop-entry : goal.invariant-loop-entry
invariant-loop-entry l = record {
  before : AreBefore l.registry l.addressed l.old.grants l.new.grants l.entries l.examples.items;
  decide : DecideFor l.addressed l.old.grants l.entries l.samples;
}

abbrev pub decreases-loop-entry : goal.decreases-loop-entry
decreases-loop-entry l = length l.entries
