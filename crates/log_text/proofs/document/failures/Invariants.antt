use Rattle.std.proofs.Common.{◌≡◌, false, length}
use Rattle.serde_json.specs.View.{items_view}
use Rattle.serde_json.specs.Written.{items_have_float}
use Rattle.log_text.proofs.document.failures.Given as goal

-- no float so far
abbrev pub invariant-loop-entry : goal.invariant-loop-entry
invariant-loop-entry l = items_have_float (items_view l.items.items) ≡ false

abbrev pub decreases-loop-entry : goal.decreases-loop-entry
decreases-loop-entry l = length l.entries
