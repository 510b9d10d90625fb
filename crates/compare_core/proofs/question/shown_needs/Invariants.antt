use Rattle.std.proofs.Common.{◌≡◌, false, take}
use Rattle.std.specs.List.{list_any}
use Rattle.compare_core.specs.Questions.{shows}
use Rattle.compare_core.proofs.question.shown_needs.Given as goal

-- none of the needs so far shows anything
abbrev pub invariant-loop-needs : goal.invariant-loop-needs
invariant-loop-needs l = list_any (shows l.old.grants l.new l.target) (take l.needs-index l.questions) ≡ false
