use Rattle.std.proofs.Common.{◌≡◌, ◌++◌, drop, map}
use Rattle.compare_core.specs.Questions.{asks_one}
use Rattle.compare_core.proofs.question.push_calls.Given as goal

-- what is there, and what the rest gives, is the whole
abbrev pub invariant-loop-call : goal.invariant-loop-call
invariant-loop-call l =
    l.questions.items ++ map (asks_one l.reads l.writes) (drop l.call-index l.calls) ≡ l.initial.questions.items ++ map (asks_one l.reads l.writes) l.calls
