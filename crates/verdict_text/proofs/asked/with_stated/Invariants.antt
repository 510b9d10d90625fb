use Rattle.std.proofs.Common.{◌≡◌, ◌++◌, drop}
use Rattle.verdict_text.proofs.asked.with_stated.Given as goal

-- what is there, and what the rest gives, is the whole
abbrev pub invariant-loop-call : goal.invariant-loop-call
invariant-loop-call l = l.all.items ++ drop l.call-index l.stated ≡ l.initial.all.items ++ l.stated
