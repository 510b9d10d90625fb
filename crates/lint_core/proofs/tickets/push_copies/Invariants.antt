use Rattle.std.proofs.Common.{◌≡◌, ◌++◌, take}
use Rattle.lint_core.proofs.tickets.push_copies.Given as goal

-- copies of the grants so far are added
abbrev pub invariant-loop-grant : goal.invariant-loop-grant
invariant-loop-grant l = l.copies.items ≡ l.initial.copies.items ++ take l.grant-index l.grants
