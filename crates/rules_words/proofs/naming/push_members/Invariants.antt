use Rattle.std.proofs.Common.{◌≡◌, ◌++◌, take}
use Rattle.rules_words.proofs.naming.push_members.Given as goal

-- the members so far are added
abbrev pub invariant-loop-member : goal.invariant-loop-member
invariant-loop-member l = l.names.items ≡ l.initial.names.items ++ take l.member-index l.members
