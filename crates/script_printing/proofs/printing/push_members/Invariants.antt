use Rattle.std.proofs.Common.{◌≡◌, ◌++◌, codes, decimal, flat_map, string_bytes, take}
use Rattle.script_printing.proofs.printing.push_members.Given as goal

abbrev pub invariant-loop-member : goal.invariant-loop-member
invariant-loop-member l = string_bytes l.text ≡ string_bytes l.initial.text ++ flat_map (λ member. codes " " ++ decimal member) (take l.member-index l.members)
