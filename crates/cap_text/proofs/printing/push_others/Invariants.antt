use Rattle.std.proofs.Common.{◌≡◌, ◌++◌, codes, string_bytes, take}
use Rattle.std.specs.List.{flat_map}
use Rattle.cap_text.specs.Printed.{printed_grant}
use Rattle.cap_text.proofs.printing.push_others.Given as goal

abbrev pub invariant-loop-grant : goal.invariant-loop-grant
invariant-loop-grant l =
    string_bytes l.text ≡ string_bytes l.fn.text ++ flat_map (λ g. codes ", " ++ printed_grant g) (take l.grant-index l.grants)
