use Rattle.std.proofs.Common.{◌≡◌, ◌++◌, string_bytes, length}
use denote.Text.{Utf8}
use denote.Shadow.{shadow}
use Rattle.std.specs.List.{flat_map}
use Rattle.audit_text.specs.Csv.{doubled}
use Rattle.audit_text.proofs.csv.push_doubled.Given as goal

-- what is written, and what the rest gives, is the whole
abbrev pub invariant-loop-front : goal.invariant-loop-front
invariant-loop-front l =
    shadow (Utf8 l.rest) × (string_bytes l.text ++ flat_map doubled l.rest ≡ string_bytes l.initial.text ++ flat_map doubled l.initial.rest)

-- the rest gets shorter
abbrev pub decreases-loop-front : goal.decreases-loop-front
decreases-loop-front l = length l.rest
