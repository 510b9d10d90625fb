use Rattle.std.proofs.Common.{◌≡◌, ◌++◌, string_bytes, length}
use denote.Text.{Utf8}
use denote.Shadow.{shadow}
use Rattle.std.specs.List.{flat_map}
use Rattle.caps_lines.specs.Shell.{marked}
use Rattle.caps_lines.proofs.words.push_marked.Given as goal

-- what is written, and what the rest gives, is the whole
abbrev pub invariant-loop-front : goal.invariant-loop-front
invariant-loop-front l =
    shadow (Utf8 l.rest) × (string_bytes l.line ++ flat_map marked l.rest ≡ string_bytes l.initial.line ++ flat_map marked l.initial.rest)

-- the rest gets shorter
abbrev pub decreases-loop-front : goal.decreases-loop-front
decreases-loop-front l = length l.rest
