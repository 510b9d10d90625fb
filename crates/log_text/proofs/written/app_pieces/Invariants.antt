use Rattle.std.proofs.Common.{◌≡◌, ◌++◌, string_bytes, drop}
use Rattle.std.specs.List.{flat_map}
use Rattle.log_text.specs.Decision.{app_piece}
use Rattle.log_text.proofs.written.app_pieces.Given as goal

-- what is written, and what the rest gives, is the whole
abbrev pub invariant-loop-app : goal.invariant-loop-app
invariant-loop-app l =
    string_bytes l.text ++ flat_map app_piece (drop l.app-index l.tags) ≡ string_bytes l.initial.text ++ flat_map app_piece l.tags
