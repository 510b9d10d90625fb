use Rattle.std.proofs.Common.{◌≡◌, ◌++◌, string_bytes, drop}
use Rattle.std.specs.List.{flat_map}
use Rattle.compare_text.specs.Request.{tag_words}
use Rattle.compare_text.proofs.request.push_tags.Given as goal

-- what is written, and what the rest gives, is the whole
abbrev pub invariant-loop-app : goal.invariant-loop-app
invariant-loop-app l =
    string_bytes l.line ++ flat_map tag_words (drop l.app-index l.tags) ≡ string_bytes l.initial.line ++ flat_map tag_words l.tags
