use Rattle.std.proofs.Common.{◌≡◌, ◌++◌, string_bytes, drop}
use Rattle.std.specs.List.{flat_map}
use Rattle.share_text.specs.Texts.{shared_line}
use Rattle.share_text.proofs.texts.push_kind.Given as goal

-- what is written, and what the rest gives, is the whole
abbrev pub invariant-loop-shared : goal.invariant-loop-shared
invariant-loop-shared l =
    string_bytes l.text ++ flat_map (shared_line l.kind) (drop l.shared-index l.examples) ≡ string_bytes l.initial.text ++ flat_map (shared_line l.kind) l.examples
