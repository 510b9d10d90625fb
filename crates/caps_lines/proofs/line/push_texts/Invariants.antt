use Rattle.std.proofs.Common.{◌≡◌, ◌++◌, string_bytes, drop}
use Rattle.caps_lines.specs.Lines.{text_words}
use Rattle.caps_lines.specs.Shell.{more_words}
use Rattle.caps_lines.proofs.line.push_texts.Given as goal

-- what is written, and what the rest gives, is the whole
abbrev pub invariant-loop-one : goal.invariant-loop-one
invariant-loop-one l =
    string_bytes l.line ++ more_words (text_words (drop l.one-index l.texts)) ≡ string_bytes l.initial.line ++ more_words (text_words l.texts)
