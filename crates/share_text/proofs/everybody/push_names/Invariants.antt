use Rattle.std.proofs.Common.{◌≡◌, ◌++◌, [], drop, map, string_bytes}
use denote.Shadow.{shadow}
use denote.Text.{Utf8}
use Rattle.share_text.specs.Everybody.{listed}
use Rattle.share_text.proofs.everybody.push_names.Given as goal

-- what is written, and what the rest gives, is the whole
abbrev pub invariant-loop-name : goal.invariant-loop-name
invariant-loop-name l =
    shadow (Utf8 l.words)
    × (string_bytes l.text ++ listed l.words (map (λ name. name.now) (drop l.name-index l.names)) ≡ string_bytes l.initial.text ++ listed [] (map (λ name. name.now) l.names))
