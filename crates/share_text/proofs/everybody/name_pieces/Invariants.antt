use Rattle.std.proofs.Common.{◌≡◌, ◌++◌, drop, map, string_bytes}
use Rattle.std.specs.List.{flat_map}
use Rattle.serde_json.specs.Data.{string}
use Rattle.verdict_text.specs.Documents.{piece}
use Rattle.share_text.proofs.everybody.name_pieces.Given as goal

-- what is written, and what the rest gives, is the whole
abbrev pub invariant-loop-name : goal.invariant-loop-name
invariant-loop-name l =
    string_bytes l.pieces ++ flat_map (λ name. piece (string name)) (map (λ name. name.now) (drop l.name-index l.names)) ≡ flat_map (λ name. piece (string name)) (map (λ name. name.now) l.names)
