use Rattle.std.proofs.Common.{◌≡◌, ◌++◌, string_bytes, drop}
use Rattle.std.specs.List.{flat_map}
use Rattle.verdict_text.specs.Documents.{piece}
use Rattle.audit_text.specs.Json.{reached_document}
use Rattle.audit_text.specs.declared.reached.Reached.{Reached}
use Rattle.audit_text.proofs.json.reached_pieces.Given as goal

-- what is written, and what the rest gives, is the whole
abbrev pub invariant-loop-one : goal.invariant-loop-one
invariant-loop-one l =
    string_bytes l.text ++ flat_map (λ (one : Reached). piece (reached_document one)) (drop l.one-index l.all) ≡ string_bytes l.initial.text ++ flat_map (λ (one : Reached). piece (reached_document one)) l.all
