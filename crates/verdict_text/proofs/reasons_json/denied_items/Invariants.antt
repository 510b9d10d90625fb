use Rattle.std.proofs.Common.{◌≡◌, ◌++◌, drop, map}
use Rattle.std.specs.List.{flat_map}
use Rattle.serde_json.specs.View.{view}
use Rattle.verdict_text.specs.Reasons as spec
use Rattle.verdict_text.proofs.reasons_json.denied_items.Given as goal

-- the items so far, and what the rest gives, are the whole
abbrev pub invariant-loop-reason : goal.invariant-loop-reason
invariant-loop-reason l = map view l.items.items ++ flat_map (spec.denied_items l.rules) (drop l.reason-index l.reasons) ≡ flat_map (spec.denied_items l.rules) l.reasons
