use Rattle.std.proofs.Common.{◌≡◌, map, take}
use Rattle.serde_json.specs.View.{view}
use Rattle.rules_text.specs.Json.{found_document}
use Rattle.rules_text.proofs.json.founds_value.Given as goal

-- the items of what is found so far
abbrev pub invariant-loop-found : goal.invariant-loop-found
invariant-loop-found l = map view l.items.items ≡ map (found_document l.entities) (take l.found-index l.founds)
