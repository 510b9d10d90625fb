-- Statement: contracts of public calls use it.
-- A law of the published map.
use Rattle.std.specs.Prelude.{◌≡◌, ℕ, List, Some}
use mathlib.Core.Option.{some}
use lib.ListN.{get_elem?}
use Rattle.map_core.specs.State.{History, GoesOn}
use Rattle.published_map.specs.declared.published.Knowledge.{Knowledge}
use Rattle.published_map.specs.Published.{CoversAll}

-- while the rule of the published map holds, what a reader saw last is a beginning of what is published
abbrev pub SeenWasPublished : Type 0
SeenWasPublished = (published : History) (views : List Knowledge) → CoversAll published views
    → (seat : ℕ) (v : Knowledge) → get_elem? views seat ≡ some v → (seen : History) → v.seen ≡ Some seen → GoesOn published seen
