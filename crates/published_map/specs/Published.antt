-- Statement: contracts of public calls use it.
-- The published map, and what its readers and its writer know of it.
use Rattle.std.specs.Prelude.{◌≡◌, ℕ, List, [], ◌∷◌, ◌++◌, Option, Some, None}
use mathlib.Core.Option.{some}
use lib.ListN.{get_elem?}
use Rattle.map_core.specs.State.{History, GoesOn}
use Rattle.map_core.specs.declared.command.MapCommand.{MapCommand}
use Rattle.published_map.specs.declared.published.Knowledge.{Knowledge}

abbrev pub with_command : History → MapCommand → History
with_command map command = record map { commands = map.commands ++ command ∷ [] }

abbrev pub with_commands : History → List MapCommand → History
with_commands map commands = record map { commands = map.commands ++ commands }

-- the map goes on from the one that was seen, if one was
abbrev pub GoesOnFrom : History → Option History → Type 0
GoesOnFrom map None = Unit {0}
GoesOnFrom map (Some seen) = GoesOn map seen

-- what is seen later goes on from what was seen before
abbrev pub SeesNoLess : Option History → Option History → Type 0
SeesNoLess later None = Unit {0}
SeesNoLess None (Some seen) = ⊥
SeesNoLess (Some map) (Some seen) = GoesOn map seen

-- the map goes on from what was seen, and from what was reported
abbrev pub Covers : History → Knowledge → Type 0
Covers map v = GoesOnFrom map v.seen × GoesOnFrom map v.told

-- the published map covers what each reader and the writer know
abbrev pub CoversAll : History → List Knowledge → Type 0
CoversAll map views = (seat : ℕ) (v : Knowledge) → get_elem? views seat ≡ some v → Covers map v

-- the published map covers what was known, and is what is seen afterwards
abbrev pub Sees : History → Knowledge → Knowledge → Type 0
Sees map v w = GoesOnFrom map v.seen × GoesOnFrom map v.told × (w.seen ≡ Some map) × (w.told ≡ None)

abbrev pub nothing_known : Knowledge
nothing_known = record { seen = None; told = None }

-- who was told what another had seen
abbrev pub informed : Knowledge → Knowledge → Knowledge
informed v w = record { seen = v.seen; told = w.seen }

-- an answer by a map that covers what was known and was then seen; no answer where nothing was seen
abbrev pub AnswersBy : {A : Type 0} → (History → A → Type 0) → Option A → Knowledge → Knowledge → Type 0
AnswersBy P None v w = w ≡ v
AnswersBy P (Some answer) v w = (map : History) × P map answer × Sees map v w

-- whoever knows `later` sees no less than who knew `before`
pub record KnowsAll (later before : Knowledge) : Type 0 where
  pub covers : (map : History) → Covers map later → Covers map before
