-- Statement: contracts of public calls use it.
-- What holds of every map: each command was one that nothing refused.
use Rattle.std.specs.Prelude.{◌≡◌, ⊤, ℕ, ◌+◌, List, [], ◌∷◌, None}
use Rattle.map_core.specs.State.{MapState, History}
use Rattle.map_core.specs.Map.{initial, after}
use Rattle.map_core.specs.Refusal.{refusal}
use Rattle.map_core.specs.declared.command.MapCommand.{MapCommand}

-- from a state and an epoch on, nothing refuses a command where it stands
abbrev pub AcceptedFrom : MapState → ℕ → List MapCommand → Type 0
AcceptedFrom state epoch [] = ⊤
AcceptedFrom state epoch (command ∷ commands) = (refusal state epoch command ≡ None) × AcceptedFrom (after state command) (epoch + 1) commands

abbrev pub IsAccepted : History → Type 0
IsAccepted history = AcceptedFrom (initial history.daemons) 1 history.commands
