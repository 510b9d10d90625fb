-- Statement: contracts of public calls use it.
-- Recovery by hand (this project's profile): whether a kick gets every request answered in a group that lost its messages.
use Rattle.std.specs.Prelude.{ℕ, ◌-◌, Bool, not, ◌&&◌, nat_lt, List, [], ◌∷◌, length, take, max, if◌then◌else◌}
use Rattle.entry_core.specs.Log.{is_in}
use Rattle.group_model_whole.specs.Choice.{covers}
use Rattle.group_model.specs.Types.{Daemon}
use Rattle.group_model.specs.Group.{Group, last_set}

-- the greatest base of a copy that is up, 0 where none is

abbrev pub base_if_up : List ℕ → Daemon → ℕ
base_if_up up c = if is_in up c.number then c.base else 0

abbrev pub greatest_base : List ℕ → List Daemon → ℕ
greatest_base up [] = 0
greatest_base up (c ∷ cs) = max (base_if_up up c) (greatest_base up cs)

-- the last set has at least min_size members, and each earlier one that has them too, from the greatest base of a copy that is up, has a member that is up
abbrev pub is_ready : Group → Bool
is_ready g =
    not (nat_lt (length (last_set g.sets)) g.min_size)
    && covers g.min_size (greatest_base g.up g.copies) (is_in g.up) 1 (take (length g.sets - 1) g.sets)
