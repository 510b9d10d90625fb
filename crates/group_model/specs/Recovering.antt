-- Statement: contracts of public calls use it.
-- Recovery by hand (this project's profile): when a kick gets every request answered in a group that lost its messages.
use Rattle.std.specs.Prelude.{ℕ, ◌≤◌, ◌<◌, [], length}
use Rattle.group_model_whole.specs.ActingSets.{set_of}
use Rattle.group_model_whole.specs.Recovering.{HasUp}
use Rattle.group_model.specs.Group.{Group, last_set, kick}
use Rattle.group_model.specs.Budget.{budget, settle_count}
use Rattle.group_model.specs.Recovery.{greatest_base}
use Rattle.group_model.specs.Quiet.{IsServed}

-- the last set has at least min_size members, and each earlier one that has them too, from the greatest base of a copy that is up, has a member that is up
pub record IsReady (g : Group) : Type 0 where
  pub members : g.min_size ≤ length (last_set g.sets)
  pub intervals : (j : ℕ) → 1 ≤ j → greatest_base g.up g.copies ≤ j → j < length g.sets → g.min_size ≤ length (set_of g.sets j) → HasUp g.up (set_of g.sets j)

-- every message is lost
abbrev pub lost_all : Group → Group
lost_all g = record g { wire = [] }

-- where every message is lost and then it is kicked, settling answers every request and empties the wire, in at most as many deliveries as the budget
pub record Recovers (g : Group) : Type 0 where
  pub served : IsServed (kick (lost_all g))
  pub few : settle_count (kick (lost_all g)) ≤ budget (kick (lost_all g))
