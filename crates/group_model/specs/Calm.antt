-- Statement: contracts of public calls use it.
-- A calm group: it stays in one interval, while daemons outside of its set come, go and restart.
use Rattle.std.specs.Prelude.{ℕ, ◌≡◌, List, []}
use Rattle.store_core.specs.declared.sealed.GroupId.{GroupId}
use Rattle.group_model_whole.specs.Calm.{OnlyCalm}
use Rattle.group_model.specs.Group.{Group, Event, run, start}
use Rattle.group_model.specs.Budget.{settled_group}

-- once it settled nothing was answered, nothing was decided, and nothing is on its way
pub record IsUnserved (g : Group) : Type 0 where
  pub unanswered : (settled_group g).answers ≡ []
  pub undecided : (settled_group g).audit ≡ []
  pub empty : (settled_group g).wire ≡ []

-- calm events make the group from a beginning with that set
pub record IsCalmGroup (min_size count : ℕ) (acting up : List ℕ) (g : Group) : Type 0 where
  pub group : GroupId
  pub events : List Event
  pub calm : OnlyCalm acting events
  pub is : run events (start group min_size count acting up) ≡ g
