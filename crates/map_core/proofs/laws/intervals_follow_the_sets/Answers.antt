use Rattle.map_core.proofs.Kept.{commands_begin_intervals as law_one, present_set_is_last as law_last, others_leave_sets as law_others}
use Rattle.map_core.proofs.laws.intervals_follow_the_sets.Goals as goal

pub returns-clause-one : goal.returns-clause-one
returns-clause-one c = law_one

pub returns-clause-last : goal.returns-clause-last
returns-clause-last c = law_last

pub returns-clause-others : goal.returns-clause-others
returns-clause-others c = law_others
