use Rattle.place_core.proofs.Padding.{padded_push}
use Rattle.place_core.proofs.acting_sets.ActingSet.push.Goals as goal

pub invariant_of-self : goal.invariant_of-self
invariant_of-self c = rw (c.from.ensures) (padded_push c.self.inside c.args.daemon c.self.invariant (rw (c.self.view_is) c.requires.room) (rw (c.self.view_is) c.requires.other))
