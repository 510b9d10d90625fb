use Rattle.std.proofs.Common.{◌∙◌, sym, ap}
use Rattle.entry_core.proofs.Places.{in_front, is_below}
use Rattle.entry_core.proofs.log.Log.is_before.Goals as goal

pub returns-in-None : goal.returns-in-None
returns-in-None c = sym (in_front c.args.self.now c.args.kept c.args.id ∙ ap (is_below c.args.kept) (sym c.place_of.ensures.place ∙ c.in-None.is))

pub returns-in-Some : goal.returns-in-Some
returns-in-Some c = sym (in_front c.args.self.now c.args.kept c.args.id ∙ ap (is_below c.args.kept) (sym c.place_of.ensures.place ∙ c.in-Some.is))
