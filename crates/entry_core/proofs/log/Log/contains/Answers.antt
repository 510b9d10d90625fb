use Rattle.std.proofs.Common.{◌∙◌, sym, ap, is_some}
use Rattle.entry_core.proofs.Places.{is_in-place}
use Rattle.entry_core.proofs.log.Log.contains.Goals as goal

pub returns : goal.returns
returns c = c.is_some.ensures ∙ ap is_some c.place_of.ensures.place ∙ sym (is_in-place c.args.self.now c.args.id)
