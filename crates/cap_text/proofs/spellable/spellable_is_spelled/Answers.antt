use Rattle.cap_text.proofs.PrintedGrants.{spellable_is_spelled}
use Rattle.cap_text.proofs.spellable.spellable_is_spelled.Goals as goal

pub returns : goal.returns
returns c = spellable_is_spelled
