use Rattle.cap_text.proofs.SpelledGrants.{spelled_is_spellable}
use Rattle.cap_text.proofs.spellable.spelled_is_spellable.Goals as goal

pub returns : goal.returns
returns c = spelled_is_spellable
