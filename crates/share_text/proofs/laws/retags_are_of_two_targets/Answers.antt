use Rattle.share_text.proofs.Untagged.{retags_are_of_two}
use Rattle.share_text.proofs.laws.retags_are_of_two_targets.Goals as goal

pub returns : goal.returns
returns c = retags_are_of_two
