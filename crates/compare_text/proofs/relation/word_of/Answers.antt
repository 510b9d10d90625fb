use Rattle.std.proofs.Common.{rules}
use Rattle.compare_text.proofs.relation.word_of.Goals as goal

pub returns-in-Gone-default : goal.returns-in-Gone-default
returns-in-Gone-default c = search rules
