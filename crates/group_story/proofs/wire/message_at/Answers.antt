use Rattle.std.proofs.Common.{arith}
use Rattle.std.proofs.lemmas.Grind.{elements}
use Rattle.group_story.proofs.wire.message_at.Goals as goal

pub returns-in-None-get : goal.returns-in-None-get
returns-in-None-get c = grind (arith, elements)

pub returns-in_ok-copy-in-Some-get : goal.returns-in_ok-copy-in-Some-get
returns-in_ok-copy-in-Some-get c = grind (arith, elements)
