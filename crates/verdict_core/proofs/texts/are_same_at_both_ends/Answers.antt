use Rattle.std.proofs.Common.{◌-◌, length}
use Rattle.verdict_core.proofs.Ends.{first_tell, last_tell}
use Rattle.verdict_core.proofs.texts.are_same_at_both_ends.Goals as goal

pub returns-then-are_same_words : goal.returns-then-are_same_words
returns-then-are_same_words g c =
    first_tell g.row.N c.args.left.now c.args.right.now c.are_same_words.result c.are_same_words-then-are_same_words.result c.requires.covered.1 c.are_same_words.ensures c.are_same_words-then-are_same_words.ensures c.if-are_same_words.true

pub returns-else-are_same_words : goal.returns-else-are_same_words
returns-else-are_same_words g c =
    last_tell (length c.args.right.now - g.row.N) c.args.left.now c.args.right.now c.are_same_words.result c.are_same_words.ensures c.if-are_same_words.false
