use Rattle.std.proofs.lemmas.List.Sums.{prefix_len-le-length}
use Rattle.rules_words.specs.Naming.{is_other}
use Rattle.rules_words.proofs.naming.at_except.Goals as goal

pub split_at-requires : goal.split_at-requires
split_at-requires c = rw c.others_len.ensures (prefix_len-le-length is_other c.args.words.now)
