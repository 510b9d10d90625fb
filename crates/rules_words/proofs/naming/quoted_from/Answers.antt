use Rattle.std.proofs.lemmas.List.Sums.{prefix_len-le-length}
use Rattle.rules_words.specs.Naming.{is_named}
use Rattle.rules_words.proofs.naming.quoted_from.Goals as goal

pub split_at-requires : goal.split_at-requires
split_at-requires c = rw c.named_len.ensures (prefix_len-le-length is_named c.args.words.now)
