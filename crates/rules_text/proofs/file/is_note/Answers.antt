use Rattle.std.proofs.lemmas.List.Sums.{prefix_len-le-length}
use Rattle.rules_words.specs.Words.{is_blank}
use Rattle.rules_text.proofs.file.is_note.Goals as goal

pub split_at-requires : goal.split_at-requires
split_at-requires c = rw c.blanks_len.ensures (prefix_len-le-length is_blank c.args.line.now)
