use Rattle.std.proofs.Common.{sym, ap, ◌∙◌}
use Rattle.std.specs.List.{prefix_len}
use Rattle.std.proofs.lemmas.List.Sums.{prefix_len-le-length}
use Rattle.script_text.specs.Inside.{is_bare}
use Rattle.script_text.proofs.Cursor.{bare_rest}
use Rattle.script_text.proofs.words.bare_word.Goals as goal

pub cut-requires-clause-within : goal.cut-requires-clause-within
cut-requires-clause-within c = rw (c.bare_len.ensures, c.as_bytes.ensures.value) (prefix_len-le-length is_bare c.args.text.now)

pub returns-clause-words : goal.returns-clause-words
returns-clause-words c =
    let len = c.bare_len.ensures ∙ ap (prefix_len is_bare) c.as_bytes.ensures.value in
    rw (c.ended.ensures.words, c.cut.ensures.front, c.cut.ensures.back, len) (sym (bare_rest c.args.text.now))
