use Rattle.std.proofs.Common.{ℕ, List, drop, get_or, sym, ap, ◌∙◌, rules}
use Rattle.std.specs.List.{prefix_len}
use Rattle.std.proofs.lemmas.List.Sums.{prefix_len-le-length}
use Rattle.rules_words.specs.Words.{is_blank}
use Rattle.rules_words.proofs.FirstWords.{bare_begins, behind_all_blanks, only_blanks}
use Rattle.rules_words.proofs.words.first_word.Goals as goal

pub cut-requires-clause-within : goal.cut-requires-clause-within
cut-requires-clause-within c =
    rw (c.blanks_len.ensures, c.as_bytes.ensures.value) (prefix_len-le-length is_blank c.args.text.now)

pub returns-then-is_empty : goal.returns-then-is_empty
returns-then-is_empty c =
    let back = c.cut.ensures.back ∙ ap (λ n. drop n c.args.text.now)
    (c.blanks_len.ensures ∙ ap (prefix_len is_blank) c.as_bytes.ensures.value) in
    only_blanks c.args.text.now c.cut.result.1.now back (search rules)

pub bare_word-requires-clause-bare : goal.bare_word-requires-clause-bare
bare_word-requires-clause-bare c =
    let back = c.cut.ensures.back ∙ ap (λ n. drop n c.args.text.now)
    (c.blanks_len.ensures ∙ ap (prefix_len is_blank) c.as_bytes.ensures.value) in
    let first = ap (λ (xs : List ℕ). get_or xs 0 0) c.as_bytes-2.ensures.value in
    bare_begins c.args.text.now c.cut.result.1.now _ back (search rules) first
    (sym c.is_quote.ensures ∙ c.if-is_quote.false)

pub returns-then-is_quote : goal.returns-then-is_quote
returns-then-is_quote c =
    let back = c.cut.ensures.back ∙ ap (λ n. drop n c.args.text.now)
    (c.blanks_len.ensures ∙ ap (prefix_len is_blank) c.as_bytes.ensures.value) in
    behind_all_blanks c.args.size c.args.text.now c.cut.result.1.now _ back c.quoted_word.ensures

pub returns-else-is_quote : goal.returns-else-is_quote
returns-else-is_quote c =
    let back = c.cut.ensures.back ∙ ap (λ n. drop n c.args.text.now)
    (c.blanks_len.ensures ∙ ap (prefix_len is_blank) c.as_bytes.ensures.value) in
    behind_all_blanks c.args.size c.args.text.now c.cut.result.1.now _ back c.bare_word.ensures
