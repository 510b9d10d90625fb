use Rattle.std.proofs.Common.{ℕ, List, length, drop, get_or, sym, ap, ◌∙◌, rules, arith}
use Rattle.std.specs.List.{prefix_len}
use Rattle.std.proofs.lemmas.List.Sums.{prefix_len-le-length}
use Rattle.script_text.specs.Inside.{is_space}
use Rattle.script_text.proofs.Cursor.{no_word, at_quote, at_bare, bare_byte, not_empty, part_of, part_behind}
use Rattle.std.proofs.lemmas.Grind.{common_steps}
use Rattle.script_text.proofs.words.first_word.Goals as goal

pub cut-requires-clause-within : goal.cut-requires-clause-within
cut-requires-clause-within c = rw (c.spaces_len.ensures, c.as_bytes.ensures.value) (prefix_len-le-length is_space c.args.text.now)

pub returns-then-is_empty-clause-words : goal.returns-then-is_empty-clause-words
returns-then-is_empty-clause-words c =
    let back = c.cut.ensures.back ∙ ap (λ n. drop n c.args.text.now) (c.spaces_len.ensures ∙ ap (prefix_len is_space) c.as_bytes.ensures.value) in
    no_word c.args.text.now c.cut.result.1.now back (search rules)

pub returns-then-is_quote-clause-words : goal.returns-then-is_quote-clause-words
returns-then-is_quote-clause-words c =
    let back = c.cut.ensures.back ∙ ap (λ n. drop n c.args.text.now) (c.spaces_len.ensures ∙ ap (prefix_len is_space) c.as_bytes.ensures.value) in
    let some = not_empty (length c.cut.result.1.now) _ c.is_empty.ensures c.if-is_empty.false in
    let first = ap (λ (xs : List ℕ). get_or xs 0 0) c.as_bytes-2.ensures.value in
    let quote = sym c.is_quote.ensures ∙ c.if-is_quote.true in
    rw (c.quoted_word.ensures.words, c.cut-then-is_quote.ensures.back) (at_quote c.args.text.now c.cut.result.1.now _ back some first quote)

pub returns-then-is_quote-clause-rest : goal.returns-then-is_quote-clause-rest
returns-then-is_quote-clause-rest c =
    let some = not_empty (length c.cut.result.1.now) _ c.is_empty.ensures c.if-is_empty.false in
    part_behind c.args.text.now c.cut.result.1.now c.cut-then-is_quote.result.1.now _ _ _ c.requires c.cut.ensures.back c.cut-then-is_quote.ensures.back some c.quoted_word.ensures.rest

pub returns-else-is_quote-clause-rest : goal.returns-else-is_quote-clause-rest
returns-else-is_quote-clause-rest c =
    let back = c.cut.ensures.back ∙ ap (λ n. drop n c.args.text.now) (c.spaces_len.ensures ∙ ap (prefix_len is_space) c.as_bytes.ensures.value) in
    let some = not_empty (length c.cut.result.1.now) _ c.is_empty.ensures c.if-is_empty.false in
    let first = ap (λ (xs : List ℕ). get_or xs 0 0) c.as_bytes-2.ensures.value in
    let quote = sym c.is_quote.ensures ∙ c.if-is_quote.false in
    part_of c.args.text.now c.cut.result.1.now _ _ _ c.requires c.cut.ensures.back some (bare_byte c.args.text.now c.cut.result.1.now _ back some first quote) c.bare_word.ensures.rest

pub returns-else-is_quote-clause-words : goal.returns-else-is_quote-clause-words
returns-else-is_quote-clause-words c =
    let back = c.cut.ensures.back ∙ ap (λ n. drop n c.args.text.now) (c.spaces_len.ensures ∙ ap (prefix_len is_space) c.as_bytes.ensures.value) in
    let some = not_empty (length c.cut.result.1.now) _ c.is_empty.ensures c.if-is_empty.false in
    let first = ap (λ (xs : List ℕ). get_or xs 0 0) c.as_bytes-2.ensures.value in
    let quote = sym c.is_quote.ensures ∙ c.if-is_quote.false in
    rw (c.bare_word.ensures.words) (at_bare c.args.text.now c.cut.result.1.now _ back some first quote)

pub cut-requires-then-is_quote-clause-ascii : goal.cut-requires-then-is_quote-clause-ascii
cut-requires-then-is_quote-clause-ascii c = grind (arith, common_steps)
