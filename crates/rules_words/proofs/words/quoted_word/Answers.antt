use Rattle.std.proofs.Common.{ℕ, List, length, drop, take, refl, sym, ap, subst, ◌∙◌, ◌<◌, arith}
use Rattle.std.specs.List.{prefix_len}
use Rattle.std.proofs.lemmas.List.Sums.{prefix_len-le-length}
use Rattle.std.proofs.lemmas.Str.{IsAscii-drop}
use Rattle.std.specs.Str.{IsAscii}
use Rattle.rules_words.specs.Words.{is_inside}
use Rattle.rules_words.proofs.FirstWords.{open_first, quoted_first}
use Rattle.rules_words.proofs.words.quoted_word.Goals as goal

pub returns-then-len-inner : goal.returns-then-len-inner
returns-then-len-inner c =
    let len = c.quoted_len-len.ensures ∙ ap (prefix_len (is_inside c.args.quote)) c.as_bytes.ensures.value in
    open_first c.args.size c.args.quote c.args.text.now c.cut.result.1.now _ c.requires.within c.requires.quote
    c.cut.ensures.back (omega arith) refl

pub cut-requires-2-clause-within : goal.cut-requires-2-clause-within
cut-requires-2-clause-within c =
    rw (c.quoted_len-len.ensures, c.as_bytes.ensures.value)
    (prefix_len-le-length (is_inside c.args.quote) c.cut.result.1.now)

pub cut-requires-2-clause-ascii : goal.cut-requires-2-clause-ascii
cut-requires-2-clause-ascii c =
    subst (λ (xs : List ℕ). IsAscii xs) (sym c.cut.ensures.back) (IsAscii-drop c.args.text.now 1 c.requires.ascii)

pub cut-requires-3-clause-ascii : goal.cut-requires-3-clause-ascii
cut-requires-3-clause-ascii c =
    subst (λ (xs : List ℕ). IsAscii xs) (sym c.cut-2.ensures.back)
    (IsAscii-drop c.cut.result.1.now c.quoted_len-len.result
    (subst (λ (xs : List ℕ). IsAscii xs) (sym c.cut.ensures.back)
    (IsAscii-drop c.args.text.now 1 c.requires.ascii)))

pub returns : goal.returns
returns c =
    let len = c.quoted_len-len.ensures ∙ ap (prefix_len (is_inside c.args.quote)) c.as_bytes.ensures.value in
    let shut : prefix_len (is_inside c.args.quote) c.cut.result.1.now < length c.cut.result.1.now =
    omega (arith, prefix_len-le-length (is_inside c.args.quote) c.cut.result.1.now) in
    quoted_first c.args.size c.args.quote c.args.text.now c.cut.result.1.now _ _ _ c.requires.ascii
    c.requires.within c.requires.quote c.cut.ensures.back shut refl
    (c.cut-2.ensures.front ∙ ap (λ n. take n c.cut.result.1.now) len)
    (c.cut-3.ensures.back ∙ ap (drop 1)
    (c.cut-2.ensures.back ∙ ap (λ n. drop n c.cut.result.1.now) len)) refl c.ended.ensures
