use Rattle.std.proofs.Common.{refl, ap, ◌∙◌, drop, take}
use Rattle.std.specs.List.{prefix_len}
use Rattle.std.proofs.lemmas.List.Sums.{prefix_len-le-length}
use Rattle.rules_words.specs.Words.{is_bare}
use Rattle.rules_words.proofs.FirstWords.{bare_first}
use Rattle.rules_words.proofs.words.bare_word.Goals as goal

pub cut-requires-clause-within : goal.cut-requires-clause-within
cut-requires-clause-within c =
    rw (c.bare_len.ensures, c.as_bytes.ensures.value) (prefix_len-le-length is_bare c.args.text.now)

pub returns : goal.returns
returns c =
    let len = c.bare_len.ensures ∙ ap (prefix_len is_bare) c.as_bytes.ensures.value in
    bare_first c.args.size c.args.text.now _ _ _ c.requires.ascii c.requires.within c.requires.bare refl
    (c.cut.ensures.front ∙ ap (λ n. take n c.args.text.now) len)
    (c.cut.ensures.back ∙ ap (λ n. drop n c.args.text.now) len) refl c.ended.ensures
