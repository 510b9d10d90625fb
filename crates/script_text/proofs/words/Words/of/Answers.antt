use Rattle.std.proofs.Common.{rules, List, ℕ, sym, subst, ◌∙◌, arith}
use Rattle.std.specs.Str.{IsAscii}
use Rattle.std.proofs.lemmas.Str.{IsUtf8-from_ascii}
use Rattle.script_text.proofs.Cursor.{printable_ascii, gives_words, gives_none}
use borrow.Author.Tests.{tests}
use Rattle.script_text.proofs.words.Words.of.Goals as goal

pub invariant_of-result : goal.invariant_of-result
invariant_of-result c =
    let P : List ℕ → Type 0 = λ xs. IsAscii xs in
    (subst P (sym c.in-Ok.ensures.cases.0) (printable_ascii c.args.line.now (sym c.are_printable.ensures ∙ c.if-not-are_printable.false)), sym c.are_words.ensures ∙ c.if-are_words.true)

pub returns-in-Err : goal.returns-in-Err
returns-in-Err c = absurd (c.in-Err.ensures.cases.0 (IsUtf8-from_ascii c.args.line.now (printable_ascii c.args.line.now (sym c.are_printable.ensures ∙ c.if-not-are_printable.false))))

pub returns-then-are_words : goal.returns-then-are_words
returns-then-are_words c =
    gives_words c.args.line.now c.in-Ok.text.now (omega arith) (sym c.are_printable.ensures ∙ c.if-not-are_printable.false) c.in-Ok.ensures.cases.0 (sym c.are_words.ensures ∙ c.if-are_words.true)

pub returns-else-are_words : goal.returns-else-are_words
returns-else-are_words c =
    gives_none c.args.line.now c.in-Ok.text.now (omega arith) (sym c.are_printable.ensures ∙ c.if-not-are_printable.false) c.in-Ok.ensures.cases.0 (sym c.are_words.ensures ∙ c.if-are_words.false)

pub returns-then-line-gt-MAX_LINE_BYTES : goal.returns-then-line-gt-MAX_LINE_BYTES
returns-then-line-gt-MAX_LINE_BYTES c = search (tests, rules)
