use Rattle.std.proofs.Common.{ℕ, List, sym, subst, arith}
use Rattle.std.specs.Str.{IsAscii}
use Rattle.std.proofs.lemmas.Str.{IsUtf8-from_ascii}
use Rattle.rules_words.specs.Cutting.{AreWords}
use Rattle.rules_words.specs.Words.{IsSound}
use Rattle.rules_words.proofs.AllWords.{cut_fault, cut_words, plain_all, plain_ascii}
use Rattle.rules_words.proofs.words.words_of.Goals as goal

pub all_words-requires : goal.all_words-requires
all_words-requires c =
    subst (λ (xs : List ℕ). IsAscii xs) (sym c.in-Ok.ensures.cases.0)
    (plain_ascii c.args.line.now (plain_all c.args.line.now c.plain_len-plain.result c.plain_len-plain.ensures
    (omega arith)))

pub returns-in-Err : goal.returns-in-Err
returns-in-Err c =
    absurd (c.in-Err.ensures.cases.0 (IsUtf8-from_ascii c.args.line.now
    (plain_ascii c.args.line.now (plain_all c.args.line.now c.plain_len-plain.result c.plain_len-plain.ensures
    (omega arith)))))

pub returns-in-Ok-2 : goal.returns-in-Ok-2
returns-in-Ok-2 c =
    let sound : IsSound c.args.line.now =
    (omega arith, plain_all c.args.line.now c.plain_len-plain.result c.plain_len-plain.ensures (omega arith)) in (
      c.in-Ok.ensures.cases.0,
      cut_words c.args.line.now c.in-Ok.text.now c.in-Ok-2.words sound c.in-Ok.ensures.cases.0
          (subst (AreWords c.in-Ok.text.now) c.in-Ok-2.is c.in_ok-words-in-Ok.ensures),
    )

pub returns-in-Err-2 : goal.returns-in-Err-2
returns-in-Err-2 c =
    let sound : IsSound c.args.line.now =
    (omega arith, plain_all c.args.line.now c.plain_len-plain.result c.plain_len-plain.ensures (omega arith)) in
    cut_fault c.args.line.now c.in-Ok.text.now c.in-Err-2.bad sound c.in-Ok.ensures.cases.0
    (subst (AreWords c.in-Ok.text.now) c.in-Err-2.is c.in_ok-words-in-Ok.ensures)
