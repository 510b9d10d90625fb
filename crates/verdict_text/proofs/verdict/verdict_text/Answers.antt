use Rattle.std.proofs.Common.{◌≡◌, ℕ, List, Option, Result, Ok, Err, IfOk, String, false, string_bytes, subst}
use Rattle.std.specs.declared.alloc.Global.{Global}
use Rattle.verdict_text.specs.declared.format.Format.TheVariants.{Text}
use Rattle.verdict_text.specs.declared.reading.Rules.TheVariants.{Project}
use Rattle.verdict_text.specs.declared.reasons.Printing.{Printing}
use Rattle.verdict_text.specs.declared.verdict.Verdict.{Verdict}
use Rattle.verdict_text.specs.declared.verdict.VerdictFault.{VerdictFault}
use Rattle.verdict_text.specs.Answer.{IsAnswerOf}
use Rattle.verdict_text.specs.Asked.{Asked}
use Rattle.verdict_text.specs.Reading.{IsReading, Reading}
use Rattle.verdict_text.specs.Reasons.{IsVerdictText, printed_by}
use Rattle.verdict_text.proofs.verdict.verdict_text.Goals as goal

told : {E : Type 0} (how : Printing) (caps : List ℕ) (until : Option ℕ) (asked : Asked) (read : Reading) (answer : Result Verdict VerdictFault) (text : Result (String Global) E)
    → IsReading how.rules caps until read → IsAnswerOf read asked answer
    → IfOk text (λ t. string_bytes t ≡ printed_by how read asked answer) → IfOk text (λ t. IsVerdictText how caps until asked (string_bytes t))
told how caps until asked read answer (Ok t) reads is same = (read, reads, (answer, is, same))
told how caps until asked read answer (Err e) reads is same = same

-- as `verdict_text` prints
abbrev usual : Printing
usual = record { rules = Project; why = false; format = Text }

pub returns : goal.returns
returns c =
    told usual c.args.caps.now c.args.until c.args.asked.now c.in_ok-read.read c.in_ok-answer.answer c.verdict_by.result
    (subst (λ rules. IsReading rules c.args.caps.now c.args.until c.in_ok-read.read) c.in_ok-reader.ensures c.in_ok-read.ensures)
    c.in_ok-answer.ensures
    c.verdict_by.ensures
