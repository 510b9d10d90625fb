use Rattle.std.proofs.Common.{◌∙◌, sym, ap, arith}
use Rattle.std.specs.Str.{all_ascii_digits}
use Rattle.script_text.proofs.Digits.{number_from_parse}
use Rattle.script_text.proofs.numbers.number_of.Goals as goal

pub returns : goal.returns
returns c =
    c.ok.ensures.value ∙ number_from_parse c.args.word.now c.parse.result (omega arith) (ap all_ascii_digits (sym c.as_bytes.ensures.value) ∙ sym c.are_digits.ensures ∙ c.if-not-are_digits.false) c.parse.ensures.value.0
