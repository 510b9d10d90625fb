use Rattle.script_text.proofs.Numerals.{numerals_are_decimal as law}
use Rattle.script_text.proofs.laws.numerals_are_decimal.Goals as goal

pub returns : goal.returns
returns c = law
