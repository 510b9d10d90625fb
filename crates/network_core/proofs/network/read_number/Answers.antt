use Rattle.std.proofs.Common.{◌<◌, length, arith}
use Rattle.std.proofs.lemmas.Int.Digits.{digits_more, digits_value_more}
use Rattle.network_core.proofs.Digits.{no_numeral}
use Rattle.network_core.proofs.network.read_number.Goals as goal

pub returns-in_default : goal.returns-in_default
returns-in_default c = no_numeral c.args.digits.now c.loop-byte.byte-index c.loop-byte-test.true c.in_default.ensures

pub loop-byte-preserved : goal.loop-byte-preserved
loop-byte-preserved c =
    let known = c.loop-byte.invariant in
    let within : c.loop-byte.byte-index < length c.args.digits.now = c.loop-byte-test.true in
    let digit = c.in-Some.ensures in
    record {
      are_digits = digits_more 10 c.args.digits.now c.loop-byte.byte-index within known.are_digits digit.0;
      value = rw (digits_value_more 10 c.args.digits.now c.loop-byte.byte-index within) (omega (arith, digit.1, known.value));
    }
