use Rattle.std.proofs.Common.{◌≡◌, take, min}
use Rattle.std.specs.Str.Parse.{AllDigits, digits_value}
use Rattle.network_core.proofs.network.read_number.Given as goal

abbrev pub invariant-loop-byte : goal.invariant-loop-byte
invariant-loop-byte l = record {
  are_digits : AllDigits 10 (take l.byte-index l.digits);
  value : l.number ≡ min 9223372036854775807 (digits_value 10 (take l.byte-index l.digits));
}
