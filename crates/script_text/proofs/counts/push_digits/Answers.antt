use Rattle.std.proofs.Common.{◌-◌, arith, string_bytes}
use Rattle.script_text.proofs.Numerals.{digit_at, printed_next}
use Rattle.script_text.proofs.counts.push_digits.Goals as goal

pub push_digit-requires : goal.push_digit-requires
push_digit-requires c = digit_at c.args.digits.now (c.loop-left.left - 1) 0 c.requires (omega arith)

pub loop-left-preserved : goal.loop-left-preserved
loop-left-preserved c = record {
  within = omega arith;
  is = printed_next (string_bytes c.args.text.now) (string_bytes c.loop-left.text) (string_bytes c.push_digit.new.text) c.args.digits.now c.loop-left.left 0 (omega arith) c.loop-left.invariant.within c.loop-left.invariant.is c.in_ok-push_digit.ensures;
}
