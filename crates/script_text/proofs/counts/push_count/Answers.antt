use Rattle.std.proofs.Common.{◌≡◌, ◌∙◌, ◌++◌, ◌<◌, length, sym, ap, subst, arith, OnOk, string_bytes}
use Rattle.std.proofs.lemmas.Bool.Decides.{nat_tests}
use Rattle.script_text.specs.Inside.{IsCount, digits_text}
use Rattle.script_text.proofs.Numerals.{are_digits, printed_count}
use Rattle.script_text.proofs.counts.push_count.Goals as goal

pub push_digits-requires : goal.push_digits-requires
push_digits-requires c = are_digits c.as_slice.result.now (subst IsCount (sym c.as_slice.ensures.value) c.count.invariant)

pub returns : goal.returns
returns c =
    let ds = c.count.inside.digits.items in
    let some : 0 < length ds = grind (arith, nat_tests, c.if-is_empty.ensures) in
    let text = ap digits_text c.as_slice.ensures.value ∙ printed_count ds c.args.count.now c.count.invariant some c.count.view_is in
    subst (λ t. OnOk c.push_digits.result (string_bytes c.push_digits.new.text ≡ string_bytes c.args.text.now ++ t)) text c.push_digits.ensures
