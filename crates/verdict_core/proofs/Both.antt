-- Both of two tests, the second of which is made first.
use Rattle.std.proofs.Common.{◌≡◌, Bool, true, false, ◌&&◌, sym, ◌∙◌}

pub both_hold : (u c r : Bool) → r ≡ u → c ≡ true → r ≡ (u && c)
both_hold true c r is holds = is ∙ sym holds
both_hold false c r is holds = is

pub one_fails : (u c r : Bool) → r ≡ c → r ≡ false → r ≡ (u && c)
one_fails true c r is fails = is
one_fails false c r is fails = fails
