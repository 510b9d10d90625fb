-- Statement: contracts of public calls use it.
-- When a call is refused, by one rule for every crate (this project's profile).
use Rattle.std.specs.Prelude.{◌≡◌, Option, None, Some, Result, Ok, Err, unwrap_or}

-- a call succeeds only where nothing refuses it; its error is what refuses it, or out of memory where nothing does
abbrev pub RefusedFirst : {T E : Type 0} → Option E → E → Result T E → Type 0
RefusedFirst refusal memory (Ok x) = refusal ≡ None
RefusedFirst refusal memory (Err fault) = fault ≡ unwrap_or refusal memory

-- accepted only where nothing refuses it, and refused by what does
abbrev pub RefusedExactly : {T E : Type 0} → Option E → Result T E → Type 0
RefusedExactly refusal (Ok x) = refusal ≡ None
RefusedExactly refusal (Err fault) = refusal ≡ Some fault
