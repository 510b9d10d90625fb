-- What holds of a call's result where it is no error.
use Rattle.std.proofs.Common.{Result, Ok, Err, IfOk}

pub ok_also : {T E : Type 0} {P Q : T → Type 0} (r : Result T E) → ((x : T) → P x → Q x) → IfOk r P → IfOk r Q
ok_also (Ok x) also h = also x h
ok_also (Err e) also h = tt
