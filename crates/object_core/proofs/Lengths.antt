-- How long changed bytes are, and whether they fit an object.
use Rattle.std.proofs.Common.{◌≡◌, ℕ, ◌+◌, ◌-◌, ◌^◌, ◌<◌, ◌≤◌, List, ◌++◌, Option, Some, Ok, Err, true, false, cond, nat_lt, length, take, drop, replicate, sym, ap, arith, length-append, length-drop}
use Rattle.std.proofs.lemmas.List.{length-take, length-replicate}
use Rattle.std.proofs.lemmas.Bool.Decides.{nat_tests}
use Rattle.std.specs.Fmt.{decimal}
use Rattle.std.proofs.lemmas.Fmt.{length-decimal-le}
use Rattle.object_core.specs.Bytes.{resized, overwritten}
use Rattle.object_core.specs.Content.{Content, attributes_of}
use Rattle.object_core.specs.Operations.{put}

pub length-resized : (size : ℕ) (bytes : List ℕ) → length (resized size bytes) ≡ size
length-resized size bytes =
    omega (arith, length-append (take size bytes) (replicate (size - length bytes) 0), length-take size bytes, length-replicate {A = ℕ} (size - length bytes) 0)

pub length-overwritten : (bytes : List ℕ) (offset : ℕ) (more : List ℕ) → length (overwritten bytes offset more) ≡ offset + length more + (length bytes - (offset + length more))
length-overwritten bytes offset more =
    omega (arith, length-append (resized offset bytes ++ more) (drop (offset + length more) bytes), length-append (resized offset bytes) more, length-resized offset bytes, length-drop (offset + length more) bytes)

is_less : (a b : ℕ) → a < b → nat_lt a b ≡ true
is_less a b h = grind (arith, nat_tests)

is_not_less : (a b : ℕ) → b ≤ a → nat_lt a b ≡ false
is_not_less a b h = grind (arith, nat_tests)

-- too many bytes
pub put_fails : (object : Option Content) (bytes : List ℕ) → 65536 < length bytes → Err 27 ≡ put object bytes
put_fails object bytes h = ap (λ b. cond b (Err 27) (Ok (Some (record { bytes = bytes; attributes = attributes_of object })))) (sym (is_less _ _ h))

-- few enough
pub put_fits : (object : Option Content) (bytes : List ℕ) → length bytes ≤ 65536 → Ok (Some (record { bytes = bytes; attributes = attributes_of object })) ≡ put object bytes
put_fits object bytes h = ap (λ b. cond b (Err 27) (Ok (Some (record { bytes = bytes; attributes = attributes_of object })))) (sym (is_not_less _ _ h))

-- a number of 64 bits has at most 20 digits
pub short_decimal : (n : ℕ) → n < 2 ^ 64 → length (decimal n) ≤ 20
short_decimal n h =
    let some : 0 < 20 = omega arith in
    let small : n < 10 ^ 20 = omega arith in
    length-decimal-le 20 n some small h
