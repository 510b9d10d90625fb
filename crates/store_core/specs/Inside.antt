-- Refinement: only contracts inside the crate use it.
-- What the fields of types stand for.
use Rattle.std.specs.Prelude.{◌≡◌, ℕ, ◌+◌, ◌*◌, ◌/◌, ◌%◌, ◌<◌}
use Rattle.std.proofs.Common.{arith}
use Rattle.store_core.specs.Request.{numbers}
use Rattle.store_core.specs.declared.id.Id.TheInside.{Inside}

-- the session times 2 ^ 32, and the number in it
abbrev pub id_of : Inside → ℕ
id_of id = id.session * numbers + id.number

abbrev pub parts_of : ℕ → Inside
parts_of id = record { session = id / numbers; number = id % numbers }

-- the parts follow from the number
pub parts_of-id_of : (id : Inside) → id.number < numbers → parts_of (id_of id) ≡ id
parts_of-id_of id h =
    let session : (id.session * numbers + id.number) / numbers ≡ id.session = omega arith in
    let number : (id.session * numbers + id.number) % numbers ≡ id.number = omega arith in
    λ i. record { session = session i; number = number i }
