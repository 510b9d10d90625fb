-- The widths of both families.
use Rattle.std.proofs.Common.{◌≡◌, ℕ, ◌+◌, ◌-◌, ◌*◌, ◌/◌, ◌^◌, ◌<◌, ◌≤◌, ap, ◌∙◌, arith}
use Rattle.std.proofs.Math.Nat.{div-eq_of_lt}
use Rattle.network_core.specs.declared.address.Address.{Address}
use Rattle.network_core.specs.declared.address.Address.TheVariants.{V4, V6}
use Rattle.network_core.specs.Address.{width, IsAddress}
use Rattle.network_core.specs.Network.{first_bits}
use Rattle.network_core.specs.Edges.{first_number}

pub most_wide : (a : Address) → 2 ^ width a ≤ 2 ^ 128
most_wide (V4 n) = omega arith
most_wide (V6 n) = omega arith

-- of 128 bits none is left
pub no_bits : (a : Address) (length behind : ℕ) → IsAddress a → behind ≡ width a - length → behind ≡ 128 → first_bits length a ≡ 0
no_bits (V4 n) length behind fits e h = absurd (omega arith)
no_bits (V6 n) length behind fits e h = let whole : 128 - length ≡ 128 = omega arith in rw whole (div-eq_of_lt fits)

zero_times : (n : ℕ) → 0 * n ≡ 0
zero_times n = omega arith

pub first_of_all : (a : Address) (length behind : ℕ) → IsAddress a → behind ≡ width a - length → behind ≡ 128 → first_number a length ≡ 0
first_of_all a length behind fits e h = ap (λ bits. bits * 2 ^ (width a - length)) (no_bits a length behind fits e h) ∙ zero_times (2 ^ (width a - length))
