-- Tests that tell texts and numbers apart.
use Rattle.std.proofs.Common.{◌≡◌, ℕ, List, Bool, true, false, ◌&&◌, ◌==◌, refl}
use Rattle.std.specs.Str.{bytes_eq}
use Rattle.std.specs.Cmp.{unsigned_Decides}
use Rattle.std.proofs.lemmas.Slice.Eq.{bytes_eq-Decides}

pub bytes_same : (a b : List ℕ) → bytes_eq a b ≡ true → a ≡ b
bytes_same a b h = (bytes_eq-Decides a b).0 h

pub number_same : (a b : ℕ) → (a == b) ≡ true → a ≡ b
number_same a b h = (unsigned_Decides a b).0 h

pub both_true : (a b : Bool) → (a && b) ≡ true → (a ≡ true) × (b ≡ true)
both_true true b h = (refl, h)
both_true false b h = absurd (cc)
