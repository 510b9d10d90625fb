-- Three texts, one behind the other.
use Rattle.std.proofs.Common.{◌≡◌, ℕ, List, ◌++◌, append_assoc, ap, ◌∙◌}

regroup : (a b c d : List ℕ) → ((a ++ b) ++ c) ++ d ≡ a ++ (b ++ (c ++ d))
regroup a b c d = simp append_assoc

pub three : (old one two new x y z : List ℕ) → one ≡ old ++ x → two ≡ one ++ y → new ≡ two ++ z → new ≡ old ++ (x ++ (y ++ z))
three old one two new x y z a b c = c ∙ (ap (λ (t : List ℕ). t ++ z) (b ∙ ap (λ (t : List ℕ). t ++ y) a) ∙ regroup old x y z)
