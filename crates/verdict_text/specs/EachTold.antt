-- Statement: contracts of public calls use it.
-- What is printed of each item of a list, one after another.
use Rattle.std.specs.Prelude.{ℕ, ◌≡◌, ◌||◌, List, [], ◌∷◌, ◌++◌, Bool, false}

-- what is printed of each item, in order; it fails if one of them fails
abbrev pub AreAllTold : {X : Type 0} → (X → List ℕ → Bool → Type 0) → List X → List ℕ → Bool → Type 0
AreAllTold IsTold [] text fails = (text ≡ []) × (fails ≡ false)
AreAllTold IsTold (item ∷ items) text fails =
    (front rest : List ℕ) × (first later : Bool) × IsTold item front first × AreAllTold IsTold items rest later
    × (text ≡ front ++ rest) × (fails ≡ (first || later))
