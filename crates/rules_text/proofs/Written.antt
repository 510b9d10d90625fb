-- What is written of each of some values, one after another.
use Rattle.std.proofs.Common.{◌≡◌, ℕ, ◌+◌, ◌<◌, List, ◌∷◌, ◌++◌, get_or, drop, length, sym, ap, ◌∙◌, append_assoc}
use Rattle.std.specs.List.{flat_map}
use Rattle.std.proofs.lemmas.List.{drop_more}

-- one more value
pub next_written : {X : Type 0} (f : X → List ℕ) (xs : List X) (i : ℕ) (x : X) (old new whole : List ℕ) → i < length xs → x ≡ get_or xs i x → new ≡ old ++ f x
    → old ++ flat_map f (drop i xs) ≡ whole → new ++ flat_map f (drop (i + 1) xs) ≡ whole
next_written f xs i x old new whole inside at parts so_far =
    ap (λ t. t ++ flat_map f (drop (i + 1) xs)) parts
    ∙ (append_assoc old (f x) (flat_map f (drop (i + 1) xs))
    ∙ (ap (λ ys. old ++ flat_map f ys) (sym (drop_more xs i x inside ∙ ap (λ y. y ∷ drop (i + 1) xs) (sym at))) ∙ so_far))
