-- The front of a list that passes a test, and what is behind it.
use Rattle.std.proofs.Common.{◌≡◌, ℕ, suc, ◌+◌, Bool, true, false, ◌&&◌, cond, List, [], ◌∷◌, length, take, drop, refl, sym, ap, ◌∙◌, arith}
use Rattle.std.specs.List.{prefix_len, list_all}

pub both_true : (a b : Bool) → (a && b) ≡ true → (a ≡ true) × (b ≡ true)
both_true true b h = (refl, h)
both_true false b h = absurd cc

pub one_more : (n : ℕ) → 1 + n ≡ suc n
one_more n = omega arith

-- each element of it passes
pub front_passes : {X : Type 0} (p : X → Bool) (xs : List X) → list_all p (take (prefix_len p xs) xs) ≡ true
front_passes p [] = refl
front_passes p (x ∷ xs) =
    elim (p x) as (λ v. p x ≡ v → list_all p (take (cond v (1 + prefix_len p xs) 0) (x ∷ xs)) ≡ true) [
      | true ↦ λ e. rw (one_more (prefix_len p xs), e) (front_passes p xs)
      | false ↦ λ e. refl
    ] refl

-- the first element behind it does not
pub rest_fails : {X : Type 0} (p : X → Bool) (xs : List X) (b : X) (bs : List X) → drop (prefix_len p xs) xs ≡ b ∷ bs
    → p b ≡ false
rest_fails p [] b bs h = absurd cc
rest_fails {X} p (x ∷ xs) b bs h =
    elim (p x) as (λ v. p x ≡ v → drop (cond v (1 + prefix_len p xs) 0) (x ∷ xs) ≡ b ∷ bs → p b ≡ false) [
      | true ↦ λ e. rw (one_more (prefix_len p xs)) (rest_fails p xs b bs)
      | false ↦ λ e h. ap p (sym (first x b xs bs h)) ∙ e
    ] refl h
  where
    first : (x b : X) (xs bs : List X) → x ∷ xs ≡ b ∷ bs → x ≡ b
    first x b xs bs h = cc

-- where it is all, all pass
pub all_pass : {X : Type 0} (p : X → Bool) (xs : List X) → prefix_len p xs ≡ length xs → list_all p xs ≡ true
all_pass p [] h = refl
all_pass p (x ∷ xs) h =
    elim (p x) as (λ v. p x ≡ v → cond v (1 + prefix_len p xs) 0 ≡ suc (length xs) → (v && list_all p xs) ≡ true) [
      | true ↦ λ e h. all_pass p xs (omega arith)
      | false ↦ λ e h. absurd (omega arith)
    ] refl h
