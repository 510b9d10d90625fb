-- The hash of a group's and a daemon's text, part by part.
use Rattle.std.proofs.Common.{◌≡◌, ℕ, ◌*◌, ◌^◌, ◌<◌, List, [], ◌∷◌, ◌++◌, fold, bit_xor, sym, ap, ◌∙◌, lit<}
use Rattle.std.proofs.Math.Nat.{mod-lt}
use Rattle.std.specs.Fmt.{decimal}
use Rattle.std.proofs.lemmas.List.Sums.{fold-append}
use Rattle.place_core.specs.Placement.{rank_of, fnv_step}

pub rank_by_steps : (pool : List ℕ) (group daemon a b c d : ℕ) → a ≡ fold fnv_step 2166136261 pool → b ≡ fnv_step a 46 → c ≡ fold fnv_step b (decimal group) → d ≡ fnv_step c 46 → fold fnv_step d (decimal daemon) ≡ rank_of pool group daemon
unfolding rank_of
rank_by_steps pool group daemon a b c d ae be ce de =
    ap (λ h. fold fnv_step h (decimal daemon)) (de ∙ ap (λ h. fnv_step h 46) (ce ∙ ap (λ h. fold fnv_step h (decimal group)) (be ∙ ap (λ h. fnv_step h 46) ae)))
    ∙ sym (fold-append fnv_step 2166136261 (pool ++ (46 ∷ decimal group)) (46 ∷ decimal daemon) ∙ ap (λ h. fold fnv_step h (46 ∷ decimal daemon)) (fold-append fnv_step 2166136261 pool (46 ∷ decimal group)))

fold_small : (bytes : List ℕ) (a : ℕ) → a < 2 ^ 32 → fold fnv_step a bytes < 2 ^ 32
fold_small [] a h = h
fold_small (x ∷ bytes) a h = fold_small bytes (fnv_step a x) (mod-lt (bit_xor a x * 16777619) (lit< tt))

-- a rank is a number of 32 bits
pub rank_small : (pool : List ℕ) (group daemon : ℕ) → rank_of pool group daemon < 2 ^ 32
unfolding rank_of
rank_small pool group daemon = fold_small (pool ++ (46 ∷ decimal group) ++ (46 ∷ decimal daemon)) 2166136261 (lit< tt)
