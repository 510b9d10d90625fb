-- The lines of the grants from an index on, and the length of the list that reports which grants match no pool.
use Rattle.std.proofs.Common.{◌≡◌, ℕ, ◌+◌, ◌<◌, List, ◌∷◌, ◌++◌, Bool, false, Option, None, Some, drop, length, get_or, sym, ap, ◌∙◌}
use Rattle.std.proofs.lemmas.List.{length-map, length-replicate}
use Rattle.std.proofs.Math.Numerals.{add-one}
use Rattle.std.proofs.Math.Seq.{drop-cons}
use Rattle.cap_grants.specs.declared.grant.Grant.{Grant}
use Rattle.grant_core.specs.BuiltIn.{built_in}
use Rattle.lint_core.specs.Pools.{matches_no_pool}
use Rattle.share_core.specs.declared.pools.Pool.{Pool}
use Rattle.lint_core.specs.declared.findings.Standing.{Standing}
use Rattle.lint_text.specs.Linted.{lines_from, pool_line, poolless_by, reach_line, standing_line}

behind : {X : Type 0} (xs : List X) (i : ℕ) (d : X) → i < length xs → drop i xs ≡ get_or xs i d ∷ drop (i + 1) xs
behind xs i d h = drop-cons xs i d h ∙ ap (λ n. get_or xs i d ∷ drop n xs) (sym (add-one i))

pub lines_step : (before : List ℕ) (grants : List Grant) (standings : List Standing) (without : List Bool) (i : ℕ) (d : Grant) (e : Standing) (f : Bool)
    → i < length grants → i < length standings → i < length without
    → lines_from before (i + 1) (drop i grants) (drop i standings) (drop i without)
    ≡ standing_line before (i + 1) (get_or standings i e)
    ++ (reach_line before (i + 1) (get_or grants i d) ++ (pool_line before (i + 1) (get_or without i f) ++ lines_from before (i + 1 + 1) (drop (i + 1) grants) (drop (i + 1) standings) (drop (i + 1) without)))
lines_step before grants standings without i d e f h k m = (λ at. lines_from before (i + 1) (behind grants i d h at) (behind standings i e k at) (behind without i f m at))

pub poolless_length : (pools : Option (List Pool)) (grants : List Grant) → length (poolless_by pools grants) ≡ length grants
poolless_length None grants = length-replicate (length grants) false
poolless_length (Some pools) grants = length-map grants (matches_no_pool built_in pools)
