-- The rules of a file are checked one after another.
use Rattle.std.proofs.Common.{◌≡◌, ℕ, ◌+◌, ◌<◌, ◌≤◌, List, [], ◌∷◌, ◌++◌, Option, get_or, take, length, refl, sym, ap, subst, ◌∙◌}
use Rattle.std.proofs.lemmas.Grind.{take_at_read}
use Rattle.std.proofs.lemmas.List.{take_all}
use Rattle.share_core.specs.declared.pools.Pool.{Pool}
use Rattle.rules_core.specs.Subject.{Subject}
use Rattle.rules_text.specs.Checked.{AreChecked, IsChecked}
use Rattle.rules_text.specs.declared.checked.CheckedRule.{CheckedRule}
use Rattle.rules_text.specs.declared.file.RuleLine.{RuleLine}

one_more : (pools : Option (List Pool)) (subjects : List Subject) (lines : List RuleLine) (line : RuleLine) (all : List CheckedRule) (one : CheckedRule)
    → AreChecked pools subjects lines all → IsChecked pools subjects line one → AreChecked pools subjects (lines ++ line ∷ []) (all ++ one ∷ [])
one_more pools subjects [] line all one none is = (one, [], is, refl, ap (λ (a : List CheckedRule). a ++ one ∷ []) none)
one_more pools subjects (l ∷ lines) line all one (first, others, is_first, are_others, parts) is =
    (first, others ++ one ∷ [], is_first, one_more pools subjects lines line others one are_others is, ap (λ (a : List CheckedRule). a ++ one ∷ []) parts)

-- one more rule
pub next_checked : (pools : Option (List Pool)) (subjects : List Subject) (lines : List RuleLine) (i : ℕ) (line : RuleLine) (old new : List CheckedRule) (one : CheckedRule)
    → i < length lines → line ≡ get_or lines i line → AreChecked pools subjects (take i lines) old → new ≡ old ++ one ∷ [] → IsChecked pools subjects line one
    → AreChecked pools subjects (take (i + 1) lines) new
next_checked pools subjects lines i line old new one within at so_far same is =
    let more : AreChecked pools subjects (take i lines ++ line ∷ []) (old ++ one ∷ []) = one_more pools subjects (take i lines) line old one so_far is in
    let longer : AreChecked pools subjects (take (i + 1) lines) (old ++ one ∷ []) =
    subst (λ (some : List RuleLine). AreChecked pools subjects some (old ++ one ∷ [])) (ap (λ e. take i lines ++ e ∷ []) at ∙ sym ((take_at_read lines i line within).1)) more in
    subst (λ (a : List CheckedRule). AreChecked pools subjects (take (i + 1) lines) a) (sym same) longer

-- all rules
pub all_checked : (pools : Option (List Pool)) (subjects : List Subject) (lines : List RuleLine) (i : ℕ) (all : List CheckedRule) → length lines ≤ i
    → AreChecked pools subjects (take i lines) all → AreChecked pools subjects lines all
all_checked pools subjects lines i all past so_far = subst (λ (front : List RuleLine). AreChecked pools subjects front all) (take_all i lines past) so_far
