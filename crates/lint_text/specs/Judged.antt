-- Refinement: only contracts inside the crate use it.
-- A list whose grants are looked at.
use Rattle.std.specs.Prelude.{◌≡◌, ℕ, List, Option, None, Some, Result, Ok, Err, length}
use Rattle.cap_grants.specs.declared.grant.Grant.{Grant}
use Rattle.grant_core.specs.BuiltIn.{built_in}
use Rattle.grant_core.specs.Refusal.{expand_refusal}
use Rattle.verdict_text.specs.Reading.{IsFaultOf}
use Rattle.verdict_text.specs.declared.reading.TextFault.{TextFault}
use Rattle.verdict_text.specs.declared.reading.TextFault.TheVariants.{Spelling, Expansion, Unread}
use Rattle.lint_core.specs.Lint.{AreStandings, IsTidied}
use Rattle.share_core.specs.declared.pools.Pool.{Pool}
use Rattle.lint_text.specs.Linted.{SpellsList, poolless_by}
use Rattle.lint_text.specs.declared.reading.Judged.{Judged}

-- the list that a text spells, or why it spells none that is expanded
abbrev pub IsListIn : List ℕ → Result (List Grant) TextFault → Type 0
IsListIn caps (Ok list) = SpellsList caps list
IsListIn caps (Err fault) = IsFaultOf caps fault

-- the list, if it is expanded, or why it is not
abbrev pub IsExpanded : List Grant → Result (List Grant) TextFault → Type 0
IsExpanded list (Ok same) = (same ≡ list) × (expand_refusal built_in list ≡ None)
IsExpanded list (Err (Spelling fault)) = ⊥
IsExpanded list (Err (Expansion fault)) = expand_refusal built_in list ≡ Some fault
IsExpanded list (Err (Unread fault)) = ⊥

-- the list's grants stand so to one another, and these match no pool
pub record IsJudged (pools : Option (List Pool)) (list : List Grant) (judged : Judged) : Type 0 where
  pub are : AreStandings built_in list judged.standings.items
  pub without : judged.without.items ≡ poolless_by pools list
  pub all : length judged.without.items ≡ length list

-- these of the list's grants are kept
abbrev pub IsKept : List Grant → List Grant → Type 0
IsKept list kept = IsTidied built_in list kept
