-- Statement: contracts of public calls use it.
-- What is printed of grants that nobody needs (this project's profile). Every line ends with byte 10.
use Rattle.std.specs.Prelude.{ℕ, ◌≡◌, ◌⊎◌, ◌+◌, ◌<◌, ◌&&◌, ◌==◌, not, List, [], ◌∷◌, ◌++◌, Bool, true, false, codes, decimal, length, is_some, string_bytes, if◌then◌else◌, ◌||◌, replicate, Option, None, Some}
use Rattle.std.specs.List.{list_any}
use Rattle.cap_text.specs.Grammar.{Spells}
use Rattle.cap_text.specs.Printed.{printed}
use Rattle.cap_grants.specs.declared.grant.Grant.{Grant}
use Rattle.cap_grants.specs.declared.grant.Grant.TheVariants.{Allow, Profile}
use Rattle.grant_core.specs.BuiltIn.{built_in}
use Rattle.grant_core.specs.Refusal.{expand_refusal}
use Rattle.lint_core.specs.Lint.{AreStandings, IsTidied}
use Rattle.lint_core.specs.Pools.{without_pools}
use Rattle.lint_core.specs.declared.findings.Standing.{Standing}
use Rattle.lint_core.specs.declared.findings.Standing.TheVariants.{Needed, CoveredTogether, Covered}
use Rattle.share_core.specs.declared.pools.Pool.{Pool}
use Rattle.verdict_text.specs.ShownName.{shown_name}
use Rattle.verdict_text.specs.Reading.{IsFaultOf, fault_text}
use Rattle.verdict_text.specs.EachTold.{AreAllTold}
use Rattle.verdict_text.specs.Text.{refused_text}
use Rattle.verdict_text.specs.declared.reading.TextFault.{TextFault}
use Rattle.verdict_text.specs.declared.entity.Entity.{Entity}

-- the line of a grant's number, behind what stands before it; a grant that is needed has none
abbrev pub standing_line : List ℕ → ℕ → Standing → List ℕ
standing_line before number Needed = []
standing_line before number CoveredTogether = before ++ (decimal number ++ codes " redundant\n")
standing_line before number (Covered cover) = before ++ (decimal number ++ (codes " redundant, by " ++ (decimal cover ++ codes "\n")))

-- the grant names neither a pool nor a tag
abbrev pub is_everywhere : Grant → Bool
is_everywhere (Allow g) = not (is_some g.pool) && not (is_some g.tag)
is_everywhere (Profile used) = not (is_some used.pool)

abbrev pub reach_line : List ℕ → ℕ → Grant → List ℕ
reach_line before number grant = if is_everywhere grant then before ++ (decimal number ++ codes " every pool\n") else []

-- which grants match no pool, where pools are given
abbrev pub poolless_by : Option (List Pool) → List Grant → List Bool
poolless_by None grants = replicate (length grants) false
poolless_by (Some pools) grants = without_pools built_in pools grants

abbrev pub pool_line : List ℕ → ℕ → Bool → List ℕ
pool_line before number without = if without then before ++ (decimal number ++ codes " matches no pool\n") else []

-- the lines of each grant from a number on
abbrev pub lines_from : List ℕ → ℕ → List Grant → List Standing → List Bool → List ℕ
lines_from before number [] standings without = []
lines_from before number (grant ∷ grants) [] without = []
lines_from before number (grant ∷ grants) (standing ∷ standings) [] = []
lines_from before number (grant ∷ grants) (standing ∷ standings) (none ∷ without) =
    standing_line before number standing ++ (reach_line before number grant ++ (pool_line before number none ++ lines_from before (number + 1) grants standings without))

abbrev pub is_redundant : Standing → Bool
is_redundant Needed = false
is_redundant CoveredTogether = true
is_redundant (Covered cover) = true

-- some grant is redundant, or matches no pool
abbrev pub has_mistake : List Standing → List Bool → Bool
has_mistake standings without = list_any is_redundant standings || list_any (λ none. none) without

-- the text spells grants that are expanded by the built-in profiles
abbrev pub SpellsList : List ℕ → List Grant → Type 0
SpellsList caps grants = Spells caps grants × (expand_refusal built_in grants ≡ None)

-- the text is refused, which fails
pub record IsRefusal (caps text : List ℕ) (fails : Bool) : Type 0 where
  pub fault : TextFault
  pub is : IsFaultOf caps fault
  pub printed : text ≡ refused_text (fault_text fault)
  pub ends : fails ≡ true

-- nothing stands there
abbrev pub or_nothing : List ℕ → List ℕ
or_nothing lines = if length lines == 0 then codes "nothing redundant\n" else lines

-- The lines of each grant of a list. With a check it fails if some grant is redundant or matches no pool.
pub record IsListLinted (pools : Option (List Pool)) (check : Bool) (grants : List Grant) (text : List ℕ) (fails : Bool) : Type 0 where
  pub standings : List Standing
  pub are : AreStandings built_in grants standings
  pub printed : text ≡ or_nothing (lines_from [] 1 grants standings (poolless_by pools grants))
  pub ends : fails ≡ (check && has_mistake standings (poolless_by pools grants))

-- the lines of each grant of a text
abbrev pub IsLinted : Option (List Pool) → Bool → List ℕ → List ℕ → Bool → Type 0
IsLinted pools check caps text fails = (grants : List Grant) × SpellsList caps grants × IsListLinted pools check grants text fails

-- what is printed of a text, and whether the command fails
abbrev pub IsLintAnswer : Option (List Pool) → Bool → List ℕ → List ℕ → Bool → Type 0
IsLintAnswer pools check caps text fails = IsLinted pools check caps text fails ⊎ IsRefusal caps text fails

-- the canonical form of these grants, which can be read again, on a line; it fails where a check was asked for and a grant went
pub record IsTidyLine (check : Bool) (grants tidied : List Grant) (text : List ℕ) (fails : Bool) : Type 0 where
  pub again : Spells (printed tidied) tidied
  pub form : text ≡ printed tidied ++ codes "\n"
  pub ends : fails ≡ (check && not (length tidied == length grants))

abbrev pub too_long_line : ℕ → List ℕ
too_long_line size = codes "refused tidied text of " ++ (decimal size ++ codes " bytes, of at most 4096\n")

-- the canonical form is longer than a text may be, which fails
pub record IsTooLong (tidied : List Grant) (text : List ℕ) (fails : Bool) : Type 0 where
  pub long : 4096 < length (printed tidied)
  pub told : text ≡ too_long_line (length (printed tidied))
  pub ends : fails ≡ true

abbrev pub IsTidyForm : Bool → List Grant → List Grant → List ℕ → Bool → Type 0
IsTidyForm check grants tidied text fails = IsTidyLine check grants tidied text fails ⊎ IsTooLong tidied text fails

-- a list without redundant grants
pub record IsListTidied (check : Bool) (grants : List Grant) (text : List ℕ) (fails : Bool) : Type 0 where
  pub tidied : List Grant
  pub is : IsTidied built_in grants tidied
  pub printed_so : IsTidyForm check grants tidied text fails

-- the text without redundant grants
abbrev pub IsTidyText : Bool → List ℕ → List ℕ → Bool → Type 0
IsTidyText check caps text fails = (grants : List Grant) × SpellsList caps grants × IsListTidied check grants text fails

abbrev pub IsTidyAnswer : Bool → List ℕ → List ℕ → Bool → Type 0
IsTidyAnswer check caps text fails = IsTidyText check caps text fails ⊎ IsRefusal caps text fails

-- the lines of each grant of a list, behind the name of its entity
pub record IsEntityListLinted (pools : Option (List Pool)) (check : Bool) (name : List ℕ) (grants : List Grant) (text : List ℕ) (fails : Bool) : Type 0 where
  pub standings : List Standing
  pub are : AreStandings built_in grants standings
  pub printed : text ≡ lines_from (shown_name name ++ codes " ") 1 grants standings (poolless_by pools grants)
  pub ends : fails ≡ (check && has_mistake standings (poolless_by pools grants))

-- the lines of each grant of an entity, behind its name
abbrev pub IsEntityLinted : Option (List Pool) → Bool → List ℕ → List ℕ → List ℕ → Bool → Type 0
IsEntityLinted pools check name caps text fails = (grants : List Grant) × SpellsList caps grants × IsEntityListLinted pools check name grants text fails

-- an entity whose text is refused is left out
abbrev pub IsLeftOut : List ℕ → List ℕ → Bool → Type 0
IsLeftOut caps text fails = (fault : TextFault) × IsFaultOf caps fault × (text ≡ []) × (fails ≡ false)

-- what is printed of an entity of a name and a text
abbrev pub IsNameTold : Option (List Pool) → Bool → List ℕ → List ℕ → List ℕ → Bool → Type 0
IsNameTold pools check name caps text fails = IsEntityLinted pools check name caps text fails ⊎ IsLeftOut caps text fails

abbrev pub IsEntityTold : Option (List Pool) → Bool → Entity → List ℕ → Bool → Type 0
IsEntityTold pools check entity text fails = IsNameTold pools check (string_bytes entity.name) (string_bytes entity.osd) text fails

-- what is printed of some entities, in order, and whether the command fails, which it does where it fails for one
abbrev pub AreLinted : Option (List Pool) → Bool → List Entity → List ℕ → Bool → Type 0
AreLinted pools check entities text fails = AreAllTold (IsEntityTold pools check) entities text fails
