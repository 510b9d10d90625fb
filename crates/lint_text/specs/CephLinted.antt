-- Statement: contracts of public calls use it.
-- What is printed of grants that nobody needs by Ceph's rules (this project's profile). Every line ends with byte 10.
use Rattle.std.specs.Prelude.{ℕ, ◌≡◌, ◌⊎◌, ◌+◌, ◌&&◌, ◌||◌, List, [], ◌∷◌, ◌++◌, Bool, true, false, codes, decimal, length, string_bytes, if◌then◌else◌, Option, Result, Ok, Err, Vec}
use Rattle.std.specs.List.{list_any}
use Rattle.std.specs.declared.alloc.Global.{Global}
use Rattle.ceph_text.specs.Profiles.{ceph_flat}
use Rattle.ceph_text.specs.Texts.{IsCephText}
use Rattle.ceph_text.specs.declared.grant.CephGrant.{CephGrant}
use Rattle.lint_core.specs.RightsLint.{AreLintsIn}
use Rattle.lint_core.specs.declared.rights_lint.GrantLint.{GrantLint}
use Rattle.lint_core.specs.declared.rights_lint.Reach.{Reach}
use Rattle.lint_core.specs.declared.rights_lint.Reach.TheVariants.{Bounded, EveryPoolByPrefix, EveryPool}
use Rattle.rights_core.specs.Rights.{Rights}
use Rattle.share_core.specs.declared.pools.Pool.{Pool}
use Rattle.verdict_text.specs.ShownName.{shown_name}
use Rattle.verdict_text.specs.EachTold.{AreAllTold}
use Rattle.verdict_text.specs.Reading.{AreGrantsOf, IsCephFaultOf, fault_text}
use Rattle.verdict_text.specs.Text.{refused_text}
use Rattle.verdict_text.specs.declared.entity.Entity.{Entity}
use Rattle.verdict_text.specs.declared.reading.TextFault.{TextFault}
use Rattle.lint_text.specs.Linted.{is_redundant, or_nothing, pool_line, standing_line}

-- a line behind what stands before it
abbrev pub line_of : List ℕ → ℕ → List ℕ → List ℕ
line_of before number words = before ++ (decimal number ++ words)

abbrev pub reach_line : List ℕ → ℕ → Reach → List ℕ
reach_line before number Bounded = []
reach_line before number EveryPoolByPrefix = line_of before number (codes " every pool, by prefix\n")
reach_line before number EveryPool = line_of before number (codes " every pool\n")

-- how a grant stands to the others, which pools it reaches, and whether it matches none that are given
abbrev pub live_lines : List ℕ → ℕ → GrantLint → List ℕ
live_lines before number found = standing_line before number found.standing ++ (reach_line before number found.reach ++ pool_line before number found.without_pool)

-- a grant that expands to nothing, or whose network matches no address, has that line alone
abbrev pub found_lines : List ℕ → ℕ → GrantLint → List ℕ
found_lines before number found =
    if found.nothing then line_of before number (codes " unknown profile, grants nothing\n")
    else (if found.dead then line_of before number (codes " network matches no address\n") else live_lines before number found)

-- the lines of each grant from a number on
abbrev pub all_lines : List ℕ → ℕ → List GrantLint → List ℕ
all_lines before number [] = []
all_lines before number (found ∷ others) = found_lines before number found ++ all_lines before (number + 1) others

abbrev pub is_mistake : GrantLint → Bool
is_mistake found = found.nothing || (found.dead || (is_redundant found.standing || found.without_pool))

-- Ceph reads these grants of the text, and this is found of them
pub record AreFound (pools : Option (List Pool)) (caps : List ℕ) (all : List GrantLint) : Type 0 where
  pub list : List CephGrant
  pub reads : IsCephText caps list
  pub rights : Rights
  pub come_to : AreGrantsOf (ceph_flat list) rights.grants
  pub are : AreLintsIn pools rights (length list) all

-- what is found of a text's grants, or why Ceph reads none
abbrev pub IsFoundOf : Option (List Pool) → List ℕ → Result (Vec GrantLint Global) TextFault → Type 0
IsFoundOf pools caps (Ok all) = AreFound pools caps all.items
IsFoundOf pools caps (Err fault) = IsCephFaultOf caps fault

-- the lines of a text's grants; it fails where a check was asked for and there is a mistake
pub record IsCephLinted (pools : Option (List Pool)) (check : Bool) (caps text : List ℕ) (fails : Bool) : Type 0 where
  pub all : List GrantLint
  pub found : AreFound pools caps all
  pub printed : text ≡ or_nothing (all_lines [] 1 all)
  pub ends : fails ≡ (check && list_any is_mistake all)

-- Ceph refuses the text, which fails
pub record IsCephRefusal (caps text : List ℕ) (fails : Bool) : Type 0 where
  pub fault : TextFault
  pub is : IsCephFaultOf caps fault
  pub printed : text ≡ refused_text (fault_text fault)
  pub ends : fails ≡ true

-- what is printed of a text, and whether the command fails
abbrev pub IsCephLintAnswer : Option (List Pool) → Bool → List ℕ → List ℕ → Bool → Type 0
IsCephLintAnswer pools check caps text fails = IsCephLinted pools check caps text fails ⊎ IsCephRefusal caps text fails

-- the lines of an entity's grants, behind its name
pub record IsCephEntityLinted (pools : Option (List Pool)) (check : Bool) (name caps text : List ℕ) (fails : Bool) : Type 0 where
  pub all : List GrantLint
  pub found : AreFound pools caps all
  pub printed : text ≡ all_lines (shown_name name ++ codes " ") 1 all
  pub ends : fails ≡ (check && list_any is_mistake all)

-- an entity of no text, or of one that Ceph refuses, is left out
abbrev pub IsCephLeftOut : List ℕ → List ℕ → Bool → Type 0
IsCephLeftOut caps text fails = (fault : TextFault) × IsCephFaultOf caps fault × (text ≡ []) × (fails ≡ false)

-- what is printed of an entity of a name and a text
abbrev pub IsCephNameTold : Option (List Pool) → Bool → List ℕ → List ℕ → List ℕ → Bool → Type 0
IsCephNameTold pools check name caps text fails = IsCephEntityLinted pools check name caps text fails ⊎ IsCephLeftOut caps text fails

abbrev pub IsCephEntityTold : Option (List Pool) → Bool → Entity → List ℕ → Bool → Type 0
IsCephEntityTold pools check entity text fails = IsCephNameTold pools check (string_bytes entity.name) (string_bytes entity.osd) text fails

-- what is printed of some entities, in order, and whether the command fails, which it does where it fails for one
abbrev pub AreCephLinted : Option (List Pool) → Bool → List Entity → List ℕ → Bool → Type 0
AreCephLinted pools check entities text fails = AreAllTold (IsCephEntityTold pools check) entities text fails
