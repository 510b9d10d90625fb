-- Statement: contracts of public calls use it.
-- What a capability text spells, beside its rights or its fault.
use Rattle.std.specs.Prelude.{ℕ, ◌≡◌, ◌≤◌, List, [], ◌∷◌, Option, None, Ok, Err, length}
use Rattle.cap_text.specs.Grammar.{Spells}
use Rattle.cap_grants.specs.declared.grant.Grant.{Grant}
use Rattle.ceph_text.specs.Profiles.{ceph_flat}
use Rattle.ceph_text.specs.Texts.{IsCephText}
use Rattle.ceph_text.specs.declared.grant.CephGrant.{CephGrant}
use Rattle.grant_core.specs.BuiltIn.{built_in}
use Rattle.grant_core.specs.Flat.{flat}
use Rattle.grant_core.specs.Refusal.{expand_refusal}
use Rattle.rights_core.specs.Rights.{Rights}
use Rattle.verdict_text.specs.Reading.{AreGrantsOf, Reading, rights_of}
use Rattle.verdict_text.specs.declared.reading.Rules.{Rules}
use Rattle.verdict_text.specs.declared.reading.Rules.TheVariants.{Project, Ceph}
use Rattle.verdict_text.specs.declared.reading.Spelled.{Spelled}
use Rattle.verdict_text.specs.declared.reading.Spelled.TheVariants.{Nothing, Listed, Counted}

abbrev pub IsNothing : Spelled → Type 0
IsNothing Nothing = Unit {0}
IsNothing (Listed grants) = ⊥
IsNothing (Counted count) = ⊥

-- this list, which expands to these rights
abbrev pub IsListOf : List Grant → Option ℕ → Rights → Spelled → Type 0
IsListOf grants until rights Nothing = ⊥
IsListOf grants until rights (Listed list) = (list ≡ grants) × (expand_refusal built_in grants ≡ None) × (rights ≡ rights_of (flat built_in grants) until)
IsListOf grants until rights (Counted count) = ⊥

-- what a list that was read spells, which is nothing where it is not expanded
abbrev pub IsListSpelling : List Grant → Option ℕ → Reading → Spelled → Type 0
IsListSpelling grants until (Ok rights) spelled = IsListOf grants until rights spelled
IsListSpelling grants until (Err fault) spelled = IsNothing spelled

abbrev pub IsProjectSpelling : List ℕ → Option ℕ → Reading → Spelled → Type 0
IsProjectSpelling caps until (Ok rights) spelled = (grants : List Grant) × Spells caps grants × IsListOf grants until rights spelled
IsProjectSpelling caps until (Err fault) spelled = IsNothing spelled

-- ---- by Ceph's rules

-- the number of these grants, which expand to these rights
abbrev pub IsCountOf : List CephGrant → Rights → Spelled → Type 0
IsCountOf list rights Nothing = ⊥
IsCountOf list rights (Listed grants) = ⊥
IsCountOf list rights (Counted count) = (count ≡ length list) × (length list ≤ 4096) × AreGrantsOf (ceph_flat list) rights.grants

-- what a list that was read spells, which is nothing where it expands to too many grants
abbrev pub IsCephListSpelling : List CephGrant → Reading → Spelled → Type 0
IsCephListSpelling list (Ok rights) spelled = IsCountOf list rights spelled
IsCephListSpelling list (Err fault) spelled = IsNothing spelled

abbrev pub IsCephTextSpelling : List ℕ → Reading → Spelled → Type 0
IsCephTextSpelling caps (Ok rights) spelled = (list : List CephGrant) × IsCephText caps list × IsCountOf list rights spelled
IsCephTextSpelling caps (Err fault) spelled = IsNothing spelled

-- no text spells nothing
abbrev pub IsCephSpelling : List ℕ → Reading → Spelled → Type 0
IsCephSpelling [] read spelled = IsNothing spelled
IsCephSpelling (byte ∷ bytes) read spelled = IsCephTextSpelling (byte ∷ bytes) read spelled

-- ---- by either

-- what a text that was read spells
abbrev pub IsSpelling : Rules → List ℕ → Option ℕ → Reading → Spelled → Type 0
IsSpelling Project caps until read spelled = IsProjectSpelling caps until read spelled
IsSpelling Ceph caps until read spelled = IsCephSpelling caps read spelled

-- What is kept of what a text that was read spells: all of it, or nothing.
abbrev pub IsKept : Rules → List ℕ → Option ℕ → Reading → Spelled → Type 0
IsKept rules caps until read Nothing = Unit {0}
IsKept rules caps until read (Listed grants) = IsSpelling rules caps until read (Listed grants)
IsKept rules caps until read (Counted count) = IsSpelling rules caps until read (Counted count)
