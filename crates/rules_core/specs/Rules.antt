-- Statement: contracts of public calls use it.
-- Rules that the entities of a cluster must keep, and what is found of one.
-- Source: this project's profile.
use Rattle.std.specs.Prelude.{◌≡◌, ◌≢◌, ◌⊎◌, ℕ, ◌+◌, ◌-◌, ◌==◌, take, length, List, [], ◌∷◌, Bool, true, false, not, ◌&&◌, ◌||◌, Option, None, Some, nat_eq, if◌then◌else◌}
use Rattle.std.specs.List.{list_any, slice_get, starts_with}
use Rattle.std.specs.Option.{option_map_or}
use Rattle.std.specs.Str.{bytes_eq}
use Rattle.rights_core.specs.Rights.{NetworkGrant, Rights}
use Rattle.share_core.specs.declared.pools.Pool.{Pool}
use Rattle.rules_core.specs.Broken.{IsBreach, IsCrossing}
use Rattle.rules_core.specs.Demands.{AreApart, Obeys}
use Rattle.rules_core.specs.declared.checking.Finding.{Finding}
use Rattle.rules_core.specs.declared.checking.Finding.TheVariants.{Unread, Breach, Crossed}
use Rattle.rules_core.specs.declared.checking.Found.{Found}
use Rattle.rules_core.specs.declared.checking.Outcome.{Outcome}
use Rattle.rules_core.specs.declared.checking.Outcome.TheVariants.{Nobody, Kept, Broken}
use Rattle.rules_core.specs.declared.rule.Rule.{Rule}
use Rattle.rules_core.specs.declared.rule.Rule.TheVariants.{Each, Apart}
use Rattle.rules_core.specs.declared.rule.Who.{Who}
pub use Rattle.rules_core.specs.Subject.{Subject}

-- the last byte is `*`
abbrev pub is_open : List ℕ → Bool
is_open word = option_map_or (λ byte. byte == 42) (slice_get word (length word - 1)) false

-- a word means the name that it is, or where it ends in `*` each name that begins with what is before that
abbrev pub means : List ℕ → List ℕ → Bool
means word name = if is_open word then starts_with nat_eq name (take (length word - 1) word) else bytes_eq word name

-- an entity that is named, and not taken out
abbrev pub is_selected : Who → List ℕ → Bool
is_selected who name = list_any (λ word. means word name) who.names.items && not (list_any (λ word. means word name) who.except.items)

-- a rule names the entity
abbrev pub concerns : Rule → List ℕ → Bool
concerns (Each demand who region) name = is_selected who name
concerns (Apart ones others) name = is_selected ones name || is_selected others name

abbrev pub somebody : Who → List Subject → Bool
somebody who subjects = list_any (λ (subject : Subject). is_selected who subject.name) subjects

-- each side of a rule names some entity
abbrev pub is_of_somebody : Rule → List Subject → Bool
is_of_somebody (Each demand who region) subjects = somebody who subjects
is_of_somebody (Apart ones others) subjects = somebody ones subjects && somebody others subjects

-- the entity's text could be read, and its rights are such
abbrev pub Has : (List NetworkGrant → Type 0) → Subject → Type 0
Has P subject = (rights : Rights) × (subject.rights ≡ Some rights) × P rights.grants

-- both could be read, and neither writes what the other reads or writes
abbrev pub HaveApart : Option (List Pool) → Subject → Subject → Type 0
HaveApart pools one other = Has (λ grants. Has (AreApart pools grants) other) one

-- one of the entities
abbrev pub IsOne : List Subject → Subject → Type 0
IsOne subjects subject = (k : ℕ) × (slice_get subjects k ≡ Some subject)

-- the rule holds of the entities, as far as it names some
abbrev pub IsKept : Option (List Pool) → Rule → List Subject → Type 0
IsKept pools (Each demand who region) subjects = (subject : Subject) → IsOne subjects subject → is_selected who subject.name ≡ true → Has (Obeys demand pools region.grants) subject
IsKept pools (Apart ones others) subjects =
    (one other : Subject) → IsOne subjects one → IsOne subjects other → is_selected ones one.name ≡ true → is_selected others other.name ≡ true → HaveApart pools one other

-- the rule holds: it names somebody, and is kept
abbrev pub Holds : Option (List Pool) → Rule → List Subject → Type 0
Holds pools rule subjects = (is_of_somebody rule subjects ≡ true) × IsKept pools rule subjects

-- the entity's text could be read
abbrev pub IsRead : Subject → Type 0
IsRead subject = (rights : Rights) × (subject.rights ≡ Some rights)

-- what is found of an entity by a rule: nothing, that its text could not be read, or requests that break the rule
abbrev pub IsFinding : Option (List Pool) → Rule → List Subject → Subject → Option Finding → Type 0
IsFinding pools (Each demand who region) subjects subject None = is_selected who subject.name ≡ true → Has (Obeys demand pools region.grants) subject
IsFinding pools (Each demand who region) subjects subject (Some Unread) = (is_selected who subject.name ≡ true) × (subject.rights ≡ None)
IsFinding pools (Each demand who region) subjects subject (Some (Breach found)) =
    (is_selected who subject.name ≡ true) × Has (λ grants. IsBreach demand pools region.grants grants found) subject
IsFinding pools (Each demand who region) subjects subject (Some (Crossed place crossing)) = ⊥
IsFinding pools (Apart ones others) subjects subject None =
    (concerns (Apart ones others) subject.name ≡ true → IsRead subject)
    × (is_selected ones subject.name ≡ true → (other : Subject) → IsOne subjects other → is_selected others other.name ≡ true → IsRead other → HaveApart pools subject other)
IsFinding pools (Apart ones others) subjects subject (Some Unread) = (concerns (Apart ones others) subject.name ≡ true) × (subject.rights ≡ None)
IsFinding pools (Apart ones others) subjects subject (Some (Breach found)) = ⊥
IsFinding pools (Apart ones others) subjects subject (Some (Crossed place crossing)) =
    (is_selected ones subject.name ≡ true) × (other : Subject) × (slice_get subjects place ≡ Some other) × (is_selected others other.name ≡ true)
    × Has (λ grants. Has (λ theirs. IsCrossing pools grants theirs crossing) other) subject

-- what is found of each of these entities, the first of which is at this place: those of which nothing is found are left out
abbrev pub AreFound : Option (List Pool) → Rule → List Subject → ℕ → List Subject → List Found → Type 0
AreFound pools rule all place [] founds = founds ≡ []
AreFound pools rule all place (subject ∷ subjects) founds =
    (IsFinding pools rule all subject None × AreFound pools rule all (place + 1) subjects founds)
    ⊎ ((finding : Finding) × (rest : List Found) × IsFinding pools rule all subject (Some finding) × (founds ≡ record { place = place; finding = finding } ∷ rest)
    × AreFound pools rule all (place + 1) subjects rest)

-- the rule names nobody, holds, or this is found
abbrev pub IsOutcome : Option (List Pool) → Rule → List Subject → Outcome → Type 0
IsOutcome pools rule subjects Nobody = is_of_somebody rule subjects ≡ false
IsOutcome pools rule subjects Kept = Holds pools rule subjects
IsOutcome pools rule subjects (Broken founds) =
    (is_of_somebody rule subjects ≡ true) × (founds.items ≢ []) × AreFound pools rule subjects 0 subjects founds.items
