-- Refinement: only contracts inside the crate use it.
-- What is found of one entity.
use Rattle.std.specs.Prelude.{◌≡◌, List, true, Option, None, Some}
use Rattle.std.specs.List.{slice_get}
use Rattle.rights_core.specs.Rights.{NetworkGrant}
use Rattle.share_core.specs.declared.pools.Pool.{Pool}
use Rattle.rules_core.specs.Broken.{IsBreach, IsCrossing}
use Rattle.rules_core.specs.Demands.{AreApart, Obeys}
use Rattle.rules_core.specs.Rules.{Has, IsOne, IsRead, is_selected}
use Rattle.rules_core.specs.Subject.{Subject}
use Rattle.rules_core.specs.declared.apart.Crossing.{Crossing}
use Rattle.rules_core.specs.declared.checking.Finding.{Finding}
use Rattle.rules_core.specs.declared.checking.Finding.TheVariants.{Unread, Breach, Crossed}
use Rattle.rules_core.specs.declared.demand.Demand.{Demand}
use Rattle.rules_core.specs.declared.rule.Who.{Who}

-- of an entity on which something is demanded
abbrev pub IsEachFound : Demand → Option (List Pool) → List NetworkGrant → Subject → Option Finding → Type 0
IsEachFound demand pools region subject None = Has (Obeys demand pools region) subject
IsEachFound demand pools region subject (Some Unread) = subject.rights ≡ None
IsEachFound demand pools region subject (Some (Breach found)) = Has (λ grants. IsBreach demand pools region grants found) subject
IsEachFound demand pools region subject (Some (Crossed place crossing)) = ⊥

-- of one that may be among the others, with grants from which they are to be apart
abbrev pub IsCrossedWith : Option (List Pool) → List NetworkGrant → Who → Subject → Option Crossing → Type 0
IsCrossedWith pools grants others other None = is_selected others other.name ≡ true → IsRead other → Has (AreApart pools grants) other
IsCrossedWith pools grants others other (Some crossing) = (is_selected others other.name ≡ true) × Has (λ theirs. IsCrossing pools grants theirs crossing) other

-- of an entity with these grants and the others
abbrev pub IsCrossedFound : Option (List Pool) → List NetworkGrant → Who → List Subject → Option Finding → Type 0
IsCrossedFound pools grants others subjects None =
    (other : Subject) → IsOne subjects other → is_selected others other.name ≡ true → IsRead other → Has (AreApart pools grants) other
IsCrossedFound pools grants others subjects (Some Unread) = ⊥
IsCrossedFound pools grants others subjects (Some (Breach found)) = ⊥
IsCrossedFound pools grants others subjects (Some (Crossed place crossing)) =
    (other : Subject) × (slice_get subjects place ≡ Some other) × (is_selected others other.name ≡ true) × Has (λ theirs. IsCrossing pools grants theirs crossing) other
