-- Refinement: only contracts inside the crate use it.
-- How what was read of a grant is kept.
use Rattle.std.specs.Prelude.{ℕ, List, None, Some}
use Rattle.cap_grants.specs.declared.grant.Access.{Access}
use Rattle.cap_grants.specs.declared.grant.Access.TheVariants.{All}
use Rattle.cap_grants.specs.declared.grant.AllowGrant.{AllowGrant}
use Rattle.cap_grants.specs.declared.grant.Part.{Part}
use Rattle.cap_grants.specs.declared.grant.Flags.{Flags}
use Rattle.cap_text.specs.declared.stage.ClauseSet.{ClauseSet}
use Rattle.cap_text.specs.declared.stage.ValueFor.{ValueFor}
use Rattle.cap_text.specs.Draft.{Head, Draft}
use Rattle.cap_text.specs.Draft as heads
use Rattle.cap_text.specs.declared.draft.Kind.{Kind}
use Rattle.cap_text.specs.declared.draft.Kind.TheVariants as kinds

abbrev pub empty_allow : AllowGrant
empty_allow = record { access = All; pool = None; namespace = None; prefix = None; tag = None }

abbrev pub head_of : Kind → List ℕ → Access → Head
head_of kinds.Open profile access = heads.Allow None
head_of kinds.Allow profile access = heads.Allow (Some access)
head_of kinds.Profile profile access = heads.Profile profile

-- the draft that a sheet is
abbrev pub draft_of : Kind → List ℕ → AllowGrant → Draft
draft_of k profile g =
    record { head = head_of k profile g.access; pool = g.pool; namespace = g.namespace; prefix = g.prefix; tag = g.tag }

-- what a sheet holds: a draft, its access and its profile, which count where its head says so, a word and a key that belong to a clause which is not whole, the clauses that may still come,
-- the flags that were read, and what the next value is for
pub record Page : Type 0 where
  pub draft : Draft
  pub access : Access
  pub profile : List ℕ
  pub word : List ℕ
  pub key : Part
  pub may : ClauseSet
  pub flags : Flags
  pub slot : ValueFor

abbrev pub page_of : Kind → List ℕ → AllowGrant → List ℕ → Part → ClauseSet → Flags → ValueFor → Page
page_of k profile g word key may flags slot =
    record { draft = draft_of k profile g; access = g.access; profile = profile; word = word; key = key; may = may; flags = flags; slot = slot }
