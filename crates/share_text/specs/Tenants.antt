-- Statement: contracts of public calls use it.
-- What is printed of what the entities of a file share (this project's profile). Every line ends with byte 10.
use Rattle.std.specs.Prelude.{ℕ, ◌≡◌, ◌⊎◌, ◌&&◌, ◌||◌, List, [], ◌∷◌, ◌++◌, Bool, true, false, Option, Some, None, Result, Ok, Err, ◌↔◌, IsTrue, codes}
use Rattle.serde_json.specs.Data.{Data, object, string, member, no_members}
use Rattle.grant_core.specs.Flat.{Flat}
use Rattle.request_types.specs.Target.{Target}
use Rattle.rights_core.specs.Rights.{Rights, live_grants}
use Rattle.verdict_text.specs.ShownName.{shown_name}
use Rattle.verdict_text.specs.Documents.{list_by, piece}
use Rattle.compare_text.specs.Request.{target_words}
use Rattle.compare_text.specs.RequestDocument.{target_example}
use Rattle.verdict_text.specs.declared.reading.TextFault.{TextFault}
use Rattle.share_text.specs.declared.holder.Holder.{Holder}
use Rattle.verdict_text.specs.declared.format.Format.{Format}
use Rattle.verdict_text.specs.declared.format.Format.TheVariants.{Text, Json}
use Rattle.share_core.specs.declared.pools.Pool.{Pool}
use Rattle.share_text.specs.Details.{is_brief}
use Rattle.share_text.specs.Everywhere.{ReadsAndWritesAll}
use Rattle.share_text.specs.Kinds.{IsSharedWithin, ShareWithin, is_written, kind_words}
use Rattle.share_text.specs.declared.detail.Detail.{Detail}
use Rattle.share_text.specs.declared.kind.Kind.{Kind}
use Rattle.share_text.specs.declared.kind.Kind.TheVariants.{WritesWrites, WritesReads, ReadsWrites, ReadsReads}
use Rattle.share_text.specs.declared.tenants.Strictness.{Strictness}
use Rattle.share_text.specs.declared.tenants.Tenant.{Tenant}

-- the tenant has the entity's name, a ticket of the grants that some address has, and a mark if these reach every object
abbrev pub IsTenant : Holder → Tenant → Type 0
IsTenant entity tenant =
    (tenant.name.now ≡ entity.name.now) × (rights : Rights) × (entity.read.now ≡ Ok rights)
    × (tenant.ticket.now.grants ≡ live_grants rights.grants) × (IsTrue tenant.everywhere ↔ ReadsAndWritesAll (live_grants rights.grants))

-- the entity's text grants nothing
abbrev pub IsUnjudged : Holder → Type 0
IsUnjudged entity = (fault : TextFault) × (entity.read.now ≡ Err fault)

abbrev pub IsTenantOrNone : Holder → Option Tenant → Type 0
IsTenantOrNone entity (Some tenant) = IsTenant entity tenant
IsTenantOrNone entity None = IsUnjudged entity

-- the entities whose texts have rights, in order; the others are left out
abbrev pub AreTenants : List Holder → List Tenant → Type 0
AreTenants [] tenants = tenants ≡ []
AreTenants (entity ∷ entities) tenants =
    ((tenant : Tenant) × (rest : List Tenant) × IsTenant entity tenant × AreTenants entities rest × (tenants ≡ tenant ∷ rest))
    ⊎ (IsUnjudged entity × AreTenants entities tenants)

-- The strongest kind in which two tenants share something: both write, or one writes what the other reads, the first one
-- first, or, where that is asked for, both read.
abbrev pub IsStrongest : Option (List Pool) → Bool → Flat → Flat → Option Kind → Type 0
IsStrongest pools reads ones others (Some WritesWrites) = ShareWithin pools WritesWrites ones others
IsStrongest pools reads ones others (Some WritesReads) = (¬ ShareWithin pools WritesWrites ones others) × ShareWithin pools WritesReads ones others
IsStrongest pools reads ones others (Some ReadsWrites) =
    (¬ ShareWithin pools WritesWrites ones others) × (¬ ShareWithin pools WritesReads ones others) × ShareWithin pools ReadsWrites ones others
IsStrongest pools reads ones others (Some ReadsReads) =
    (¬ ShareWithin pools WritesWrites ones others) × (¬ ShareWithin pools WritesReads ones others) × (¬ ShareWithin pools ReadsWrites ones others) × (reads ≡ true)
    × ShareWithin pools ReadsReads ones others
IsStrongest pools reads ones others None =
    (¬ ShareWithin pools WritesWrites ones others) × (¬ ShareWithin pools WritesReads ones others) × (¬ ShareWithin pools ReadsWrites ones others)
    × (reads ≡ true → ¬ ShareWithin pools ReadsReads ones others)

-- two names with words between and behind them, and a target that `osdgate verdict` takes
abbrev pub names_line : List ℕ → List ℕ → List ℕ → List ℕ → Target → List ℕ
names_line first between second behind target = shown_name first ++ (between ++ (shown_name second ++ (behind ++ (target_words target ++ codes "\n"))))

-- who writes stands first, where the other reads
abbrev pub pair_line : Kind → List ℕ → List ℕ → Target → List ℕ
pair_line WritesWrites one other target = names_line one (codes " and ") other (codes " write ") target
pair_line WritesReads one other target = names_line one (codes " writes what ") other (codes " reads ") target
pair_line ReadsWrites one other target = names_line other (codes " writes what ") one (codes " reads ") target
pair_line ReadsReads one other target = names_line one (codes " and ") other (codes " read ") target

-- two that share a target so, as a document: what the first one does, and then the second one
abbrev pub pair_document : Kind → List ℕ → List ℕ → Target → Data
pair_document kind first second target =
    object (member (codes "example") (target_example target) (member (codes "first") (string first)
    (member (codes "kind") (string (kind_words kind)) (member (codes "second") (string second) no_members))))

-- the same as a text or as a piece of a document
abbrev pub pair_by : Format → Kind → List ℕ → List ℕ → Target → List ℕ
pair_by Text kind one other target = pair_line kind one other target
pair_by Json kind one other target = piece (pair_document kind one other target)

-- what is reported of two tenants by a kind: nothing where no kind is given, else a target that they share by this
-- kind; a check fails where one of them writes
abbrev pub IsToldBy : Option (List Pool) → Strictness → Option Kind → Tenant → Tenant → List ℕ → Bool → Type 0
IsToldBy pools strictness None one other text fails = (text ≡ []) × (fails ≡ false)
IsToldBy pools strictness (Some kind) one other text fails =
    (target : Target) × IsSharedWithin pools kind one.ticket.now.grants other.ticket.now.grants target
    × (text ≡ pair_by strictness.format kind one.name.now other.name.now target) × (fails ≡ (strictness.check && is_written kind))

abbrev pub IsPairTold : Option (List Pool) → Strictness → Tenant → Tenant → List ℕ → Bool → Type 0
IsPairTold pools strictness one other text fails =
    (found : Option Kind) × IsStrongest pools strictness.reads one.ticket.now.grants other.ticket.now.grants found × IsToldBy pools strictness found one other text fails

-- what is reported of each tenant with those after it, in turn; it fails where it fails for one
abbrev pub InTurn : (Tenant → List Tenant → List ℕ → Bool → Type 0) → List Tenant → List ℕ → Bool → Type 0
InTurn IsTold [] text fails = (text ≡ []) × (fails ≡ false)
InTurn IsTold (one ∷ others) text fails =
    (front rest : List ℕ) × (first later : Bool) × IsTold one others front first × InTurn IsTold others rest later
    × (text ≡ front ++ rest) × (fails ≡ (first || later))

-- of two tenants of whom one reaches every object nothing is reported, where that is asked for
abbrev pub is_left_out : Detail → Tenant → Tenant → Bool
is_left_out detail one other = is_brief detail && (one.everywhere || other.everywhere)

-- whether a kind makes a check fail
abbrev pub is_some_written : Option Kind → Bool
is_some_written None = false
is_some_written (Some kind) = is_written kind

-- two that are left out fail as they do else, and no others are left out
abbrev pub IsToldUnless : Bool → Option (List Pool) → Strictness → Tenant → Tenant → List ℕ → Bool → Type 0
IsToldUnless true pools strictness one other text fails =
    (text ≡ []) × (found : Option Kind) × IsStrongest pools strictness.reads one.ticket.now.grants other.ticket.now.grants found × (fails ≡ (strictness.check && is_some_written found))
IsToldUnless false pools strictness one other text fails = IsPairTold pools strictness one other text fails

abbrev pub IsPairToldBy : Detail → Option (List Pool) → Strictness → Tenant → Tenant → List ℕ → Bool → Type 0
IsPairToldBy detail pools strictness one other text fails = IsToldUnless (is_left_out detail one other) pools strictness one other text fails

-- what is reported of a tenant with each of some others
abbrev pub IsToldWith : Detail → Option (List Pool) → Strictness → Tenant → List Tenant → List ℕ → Bool → Type 0
IsToldWith detail pools strictness one others text fails = InTurn (λ other behind. IsPairToldBy detail pools strictness one other) others text fails

-- what is printed of some entities, and whether the command fails: each pair once, in the file's order; where pools are given,
-- of their targets alone
abbrev pub AreTenantsTold : Detail → Option (List Pool) → Strictness → List Holder → List ℕ → Bool → Type 0
AreTenantsTold detail pools strictness entities text fails =
    (tenants : List Tenant) × AreTenants entities tenants × (told : List ℕ) × InTurn (IsToldWith detail pools strictness) tenants told fails
    × (text ≡ list_by (codes "pairs") strictness.format told)
