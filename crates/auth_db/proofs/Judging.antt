-- Refusals put together, over plain variables.
use Rattle.std.proofs.Common.{◌≡◌, ℕ, ◌<◌, List, length, nat_le, not, Bool, true, false, cond, Option, None, Some, Result, Ok, Err, IfOk, refl, sym, ap, subst, arith, unwrap_or}
use Rattle.std.proofs.lemmas.Bool.Decides.{nat_tests}
use Rattle.cap_text.specs.declared.fault.CapFault.{CapFault}
use Rattle.cap_grants.specs.declared.fault_kind.FaultKind.{FaultKind}
use Rattle.cap_grants.specs.declared.fault_kind.FaultKind.TheVariants as kinds
use Rattle.cap_grants.specs.declared.grant.Grant.{Grant}
use Rattle.cap_text.specs.Grammar.{Spells}
use Rattle.cap_text.specs.Faults.{MemoryOr, IsFirstFault}
use Rattle.grant_core.specs.declared.fault.ExpandFault.{ExpandFault}
use Rattle.grant_core.specs.declared.fault.ExpandFault.TheVariants as expansion
use Rattle.grant_core.specs.Flat.{Table, Flat}
use Rattle.grant_core.specs.Refusal.{expand_refusal}
use Rattle.auth_db.specs.declared.fault.AuthFault.{AuthFault}
use Rattle.auth_db.specs.declared.fault.AuthFault.TheVariants.{BadName, Exists, NoEntity, Limit, BadCaps}
use Rattle.auth_db.specs.declared.caps.Caps.{Caps}
use Rattle.verdict_core.specs.Ticket.{Ticket}
use Rattle.auth_db.specs.Texts.{SpellsNothing, IsTicket, ComesTo, has_long_text, too_long}
use Rattle.auth_db.specs.Users.{Users, has_user}
use Rattle.auth_db.specs.Names.{is_user_name}
use Rattle.auth_db.specs.Refusals.{TextRefuses, fault_of_kind, profile_fault, add_refusal, caps_refusal, long_refusal}

-- what reading refuses
pub refuses_kind : (table : Table) (text : List ℕ) (fault : CapFault) (kind : FaultKind)
    → MemoryOr kind fault.at (IsFirstFault text fault) → MemoryOr kind fault.at (SpellsNothing text) → TextRefuses table text (fault_of_kind fault kind)
refuses_kind table text fault kinds.OutOfMemory first none = tt
refuses_kind table text fault kinds.TooLong first none = (first, none)
refuses_kind table text fault kinds.TooManyGrants first none = (first, none)
refuses_kind table text fault kinds.UnknownWord first none = (first, none)
refuses_kind table text fault kinds.BadAccess first none = (first, none)
refuses_kind table text fault kinds.BadMatch first none = (first, none)
refuses_kind table text fault kinds.BadWord first none = (first, none)
refuses_kind table text fault kinds.NetworkClause first none = (first, none)

-- what expansion refuses
refuses_some : (table : Table) (text : List ℕ) (grants : List Grant) (fault : ExpandFault) → Spells text grants → expand_refusal table grants ≡ Some fault → TextRefuses table text (profile_fault fault)
refuses_some table text grants expansion.OutOfMemory spells is = tt
refuses_some table text grants (expansion.UnknownProfile place) spells is = (grants, spells, is)
refuses_some table text grants expansion.DuplicateProfile spells is = (grants, spells, is)
refuses_some table text grants (expansion.TagInProfile place) spells is = (grants, spells, is)
refuses_some table text grants expansion.TooManyProfiles spells is = (grants, spells, is)
refuses_some table text grants expansion.TooLarge spells is = (grants, spells, is)

pub refuses_by : (table : Table) (text : List ℕ) (grants : List Grant) (refusal : Option ExpandFault) → expand_refusal table grants ≡ refusal → Spells text grants → TextRefuses table text (profile_fault (unwrap_or refusal expansion.OutOfMemory))
refuses_by table text grants None is spells = tt
refuses_by table text grants (Some fault) is spells = refuses_some table text grants fault spells is

pub refuses_list : (table : Table) (text : List ℕ) (grants : List Grant) (fault : ExpandFault) → Spells text grants → fault ≡ unwrap_or (expand_refusal table grants) expansion.OutOfMemory → TextRefuses table text (profile_fault fault)
refuses_list table text grants fault spells is = rw is (refuses_by table text grants (expand_refusal table grants) refl spells)

-- ---- what is known where nothing computed refuses

fresh_by : (a b d : Bool) (rest : Option AuthFault) → cond a (Some BadName) (cond b (Some Exists) (cond d (Some Limit) rest)) ≡ None → (b ≡ false) × (d ≡ false)
fresh_by true b d rest h = absurd (cc)
fresh_by false true d rest h = absurd (cc)
fresh_by false false true rest h = absurd (cc)
fresh_by false false false rest h = (refl, refl)

below_limit : (n : ℕ) → nat_le 1024 n ≡ false → n < 1024
below_limit n h = grind (arith, nat_tests)

pub fresh_name : (users : Users) (name : List ℕ) (caps : Caps) → add_refusal users name caps ≡ None → has_user users name ≡ false
fresh_name users name caps h = (fresh_by (not (is_user_name name)) (has_user users name) (nat_le 1024 (length users)) (long_refusal caps) h).0

pub has_room : (users : Users) (name : List ℕ) (caps : Caps) → add_refusal users name caps ≡ None → length users < 1024
has_room users name caps h = below_limit (length users) ((fresh_by (not (is_user_name name)) (has_user users name) (nat_le 1024 (length users)) (long_refusal caps) h).1)

there_by : (a b : Bool) (rest : Option AuthFault) → cond a (Some BadName) (cond (not b) (Some NoEntity) rest) ≡ None → b ≡ true
there_by true b rest h = absurd (cc)
there_by false true rest h = refl
there_by false false rest h = absurd (cc)

pub known_name : (users : Users) (name : List ℕ) (caps : Caps) → caps_refusal users name caps ≡ None → has_user users name ≡ true
known_name users name caps h = there_by (not (is_user_name name)) (has_user users name) (long_refusal caps) h

passed : (test : Bool) (fault : AuthFault) (rest : Option AuthFault) → cond test (Some fault) rest ≡ None → (test ≡ false) × (rest ≡ None)
passed true fault rest h = absurd (cc)
passed false fault rest h = (refl, h)

not_false : (b : Bool) → not b ≡ false → b ≡ true
not_false true h = refl
not_false false h = absurd (cc)

-- a user who may be added has a user's name, and no text that is too long
pub added_user : (users : Users) (name : List ℕ) (caps : Caps) → add_refusal users name caps ≡ None → (is_user_name name ≡ true) × (has_long_text caps ≡ false)
added_user users name caps h =
    let named = passed (not (is_user_name name)) BadName _ h in
    let fresh = passed (has_user users name) Exists _ named.1 in
    let room = passed (nat_le 1024 (length users)) Limit _ fresh.1 in
    (not_false (is_user_name name) named.0, (passed (has_long_text caps) (BadCaps too_long) None room.1).0)

-- so does one whose texts may be changed
pub changed_user : (users : Users) (name : List ℕ) (caps : Caps) → caps_refusal users name caps ≡ None → (is_user_name name ≡ true) × (has_long_text caps ≡ false)
changed_user users name caps h =
    let named = passed (not (is_user_name name)) BadName _ h in
    let there = passed (not (has_user users name)) NoEntity _ named.1 in
    (not_false (is_user_name name) named.0, (passed (has_long_text caps) (BadCaps too_long) None there.1).0)

-- ---- the ticket of a text that is there

pub is_ticket : (table : Table) (osd : Option (List ℕ)) (text read : List ℕ) (tree : Flat) (until : Option ℕ) (ticket : Ticket) → osd ≡ Some text → read ≡ text → ComesTo table read tree
    → ticket ≡ record { grants = tree; until = until } → IsTicket table osd until ticket
is_ticket table osd text read tree until ticket some same of is =
    rw some (subst (λ u. ComesTo table u ticket.grants) same (subst (ComesTo table read) (sym (ap (λ (t : Ticket). t.grants) is)) of), ap (λ (t : Ticket). t.until) is)
