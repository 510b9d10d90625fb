-- Statement: contracts of public calls use it.
-- Why a call on the users is refused: this project's profile.
use Rattle.std.specs.Prelude.{◌≡◌, ◌⊎◌, ℕ, List, [], ◌∷◌, Bool, not, ◌||◌, if◌then◌else◌, Option, None, Some, option_map, MatchOption, Result, Ok, Err, length, nat_le}
use Rattle.std.specs.Option.{option_or}
use Rattle.std.specs.Result.{result_err}
use Rattle.cap_text.specs.declared.fault.CapFault.{CapFault}
use Rattle.cap_grants.specs.declared.fault_kind.FaultKind.{FaultKind}
use Rattle.cap_grants.specs.declared.fault_kind.FaultKind.TheVariants as kinds
use Rattle.cap_grants.specs.declared.grant.Grant.{Grant}
use Rattle.cap_text.specs.Grammar.{Spells}
use Rattle.cap_text.specs.ReadText.{Read, read_text}
use Rattle.grant_core.specs.declared.fault.ExpandFault.{ExpandFault}
use Rattle.grant_core.specs.declared.fault.ExpandFault.TheVariants as expansion
use Rattle.grant_core.specs.Flat.{Table}
use Rattle.grant_core.specs.Refusal.{expand_refusal}
use Rattle.auth_db.specs.declared.caps.Caps.{Caps}
use Rattle.auth_db.specs.declared.db.Creation.{Creation}
use Rattle.auth_db.specs.declared.db.Creation.TheVariants.{There}
use Rattle.auth_db.specs.declared.fault.AuthFault.{AuthFault}
use Rattle.auth_db.specs.declared.fault.AuthFault.TheVariants.{BadName, Exists, NoEntity, CapsDiffer, BadCaps, BadProfile, OutOfMemory, Limit}
use Rattle.auth_db.specs.Names.{is_user_name}
use Rattle.auth_db.specs.Texts.{has_long_text, too_long, has_no_text, are_same_caps, IsGood, IsBadText}
use Rattle.auth_db.specs.Users.{Users, Database, Command, Add, GetOrCreate, SetCaps, Delete, user_at, has_user}

-- ---- what takes no memory to find

-- the fault of the first test that holds
abbrev pub first_of : List (Bool × AuthFault) → Option AuthFault
first_of [] = None
first_of (test ∷ tests) = if test.0 then Some test.1 else first_of tests

abbrev pub long_refusal : Caps → Option AuthFault
long_refusal caps = first_of ((has_long_text caps, BadCaps too_long) ∷ [])

-- why a user is not found
abbrev pub known_refusal : Users → List ℕ → Option AuthFault
known_refusal users name = first_of ((not (is_user_name name), BadName) ∷ (not (has_user users name), NoEntity) ∷ [])

-- why a user is not added, before its osd text is read
abbrev pub add_refusal : Users → List ℕ → Caps → Option AuthFault
add_refusal users name caps =
    first_of ((not (is_user_name name), BadName) ∷ (has_user users name, Exists) ∷ (nat_le 1024 (length users), Limit) ∷ (has_long_text caps, BadCaps too_long) ∷ [])

-- why a user's texts are not changed, before its osd text is read
abbrev pub caps_refusal : Users → List ℕ → Caps → Option AuthFault
caps_refusal users name caps =
    first_of ((not (is_user_name name), BadName) ∷ (not (has_user users name), NoEntity) ∷ (has_long_text caps, BadCaps too_long) ∷ [])

-- what the creation of a user who exists answers
abbrev pub again : List ℕ → Caps → Caps → Result Creation AuthFault
again name stored caps =
    if is_user_name name then (if has_no_text caps || are_same_caps caps stored then Ok There else Err CapsDiffer) else Err BadName

-- ---- what an osd text is refused by

-- its first fault, or why its list is not expanded; out of memory may come in place of either
abbrev pub TextRefuses : Table → List ℕ → AuthFault → Type 0
TextRefuses table text OutOfMemory = Unit {0}
TextRefuses table text (BadCaps fault) = IsBadText text fault
TextRefuses table text (BadProfile fault) = (grants : List Grant) × Spells text grants × (expand_refusal table grants ≡ Some fault)
TextRefuses table text fault = ⊥

abbrev pub OsdRefuses : Table → Option (List ℕ) → AuthFault → Type 0
OsdRefuses table None fault = fault ≡ OutOfMemory
OsdRefuses table (Some text) fault = TextRefuses table text fault

-- the earlier refusal where one holds, and else the osd text's
abbrev pub Refuses : Option AuthFault → Table → Option (List ℕ) → AuthFault → Type 0
Refuses (Some first) table osd fault = fault ≡ first
Refuses None table osd fault = OsdRefuses table osd fault

-- Accepted only where no refusal holds, so that the osd text is good; refused by the first that holds.
abbrev pub Judged : {T : Type 0} → Option AuthFault → Table → Option (List ℕ) → Result T AuthFault → Type 0
Judged first table osd (Ok x) = (first ≡ None) × IsGood table osd
Judged first table osd (Err fault) = Refuses first table osd fault

-- ---- the refusal of a command, as a function

-- what reading an osd text tells, or why its list is not expanded
abbrev pub read_refusal : Table → Read → Option AuthFault
read_refusal table (Ok grants) = option_map BadProfile (expand_refusal table grants)
read_refusal table (Err fault) = Some (BadCaps fault)

-- why an osd text is not taken
abbrev pub osd_refusal : Table → Option (List ℕ) → Option AuthFault
osd_refusal table None = None
osd_refusal table (Some text) = read_refusal table (read_text text)

-- why a user is not made, who has these texts or is not there
abbrev pub creation_refusal : Database → List ℕ → Caps → Option Caps → Option AuthFault
creation_refusal database name caps None = option_or (add_refusal database.users name caps) (osd_refusal database.table caps.osd)
creation_refusal database name caps (Some stored) = result_err (again name stored caps)

-- why a command is refused, where memory does not want
abbrev pub auth_refusal : Database → Command → Option AuthFault
auth_refusal database (Add name caps) = option_or (add_refusal database.users name caps) (osd_refusal database.table caps.osd)
auth_refusal database (GetOrCreate name caps) = creation_refusal database name caps (user_at database.users name)
auth_refusal database (SetCaps name caps) = option_or (caps_refusal database.users name caps) (osd_refusal database.table caps.osd)
auth_refusal database (Delete name) = known_refusal database.users name

-- accepted only where there is no such refusal; a fault is that refusal, or out of memory
abbrev pub RefusedOrMemory : {T : Type 0} → Option AuthFault → Result T AuthFault → Type 0
RefusedOrMemory refusal (Ok x) = refusal ≡ None
RefusedOrMemory refusal (Err fault) = (fault ≡ OutOfMemory) ⊎ (refusal ≡ Some fault)

-- An osd text that is not refused is good, and one that is refused is refused by what this tells: its first fault, or why its list is not expanded.
abbrev pub RefusalsAreTheTexts : Type 0
RefusalsAreTheTexts = (table : Table) (osd : Option (List ℕ)) → MatchOption (osd_refusal table osd) (IsGood table osd) (OsdRefuses table osd)

-- ---- what the layers below refuse, as a fault of the users

abbrev pub fault_of_kind : CapFault → FaultKind → AuthFault
fault_of_kind fault kinds.OutOfMemory = OutOfMemory
fault_of_kind fault kind = BadCaps fault

-- out of memory becomes this layer's own fault
abbrev pub text_fault : CapFault → AuthFault
text_fault fault = fault_of_kind fault fault.kind

abbrev pub profile_fault : ExpandFault → AuthFault
profile_fault expansion.OutOfMemory = OutOfMemory
profile_fault fault = BadProfile fault
