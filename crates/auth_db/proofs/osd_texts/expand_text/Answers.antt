use Rattle.std.proofs.Common.{Ok, Err, Result, ◌≡◌, None, IfErr, OnOk, List, ℕ, refl, unwrap_or}
use Rattle.cap_grants.specs.declared.grant.Grant.{Grant}
use Rattle.cap_text.specs.Grammar.{Spells}
use Rattle.cap_text.specs.ReadText.{read_text}
use Rattle.grant_core.specs.declared.fault.ExpandFault.TheVariants as expansion
use Rattle.grant_core.specs.Flat.{Table}
use Rattle.grant_core.specs.Refusal.{expand_refusal}
use Rattle.auth_db.specs.declared.fault.AuthFault.{AuthFault}
use Rattle.auth_db.specs.Refusals.{RefusedOrMemory, TextRefuses, profile_fault, read_refusal}
use Rattle.auth_db.proofs.Judging.{refuses_by, refuses_kind}
use Rattle.auth_db.proofs.Told.{told_by, told_kind, told_none}
use Rattle.auth_db.proofs.osd_texts.expand_text.Goals as goal

-- what the list is refused by, the text is
list_refuses : {T : Type 0} (table : Table) (text : List ℕ) (grants : List Grant) (result : Result T AuthFault) → Spells text grants
    → IfErr result (λ fault. fault ≡ profile_fault (unwrap_or (expand_refusal table grants) expansion.OutOfMemory)) → IfErr result (TextRefuses table text)
list_refuses table text grants (Ok x) spells h = tt
list_refuses table text grants (Err fault) spells h = rw h (refuses_by table text grants (expand_refusal table grants) refl spells)

list_tells : {T : Type 0} (table : Table) (text : List ℕ) (grants : List Grant) (result : Result T AuthFault) → Spells text grants → OnOk result (expand_refusal table grants ≡ None)
    → IfErr result (λ fault. fault ≡ profile_fault (unwrap_or (expand_refusal table grants) expansion.OutOfMemory)) → RefusedOrMemory (read_refusal table (read_text text)) result
list_tells table text grants (Ok x) spells accepted h = told_none table text grants spells accepted
list_tells table text grants (Err fault) spells accepted h = rw h (told_by table text grants (expand_refusal table grants) refl spells)

pub returns-in-Err-clause-refused : goal.returns-in-Err-clause-refused
returns-in-Err-clause-refused c = rw c.text_fault.ensures (refuses_kind c.args.table.now c.args.text.now c.in-Err.fault c.in-Err.fault.kind c.in-Err.ensures.first c.in-Err.ensures.none)

pub returns-in-Err-clause-told : goal.returns-in-Err-clause-told
returns-in-Err-clause-told c = rw c.text_fault.ensures (told_kind c.args.table.now c.args.text.now c.in-Err.fault c.in-Err.fault.kind c.in-Err.ensures.first)

pub returns-in-Ok-clause-refused : goal.returns-in-Ok-clause-refused
returns-in-Ok-clause-refused c = list_refuses c.args.table.now c.args.text.now c.in-Ok.list c.expand_list.result c.in-Ok.ensures.list c.expand_list.ensures.refused

pub returns-in-Ok-clause-told : goal.returns-in-Ok-clause-told
returns-in-Ok-clause-told c = list_tells c.args.table.now c.args.text.now c.in-Ok.list c.expand_list.result c.in-Ok.ensures.list c.expand_list.ensures.accepted c.expand_list.ensures.refused
