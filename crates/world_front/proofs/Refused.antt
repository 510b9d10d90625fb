-- Why a call of the front is refused.
use Rattle.std.proofs.Common.{subst, ◌≡◌, ◌∙◌, ◌⊎◌, inl, inr, ℕ, ◌||◌, Bool, true, false, cond, List, Option, Some, None, Result, Ok, Err, unwrap_or, refl, sym, ap}
use Rattle.std.specs.Option.{option_map}
use Rattle.std.specs.Result.{IsErrAnd}
use Rattle.auth_db.specs.declared.fault.AuthFault.{AuthFault}
use Rattle.auth_db.specs.declared.fault.AuthFault.TheVariants as auth_fault
use Rattle.auth_db.specs.declared.caps.Caps.{Caps}
use Rattle.auth_db.specs.declared.db.Creation.{Creation}
use Rattle.auth_db.specs.declared.db.Creation.TheVariants as creation
use Rattle.std.specs.Prelude.{IfSome, IsNone, IfOk}
use Rattle.verdict_core.specs.Ticket.{Ticket}
use Rattle.auth_db.specs.Names.{is_user_name}
use Rattle.auth_db.specs.Texts.{has_no_text, are_same_caps}
use Rattle.auth_db.specs.Users.{Database, HasTicket}
use Rattle.auth_db.specs.Refusals.{again}
use Rattle.map_core.specs.declared.fault.MapFault.{MapFault}
use Rattle.map_core.specs.declared.fault.MapFault.TheVariants as map_fault
use Rattle.world_front.specs.Event.{Made, There, Fault, OutOfMemory, OfUsers, OfMap}
use Rattle.world_events.specs.Faults.{users_fault, fault_of_map}
use Rattle.world_front.specs.ControlPlane.{told_creation, ticket_with, ticket_for}
use Rattle.world_front.specs.Refusing.{RefusedOrMemory}
use Rattle.world_front.proofs.Tickets.{tickets_are_read}

-- ---- users

pub users_refused : (refusal : Option AuthFault) (fault : AuthFault) (seen : Fault) → seen ≡ users_fault fault → (fault ≡ auth_fault.OutOfMemory) ⊎ (refusal ≡ Some fault)
    → (seen ≡ OutOfMemory) ⊎ (option_map OfUsers refusal ≡ Some seen)
users_refused refusal fault seen is (inl memory) = inl (is ∙ ap users_fault memory)
users_refused refusal fault seen is (inr refused) = go fault is refused
  where
    named : (f : AuthFault) → refusal ≡ Some f → seen ≡ OfUsers f → option_map OfUsers refusal ≡ Some seen
    named f r e = ap (λ o. option_map OfUsers o) r ∙ ap (λ v. Some v) (sym e)

    go : (f : AuthFault) → seen ≡ users_fault f → refusal ≡ Some f → (seen ≡ OutOfMemory) ⊎ (option_map OfUsers refusal ≡ Some seen)
    go auth_fault.OutOfMemory e r = inl e
    go auth_fault.BadName e r = inr (named auth_fault.BadName r e)
    go auth_fault.Exists e r = inr (named auth_fault.Exists r e)
    go auth_fault.NoEntity e r = inr (named auth_fault.NoEntity r e)
    go auth_fault.CapsDiffer e r = inr (named auth_fault.CapsDiffer r e)
    go (auth_fault.BadCaps f) e r = inr (named (auth_fault.BadCaps f) r e)
    go (auth_fault.BadProfile f) e r = inr (named (auth_fault.BadProfile f) r e)
    go auth_fault.Limit e r = inr (named auth_fault.Limit r e)

pub users_exit : {T : Type 0} (r : Result T Fault) (refusal : Option AuthFault) (fault : AuthFault) → IsErrAnd r (λ seen. seen ≡ users_fault fault) → (fault ≡ auth_fault.OutOfMemory) ⊎ (refusal ≡ Some fault)
    → RefusedOrMemory (option_map OfUsers refusal) r
users_exit (Ok x) refusal fault is why = absurd is
users_exit (Err seen) refusal fault is why = users_refused refusal fault seen is why

-- ---- the map and vectors

pub map_refused : (refusal : Option MapFault) (fault : MapFault) (seen : Fault) → seen ≡ fault_of_map fault → (fault ≡ map_fault.OutOfMemory) ⊎ (refusal ≡ Some fault)
    → (seen ≡ OutOfMemory) ⊎ (option_map OfMap refusal ≡ Some seen)
map_refused refusal fault seen is (inl memory) = inl (is ∙ ap fault_of_map memory)
map_refused refusal fault seen is (inr refused) = go fault is refused
  where
    named : (f : MapFault) → refusal ≡ Some f → seen ≡ OfMap f → (seen ≡ OutOfMemory) ⊎ (option_map OfMap refusal ≡ Some seen)
    named f r e = inr (ap (λ o. option_map OfMap o) r ∙ ap (λ v. Some v) (sym e))

    go : (f : MapFault) → seen ≡ fault_of_map f → refusal ≡ Some f → (seen ≡ OutOfMemory) ⊎ (option_map OfMap refusal ≡ Some seen)
    go map_fault.OutOfMemory e r = inl e
    go map_fault.PoolExists e r = named map_fault.PoolExists r e
    go map_fault.NoPool e r = named map_fault.NoPool r e
    go map_fault.NoApplication e r = named map_fault.NoApplication r e
    go map_fault.NoKey e r = named map_fault.NoKey r e
    go map_fault.NoDaemon e r = named map_fault.NoDaemon r e
    go map_fault.AlreadySo e r = named map_fault.AlreadySo r e
    go map_fault.Limit e r = named map_fault.Limit r e
    go map_fault.BadName e r = named map_fault.BadName r e
    go map_fault.NoGroup e r = named map_fault.NoGroup r e
    go map_fault.NoEpoch e r = named map_fault.NoEpoch r e

pub map_exit : {T : Type 0} (r : Result T Fault) (refusal : Option MapFault) (fault : MapFault) → IsErrAnd r (λ seen. seen ≡ fault_of_map fault) → (fault ≡ map_fault.OutOfMemory) ⊎ (refusal ≡ Some fault)
    → RefusedOrMemory (option_map OfMap refusal) r
map_exit (Ok x) refusal fault is why = absurd is
map_exit (Err seen) refusal fault is why = map_refused refusal fault seen is why

-- a fault that is passed on
pub same_exit : {T : Type 0} (r : Result T Fault) (refusal : Option Fault) (fault : Fault) → IsErrAnd r (λ seen. seen ≡ fault) → (fault ≡ OutOfMemory) ⊎ (refusal ≡ Some fault) → RefusedOrMemory refusal r
same_exit (Ok x) refusal fault is why = absurd is
same_exit (Err seen) refusal fault is why = subst (λ f. (f ≡ OutOfMemory) ⊎ (refusal ≡ Some f)) (sym is) why

-- the fault is the refusal that comes first, or out of memory
pub first_or_memory : {X : Type 0} (refusal : Option X) (memory fault : X) → fault ≡ unwrap_or refusal memory → (fault ≡ memory) ⊎ (refusal ≡ Some fault)
first_or_memory None memory fault is = inl is
first_or_memory (Some x) memory fault is = inr (ap (λ v. Some v) (sym is))

-- what a creation tells
pub told_made : (found : Option Caps) (name : List ℕ) (caps : Caps) (r : Result Creation AuthFault) → r ≡ Ok creation.Made → IfSome found (λ stored. r ≡ again name stored caps) → Made ≡ told_creation found
told_made None name caps r is there = refl
told_made (Some stored) name caps r is there = go (is_user_name name) (has_no_text caps || are_same_caps caps stored) (sym is ∙ there)
  where
    go : (a b : Bool) → Ok creation.Made ≡ cond a (cond b (Ok creation.There) (Err auth_fault.CapsDiffer)) (Err auth_fault.BadName) → Made ≡ There
    go true true e = absurd (cc)
    go true false e = absurd (cc)
    go false b e = absurd (cc)

pub told_there : (found : Option Caps) (r : Result Creation AuthFault) → r ≡ Ok creation.There → (IsNone found → IfOk r (λ made. made ≡ creation.Made)) → There ≡ told_creation found
told_there (Some stored) r is made = refl
told_there None r is made = go r is (made refl)
  where
    go : (r : Result Creation AuthFault) → r ≡ Ok creation.There → IfOk r (λ made. made ≡ creation.Made) → There ≡ Made
    go (Err fault) e k = absurd (cc)
    go (Ok c) e k = absurd (cc)

-- ---- tickets

pub ticket_is : (d : Database) (name : List ℕ) (until : Option ℕ) (ticket : Ticket) → HasTicket d name until ticket → ticket ≡ ticket_for d name until
ticket_is d name until ticket h = tickets_are_read d.table h.0.osd until ticket h.2 ∙ sym (ap (λ o. ticket_with d.table o until) h.1)
