-- A log's last entry, and what follows once all members have it.
use Rattle.std.proofs.Common.{suc, ◌≡◌, ◌-◌, List, [], ◌∷◌, ◌++◌, length, refl, sym, ◌∙◌, ap, arith}
use Rattle.std.specs.Prelude.{Option, Some, None, slice_get, Result, Ok, Err, OnOk, IfOk}
use Rattle.std.specs.declared.alloc.AllocError.{AllocError}
use Rattle.peer_core.specs.Types.{Entry, Copy, Sent}
use Rattle.group_messages.specs.Decided.{last}
use Rattle.peer_core.specs.Serve.{serve}
use Rattle.peer_core.specs.Stages.{replies}
use Rattle.peer_core.specs.Copy.{complete}

pub last_get : (log : List Entry) → last log ≡ slice_get log (length log - 1)
last_get [] = refl
last_get (x ∷ []) = refl
last_get (x ∷ y ∷ ys) =
    let one : length (y ∷ ys) - 1 ≡ length ys = omega arith in
    let two : length (x ∷ y ∷ ys) - 1 ≡ suc (length ys) = omega arith in
    last_get (y ∷ ys) ∙ ap (λ k. slice_get (y ∷ ys) k) one ∙ sym (ap (λ k. slice_get (x ∷ y ∷ ys) k) two)

complete_is : (c : Copy) (e : Option Entry) (new : Copy) (all : List Sent) → (serve c.waiting c).copy ≡ new → all ≡ replies c e ++ (serve c.waiting c).sent → complete c e ≡ record { copy = new; sent = all }
complete_is c None new all copy sent = rw (← copy, sent) refl
complete_is c (Some e) new all copy sent = rw (← copy, sent) refl

pub completes : (c : Copy) (e : Option Entry) (first : List Sent) (result : Result (List Sent) AllocError) (new : Copy) →
    first ≡ replies c e → OnOk result ((serve c.waiting c).copy ≡ new) → IfOk result (λ all. all ≡ first ++ (serve c.waiting c).sent) →
    IfOk result (λ sent. complete c e ≡ record { copy = new; sent = sent })
completes c e first (Ok all) new replied copy sent = complete_is c e new all copy (sent ∙ ap (λ v. v ++ (serve c.waiting c).sent) replied)
completes c e first (Err error) new replied copy sent = tt
