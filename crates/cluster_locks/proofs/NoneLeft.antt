-- What answers tell, in the words of the steps.
use Rattle.std.proofs.Common.{◌≡◌, ℕ, Bool, true, false, List, [], ◌∷◌, refl}
use Rattle.std.specs.Prelude.{Option, Some, None, if◌then◌else◌, slice_get}
use Rattle.entry_core.specs.Log.{is_in}
use Rattle.group_model.specs.Types.{Party, Client, Osd, Sent}
use Rattle.group_model.specs.Group.{Group, refusal_to, refusal_at}
use Rattle.group_messages.specs.declared.fault.GroupFault.{GroupFault}
use Rattle.group_messages.specs.declared.fault.GroupFault.TheVariants.{NoMessage, Unreachable}

not_if : (b : Bool) (k : ℕ) → (let r : Option GroupFault = if b then None else Some Unreachable in r ≡ Some (NoMessage k)) → ⊥
not_if true k e = cc
not_if false k e = cc

not_to : (g : Group) (p : Party) (k : ℕ) → refusal_to g p ≡ Some (NoMessage k) → ⊥
not_to g Client k e = cc
not_to g (Osd d) k e = not_if (is_in g.up d) k e

-- no message is there, so none is left
pub none_left : (g : Group) (ms : List Sent) (k : ℕ) → refusal_at g 0 (slice_get ms 0) ≡ Some (NoMessage k) → ms ≡ []
none_left g [] k e = refl
none_left g (m ∷ ms) k e = absurd (not_to g m.to k e)
