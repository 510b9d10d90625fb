-- A message, by what it says.
use Rattle.std.proofs.Common.{ℕ, ◌≡◌, List}
use Rattle.std.specs.Prelude.{Result, IfOk}
use Rattle.std.specs.declared.alloc.AllocError.{AllocError}
use Rattle.peer_core.specs.Types.{Copy, Message, Interval, Sent}
use Rattle.peer_core.specs.Copy.{copy_step, on_interval}

pub tells_intervals : (c : Copy) (m : Message) (sets passed : List (List ℕ)) (result : Result (List Sent) AllocError) (new : Copy) → m.body ≡ Interval sets → passed ≡ sets →
    IfOk result (λ sent. on_interval c passed ≡ record { copy = new; sent = sent }) → IfOk result (λ sent. copy_step c m ≡ record { copy = new; sent = sent })
tells_intervals c m sets passed result new is same ok = rw is (rw same at ok)
