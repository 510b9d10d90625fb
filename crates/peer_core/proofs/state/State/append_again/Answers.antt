use Rattle.std.proofs.Common.{◌≡◌, ◌∙◌, refl, sym, append-nil}
use Rattle.std.specs.Prelude.{None}
use Rattle.group_messages.specs.Decided.{last}
use Rattle.peer_core.proofs.Counting.{last_get}
use Rattle.peer_core.proofs.state.State.append_again.Goals as goal

pub returns-in-None : goal.returns-in-None
returns-in-None c = let none : last c.args.self.now.log ≡ None = last_get c.args.self.now.log ∙ sym c.in-None.ensures in rw (none, append-nil) refl
