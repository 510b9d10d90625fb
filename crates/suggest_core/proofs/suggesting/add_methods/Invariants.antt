use Rattle.std.proofs.Common.{List, take}
use Rattle.suggest_core.specs.declared.seen.Seen.{Seen}
use Rattle.suggest_core.specs.Parts.{HasCalls, HasSome}
use Rattle.suggest_core.proofs.suggesting.add_methods.Given as goal

-- the calls so far are covered
abbrev pub invariant-loop-call : goal.invariant-loop-call
invariant-loop-call l = (far : List Seen) → HasCalls l.grain l.seen far l.initial.grants.items → HasSome l.grain l.seen far l.request (take l.call-index l.request.needs.calls) l.grants.items
