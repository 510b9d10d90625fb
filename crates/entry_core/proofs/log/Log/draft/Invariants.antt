use Rattle.std.proofs.Common.{◌≡◌, ◌++◌, take, drop}
use Rattle.entry_core.specs.Drafts.{IsDraft}
use Rattle.entry_core.specs.Fitting.{decided_behind}
use Rattle.entry_core.proofs.log.Log.draft.Given as goal

abbrev pub invariant-loop-sealed : goal.invariant-loop-sealed
invariant-loop-sealed l = record {
  draft : IsDraft l.self (take l.kept l.self ++ l.draft.entries.items) (drop l.sealed-index l.part) l.draft;
  all : decided_behind (take l.kept l.self ++ l.draft.entries.items) (drop l.sealed-index l.part) ≡ decided_behind (take l.kept l.self) l.part;
}
