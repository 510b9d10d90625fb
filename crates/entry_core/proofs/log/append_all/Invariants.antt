use Rattle.std.proofs.Common.{◌≡◌, ◌+◌, ◌≤◌, ◌++◌, true, vec_len, vec_capacity}
use Rattle.std.specs.HashMap.{spare}
use Rattle.std.specs.Vec.Iter.{into_iter_items, into_iter_len}
use Rattle.entry_core.specs.Fitting.{are_new, requests_of}
use Rattle.entry_core.specs.Log.{ids}
use Rattle.entry_core.specs.Stored.{Places}
use Rattle.entry_core.proofs.log.append_all.Given as goal

abbrev pub invariant-loop-entry : goal.invariant-loop-entry
invariant-loop-entry l = record {
  room_entries : vec_len l.entries + into_iter_len l.entry-iterator ≤ vec_capacity l.entries;
  room_index : into_iter_len l.entry-iterator ≤ spare l.index;
  entries : l.entries.items ++ into_iter_items l.entry-iterator ≡ l.fn.entries.items ++ l.fn.more.items;
  places : Places l.index.entries l.entries.items;
  new : are_new (ids l.entries.items) (requests_of (into_iter_items l.entry-iterator)) ≡ true;
}
