use Rattle.std.proofs.Common.{◌≡◌, ◌≤◌}
use Rattle.std.specs.HashMap.{spare}
use Rattle.std.specs.Vec.Iter.{into_iter_items, into_iter_len}
use Rattle.store_core.specs.Objects.{all_changed, objects_of}
use Rattle.store_core.proofs.objects.change_each.Given as goal

abbrev pub invariant-loop-change : goal.invariant-loop-change
invariant-loop-change l = record {
  room : into_iter_len l.change-iterator ≤ spare l.map;
  made : all_changed (objects_of l.map.entries) (into_iter_items l.change-iterator) ≡ all_changed (objects_of l.fn.map.entries) l.fn.changes.items;
}
