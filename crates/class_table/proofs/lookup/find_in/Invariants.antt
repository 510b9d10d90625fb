use Rattle.std.proofs.Common.{◌≡◌, drop}
use Rattle.class_table.specs.Lookup.{flags_in}
use Rattle.class_table.proofs.lookup.find_in.Given as goal

abbrev pub invariant-loop-entry : goal.invariant-loop-entry
invariant-loop-entry l = flags_in (drop l.entry-index l.table) l.class l.method ≡ flags_in l.table l.class l.method
