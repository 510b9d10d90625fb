use Rattle.std.proofs.Common.{◌≡◌, drop, map}
use Rattle.class_table.specs.Lookup.{is_listed}
use Rattle.class_table.proofs.listing.is_listed.Given as goal

abbrev pub invariant-loop-name : goal.invariant-loop-name
invariant-loop-name l = is_listed l.class (map (λ name. name.now) (drop l.name-index l.names)) ≡ is_listed l.class (map (λ name. name.now) l.names)
