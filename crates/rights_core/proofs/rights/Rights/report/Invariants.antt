use Rattle.std.proofs.Common.{◌≡◌, ◌++◌, length}
use Rattle.std.specs.List.{filter_map}
use Rattle.rights_core.specs.Reports.{line}
use Rattle.rights_core.specs.Rights.{with_networks}
use Rattle.rights_core.proofs.rights.Rights.report.Given as goal

-- the lines so far, and those of the rest, are those of all
abbrev pub invariant-loop-entry : goal.invariant-loop-entry
invariant-loop-entry l =
    l.lines.items ++ filter_map (line l.expired l.target l.needs l.from) (with_networks l.grants l.networks)
    ≡ filter_map (line l.expired l.target l.needs l.from) l.self.grants

abbrev pub decreases-loop-entry : goal.decreases-loop-entry
decreases-loop-entry l = length l.grants
