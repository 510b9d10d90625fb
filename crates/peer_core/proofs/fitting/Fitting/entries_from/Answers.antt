use Rattle.std.proofs.Common.{◌-◌, ◌∙◌, List, take, drop, ap}
use Rattle.peer_core.specs.Types.{Entry}
use Rattle.peer_core.proofs.Fittings.{entries_between}
use Rattle.peer_core.proofs.fitting.Fitting.entries_from.Goals as goal

pub returns : goal.returns
returns c =
    ap (λ (l : List Entry). take (c.args.self.now.kept - c.min.result) (drop c.min.result l)) c.entries.ensures
    ∙ entries_between c.args.self.now.log.now c.args.self.now.kept c.args.place c.min.result c.args.self.now.within c.min.ensures
