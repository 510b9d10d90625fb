use Rattle.std.proofs.Common.{◌≡◌, false, ap, sym, ◌∙◌, arith, slice_index_or, nat_lt}
use Rattle.std.proofs.lemmas.Bool.{le-ltb}
use Rattle.std.proofs.lemmas.List.{get_or_past}
use Rattle.place_core.proofs.Numbers.{number_is}
use Rattle.place_core.proofs.daemons.DaemonSet.has.Goals as goal

pub returns-then-daemon-lt16-clause-member : goal.returns-then-daemon-lt16-clause-member
returns-then-daemon-lt16-clause-member c =
    ap (λ d. slice_index_or c.self.inside.flags d false) c.from-daemon.ensures ∙ ap (λ l. slice_index_or l c.args.daemon false) c.self.view_is ∙ number_is c.args.self.now c.args.daemon

pub returns-else-daemon-lt16-clause-member : goal.returns-else-daemon-lt16-clause-member
returns-else-daemon-lt16-clause-member c =
    let out : nat_lt c.from-daemon.result 16 ≡ false = le-ltb c.from-daemon.result 16 (omega arith) in
    let past : slice_index_or c.self.inside.flags c.from-daemon.result false ≡ false = get_or_past c.self.inside.flags c.from-daemon.result false (omega (arith, c.self.invariant)) in
    out ∙ sym past ∙ ap (λ d. slice_index_or c.self.inside.flags d false) c.from-daemon.ensures ∙ ap (λ l. slice_index_or l c.args.daemon false) c.self.view_is ∙ number_is c.args.self.now c.args.daemon
