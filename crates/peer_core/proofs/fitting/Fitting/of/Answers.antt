use Rattle.std.proofs.Common.{◌≡◌, ◌+◌, ◌∙◌, List, length, map, take, drop, min, ap}
use Rattle.std.proofs.lemmas.List.{take_rest}
use Rattle.entry_core.specs.Log.{ids}
use Rattle.entry_core.specs.Fitting.{decided_behind}
use Rattle.peer_core.specs.Types.{Sealed, Entry}
use Rattle.group_messages.specs.Beginnings.{common}
use Rattle.peer_core.specs.Fittings.{becomes}
use Rattle.peer_core.proofs.Fittings.{fitted_becomes}
use Rattle.peer_core.proofs.fitting.Fitting.of.Goals as goal

pub returns-clause-new : goal.returns-clause-new
unfolding becomes
returns-clause-new c = λ new is.
    let start_is : c.min-start.result ≡ min c.args.start (length c.args.log.now) = c.min-start.ensures ∙ ap (min c.args.start) c.len.ensures in
    let alike_is : c.alike_part-agreed.result ≡ common (map (λ (s : Sealed). s.id) c.args.part.now) (ids (drop c.min-start.result c.args.log.now)) =
    c.alike_part-agreed.ensures.value ∙ ap (λ (l : List Entry). common (map (λ (s : Sealed). s.id) c.args.part.now) (ids l)) (take_rest c.entries.result.now c.min-start.result ∙ ap (drop c.min-start.result) c.entries.ensures) in
    ap (λ (l : List Sealed). decided_behind (take (c.min-start.result + c.alike_part-agreed.result) c.args.log.now) l) (take_rest c.args.part.now c.alike_part-agreed.result)
    ∙ fitted_becomes c.args.log.now c.args.start c.args.part.now new c.min-start.result c.alike_part-agreed.result start_is alike_is is
