use Rattle.std.proofs.Common.{◌+◌, ◌-◌, ◌∙◌, List, map, drop, ap, sym}
use Rattle.std.proofs.lemmas.List.{drop-map, take_rest}
use Rattle.peer_core.specs.Types.{Sealed}
use Rattle.group_messages.specs.Beginnings.{common}
use Rattle.peer_core.specs.Fittings.{becomes}
use Rattle.peer_core.proofs.Fittings.{alike_short, alike_long}
use Rattle.peer_core.proofs.fitting.Fitting.alike_behind.Goals as goal

pub returns-then-alike-entries-clause-value : goal.returns-then-alike-entries-clause-value
unfolding becomes
returns-then-alike-entries-clause-value c =
    alike_short c.args.self.now.log.now c.args.self.now.rest.now c.args.self.now.kept c.args.self.now.within c.args.place (map (λ (s : Sealed). s.id) c.args.part.now) c.entries_from-entries.result.now c.alike_part-alike.result
    c.entries_from-entries.ensures c.alike_part-alike.ensures.value c.if-alike-entries.true

pub returns-clause-value : goal.returns-clause-value
unfolding becomes
returns-clause-value c =
    let n = c.alike_part-alike.result in
    let rest : List Sealed = drop (c.args.place - c.args.self.now.kept) c.args.self.now.rest.now in
    ap (λ m. n + m)
    (c.alike_requests.ensures.value ∙ (λ i. common (map (λ (s : Sealed). s.id) (take_rest c.args.part.now n i)) (map (λ (s : Sealed). s.id) (c.rest_from.ensures i)))
    ∙ ap (λ l. common l (map (λ (s : Sealed). s.id) rest)) (sym (drop-map (λ (s : Sealed). s.id) n c.args.part.now)))
    ∙ alike_long c.args.self.now.log.now c.args.self.now.rest.now c.args.self.now.kept c.args.self.now.within c.args.place (map (λ (s : Sealed). s.id) c.args.part.now) c.entries_from-entries.result.now n
    c.entries_from-entries.ensures c.alike_part-alike.ensures.value c.if-alike-entries.false
