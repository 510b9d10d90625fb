use Rattle.std.proofs.Common.{◌≡◌, ◌+◌, ◌-◌, ◌∙◌, List, length, map, take, drop, min, ap}
use Rattle.entry_core.specs.Log.{ids}
use Rattle.peer_core.specs.Types.{Sealed, Entry}
use Rattle.group_messages.specs.Beginnings.{common}
use Rattle.peer_core.specs.Fittings.{becomes}
use Rattle.peer_core.proofs.Fittings.{told_short, told_long}
use Rattle.peer_core.proofs.fitting.Fitting.common_with.Goals as goal

pub returns-then-alike-told : goal.returns-then-alike-told
unfolding becomes
returns-then-alike-told c =
    let told_is : c.min-told.result ≡ min c.args.offer.now.start (length c.args.self.now.log.now) = c.min-told.ensures ∙ ap (min c.args.offer.now.start) c.len.ensures in
    let alike_is : c.alike_part.result ≡ common (map (λ (s : Sealed). s.id) c.args.self.now.rest.now) (ids (take (c.min-told.result - c.min-from.result) (drop c.min-from.result c.args.self.now.log.now))) =
    c.alike_part.ensures.value ∙ ap (λ (l : List Entry). common (map (λ (s : Sealed). s.id) c.args.self.now.rest.now) (ids (take (c.min-told.result - c.min-from.result) (drop c.min-from.result l)))) c.entries.ensures in
    told_short c.args.self.now.log.now c.args.self.now.rest.now c.args.self.now.kept c.args.self.now.within c.args.offer.now c.min-told.result c.min-from.result c.alike_part.result told_is c.min-from.ensures alike_is c.if-alike-told.true

pub returns : goal.returns
unfolding becomes
returns c =
    let told_is : c.min-told.result ≡ min c.args.offer.now.start (length c.args.self.now.log.now) = c.min-told.ensures ∙ ap (min c.args.offer.now.start) c.len.ensures in
    let alike_is : c.alike_part.result ≡ common (map (λ (s : Sealed). s.id) c.args.self.now.rest.now) (ids (take (c.min-told.result - c.min-from.result) (drop c.min-from.result c.args.self.now.log.now))) =
    c.alike_part.ensures.value ∙ ap (λ (l : List Entry). common (map (λ (s : Sealed). s.id) c.args.self.now.rest.now) (ids (take (c.min-told.result - c.min-from.result) (drop c.min-from.result l)))) c.entries.ensures in
    ap (λ n. c.min-told.result + n)
    (c.alike_behind.ensures.value ∙ ap (λ (l : List Sealed). common (map (λ (s : Sealed). s.id) l) (drop c.min-told.result (ids (becomes c.args.self.now)))) c.as_slice.ensures)
    ∙ told_long c.args.self.now.log.now c.args.self.now.rest.now c.args.self.now.kept c.args.self.now.within c.args.offer.now c.min-told.result c.min-from.result c.alike_part.result told_is c.min-from.ensures alike_is c.if-alike-told.false
