use Rattle.std.proofs.Common.{◌==◌, sym, ap, ◌∙◌}
use Rattle.std.specs.List.{list_any}
use Rattle.group_messages.proofs.Known.{waits_not}
use Rattle.group_messages.proofs.queue.Queue.has.Goals as goal

pub returns-else-contains : goal.returns-else-contains
returns-else-contains c =
    c.if-contains.false ∙ waits_not c.self.inside.requests.items c.self.inside.seen c.args.id c.self.invariant (sym c.contains.ensures ∙ c.if-contains.false)
    ∙ ap (λ l. list_any (λ w. w.id == c.args.id) l) c.self.view_is
