use Rattle.std.proofs.Common.{◌∙◌, ◌==◌, ap}
use Rattle.std.specs.List.{list_any}
use Rattle.store_core.specs.Request.{Sealed}
use Rattle.group_model.specs.Group.{is_submitted}
use Rattle.group_model_whole.proofs.ById.{some_has}
use Rattle.group_wire.proofs.requests.Requests.has.Goals as goal

pub returns : goal.returns
returns c =
    c.contains.ensures ∙ ap (λ l. list_any (λ k. c.args.id == k) l) c.self.invariant ∙ some_has (λ (s : Sealed). s.id) c.self.inside.all.items c.args.id
    ∙ ap (λ l. is_submitted l c.args.id) c.self.view_is
