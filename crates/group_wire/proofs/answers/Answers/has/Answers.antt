use Rattle.std.proofs.Common.{◌∙◌, ◌==◌, ap}
use Rattle.std.specs.List.{list_any}
use Rattle.group_model.specs.Group.{Answer, is_answered}
use Rattle.group_model_whole.proofs.ById.{some_has}
use Rattle.group_wire.proofs.answers.Answers.has.Goals as goal

pub returns : goal.returns
returns c =
    c.contains.ensures ∙ ap (λ l. list_any (λ k. c.args.id == k) l) c.self.invariant ∙ some_has (λ (a : Answer). a.id) c.self.inside.all.items c.args.id
    ∙ ap (λ l. is_answered l c.args.id) c.self.view_is
