use Rattle.std.proofs.Common.{◌≡◌, ◌∙◌, ◌∷◌, ◌++◌, [], false, map, sym, ap}
use Rattle.group_model.specs.Group.{Answer, is_answered}
use Rattle.group_model_whole.proofs.ById.{one_more}
use Rattle.group_wire.proofs.answers.Answers.push.Goals as goal

pub invariant_of-self-2 : goal.invariant_of-self-2
invariant_of-self-2 c =
    let items = c.self.inside.all.items in
    let same : c.answer.inside.id ≡ c.args.answer.id = ap (λ (a : Answer). a.id) c.answer.view_is in
    let new : is_answered items c.args.answer.id ≡ false = ap (λ l. is_answered l c.args.answer.id) c.self.view_is ∙ c.requires in
    let keys = rw same at c.in_ok-insert.ensures.keys in
    keys ∙ one_more (λ (a : Answer). a.id) c.self.inside.ids.keys items c.args.answer c.self.invariant new
    ∙ ap (map (λ (a : Answer). a.id)) (sym (c.push_reserved.ensures.items ∙ ap (λ l. l ++ c.args.answer ∷ []) c.reserve.ensures.items))
