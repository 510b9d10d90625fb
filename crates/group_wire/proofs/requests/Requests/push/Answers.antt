use Rattle.std.proofs.Common.{◌≡◌, ◌∙◌, ◌∷◌, ◌++◌, [], false, map, nat_eq, sym, ap}
use Rattle.indexmap.specs.IndexSet.{insert_key}
use Rattle.store_core.specs.Request.{Sealed}
use Rattle.group_model.specs.Group.{is_submitted}
use Rattle.group_model_whole.proofs.ById.{one_more}
use Rattle.group_wire.proofs.requests.Requests.push.Goals as goal

pub invariant_of-self-2 : goal.invariant_of-self-2
invariant_of-self-2 c =
    let items = c.self.inside.all.items in
    let new : is_submitted items c.args.request.id ≡ false = ap (λ l. is_submitted l c.args.request.id) c.self.view_is ∙ c.requires in
    c.in_ok-insert.ensures.keys ∙ ap (λ k. insert_key nat_eq c.self.inside.ids.keys k) c.id.ensures ∙ one_more (λ (s : Sealed). s.id) c.self.inside.ids.keys items c.args.request c.self.invariant new
    ∙ ap (map (λ (s : Sealed). s.id)) (sym (c.push_reserved.ensures.items ∙ ap (λ l. l ++ c.args.request ∷ []) c.reserve.ensures.items))
