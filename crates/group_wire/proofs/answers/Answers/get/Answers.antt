use Rattle.std.proofs.Common.{◌≡◌, ◌∙◌, sym, ap}
use Rattle.std.specs.Prelude.{None, Some, slice_get}
use Rattle.std.specs.Option.{option_map, option_copied}
use Rattle.group_model.specs.Group.{Answer, answer_of}
use Rattle.group_model_whole.proofs.ById.{answer_found, none_found}
use Rattle.group_wire.proofs.answers.Answers.get.Goals as goal

pub returns-in-Some-at : goal.returns-in-Some-at
returns-in-Some-at c =
    let items = c.self.inside.all.items in
    let found : slice_get items c.in-Some.place ≡ Some c.in-Some-at.answer.now = ap (λ l. slice_get l c.in-Some.place) (sym c.as_slice.ensures.value) ∙ sym c.at.ensures ∙ ap (λ o. option_copied o) c.in-Some-at.is in
    let same : c.answer.inside.reply ≡ c.in-Some-at.answer.now.reply = ap (λ (a : Answer). a.reply) c.answer.view_is in
    ap Some same ∙ sym (sym (ap (λ l. answer_of l c.args.id) c.self.view_is) ∙ answer_found items c.self.inside.ids.keys c.args.id c.in-Some.place c.self.invariant (sym c.get_index_of.ensures.index ∙ c.in-Some.is) ∙ ap (λ o. option_map (λ (a : Answer). a.reply) o) found)

pub returns-in-None-at : goal.returns-in-None-at
returns-in-None-at c =
    let items = c.self.inside.all.items in
    let found : slice_get items c.in-Some.place ≡ None = ap (λ l. slice_get l c.in-Some.place) (sym c.as_slice.ensures.value) ∙ sym c.at.ensures ∙ ap (λ o. option_copied o) c.in-None-at.is in
    sym (sym (ap (λ l. answer_of l c.args.id) c.self.view_is) ∙ answer_found items c.self.inside.ids.keys c.args.id c.in-Some.place c.self.invariant (sym c.get_index_of.ensures.index ∙ c.in-Some.is) ∙ ap (λ o. option_map (λ (a : Answer). a.reply) o) found)

pub returns-in-None : goal.returns-in-None
returns-in-None c = sym (sym (ap (λ l. answer_of l c.args.id) c.self.view_is) ∙ none_found c.self.inside.all.items c.self.inside.ids.keys c.args.id c.self.invariant (sym c.get_index_of.ensures.index ∙ c.in-None.is))
