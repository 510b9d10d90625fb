use Rattle.std.proofs.Common.{sym, ◌∙◌, ap, set, position}
use Rattle.common_types.specs.declared.tags.AppTags.{AppTags}
use Rattle.map_core.specs.Map.{is_app, without_pair}
use Rattle.map_core.proofs.FirstPlaces.{change_first_at, change_first_none}
use Rattle.map_core.proofs.edits.remove_pair.Goals as goal

pub returns-in-None : goal.returns-in-None
returns-in-None c = sym (change_first_none (is_app c.args.app.now) (λ (a : AppTags). record a { pairs = without_pair c.args.key.now a.pairs }) c.args.tags.now.items (ap (position (is_app c.args.app.now)) (sym c.deref.ensures.value) ∙ sym c.app_place.ensures ∙ c.in-None.is))

pub returns-in-Some : goal.returns-in-Some
returns-in-Some c =
    ap (set c.args.tags.now.items c.in-Some.place) c.remove_in.ensures
    ∙ change_first_at (is_app c.args.app.now) (λ (a : AppTags). record a { pairs = without_pair c.args.key.now a.pairs }) c.args.tags.now.items c.in-Some.place c.index_mut-tag.result.now (ap (position (is_app c.args.app.now)) (sym c.deref.ensures.value) ∙ sym c.app_place.ensures ∙ c.in-Some.is) c.index_mut-tag.ensures.value
