use Rattle.std.proofs.Common.{sym, ◌∙◌, ap, set, position}
use Rattle.common_types.specs.declared.tags.AppTags.{AppTags}
use Rattle.map_core.specs.Map.{is_app, put_pair}
use Rattle.map_core.proofs.FirstPlaces.{change_first_at, change_first_none}
use Rattle.map_core.proofs.edits.set_pair.Goals as goal

pub returns-in-None-clause-ok : goal.returns-in-None-clause-ok
returns-in-None-clause-ok c = sym (change_first_none (is_app c.args.app.now) (λ (a : AppTags). record a { pairs = put_pair c.args.key.now c.args.value.now a.pairs }) c.args.tags.now.items (ap (position (is_app c.args.app.now)) (sym c.deref.ensures.value) ∙ sym c.app_place.ensures ∙ c.in-None.is))

pub returns-in_ok-put_in-in-Some-clause-ok : goal.returns-in_ok-put_in-in-Some-clause-ok
returns-in_ok-put_in-in-Some-clause-ok c =
    ap (set c.args.tags.now.items c.in-Some.place) c.in_ok-put_in-in-Some.ensures.ok
    ∙ change_first_at (is_app c.args.app.now) (λ (a : AppTags). record a { pairs = put_pair c.args.key.now c.args.value.now a.pairs }) c.args.tags.now.items c.in-Some.place c.index_mut-tag.result.now (ap (position (is_app c.args.app.now)) (sym c.deref.ensures.value) ∙ sym c.app_place.ensures ∙ c.in-Some.is) c.index_mut-tag.ensures.value
