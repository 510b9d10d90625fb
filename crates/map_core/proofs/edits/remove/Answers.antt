use Rattle.std.proofs.Common.{sym, ◌∙◌, ap, position}
use Rattle.map_core.specs.Map.{is_key}
use Rattle.map_core.proofs.FirstPlaces.{without_pair_at, without_pair_none}
use Rattle.map_core.proofs.edits.remove.Goals as goal

pub returns-in-Some : goal.returns-in-Some
returns-in-Some c =
    c.remove-pair.ensures.items
    ∙ without_pair_at c.args.key.now c.args.pairs.now.items c.in-Some.place (ap (position (is_key c.args.key.now)) (sym c.deref.ensures.value) ∙ sym c.key_place.ensures ∙ c.in-Some.is)

pub returns-in_default : goal.returns-in_default
returns-in_default c = without_pair_none c.args.key.now c.args.pairs.now.items (ap (position (is_key c.args.key.now)) (sym c.deref.ensures.value) ∙ sym c.key_place.ensures ∙ c.in_default.is)
