use Rattle.std.proofs.Common.{◌∙◌, ap}
use Rattle.store_core.specs.Objects.{all_changed}
use Rattle.store_core.proofs.Stores.{same_objects}
use Rattle.store_core.proofs.objects.Objects.change_all.Goals as goal

pub returns-clause-ok : goal.returns-clause-ok
returns-clause-ok c =
    let es = c.self.inside.map.entries in
    let items = c.args.changes.items in
    c.change_each.ensures ∙ ap (λ s. all_changed s items) (same_objects es c.reserve.new.self.entries c.reserve.ensures.entries.2 ∙ c.self.view_is)
