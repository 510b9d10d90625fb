use Rattle.std.proofs.Common.{◌∙◌}
use Rattle.store_core.proofs.Stores.{after_clone}
use Rattle.store_core.proofs.objects.Objects.copy.Goals as goal

pub returns : goal.returns
returns c = after_clone c.self.inside.map.entries c.in_ok-clone.field-0.entries c.in_ok-clone.ensures.cases ∙ c.self.view_is
