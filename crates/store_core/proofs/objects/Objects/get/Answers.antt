use Rattle.std.proofs.Common.{◌∙◌, sym, ap}
use Rattle.std.specs.Arc.{arc_value}
use Rattle.std.specs.Option.{option_map}
use Rattle.std.specs.FinMap.{get}
use Rattle.store_core.proofs.Stores.{get-objects_of, copied}
use Rattle.store_core.proofs.objects.Objects.get.Goals as goal

pub returns : goal.returns
returns c = copied c.get.result ∙ ap (option_map arc_value) c.get.ensures.value ∙ sym (get-objects_of c.self.inside.map.entries c.args.name.now) ∙ ap (λ s. get s c.args.name.now) c.self.view_is
