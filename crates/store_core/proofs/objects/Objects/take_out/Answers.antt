use Rattle.std.proofs.Common.{◌∙◌, sym, ap}
use Rattle.std.specs.Arc.{arc_value}
use Rattle.std.specs.Option.{option_map}
use Rattle.std.specs.FinMap.{get, remove}
use Rattle.store_core.proofs.Stores.{after_remove, get-objects_of}
use Rattle.store_core.proofs.objects.Objects.take_out.Goals as goal

pub returns-clause-out : goal.returns-clause-out
returns-clause-out c = after_remove c.self.inside.map.entries c.remove.new.self.entries c.args.name.now c.remove.ensures.updates.0 ∙ ap (λ s. remove s c.args.name.now) c.self.view_is

pub returns-clause-before : goal.returns-clause-before
returns-clause-before c = ap (option_map arc_value) c.remove.ensures.value ∙ sym (get-objects_of c.self.inside.map.entries c.args.name.now) ∙ ap (λ s. get s c.args.name.now) c.self.view_is
