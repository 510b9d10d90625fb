use Rattle.std.proofs.Common.{◌≡◌, take}
use Rattle.object_core.proofs.attributes.Attributes.copy.Given as goal

abbrev pub invariant-loop-attribute : goal.invariant-loop-attribute
invariant-loop-attribute l = l.attributes.items ≡ take l.attribute-index l.attribute-items
