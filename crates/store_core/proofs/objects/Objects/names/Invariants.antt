use Rattle.std.proofs.Common.{◌≡◌}
use Rattle.std.specs.FinMap.{empty}
use Rattle.store_core.specs.Deciding.{is_listed}
use Rattle.store_core.specs.ListedTexts.{collected}
use Rattle.store_core.proofs.objects.Objects.names.Given as goal

abbrev pub invariant-loop-name : goal.invariant-loop-name
invariant-loop-name l = collected (is_listed l.sealed) l.texts l.name-iterator ≡ collected (is_listed l.sealed) empty l.initial.name-iterator
