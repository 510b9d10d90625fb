use Rattle.std.proofs.Common.{◌≡◌, ◌∙◌, List, Option, Some, None, true, is_some, not, ap, arith}
use Rattle.std.proofs.lemmas.Result.{IfOk-weaker}
use Rattle.std.specs.Arc.{arc_value}
use Rattle.std.specs.Borrow.{Bor}
use Rattle.std.specs.Option.{option_copied, option_map}
use Rattle.object_core.specs.declared.op.Op.{Op}
use Rattle.std.specs.FinMap.{get}
use Rattle.store_core.specs.Store.{with_object}
use Rattle.store_core.proofs.AlikeStores.{bring_more, same_alike}
use Rattle.std.proofs.lemmas.Grind.{common_steps}
use Rattle.store_core.proofs.objects.Objects.needed_by.Goals as goal

ops_there : (r : Option (Bor (List Op))) → is_some r ≡ true → option_copied r ≡ None → ⊥
ops_there None there none = cc
ops_there (Some ops) there none = cc

pub returns-then-is_none : goal.returns-then-is_none
returns-then-is_none c = IfOk-weaker c.copy.result _ _ (λ few h. same_alike few c.args.self.now c.args.part.now h) c.copy.ensures

pub loop-sealed-preserved : goal.loop-sealed-preserved
loop-sealed-preserved c =
    let s = c.sealed-item in
    let few = c.loop-sealed.few in
    let there : is_some c.ops.result ≡ true = c.is_none.ensures ∙ ap not c.if-is_none.false in
    bring_more few c.change.new.self c.args.self.now c.args.part.now c.loop-sealed.sealed-index s.result (option_map arc_value c.in_ok-object.object) (omega arith) s.is c.loop-sealed.invariant
    (c.in_ok-object.ensures ∙ ap (get c.args.self.now) c.name.ensures)
    (c.in_ok-change.ensures.ok ∙ ap (λ n. with_object few n (option_map arc_value c.in_ok-object.object)) c.name-in-loop-sealed.ensures)
    (λ none. ops_there c.ops.result there (c.ops.ensures.value ∙ none))

pub returns : goal.returns
returns c = grind (arith, common_steps)
