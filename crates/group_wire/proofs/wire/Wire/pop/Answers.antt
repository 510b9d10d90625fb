use Rattle.std.proofs.Common.{arith, ◌≡◌, ◌-◌, ap, ◌∙◌, subst, length, take, drop}
use Rattle.group_model_whole.proofs.Removed.{drop_take_last}
use Rattle.std.proofs.lemmas.Grind.{common_steps}
use Rattle.group_wire.proofs.wire.Wire.pop.Goals as goal

pub returns-then-self-left : goal.returns-then-self-left
returns-then-self-left c =
    let left : length c.as_slice-left.result.now ≡ length c.self.inside.sent.items = ap (λ l. length l) c.as_slice-left.ensures.value in
    subst (λ v. drop c.self.inside.passed c.truncate.new.self.items ≡ take (length v.sent - 1) v.sent) c.self.view_is
    (ap (λ l. drop c.self.inside.passed l) c.truncate.ensures.items ∙ drop_take_last c.self.inside.sent.items c.self.inside.passed (length c.as_slice-left.result.now) left c.if-self-left.true)

pub returns-else-self-left : goal.returns-else-self-left
returns-else-self-left c = grind (arith, common_steps)
