use Rattle.std.proofs.Common.{◌≡◌, ◌+◌, sym, ◌∙◌, ap, subst, drop, arith}
use Rattle.std.specs.List.{remove}
use Rattle.group_model_whole.proofs.Removed.{drop_remove, drop_first}
use Rattle.std.proofs.lemmas.Grind.{common_steps}
use Rattle.group_wire.proofs.wire.Wire.remove.Goals as goal

pub returns-then-k-gt0 : goal.returns-then-k-gt0
returns-then-k-gt0 c = subst (λ v. drop c.self.inside.passed c.remove.new.self.items ≡ remove v.sent c.args.k) c.self.view_is
    (ap (λ l. drop c.self.inside.passed l) c.remove.ensures.items ∙ drop_remove c.self.inside.sent.items c.self.inside.passed c.args.k (c.self.inside.passed + c.args.k) (omega arith) c.self.invariant)

pub returns : goal.returns
returns c =
    let first : c.args.k ≡ 0 = omega arith in
    let here : drop (c.self.inside.passed + 1) c.self.inside.sent.items ≡ remove (drop c.self.inside.passed c.self.inside.sent.items) c.args.k =
    subst (λ k. drop (c.self.inside.passed + 1) c.self.inside.sent.items ≡ remove (drop c.self.inside.passed c.self.inside.sent.items) k) (sym first) (drop_first c.self.inside.sent.items c.self.inside.passed (c.self.inside.passed + 1) (omega arith)) in
    c.drop_passed.ensures ∙ subst (λ v. drop (c.self.inside.passed + 1) c.self.inside.sent.items ≡ remove v.sent c.args.k) c.self.view_is here

pub overflow_add-self-inside : goal.overflow_add-self-inside
overflow_add-self-inside c = grind (arith, common_steps)

pub remove-requires : goal.remove-requires
remove-requires c = grind (arith, common_steps)

pub invariant_of-self : goal.invariant_of-self
invariant_of-self c = grind (arith, common_steps)

pub invariant_of-self-2 : goal.invariant_of-self-2
invariant_of-self-2 c = grind (arith, common_steps)
