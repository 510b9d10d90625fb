use Rattle.std.proofs.Common.{rules, ◌∙◌}
use Rattle.cluster.proofs.Numbers.{are_all}
use Rattle.cluster.proofs.closing.prepare.Goals as goal

pub returns-then-is_some-clause-err : goal.returns-then-is_some-clause-err
returns-then-is_some-clause-err c =
    (are_all c.args.cluster.now c.args.passes.now c.in-Some.most (c.if-passes-pass_count.false ∙ c.pass_count.ensures) c.in-Some.ensures, search rules)

pub returns-in-Err-clause-err : goal.returns-in-Err-clause-err
returns-in-Err-clause-err c =
    (are_all c.args.cluster.now c.args.passes.now c.in-Some.most (c.if-passes-pass_count.false ∙ c.pass_count.ensures) c.in-Some.ensures, search rules)
