use Rattle.std.proofs.Common.{◌∙◌, ◌+◌, if◌then◌else◌, sym, ap, arith}
use Rattle.world_script.proofs.Sweeps.{begun, swept_count, swept_on}
use Rattle.world_script.proofs.groups.sweep_group.Goals as goal

pub loop-sweep-init : goal.loop-sweep-init
loop-sweep-init c = (0, omega arith, begun c.args.sweep c.args.group.now c.args.world.now c.requires)

pub loop-sweep-preserved : goal.loop-sweep-preserved
loop-sweep-preserved c =
    let before = c.loop-sweep.invariant in (
      before.0 + 0,
      omega (arith, before.1),
      swept_on c.args.sweep c.args.group.now c.args.world.now c.loop-sweep.world c.sweep_one.new.world before.0 0 before.2 (sym c.has_messages.ensures ∙ c.loop-sweep-test.true)
          c.in_ok-sweep_one.ensures.after c.in_ok-sweep_one.ensures.lower (c.in_ok-sweep_one.ensures.reached ∙ ap (λ b. if b then 1 else 0) c.if-branch.false),
    )

pub loop-sweep-preserved-in-Continue-branch-2 : goal.loop-sweep-preserved-in-Continue-branch-2
loop-sweep-preserved-in-Continue-branch-2 c =
    let before = c.loop-sweep.invariant in (
      before.0 + 1,
      omega (arith, before.1, c.in_ok-add_one.ensures.added),
      swept_on c.args.sweep c.args.group.now c.args.world.now c.loop-sweep.world c.sweep_one.new.world before.0 1 before.2 (sym c.has_messages.ensures ∙ c.loop-sweep-test.true)
          c.in_ok-sweep_one.ensures.after c.in_ok-sweep_one.ensures.lower (c.in_ok-sweep_one.ensures.reached ∙ ap (λ b. if b then 1 else 0) c.if-branch.true),
    )

pub returns-clause-count : goal.returns-clause-count
returns-clause-count c =
    let before = c.loop-sweep.invariant in
    before.1 ∙ ap (λ n. c.args.count.now + n) (swept_count c.args.sweep c.args.group.now c.args.world.now c.loop-sweep.world before.0 before.2 (sym c.has_messages.ensures ∙ c.loop-sweep-test.false))
