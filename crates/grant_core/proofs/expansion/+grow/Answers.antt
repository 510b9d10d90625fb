use Rattle.std.proofs.Common.{arith, rules, ◌≡◌, [], ◌++◌, ap, map, sym, ◌∙◌}
use Rattle.grant_core.specs.Flat.{filled_use, under}
use Rattle.grant_core.specs.Found.{parts_before}
use Rattle.grant_core.specs.Tree.{below}
use Rattle.grant_core.proofs.Paths.{add_nothing, grown_one, grown_use}
use Rattle.grant_core.proofs.Tables.{name-filled}
use Rattle.grant_core.proofs.Sizes.{nothing_found}
use Rattle.std.proofs.lemmas.Grind.{common_steps, elements}
use Rattle.grant_core.proofs.expansion.+grow.Goals as goal

pub grow_use-returns-then-profile-eq0-clause-grants : goal.grow_use-returns-then-profile-eq0-clause-grants
grow_use-returns-then-profile-eq0-clause-grants t c =
    let none : parts_before c.args.profiles.now.entries c.args.before (filled_use c.args.used.now c.args.inner.now) ≡ [] =
    nothing_found c.args.profiles.now.entries c.args.before c.args.used.now c.args.inner.now _ _ c.requires.sized c.in-Some.ensures c.if-profile-eq0.true in
    rw none (sym (add_nothing c.args.grants.now.items))

pub grow_use-returns-clause-grants : goal.grow_use-returns-clause-grants
grow_use-returns-clause-grants t c =
    grown_use c.args.above.now.items c.args.number c.args.grants.now.items (parts_before c.args.profiles.now.entries c.args.before (filled_use c.args.used.now c.args.inner.now)) c.in_ok-push.ensures.items
    (rw (c.in-Some.ensures.means (filled_use c.args.used.now c.args.inner.now) (name-filled c.args.used.now c.args.inner.now)) (rw c.in_ok-inner.ensures at (rw c.grants.ensures.value at c.in_ok-grow.ensures.grants)))

pub grow-loop-i-preserved : goal.grow-loop-i-preserved
grow-loop-i-preserved t c =
    record {
      above = c.in_ok-grow_one.ensures.above ∙ c.loop-i.invariant.above;
      grants = grown_one c.args.above.now.items (parts_before c.args.profiles.now.entries c.args.before) c.args.used.now c.args.body.now c.loop-i.i c.index-body-i.result c.loop-i.grants.items _
          c.loop-i-test.true c.index-body-i.is c.loop-i.invariant.above c.loop-i.invariant.grants c.in_ok-grow_one.ensures.grants;
    }
