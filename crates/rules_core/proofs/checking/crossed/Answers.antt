use Rattle.std.proofs.Common.{◌≡◌, true, option_copied, subst, sym, arith}
use Rattle.rules_core.specs.Checking.{IsCrossedWith}
use Rattle.rules_core.specs.Demands.{AreApart}
use Rattle.rules_core.specs.Near.{AreNear}
use Rattle.rules_core.specs.Rules.{Has, IsRead, is_selected}
use Rattle.rules_core.proofs.NearSteps.{crossed_more, crossed_none, holds_none, subject_there}
use Rattle.rules_core.proofs.checking.crossed.Goals as goal

pub loop-place-init : goal.loop-place-init
loop-place-init c =
    holds_none (λ other. is_selected c.args.others.now other.name ≡ true → IsRead other → Has (AreApart (option_copied c.args.pools) c.args.rights.now.grants) other) c.args.entities.now c.deref-place-items.result.now

pub loop-place-preserved : goal.loop-place-preserved
loop-place-preserved c =
    crossed_more (λ other. is_selected c.args.others.now other.name ≡ true → IsRead other → Has (AreApart (option_copied c.args.pools) c.args.rights.now.grants) other)
    c.args.entities.now c.subjects-subjects.result.now c.in_ok-near.near.items c.deref-place-items.result.now c.loop-place.place-index c.index-subjects-place.result c.subjects-subjects.ensures
    c.deref-place-items.ensures.value c.in_ok-near.ensures.0.inside (omega arith) c.index-subjects-place.is
    (subst (IsCrossedWith (option_copied c.args.pools) c.args.rights.now.grants c.args.others.now c.index-subjects-place.result) c.in_default.is c.in_ok-found.ensures) c.loop-place.invariant

pub returns-in-Some : goal.returns-in-Some
returns-in-Some c =
    let shown = subst (IsCrossedWith (option_copied c.args.pools) c.args.rights.now.grants c.args.others.now c.index-subjects-place.result) c.in-Some.is c.in_ok-found.ensures in (
      c.index-subjects-place.result,
      subject_there c.args.entities.now c.subjects-subjects.result.now c.in_ok-near.near.items c.deref-place-items.result.now c.loop-place.place-index c.index-subjects-place.result c.subjects-subjects.ensures
          c.deref-place-items.ensures.value c.in_ok-near.ensures.0.inside (omega arith) c.index-subjects-place.is,
      shown.0,
      shown.1,
    )

pub returns : goal.returns
returns c =
    crossed_none (option_copied c.args.pools) c.args.rights.now.grants c.args.others.now c.args.entities.now c.deref-place-items.result.now c.loop-place.place-index
    (subst (AreNear c.args.rights.now.grants c.args.entities.now) (sym c.deref-place-items.ensures.value) c.in_ok-near.ensures) (omega arith) c.loop-place.invariant
