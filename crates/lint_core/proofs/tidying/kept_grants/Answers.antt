use Rattle.std.proofs.Common.{◌≡◌, ◌+◌, ◌-◌, ◌∷◌, ◌++◌, take, ap, subst, sym, ◌∙◌, arith}
use Rattle.grant_core.specs.Flat.{flat}
use Rattle.lint_core.specs.Parts.{CanExpand, IsTidyFrom}
use Rattle.lint_core.proofs.Allowed.{answer_no, answer_yes}
use Rattle.lint_core.proofs.Steps.{front_expands, tidy_with, tidy_without}
use Rattle.std.proofs.lemmas.Grind.{common_steps}
use Rattle.lint_core.proofs.tidying.kept_grants.Goals as goal

pub parts_allow_all-requires : goal.parts_allow_all-requires
parts_allow_all-requires c =
    let at : c.loop-place.place ≡ c.loop-place.place - 1 + 1 = omega arith in
    subst (λ kept. CanExpand c.args.table.now (take (c.loop-place.place - 1) c.args.grants.now ++ kept)) (sym c.deref.ensures.value)
    (front_expands c.args.table.now c.args.grants.now c.loop-place.kept.items (c.loop-place.place - 1) (omega arith)
    (subst (λ n. CanExpand c.args.table.now (take n c.args.grants.now ++ c.loop-place.kept.items)) at c.loop-place.invariant.expands))

pub loop-place-preserved : goal.loop-place-preserved
loop-place-preserved c =
    let at : c.loop-place.place ≡ c.loop-place.place - 1 + 1 = omega arith in
    tidy_without c.args.table.now c.args.grants.now c.loop-place.kept.items (c.loop-place.place - 1) (omega arith)
    (subst (λ n. IsTidyFrom c.args.table.now c.args.grants.now n c.loop-place.kept.items) at c.loop-place.invariant)
    (answer_yes (flat c.args.table.now (take (c.loop-place.place - 1) c.args.grants.now ++ c.loop-place.kept.items)) (flat c.args.table.now c.args.grants.now) _ _ c.in_ok-parts_allow_all.field-0
    c.in_ok-parts_allow_all.ensures (ap (λ kept. flat c.args.table.now (take (c.loop-place.place - 1) c.args.grants.now ++ kept)) c.deref.ensures.value) c.requires.whole c.if-not-branch.false)

pub loop-place-preserved-in_ok-insert : goal.loop-place-preserved-in_ok-insert
loop-place-preserved-in_ok-insert c =
    let at : c.loop-place.place ≡ c.loop-place.place - 1 + 1 = omega arith in
    subst (IsTidyFrom c.args.table.now c.args.grants.now (c.loop-place.place - 1))
    (ap (λ grant. grant ∷ c.loop-place.kept.items) (sym c.index-grants-place.is ∙ sym c.in_ok-copy.ensures) ∙ sym c.in_ok-insert.ensures.items)
    (tidy_with c.args.table.now c.args.grants.now c.loop-place.kept.items (c.loop-place.place - 1) c.index-grants-place.result (omega arith)
    (subst (λ n. IsTidyFrom c.args.table.now c.args.grants.now n c.loop-place.kept.items) at c.loop-place.invariant)
    (answer_no (flat c.args.table.now (take (c.loop-place.place - 1) c.args.grants.now ++ c.loop-place.kept.items)) (flat c.args.table.now c.args.grants.now) _ _ c.in_ok-parts_allow_all.field-0
    c.in_ok-parts_allow_all.ensures (ap (λ kept. flat c.args.table.now (take (c.loop-place.place - 1) c.args.grants.now ++ kept)) c.deref.ensures.value) c.requires.whole c.if-not-branch.true))

pub loop-place-init : goal.loop-place-init
loop-place-init c = grind (arith, common_steps)

pub returns : goal.returns
returns c = grind (arith, common_steps)
