use Rattle.std.proofs.Common.{◌≡◌, ◌+◌, ◌∷◌, ◌++◌, [], Some, false, length, refl, sym, subst, ◌∙◌}
use Rattle.cap_grants.specs.declared.grant.Access.TheVariants.{Class}
use Rattle.verdict_core.specs.Verdict.{grants_allow}
use Rattle.suggest_core.specs.declared.region.Region.{Region}
use Rattle.suggest_core.specs.Region.{grant_for, region_of}
use Rattle.suggest_core.specs.Parts.{HasSome}
use Rattle.suggest_core.proofs.Steps.{on_ok_also, one_call, some_added}
use Rattle.suggest_core.proofs.suggesting.add_method.Goals as goal

pub returns : goal.returns
returns c =
    let same : grants_allow c.deref.result.now c.as_target.result c.in_ok-needs.needs ≡ grants_allow c.args.grants.now.items c.args.request.now.target (one_call c.args.call.now) =
    λ i. grants_allow (c.deref.ensures.value i) (c.as_target.ensures i) (c.in_ok-needs.ensures i) in
    let denied : grants_allow c.args.grants.now.items c.args.request.now.target (one_call c.args.call.now) ≡ false = sym same ∙ (sym c.grants_allow.ensures ∙ c.if-grants_allow.false) in
    let region : Region = region_of c.args.grain.now c.args.seen.now c.args.request.now.target in
    let is : c.into_grant.result ≡ grant_for region (Class c.args.call.now.class (Some c.args.call.now.method)) =
    c.into_grant.ensures ∙ (λ i. grant_for (c.in_ok-region.ensures i) (c.in_ok-method_of.ensures i)) in
    on_ok_also c.push_grant.result
    (λ pushed far calls has. subst (HasSome c.args.grain.now c.args.seen.now far c.args.request.now (calls ++ c.args.call.now ∷ [])) (sym pushed)
    (some_added c.args.grain.now c.args.seen.now far c.args.request.now calls c.args.call.now c.args.grants.now.items ((length c.args.grants.now.items + 1) ∷ [], c.into_grant.result) has c.requires.there c.requires.called c.requires.still denied refl is))
    c.push_grant.ensures
