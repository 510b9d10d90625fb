use Rattle.std.proofs.Common.{◌≡◌, ◌+◌, ◌∷◌, ◌++◌, [], true, false, length, refl, sym, ap, subst, ◌∙◌}
use Rattle.verdict_core.specs.Verdict.{grants_allow}
use Rattle.suggest_core.specs.declared.region.Region.{Region}
use Rattle.suggest_core.specs.Grain.{access_for, moves}
use Rattle.suggest_core.specs.Region.{grant_for, region_of}
use Rattle.suggest_core.specs.Parts.{HasMoving}
use Rattle.suggest_core.proofs.Steps.{moving_added, moving_allowed, on_ok_also}
use Rattle.suggest_core.proofs.suggesting.add_flags.Goals as goal

pub returns-then-grants_allow : goal.returns-then-grants_allow
returns-then-grants_allow c =
    let moving : moves c.args.request.now.needs ≡ true = cc in
    let allowed : grants_allow c.args.grants.now.items c.args.request.now.target c.args.request.now.needs ≡ true = cc in
    λ far has. moving_allowed c.args.grain.now c.args.seen.now far c.args.grants.now.items c.args.request.now has moving allowed

pub returns : goal.returns
returns c =
    let moving : moves c.args.request.now.needs ≡ true = cc in
    let denied : grants_allow c.args.grants.now.items c.args.request.now.target c.args.request.now.needs ≡ false = cc in
    let region : Region = region_of c.args.grain.now c.args.seen.now c.args.request.now.target in
    let region_is : c.in_ok-region.region ≡ region = c.in_ok-region.ensures in
    let access_is : c.access_for-access.result ≡ access_for c.args.seen.now region = c.access_for-access.ensures ∙ ap (access_for c.args.seen.now) region_is in
    let is : c.into_grant.result ≡ grant_for region (access_for c.args.seen.now region) = c.into_grant.ensures ∙ (λ i. grant_for (region_is i) (access_is i)) in
    on_ok_also c.push_grant.result
    (λ pushed far has. subst (HasMoving c.args.grain.now c.args.seen.now (far ++ c.args.request.now ∷ [])) (sym pushed)
    (moving_added c.args.grain.now c.args.seen.now far c.args.grants.now.items c.args.request.now ((length c.args.grants.now.items + 1) ∷ [], c.into_grant.result) has c.requires moving denied refl is))
    c.push_grant.ensures
