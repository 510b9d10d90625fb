use Rattle.std.proofs.Common.{◌+◌, ap, arith, map, subst, sym, ◌∙◌}
use Rattle.share_text.specs.Tenants.{IsTenantOrNone}
use Rattle.share_text.specs.declared.tenants.Live.{Live}
use Rattle.share_text.proofs.Telling.{SoFar, seen_all, seen_left_out, seen_tenant}
use Rattle.share_text.proofs.Lives.{live_at}
use Rattle.share_text.proofs.tenants.tenants_of.Goals as goal
use Rattle.share_text.proofs.tenants.tenants_of.Goals.{in-Some+in_ok-push, in_default}

pub tenant_of-requires : goal.tenant_of-requires
tenant_of-requires c = live_at c.args.lives.now c.loop-live.live-index c.live-item.result (omega arith) c.live-item.is c.requires

pub loop-live-preserved : goal.loop-live-preserved
loop-live-preserved c =
    let live = c.live-item.result in
    let entity_of = λ (live : Live). live.entity in
    elim c.match-tenant_of.branch [
      | in-Some+in_ok-push w ↦
          seen_tenant entity_of c.args.lives.now c.loop-live.live-index live c.loop-live.tenants.items c.match-tenant_of.tenants.items w.in-Some.tenant (omega arith) c.live-item.is
          (subst (IsTenantOrNone live.entity) w.in-Some.is c.tenant_of.ensures) (ap (λ v. v.items) w.tenants-is ∙ w.in_ok-push.ensures.items) c.loop-live.invariant
      | in_default w ↦
          subst (SoFar (map entity_of c.args.lives.now) (c.loop-live.live-index + 1)) (sym (ap (λ v. v.items) w.tenants-is))
          (seen_left_out entity_of c.args.lives.now c.loop-live.live-index live c.loop-live.tenants.items (omega arith) c.live-item.is
          (subst (IsTenantOrNone live.entity) w.in_default.is c.tenant_of.ensures) c.loop-live.invariant)
    ]

pub returns : goal.returns
returns c = seen_all (λ (live : Live). live.entity) c.args.lives.now c.loop-live.live-index c.loop-live.tenants.items c.loop-live-test.false c.loop-live.invariant
