use Rattle.std.proofs.Common.{◌≡◌, None, Option, ap, ◌∙◌}
use Rattle.cap_grants.specs.declared.grant.Tag.{Tag}
use Rattle.suggest_core.specs.Region.{place_of, pool_of, tag_of}
use Rattle.suggest_core.proofs.region.Region.place_of.Goals as goal

pub returns : goal.returns
unfolding place_of
returns c =
    let tag : c.in_ok-tag.tag ≡ tag_of c.args.grain.now.by c.args.grain.now.tags.items c.args.seen.now = c.in_ok-tag.ensures in
    λ i. record { pool = (c.in_ok-pool_of.ensures ∙ ap (λ (t : Option Tag). pool_of t c.args.target.now) tag) i; tag = tag i; namespace = c.in_ok-namespace_of.ensures i; prefix = None }
