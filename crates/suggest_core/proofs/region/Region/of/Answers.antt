use Rattle.std.proofs.Common.{◌≡◌, ap, ◌∙◌}
use Rattle.suggest_core.specs.declared.region.Region.{Region}
use Rattle.suggest_core.specs.Region.{is_in, place_of, prefix_of, region_of}
use Rattle.suggest_core.proofs.region.Region.of.Goals as goal

pub returns : goal.returns
unfolding region_of
returns c =
    let place : c.in_ok-place.place ≡ place_of c.args.grain.now c.args.seen.now c.args.target.now = c.in_ok-place.ensures in
    let prefix : c.in_ok-prefix.prefix ≡ prefix_of c.args.grain.now.by (is_in (place_of c.args.grain.now c.args.seen.now c.args.target.now)) c.args.seen.now =
    c.in_ok-prefix.ensures ∙ ap (λ (r : Region). prefix_of c.args.grain.now.by (is_in r) c.args.seen.now) place in
    c.with_prefix.ensures ∙ (λ i. record { pool = (place i).pool; tag = (place i).tag; namespace = (place i).namespace; prefix = prefix i })
