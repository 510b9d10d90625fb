use Rattle.std.proofs.Common.{◌≡◌, ℕ, ◌+◌, suc, arith, ap, Some, true, false, drop, get_or, sym, subst, ◌∙◌}
use Rattle.std.specs.List.{list_all}
use Rattle.cap_grants.specs.declared.grant.Tag.{Tag}
use Rattle.verdict_core.specs.Verdict.{matches_tag}
use Rattle.suggest_core.specs.declared.seen.Seen.{Seen}
use Rattle.suggest_core.specs.Region.{shared_tag}
use Rattle.suggest_core.proofs.Beginnings.{shared_here, shared_later}
use Rattle.suggest_core.proofs.region.shared_tag.Goals as goal

pub returns-then-is_shared : goal.returns-then-is_shared
returns-then-is_shared c =
    let copied : c.in_ok-copy.copy ≡ c.tag-item.result = c.in_ok-copy.ensures in
    let item : c.in_ok-copy.copy ≡ get_or c.args.tags.now c.loop-tag.tag-index c.in_ok-copy.copy =
    subst (λ (t : Tag). t ≡ get_or c.args.tags.now c.loop-tag.tag-index t) (sym copied) c.tag-item.is in
    let all : list_all (λ (r : Seen). matches_tag (Some c.in_ok-copy.copy) r.target.tags) c.args.seen.now ≡ true = sym c.is_shared.ensures ∙ c.if-is_shared.true in
    sym (shared_here c.args.tags.now c.args.seen.now c.loop-tag.tag-index c.in_ok-copy.copy c.loop-tag-test.true item all) ∙ c.loop-tag.invariant

pub loop-tag-preserved : goal.loop-tag-preserved
loop-tag-preserved c =
    let copied : c.in_ok-copy.copy ≡ c.tag-item.result = c.in_ok-copy.ensures in
    let item : c.in_ok-copy.copy ≡ get_or c.args.tags.now c.loop-tag.tag-index c.in_ok-copy.copy =
    subst (λ (t : Tag). t ≡ get_or c.args.tags.now c.loop-tag.tag-index t) (sym copied) c.tag-item.is in
    let none : list_all (λ (r : Seen). matches_tag (Some c.in_ok-copy.copy) r.target.tags) c.args.seen.now ≡ false = sym c.is_shared.ensures ∙ c.if-is_shared.false in
    let step : c.loop-tag.tag-index + 1 ≡ suc c.loop-tag.tag-index = omega arith in
    ap (λ (n : ℕ). shared_tag (drop n c.args.tags.now) c.args.seen.now) step
    ∙ (shared_later c.args.tags.now c.args.seen.now c.loop-tag.tag-index c.in_ok-copy.copy c.loop-tag-test.true item none ∙ c.loop-tag.invariant)
