use Rattle.std.proofs.Common.{◌≡◌, ap, sym, subst, ◌∙◌, length, Some, option_copied}
use Rattle.request_types.specs.Target.{Target}
use Rattle.verdict_core.specs.Kinds.{only_number}
use Rattle.verdict_core.specs.Chains.{NoneBefore}
use Rattle.verdict_core.proofs.Walks.{none_of_only_tag}
use Rattle.verdict_core.proofs.chains.Chains.tags_give.Goals as goal

pub returns-in-Some-clause-none : goal.returns-in-Some-clause-none
returns-in-Some-clause-none g c failed =
    let kinds = c.args.self.now.kinds.items in
    let grants = c.args.grants.now in
    let target = c.args.target.now in
    let needs = c.args.needs.now in
    let call = option_copied c.args.call in
    let only : only_number target.tags ≡ Some c.in-Some.number = sym (c.only_number.ensures ∙ ap (λ (p : Target). only_number p.tags) c.target.view_is) ∙ c.in-Some.is in
    none_of_only_tag kinds grants target needs call target.tags c.args.front c.in-Some.number only
    (subst (λ k. NoneBefore kinds (length grants) grants k target needs call) c.folded.ensures.value (c.chain_gives.ensures.none failed))
