use Rattle.std.proofs.Common.{sym, ◌∙◌}
use Rattle.map_core.proofs.IntervalLists.{size_small, size_stays, size_of_new, if_some_along}
use Rattle.map_core.proofs.acting_sets.size_after.Goals as goal

pub returns-in-Some-clause-value : goal.returns-in-Some-clause-value
returns-in-Some-clause-value c = sym (size_stays c.args.name.now c.args.pools.now c.args.command.now c.in-Some.size (sym c.size_in.ensures.value ∙ c.in-Some.is))

pub returns-in-None-clause-value : goal.returns-in-None-clause-value
returns-in-None-clause-value c = c.size_made.ensures ∙ sym (size_of_new c.args.name.now c.args.pools.now c.args.command.now (sym c.size_in.ensures.value ∙ c.in-None.is))

pub returns-in-None-clause-small : goal.returns-in-None-clause-small
returns-in-None-clause-small c =
    if_some_along _ _ _ (c.size_made.ensures ∙ sym (size_of_new c.args.name.now c.args.pools.now c.args.command.now (sym c.size_in.ensures.value ∙ c.in-None.is))) (size_small _ c.args.name.now c.requires.then)
