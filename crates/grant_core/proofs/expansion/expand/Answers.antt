use Rattle.std.proofs.Common.{sym, ◌∙◌, ap, unwrap_or}
use Rattle.std.proofs.lemmas.Result.{err_from_is_err_and}
use Rattle.grant_core.specs.declared.fault.ExpandFault.TheVariants.{OutOfMemory}
use Rattle.grant_core.proofs.expansion.expand.Goals as goal

pub returns-in_err-check_list-clause-refused : goal.returns-in_err-check_list-clause-refused
returns-in_err-check_list-clause-refused c =
    let p = err_from_is_err_and c.from_residual.result c.from_residual.ensures.1 in
    rw p.1 (p.2 ∙ sym (ap (λ o. unwrap_or o OutOfMemory) (rw (← c.profiles-profiles.ensures.value, c.grants.ensures.value) at c.in_err-check_list.ensures.refused)))

pub returns-in_err-grants-clause-refused : goal.returns-in_err-grants-clause-refused
returns-in_err-grants-clause-refused c =
    let p = err_from_is_err_and c.from_residual-in_err-grants.result c.from_residual-in_err-grants.ensures.1 in
    rw p.1 (p.2 ∙ sym (ap (λ o. unwrap_or o OutOfMemory) (rw (← c.profiles-profiles.ensures.value, c.grants.ensures.value) at c.in_ok-check_list.ensures.accepted)))
