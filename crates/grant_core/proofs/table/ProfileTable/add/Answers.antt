use Rattle.std.proofs.Common.{sym, ◌∙◌, ap, unwrap_or}
use Rattle.std.proofs.lemmas.Result.{err_from_is_err_and}
use Rattle.grant_core.specs.declared.fault.ExpandFault.TheVariants.{OutOfMemory}
use Rattle.grant_core.proofs.table.ProfileTable.add.Goals as goal

pub returns-in_err-size-clause-refused : goal.returns-in_err-size-clause-refused
returns-in_err-size-clause-refused c =
    let p = err_from_is_err_and c.from_residual.result c.from_residual.ensures.1 in
    rw p.1 (p.2 ∙ sym (ap (λ o. unwrap_or o OutOfMemory) (rw (c.self.view_is, c.grants.ensures.value) at c.in_err-size.ensures.refused)))

pub returns-in_err-push_profile-clause-refused : goal.returns-in_err-push_profile-clause-refused
returns-in_err-push_profile-clause-refused c =
    let p = err_from_is_err_and c.from_residual-in_err-push_profile.result c.from_residual-in_err-push_profile.ensures.1 in
    rw p.1 (p.2 ∙ sym (ap (λ o. unwrap_or o OutOfMemory) (rw (c.self.view_is, c.grants.ensures.value) at c.in_ok-size.ensures.accepted)))
