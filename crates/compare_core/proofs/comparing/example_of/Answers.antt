use Rattle.std.proofs.Common.{sym, subst, refl, ◌∙◌}
use Rattle.compare_core.specs.Questions.{AreEnough}
use Rattle.compare_core.proofs.Gains.{listed_or_silent}
use Rattle.compare_core.proofs.Results.{ok_also}
use Rattle.compare_core.proofs.comparing.example_of.Goals as goal

pub returns-in-None : goal.returns-in-None
returns-in-None c =
    ok_also c.listing_example.result
    (λ found listed. listed_or_silent c.args.registry c.args.old.now.grants _ (c.args.path.now, c.args.grant.now) c.args.path.now _ c.deref.result.now _ found (c.as_slice-new.ensures.value ∙ c.in_ok-entry.ensures) refl
    (subst (AreEnough c.args.registry c.args.grant.now c.args.old.now.grants) (sym c.deref.ensures.value) c.in_ok-questions.ensures) c.in_ok-target.ensures c.in_ok-shown_needs.ensures c.in-None.is listed)
    c.listing_example.ensures
