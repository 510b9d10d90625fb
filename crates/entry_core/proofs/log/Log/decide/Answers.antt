use Rattle.std.proofs.Common.{◌∙◌, ap}
use Rattle.std.proofs.lemmas.Result.{IfOk-weaker}
use Rattle.store_core.specs.Deciding.{decision_on, store_of}
use Rattle.entry_core.proofs.log.Log.decide.Goals as goal

pub returns : goal.returns
returns c =
    IfOk-weaker c.decide.result _ _
    (λ d h. h ∙ ap (λ s. decision_on s c.args.sealed.now) (c.self.invariant.made ∙ ap store_of c.self.view_is)) c.decide.ensures
