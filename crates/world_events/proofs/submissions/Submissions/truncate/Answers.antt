use Rattle.std.proofs.Common.{◌∙◌, ap, sym, take}
use Rattle.std.proofs.lemmas.List.{take-map}
use Rattle.store_core.specs.Request.{Sealed}
use Rattle.world_events.specs.Submitting.{requests_in}
use Rattle.world_events.proofs.submissions.Submissions.truncate.Goals as goal

pub returns : goal.returns
returns c =
    ap requests_in c.truncate.ensures.entries ∙ sym (take-map (λ (e : _ × Sealed). e.1) c.args.count c.self.inside.requests.entries) ∙ ap (take c.args.count) c.self.view_is
