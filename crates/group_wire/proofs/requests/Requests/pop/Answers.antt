use Rattle.std.proofs.Common.{◌∙◌, ap, map, sym, take}
use Rattle.std.proofs.lemmas.List.{take-map}
use Rattle.store_core.specs.Request.{Sealed}
use Rattle.group_wire.proofs.requests.Requests.pop.Goals as goal

pub invariant_of-self : goal.invariant_of-self
invariant_of-self c =
    c.truncate.ensures.keys ∙ ap (take c.saturating_sub-count.result) c.self.invariant ∙ take-map (λ (s : Sealed). s.id) c.saturating_sub-count.result c.self.inside.all.items
    ∙ ap (map (λ (s : Sealed). s.id)) (sym c.truncate-2.ensures.items)
