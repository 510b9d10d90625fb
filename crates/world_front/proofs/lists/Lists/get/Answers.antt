use Rattle.std.proofs.Common.{◌∙◌, ◌==◌, ap}
use Rattle.std.specs.Option.{option_map}
use Rattle.std.specs.List.{find}
use Rattle.world_front.specs.ControlPlane.{ListRange}
use Rattle.world_front.proofs.ListsFound.{list_found}
use Rattle.world_front.proofs.lists.Lists.get.Goals as goal

pub returns-in-None : goal.returns-in-None
returns-in-None c =
    ap (λ o. option_map (λ count. record { first = c.args.first; count = count }) o) c.in-None.ensures.value
    ∙ list_found c.self.inside.counts.entries c.args.first
    ∙ ap (λ l. find (λ (p : ListRange). p.first == c.args.first) l) c.self.view_is

pub returns-in-Some : goal.returns-in-Some
returns-in-Some c =
    ap (λ o. option_map (λ count. record { first = c.args.first; count = count }) o) c.in-Some.ensures.value
    ∙ list_found c.self.inside.counts.entries c.args.first
    ∙ ap (λ l. find (λ (p : ListRange). p.first == c.args.first) l) c.self.view_is
