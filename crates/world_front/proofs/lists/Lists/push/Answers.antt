use Rattle.std.proofs.Common.{◌∙◌, ◌++◌, ◌∷◌, [], ◌==◌, ap, nat_eq}
use Rattle.std.specs.List.{find}
use Rattle.indexmap.proofs.CallerLemmas.{insert_entry-new}
use Rattle.world_front.specs.ControlPlane.{ListRange}
use Rattle.world_front.specs.Lists.{lists_in}
use Rattle.world_front.proofs.ListsFound.{list_absent, lists_push}
use Rattle.world_front.proofs.lists.Lists.push.Goals as goal

pub returns-clause-ok : goal.returns-clause-ok
returns-clause-ok c =
    let fresh = list_absent c.self.inside.counts.entries c.args.list.first (ap (λ l. find (λ (p : ListRange). p.first == c.args.list.first) l) c.self.view_is ∙ c.requires) in
    let entries = c.in_ok-insert.ensures.entries ∙ insert_entry-new nat_eq c.self.inside.counts c.args.list.first c.args.list.count fresh in
    ap lists_in entries ∙ lists_push c.self.inside.counts.entries c.args.list.first c.args.list.count ∙ ap (λ l. l ++ c.args.list ∷ []) c.self.view_is
