use Rattle.std.proofs.Common.{arith, ◌∙◌, ◌==◌, cond, None, sym, ap}
use Rattle.std.specs.Map.{lookup}
use Rattle.entry_core.proofs.Pushing.{places_back}
use Rattle.std.proofs.lemmas.Grind.{common_steps}
use Rattle.entry_core.proofs.log.cut.Goals as goal

pub returns-in-Some-clause-places : goal.returns-in-Some-clause-places
returns-in-Some-clause-places c =
    places_back c.args.entries.now.items c.args.index.now.entries c.remove.new.self.entries c.pop.new.self.items c.in-Some.entry (sym c.in-Some.ensures.items) c.requires.legal c.requires.places
    (λ id. c.remove.ensures.updates.0 id ∙ ap (λ n. cond (n == id) None (lookup (λ m. id == m) c.args.index.now.entries)) c.id.ensures)

pub returns-then-kept-len-clause-entries : goal.returns-then-kept-len-clause-entries
returns-then-kept-len-clause-entries c = grind (arith, common_steps)
