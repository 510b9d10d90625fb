use Rattle.std.proofs.Common.{◌≡◌, ◌∙◌, ap}
use Rattle.entry_core.specs.Stored.{place_in}
use Rattle.entry_core.proofs.Places.{within_if}
use Rattle.entry_core.proofs.log.Log.place_of.Goals as goal

pub returns : goal.returns
returns c =
    let place : c.copied.result ≡ place_in c.args.self.now c.args.id =
    c.copied.ensures ∙ c.get.ensures.value ∙ c.self.invariant.places c.args.id ∙ ap (λ l. place_in l c.args.id) c.self.view_is in
    record { place = place; within = within_if c.args.self.now c.args.id c.copied.result place }
