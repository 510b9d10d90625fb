use Rattle.std.proofs.Common.{◌∙◌, Some, get_or, sym, ap}
use Rattle.store_core.specs.declared.entry.Entry.{Entry}
use Rattle.entry_core.proofs.Places.{found_at_all, none_at_all}
use Rattle.entry_core.proofs.log.Log.find.Goals as goal

pub returns-in-None : goal.returns-in-None
returns-in-None c = sym (none_at_all c.args.self.now c.args.id (sym c.place_of.ensures.place ∙ c.in-None.is))

pub returns-in-Some : goal.returns-in-Some
returns-in-Some c =
    let entry = c.index-entries-place in
    ap (λ (e : Entry). Some e.reply) (sym entry.is)
    ∙ sym (found_at_all c.args.self.now c.args.id c.in-Some.place entry.result (sym c.place_of.ensures.place ∙ c.in-Some.is) (entry.is ∙ ap (λ l. get_or l c.in-Some.place entry.result) c.entries.ensures))
