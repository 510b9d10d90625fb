use Rattle.std.proofs.Common.{rules, ◌≡◌, ◌∙◌, inr, sym, None, nat_eq}
use Rattle.std.specs.Map.{lookup}
use Rattle.indexmap.proofs.CallerLemmas.{insert_entry-new}
use Rattle.flow_core.proofs.Entries.{is_new, nothing_there}
use Rattle.flow_core.proofs.chains.find.Goals as goal

pub returns-in_ok-insert : goal.returns-in_ok-insert
returns-in_ok-insert c =
    let unknown : lookup (nat_eq c.args.place) c.args.found.now.entries ≡ None = nothing_there (lookup (nat_eq c.args.place) c.args.found.now.entries) (sym c.contains_key.ensures ∙ search rules) in
    inr (is_new c.args.places c.args.chain.now c.args.place c.args.found.now.entries c.insert.new.self.entries c.in_ok-longer.field-0 c.if-place-places.true unknown c.in_ok-longer.ensures
    (c.in_ok-insert.ensures.entries ∙ insert_entry-new nat_eq c.args.found.now c.args.place c.in_ok-longer.field-0 unknown))
