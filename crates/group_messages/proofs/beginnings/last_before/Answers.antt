use Rattle.std.proofs.Common.{◌∙◌, List, Some, take, ap}
use Rattle.std.specs.Option.{option_map}
use Rattle.entry_core.specs.Fitting.{last_id}
use Rattle.store_core.specs.declared.entry.Entry.{Entry}
use Rattle.group_messages.proofs.beginnings.last_before.Goals as goal

pub returns-in-None : goal.returns-in-None
returns-in-None c = ap (option_map (λ (e : Entry). e.sealed.id)) c.in-None.ensures.value ∙ ap (λ (l : List Entry). last_id (take c.args.len l)) c.entries.ensures

pub returns-in-Some : goal.returns-in-Some
returns-in-Some c = ap (λ n. Some n) c.id.ensures ∙ ap (option_map (λ (e : Entry). e.sealed.id)) c.in-Some.ensures.value ∙ ap (λ (l : List Entry). last_id (take c.args.len l)) c.entries.ensures
