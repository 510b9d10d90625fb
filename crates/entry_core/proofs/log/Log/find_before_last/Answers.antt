use Rattle.std.proofs.Common.{◌∙◌, ◌<◌, ◌≤◌, ◌-◌, Some, length, get_or, sym, ap, arith}
use Rattle.store_core.specs.declared.entry.Entry.{Entry}
use Rattle.entry_core.proofs.Places.{found_in_front, none_in_front, none_behind}
use Rattle.entry_core.proofs.log.Log.find_before_last.Goals as goal

pub returns-in-None : goal.returns-in-None
returns-in-None c = sym (none_in_front c.args.self.now (length c.args.self.now - 1) c.args.id (sym c.place_of.ensures.place ∙ c.in-None.is))

pub returns-in-Some : goal.returns-in-Some
returns-in-Some c =
    let entry = c.index-entries-place in
    let front : c.in-Some.place < length c.args.self.now - 1 = omega arith in
    ap (λ (e : Entry). Some e.reply) (sym entry.is)
    ∙ sym (found_in_front c.args.self.now (length c.args.self.now - 1) c.args.id c.in-Some.place entry.result (sym c.place_of.ensures.place ∙ c.in-Some.is) front (entry.is ∙ ap (λ l. get_or l c.in-Some.place entry.result) c.entries.ensures))

pub returns-in-Some-2 : goal.returns-in-Some-2
returns-in-Some-2 c =
    let behind : length c.args.self.now - 1 ≤ c.in-Some.place = omega arith in
    sym (none_behind c.args.self.now (length c.args.self.now - 1) c.args.id c.in-Some.place (sym c.place_of.ensures.place ∙ c.in-Some.is) behind)
