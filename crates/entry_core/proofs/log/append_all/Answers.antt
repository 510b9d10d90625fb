use Rattle.std.proofs.Common.{◌≡◌, ◌∙◌, ◌++◌, ◌∷◌, [], true, sym, ap, subst, append_assoc, arith}
use Rattle.std.specs.Vec.Iter.{into_iter_items}
use Rattle.entry_core.specs.Fitting.{are_new, requests_of}
use Rattle.entry_core.specs.Log.{ids}
use Rattle.entry_core.proofs.Pushing.{add_entry}
use Rattle.std.proofs.lemmas.Grind.{common_steps}
use Rattle.entry_core.proofs.log.append_all.Goals as goal

pub loop-entry-preserved : goal.loop-entry-preserved
loop-entry-preserved c =
    let inv = c.loop-entry.invariant in
    let e = c.in-Some.entry in
    let rest = into_iter_items c.next.new.self in
    let next = c.in-Some.ensures.steps.0 in
    let es = c.loop-entry.entries.items in
    let more =
    add_entry es c.loop-entry.index.entries e rest inv.places (subst (λ l. are_new (ids es) (requests_of l) ≡ true) next inv.new)
    c.append.new.entries.items c.append.new.index.entries c.append.ensures.entries c.append.ensures.index in
    record {
      room_entries = omega (arith, c.in-Some.ensures.steps.1);
      room_index = omega (arith, c.in-Some.ensures.steps.1);
      entries = ap (λ l. l ++ rest) c.append.ensures.entries ∙ append_assoc es (e ∷ []) rest ∙ ap (λ l. es ++ l) (sym next) ∙ inv.entries;
      places = more.places;
      new = more.new;
    }

pub returns-clause-entries : goal.returns-clause-entries
returns-clause-entries c = grind (arith, common_steps)
