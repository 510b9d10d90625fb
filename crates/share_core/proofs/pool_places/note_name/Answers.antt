use Rattle.std.proofs.Common.{ap, subst, sym, ◌∙◌}
use Rattle.std.specs.List.{Contains}
use Rattle.std.proofs.lemmas.Result.{on_ok_weaker}
use Rattle.share_core.specs.PoolPlaces.{of_name}
use Rattle.share_core.proofs.NotedPools.{written_has, written_kept}
use Rattle.share_core.proofs.pool_places.note_name.Goals as goal

pub returns-in-Some-clause-kept : goal.returns-in-Some-clause-kept
returns-in-Some-clause-kept c = λ wanted other has.
    let left = c.note.new.places in
    let after = c.get_mut.follows.holds left in
    subst (λ es. Contains (of_name es wanted) other) (sym after.0)
    (written_kept c.args.named.now.entries c.args.name.now wanted c.in-Some.places.now left (sym c.in-Some.ensures.value) c.note.ensures.kept other has)

pub returns-in-Some-clause-added : goal.returns-in-Some-clause-added
returns-in-Some-clause-added c =
    let left = c.note.new.places in
    let after = c.get_mut.follows.holds left in
    on_ok_weaker c.note.result
    (λ has known. subst (λ list. Contains list c.args.place)
    (sym (ap (λ es. of_name es c.args.name.now) after.0 ∙ written_has c.args.named.now.entries c.args.name.now c.in-Some.places.now left (sym c.in-Some.ensures.value))) has)
    c.note.ensures.added
