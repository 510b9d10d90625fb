use Rattle.std.proofs.Common.{◌∙◌, sym, subst, get_or, Ok, Err}
use Rattle.std.specs.Ordering.{nat_cmp}
use Rattle.std.specs.List.Sorted.{IsBinarySearchResult}
use Rattle.std.proofs.lemmas.List.Sorted.{searched}
use Rattle.group_wire.proofs.Places.{rises_in_order, without_one, without_none, apart}
use Rattle.group_wire.proofs.ledger.take_out.Goals as goal

pub returns-in-Ok : goal.returns-in-Ok
returns-in-Ok c =
    let items = c.args.places.now.items in
    let found = searched items c.args.place (Ok c.in-Ok.index) (subst (λ l. IsBinarySearchResult (λ y. nat_cmp y c.args.place) l (Ok c.in-Ok.index)) c.as_slice.ensures.value c.in-Ok.ensures.position) (rises_in_order 0 items c.requires) in
    c.remove.ensures.items ∙ without_one 0 c.args.place items c.in-Ok.index c.requires found.0 found.1

pub returns-in-Err : goal.returns-in-Err
returns-in-Err c =
    let items = c.args.places.now.items in
    let found = searched items c.args.place (Err c.in-Err.field-0) (subst (λ l. IsBinarySearchResult (λ y. nat_cmp y c.args.place) l (Err c.in-Err.field-0)) c.as_slice.ensures.value c.in-Err.ensures.position) (rises_in_order 0 items c.requires) in
    sym (without_none c.args.place items (λ j lt is. apart j c.in-Err.field-0 (get_or items j 0) c.args.place (found.1 j) (λ le. found.2 j le lt) is))
