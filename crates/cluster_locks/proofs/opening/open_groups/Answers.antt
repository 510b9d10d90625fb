use Rattle.std.proofs.Common.{[], ◌∷◌, ◌++◌, map, sym, ap, ◌∙◌, subst}
use Rattle.std.proofs.lemmas.List.{map-append}
use Rattle.group_model.specs.Group.{Group}
use Rattle.turn_lock.specs.Seats.{first_of}
use Rattle.cluster_locks.specs.Places.{Beside, IsFreshRow}
use Rattle.cluster_locks.specs.Groups.{group_in}
use Rattle.cluster_locks.specs.Shares.{shares_of}
use Rattle.cluster_locks.proofs.FreshRows.{rows_empty, shares_long}
use Rattle.cluster_locks.proofs.opening.open_groups.Goals as goal

pub loop-group-init : goal.loop-group-init
loop-group-init c = let empty = c.in_ok-rows.ensures in let none = c.in_ok-locks.ensures.items in record {
  count = empty.0;
  firsts = ap (map first_of) none;
  rows = λ passes is. subst (λ locks. Beside (λ share row. IsFreshRow share locks row.items) (shares_of passes) c.in_ok-rows.rows.items) (sym none)
      (rows_empty Group (λ row. row.items) (shares_of passes) c.in_ok-rows.rows.items (sym c.in_ok-rows.rows.ok.0 ∙ (empty.0 ∙ (sym is ∙ sym (shares_long passes)))) empty.1);
}

pub loop-group-preserved : goal.loop-group-preserved
loop-group-preserved c = let inv = c.loop-group.invariant in let longer = c.in_ok-rows-2.ensures in record {
  count = longer.count ∙ inv.count;
  firsts = longer.firsts ∙ ((λ i. inv.firsts i ++ group_in c.in-Some.group ∷ []) ∙ sym (map-append group_in c.loop-group.yielded (c.in-Some.group ∷ [])));
  rows = λ passes is. longer.rows passes (is ∙ sym inv.count) (inv.rows passes is);
}
