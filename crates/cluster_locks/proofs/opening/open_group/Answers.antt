use Rattle.std.proofs.Common.{[], ◌∷◌, ◌++◌, map, sym, ap, ◌∙◌, subst, arith}
use Rattle.std.proofs.lemmas.List.{map-append}
use Rattle.turn_lock.specs.Seats.{first_of}
use Rattle.cluster_locks.specs.Places.{Beside, IsFreshRow}
use Rattle.cluster_locks.specs.Shares.{shares_of}
use Rattle.cluster_locks.proofs.FreshRows.{rows_longer, in_step_long}
use Rattle.cluster_locks.proofs.opening.open_group.Goals as goal

pub returns-clause-firsts : goal.returns-clause-firsts
returns-clause-firsts c = let old = c.args.locks.now.items in
    ap (map first_of) c.in_ok-push.ensures.items ∙ (map-append first_of old (c.in_ok-lock.lock ∷ []) ∙ (λ i. map first_of old ++ c.in_ok-lock.ensures.first i ∷ []))

pub returns-clause-count : goal.returns-clause-count
returns-clause-count c = let longs = in_step_long _ _ _ _ c.in_ok-longer.ensures in
    c.in_ok-longer.longer.ok.0 ∙ (longs.1 ∙ sym c.args.rows.ok.0)

pub returns-clause-rows : goal.returns-clause-rows
returns-clause-rows c passes is beside = let opened = c.in_ok-lock.ensures in
    subst (λ locks. Beside (λ share row. IsFreshRow share locks row.items) (shares_of passes) c.in_ok-longer.longer.items) (sym c.in_ok-push.ensures.items)
    (rows_longer (λ row. row.items) c.args.locks.now.items c.in_ok-lock.lock (shares_of passes) c.args.rows.items c.in_ok-lock.seats.items c.in_ok-longer.longer.items beside opened.seats.1 (opened.shares passes (omega arith)) c.in_ok-longer.ensures)
