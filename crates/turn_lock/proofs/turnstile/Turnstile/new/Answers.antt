use Rattle.std.proofs.Common.{rules, ◌≡◌, List, [], ◌∷◌, Option, Some, sym, ap, subst}
use Rattle.atomic_table.specs.Table.{opening}
use Rattle.turn_lock.specs.Turning.{Ruled, first_view}
use Rattle.turn_lock.proofs.Keeps.{begins}
use Rattle.turn_lock.proofs.turnstile.Turnstile.new.Goals as goal

pub new-requires : goal.new-requires
new-requires g c = let items : c.push_reserved.new.self.items ≡ Some c.args.value ∷ [] = search rules in
    subst (λ (xs : List (Option g.row.T.Denot)). Ruled g.T.Recorded.state g.T.Recorded.after g.T.Recorded.fits (g.T.Recorded.state c.of-first.result.value) (opening (0 ∷ 0 ∷ []) xs first_view)) (sym items)
    (begins g.T.Recorded.state g.T.Recorded.after g.T.Recorded.fits _ c.args.value (ap g.T.Recorded.state (sym c.of-first.ensures)))
