use Rattle.std.proofs.Common.{◌≡◌, ◌≤◌, ◌+◌, ◌*◌, ◌++◌, ◌∷◌, ◌||◌, ℕ, List, true, not, ◌==◌, length}
use Rattle.std.specs.List.{list_all}
use Rattle.name_patterns.specs.Patterns.{fits}
use Rattle.name_patterns.proofs.Stars.{is_bare, later}
use Rattle.name_patterns.proofs.patterns.has_end.Given as goal

-- what is left fits, or the pattern behind the newest star fits later
abbrev pub invariant-loop-first : goal.invariant-loop-first
invariant-loop-first l =
    ((fits l.rest l.text || later l.behind_star l.tried) ≡ fits (42 ∷ l.initial.behind_star) l.initial.tried)
    × (length l.behind_star ≤ length l.initial.behind_star)
    × ((front : List ℕ) × (list_all is_bare front ≡ true) × (l.behind_star ≡ front ++ l.rest) × (l.tried ≡ front ++ l.text))

abbrev pub decreases-loop-first : goal.decreases-loop-first
decreases-loop-first l = length l.tried * (length l.initial.behind_star + 2) + length l.rest
