use Rattle.std.proofs.Common.{sym, ◌∙◌}
use Rattle.verdict_core.proofs.Both.{both_hold, one_fails}
use Rattle.verdict_core.proofs.matching.allows.Goals as goal

pub returns-then-covers : goal.returns-then-covers
returns-then-covers c = both_hold _ _ _ c.full_is_usable.ensures (sym c.covers.ensures ∙ c.if-covers.true)

pub returns-else-covers : goal.returns-else-covers
returns-else-covers c = one_fails _ _ _ c.covers.ensures c.if-covers.false
