-- Marks that a search does not find.
use Rattle.std.proofs.Common.{ℕ, List, ◌+◌, length, arith}
use Rattle.memchr.specs.Find.{Nowhere, OccursAt}
use Rattle.log_core.specs.Marks.{Has}

pub stands_nowhere : (bytes mark : List ℕ) → Nowhere (OccursAt bytes mark) 0 (length bytes + 1) → Has bytes mark → ⊥
stands_nowhere bytes mark nowhere (k, occurs) = nowhere k (omega arith) (omega (arith, occurs.fits)) occurs
