use Rattle.std.proofs.Common.{◌-◌, ◌≤◌, ℕ, length}
use denote.Text.{Utf8}
use denote.Shadow.{shadow}
use Rattle.ceph_text.specs.Grammar.{first_grant}
use Rattle.ceph_text.specs.Texts.{Begins}
use Rattle.ceph_text.proofs.reading.read.Given as goal

abbrev pub invariant-loop-piece : goal.invariant-loop-piece
invariant-loop-piece l = shadow (Utf8 l.rest) × Begins first_grant l.text l.grants.items l.rest × (length l.grants.items ≤ 4096)

abbrev pub decreases-loop-piece : goal.decreases-loop-piece
decreases-loop-piece l = 4097 - length l.grants.items
