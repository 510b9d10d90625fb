-- Statement: contracts of public calls use it.
-- Which lines of an OSD's log may say something of requests: those with one of some marks.
-- Source: PrimaryLogPG::do_op, PG::op_has_sufficient_caps and OSD::ms_handle_fast_authentication of Ceph 16.2.15, as their logs at debug_osd 20 show them.
use Rattle.std.specs.Prelude.{ℕ, List, [], ◌∷◌, ◌⊎◌, codes}
use Rattle.memchr.specs.Find.{OccursAt}

abbrev pub decision_mark : List ℕ
decision_mark = codes "op_has_sufficient_caps session="

abbrev pub operation_mark : List ℕ
operation_mark = codes "do_op: op osd_op("

abbrev pub session_mark : List ℕ
session_mark = codes " ms_handle_fast_authentication "

abbrev pub marks : List (List ℕ)
marks = decision_mark ∷ operation_mark ∷ session_mark ∷ []

-- a mark stands somewhere in these bytes
abbrev pub Has : List ℕ → List ℕ → Type 0
Has bytes mark = (k : ℕ) × OccursAt bytes mark k

-- one of some marks does
abbrev pub HasOne : List ℕ → List (List ℕ) → Type 0
HasOne bytes [] = ⊥
HasOne bytes (mark ∷ marks) = Has bytes mark ⊎ HasOne bytes marks
