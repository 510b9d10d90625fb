-- Who has seen a map that covers what was known knows all that was known.
use Rattle.std.proofs.Common.{◌≡◌, subst}
use Rattle.std.specs.Prelude.{Some}
use Rattle.map_core.specs.State.{History, GoesOn}
use Rattle.published_map.specs.declared.published.Knowledge.{Knowledge}
use Rattle.published_map.specs.Published.{Covers, GoesOnFrom, KnowsAll, Sees}
use Rattle.published_map.proofs.Grows.{from_through}

pub knows_itself : (v : Knowledge) → KnowsAll v v
knows_itself v = record { covers = λ x h. h }

pub seen_more : (m : History) (v w : Knowledge) → w.seen ≡ Some m → Covers m v → KnowsAll w v
seen_more m v w is before = record {
  covers = λ x h. let up : GoesOn x m = subst (GoesOnFrom x) is h.0 in (from_through x m v.seen up before.0, from_through x m v.told up before.1);
}

pub sees_more : (m : History) (v w : Knowledge) → Sees m v w → KnowsAll w v
sees_more m v w s = seen_more m v w s.2 (s.0, s.1)
