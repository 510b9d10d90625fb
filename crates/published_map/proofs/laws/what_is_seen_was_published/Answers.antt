use Rattle.std.proofs.Common.{subst}
use Rattle.std.specs.Prelude.{Option}
use Rattle.map_core.specs.State.{History}
use Rattle.published_map.specs.Published.{GoesOnFrom}
use Rattle.published_map.proofs.laws.what_is_seen_was_published.Goals as goal

pub returns : goal.returns
returns c = λ published views covers seat v stands seen is_seen. subst (λ (s : Option History). GoesOnFrom published s) is_seen (covers seat v stands).0
