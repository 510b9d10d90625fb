-- What a text spells may be kept.
use Rattle.std.proofs.Common.{ℕ, List, Option}
use Rattle.verdict_text.specs.Reading.{Reading}
use Rattle.verdict_text.specs.Spelled.{IsKept, IsSpelling}
use Rattle.verdict_text.specs.declared.reading.Rules.{Rules}
use Rattle.verdict_text.specs.declared.reading.Spelled.{Spelled}
use Rattle.verdict_text.specs.declared.reading.Spelled.TheVariants.{Nothing, Listed, Counted}

pub kept : (rules : Rules) (caps : List ℕ) (until : Option ℕ) (read : Reading) (spelled : Spelled) → IsSpelling rules caps until read spelled → IsKept rules caps until read spelled
kept rules caps until read Nothing is = tt
kept rules caps until read (Listed grants) is = is
kept rules caps until read (Counted count) is = is
