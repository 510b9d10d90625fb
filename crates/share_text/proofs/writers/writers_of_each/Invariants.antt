use Rattle.std.proofs.Common.{option_copied, string_bytes}
use Rattle.share_text.specs.Writers.{IsWriterToldWith}
use Rattle.share_text.proofs.Telling.{ToldSoFar}
use Rattle.share_text.proofs.writers.writers_of_each.Given as goal

-- what is reported so far, followed by what is reported of the rest, is what is reported of all
abbrev pub invariant-loop-place : goal.invariant-loop-place
invariant-loop-place l = ToldSoFar (IsWriterToldWith (option_copied l.pools) l.strictness) l.tenants l.place (string_bytes l.printed.text) l.printed.fails
