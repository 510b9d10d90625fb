use Rattle.std.proofs.Common.{option_copied, string_bytes}
use Rattle.share_text.specs.Retags.{IsRetagToldWith}
use Rattle.share_text.proofs.Telling.{ToldSoFar}
use Rattle.share_text.proofs.retags.retags_of_all.Given as goal

-- what is reported so far, followed by what is reported of the rest, is what is reported of all
abbrev pub invariant-loop-place : goal.invariant-loop-place
invariant-loop-place l = ToldSoFar (IsRetagToldWith (option_copied l.pools) l.format) l.tenants l.place (string_bytes l.printed.text) l.printed.fails
