use Rattle.std.proofs.Common.{◌≤◌, length}
use denote.Text.{Utf8}
use denote.Shadow.{shadow}
use Rattle.std.specs.Str.{IsAscii}
use Rattle.rules_words.specs.Words.{Leads}
use Rattle.rules_words.proofs.words.all_words.Given as goal

-- the words so far lead to the rest
abbrev pub invariant-loop-rest : goal.invariant-loop-rest
invariant-loop-rest l = record {
  utf8 : shadow (Utf8 l.rest);
  ascii : IsAscii l.rest;
  within : length l.rest ≤ length l.text;
  leads : Leads (length l.text) l.text l.words.items l.rest;
}

abbrev pub decreases-loop-rest : goal.decreases-loop-rest
decreases-loop-rest l = length l.rest
