use Rattle.std.proofs.Common.{◌≡◌, length, is_some}
use denote.Shadow.{shadow}
use denote.Text.{Utf8}
use Rattle.std.specs.Str.{IsAscii}
use Rattle.script_text.specs.Words.{words_from, Between}
use Rattle.script_text.proofs.words.are_words.Given as goal

abbrev pub invariant-loop-rest : goal.invariant-loop-rest
invariant-loop-rest l = record {
  text : shadow (Utf8 l.rest);
  ascii : IsAscii l.rest;
  same : is_some (words_from Between l.rest) ≡ is_some (words_from Between l.text);
}

abbrev pub decreases-loop-rest : goal.decreases-loop-rest
decreases-loop-rest l = length l.rest
