use Rattle.std.proofs.Common.{◌∙◌}
use Rattle.std.proofs.lemmas.Str.{IsUtf8-from_ascii}
use Rattle.script_text.proofs.Cursor.{same_behind}
use Rattle.script_text.proofs.words.are_words.Goals as goal

pub loop-rest-preserved : goal.loop-rest-preserved
loop-rest-preserved c = record {
  text = IsUtf8-from_ascii c.in-Word.behind.now c.in-Word.ensures.rest.0;
  ascii = c.in-Word.ensures.rest.0;
  same = same_behind c.in-Word.field-0.now c.in-Word.behind.now c.loop-rest.rest.now c.in-Word.ensures.words ∙ c.loop-rest.invariant.same;
}
