use Rattle.std.proofs.Common.{◌∙◌, sym}
use Rattle.script_text.proofs.Cursor.{same_behind, left_behind}
use Rattle.script_text.proofs.words.Words.next_word.Goals as goal

pub invariant_of-self : goal.invariant_of-self
invariant_of-self c =
    (c.in-Word.ensures.rest.0, same_behind c.in-Word.word.now c.in-Word.behind.now c.self.inside.rest.now c.in-Word.ensures.words ∙ c.self.invariant.1)

pub returns-in-Word : goal.returns-in-Word
returns-in-Word c =
    sym c.self.view_is ∙ left_behind c.in-Word.word.now c.in-Word.behind.now c.self.inside.rest.now c.in-Word.ensures.words c.self.invariant.1
