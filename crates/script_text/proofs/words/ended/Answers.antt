use Rattle.std.proofs.Common.{sym, ap, ◌∙◌, List, ℕ, ◌∷◌}
use Rattle.std.specs.Option.{option_map}
use Rattle.script_text.proofs.Cursor.{behind_ends}
use Rattle.script_text.specs.Inside.{ends_word}
use Rattle.script_text.proofs.words.ended.Goals as goal

pub returns-then-ends_word-clause-words : goal.returns-then-ends_word-clause-words
returns-then-ends_word-clause-words c =
    sym (ap (option_map (λ (ws : List (List ℕ)). c.args.word.now ∷ ws)) (behind_ends c.args.rest.now (ap ends_word (sym c.as_bytes.ensures.value) ∙ sym c.ends_word.ensures ∙ c.if-ends_word.true)))
