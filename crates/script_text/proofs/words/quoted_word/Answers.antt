use Rattle.std.proofs.Common.{sym, ap, ◌∙◌, length, arith, ◌<◌}
use Rattle.std.specs.List.{prefix_len}
use Rattle.std.proofs.lemmas.List.Sums.{prefix_len-le-length}
use Rattle.script_text.specs.Inside.{is_inside}
use Rattle.std.proofs.lemmas.List.{drop-drop}
use Rattle.script_text.proofs.Cursor.{closed_rest, open_rest}
use Rattle.std.proofs.lemmas.Grind.{common_steps}
use Rattle.script_text.proofs.words.quoted_word.Goals as goal

pub returns-then-len-text-clause-words : goal.returns-then-len-text-clause-words
returns-then-len-text-clause-words c =
    let len = c.quoted_len-len.ensures ∙ ap (prefix_len (is_inside c.args.quote)) c.as_bytes.ensures.value in
    sym (open_rest c.args.quote c.args.text.now (omega arith))

pub cut-requires-clause-within : goal.cut-requires-clause-within
cut-requires-clause-within c = rw (c.quoted_len-len.ensures, c.as_bytes.ensures.value) (prefix_len-le-length (is_inside c.args.quote) c.args.text.now)

pub returns-clause-words : goal.returns-clause-words
returns-clause-words c =
    let len = c.quoted_len-len.ensures ∙ ap (prefix_len (is_inside c.args.quote)) c.as_bytes.ensures.value in
    let closed : prefix_len (is_inside c.args.quote) c.args.text.now < length c.args.text.now = omega (arith, prefix_len-le-length (is_inside c.args.quote) c.args.text.now) in
    rw (c.ended.ensures.words, c.cut.ensures.front, c.cut-2.ensures.back, c.cut.ensures.back, len, drop-drop 1 (prefix_len (is_inside c.args.quote) c.args.text.now) c.args.text.now) (sym (closed_rest c.args.quote c.args.text.now closed))

pub returns-clause-rest : goal.returns-clause-rest
returns-clause-rest c =
    let len = c.quoted_len-len.ensures ∙ ap (prefix_len (is_inside c.args.quote)) c.as_bytes.ensures.value in
    rw (← drop-drop 1 (prefix_len (is_inside c.args.quote) c.args.text.now) c.args.text.now, ← len, ← c.cut.ensures.back, ← c.cut-2.ensures.back) c.ended.ensures.rest

pub cut-requires-2-clause-within : goal.cut-requires-2-clause-within
cut-requires-2-clause-within c = grind (arith, common_steps)

pub cut-requires-2-clause-ascii : goal.cut-requires-2-clause-ascii
cut-requires-2-clause-ascii c = grind (arith, common_steps)
