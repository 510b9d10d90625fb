use Rattle.std.proofs.Common.{List, length, sym, subst, arith}
use Rattle.std.proofs.lemmas.Str.{IsUtf8-from_ascii}
use Rattle.rules_words.specs.Words.{Leads}
use Rattle.rules_words.specs.declared.words.Word.{Word}
use Rattle.rules_words.proofs.AllWords.{no_bytes, one_word}
use Rattle.rules_words.proofs.words.all_words.Goals as goal

pub loop-rest-preserved : goal.loop-rest-preserved
loop-rest-preserved c = record {
  utf8 = IsUtf8-from_ascii c.in-Word.behind.now c.in-Word.ensures.2;
  ascii = c.in-Word.ensures.2;
  within = omega (arith, c.in-Word.ensures.3, c.loop-rest.invariant.within);
  leads =
      subst (λ (ws : List Word). Leads (length c.args.text.now) c.args.text.now ws c.in-Word.behind.now)
      (sym c.in_ok-push-in-Word.ensures.items)
      (one_word (length c.args.text.now) c.args.text.now c.loop-rest.words.items c.loop-rest.rest.now c.in-Word.word
      c.in-Word.behind.now c.loop-rest.invariant.leads c.in-Word.ensures.0 c.in-Word.ensures.1);
}

pub returns-in-End : goal.returns-in-End
returns-in-End c = (c.loop-rest.rest.now, c.loop-rest.invariant.leads, c.in-End.ensures)

pub returns-in-Bad : goal.returns-in-Bad
returns-in-Bad c = (c.loop-rest.words.items, c.loop-rest.rest.now, c.loop-rest.invariant.leads, c.in-Bad.ensures)

pub returns : goal.returns
returns c = (c.loop-rest.rest.now, c.loop-rest.invariant.leads, no_bytes c.loop-rest.rest.now (omega arith))
