use Rattle.std.proofs.Common.{◌∙◌, ap, sym}
use Rattle.verdict_text.specs.FirstPlaces.{place_of}
use Rattle.verdict_text.proofs.FirstPlaces.{added_new}
use Rattle.verdict_text.proofs.named.add.Goals as goal

pub returns-in_ok-insert : goal.returns-in_ok-insert
returns-in_ok-insert c = λ wanted.
    ap (λ es. place_of es wanted) c.in_ok-insert.ensures.entries
    ∙ added_new c.args.places.now c.args.name.now c.in_ok-key.key c.args.place c.in_ok-key.ensures.ok (sym c.contains_key.ensures ∙ c.if-not-contains_key.true) wanted
