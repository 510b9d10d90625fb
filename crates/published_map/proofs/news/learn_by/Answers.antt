use Rattle.std.proofs.Common.{ap, ◌∙◌, subst, arith}
use Rattle.left_right.specs.Sides.{view as known}
use Rattle.map_core.specs.State.{GoesOn}
use Rattle.published_map.specs.declared.published.PublishedMap.{PublishedMap}
use Rattle.published_map.specs.declared.published.Knowledge.{Knowledge}
use Rattle.published_map.specs.Published.{Sees}
use Rattle.published_map.proofs.Grows.{grows, goes_on_itself, covers_on}
use Rattle.std.proofs.lemmas.Grind.{common_steps}
use Rattle.published_map.proofs.news.learn_by.Goals as goal

pub enter_as-requires : goal.enter_as-requires
enter_as-requires c x = grows _ _ x x (goes_on_itself _)

pub enter_as-requires-2 : goal.enter_as-requires-2
enter_as-requires-2 c x = grows _ _ x x (goes_on_itself _)

pub returns-then-fits-clause-ok : goal.returns-then-fits-clause-ok
returns-then-fits-clause-ok c = let own = c.in-Ok-enter_as.own in let told = c.in-Ok.told in
    let p : Sees own.part.value.map (known c.args.reader.place) (known own.place) = c.in-Ok-enter_as.ensures.1 in
    let q : Sees told.part.value.map (known c.args.news.reader.place) (known told.place) = c.in-Ok.ensures.1 in
    let later : GoesOn c.get.result.now.map c.get-in-Ok-enter_as.result.now.map = c.goes_on_from-fits.ensures.0 c.if-fits.true in
    let up : GoesOn own.part.value.map told.part.value.map = subst (λ (b : PublishedMap). GoesOn own.part.value.map b.map) c.get-in-Ok-enter_as.ensures (subst (λ (b : PublishedMap). GoesOn b.map c.get-in-Ok-enter_as.result.now.map) c.get.ensures later) in (
      own.part.value.map,
      ap (λ (k : Knowledge). k.seen) c.leave-reader.ensures.1 ∙ p.2,
      (p.0, p.1),
      covers_on own.part.value.map told.part.value.map (known c.args.news.reader.place) (known told.place) up q,
    )

pub returns-else-fits-clause-own : goal.returns-else-fits-clause-own
returns-else-fits-clause-own c = grind (arith, common_steps)

pub returns-else-fits-clause-news : goal.returns-else-fits-clause-news
returns-else-fits-clause-news c = grind (arith, common_steps)

pub returns-in-Err-enter_as-clause-news : goal.returns-in-Err-enter_as-clause-news
returns-in-Err-enter_as-clause-news c = grind (arith, common_steps)
