use Rattle.std.proofs.Common.{◌∙◌, ◌∷◌, ◌++◌, [], sym, ap, refl, length, length-append, arith}
use Rattle.name_patterns.proofs.Stars.{star_step, byte_step, more_front, bare_front, no_star}
use Rattle.name_patterns.proofs.patterns.has_end.Goals as goal

pub loop-first-preserved-then-first-eq42 : goal.loop-first-preserved-then-first-eq42
loop-first-preserved-then-first-eq42 c =
    let kept = c.loop-first.invariant in
    let front = kept.2.0 in
    let is = c.in-Some.ensures.cases.0 ∙ ap (λ w. w ∷ c.in-Some.behind.now) c.if-first-eq42.true in (
      star_step front c.in-Some.behind.now c.loop-first.rest.now c.loop-first.behind_star.now c.loop-first.text.now c.loop-first.tried.now _ is kept.2.2 kept.2.3 kept.2.1 kept.0,
      omega (arith, kept.1, ap length kept.2.2, length-append front c.loop-first.rest.now, c.in-Some.ensures.cases.1),
      ([], refl, refl, refl),
    )

pub loop-first-preserved-then-first-byte : goal.loop-first-preserved-then-first-byte
loop-first-preserved-then-first-byte c =
    let kept = c.loop-first.invariant in
    let front = kept.2.0 in
    let w = c.in-Some.first.now in
    let bare = no_star w c.if-first-eq42.false in (
      byte_step w c.in-Some-split_first.byte.now c.in-Some.behind.now c.in-Some-split_first.others.now c.loop-first.rest.now c.loop-first.text.now _ _ c.in-Some.ensures.cases.0 c.in-Some-split_first.ensures.cases.0 c.if-first-byte.true bare kept.0,
      kept.1,
      (
        front ++ w ∷ [],
        bare_front front w bare kept.2.1,
        more_front front c.in-Some.behind.now c.loop-first.rest.now c.loop-first.behind_star.now w c.in-Some.ensures.cases.0 kept.2.2,
        more_front front c.in-Some-split_first.others.now c.loop-first.text.now c.loop-first.tried.now w (c.in-Some-split_first.ensures.cases.0 ∙ ap (λ v. v ∷ c.in-Some-split_first.others.now) (sym c.if-first-byte.true)) kept.2.3,
      ),
    )
