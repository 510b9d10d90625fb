use Rattle.std.proofs.Common.{◌≡◌, ◌<◌, ◌+◌, ◌++◌, ◌∷◌, [], Some, length, slice_get, slice_index_or, get_or, ap, sym, subst, ◌∙◌, option_copied, arith}
use Rattle.std.proofs.lemmas.Option.{slice_get-get_or}
use Rattle.rules_core.specs.Rules.{IsFinding}
use Rattle.rules_core.proofs.CheckSteps.{FoundBefore, found_all, found_none, found_some}
use Rattle.rules_core.proofs.NearSteps.{AreDone, done_all, done_more, done_none, up_to}
use Rattle.rules_core.proofs.checking.findings.Goals as goal
use Rattle.rules_core.proofs.checking.findings.Goals.{in-Some+in_ok-push, in_default}

pub loop-place-init : goal.loop-place-init
loop-place-init c =
    subst (AreDone (option_copied c.args.pools) c.args.rule.now c.args.entities.now c.args.places.now 0) (sym c.new-founds.ensures.items)
    (done_none (option_copied c.args.pools) c.args.rule.now c.args.entities.now c.args.places.now)

pub loop-place-preserved : goal.loop-place-preserved
loop-place-preserved c =
    let at : slice_get c.args.places.now c.loop-place.place-index ≡ Some (slice_index_or c.args.places.now c.loop-place.place-index 0) = slice_get-get_or c.args.places.now c.loop-place.place-index 0 (omega arith) in
    let inside : slice_index_or c.args.places.now c.loop-place.place-index 0 < length c.args.entities.now = c.requires.0.inside c.loop-place.place-index 0 (omega arith) in
    let here : c.index-subjects-place.result ≡ get_or c.args.entities.now (slice_index_or c.args.places.now c.loop-place.place-index 0) c.index-subjects-place.result =
    subst (λ l. c.index-subjects-place.result ≡ get_or l (slice_index_or c.args.places.now c.loop-place.place-index 0) c.index-subjects-place.result) c.subjects-subjects.ensures c.index-subjects-place.is in
    let before : FoundBefore (option_copied c.args.pools) c.args.rule.now c.args.entities.now (slice_index_or c.args.places.now c.loop-place.place-index 0) c.loop-place.founds.items =
    up_to (option_copied c.args.pools) c.args.rule.now c.args.entities.now c.args.places.now c.loop-place.place-index (slice_index_or c.args.places.now c.loop-place.place-index 0) c.loop-place.founds.items
    c.loop-place.invariant c.requires.0.rising c.requires.1 at inside in
    elim c.match-found.branch [
      | in-Some+in_ok-push w ↦ (
          let pushed : c.match-found.founds.items ≡ c.loop-place.founds.items ++ record { place = slice_index_or c.args.places.now c.loop-place.place-index 0; finding = w.in-Some.finding } ∷ [] =
          ap (λ v. v.items) w.founds-is ∙ w.in_ok-push.ensures.items in
          subst (AreDone (option_copied c.args.pools) c.args.rule.now c.args.entities.now c.args.places.now (c.loop-place.place-index + 1)) (sym pushed)
          (done_more (option_copied c.args.pools) c.args.rule.now c.args.entities.now c.args.places.now c.loop-place.place-index (slice_index_or c.args.places.now c.loop-place.place-index 0) c.loop-place.founds.items _
          c.loop-place.invariant c.requires.0.rising at inside
          (found_some (option_copied c.args.pools) c.args.rule.now c.args.entities.now (slice_index_or c.args.places.now c.loop-place.place-index 0) c.index-subjects-place.result c.loop-place.founds.items w.in-Some.finding inside here
          (subst (IsFinding (option_copied c.args.pools) c.args.rule.now c.args.entities.now c.index-subjects-place.result) w.in-Some.is c.in_ok-found.ensures) before))
          )
      | in_default w ↦ (
          let same : c.match-found.founds.items ≡ c.loop-place.founds.items = ap (λ v. v.items) w.founds-is in
          subst (AreDone (option_copied c.args.pools) c.args.rule.now c.args.entities.now c.args.places.now (c.loop-place.place-index + 1)) (sym same)
          (done_more (option_copied c.args.pools) c.args.rule.now c.args.entities.now c.args.places.now c.loop-place.place-index (slice_index_or c.args.places.now c.loop-place.place-index 0) c.loop-place.founds.items
          c.loop-place.founds.items c.loop-place.invariant c.requires.0.rising at inside
          (found_none (option_copied c.args.pools) c.args.rule.now c.args.entities.now (slice_index_or c.args.places.now c.loop-place.place-index 0) c.index-subjects-place.result c.loop-place.founds.items inside here
          (subst (IsFinding (option_copied c.args.pools) c.args.rule.now c.args.entities.now c.index-subjects-place.result) w.in_default.is c.in_ok-found.ensures) before))
          )
    ]

pub returns : goal.returns
returns c =
    found_all (option_copied c.args.pools) c.args.rule.now c.args.entities.now (length c.args.entities.now) c.loop-place.founds.items (omega arith)
    (done_all (option_copied c.args.pools) c.args.rule.now c.args.entities.now c.args.places.now c.loop-place.place-index c.loop-place.founds.items c.loop-place.invariant (omega arith) c.requires.1)
