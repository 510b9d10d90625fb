use Rattle.std.proofs.Common.{◌+◌, IsSome, is_some, rules, map, arith, ◌∙◌, ap, sym, subst}
use Rattle.std.proofs.lemmas.Bool.{false≢true}
use Rattle.std.proofs.lemmas.List.{length-map}
use Rattle.flow_core.proofs.Ordered.{answer_found}
use Rattle.flow_core.proofs.Searches.{IsSearchedWith, begun_from, begun_nowhere, place_exists, round_from}
use Rattle.flow_core.proofs.chains.chains_from.Goals as goal
use Rattle.flow_core.proofs.chains.chains_from.Goals.{then-start-steps+in_ok-find_each, else-start-steps, in-Some+in_ok-chain+in_ok-find_each-2, in_default}

pub loop-next-init : goal.loop-next-init
loop-next-init c =
    elim c.if-start-steps.branch [
      | then-start-steps+in_ok-find_each w ↦
          subst (λ found. IsSearchedWith (map (λ row. row.items) c.args.steps.now) c.args.start found.entries 0) (sym w.found-is)
          (begun_from (λ row. row.items) c.args.steps.now c.args.start w.index-steps-start.result w.as_slice.result.now c.new-found.result.entries _ (omega arith) w.index-steps-start.is
          w.as_slice.ensures.value c.new-found.ensures.empty w.in_ok-find_each.ensures)
      | else-start-steps w ↦
          subst (λ found. IsSearchedWith (map (λ row. row.items) c.args.steps.now) c.args.start found.entries 0) (sym w.found-is)
          (subst (λ found. IsSearchedWith (map (λ row. row.items) c.args.steps.now) c.args.start found 0) (sym c.new-found.ensures.empty)
          (begun_nowhere (λ row. row.items) c.args.steps.now c.args.start (omega arith)))
    ]

pub bounds-steps-place : goal.bounds-steps-place
bounds-steps-place c =
    place_exists (λ row. row.items) c.args.steps.now c.args.start c.loop-next.next c.in-Some.place.now c.in-Some.chain.now c.loop-next.found.entries (sym c.in-Some.ensures.entry)
    c.loop-next.invariant

pub offset_bounds-steps-place : goal.offset_bounds-steps-place
offset_bounds-steps-place c = let below = bounds-steps-place c in search rules

pub loop-next-preserved : goal.loop-next-preserved
loop-next-preserved c =
    elim c.match-get_index.branch [
      | in-Some+in_ok-chain+in_ok-find_each-2 w ↦
          subst (λ found. IsSearchedWith (map (λ row. row.items) c.args.steps.now) c.args.start found.entries (c.loop-next.next + 1)) (sym w.found-is)
          (round_from (λ row. row.items) c.args.steps.now c.args.start c.loop-next.next w.in-Some.place.now w.in-Some.chain.now w.index-steps-place.result w.as_slice-in-Some-2.result.now
          w.as_slice-in-Some-3.result.now c.loop-next.found.entries _ (sym w.in-Some.ensures.entry) w.in-Some.ensures.value
          (place_exists (λ row. row.items) c.args.steps.now c.args.start c.loop-next.next w.in-Some.place.now w.in-Some.chain.now c.loop-next.found.entries (sym w.in-Some.ensures.entry)
          c.loop-next.invariant) w.index-steps-place.is (w.as_slice-in-Some-2.ensures.value ∙ (w.in_ok-chain.ensures.items ∙ w.as_slice-in-Some.ensures.value))
          w.as_slice-in-Some-3.ensures.value w.in_ok-find_each-2.ensures c.loop-next.invariant)
      | in_default w ↦
          let there : IsSome c.get_index.result = c.get_index.ensures.found.1 (omega arith) in
          absurd (false≢true (sym (ap is_some w.in_default.is) ∙ there))
    ]

pub returns : goal.returns
returns c =
    answer_found (map (λ row. row.items) c.args.steps.now) c.args.start c.loop-next.found.entries c.loop-next.next c.in_order.result
    (omega (arith, length-map c.loop-next.found.entries (λ e. e.0))) c.loop-next.invariant c.in_order.ensures.rising c.in_order.ensures.same
