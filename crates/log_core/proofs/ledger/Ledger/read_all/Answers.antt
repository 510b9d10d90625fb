use Rattle.std.proofs.Common.{◌≡◌, ◌+◌, ◌∷◌, ◌++◌, [], List, take, sym, ap, subst, ◌∙◌}
use Rattle.std.specs.Option.{option_to_list}
use Rattle.std.proofs.lemmas.List.{take_more}
use Rattle.log_core.specs.declared.line.Line.{Line}
use Rattle.log_core.specs.Ledger.{HasRead, behind, new_at, new_from}
use Rattle.log_core.proofs.Reading.{behind_push, new_push}
use Rattle.log_core.proofs.ledger.Ledger.read_all.Goals as goal

pub loop-line-preserved : goal.loop-line-preserved
loop-line-preserved c = λ before has.
    let far : List Line = take c.loop-line.line-index c.args.lines.now in
    let next : take (c.loop-line.line-index + 1) c.args.lines.now ≡ far ++ c.line-item.result ∷ [] =
    take_more c.args.lines.now c.loop-line.line-index c.line-item.result c.loop-line-test.true ∙ ap (λ (x : Line). far ++ x ∷ []) (sym c.line-item.is) in
    let so_far = c.loop-line.invariant before has in
    let new_is : c.in_ok-request.request ≡ new_at (behind before far) c.line-item.result = c.in_ok-request.ensures.new (behind before far) so_far.1 in (
      c.in_ok-push_request.ensures ∙ ((λ i. so_far.0 i ++ option_to_list (new_is i)) ∙ (sym (new_push before far c.line-item.result) ∙ ap (new_from before) (sym next))),
      subst (λ (l : List Line). HasRead l c.read.new.self) (sym (behind_push before far c.line-item.result) ∙ ap (behind before) (sym next))
          (c.in_ok-request.ensures.reads (behind before far) so_far.1),
    )
