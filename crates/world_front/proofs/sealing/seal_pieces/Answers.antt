use Rattle.std.proofs.Common.{◌∙◌, ◌++◌, ◌∷◌, [], List, map, sym, ap, arith}
use Rattle.std.specs.List.{range_with_len}
use Rattle.std.proofs.lemmas.List.FromFn.{map-range_with_len_more}
use Rattle.store_core.specs.Request.{Sealed, Listing}
use Rattle.world_front.specs.ControlPlane.{Asker, sealed_of}
use Rattle.world_front.proofs.sealing.seal_pieces.Goals as goal

pub loop-group-preserved : goal.loop-group-preserved
loop-group-preserved c =
    let asker : Asker = record { session = c.args.asker.now.session.now; view = c.args.asker.now.view } in
    let before : List Sealed = map (λ n. sealed_of c.args.ask.now asker Listing n n) (range_with_len 0 c.loop-group.group) in
    c.in_ok-push.ensures.ok ∙ ap (λ l. l ++ c.in_ok-seal_piece.field-0 ∷ []) c.loop-group.invariant
    ∙ ap (λ s. before ++ s ∷ []) c.in_ok-seal_piece.ensures
    ∙ sym (map-range_with_len_more (λ n. sealed_of c.args.ask.now asker Listing n n) 0 c.loop-group.group c.loop-group.group (omega arith))
