use Rattle.std.proofs.Common.{◌≡◌, ◌∙◌, ◌+◌, ◌++◌, ◌∷◌, [], List, inl, length, refl, sym, ap, subst, arith}
use Rattle.std.proofs.lemmas.List.{length-append}
use Rattle.cluster.specs.declared.asking.Submitted.{Submitted}
use Rattle.cluster.specs.Asking.{ArePieces}
use Rattle.cluster.proofs.OwnSessions.{stands_at}
use Rattle.cluster.proofs.Pieces.{pieces_more, cut_short}
use Rattle.cluster.proofs.cluster.Cluster.submit_pieces.Goals as goal

pub returns-in_default-clause-err : goal.returns-in_default-clause-err
returns-in_default-clause-err g c =
    let h = stands_at c.args.pass.now.sessions.items c.args.ask.now.session c.args.k c.requires.place in
    let some = c.requires.pool.limits.some_groups in
    cut_short c.args.self.now c.args.ask.now c.args.view.now [] 0 _ c.args.pass.now c.args.pass.now c.args.pass.now refl (omega arith) refl (h.one.session, h.found, inl (refl, refl))

pub returns-in-Err-clause-err : goal.returns-in-Err-clause-err
returns-in-Err-clause-err g c =
    cut_short c.args.self.now c.args.ask.now c.args.view.now c.loop-group.all.items c.loop-group.group c.in-Err.fault c.args.pass.now c.loop-group.pass c.submit_piece.new.pass c.loop-group.invariant.count c.loop-group-test.true c.loop-group.invariant.pieces
    c.in-Err.ensures.err

pub loop-group-preserved : goal.loop-group-preserved
loop-group-preserved g c =
    let inv = c.loop-group.invariant in
    let all : List Submitted = c.loop-group.all.items in
    let long : length (all ++ c.in-Ok-submit_piece.submitted ∷ []) ≡ c.loop-group.group + 1 = length-append all (c.in-Ok-submit_piece.submitted ∷ []) ∙ ap (λ n. n + 1) inv.count in record {
      pass = c.submit_piece.ensures.pass;
      place = c.submit_piece.ensures.place;
      pieces = subst (λ (l : List Submitted). ArePieces c.args.self.now c.args.ask.now c.args.view.now 0 l c.args.pass.now c.submit_piece.new.pass) (sym c.push_reserved.ensures.items)
          (pieces_more c.args.self.now c.args.ask.now c.args.view.now 0 all c.in-Ok-submit_piece.submitted c.loop-group.group c.args.pass.now c.loop-group.pass c.submit_piece.new.pass (omega arith) inv.pieces c.in-Ok-submit_piece.ensures.ok);
      count = ap length c.push_reserved.ensures.items ∙ long;
      room = let e = c.push_reserved.ensures.capacity in let r = inv.room in omega arith;
    }
