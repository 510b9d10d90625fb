use Rattle.std.proofs.Common.{◌≡◌, ◌∷◌, [], List, Ok, sym, subst, arith}
use Rattle.store_core.specs.Request.{Sealed}
use Rattle.world_front.specs.Event.{Submit}
use Rattle.world_front.specs.ControlPlane.{Asker, requests_of, error_of}
use Rattle.world_front.specs.Stands.{IsKept}
use Rattle.world_front.proofs.Fronts.{submit_made}
use Rattle.world_front.proofs.Recording.{vector_asked, vector_refused, requests_fresh}
use Rattle.world_front.proofs.Refused.{same_exit}
use Rattle.world_front.proofs.front.ControlPlane.vector.Goals as goal

pub returns-clause-fresh : goal.returns-clause-fresh
returns-clause-fresh c =
    let asker : Asker = record { session = c.in_ok-asker.asker.session.now; view = c.in_ok-asker.asker.view } in
    let requests : List Sealed = c.in_ok-request.request ∷ [] in
    let asked : requests_of c.args.self.now (Submit c.args.ask.now c.args.object c.args.ops) ≡ Ok requests =
    vector_asked c.args.self.now c.args.ask.now asker c.args.object c.args.ops c.in_ok-request.request c.in_ok-asker.ensures.asked (sym c.if-not-are_names.ensures) c.in_ok-request.ensures.refused c.in_ok-request.ensures.sealed in
    let kept : IsKept c.args.self.now = subst IsKept c.self.view_is c.self.invariant in
    (requests_fresh c.args.self.now c.args.ask.now requests kept (submit_made c.args.self.now c.args.ask.now c.args.object c.args.ops requests asked) (omega arith)).0

pub returns-in_err-request-clause-refused : goal.returns-in_err-request-clause-refused
returns-in_err-request-clause-refused c =
    let asker : Asker = record { session = c.in_ok-asker.asker.session.now; view = c.in_ok-asker.asker.view } in
    same_exit c.from_residual-in_err-request.result (error_of (requests_of c.args.self.now (Submit c.args.ask.now c.args.object c.args.ops))) c.in_err-request.field-0.0 c.from_residual-in_err-request.ensures.1
    (vector_refused c.args.self.now c.args.ask.now asker c.args.object c.args.ops c.in_err-request.field-0.0 c.in_ok-asker.ensures.asked (sym c.if-not-are_names.ensures) c.in_err-request.ensures.refused)
