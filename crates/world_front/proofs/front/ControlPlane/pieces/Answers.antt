use Rattle.std.proofs.Common.{◌≡◌, ◌≤◌, length, List, Ok, sym, subst, arith}
use Rattle.store_core.specs.Request.{Sealed}
use Rattle.world_front.specs.Event.{ListNames}
use Rattle.world_front.specs.ControlPlane.{Asker, requests_of}
use Rattle.world_front.specs.Stands.{IsKept}
use Rattle.world_front.proofs.Fronts.{Made, asker_made, list_made}
use Rattle.world_front.proofs.Recording.{list_asked, pieces_count, requests_fresh, next_few}
use Rattle.world_front.proofs.front.ControlPlane.pieces.Goals as goal

pub returns-clause-asked : goal.returns-clause-asked
returns-clause-asked c =
    let asker : Asker = record { session = c.in_ok-asker.asker.session.now; view = c.in_ok-asker.asker.view } in
    let requests : List Sealed = c.in_ok-requests.requests in
    let count : length requests ≡ asker.view.pg_num = pieces_count c.args.ask.now asker requests c.in_ok-requests.ensures in
    let some : 1 ≤ asker.view.pg_num = c.in_ok-asker.ensures.limits.some_groups in
    let few : asker.view.pg_num ≤ 64 = c.in_ok-asker.ensures.limits.few_groups in
    record {
      is = list_asked c.args.self.now c.args.ask.now asker requests c.in_ok-asker.ensures.asked (sym c.if-not-is_namespace.ensures) c.in_ok-requests.ensures;
      some = omega (arith, count, some);
      few = omega (arith, count, few);
    }

pub returns-clause-fresh : goal.returns-clause-fresh
returns-clause-fresh c =
    let asker : Asker = record { session = c.in_ok-asker.asker.session.now; view = c.in_ok-asker.asker.view } in
    let requests : List Sealed = c.in_ok-requests.requests in
    let count : length requests ≡ asker.view.pg_num = pieces_count c.args.ask.now asker requests c.in_ok-requests.ensures in
    let few : asker.view.pg_num ≤ 64 = c.in_ok-asker.ensures.limits.few_groups in
    let asked : requests_of c.args.self.now (ListNames c.args.ask.now) ≡ Ok requests = list_asked c.args.self.now c.args.ask.now asker requests c.in_ok-asker.ensures.asked (sym c.if-not-is_namespace.ensures) c.in_ok-requests.ensures in
    let kept : IsKept c.args.self.now = subst IsKept c.self.view_is c.self.invariant in
    requests_fresh c.args.self.now c.args.ask.now requests kept (list_made c.args.self.now c.args.ask.now requests asked) (omega (arith, count, few))

pub seal_pieces-requires : goal.seal_pieces-requires
seal_pieces-requires c =
    let asker : Asker = record { session = c.in_ok-asker.asker.session.now; view = c.in_ok-asker.asker.view } in
    let kept : IsKept c.args.self.now = subst IsKept c.self.view_is c.self.invariant in
    let made : Made c.args.self.now c.args.ask.now asker = asker_made c.args.self.now c.args.ask.now asker c.in_ok-asker.ensures.asked in
    let next : asker.session.next ≤ 67108929 = next_few c.args.self.now c.args.ask.now.session asker.session kept made.session in
    let some : 1 ≤ asker.view.pg_num = c.in_ok-asker.ensures.limits.some_groups in
    let few : asker.view.pg_num ≤ 64 = c.in_ok-asker.ensures.limits.few_groups in
    record { groups = some; room = omega arith }
