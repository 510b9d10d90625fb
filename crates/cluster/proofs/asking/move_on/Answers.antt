use Rattle.std.proofs.Common.{◌∙◌, ◌+◌, ◌<◌, sym, ap, subst}
use Rattle.std.specs.Prelude.{slice_set}
use Rattle.world_front.specs.ControlPlane.{asks_more}
use Rattle.world_front.specs.declared.session.Session.{Session}
use Rattle.cluster.specs.declared.pass.OwnSession.{OwnSession}
use Rattle.cluster.proofs.OwnSessions.{stands_at, read_at_place, read_session, next_is}
use Rattle.cluster.proofs.asking.move_on.Goals as goal

pub count_request-requires : goal.count_request-requires
count_request-requires c =
    subst (λ n. n + 1 < 4294967296) (next_is c.args.own.now.items c.args.ask.now.session c.index_mut.result.now.session (read_session c.args.own.now.items c.args.ask.now.session c.args.k c.index_mut.result.now c.requires.place c.index_mut.ensures.value)) c.requires.room

pub returns : goal.returns
returns c =
    let h = stands_at c.args.own.now.items c.args.ask.now.session c.args.k c.requires.place in
    let e = read_at_place c.args.own.now.items c.args.ask.now.session c.args.k c.index_mut.result.now h c.index_mut.ensures.value in
    ap (λ (s : Session). slice_set c.args.own.now.items c.args.k (record c.index_mut.result.now { session = s })) c.count_request.ensures
    ∙ (ap (λ (o : OwnSession). slice_set c.args.own.now.items c.args.k (record o { session = asks_more c.args.ask.now 1 o.session })) e ∙ sym (h.changed (asks_more c.args.ask.now 1)))
