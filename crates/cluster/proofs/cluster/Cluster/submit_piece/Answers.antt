use Rattle.std.proofs.Common.{◌≡◌, ◌<◌, ◌+◌, inl, refl, sym, subst, Some}
use Rattle.store_core.specs.Request.{Sealed}
use Rattle.world_front.specs.declared.session.Session.{Session}
use Rattle.cluster.specs.Sessions.{own_session}
use Rattle.cluster.specs.ToAsk.{IsToAsk}
use Rattle.cluster.proofs.OwnSessions.{stands_at, read_session}
use Rattle.cluster.proofs.Vectors.{piece_ready}
use Rattle.cluster.proofs.Pieces.{piece_asked, piece_refused, place_after}
use Rattle.cluster.proofs.cluster.Cluster.submit_piece.Goals as goal

pub returns-in-Err-clause-err : goal.returns-in-Err-clause-err
returns-in-Err-clause-err g c =
    let h = stands_at c.args.pass.now.sessions.items c.args.ask.now.session c.args.k c.requires.place in
    (h.one.session, h.found, inl (refl, refl))

pub put-requires-clause-asks : goal.put-requires-clause-asks
put-requires-clause-asks g c =
    let own = c.args.pass.now.sessions.items in
    let s : Session = c.index.result.now.session in
    let has : own_session own c.args.ask.now.session ≡ Some s = read_session own c.args.ask.now.session c.args.k c.index.result.now c.requires.place c.index.ensures in
    let room : c.index.result.now.session.next + 1 < 4294967296 = c.in-Ok.ensures.room in
    subst (λ (r : Sealed). IsToAsk c.args.self.now.start own c.args.ask.now r) (sym c.in-Ok.ensures.piece)
    (piece_ready c.args.self.now.start own c.args.ask.now c.args.view.now s c.requires.pool has room c.args.group c.requires.group)

pub returns-in-Ok-clause-place : goal.returns-in-Ok-clause-place
returns-in-Ok-clause-place g c =
    place_after c.args.self.now c.args.ask.now c.args.k c.in-Ok.request c.args.pass.now c.put.new.pass c.put.result c.requires.place c.put.ensures.ok c.put.ensures.err

pub returns-in-Ok-clause-ok : goal.returns-in-Ok-clause-ok
returns-in-Ok-clause-ok g c =
    let own = c.args.pass.now.sessions.items in
    let s : Session = c.index.result.now.session in
    let has : own_session own c.args.ask.now.session ≡ Some s = read_session own c.args.ask.now.session c.args.k c.index.result.now c.requires.place c.index.ensures in
    piece_asked c.args.self.now c.args.ask.now c.args.view.now c.args.group s c.args.pass.now c.put.new.pass has c.in-Ok.request c.in-Ok.ensures.piece c.put.result c.put.ensures.ok

pub returns-in-Ok-clause-err : goal.returns-in-Ok-clause-err
returns-in-Ok-clause-err g c =
    let own = c.args.pass.now.sessions.items in
    let s : Session = c.index.result.now.session in
    let has : own_session own c.args.ask.now.session ≡ Some s = read_session own c.args.ask.now.session c.args.k c.index.result.now c.requires.place c.index.ensures in
    piece_refused c.args.self.now c.args.ask.now c.args.view.now c.args.group s c.args.pass.now c.put.new.pass has c.in-Ok.request c.in-Ok.ensures.piece c.put.result c.put.ensures.err
