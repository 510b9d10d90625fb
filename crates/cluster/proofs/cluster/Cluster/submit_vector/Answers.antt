use Rattle.std.proofs.Common.{◌≡◌, sym, subst, Some}
use Rattle.store_core.specs.Request.{Sealed}
use Rattle.world_front.specs.ControlPlane.{vector_of}
use Rattle.world_events.specs.declared.event.Ask.{Ask}
use Rattle.world_front.specs.declared.session.Session.{Session}
use Rattle.cluster.specs.Sessions.{own_session}
use Rattle.cluster.specs.Asking.{ask_by}
use Rattle.cluster.specs.ToAsk.{IsToAsk}
use Rattle.cluster.proofs.OwnSessions.{stands_at, read_session}
use Rattle.cluster.proofs.Vectors.{vector_ready, vector_made, vector_asked, vector_refused, vector_unmade, vector_unnamed}
use Rattle.cluster.proofs.cluster.Cluster.submit_vector.Goals as goal

pub returns-then-not-are_names-clause-err : goal.returns-then-not-are_names-clause-err
returns-then-not-are_names-clause-err g c =
    let h = stands_at c.args.pass.now.sessions.items c.args.new_request.session c.args.k c.requires.place in
    vector_unnamed c.args.self.now c.args.new_request c.args.view c.args.object c.args.ops h.one.session c.args.pass.now h.found (sym c.if-not-are_names.ensures)

pub returns-in-Err-clause-err : goal.returns-in-Err-clause-err
returns-in-Err-clause-err g c =
    let h = stands_at c.args.pass.now.sessions.items c.args.new_request.session c.args.k c.requires.place in
    vector_unmade c.args.self.now c.args.new_request c.args.view c.args.object c.args.ops h.one.session c.args.pass.now c.in-Err.fault h.found (sym c.if-not-are_names.ensures) c.in-Err.ensures.err

pub put-requires-clause-asks : goal.put-requires-clause-asks
put-requires-clause-asks g c =
    let own = c.args.pass.now.sessions.items in
    let start = c.args.self.now.start in
    let s : Session = c.index.result.now.session in
    let has : own_session own c.args.new_request.session ≡ Some s = read_session own c.args.new_request.session c.args.k c.index.result.now c.requires.place c.index.ensures in
    subst (λ (r : Sealed). IsToAsk start own c.ask_by-ask.result r) (sym c.in-Ok.ensures.sealed.0)
    (subst (λ (k : Ask). IsToAsk start own k (vector_of k (record { session = s; view = c.args.view }) c.args.object c.args.ops)) (sym c.ask_by-ask.ensures)
    (vector_ready start own (ask_by c.args.new_request c.args.view) c.args.view s c.requires.pool has c.in-Ok.ensures.room c.args.object c.args.ops))

pub returns-clause-ok : goal.returns-clause-ok
returns-clause-ok g c =
    let own = c.args.pass.now.sessions.items in
    let s : Session = c.index.result.now.session in
    let has : own_session own c.args.new_request.session ≡ Some s = read_session own c.args.new_request.session c.args.k c.index.result.now c.requires.place c.index.ensures in
    vector_asked c.args.self.now c.args.new_request c.args.view c.args.object c.args.ops s c.args.pass.now c.put.new.pass has c.ask_by-ask.result c.in-Ok.request c.ask_by-ask.ensures c.in-Ok.ensures.sealed.0
    (vector_made c.args.new_request (record { session = s; view = c.args.view }) c.args.object c.args.ops (sym c.if-not-are_names.ensures) c.in-Ok.ensures.sealed.1) c.put.result c.put.ensures.ok

pub returns-clause-err : goal.returns-clause-err
returns-clause-err g c =
    let own = c.args.pass.now.sessions.items in
    let s : Session = c.index.result.now.session in
    let has : own_session own c.args.new_request.session ≡ Some s = read_session own c.args.new_request.session c.args.k c.index.result.now c.requires.place c.index.ensures in
    vector_refused c.args.self.now c.args.new_request c.args.view c.args.object c.args.ops s c.args.pass.now c.put.new.pass has c.ask_by-ask.result c.in-Ok.request c.ask_by-ask.ensures c.in-Ok.ensures.sealed.0
    (vector_made c.args.new_request (record { session = s; view = c.args.view }) c.args.object c.args.ops (sym c.if-not-are_names.ensures) c.in-Ok.ensures.sealed.1) c.put.result c.put.ensures.err
