use Rattle.std.proofs.Common.{get_or, sym, ap}
use Rattle.world_front.specs.ControlPlane.{error_of}
use Rattle.cluster_locks.proofs.Places.{at_read}
use Rattle.cluster.proofs.OwnSessions.{no_session, read_session}
use Rattle.cluster.proofs.Submitting.{session_none, session_stale, session_fine}
use Rattle.cluster.proofs.asking.asking_session.Goals as goal

pub returns-in-None-clause-refused : goal.returns-in-None-clause-refused
returns-in-None-clause-refused c = ap error_of (session_none c.args.own.now c.args.new_request.now (no_session c.args.own.now c.args.new_request.now.session (sym c.in-None.ensures.place)))

pub returns-then-new_request-own-clause-refused : goal.returns-then-new_request-own-clause-refused
returns-then-new_request-own-clause-refused c =
    ap error_of (session_stale c.args.own.now c.args.new_request.now (get_or c.args.own.now c.in-Some.k c.index-own-k.result).session (read_session c.args.own.now c.args.new_request.now.session c.in-Some.k (get_or c.args.own.now c.in-Some.k c.index-own-k.result) (sym c.in-Some.ensures.place) (at_read c.args.own.now c.in-Some.k c.index-own-k.result c.index-own-k.is)) c.if-new_request-own.true)

pub returns-else-new_request-own-clause-refused : goal.returns-else-new_request-own-clause-refused
returns-else-new_request-own-clause-refused c =
    ap error_of (session_fine c.args.own.now c.args.new_request.now (get_or c.args.own.now c.in-Some.k c.index-own-k.result).session (read_session c.args.own.now c.args.new_request.now.session c.in-Some.k (get_or c.args.own.now c.in-Some.k c.index-own-k.result) (sym c.in-Some.ensures.place) (at_read c.args.own.now c.in-Some.k c.index-own-k.result c.index-own-k.is)) c.if-new_request-own.false)
