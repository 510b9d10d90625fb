use Rattle.std.proofs.Common.{◌≡◌, List, length, sym, subst, Some, None}
use Rattle.std.specs.Prelude.{Vec}
use Rattle.std.specs.Global.{Global}
use Rattle.world_front.specs.ControlPlane.{error_of}
use Rattle.cluster.specs.declared.asking.Submitted.{Submitted}
use Rattle.cluster.specs.declared.pass.OwnSession.{OwnSession}
use Rattle.cluster.specs.Sessions.{next_of}
use Rattle.cluster.specs.Asking.{session_by, own_place, numbered_from, ArePieces, IsCutShort, IsListed, ListFails}
use Rattle.cluster.proofs.OwnSessions.{stands_at}
use Rattle.cluster.proofs.Vectors.{ok_so, err_so}
use Rattle.cluster.proofs.Pieces.{list_unseen, list_unnamed, listed_by, told_by, unlisted_by}
use Rattle.cluster.proofs.cluster.Cluster.list.Goals as goal

pub returns-in-Err-see_pool-clause-err : goal.returns-in-Err-see_pool-clause-err
returns-in-Err-see_pool-clause-err g c =
    let fine = subst (λ (l : List OwnSession). error_of (session_by l c.args.new_request) ≡ None) c.as_slice.ensures.value c.in-Ok.ensures.refused in
    let place = subst (λ (l : List OwnSession). own_place l c.args.new_request.session ≡ Some c.in-Ok.k) c.as_slice.ensures.value c.in-Ok.ensures.found in
    let h = stands_at c.args.pass.now.sessions.items c.args.new_request.session c.in-Ok.k place in
    list_unseen c.args.self.now c.args.new_request c.args.pass.now fine h.one.session h.found c.see_pool.new.pass c.in-Err-see_pool.fault c.in-Err-see_pool.ensures.err

pub returns-then-not-is_namespace-clause-err : goal.returns-then-not-is_namespace-clause-err
returns-then-not-is_namespace-clause-err g c =
    let fine = subst (λ (l : List OwnSession). error_of (session_by l c.args.new_request) ≡ None) c.as_slice.ensures.value c.in-Ok.ensures.refused in
    let place = subst (λ (l : List OwnSession). own_place l c.args.new_request.session ≡ Some c.in-Ok.k) c.as_slice.ensures.value c.in-Ok.ensures.found in
    let h = stands_at c.args.pass.now.sessions.items c.args.new_request.session c.in-Ok.k place in
    list_unnamed c.args.self.now c.args.new_request c.args.pass.now fine h.one.session h.found c.see_pool.new.pass c.in-Ok-see_pool.view c.in-Ok-see_pool.ensures.ok (sym c.if-not-is_namespace.ensures)

pub returns-else-not-is_namespace-clause-ok : goal.returns-else-not-is_namespace-clause-ok
returns-else-not-is_namespace-clause-ok g c =
    let fine = subst (λ (l : List OwnSession). error_of (session_by l c.args.new_request) ≡ None) c.as_slice.ensures.value c.in-Ok.ensures.refused in
    let place = subst (λ (l : List OwnSession). own_place l c.args.new_request.session ≡ Some c.in-Ok.k) c.as_slice.ensures.value c.in-Ok.ensures.found in
    let h = stands_at c.args.pass.now.sessions.items c.args.new_request.session c.in-Ok.k place in
    ok_so (λ (all : Vec Submitted Global). ArePieces c.args.self.now c.ask_by-ask.result c.in-Ok-see_pool.view 0 all.items c.see_pool.new.pass c.submit_pieces.new.pass × (length all.items ≡ c.in-Ok-see_pool.view.pg_num))
    (λ (all : Vec Submitted Global). IsListed c.args.self.now c.args.new_request all.items c.args.pass.now c.submit_pieces.new.pass) c.submit_pieces.result
    (λ all k. listed_by c.args.self.now c.args.new_request c.args.pass.now fine h.one.session h.found c.see_pool.new.pass c.in-Ok-see_pool.view c.in-Ok-see_pool.ensures.ok c.submit_pieces.new.pass c.ask_by-ask.result (sym c.if-not-is_namespace.ensures)
    c.ask_by-ask.ensures all.items k) c.submit_pieces.ensures.ok

pub returns-else-not-is_namespace-clause-err : goal.returns-else-not-is_namespace-clause-err
returns-else-not-is_namespace-clause-err g c =
    let fine = subst (λ (l : List OwnSession). error_of (session_by l c.args.new_request) ≡ None) c.as_slice.ensures.value c.in-Ok.ensures.refused in
    let place = subst (λ (l : List OwnSession). own_place l c.args.new_request.session ≡ Some c.in-Ok.k) c.as_slice.ensures.value c.in-Ok.ensures.found in
    let h = stands_at c.args.pass.now.sessions.items c.args.new_request.session c.in-Ok.k place in
    err_so (λ fault. IsCutShort c.args.self.now c.ask_by-ask.result c.in-Ok-see_pool.view fault c.see_pool.new.pass c.submit_pieces.new.pass) (λ fault. ListFails c.args.self.now c.args.new_request fault c.args.pass.now c.submit_pieces.new.pass)
    c.submit_pieces.result
    (λ fault k. unlisted_by c.args.self.now c.args.new_request c.args.pass.now fine h.one.session h.found c.see_pool.new.pass c.in-Ok-see_pool.view c.in-Ok-see_pool.ensures.ok c.submit_pieces.new.pass c.ask_by-ask.result (sym c.if-not-is_namespace.ensures)
    c.ask_by-ask.ensures fault k) c.submit_pieces.ensures.err

pub returns-else-not-is_namespace-clause-told : goal.returns-else-not-is_namespace-clause-told
returns-else-not-is_namespace-clause-told g c =
    let fine = subst (λ (l : List OwnSession). error_of (session_by l c.args.new_request) ≡ None) c.as_slice.ensures.value c.in-Ok.ensures.refused in
    let place = subst (λ (l : List OwnSession). own_place l c.args.new_request.session ≡ Some c.in-Ok.k) c.as_slice.ensures.value c.in-Ok.ensures.found in
    let h = stands_at c.args.pass.now.sessions.items c.args.new_request.session c.in-Ok.k place in
    ok_so (λ (all : Vec Submitted Global). ArePieces c.args.self.now c.ask_by-ask.result c.in-Ok-see_pool.view 0 all.items c.see_pool.new.pass c.submit_pieces.new.pass × (length all.items ≡ c.in-Ok-see_pool.view.pg_num))
    (λ (all : Vec Submitted Global). all.items ≡ numbered_from c.args.new_request.session (next_of c.args.pass.now.sessions.items c.args.new_request.session) c.args.new_request.pool (length all.items)) c.submit_pieces.result
    (λ all k. told_by c.args.self.now c.args.new_request c.args.pass.now fine h.one.session h.found c.see_pool.new.pass c.in-Ok-see_pool.view c.in-Ok-see_pool.ensures.ok c.submit_pieces.new.pass c.ask_by-ask.result (sym c.if-not-is_namespace.ensures)
    c.ask_by-ask.ensures all.items k) c.submit_pieces.ensures.ok
