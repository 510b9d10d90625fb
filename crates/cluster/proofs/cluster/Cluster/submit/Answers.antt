use Rattle.std.proofs.Common.{arith, ◌≡◌, List, subst, Some, None}
use Rattle.world_front.specs.ControlPlane.{error_of}
use Rattle.cluster.specs.declared.pass.OwnSession.{OwnSession}
use Rattle.cluster.specs.Asking.{session_by, own_place}
use Rattle.cluster.proofs.OwnSessions.{stands_at}
use Rattle.cluster.proofs.Vectors.{submit_unseen, submitted_by, unsubmitted_by}
use Rattle.std.proofs.lemmas.Grind.{common_steps}
use Rattle.cluster.proofs.cluster.Cluster.submit.Goals as goal

pub returns-in-Err-see_pool-clause-err : goal.returns-in-Err-see_pool-clause-err
returns-in-Err-see_pool-clause-err g c =
    let fine = subst (λ (l : List OwnSession). error_of (session_by l c.args.new_request) ≡ None) c.as_slice.ensures.value c.in-Ok.ensures.refused in
    let place = subst (λ (l : List OwnSession). own_place l c.args.new_request.session ≡ Some c.in-Ok.k) c.as_slice.ensures.value c.in-Ok.ensures.found in
    let h = stands_at c.args.pass.now.sessions.items c.args.new_request.session c.in-Ok.k place in
    submit_unseen c.args.self.now c.args.new_request c.args.object c.args.ops c.args.pass.now fine c.see_pool.new.pass h.one.session c.in-Err-see_pool.fault h.found c.in-Err-see_pool.ensures.err

pub returns-in-Ok-see_pool-clause-ok : goal.returns-in-Ok-see_pool-clause-ok
returns-in-Ok-see_pool-clause-ok g c =
    let fine = subst (λ (l : List OwnSession). error_of (session_by l c.args.new_request) ≡ None) c.as_slice.ensures.value c.in-Ok.ensures.refused in
    submitted_by c.args.self.now c.args.new_request c.args.object c.args.ops c.args.pass.now fine c.see_pool.new.pass c.submit_vector.new.pass c.in-Ok-see_pool.view c.in-Ok-see_pool.ensures.ok c.submit_vector.result c.submit_vector.ensures.ok

pub returns-in-Ok-see_pool-clause-err : goal.returns-in-Ok-see_pool-clause-err
returns-in-Ok-see_pool-clause-err g c =
    let fine = subst (λ (l : List OwnSession). error_of (session_by l c.args.new_request) ≡ None) c.as_slice.ensures.value c.in-Ok.ensures.refused in
    unsubmitted_by c.args.self.now c.args.new_request c.args.object c.args.ops c.args.pass.now fine c.see_pool.new.pass c.submit_vector.new.pass c.in-Ok-see_pool.view c.in-Ok-see_pool.ensures.ok c.submit_vector.result c.submit_vector.ensures.err

pub returns-in-Err-clause-err : goal.returns-in-Err-clause-err
returns-in-Err-clause-err c = grind (arith, common_steps)
