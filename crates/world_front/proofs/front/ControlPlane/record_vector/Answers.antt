use Rattle.std.proofs.Common.{◌≡◌, ◌∷◌, [], ◌<◌, Ok, List, length, sym, subst, arith}
use Rattle.store_core.specs.Request.{Sealed}
use Rattle.world_front.specs.Event.{Submit}
use Rattle.world_front.specs.ControlPlane.{ControlPlane, requests_of}
use Rattle.world_front.proofs.Fronts.{submit_made}
use Rattle.world_front.proofs.Recording.{requests_new, vector_kept, vector_step}
use Rattle.world_front.proofs.front.ControlPlane.record_vector.Goals as goal

pub push-requires : goal.push-requires
push-requires c =
    let inside : ControlPlane = record { database = c.self.inside.users; history = c.self.inside.map; sessions = c.self.inside.sessions; submissions = c.self.inside.submissions; lists = c.self.inside.lists } in
    let requests : List Sealed = c.args.request ∷ [] in
    let is : requests_of inside (Submit c.args.ask.now c.requires.asked.object c.requires.asked.ops) ≡ Ok requests = subst (λ f. requests_of f (Submit c.args.ask.now c.requires.asked.object c.requires.asked.ops) ≡ Ok requests) (sym c.self.view_is) c.requires.asked.is in
    (requests_new inside c.args.ask.now requests c.self.invariant (submit_made inside c.args.ask.now c.requires.asked.object c.requires.asked.ops requests is) (omega arith)).0

pub invariant_of-self-2 : goal.invariant_of-self-2
invariant_of-self-2 c =
    let inside : ControlPlane = record { database = c.self.inside.users; history = c.self.inside.map; sessions = c.self.inside.sessions; submissions = c.self.inside.submissions; lists = c.self.inside.lists } in
    let requests : List Sealed = c.args.request ∷ [] in
    let is : requests_of inside (Submit c.args.ask.now c.requires.asked.object c.requires.asked.ops) ≡ Ok requests = subst (λ f. requests_of f (Submit c.args.ask.now c.requires.asked.object c.requires.asked.ops) ≡ Ok requests) (sym c.self.view_is) c.requires.asked.is in
    let few : length inside.submissions < 67108864 = subst (λ (f : ControlPlane). length f.submissions < 67108864) (sym c.self.view_is) c.requires.few in
    vector_kept inside c.args.ask.now c.requires.asked.object c.requires.asked.ops c.args.request _ c.self.invariant is few
    (vector_step inside c.args.ask.now c.requires.asked.object c.requires.asked.ops c.args.request c.ask.new.self c.push.new.self is c.ask.ensures c.in_ok-push.ensures.ok)
