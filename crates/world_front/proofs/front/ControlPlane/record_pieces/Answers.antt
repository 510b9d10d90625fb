use Rattle.std.proofs.Common.{◌≡◌, ◌∙◌, ◌++◌, ◌<◌, Ok, length, get_or, sym, ap, subst}
use Rattle.store_core.specs.Request.{Sealed}
use Rattle.group_model_whole.specs.Each.{Each}
use Rattle.group_model_whole.specs.Group.{submitted}
use Rattle.std.specs.Prelude.{None}
use Rattle.world_front.specs.Event.{ListNames}
use Rattle.world_front.specs.ControlPlane.{ControlPlane, requests_of, session_at, asks_more, listed}
use Rattle.world_events.specs.Submitting.{AreNew}
use Rattle.world_front.proofs.Fronts.{list_made}
use Rattle.world_front.proofs.Recording.{requests_new, requests_fresh, no_list, first_fresh, listed_at, list_kept, list_step}
use Rattle.world_front.proofs.front.ControlPlane.record_pieces.Goals as goal

pub push-requires : goal.push-requires
push-requires c =
    let inside : ControlPlane = record { database = c.self.inside.users; history = c.self.inside.map; sessions = c.self.inside.sessions; submissions = c.self.inside.submissions; lists = c.self.inside.lists } in
    let is : requests_of inside (ListNames c.args.ask.now) ≡ Ok c.args.requests = subst (λ f. requests_of f (ListNames c.args.ask.now) ≡ Ok c.args.requests) (sym c.self.view_is) c.requires.asked.is in
    let fresh : Each (λ (r : Sealed). submitted inside.submissions r.id ≡ None) c.args.requests = requests_fresh inside c.args.ask.now c.args.requests c.self.invariant (list_made inside c.args.ask.now c.args.requests is) c.requires.asked.few in
    let at : c.index-as_slice-0.result ≡ get_or c.args.requests 0 c.index-as_slice-0.result = c.index-as_slice-0.is ∙ ap (λ l. get_or l 0 c.index-as_slice-0.result) c.as_slice.ensures in
    no_list inside.submissions inside.lists c.id-first.result c.self.invariant.begun
    (ap (submitted inside.submissions) c.id-first.ensures ∙ first_fresh inside.submissions c.args.requests c.index-as_slice-0.result fresh c.requires.asked.some at)

pub append-requires : goal.append-requires
append-requires c =
    let inside : ControlPlane = record { database = c.self.inside.users; history = c.self.inside.map; sessions = c.self.inside.sessions; submissions = c.self.inside.submissions; lists = c.self.inside.lists } in
    let is : requests_of inside (ListNames c.args.ask.now) ≡ Ok c.args.requests = subst (λ f. requests_of f (ListNames c.args.ask.now) ≡ Ok c.args.requests) (sym c.self.view_is) c.requires.asked.is in
    subst (AreNew inside.submissions) (sym c.as_slice-2.ensures) (requests_new inside c.args.ask.now c.args.requests c.self.invariant (list_made inside c.args.ask.now c.args.requests is) c.requires.asked.few)

pub invariant_of-self-2 : goal.invariant_of-self-2
invariant_of-self-2 c =
    let inside : ControlPlane = record { database = c.self.inside.users; history = c.self.inside.map; sessions = c.self.inside.sessions; submissions = c.self.inside.submissions; lists = c.self.inside.lists } in
    let is : requests_of inside (ListNames c.args.ask.now) ≡ Ok c.args.requests = subst (λ f. requests_of f (ListNames c.args.ask.now) ≡ Ok c.args.requests) (sym c.self.view_is) c.requires.asked.is in
    let few : length inside.submissions < 67108864 = subst (λ (f : ControlPlane). length f.submissions < 67108864) (sym c.self.view_is) c.requires.few in
    let at : c.index-as_slice-0.result ≡ get_or c.args.requests 0 c.index-as_slice-0.result = c.index-as_slice-0.is ∙ ap (λ l. get_or l 0 c.index-as_slice-0.result) c.as_slice.ensures in
    let sessions : c.ask.new.self ≡ session_at inside.sessions c.args.ask.now.session (asks_more c.args.ask.now (length c.args.requests)) =
    c.ask.ensures ∙ ap (λ n. session_at inside.sessions c.args.ask.now.session (asks_more c.args.ask.now n)) c.len-count.ensures in
    let submissions : c.append.new.self ≡ inside.submissions ++ c.args.requests = c.in_default.ensures.ok ∙ ap (λ l. inside.submissions ++ l) c.as_slice-2.ensures in
    let lists : c.push.new.self ≡ inside.lists ++ listed c.args.requests = c.in_ok-push.ensures.ok
    ∙ ap (λ l. inside.lists ++ l) (listed_at c.args.requests c.index-as_slice-0.result c.id-first.result c.len-count.result c.requires.asked.some at c.id-first.ensures c.len-count.ensures) in
    list_kept inside c.args.ask.now c.args.requests _ c.self.invariant is c.requires.asked.few few
    (list_step inside c.args.ask.now c.args.requests c.ask.new.self c.append.new.self c.push.new.self is sessions submissions lists)
