use Rattle.std.proofs.Common.{◌∙◌, ◌++◌, ◌∷◌, [], ℕ, ap, sym, subst, nat_eq}
use Rattle.indexmap.proofs.CallerLemmas.{insert_entry-new}
use Rattle.group_model_whole.specs.Group.{submitted}
use Rattle.world_events.specs.Submitting.{requests_in, AreKeyed}
use Rattle.world_events.proofs.Submitted.{request_found, keyed_push, requests_push}
use Rattle.world_events.proofs.submissions.Submissions.push.Goals as goal

pub invariant_of-self-2 : goal.invariant_of-self-2
invariant_of-self-2 c =
    let key : ℕ = c.id.result in
    let fresh = request_found c.self.inside.requests.entries key c.self.invariant ∙ ap (λ l. submitted l key) c.self.view_is ∙ ap (λ k. submitted c.args.self.now k) c.id.ensures ∙ c.requires in
    let entries = c.in_ok-insert.ensures.entries ∙ insert_entry-new nat_eq c.self.inside.requests key c.args.request fresh in
    subst AreKeyed (sym entries) (keyed_push c.self.inside.requests.entries key c.args.request c.self.invariant c.id.ensures)

pub returns-clause-ok : goal.returns-clause-ok
returns-clause-ok c =
    let key : ℕ = c.id.result in
    let fresh = request_found c.self.inside.requests.entries key c.self.invariant ∙ ap (λ l. submitted l key) c.self.view_is ∙ ap (λ k. submitted c.args.self.now k) c.id.ensures ∙ c.requires in
    let entries = c.in_ok-insert.ensures.entries ∙ insert_entry-new nat_eq c.self.inside.requests key c.args.request fresh in
    ap requests_in entries ∙ requests_push c.self.inside.requests.entries key c.args.request ∙ ap (λ l. l ++ c.args.request ∷ []) c.self.view_is
