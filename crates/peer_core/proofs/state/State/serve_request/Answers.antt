use Rattle.std.proofs.Common.{◌≡◌, ◌∙◌, ◌++◌, ◌∷◌, ap, sym, List}
use Rattle.peer_core.specs.Types.{Sealed, Copy}
use Rattle.peer_core.specs.Serve.{serve}
use Rattle.peer_core.proofs.Whole.{whole, serve_waiting}
use Rattle.peer_core.proofs.state.State.serve_request.Goals as goal

pub returns-in-Ok-clause-ok : goal.returns-in-Ok-clause-ok
returns-in-Ok-clause-ok c =
    let self : Copy = c.args.self.now in
    let all : List Sealed = c.push_front.new.self in
    let same : serve all (record self { waiting = all }) ≡ serve (c.args.request ∷ self.waiting) self = serve_waiting all self all ∙ ap (λ w. serve w self) c.in_ok-push_front.ensures.ok in
    whole (serve (c.args.request ∷ self.waiting) self) c.serve.new.self c.new-sent.result c.in-Ok.sent (ap (λ v. v.copy) (sym same) ∙ c.in-Ok.ensures.copy) c.new-sent.ensures (c.in-Ok.ensures.sent ∙ ap (λ v. c.new-sent.result ++ v.sent) same)
