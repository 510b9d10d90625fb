use Rattle.std.proofs.Common.{rules, ◌≡◌, ◌∙◌, ◌++◌, ap, sym}
use Rattle.std.specs.Prelude.{None}
use Rattle.peer_core.specs.Types.{Active, Copy}
use Rattle.peer_core.specs.Steps.{Stepped}
use Rattle.peer_core.specs.Serve.{serve}
use Rattle.peer_core.proofs.Whole.{serve_role}
use Rattle.peer_core.proofs.state.State.serve_own.Goals as goal

pub returns-in-Ok-clause-copy : goal.returns-in-Ok-clause-copy
returns-in-Ok-clause-copy c =
    let self : Copy = c.args.self.now in
    let base_is : c.replace-base.new.dest ≡ self.promise = search rules in
    let same : serve self.waiting (record self { base = self.promise; role = Active None }) ≡ serve self.waiting (record self { base = c.replace-base.new.dest }) =
    serve_role self.waiting (record self { base = self.promise }) (Active None) ∙ ap (λ b. serve self.waiting (record self { base = b })) (sym base_is) in
    ap (λ (v : Stepped). v.copy) same ∙ c.in-Ok.ensures.copy

pub returns-in-Ok-clause-sent : goal.returns-in-Ok-clause-sent
returns-in-Ok-clause-sent c =
    let self : Copy = c.args.self.now in
    let base_is : c.replace-base.new.dest ≡ self.promise = search rules in
    let same : serve self.waiting (record self { base = self.promise; role = Active None }) ≡ serve self.waiting (record self { base = c.replace-base.new.dest }) =
    serve_role self.waiting (record self { base = self.promise }) (Active None) ∙ ap (λ b. serve self.waiting (record self { base = b })) (sym base_is) in
    c.in-Ok.ensures.sent ∙ ap (λ (v : Stepped). c.args.sent ++ v.sent) (sym same)
