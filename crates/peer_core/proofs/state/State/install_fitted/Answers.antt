use Rattle.std.proofs.Common.{◌≡◌, ◌∙◌, ◌++◌, sym, subst, List}
use Rattle.std.specs.Prelude.{Option, OnOk, IfOk}
use Rattle.peer_core.specs.Types.{Copy, Entry}
use Rattle.peer_core.specs.Copy.{fit_chosen}
use Rattle.peer_core.proofs.Installs.{whole_fits}
use Rattle.peer_core.proofs.state.State.install_fitted.Goals as goal

pub returns-then-is_whole-clause-copy : goal.returns-then-is_whole-clause-copy
returns-then-is_whole-clause-copy c = λ informed is.
    let self : Copy = c.args.self.now in
    let P : Option (List Entry) → Type 0 = λ f. OnOk c.install_own.result ((fit_chosen self informed f).copy ≡ c.install_own.new.self) in
    subst P (sym (whole_fits self.log c.args.start c.args.part.now (sym c.is_whole.ensures ∙ c.if-is_whole.true))) (c.install_own.ensures.copy informed is)

pub returns-then-is_whole-clause-sent : goal.returns-then-is_whole-clause-sent
returns-then-is_whole-clause-sent c = λ informed is.
    let self : Copy = c.args.self.now in
    let P : Option (List Entry) → Type 0 = λ f. IfOk c.install_own.result (λ all. all ≡ c.args.sent ++ (fit_chosen self informed f).sent) in
    subst P (sym (whole_fits self.log c.args.start c.args.part.now (sym c.is_whole.ensures ∙ c.if-is_whole.true))) (c.install_own.ensures.sent informed is)
