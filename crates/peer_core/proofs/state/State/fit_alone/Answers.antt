use Rattle.std.proofs.Common.{rules, ◌≡◌, ◌∙◌, ◌++◌, true, false, ap, sym, subst, List, append-nil}
use Rattle.std.specs.Prelude.{OnOk, IfOk, None, is_some, unwrap_or}
use Rattle.entry_core.specs.Fitting.{fitted}
use Rattle.peer_core.specs.Types.{Copy, Entry, Active}
use Rattle.peer_core.specs.Steps.{Stepped}
use Rattle.peer_core.specs.Serve.{serve}
use Rattle.peer_core.specs.Copy.{fit_chosen}
use Rattle.peer_core.proofs.Installs.{unfitted, fits, install_alone}
use Rattle.peer_core.proofs.state.State.fit_alone.Goals as goal

pub returns-then-not-fits-clause-copy : goal.returns-then-not-fits-clause-copy
returns-then-not-fits-clause-copy c = λ informed is.
    let self : Copy = c.args.self.now in
    let no : c.in_ok-fits.fits ≡ false = search rules in
    let none : is_some (fitted self.log c.args.start c.args.part.now) ≡ false = (λ i. is_some (fitted (sym c.in_ok-log.ensures i) c.args.start c.args.part.now)) ∙ sym c.in_ok-fits.ensures.fits ∙ no in
    ap (λ (v : Stepped). v.copy) (unfitted self informed (fitted self.log c.args.start c.args.part.now) is none)

pub returns-then-not-fits-clause-sent : goal.returns-then-not-fits-clause-sent
returns-then-not-fits-clause-sent c = λ informed is.
    let self : Copy = c.args.self.now in
    let no : c.in_ok-fits.fits ≡ false = search rules in
    let none : is_some (fitted self.log c.args.start c.args.part.now) ≡ false = (λ i. is_some (fitted (sym c.in_ok-log.ensures i) c.args.start c.args.part.now)) ∙ sym c.in_ok-fits.ensures.fits ∙ no in
    sym (ap (λ (v : Stepped). c.args.sent ++ v.sent) (unfitted self informed (fitted self.log c.args.start c.args.part.now) is none) ∙ append-nil c.args.sent)

pub returns-clause-copy : goal.returns-clause-copy
returns-clause-copy c = λ informed is.
    let self : Copy = c.args.self.now in
    let yes : c.in_ok-fits.fits ≡ true = search rules in
    let log : List Entry = c.fit.new.self in
    let some : is_some (fitted self.log c.args.start c.args.part.now) ≡ true = (λ i. is_some (fitted (sym c.in_ok-log.ensures i) c.args.start c.args.part.now)) ∙ sym c.in_ok-fits.ensures.fits ∙ yes in
    let log_is : log ≡ unwrap_or (fitted self.log c.args.start c.args.part.now) self.log = c.in_ok-fits.ensures.log ∙ (λ i. unwrap_or (fitted (c.in_ok-log.ensures i) c.args.start c.args.part.now) (c.in_ok-log.ensures i)) in
    let same : fit_chosen self informed (fitted self.log c.args.start c.args.part.now) ≡ serve self.waiting (record self { base = self.promise; log = log; role = Active None }) =
    fits self informed (fitted self.log c.args.start c.args.part.now) self.log log some log_is ∙ install_alone self informed log c.requires in
    let P : Stepped → Type 0 = λ v. OnOk c.install_alone.result (v.copy ≡ c.install_alone.new.self) in
    subst P (sym same) c.install_alone.ensures.copy

pub returns-clause-sent : goal.returns-clause-sent
returns-clause-sent c = λ informed is.
    let self : Copy = c.args.self.now in
    let yes : c.in_ok-fits.fits ≡ true = search rules in
    let log : List Entry = c.fit.new.self in
    let some : is_some (fitted self.log c.args.start c.args.part.now) ≡ true = (λ i. is_some (fitted (sym c.in_ok-log.ensures i) c.args.start c.args.part.now)) ∙ sym c.in_ok-fits.ensures.fits ∙ yes in
    let log_is : log ≡ unwrap_or (fitted self.log c.args.start c.args.part.now) self.log = c.in_ok-fits.ensures.log ∙ (λ i. unwrap_or (fitted (c.in_ok-log.ensures i) c.args.start c.args.part.now) (c.in_ok-log.ensures i)) in
    let same : fit_chosen self informed (fitted self.log c.args.start c.args.part.now) ≡ serve self.waiting (record self { base = self.promise; log = log; role = Active None }) =
    fits self informed (fitted self.log c.args.start c.args.part.now) self.log log some log_is ∙ install_alone self informed log c.requires in
    let P : Stepped → Type 0 = λ v. IfOk c.install_alone.result (λ all. all ≡ c.args.sent ++ v.sent) in
    subst P (sym same) c.install_alone.ensures.sent
