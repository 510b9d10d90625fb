use Rattle.std.proofs.Common.{rules, ◌≡◌, ◌∙◌, ◌++◌, true, false, ap, sym, append-nil}
use Rattle.entry_core.specs.Fitting.{fitted}
use Rattle.peer_core.specs.Steps.{Stepped}
use Rattle.peer_core.proofs.Installs.{unfitted_copy, unfitted_sent, fits_idle}
use Rattle.peer_core.proofs.state.State.fit_idle.Goals as goal

pub returns-then-not-fits-clause-copy : goal.returns-then-not-fits-clause-copy
returns-then-not-fits-clause-copy c = λ informed is.
    let no : c.in_ok-fits.fits ≡ false = search rules in
    unfitted_copy c.args.self.now informed (fitted c.args.self.now.log c.args.start c.args.part.now) c.fit.new.self is (sym c.in_ok-fits.ensures.fits ∙ no) c.in_ok-fits.ensures.log

pub returns-then-not-fits-clause-sent : goal.returns-then-not-fits-clause-sent
returns-then-not-fits-clause-sent c = λ informed is.
    let no : c.in_ok-fits.fits ≡ false = search rules in
    unfitted_sent c.args.self.now informed (fitted c.args.self.now.log c.args.start c.args.part.now) c.args.sent (sym c.in_ok-fits.ensures.fits ∙ no)

pub returns-clause-copy : goal.returns-clause-copy
returns-clause-copy c = λ informed is.
    let yes : c.in_ok-fits.fits ≡ true = search rules in
    ap (λ (v : Stepped). v.copy) (fits_idle c.args.self.now informed (fitted c.args.self.now.log c.args.start c.args.part.now) c.fit.new.self c.requires.alone c.requires.idle (sym c.in_ok-fits.ensures.fits ∙ yes) c.in_ok-fits.ensures.log)
    ∙ sym c.become_active.ensures

pub returns-clause-sent : goal.returns-clause-sent
returns-clause-sent c = λ informed is.
    let yes : c.in_ok-fits.fits ≡ true = search rules in
    sym (ap (λ (v : Stepped). c.args.sent ++ v.sent)
    (fits_idle c.args.self.now informed (fitted c.args.self.now.log c.args.start c.args.part.now) c.fit.new.self c.requires.alone c.requires.idle (sym c.in_ok-fits.ensures.fits ∙ yes) c.in_ok-fits.ensures.log)
    ∙ append-nil c.args.sent)
