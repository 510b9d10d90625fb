use Rattle.std.proofs.Common.{rules, ◌≡◌, ◌∙◌, ◌++◌, true, false, ap, sym, List, map, take}
use Rattle.std.specs.Prelude.{Option, is_some}
use Rattle.std.proofs.Math.Seq.{take-append_seam}
use Rattle.entry_core.specs.Fitting.{fitted}
use Rattle.peer_core.specs.Types.{Copy, Entry, Sent}
use Rattle.peer_core.specs.ActingSets.{others}
use Rattle.group_messages.specs.Beginnings.{common_of}
use Rattle.peer_core.specs.Copy.{install_from}
use Rattle.peer_core.specs.Fittings.{becomes}
use Rattle.peer_core.specs.Steps.{Stepped}
use Rattle.peer_core.proofs.Installs.{counts, install_copy, install_sent, unfitted_copy, unfitted_sent, fits, fitted_log}
use Rattle.peer_core.proofs.state.State.fit_and_send.Goals as goal

pub returns-then-not-fits-clause-copy : goal.returns-then-not-fits-clause-copy
returns-then-not-fits-clause-copy c = λ informed is.
    let no : c.in_ok-fits.fits ≡ false = search rules in
    unfitted_copy c.args.self.now informed (fitted c.args.self.now.log c.args.start c.args.part.now) c.fit.new.self is (sym c.in_ok-fits.ensures.fits ∙ no) c.in_ok-fits.ensures.log

pub returns-then-not-fits-clause-sent : goal.returns-then-not-fits-clause-sent
returns-then-not-fits-clause-sent c = λ informed is.
    let no : c.in_ok-fits.fits ≡ false = search rules in
    let messages : List Sent = map (λ m. install_from c.args.self.now (becomes c.of-fitting.result) m (common_of informed c.args.self.now.log (becomes c.of-fitting.result) m)) (others c.args.self.now) in
    let first : c.truncate.new.self ≡ c.args.sent =
    c.truncate.ensures ∙ (λ i. take (c.len-before.ensures i) (c.in_ok-common.ensures.sent informed is i)) ∙ take-append_seam c.args.sent messages in
    first ∙ unfitted_sent c.args.self.now informed (fitted c.args.self.now.log c.args.start c.args.part.now) c.args.sent (sym c.in_ok-fits.ensures.fits ∙ no)

pub returns-clause-copy : goal.returns-clause-copy
returns-clause-copy c = λ informed is.
    let self : Copy = c.args.self.now in
    let f : Option (List Entry) = fitted self.log c.args.start c.args.part.now in
    let yes : c.in_ok-fits.fits ≡ true = search rules in
    let some : is_some f ≡ true = sym c.in_ok-fits.ensures.fits ∙ yes in
    let log_is : becomes c.of-fitting.result ≡ c.fit.new.self = c.of-fitting.ensures.new c.fit.new.self (fitted_log f self.log c.fit.new.self some c.in_ok-fits.ensures.log) in
    ap (λ (v : Stepped). v.copy) (fits self informed f self.log c.fit.new.self some c.in_ok-fits.ensures.log)
    ∙ install_copy self informed c.fit.new.self c.new.result c.in_ok-common.common c.new.ensures
    (c.in_ok-common.ensures.common informed is ∙ ap (λ (l : List Entry). counts informed self.log l (others self)) log_is) c.requires

pub returns-clause-sent : goal.returns-clause-sent
returns-clause-sent c = λ informed is.
    let self : Copy = c.args.self.now in
    let f : Option (List Entry) = fitted self.log c.args.start c.args.part.now in
    let yes : c.in_ok-fits.fits ≡ true = search rules in
    let some : is_some f ≡ true = sym c.in_ok-fits.ensures.fits ∙ yes in
    let log_is : becomes c.of-fitting.result ≡ c.fit.new.self = c.of-fitting.ensures.new c.fit.new.self (fitted_log f self.log c.fit.new.self some c.in_ok-fits.ensures.log) in
    install_sent self informed c.fit.new.self c.args.sent c.send_chosen.new.sent c.requires
    (c.in_ok-common.ensures.sent informed is ∙ ap (λ (l : List Entry). c.args.sent ++ map (λ m. install_from self l m (common_of informed self.log l m)) (others self)) log_is)
    ∙ sym (ap (λ (v : Stepped). c.args.sent ++ v.sent) (fits self informed f self.log c.fit.new.self some c.in_ok-fits.ensures.log))
