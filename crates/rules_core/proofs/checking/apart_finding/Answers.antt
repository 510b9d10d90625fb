use Rattle.std.proofs.Common.{◌≡◌, true, false, option_copied, ap, sym, ◌∙◌}
use Rattle.rules_core.specs.Rules.{is_selected}
use Rattle.compare_core.proofs.Results.{ok_also}
use Rattle.rules_core.proofs.CheckSteps.{apart_found, apart_other}
use Rattle.rules_core.proofs.checking.apart_finding.Goals as goal

pub returns-then-is_one : goal.returns-then-is_one
returns-then-is_one c =
    let selected : is_selected c.args.ones.now c.args.subject.now.name ≡ true =
    ap (is_selected c.args.ones.now) (sym c.called-name.ensures) ∙ (sym c.selects-is_one.ensures ∙ c.if-is_one.true) in
    ok_also c.crossed.result
    (λ found h. apart_found (option_copied c.args.pools) c.args.ones.now c.args.others.now c.args.entities.now c.args.subject.now c.in-Some.rights.now found (sym c.read_rights.ensures ∙ ap option_copied c.in-Some.is) selected h)
    c.crossed.ensures

pub returns-else-is_one : goal.returns-else-is_one
returns-else-is_one c =
    let none : is_selected c.args.ones.now c.args.subject.now.name ≡ false =
    ap (is_selected c.args.ones.now) (sym c.called-name.ensures) ∙ (sym c.selects-is_one.ensures ∙ c.if-is_one.false) in
    apart_other (option_copied c.args.pools) c.args.ones.now c.args.others.now c.args.entities.now c.args.subject.now c.in-Some.rights.now (sym c.read_rights.ensures ∙ ap option_copied c.in-Some.is) none
