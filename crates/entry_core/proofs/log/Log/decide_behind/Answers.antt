use Rattle.std.proofs.Common.{arith, rules, ◌≡◌, ◌∙◌, true, [], take, drop, sym, subst}
use Rattle.std.proofs.lemmas.List.{take-append-drop}
use Rattle.entry_core.specs.Log.{Legal}
use Rattle.entry_core.proofs.Fitting.{not_false}
use Rattle.entry_core.proofs.LegalLogs.{legal_behind, legal_front}
use Rattle.std.proofs.lemmas.Grind.{common_steps}
use Rattle.entry_core.proofs.log.Log.decide_behind.Goals as goal

pub settle-requires-clause-legal : goal.settle-requires-clause-legal
settle-requires-clause-legal c =
    let kept = c.args.kept in
    let log = c.args.self.now in
    let front = legal_front [] (take kept log) (drop kept log) (subst Legal (sym (take-append-drop kept log)) (subst Legal c.self.view_is c.self.invariant.legal)) in
    let new : c.in_ok-are_new.field-0 ≡ true = first_of (assumption, search (rules, not_false)) in
    subst Legal (sym c.in_ok-draft.ensures.new) (legal_behind (take kept log) c.args.part.now front (sym c.in_ok-are_new.ensures ∙ new))

pub returns-then-is_empty-clause-log : goal.returns-then-is_empty-clause-log
returns-then-is_empty-clause-log c = grind (arith, common_steps)
