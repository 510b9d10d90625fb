use Rattle.std.proofs.Common.{rules, ◌∙◌, [], take, ap}
use Rattle.entry_core.specs.Fitting.{are_new, requests_of}
use Rattle.entry_core.specs.Log.{ids}
use Rattle.entry_core.proofs.LegalLogs.{legal_rest, new_again}
use Rattle.entry_core.proofs.log.Log.settle.Goals as goal

pub append_all-requires-clause-new : goal.append_all-requires-clause-new
append_all-requires-clause-new c =
    let front = take c.args.kept c.args.self.now in
    let es = c.args.draft.entries.items in
    let cut = c.cut.ensures.entries ∙ ap (take c.args.kept) (c.reserve.ensures.items ∙ c.self.view_is) in
    (λ i. are_new (ids (cut i)) (requests_of (c.into_parts-changes.ensures.entries i).items)) ∙ new_again front es (legal_rest [] front es c.requires.legal)

pub invariant_of-self-in_err-reserve-2 : goal.invariant_of-self-in_err-reserve-2
invariant_of-self-in_err-reserve-2 c = search rules

pub invariant_of-self-2 : goal.invariant_of-self-2
invariant_of-self-2 c = search rules

pub returns-clause-ok : goal.returns-clause-ok
returns-clause-ok c = search rules
