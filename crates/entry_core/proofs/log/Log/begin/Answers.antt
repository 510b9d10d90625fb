use Rattle.std.proofs.Common.{◌∙◌, get_or, sym, ap, subst, arith}
use Rattle.store_core.specs.Deciding.{name_of, store_of}
use Rattle.store_core.specs.Objects.{AlikeFor, all_changed, changed, change_of}
use Rattle.store_core.specs.declared.entry.Entry.{Entry}
use Rattle.entry_core.proofs.Drafts.{draft_none, draft_back}
use Rattle.std.proofs.lemmas.Grind.{common_steps}
use Rattle.entry_core.proofs.log.Log.begin.Goals as goal

pub returns-clause-draft : goal.returns-clause-draft
returns-clause-draft c =
    let log = c.args.self.now in
    let part = c.args.part.now in
    let last = c.index-entries-kept in
    let store = c.self.inside.objects in
    let d = c.new-draft in
    let back = c.in_ok-back in
    let change = c.in_ok-change.ensures in
    let named = c.name.ensures ∙ ap (λ (e : Entry). name_of e.sealed) (sym last.is) in
    let none =
    draft_none log store part d.result (c.self.invariant.made ∙ ap store_of c.self.view_is) (subst (λ s. AlikeFor s store part) (sym d.ensures.objects) c.in_ok-needed_by.ensures) d.ensures.changes d.ensures.back in
    draft_back log c.args.kept last.result part d.result c.change.new.self back.back (omega arith) (last.is ∙ ap (λ l. get_or l c.args.kept last.result) c.entries.ensures) none back.ensures
    (change.objects ∙ ap (λ n. changed d.result.objects n (change_of back.back)) named)
    (λ s. change.changes s ∙ ap (λ n. changed (all_changed s d.result.changes.items) n (change_of back.back)) named)
    (change.back ∙ d.ensures.back)

pub returns-then-kept-len-clause-draft : goal.returns-then-kept-len-clause-draft
returns-then-kept-len-clause-draft c = grind (arith, common_steps)
