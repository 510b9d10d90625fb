use Rattle.std.proofs.Common.{◌∙◌, ap}
use Rattle.std.proofs.lemmas.Result.{on_ok_weaker}
use Rattle.store_core.specs.Objects.{all_changed, changed}
use Rattle.entry_core.proofs.Drafts.{changed-push}
use Rattle.entry_core.proofs.draft.Draft.change.Goals as goal

pub returns-clause-changes : goal.returns-clause-changes
returns-clause-changes c =
    let changes = c.args.self.now.changes.items in
    on_ok_weaker c.change.result (λ _. λ store.
    ap (all_changed store) c.in_ok-push.ensures.items ∙ changed-push store changes (record { name = c.in_ok-clone.field-0; left = c.in_ok-share.field-0 })
    ∙ (λ i. changed (all_changed store changes) (c.in_ok-clone.ensures.cases i) (c.in_ok-share.ensures i))) c.change.ensures.ok
