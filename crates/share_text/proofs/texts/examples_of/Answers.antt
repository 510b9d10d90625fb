use Rattle.std.proofs.Common.{◌≡◌, ◌↔◌, [], IfOk, All}
use Rattle.share_core.specs.Sharing.{Answers, IsSharedObject, Share, pairs}
use Rattle.share_core.specs.declared.reaching.Shared.{Shared}
use Rattle.share_text.proofs.Results.{examples_so, of_kind}
use Rattle.share_text.proofs.texts.examples_of.Goals as goal

pub returns : goal.returns
returns c =
    let ones = c.args.ones.now.grants in
    let others = c.args.others.now.grants in
    examples_so (λ v. v.items) c.sharing.result c.args.kind ones others
    (of_kind (λ one other. IfOk c.sharing.result (λ x. Answers one other (pairs ones others) x.items)) c.args.kind _ _ c.one-one.ensures c.other-other.ensures c.sharing.ensures.answers)
    (of_kind (λ one other. IfOk c.sharing.result (λ x. All (λ (example : Shared). IsSharedObject ones one others other example.target) x.items)) c.args.kind _ _ c.one-one.ensures c.other-other.ensures c.sharing.ensures.shared)
    (of_kind (λ one other. IfOk c.sharing.result (λ x. (x.items ≡ []) ↔ (¬ Share ones one others other))) c.args.kind _ _ c.one-one.ensures c.other-other.ensures c.sharing.ensures.empty)
