use Rattle.std.proofs.Common.{◌≡◌, [], ◌↔◌, sym, subst, All}
use Rattle.compare_core.proofs.Results.{ok_also}
use Rattle.share_core.specs.Sharing.{Answers, IsSharedObject, Share, pairs}
use Rattle.share_core.specs.declared.reaching.Shared.{Shared}
use Rattle.share_core.proofs.Shares.{answers_of, all_shared, no_example, here_too}
use Rattle.share_core.proofs.reaching.sharing.Goals as goal

pub returns-clause-answers : goal.returns-clause-answers
returns-clause-answers c =
    ok_also c.examples.result
    (λ examples is. subst (Answers c.args.one.now c.args.other.now (pairs c.args.ones.now.grants c.args.others.now.grants))
    (sym (here_too c.args.one.now c.args.other.now _ _ _ _ examples.items is c.grants.ensures.grants c.grants-2.ensures.grants))
    (answers_of c.args.one.now c.args.other.now (pairs c.args.ones.now.grants c.args.others.now.grants)))
    c.examples.ensures

pub returns-clause-shared : goal.returns-clause-shared
returns-clause-shared c =
    ok_also c.examples.result
    (λ examples is. subst (All (λ (example : Shared). IsSharedObject c.args.ones.now.grants c.args.one.now c.args.others.now.grants c.args.other.now example.target))
    (sym (here_too c.args.one.now c.args.other.now _ _ _ _ examples.items is c.grants.ensures.grants c.grants-2.ensures.grants))
    (all_shared c.args.ones.now.grants c.args.others.now.grants c.args.one.now c.args.other.now))
    c.examples.ensures

pub returns-clause-empty : goal.returns-clause-empty
returns-clause-empty c =
    ok_also c.examples.result
    (λ examples is. subst (λ found. (found ≡ []) ↔ ¬ Share c.args.ones.now.grants c.args.one.now c.args.others.now.grants c.args.other.now)
    (sym (here_too c.args.one.now c.args.other.now _ _ _ _ examples.items is c.grants.ensures.grants c.grants-2.ensures.grants))
    (no_example c.args.ones.now.grants c.args.others.now.grants c.args.one.now c.args.other.now))
    c.examples.ensures
