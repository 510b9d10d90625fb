use Rattle.std.proofs.Common.{◌≡◌, [], ◌∷◌, ◌++◌, sym, ap, ◌∙◌, subst}
use Rattle.compare_core.specs.Calls.{AreCallsFor, hardest}
use Rattle.compare_core.specs.declared.registry.Registry.TheVariants.{Every}
use Rattle.compare_core.proofs.BestCalls.{no_calls, one_call}
use Rattle.compare_core.proofs.calls.best_calls.Goals as goal

pub returns : goal.returns
returns c =
    let call = hardest c.args.grant.now.access c.in_ok-class.class c.in_ok-method.method in
    let is : c.from_vec-2.result ≡ call ∷ [] =
    c.from_vec-2.ensures ∙ (c.in_ok-push.ensures.items ∙ (ap (λ l. l ++ c.hardest.result ∷ []) c.new-calls.ensures.items ∙ ap (λ one. one ∷ []) c.hardest.ensures)) in
    one_call c.args.grant.now c.args.old.now.grants c.in_ok-class.class c.in_ok-method.method c.from_vec-2.result (sym c.covers_some.ensures ∙ c.if-not-covers_some.false) c.in_ok-class.ensures c.in_ok-method.ensures is

pub returns-then-not-covers_some : goal.returns-then-not-covers_some
returns-then-not-covers_some c =
    subst (AreCallsFor Every c.args.grant.now c.args.old.now.grants) (sym (c.from_vec.ensures ∙ c.new-calls.ensures.items))
    (no_calls c.args.grant.now c.args.old.now.grants (sym c.covers_some.ensures ∙ c.if-not-covers_some.true))
