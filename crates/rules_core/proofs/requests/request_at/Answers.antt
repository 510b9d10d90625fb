use Rattle.std.proofs.Common.{◌≡◌, true, false, is_some, None, arith, sym, ◌∙◌}
use Rattle.rules_core.specs.Requests.{request_with}
use Rattle.rules_core.proofs.RequestSteps.{found_of, none_if}
use Rattle.rules_core.proofs.SoFar.{all_so_far, item_at, one_more}
use Rattle.rules_core.proofs.requests.request_at.Goals as goal

pub loop-entry-preserved : goal.loop-entry-preserved
loop-entry-preserved c =
    let none : is_some c.in_ok-found.found ≡ false = cc in
    one_more (λ entry. request_with entry c.args.target.now c.args.writes ≡ None) c.args.grants.now c.loop-entry.entry-index c.entry-item.result (omega arith) c.entry-item.is
    (sym c.in_ok-found.ensures ∙ none_if c.in_ok-found.found none) c.loop-entry.invariant

pub returns-then-is_some : goal.returns-then-is_some
returns-then-is_some c =
    let some : is_some c.in_ok-found.found ≡ true = cc in
    found_of c.args.grants.now c.args.target.now c.args.writes c.loop-entry.entry-index c.entry-item.result c.in_ok-found.found (item_at c.args.grants.now c.loop-entry.entry-index c.entry-item.result (omega arith) c.entry-item.is)
    some c.in_ok-found.ensures

pub returns : goal.returns
returns c = all_so_far (λ entry. request_with entry c.args.target.now c.args.writes ≡ None) c.args.grants.now c.loop-entry.entry-index (omega arith) c.loop-entry.invariant
