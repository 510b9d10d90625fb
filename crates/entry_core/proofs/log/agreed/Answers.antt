use Rattle.std.proofs.Common.{◌≡◌, ◌∙◌, ◌+◌, ◌==◌, cond, suc, drop, sym, ap, add-one, arith}
use Rattle.entry_core.specs.Fitting.{agreed}
use Rattle.store_core.specs.declared.entry.Entry.{Entry}
use Rattle.entry_core.proofs.Fitting.{agreed_at, agreed_end, not_true, not_false}
use Rattle.entry_core.proofs.log.agreed.Goals as goal

pub returns-then-ne-clause-agreed : goal.returns-then-ne-clause-agreed
returns-then-ne-clause-agreed c =
    let e = c.index-entries-place in
    let s = c.index-part-place in
    let at = agreed_at c.args.entries.now c.args.part.now c.loop-place.place e.result s.result (omega arith) (omega arith) e.is s.is in
    let apart = not_true _ (sym c.ne.ensures ∙ c.if-ne.true) in
    let none = at ∙ ap (λ b. cond b (suc (agreed (drop (suc c.loop-place.place) c.args.entries.now) (drop (suc c.loop-place.place) c.args.part.now))) 0) ((λ i. (sym (c.id.ensures ∙ ap (λ (x : Entry). x.sealed.id) (sym e.is)) i) == (sym c.id-in-loop-place.ensures i)) ∙ apart) in
    let before : agreed c.args.entries.now c.args.part.now ≡ c.loop-place.place + agreed (drop c.loop-place.place c.args.entries.now) (drop c.loop-place.place c.args.part.now) = c.loop-place.invariant in
    omega arith

pub loop-place-preserved : goal.loop-place-preserved
loop-place-preserved c =
    let p = c.loop-place.place in
    let e = c.index-entries-place in
    let s = c.index-part-place in
    let at = agreed_at c.args.entries.now c.args.part.now p e.result s.result (omega arith) (omega arith) e.is s.is in
    let alike = not_false _ (sym c.ne.ensures ∙ c.if-ne.false) in
    let more = at ∙ ap (λ b. cond b (suc (agreed (drop (suc p) c.args.entries.now) (drop (suc p) c.args.part.now))) 0) ((λ i. (sym (c.id.ensures ∙ ap (λ (x : Entry). x.sealed.id) (sym e.is)) i) == (sym c.id-in-loop-place.ensures i)) ∙ alike) in
    let before : agreed c.args.entries.now c.args.part.now ≡ p + agreed (drop p c.args.entries.now) (drop p c.args.part.now) = c.loop-place.invariant in
    let next : agreed (drop (suc p) c.args.entries.now) (drop (suc p) c.args.part.now) ≡ agreed (drop (p + 1) c.args.entries.now) (drop (p + 1) c.args.part.now) = ap (λ n. agreed (drop n c.args.entries.now) (drop n c.args.part.now)) (sym (add-one p)) in
    omega arith

pub returns-clause-agreed : goal.returns-clause-agreed
returns-clause-agreed c =
    let p = c.loop-place.place in
    let most : p ≡ c.min-most.result = omega arith in
    let none = agreed_end c.args.entries.now c.args.part.now p (most ∙ c.min-most.ensures) in
    let before : agreed c.args.entries.now c.args.part.now ≡ p + agreed (drop p c.args.entries.now) (drop p c.args.part.now) = c.loop-place.invariant in
    omega arith
