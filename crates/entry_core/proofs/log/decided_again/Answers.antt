use Rattle.std.proofs.Common.{◌∙◌, ◌++◌, ◌∷◌, [], sym, ap, take, arith}
use Rattle.std.proofs.lemmas.List.{take_more}
use Rattle.store_core.specs.Deciding.{Decision}
use Rattle.entry_core.specs.Log.{decide, ids, is_in}
use Rattle.entry_core.proofs.LegalLogs.{legal_at}
use Rattle.std.proofs.lemmas.Grind.{common_steps}
use Rattle.entry_core.proofs.log.decided_again.Goals as goal

pub push-requires-clause-new : goal.push-requires-clause-new
push-requires-clause-new c =
    let e = c.entry-item in
    let stands = legal_at c.args.entries.now c.loop-entry.entry-index e.result c.requires (omega arith) e.is in
    ap (λ (d : Decision). is_in (ids c.loop-entry.log) d.entry.sealed.id) c.in_ok-decided.ensures
    ∙ ap (λ l. is_in (ids l) e.result.sealed.id) c.loop-entry.invariant ∙ stands.new

pub loop-entry-preserved : goal.loop-entry-preserved
loop-entry-preserved c =
    let e = c.entry-item in
    let i = c.loop-entry.entry-index in
    let stands = legal_at c.args.entries.now i e.result c.requires (omega arith) e.is in
    c.in_ok-push.ensures.ok ∙ ap (λ (d : Decision). c.loop-entry.log ++ d.entry ∷ []) c.in_ok-decided.ensures
    ∙ ap (λ l. l ++ decide l e.result.sealed ∷ []) c.loop-entry.invariant ∙ ap (λ x. take i c.args.entries.now ++ x ∷ []) (sym stands.decided ∙ e.is)
    ∙ sym (take_more c.args.entries.now i e.result (omega arith))

pub returns : goal.returns
returns c = grind (arith, common_steps)
