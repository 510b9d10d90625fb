use Rattle.std.proofs.Common.{◌∙◌, take, arith}
use Rattle.entry_core.proofs.Drafts.{draft_next}
use Rattle.std.proofs.lemmas.Grind.{common_steps}
use Rattle.entry_core.proofs.log.Log.draft.Goals as goal

pub loop-sealed-preserved : goal.loop-sealed-preserved
loop-sealed-preserved c =
    let log = c.args.self.now in
    let s = c.sealed-item in
    let inv = c.loop-sealed.invariant in
    let decided = c.in_ok-decide.ensures in
    let next =
    draft_next log (take c.args.kept log) c.args.part.now c.loop-sealed.sealed-index s.result c.loop-sealed.draft c.decide.new.self (omega arith) s.is inv.draft decided.entries decided.objects decided.changes decided.back in
    record { draft = next.draft; all = next.all ∙ inv.all }

pub returns-clause-new : goal.returns-clause-new
returns-clause-new c = grind (arith, common_steps)
