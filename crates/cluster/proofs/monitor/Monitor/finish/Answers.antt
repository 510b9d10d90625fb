use Rattle.std.proofs.Common.{◌≡◌, sym, ◌∙◌, arith}
use Rattle.std.specs.Prelude.{Some}
use Rattle.cluster.specs.declared.monitor.Unfinished.TheVariants.{Staged}
use Rattle.cluster.specs.Passes.{group_count}
use Rattle.cluster.proofs.GoingOn.{stays, left_staged}
use Rattle.std.proofs.lemmas.Grind.{elements}
use Rattle.cluster.proofs.monitor.Monitor.finish.Goals as goal

pub returns-in-Err-publish-clause-finished : goal.returns-in-Err-publish-clause-finished
returns-in-Err-publish-clause-finished g c first command at h = let now = c.args.self.now in let e = c.in-Err-publish.ensures in
    let is : now.unfinished ≡ Some Staged = cc in
    let all : at ≡ group_count c.args.cluster.now = left_staged c.args.cluster.now command at now.unfinished is h.left in record {
      begun = stays command at c.in-Err-publish.at first now c.publish.new.self (e.at ∙ sym all) h.begun c.publish.ensures.rest.0 c.publish.ensures.rest.1 c.publish.ensures.rest.2;
      before = h.before;
      shown = e.err.0 ∙ h.shown;
      left = e.err.1 command;
    }

pub returns-in-Ok-clause-finished : goal.returns-in-Ok-clause-finished
returns-in-Ok-clause-finished c = grind (arith, elements)

pub returns-in-Err-clause-finished : goal.returns-in-Err-clause-finished
returns-in-Err-clause-finished c = grind (arith, elements)
