use Rattle.std.proofs.Common.{◌==◌, ◌∙◌, ap, get_or, if◌then◌else◌}
use Rattle.std.specs.Prelude.{slice_set}
use Rattle.peer_core.specs.Steps.{restarted}
use Rattle.group_model.specs.Types.{Daemon}
use Rattle.group_model_whole.proofs.Daemons.{swept}
use Rattle.group_core.proofs.effects.restart_in.Goals as goal

pub loop-copy-preserved : goal.loop-copy-preserved
loop-copy-preserved c =
    let item : Daemon = get_or c.loop-copy.copies c.loop-copy.copy-index c.copy-item.result in
    swept (λ v. if v.number == c.args.daemon then restarted v else v) c.args.copies.now c.loop-copy.copies (slice_set c.loop-copy.copies c.loop-copy.copy-index c.restart_if.new.copy) c.loop-copy.copy-index c.copy-item.result
    c.loop-copy-test.true c.loop-copy.invariant
    (ap (λ v. slice_set c.loop-copy.copies c.loop-copy.copy-index v) (c.restart_if.ensures ∙ ap (λ n. if n == c.args.daemon then restarted item else item) c.number.ensures))
