use Rattle.std.proofs.Common.{◌∙◌, ◌&&◌, not, ap, get_or, if◌then◌else◌}
use Rattle.std.specs.Prelude.{slice_set}
use Rattle.entry_core.specs.Log.{is_in}
use Rattle.place_core.specs.Placement.{numbers_of}
use Rattle.peer_core.specs.Steps.{restarted}
use Rattle.group_model.specs.Types.{Daemon}
use Rattle.group_model_whole.proofs.Daemons.{swept}
use Rattle.group_core.proofs.effects.restart_downed.Goals as goal

pub loop-copy-preserved : goal.loop-copy-preserved
loop-copy-preserved c =
    let item : Daemon = get_or c.loop-copy.copies c.loop-copy.copy-index c.copy-item.result in
    swept (λ v. if is_in (numbers_of c.args.was_up.now) v.number && not (is_in (numbers_of c.args.up.now) v.number) then restarted v else v) c.args.copies.now c.loop-copy.copies (slice_set c.loop-copy.copies c.loop-copy.copy-index c.restart_if.new.copy) c.loop-copy.copy-index c.copy-item.result
    c.loop-copy-test.true c.loop-copy.invariant
    (ap (λ v. slice_set c.loop-copy.copies c.loop-copy.copy-index v)
    (c.restart_if.ensures ∙ ap (λ b. if b then restarted item else item) (c.goes_down-down.ensures ∙ ap (λ n. is_in (numbers_of c.args.was_up.now) n && not (is_in (numbers_of c.args.up.now) n)) c.number.ensures)))
