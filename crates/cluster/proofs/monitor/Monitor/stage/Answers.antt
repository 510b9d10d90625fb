use Rattle.std.proofs.Common.{◌≡◌, ℕ, ◌∙◌}
use Rattle.std.specs.Prelude.{Result, Ok, Err, IfErr}
use Rattle.map_core.specs.State.{History}
use Rattle.map_core.specs.declared.command.MapCommand.{MapCommand}
use Rattle.cluster.specs.Monitors.{published_of, IsLeftBy}
use Rattle.cluster.proofs.monitor.Monitor.stage.Goals as goal

left_too : (r : Result (Unit {0}) ℕ) (new old first : History) (P : MapCommand → ℕ → Type 0) (command : MapCommand) → old ≡ first
    → IfErr r (λ at. (new ≡ old) × ((x : MapCommand) → P x at)) → IfErr r (λ at. (new ≡ first) × P command at)
left_too (Ok x) new old first P command e h = tt
left_too (Err at) new old first P command e h = (h.0 ∙ e, h.1 command)

pub returns-in-Ok-clause-err : goal.returns-in-Ok-clause-err
returns-in-Ok-clause-err g c = left_too c.publish.result (published_of c.publish.new.self) (published_of c.append.new.self) (published_of c.args.self.now)
    (λ x at. IsLeftBy c.args.cluster.now x at c.publish.new.self.unfinished) c.args.command c.append.ensures.shown.0 c.publish.ensures.err
