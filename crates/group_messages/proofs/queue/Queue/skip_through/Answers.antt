use Rattle.std.proofs.Common.{◌∙◌, drop, ap}
use Rattle.std.proofs.lemmas.List.{drop-drop}
use Rattle.group_messages.proofs.queue.Queue.skip_through.Goals as goal

pub returns : goal.returns
returns c = c.skip-2.ensures ∙ ap (λ q. drop 1 q) c.skip.ensures ∙ drop-drop 1 c.args.place c.args.self.now
