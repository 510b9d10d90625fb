use Rattle.std.proofs.Common.{ap, ◌∙◌}
use Rattle.share_text.specs.Texts.{or_apart}
use Rattle.share_text.proofs.texts.told_apart.Goals as goal

pub returns : goal.returns
returns c = record { all = c.in_ok-all.all; are = c.in_ok-all.ensures; printed = c.in_ok-text.ensures ∙ ap or_apart c.in_ok-lines.ensures; ends = c.fails_check-fails.ensures }
