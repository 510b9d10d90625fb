use Rattle.std.proofs.Common.{ap, ◌∙◌}
use Rattle.log_text.specs.Suggested.{grants_text}
use Rattle.log_text.proofs.Suggesting.{suggested}
use Rattle.log_text.proofs.suggested.suggested_text.Goals as goal

pub returns-in_ok-text_of-in-Ok : goal.returns-in_ok-text_of-in-Ok
returns-in_ok-text_of-in-Ok c =
    suggested c.args.grain.now c.args.allow_all c.args.seen.now _ c.in-Ok.grants _ c.in_ok-suggest.ensures c.in-Ok.ensures (c.in_ok-text_of-in-Ok.ensures ∙ ap grants_text c.as_slice.ensures.value)
