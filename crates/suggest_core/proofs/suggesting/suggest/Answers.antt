use Rattle.std.proofs.Common.{◌≡◌, None, sym, ◌∙◌}
use Rattle.std.specs.List.{position}
use Rattle.suggest_core.specs.Suggestion.{is_left_out}
use Rattle.suggest_core.proofs.Needed.{no_position, suggested}
use Rattle.suggest_core.proofs.suggesting.suggest.Goals as goal

pub returns : goal.returns
returns c =
    let none : position (is_left_out c.args.allow_all) c.args.seen.now ≡ None = sym c.first_left_out.ensures ∙ c.in_default.is in
    (none, suggested c.args.grain.now c.args.allow_all c.args.seen.now c.in_ok-grants.grants.items (no_position (is_left_out c.args.allow_all) c.args.seen.now none) c.in_ok-grants.ensures)
