use Rattle.std.proofs.Common.{List, ℕ, cond, Some, ap, ◌∙◌}
use Rattle.std.specs.Prelude.{string_bytes}
use Rattle.std.specs.HashMap.{get_by_text}
use Rattle.std.specs.Str.{bytes_eq}
use Rattle.std.proofs.lemmas.Map.Text.{hash_map_updates_text}
use Rattle.log_core.proofs.tally.put.Goals as goal

pub returns : goal.returns
returns c = λ q.
    hash_map_updates_text (string_bytes c.in_ok-text.text) c.args.summaries.now c.insert.new.self (Some c.args.summary) c.in_ok-insert.ensures.updates q
    ∙ ap (λ (bytes : List ℕ). cond (bytes_eq bytes q) (Some c.args.summary) (get_by_text c.args.summaries.now q)) c.in_ok-text.ensures.ok
