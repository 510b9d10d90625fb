use Rattle.std.proofs.Common.{List, ℕ, cond, None, ap, ◌∙◌}
use Rattle.std.specs.HashMap.{get_by_text}
use Rattle.std.specs.Str.{bytes_eq}
use Rattle.std.proofs.lemmas.Map.Text.{hash_map_updates_text}
use Rattle.log_core.proofs.pairing.take.Goals as goal

pub returns-clause-others : goal.returns-clause-others
returns-clause-others c = λ q.
    hash_map_updates_text c.as_str.result.now c.args.map.now c.remove.new.self None c.remove.ensures.updates q
    ∙ ap (λ (bytes : List ℕ). cond (bytes_eq bytes q) None (get_by_text c.args.map.now q)) c.as_str.ensures
