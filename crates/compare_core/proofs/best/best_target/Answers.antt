use Rattle.std.proofs.Common.{rules}
use Rattle.compare_core.proofs.best.best_target.Goals as goal

pub returns : goal.returns
returns c =
    record {
      pool = c.in_ok-best_pool.ensures;
      tags = c.in_ok-best_tags.ensures.best;
      possible = c.in_ok-best_tags.ensures.possible;
      namespace = c.in_ok-best_namespace.ensures;
      object = c.in_ok-best_object.ensures;
    }
