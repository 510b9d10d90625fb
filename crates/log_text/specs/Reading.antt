-- Refinement: only contracts inside the crate use it.
-- Which values the texts of a decision have: those that Ceph 16.2.15 writes so.
use Rattle.std.specs.Prelude.{ℕ, ◌≡◌, List}
use Rattle.log_text.specs.Decision.{decision_text}
use Rattle.log_text.specs.Object.{escaped, seen_name}
use Rattle.log_text.specs.declared.decided.Decided.{Decided}
use Rattle.log_text.specs.declared.object.ObjectWords.{ObjectWords}

pub record IsDecision (object : ObjectWords) (text : List ℕ) (decided : Decided) : Type 0 where
  pub written : text ≡ decision_text object.pool.now decided
  pub in_namespace : object.namespace.now ≡ escaped decided.target.namespace
  pub of_object : seen_name object.key.now object.name.now ≡ escaped decided.target.object
