use Rattle.std.proofs.Common.{not, ap}
use Rattle.lint_core.proofs.rights_lint.lint_of.Goals as goal

pub returns : goal.returns
returns c = record {
  standing = c.in_ok-standing_of.ensures;
  nothing = ap not c.has_sought.ensures;
  dead = c.has_sought-2.ensures;
  reach = c.reach_of.ensures;
  without_pool = c.is_without_pool.ensures;
}
