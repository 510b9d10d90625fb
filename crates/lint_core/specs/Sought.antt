-- Refinement: only contracts inside the crate use it.
-- What is looked for among the grants that a grant of a text expands to.
use Rattle.std.specs.Prelude.{Bool, true, not, ◌&&◌, is_some}
use Rattle.std.specs.List.{list_any}
use Rattle.rights_core.specs.Rights.{NetworkGrant, is_live}
use Rattle.share_core.specs.Pools.{is_for}
use Rattle.lint_core.specs.RightsLint.{is_unbounded}
use Rattle.lint_core.specs.declared.parts.Sought.{Sought}
use Rattle.lint_core.specs.declared.parts.Sought.TheVariants.{Any, Dead, Unbounded, UnboundedWithoutPrefix, OfPool}

abbrev pub is_sought : Sought → NetworkGrant → Bool
is_sought Any = λ entry. true
is_sought Dead = λ entry. not (is_live entry.network)
is_sought Unbounded = λ entry. is_unbounded entry.grant
is_sought UnboundedWithoutPrefix = λ entry. is_unbounded entry.grant && not (is_some entry.grant.prefix)
is_sought (OfPool pools) = λ entry. list_any (is_for entry.grant) pools.now
