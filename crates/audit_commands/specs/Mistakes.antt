-- Refinement: only contracts inside the crate use it.
-- What is wrong with a grant, by what is found of it (this project's profile).
use Rattle.std.specs.Prelude.{List, [], ◌∷◌, ◌++◌, Bool, true, false, Option, None, Some, if◌then◌else◌}
use Rattle.lint_core.specs.declared.findings.Standing.{Standing}
use Rattle.lint_core.specs.declared.findings.Standing.TheVariants.{Needed, CoveredTogether, Covered}
use Rattle.lint_core.specs.declared.rights_lint.GrantLint.{GrantLint}
use Rattle.audit_commands.specs.declared.findings.Mistake.{Mistake}
use Rattle.audit_commands.specs.declared.findings.Mistake.TheVariants.{NoPool, Redundant, Unknown, NoAddress}

-- the others allow the same, and one of them alone does if there is a number
abbrev pub redundancy : Standing → List Mistake
redundancy Needed = []
redundancy CoveredTogether = Redundant None ∷ []
redundancy (Covered other) = Redundant (Some other) ∷ []

-- one that grants nothing has no other mistake
abbrev pub mistakes : GrantLint → List Mistake
mistakes lint =
    if lint.nothing then Unknown ∷ []
    else (if lint.dead then NoAddress ∷ []
    else ((if lint.without_pool then NoPool ∷ [] else []) ++ redundancy lint.standing))

-- it grants nothing as the cluster is now
abbrev pub is_idle : Mistake → Bool
is_idle NoPool = true
is_idle (Redundant by) = false
is_idle Unknown = true
is_idle NoAddress = true
