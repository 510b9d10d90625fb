-- Statement: contracts of public calls use it.
-- Idle grants: they can allow nothing. No grant of a text is idle (this project's profile).
use Rattle.std.specs.Prelude.{◌≡◌, ◌<◌, ℕ, List, true, None, length}
use Rattle.cap_text.specs.Grammar.{Spells}
use Rattle.cap_grants.specs.declared.grant.Grant.{Grant}
use Rattle.grant_core.specs.BuiltIn.{built_in}
use Rattle.grant_core.specs.Flat.{Flat, flat}
use Rattle.grant_core.specs.Refusal.{expand_refusal}
use Rattle.request_types.specs.Target.{Target}
use Rattle.verdict_core.specs.Verdict.{grants_allow}
use Rattle.request_types.specs.declared.request.Needs.{Needs}
use Rattle.compare_core.specs.Widening.{CanBeAsked}
use Rattle.compare_core.specs.declared.registry.Registry.TheVariants.{Every}
use Rattle.lint_core.specs.Lint.{alone}

-- they allow no request that can be asked, over any class registry
abbrev pub AreIdle : Flat → Type 0
AreIdle grants = (target : Target) (needs : Needs) → CanBeAsked Every (record { target = target; needs = needs }) → ¬ (grants_allow grants target needs ≡ true)

-- no grant that a text spells and the built-in profiles expand is idle
abbrev pub NoneIsIdle : List ℕ → List Grant → Type 0
NoneIsIdle text grants = Spells text grants → expand_refusal built_in grants ≡ None → (place : ℕ) → place < length grants → ¬ AreIdle (flat built_in (alone grants place))
