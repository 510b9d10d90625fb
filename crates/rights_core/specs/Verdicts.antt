-- Statement: contracts of public calls use it.
-- Verdicts where the address of a request is not given.
-- Source: this project.
use Rattle.std.specs.Prelude.{◌≡◌, ℕ, Bool, true, false}
use Rattle.network_core.specs.declared.address.Address.{Address}
use Rattle.network_core.specs.Address.{IsAddress}
use Rattle.request_types.specs.declared.request.Needs.{Needs}
use Rattle.request_types.specs.Target.{Target}
use Rattle.verdict_core.specs.Verdict.{is_allowed}
use Rattle.rights_core.specs.Rights.{Rights, ticket_at}
use Rattle.rights_core.specs.declared.judging.Everywhere.{Everywhere}
use Rattle.rights_core.specs.declared.judging.Everywhere.TheVariants.{Allowed, Denied, Depends}

-- the decision rule on the grants that the address has
abbrev pub allowed_at : Rights → Target → Needs → ℕ → Address → Bool
allowed_at rights target needs tick a = is_allowed (ticket_at rights a) target needs tick

-- allowed at every address, at none, or at the first of two addresses and not at the second
abbrev pub IsVerdict : Rights → Target → Needs → ℕ → Everywhere → Type 0
IsVerdict rights target needs tick Allowed = (a : Address) → IsAddress a → allowed_at rights target needs tick a ≡ true
IsVerdict rights target needs tick Denied = (a : Address) → IsAddress a → allowed_at rights target needs tick a ≡ false
IsVerdict rights target needs tick (Depends allowed denied) =
    IsAddress allowed × (allowed_at rights target needs tick allowed ≡ true)
    × IsAddress denied × (allowed_at rights target needs tick denied ≡ false)
