-- Statement: contracts of public calls use it.
-- How the gate's verdict stands to a decision of an OSD.
use Rattle.std.specs.Prelude.{◌≡◌, Bool, true, false, not}
use Rattle.network_core.specs.declared.address.Address.{Address}
use Rattle.network_core.specs.Address.{IsAddress}
use Rattle.rights_core.specs.Rights.{Rights}
use Rattle.rights_core.specs.Verdicts.{allowed_at}
use Rattle.log_text.specs.declared.agreement.Agreement.{Agreement}
use Rattle.log_text.specs.declared.agreement.Agreement.TheVariants.{Agrees, Differs, Depends}
use Rattle.log_text.specs.declared.decided.Decided.{Decided}

-- the verdict is this one at an address
abbrev pub IsJudged : Rights → Decided → Bool → Address → Type 0
IsJudged rights decided verdict a = allowed_at rights decided.target decided.needs 0 a ≡ verdict

abbrev pub IsAgreement : Rights → Decided → Agreement → Type 0
IsAgreement rights decided Agrees = (a : Address) → IsAddress a → IsJudged rights decided decided.allowed a
IsAgreement rights decided Differs = (a : Address) → IsAddress a → IsJudged rights decided (not decided.allowed) a
IsAgreement rights decided Depends = (a : Address) × IsAddress a × IsJudged rights decided true a × ((b : Address) × IsAddress b × IsJudged rights decided false b)

-- of a verdict that every address gets
abbrev pub of_all : Bool → Bool → Agreement
of_all true true = Agrees
of_all true false = Differs
of_all false true = Differs
of_all false false = Agrees
