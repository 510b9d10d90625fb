-- No document of checked rules has a float.
use Rattle.std.proofs.Common.{◌≡◌, List, ◌||◌, false, refl, ap, ◌∙◌}
use Rattle.serde_json.specs.Written.{has_float}
use Rattle.verdict_text.proofs.NoFloats.{each, of_fault_value}
use Rattle.compare_text.proofs.NoFloats.{of_addressed}
use Rattle.compare_text.specs.RequestDocument.{addressed_document}
use Rattle.compare_text.specs.declared.widening.AddressedExample.{AddressedExample}
use Rattle.rules_text.specs.Report.{fault_of, name_at}
use Rattle.verdict_text.specs.declared.entity.ReadEntity.{ReadEntity}
use Rattle.rules_core.specs.declared.checking.Finding.{Finding}
use Rattle.rules_core.specs.declared.checking.Finding.TheVariants.{Unread, Breach, Crossed}
use Rattle.rules_core.specs.declared.checking.Found.{Found}
use Rattle.rules_text.specs.Json.{byte_of, finding_document, found_document, founds_of, request_document, rule_document}
use Rattle.rules_text.specs.declared.checked.CheckedRule.{CheckedRule}
use Rattle.std.proofs.Common.{ℕ}

of_request : (name : List ℕ) (found : AddressedExample) → has_float (request_document name found) ≡ false
of_request name found = ap (λ b. b || false) (of_addressed found)

of_finding : (entities : List ReadEntity) (place : ℕ) (finding : Finding) → has_float (finding_document entities place finding) ≡ false
of_finding entities place Unread = ap (λ b. b || false) (of_fault_value (fault_of entities place) (byte_of entities place))
of_finding entities place (Breach found) = of_request (name_at entities place) found
of_finding entities place (Crossed other crossing) =
    ap (λ b. b || (has_float (addressed_document crossing.one) || false)) (of_request (name_at entities other) crossing.other) ∙ ap (λ b. b || false) (of_addressed crossing.one)

pub of_rule : (entities : List ReadEntity) (one : CheckedRule) → has_float (rule_document entities one) ≡ false
of_rule entities one =
    ap (λ b. b || false) (each (found_document entities) (λ (found : Found). of_finding entities found.place found.finding) (founds_of one.outcome))
