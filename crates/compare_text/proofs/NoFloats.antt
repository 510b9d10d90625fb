-- No document of a comparison has a float.
use Rattle.std.proofs.Common.{◌≡◌, ℕ, List, ◌||◌, false, Option, None, Some, map, refl, ap, ◌∙◌}
use Rattle.serde_json.specs.Data.{array}
use Rattle.serde_json.specs.View.{items_of}
use Rattle.serde_json.specs.Written.{has_float}
use Rattle.verdict_text.proofs.NoFloats.{each, of_fault_value}
use Rattle.common_types.specs.declared.tags.AppTags.{AppTags}
use Rattle.network_core.specs.declared.address.Address.{Address}
use Rattle.request_types.specs.Target.{Target}
use Rattle.request_types.specs.declared.request.Needs.{Needs}
use Rattle.compare_text.specs.Compared.{compared_document, example_document, examples_document, side_document}
use Rattle.compare_text.specs.Entities.{change_document, unjudged_document}
use Rattle.compare_text.specs.RequestDocument.{addressed_document, call_document, from_document, key_document, needs_document, tag_document, target_document, target_example}
use Rattle.compare_text.specs.declared.relation.Relation.{Relation}
use Rattle.compare_text.specs.declared.widening.AddressedExample.{AddressedExample}
use Rattle.verdict_text.specs.declared.reading.TextFault.{TextFault}
use Rattle.verdict_text.specs.Reading.{fault_byte, fault_text}
use Rattle.compare_text.specs.declared.relation.Presence.{Presence}

of_tag : (app : AppTags) → has_float (tag_document app) ≡ false
of_tag app = ap (λ b. b || false) (each key_document (λ _. refl) app.pairs)

-- a target's tags have none
tags_free : (tags : List AppTags) → has_float (array (items_of (map tag_document tags))) ≡ false
tags_free tags = each tag_document of_tag tags

of_target : (target : Target) → has_float (target_document target) ≡ false
of_target target = ap (λ b. b || false) (tags_free target.tags)

of_needs : (needs : Needs) → has_float (needs_document needs) ≡ false
of_needs needs = ap (λ b. b || false) (each call_document (λ _. refl) needs.calls)

of_from : (from : Option Address) → has_float (from_document from) ≡ false
of_from None = refl
of_from (Some address) = refl

pub of_target_example : (target : Target) → has_float (target_example target) ≡ false
of_target_example target = ap (λ b. b || false) (of_target target)

pub of_addressed : (found : AddressedExample) → has_float (addressed_document found) ≡ false
of_addressed found =
    ap (λ b. b || (has_float (needs_document found.example.needs) || (has_float (target_document found.example.target) || false))) (of_from found.from)
    ∙ (ap (λ b. b || (has_float (target_document found.example.target) || false)) (of_needs found.example.needs) ∙ ap (λ b. b || false) (of_target found.example.target))

of_example : (found : AddressedExample) → has_float (example_document found) ≡ false
of_example found = ap (λ b. b || false) (of_addressed found)

pub of_examples : (examples : List AddressedExample) → has_float (examples_document examples) ≡ false
of_examples examples = each example_document of_example examples

both : (gained lost : List AddressedExample) → (has_float (examples_document gained) || (has_float (examples_document lost) || false)) ≡ false
both gained lost = ap (λ b. b || (has_float (examples_document lost) || false)) (of_examples gained) ∙ ap (λ b. b || false) (of_examples lost)

pub of_compared : (relation : Relation) (gained lost : List AddressedExample) → has_float (compared_document relation gained lost) ≡ false
of_compared relation gained lost = both gained lost

pub of_side : (side : List ℕ) (fault : TextFault) → has_float (side_document side fault) ≡ false
of_side side fault = ap (λ b. b || false) (of_fault_value (fault_text fault) (fault_byte fault))

pub of_change : (name word : List ℕ) (gained lost : List AddressedExample) → has_float (change_document name word gained lost) ≡ false
of_change name word gained lost = both gained lost

pub of_unjudged : (name : List ℕ) (presence : Presence) (fault : TextFault) → has_float (unjudged_document name presence fault) ≡ false
of_unjudged name presence fault = ap (λ b. b || false) (of_fault_value (fault_text fault) (fault_byte fault))
