-- A verdict that every address gets.
use Rattle.std.proofs.Common.{◌≡◌, Bool, true, false, sym, ap, ◌∙◌, not}
use Rattle.network_core.specs.declared.address.Address.{Address}
use Rattle.network_core.specs.Address.{IsAddress}
use Rattle.rights_core.specs.Rights.{Rights}
use Rattle.log_text.specs.Agreement.{IsAgreement, IsJudged, of_all}
use Rattle.log_text.specs.declared.decided.Decided.{Decided}

by_word : (rights : Rights) (decided : Decided) (verdict allowed : Bool) → decided.allowed ≡ allowed → ((a : Address) → IsAddress a → IsJudged rights decided verdict a) → IsAgreement rights decided (of_all verdict allowed)
by_word rights decided true true is all = λ a h. all a h ∙ sym is
by_word rights decided true false is all = λ a h. all a h ∙ sym (ap not is)
by_word rights decided false true is all = λ a h. all a h ∙ sym (ap not is)
by_word rights decided false false is all = λ a h. all a h ∙ sym is

pub at_all : (rights : Rights) (decided : Decided) (verdict : Bool) → ((a : Address) → IsAddress a → IsJudged rights decided verdict a) → IsAgreement rights decided (of_all verdict decided.allowed)
at_all rights decided verdict all = by_word rights decided verdict decided.allowed (λ i. decided.allowed) all
