-- What a parse leaves, by the rules of its number.
use Rattle.std.proofs.Common.{◌≡◌, ℕ, Option, Some, List}
use Rattle.verdict_text.specs.declared.reading.Rules.{Rules}
use Rattle.gate_calls.specs.Border.{ByRules, Holds, IsTicketOf}
use Rattle.gate_calls.specs.Caps.{Caps}
use Rattle.gate_calls.specs.Faults.{IsFault, IsRefusal, told}
use Rattle.gate_calls.specs.declared.making.Refusal.{Refusal}

pub made : (by : Option Rules) (rules : Rules) (held : Option Caps) (caps : Caps) (text : List ℕ) (until : Option ℕ)
    → by ≡ Some rules → held ≡ Some caps → IsTicketOf text until rules caps → ByRules (λ r. Holds (IsTicketOf text until r) held) by
made by rules held caps text until e h is = rw (e, h) is

pub refused : (by : Option Rules) (rules : Rules) (text : List ℕ) (refusal : Refusal) (rule at : ℕ)
    → by ≡ Some rules → IsRefusal text refusal rules → told refusal ≡ Some (rule, at) → ByRules (IsFault text rule at) by
refused by rules text refusal rule at e is found = rw e (refusal, is, found)
