-- Statement: contracts of public calls use it.
-- What one ticket allows that another denies. Source: this project's profile.
use Rattle.std.specs.Prelude.{◌≡◌, ℕ, List, length, Option, None, Some}
use Rattle.compare_core.specs.Widening.{request_of}
use Rattle.compare_core.specs.declared.registry.Registry.TheVariants.{Every}
use Rattle.compare_text.specs.Addresses.{IsGainedAt, WidensFrom}
use Rattle.compare_text.specs.Request.{addressed_words}
use Rattle.compare_text.specs.declared.widening.AddressedExample.{AddressedExample}
use Rattle.gate_calls.specs.Buffers.{filled}
use Rattle.gate_calls.specs.Caps.{Caps}

-- both handles hold a ticket, and the two have this property
abbrev pub BothHold : (Caps → Caps → Type 0) → Option Caps → Option Caps → Type 0
BothHold P None new = ⊥
BothHold P (Some old) None = ⊥
BothHold P (Some old) (Some new) = P old new

-- the new ticket allows some request from some address that the old one denies there
abbrev pub IsWider : Caps → Caps → Type 0
IsWider old new = WidensFrom Every old.rights.grants new.rights.grants

-- The text is that of a request which the new ticket allows and the old one denies, in the words that `osdgate verdict` takes.
-- Where it has no address, that holds at every address.
abbrev pub IsGainText : Caps → Caps → List ℕ → Type 0
IsGainText old new text =
    (found : AddressedExample) × IsGainedAt Every old.rights.grants new.rights.grants found.from (request_of found.example) × (text ≡ addressed_words found)

-- the buffer has as much as fits of such a text, and its whole length is reported
abbrev pub IsGainIn : Caps → Caps → ℕ → List ℕ → List ℕ → Type 0
IsGainIn old new needed before after = (text : List ℕ) × IsGainText old new text × (needed ≡ length text) × (after ≡ filled text before)
