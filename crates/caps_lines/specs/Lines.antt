-- Statement: contracts of public calls use it.
-- The command that gives an entity its capability texts, or removes it. Source: Ceph, User Management, "Managing Users".
use Rattle.std.specs.Prelude.{ℕ, List, [], ◌∷◌, ◌++◌, ◌==◌, codes, flat_map, length, string_bytes, if◌then◌else◌}
use Rattle.std.specs.Borrow.{Bor}
use Rattle.gate_files.specs.Services.{service_name}
use Rattle.gate_files.specs.declared.services.ServiceText.{ServiceText}
use Rattle.caps_lines.specs.declared.line.Verb.{Verb}
use Rattle.caps_lines.specs.declared.line.Verb.TheVariants.{Add, Replace, Remove}

abbrev pub verb_word : Verb → List ℕ
verb_word Add = codes "add"
verb_word Replace = codes "caps"
verb_word Remove = codes "rm"

-- a service and its text
abbrev pub text_words : List (Bor ServiceText) → List (List ℕ)
text_words texts = flat_map (λ (text : Bor ServiceText). service_name text.now.service ∷ string_bytes text.now.text ∷ []) texts

-- an empty text for object stores is left out
abbrev pub osd_words : List ℕ → List (List ℕ)
osd_words osd = if length osd == 0 then [] else codes "osd" ∷ osd ∷ []

-- the words of the command
abbrev pub command : Verb → List ℕ → List (Bor ServiceText) → List ℕ → List (List ℕ)
command verb entity texts osd =
    codes "ceph" ∷ codes "auth" ∷ verb_word verb ∷ entity ∷ (text_words texts ++ osd_words osd)
