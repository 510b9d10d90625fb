-- Statement: contracts of public calls use it.
-- Whom words name, or why they name nobody.
use Rattle.std.specs.Prelude.{ℕ, ◌≡◌, ◌<◌, ◌≤◌, List, Option, None, Some, Result, Ok, Err, Vec, length}
use Rattle.std.specs.declared.alloc.Global.{Global}
use Rattle.rules_words.specs.Naming.{IsWho, group_fault, many_fault, names_of, who_fault}
use Rattle.rules_words.specs.declared.naming.Group.{Group}
use Rattle.rules_words.specs.declared.naming.NamesFault.{NamesFault}
use Rattle.rules_words.specs.declared.naming.WhoNames.{WhoNames}
use Rattle.rules_words.specs.declared.words.Word.{Word}

abbrev pub AreNames : List Group → List Word → Option (Vec (List ℕ) Global) → Type 0
AreNames groups words None = 4096 < length (names_of groups words)
AreNames groups words (Some names) = (names.items ≡ names_of groups words) × (length (names_of groups words) ≤ 4096)

abbrev pub AreNamesOr : List Group → ℕ → List Word → Result (Vec (List ℕ) Global) NamesFault → Type 0
AreNamesOr groups end words (Ok names) = (names.items ≡ names_of groups words) × (many_fault groups end words ≡ None)
AreNamesOr groups end words (Err fault) = many_fault groups end words ≡ Some fault

abbrev pub IsWhoOr : List Group → ℕ → List Word → Result WhoNames NamesFault → Type 0
IsWhoOr groups end words (Ok who) = (who_fault groups end words ≡ None) × IsWho groups words who
IsWhoOr groups end words (Err fault) = who_fault groups end words ≡ Some fault

-- a group's name, and the names of its members
abbrev pub IsGroupOr : List Group → ℕ → Word → List Word → Result Group NamesFault → Type 0
IsGroupOr groups end name members (Ok group) =
    (group_fault groups end name members ≡ None) × (group.name ≡ name.text.now)
    × (group.members.items ≡ names_of groups members)
IsGroupOr groups end name members (Err fault) = group_fault groups end name members ≡ Some fault
