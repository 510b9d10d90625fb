-- Statement: contracts of public calls use it.
-- Whom words of a line name, or the first fault of the words (this project's profile).
use Rattle.std.specs.Prelude.{ℕ, ◌≡◌, ◌-◌, ◌==◌, ◌||◌, not, nat_lt, Bool, List, [], ◌∷◌, Option, None, Some, is_some, codes, length, take, drop, flat_map, if◌then◌else◌}
use Rattle.std.specs.List.{find, list_any, prefix_len}
use Rattle.std.specs.Option.{option_map_or, option_or}
use Rattle.std.specs.Str.{bytes_eq}
use Rattle.rules_words.specs.declared.naming.Group.{Group}
use Rattle.rules_words.specs.declared.naming.NameFault.{NameFault}
use Rattle.rules_words.specs.declared.naming.NameFault.TheVariants.{NoEntities, DoubledGroup, StarInside, TooManyNames, BadExcept, QuotedName}
use Rattle.rules_words.specs.declared.naming.NamesFault.{NamesFault}
use Rattle.rules_words.specs.declared.naming.WhoNames.{WhoNames}
use Rattle.rules_words.specs.declared.words.Word.{Word}

-- the words in front that pass, and the others
abbrev pub front : (Word → Bool) → List Word → List Word
front passes words = take (prefix_len passes words) words

abbrev pub rest : (Word → Bool) → List Word → List Word
rest passes words = drop (prefix_len passes words) words

abbrev pub is_named : Word → Bool
is_named word = not (is_some word.quote)

abbrev pub is_other : Word → Bool
is_other word = is_some word.quote || not (bytes_eq word.text.now (codes "except"))

-- ---- names

-- a group's members, or else the name itself
abbrev pub named : List Group → List ℕ → List (List ℕ)
named groups name =
    option_map_or (λ (group : Group). group.members.items)
    (find (λ (group : Group). bytes_eq group.name name) groups) (name ∷ [])

abbrev pub names_of : List Group → List Word → List (List ℕ)
names_of groups words = flat_map (λ word. named groups word.text.now) words

-- behind the word `except`
abbrev pub excepted : List Word → List Word
excepted [] = []
excepted (word ∷ words) = words

-- `NAME.. except NAME..`: groups count as their members
abbrev pub IsWho : List Group → List Word → WhoNames → Type 0
IsWho groups words who =
    (who.names.items ≡ names_of groups (front is_other words))
    × (who.except.items ≡ names_of groups (excepted (rest is_other words)))

-- ---- faults

abbrev pub at : ℕ → NameFault → NamesFault
at position fault = record { at = position; fault = fault }

abbrev pub fault_at : ℕ → Option NameFault → Option NamesFault
fault_at position None = None
fault_at position (Some fault) = Some (at position fault)

-- the first word's position, or that where one is missing
abbrev pub place : ℕ → List Word → ℕ
place end [] = end
place end (word ∷ words) = word.at

abbrev pub has_star : List ℕ → Bool
has_star text = list_any (λ byte. byte == 42) text

-- before the last byte
abbrev pub has_star_inside : List ℕ → Bool
has_star_inside text = has_star (take (length text - 1) text)

abbrev pub name_fault : Word → Option NameFault
name_fault word =
    if is_some word.quote then Some QuotedName
    else if bytes_eq word.text.now (codes "except") then Some BadExcept
    else if has_star_inside word.text.now then Some StarInside
    else None

-- that of the first word that has one
abbrev pub names_fault : List Word → Option NamesFault
names_fault [] = None
names_fault (word ∷ words) = option_or (fault_at word.at (name_fault word)) (names_fault words)

-- a name must be there
abbrev pub some_fault : ℕ → List Word → Option NamesFault
some_fault end [] = Some (at end NoEntities)
some_fault end (word ∷ words) = names_fault (word ∷ words)

-- from `except` on, if there is one
abbrev pub except_fault : ℕ → List Word → Option NamesFault
except_fault end [] = None
except_fault end (word ∷ words) = some_fault end words

abbrev pub are_many : List Group → List Word → Bool
are_many groups words = nat_lt 4096 (length (names_of groups words))

abbrev pub many_fault : List Group → ℕ → List Word → Option NamesFault
many_fault groups end words = if are_many groups words then Some (at (place end words) TooManyNames) else None

-- the faults of `NAME.. except NAME..`, where the next word is missing or at this position
abbrev pub who_fault : List Group → ℕ → List Word → Option NamesFault
who_fault groups end words =
    option_or (some_fault (place end (rest is_other words)) (front is_other words))
    (option_or (except_fault end (rest is_other words))
    (option_or (many_fault groups end (front is_other words))
    (many_fault groups end (excepted (rest is_other words)))))

-- ---- groups

abbrev pub is_group : List Group → List ℕ → Bool
is_group groups name = list_any (λ (group : Group). bytes_eq group.name name) groups

abbrev pub group_name_fault : List Group → Word → Option NameFault
group_name_fault groups word =
    if is_some word.quote then Some QuotedName
    else if bytes_eq word.text.now (codes "except") then Some BadExcept
    else if has_star word.text.now then Some StarInside
    else if is_group groups word.text.now then Some DoubledGroup
    else None

abbrev pub group_fault : List Group → ℕ → Word → List Word → Option NamesFault
group_fault groups end name members =
    option_or (fault_at name.at (group_name_fault groups name))
    (option_or (some_fault end members) (many_fault groups end members))
