-- Statement: contracts of public calls use it.
-- The printed form of capability lists. Source: this project's profile.
use Rattle.std.specs.Prelude.{ℕ, Bool, true, false, ◌&&◌, ◌==◌, List, [], ◌∷◌, ◌++◌, length, codes, Option, Some, None, if◌then◌else◌}
use Rattle.std.specs.List.{list_all, list_any, join_by}
use Rattle.cap_grants.specs.declared.grant.Access.{Access}
use Rattle.cap_grants.specs.declared.grant.Access.TheVariants.{All, Flags, Class}
use Rattle.cap_grants.specs.declared.grant.NsMatch.{NsMatch}
use Rattle.cap_grants.specs.declared.grant.NsMatch.TheVariants.{Exact, Prefix}
use Rattle.cap_grants.specs.declared.grant.Part.{Part}
use Rattle.cap_grants.specs.declared.grant.Part.TheVariants.{Any, Is}
use Rattle.cap_grants.specs.declared.grant.Tag.{Tag}
use Rattle.cap_grants.specs.declared.grant.AllowGrant.{AllowGrant}
use Rattle.cap_grants.specs.declared.grant.ProfileUse.{ProfileUse}
use Rattle.cap_grants.specs.declared.grant.Grant.{Grant}
use Rattle.cap_grants.specs.declared.grant.Grant.TheVariants.{Allow, Profile}
use Rattle.common_types.specs.WordBytes.{is_word_byte}
use Rattle.cap_text.specs.Words.{letters, keyword_of}
use Rattle.cap_text.specs.Grammar.{begins_clause}

-- ', where the text holds a ", and else "
abbrev pub quote_for : List ℕ → ℕ
quote_for text = if list_any (λ b. b == 34) text then 39 else 34

-- between quotes of one kind
abbrev pub quoted : List ℕ → List ℕ
quoted text = quote_for text ∷ (text ++ quote_for text ∷ [])

-- bare, where all its bytes are those of words
abbrev pub printed_value : List ℕ → List ℕ
printed_value name = if list_all is_word_byte name then name else quoted name

-- a word that begins a clause would be read as that clause
unfoldable pub printed_method : List ℕ → List ℕ
printed_method method = if begins_clause (keyword_of method) then quoted method else printed_value method

-- two quotes for the empty namespace; the star of a prefix stands within its quotes
unfoldable pub printed_namespace : NsMatch → List ℕ
printed_namespace (Exact name) = if length name == 0 then codes "\"\"" else printed_value name
printed_namespace (Prefix front) = if list_all is_word_byte front then front ++ codes "*" else quoted (front ++ codes "*")

-- a star for any
abbrev pub printed_part : Part → List ℕ
printed_part Any = codes "*"
printed_part (Is name) = printed_value name

-- class-read or class-write, where only one of the two flags is set
abbrev pub class_word : Bool → Bool → List ℕ
class_word true false = codes "class-read"
class_word false true = codes "class-write"
class_word read write = []

-- two words and a space between them, or the one that is not empty
abbrev pub spaced : List ℕ → List ℕ → List ℕ
spaced [] second = second
spaced first [] = first
spaced first second = first ++ 32 ∷ second

-- nothing, or the text that the function gives
abbrev pub printed_option : {A : Type 0} → (A → List ℕ) → Option A → List ℕ
printed_option text None = []
printed_option text (Some x) = text x

-- a star for all; a class with its method; letters, with x where both class flags are set, and a class word
abbrev pub printed_access : Access → List ℕ
printed_access All = codes "*"
printed_access (Class class method) = codes "class " ++ (printed_value class ++ printed_option (λ name. codes " " ++ printed_method name) method)
printed_access (Flags f) = spaced (letters f.read f.write (f.class_read && f.class_write)) (class_word f.class_read f.class_write)

-- the clauses, each behind a space
abbrev pub printed_pool : Option (List ℕ) → List ℕ
printed_pool = printed_option (λ name. codes " pool=" ++ printed_value name)

abbrev pub printed_namespaces : Option NsMatch → List ℕ
printed_namespaces = printed_option (λ namespace. codes " namespace=" ++ printed_namespace namespace)

abbrev pub printed_prefix : Option (List ℕ) → List ℕ
printed_prefix = printed_option (λ name. codes " object_prefix " ++ printed_value name)

abbrev pub printed_tag : Option Tag → List ℕ
printed_tag = printed_option (λ tag. codes " tag " ++ (printed_value tag.application ++ (codes " " ++ (printed_part tag.key ++ (codes "=" ++ printed_part tag.value)))))

-- the access, and then the clauses in the grammar's order
abbrev pub printed_allow : AllowGrant → List ℕ
printed_allow g = codes "allow " ++ (printed_access g.access ++ (printed_pool g.pool ++ (printed_namespaces g.namespace ++ (printed_prefix g.prefix ++ printed_tag g.tag))))

-- the profile's name, and then its clauses
abbrev pub printed_profile : ProfileUse → List ℕ
printed_profile used = codes "profile " ++ (printed_value used.name ++ (printed_pool used.pool ++ printed_namespaces used.namespace))

-- one grant
abbrev pub printed_grant : Grant → List ℕ
printed_grant (Allow g) = printed_allow g
printed_grant (Profile used) = printed_profile used

-- the grants, a comma and a space between them
abbrev pub printed : List Grant → List ℕ
printed gs = join_by printed_grant (codes ", ") gs
