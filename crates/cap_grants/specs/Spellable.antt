-- Statement: contracts of public calls use it.
-- Which grants the grammar can spell, by computed tests. The limits on a text's bytes and on the number of its grants are left aside.
-- The conditions are this project's profile.
use Rattle.std.specs.Prelude.{ℕ, Bool, true, false, not, ◌||◌, ◌&&◌, ◌==◌, List, [], ◌∷◌, codes, Option, Some, None, is_none}
use Rattle.std.specs.Str.{bytes_eq}
use Rattle.std.specs.List.{list_all}
use Rattle.cap_grants.specs.declared.grant.Access.{Access}
use Rattle.cap_grants.specs.declared.grant.Access.TheVariants.{All, Flags, Class}
use Rattle.cap_grants.specs.declared.grant.NsMatch.{NsMatch}
use Rattle.cap_grants.specs.declared.grant.NsMatch.TheVariants.{Exact, Prefix}
use Rattle.cap_grants.specs.declared.grant.Part.{Part}
use Rattle.cap_grants.specs.declared.grant.Part.TheVariants.{Any, Is}
use Rattle.cap_grants.specs.declared.grant.Tag.{Tag}
use Rattle.cap_grants.specs.declared.grant.AllowGrant.{AllowGrant}
use Rattle.cap_grants.specs.declared.grant.Grant.{Grant}
use Rattle.cap_grants.specs.declared.grant.Grant.TheVariants.{Allow, Profile}
use Rattle.cap_grants.specs.Bytes.{is_quotable, is_empty}

-- may stand between two quotes of one kind: all its bytes are 32 to 126, and not both kinds of quotes are among them
abbrev pub can_be_quoted : List ℕ → Bool
can_be_quoted bytes = list_all (is_quotable 34) bytes || list_all (is_quotable 39) bytes

-- the name of a pool, a profile, a class, a method, an application or a prefix of objects
abbrev pub is_value : List ℕ → Bool
is_value name = not (is_empty name) && can_be_quoted name

-- nothing, or what passes the test
abbrev pub none_or : {A : Type 0} → (A → Bool) → Option A → Bool
none_or test None = true
none_or test (Some x) = test x

-- some flag is set
abbrev pub is_access : Access → Bool
is_access All = true
is_access (Flags f) = f.read || (f.write || (f.class_read || f.class_write))
is_access (Class class method) = is_value class && none_or is_value method

-- the last byte is a star
abbrev pub ends_in_star : List ℕ → Bool
ends_in_star [] = false
ends_in_star (b ∷ []) = b == 42
ends_in_star (b ∷ c ∷ bytes) = ends_in_star (c ∷ bytes)

-- either may be empty; a namespace that ends in a star would be read as a prefix
abbrev pub is_namespace : NsMatch → Bool
is_namespace (Exact name) = can_be_quoted name && not (ends_in_star name)
is_namespace (Prefix front) = can_be_quoted front

-- the one byte * would be read as any
abbrev pub is_part : Part → Bool
is_part Any = true
is_part (Is name) = is_value name && not (bytes_eq name (codes "*"))

-- an application with a pair of parts
abbrev pub is_tag : Tag → Bool
is_tag tag = is_value tag.application && (is_part tag.key && is_part tag.value)

-- beside a tag no pool and no prefix of names stands
abbrev pub is_alone : AllowGrant → Option Tag → Bool
is_alone g None = true
is_alone g (Some tag) = is_none g.pool && is_none g.prefix

-- the pool and the namespaces of a grant
abbrev pub is_scope : Option (List ℕ) → Option NsMatch → Bool
is_scope pool namespace = none_or is_value pool && none_or is_namespace namespace

-- each part passes its test, and a tag stands alone
abbrev pub is_allow : AllowGrant → Bool
is_allow g = is_access g.access && (is_scope g.pool g.namespace && (none_or is_value g.prefix && (none_or is_tag g.tag && is_alone g g.tag)))

-- the grammar can spell the grant
abbrev pub is_spellable : Grant → Bool
is_spellable (Allow g) = is_allow g
is_spellable (Profile used) = is_value used.name && is_scope used.pool used.namespace
