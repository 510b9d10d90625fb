-- Statement: contracts of public calls use it.
-- The printed form of a grant for Ceph, which reads three forms of this project's otherwise. Source: this project's profile.
use Rattle.std.specs.Prelude.{ℕ, Bool, ◌&&◌, ◌==◌, not, List, [], ◌∷◌, ◌++◌, length, codes, Option, Some, None, nat_eq, if◌then◌else◌}
use Rattle.std.specs.List.{list_all, starts_with}
use Rattle.cap_grants.specs.declared.grant.Access.{Access}
use Rattle.cap_grants.specs.declared.grant.Access.TheVariants.{All, Flags, Class}
use Rattle.cap_grants.specs.declared.grant.AllowGrant.{AllowGrant}
use Rattle.cap_grants.specs.declared.grant.NsMatch.{NsMatch}
use Rattle.cap_grants.specs.declared.grant.NsMatch.TheVariants.{Exact, Prefix}
use Rattle.cap_grants.specs.declared.grant.Part.{Part}
use Rattle.cap_grants.specs.declared.grant.Part.TheVariants.{Any, Is}
use Rattle.cap_grants.specs.declared.grant.Tag.{Tag}
use Rattle.common_types.specs.WordBytes.{is_word_byte}
use Rattle.cap_text.specs.Printed.{printed_access, printed_option, printed_pool, printed_prefix, printed_value, quoted}

-- a bare word that begins with all would be the star
abbrev pub printed_part : Part → List ℕ
printed_part Any = codes "*"
printed_part (Is name) = if starts_with nat_eq name (codes "all") then quoted name else printed_value name

-- two quotes for the empty namespace; a star alone is between quotes
abbrev pub printed_namespace : NsMatch → List ℕ
printed_namespace (Exact name) = if length name == 0 then codes "\"\"" else printed_value name
printed_namespace (Prefix front) = if list_all is_word_byte front && not (length front == 0) then front ++ codes "*" else quoted (front ++ codes "*")

abbrev pub printed_namespaces : Option NsMatch → List ℕ
printed_namespaces = printed_option (λ namespace. codes " namespace=" ++ printed_namespace namespace)

abbrev pub printed_tag : Option Tag → List ℕ
printed_tag = printed_option (λ tag. codes " tag " ++ (printed_value tag.application ++ (codes " " ++ (printed_part tag.key ++ (codes "=" ++ printed_part tag.value)))))

-- each clause behind a blank
abbrev pub clauses : AllowGrant → List ℕ
clauses g = printed_pool g.pool ++ (printed_namespaces g.namespace ++ (printed_prefix g.prefix ++ printed_tag g.tag))

-- the access before the clauses, but behind them where it is a class without a method, whose next word would be one
abbrev pub printed_form : Access → List ℕ → List ℕ
printed_form All places = codes "allow *" ++ places
printed_form (Flags flags) places = codes "allow " ++ (printed_access (Flags flags) ++ places)
printed_form (Class class None) places = codes "allow" ++ (places ++ (codes " class " ++ printed_value class))
printed_form (Class class (Some method)) places =
    codes "allow class " ++ (printed_value class ++ (codes " " ++ (printed_value method ++ places)))

abbrev pub printed_ceph : AllowGrant → List ℕ
printed_ceph g = printed_form g.access (clauses g)
