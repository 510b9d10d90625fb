-- Refinement: only contracts inside the crate use it.
-- By which of its parts a grant is found. In verdict_core only inner contracts use this.
use Rattle.std.specs.Prelude.{ℕ, ◌+◌, ◌%◌, ◌^◌, List, [], ◌∷◌, Option, None, Some, if◌then◌else◌, nat_le, length, map, take}
use Rattle.std.specs.Option.{unwrap_or, option_map}
use Rattle.cap_grants.specs.declared.grant.AllowGrant.{AllowGrant}
use Rattle.cap_grants.specs.declared.grant.Access.{Access}
use Rattle.cap_grants.specs.declared.grant.Access.TheVariants.{All, Flags, Class}
use Rattle.cap_grants.specs.declared.grant.Part.{Part}
use Rattle.cap_grants.specs.declared.grant.Part.TheVariants.{Any, Is}
use Rattle.cap_grants.specs.declared.grant.Tag.{Tag}
use Rattle.common_types.specs.declared.tags.AppTags.{AppTags}
use Rattle.verdict_core.specs.declared.kinds.IndexKey.{IndexKey}
use Rattle.verdict_core.specs.declared.kinds.IndexBy.{IndexBy}
use Rattle.verdict_core.specs.declared.kinds.IndexBy.TheVariants.{Nothing, ThePool, TheTag, TheClass}
use Rattle.verdict_core.specs.Hash.{mix, hash, folded}

-- of an application with a pair
unfoldable pub pair_hash : List ℕ → List ℕ → List ℕ → ℕ
pair_hash application key value = mix ((hash application + hash key) % 2 ^ 64) (hash value)

abbrev pub number_of_pairs : List ℕ → List (List ℕ × List ℕ) → Option ℕ
number_of_pairs application [] = None
number_of_pairs application (pair ∷ []) = Some (pair_hash application pair.0 pair.1)
number_of_pairs application (pair ∷ other ∷ more) = None

-- of tags that are one application with one pair
abbrev pub only_number : List AppTags → Option ℕ
only_number [] = None
only_number (app ∷ []) = number_of_pairs app.application app.pairs
only_number (app ∷ other ∷ more) = None

abbrev pub parts_hash : List ℕ → Part → Part → Option ℕ
parts_hash application (Is key) (Is value) = Some (pair_hash application key value)
parts_hash application (Is key) Any = None
parts_hash application Any value = None

-- of a tag that names its key and its value
abbrev pub tag_hash : Option Tag → Option ℕ
tag_hash None = None
tag_hash (Some tag) = parts_hash tag.application tag.key tag.value

abbrev pub class_hash : Access → Option ℕ
class_hash All = None
class_hash (Flags flags) = None
class_hash (Class class method) = Some (hash class)

-- the number of what a grant names, if it names it
abbrev pub named_hash : IndexBy → AllowGrant → Option ℕ
named_hash Nothing g = Some 0
named_hash ThePool g = option_map hash g.pool
named_hash TheTag g = tag_hash g.tag
named_hash TheClass g = class_hash g.access

-- the hash of the first `n` bytes of a text, or `None` if the text is shorter
abbrev pub front_hash : List ℕ → ℕ → Option ℕ
front_hash text n = if nat_le n (length text) then Some (hash (take n text)) else None

abbrev pub chain_by : Option ℕ → Option ℕ → Option ℕ
chain_by None front = None
chain_by (Some named) None = None
chain_by (Some named) (Some front) = Some (folded named front)

-- the chain of a grant among those of a kind, if it has the parts
unfoldable pub chain_in : IndexKey → AllowGrant → Option ℕ
chain_in kind g = chain_by (named_hash kind.named g) (front_hash (unwrap_or g.prefix []) kind.front)

-- the chain that a grant is in: by the first kind whose parts it has, else that of the others
abbrev pub chain_of : List IndexKey → AllowGrant → ℕ
chain_of [] g = 256
chain_of (kind ∷ kinds) g = unwrap_or (chain_in kind g) (chain_of kinds g)

abbrev pub chains_of : List IndexKey → List (List ℕ × AllowGrant) → List ℕ
chains_of kinds grants = map (λ entry. chain_of kinds entry.1) grants
