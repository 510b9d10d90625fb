-- Statement: contracts of public calls use it.
-- What an object holds, and its limits. Source: RADOS objects, which have bytes and named attributes; the
-- limits are this project's profile.
use Rattle.std.specs.Prelude.{ℕ, ◌<◌, ◌≤◌, List, [], ◌∷◌, ◌++◌, Bool, ◌||◌, Option, is_some, length, nat_lt, find, position, All, AllPairs, ◌≢◌, slice_set, remove}
use Rattle.std.specs.Option.{option_map, option_map_or}
use Rattle.std.specs.Str.{bytes_eq}

-- an object: its bytes, and its attributes, each a name with a value, in the order of their setting
pub record Content : Type 0 where
  pub bytes : List ℕ
  pub attributes : List (List ℕ × List ℕ)

-- an attribute: a name of 1 to 64 bytes with a value of at most 1,024
pub record IsAttribute (attribute : List ℕ × List ℕ) : Type 0 where
  pub named : 0 < length attribute.0
  pub short_name : length attribute.0 ≤ 64
  pub short_value : length attribute.1 ≤ 1024

-- at most 16 attributes, whose names differ
pub record AreAttributes (attributes : List (List ℕ × List ℕ)) : Type 0 where
  pub few : length attributes ≤ 16
  pub each : All IsAttribute attributes
  pub distinct : AllPairs (λ a b. a.0 ≢ b.0) attributes

-- the place of the attribute of a name
abbrev pub place_of : List ℕ → List (List ℕ × List ℕ) → Option ℕ
place_of name attributes = position (λ attribute. bytes_eq attribute.0 name) attributes

-- the value of a name
abbrev pub value_of : List ℕ → List (List ℕ × List ℕ) → Option (List ℕ)
value_of name attributes = option_map (λ attribute. attribute.1) (find (λ attribute. bytes_eq attribute.0 name) attributes)

-- a value in its name's place, or at the end where the name is new
abbrev pub with_attribute : List ℕ → List ℕ → List (List ℕ × List ℕ) → List (List ℕ × List ℕ)
with_attribute name value attributes = option_map_or (λ place. slice_set attributes place (name, value)) (place_of name attributes) (attributes ++ (name, value) ∷ [])

-- all but the attribute of a name
abbrev pub without_attribute : List ℕ → List (List ℕ × List ℕ) → List (List ℕ × List ℕ)
without_attribute name attributes = option_map_or (λ place. remove attributes place) (place_of name attributes) attributes

-- whether one more setting stays within 16 attributes: the name is there, or fewer are
abbrev pub has_room : List ℕ → List (List ℕ × List ℕ) → Bool
has_room name attributes = is_some (place_of name attributes) || nat_lt (length attributes) 16

-- an object without bytes and attributes
abbrev pub empty : Content
empty = record { bytes = []; attributes = [] }

-- what a missing object counts as
abbrev pub bytes_of : Option Content → List ℕ
bytes_of object = option_map_or (λ o. o.bytes) object []

abbrev pub attributes_of : Option Content → List (List ℕ × List ℕ)
attributes_of object = option_map_or (λ o. o.attributes) object []
