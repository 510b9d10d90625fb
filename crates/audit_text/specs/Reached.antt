-- Statement: contracts of public calls use it.
-- What the entities of a cluster reach, and which of them stand in one row (this project's profile).
use Rattle.std.specs.Prelude.{ℕ, ◌≡◌, ◌-◌, List, [], ◌∷◌, ◌++◌, Bool, true, false, not, ◌&&◌, Option, None, Some, Ok, Result, is_ok, codes, decimal, string_bytes, if◌then◌else◌, nat_le, count_by, filter, map, flat_map}
use Rattle.std.specs.List.{find}
use Rattle.std.specs.Option.{option_map_or, option_to_list}
use Rattle.std.specs.Str.{bytes_eq}
use Rattle.audit_core.specs.Reached.{AreCells}
use Rattle.audit_core.specs.declared.cell.Cell.{Cell}
use Rattle.rights_core.specs.Rights.{Rights}
use Rattle.share_core.specs.declared.pools.Pool.{Pool}
use Rattle.verdict_text.specs.ShownName.{shown_name}
use Rattle.verdict_text.specs.declared.entity.ReadEntity.{ReadEntity}
use Rattle.audit_text.specs.Words.{cell_word}
use Rattle.audit_text.specs.declared.reached.Reached.{Reached}

-- the words of some cells, each before a blank
abbrev pub words_of : List Cell → List ℕ
words_of cells = flat_map (λ cell. cell_word cell ++ codes " ") cells

-- an entity with rights, what these reach of each pool, and the words of that
pub record IsReached (pools : List Pool) (entity : ReadEntity) (reached : Reached) : Type 0 where
  pub same : reached.entity.now ≡ entity
  pub rights : Rights
  pub read : entity.osd.read ≡ Ok rights
  pub cells : AreCells rights 0 pools reached.cells.items
  pub words : reached.words ≡ words_of reached.cells.items

-- an entity whose text has rights is reached, and any other is not
abbrev pub IsFound : List Pool → ReadEntity → Option Reached → Type 0
IsFound pools entity None = is_ok entity.osd.read ≡ false
IsFound pools entity (Some reached) = IsReached pools entity reached

-- what each entity reaches, in order
abbrev pub AreFound : List Pool → List ReadEntity → List Reached → Type 0
AreFound pools [] all = all ≡ []
AreFound pools (entity ∷ entities) all =
    (found : Option Reached) × (rest : List Reached) × IsFound pools entity found × AreFound pools entities rest × (all ≡ option_to_list found ++ rest)

abbrev pub AreReached : List ReadEntity → List Pool → List Reached → Type 0
AreReached entities pools all = AreFound pools entities all

-- two entities have one text, and the same words
abbrev pub is_alike : Reached → Reached → Bool
is_alike one other = bytes_eq one.entity.now.osd.text other.entity.now.osd.text && bytes_eq one.words other.words

-- those that stand in the row of an entity
abbrev pub members : List Reached → Reached → List Reached
members all one = filter (is_alike one) all

-- an entity that stands first in its row: names differ
abbrev pub is_first : List Reached → Reached → Bool
is_first all one = option_map_or (λ first. bytes_eq (string_bytes first.entity.now.name) (string_bytes one.entity.now.name)) (find (is_alike one) all) false

-- a name, and how many more stand in its row

abbrev pub more : ℕ → List ℕ
more count = if nat_le count 1 then [] else codes " +" ++ decimal (count - 1)

abbrev pub label : List ℕ → ℕ → List ℕ
label name count = shown_name name ++ more count
