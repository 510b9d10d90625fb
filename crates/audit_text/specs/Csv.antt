-- Statement: contracts of public calls use it.
-- Tables as comma-separated values. Source: RFC 4180, with a line feed at the end of a line.
use Rattle.std.specs.Prelude.{ℕ, ◌≡◌, List, [], ◌∷◌, ◌++◌, ◌==◌, ◌||◌, Bool, is_ok, codes, flat_map, string_bytes, if◌then◌else◌}
use Rattle.std.specs.List.{list_any}
use Rattle.audit_core.specs.declared.cell.Cell.{Cell}
use Rattle.share_core.specs.declared.pools.Pool.{Pool}
use Rattle.verdict_text.specs.declared.entity.ReadEntity.{ReadEntity}
use Rattle.audit_text.specs.Reached.{AreReached}
use Rattle.audit_text.specs.Words.{cell_word}
use Rattle.audit_text.specs.declared.reached.Reached.{Reached}

-- a comma, a quote, a line feed or a carriage return
abbrev pub is_special : ℕ → Bool
is_special byte = byte == 44 || (byte == 34 || (byte == 10 || byte == 13))

-- a quote inside quotes is doubled
abbrev pub doubled : ℕ → List ℕ
doubled byte = if byte == 34 then codes "\"\"" else byte ∷ []

abbrev pub quoted : List ℕ → List ℕ
quoted text = codes "\"" ++ (flat_map doubled text ++ codes "\"")

-- a field with a special byte stands in quotes
abbrev pub field : List ℕ → List ℕ
field text = if list_any is_special text then quoted text else text

-- each behind a comma

abbrev pub pool_fields : List Pool → List ℕ
pool_fields pools = flat_map (λ pool. codes "," ++ field pool.name) pools

abbrev pub cell_fields : List Cell → List ℕ
cell_fields cells = flat_map (λ cell. codes "," ++ cell_word cell) cells

abbrev pub unread_fields : List Pool → List ℕ
unread_fields pools = flat_map (λ pool. codes ",?") pools

abbrev pub head_line : List Pool → List ℕ
head_line pools = codes "entity" ++ (pool_fields pools ++ codes "\n")

-- the line of an entity whose text has rights: the word of each pool's cell
abbrev pub reached_line : Reached → List ℕ
reached_line reached = field (string_bytes reached.entity.now.name) ++ (cell_fields reached.cells.items ++ codes "\n")

-- an entity whose text is refused has question marks
abbrev pub unread_line : List Pool → ReadEntity → List ℕ
unread_line pools entity = if is_ok entity.osd.read then [] else field (string_bytes entity.name) ++ (unread_fields pools ++ codes "\n")

abbrev pub table : List ReadEntity → List Pool → List Reached → List ℕ
table entities pools all = head_line pools ++ (flat_map reached_line all ++ flat_map (unread_line pools) entities)

-- what is printed: each entity of the file has a line
abbrev pub IsTable : List ReadEntity → List Pool → List ℕ → Type 0
IsTable entities pools text = (all : List Reached) × AreReached entities pools all × (text ≡ table entities pools all)
