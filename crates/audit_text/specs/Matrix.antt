-- Statement: contracts of public calls use it.
-- What entities reach, as a text: a matrix that is cut to a width, and lists below it (this project's profile).
-- Every line ends with byte 10, and none has a blank before that.
use Rattle.std.specs.Prelude.{ℕ, ◌≡◌, ◌≢◌, ◌+◌, ◌-◌, ◌<◌, ◌≤◌, ◌==◌, List, [], ◌∷◌, ◌++◌, Bool, true, false, not, ◌&&◌, ◌⊎◌, Option, None, Some, Result, Ok, Err, codes, flat_map, filter, map, length, replicate, string_bytes, sum_by, max, count_by, if◌then◌else◌}
use Rattle.std.specs.List.{list_all, list_any, slice_range, slice_get}
use Rattle.std.specs.Option.{option_map_or}
use Rattle.audit_core.specs.declared.cell.Cell.{Cell}
use Rattle.audit_core.specs.declared.cell.Extent.{Extent}
use Rattle.audit_core.specs.declared.cell.Extent.TheVariants.{Nothing, Part, Whole}
use Rattle.share_core.specs.declared.pools.Pool.{Pool}
use Rattle.verdict_text.specs.ShownName.{shown_name}
use Rattle.verdict_text.specs.Reading.{fault_text}
use Rattle.verdict_text.specs.declared.entity.ReadEntity.{ReadEntity}
use Rattle.verdict_text.specs.declared.reading.Rules.{Rules}
use Rattle.verdict_text.specs.declared.reading.Rules.TheVariants as rules
use Rattle.audit_text.specs.Reached.{AreReached, is_alike, is_first, label, members}
use Rattle.audit_text.specs.Words.{cell_word}
use Rattle.audit_text.specs.declared.lines.Line.{Line}
use Rattle.audit_text.specs.declared.reached.Reached.{Reached}

-- ---- lines: a label, and a word for each pool

abbrev pub pool_word : Pool → List ℕ
pool_word pool = shown_name pool.name

abbrev pub head_line : List Pool → Line
head_line pools = record { label = codes "entity"; words = map pool_word pools }

abbrev pub row_line : List Reached → Reached → Line
row_line all one = record { label = label (string_bytes one.entity.now.name) (length (members all one)); words = map cell_word one.cells.items }

-- a line for each entity that stands first in its row
abbrev pub row_lines : List Reached → List Reached → List Line
row_lines all some = map (row_line all) (filter (is_first all) some)

abbrev pub lines : List Pool → List Reached → List Line
lines pools all = head_line pools ∷ row_lines all all

-- ---- columns

-- the longest word of a cell has 6 letters and brackets
abbrev pub column_width : Pool → ℕ
column_width pool = max (length (shown_name pool.name)) 6

-- a word behind two blanks, at the right of its column
abbrev pub aligned : ℕ → List ℕ → List ℕ
aligned width word = codes "  " ++ (replicate (width - length word) 32 ++ word)

abbrev pub aligned_words : List ℕ → List (List ℕ) → List ℕ
aligned_words [] words = []
aligned_words (width ∷ widths) [] = []
aligned_words (width ∷ widths) (word ∷ words) = aligned width word ++ aligned_words widths words

-- a label at the left of its column
abbrev pub padded : ℕ → List ℕ → List ℕ
padded width text = text ++ replicate (width - length text) 32

-- the columns from one on before another, of one line
abbrev pub part_line : ℕ → List ℕ → ℕ → ℕ → Line → List ℕ
part_line width widths from to line =
    padded width line.label ++ (aligned_words (slice_range widths from to) (slice_range line.words from to) ++ codes "\n")

-- of all lines, and an empty line
abbrev pub block : ℕ → List ℕ → List Line → ℕ → ℕ → List ℕ
block width widths lines from to = flat_map (part_line width widths from to) lines ++ codes "\n"

-- the blocks up to each of these columns
abbrev pub blocks : ℕ → List ℕ → List Line → ℕ → List ℕ → List ℕ
blocks width widths lines from [] = []
blocks width widths lines from (to ∷ ends) = block width widths lines from to ++ blocks width widths lines to ends

-- the width of some columns
abbrev pub total : List ℕ → ℕ
total widths = sum_by (λ width. width + 2) widths

-- columns fit into a room, or it is one alone
pub record IsPart (widths : List ℕ) (room from to : ℕ) : Type 0 where
  pub rises : from < to
  pub within : to ≤ length widths
  pub fits : (total (slice_range widths from to) ≤ room) ⊎ (to ≡ from + 1)

-- parts of the columns, one behind another, up to a column
abbrev pub AreParts : List ℕ → ℕ → ℕ → List ℕ → ℕ → Type 0
AreParts widths room from [] last = from ≡ last
AreParts widths room from (to ∷ ends) last = IsPart widths room from to × AreParts widths room to ends last

-- the longest label
abbrev pub label_width : List Line → ℕ
label_width [] = 0
label_width (line ∷ lines) = max (length line.label) (label_width lines)

abbrev pub IsRoomBehind : ℕ → ℕ → Option ℕ → Type 0
IsRoomBehind room width None = room < width + 2
IsRoomBehind room width (Some left) = left + (width + 2) ≡ room

abbrev pub widths_of : List Pool → List ℕ
widths_of pools = map column_width pools

-- The lines in blocks of columns, each of which fits into the width or has one column; no column is missing.
abbrev pub IsMatrix : ℕ → List Pool → List Line → List ℕ → List ℕ → Type 0
IsMatrix width pools lines before text =
    (ends : List ℕ) × AreParts (widths_of pools) (width - label_width lines) 0 ends (length pools)
    × (text ≡ before ++ blocks (label_width lines) (widths_of pools) lines 0 ends)
