-- Statement: contracts of public calls use it.
-- What is printed of some entities and some requests: a table, with a row for each entity and in it an answer to each request
-- (this project's profile).
use Rattle.std.specs.Prelude.{ℕ, zero, suc, ◌≡◌, ◌-◌, List, [], ◌∷◌, ◌++◌, Result, Ok, Err, codes, decimal, flat_map, length, max, replicate, string_bytes}
use Rattle.verdict_text.specs.Answer.{IsAnswerOf}
use Rattle.verdict_text.specs.Asked.{Asked}
use Rattle.verdict_text.specs.ShownName.{shown_name}
use Rattle.verdict_text.specs.Reading.{Reading, first_word}
use Rattle.who_text.specs.Who.{AreInOrder}
use Rattle.verdict_text.specs.Documents.{entities_by, piece, row_document}
use Rattle.verdict_text.specs.Text.{fault_text}
use Rattle.verdict_text.specs.declared.entity.ReadEntity.{ReadEntity}
use Rattle.verdict_text.specs.declared.format.Format.{Format}
use Rattle.verdict_text.specs.declared.format.Format.TheVariants.{Text, Json}
use Rattle.verdict_text.specs.declared.verdict.Verdict.{Verdict}
use Rattle.verdict_text.specs.declared.verdict.Verdict.TheVariants.{Allowed, Denied, Depends}
use Rattle.verdict_text.specs.declared.verdict.VerdictFault.{VerdictFault}

-- ---- columns: a name's is as wide as the longest name, an answer's as the longest word

-- the largest of a width and those of the names of some entities
abbrev pub widest : ℕ → List ReadEntity → ℕ
widest width [] = width
widest width (entity ∷ entities) = widest (max (length (shown_name (string_bytes entity.name))) width) entities

abbrev pub name_width : List ReadEntity → ℕ
name_width entities = widest (length (codes "entity")) entities

-- a name at the left of its column
abbrev pub padded : ℕ → List ℕ → List ℕ
padded width text = text ++ replicate (width - length text) 32

-- a word behind two blanks, at the right of its column, where `depends` is the longest
abbrev pub aligned : List ℕ → List ℕ
aligned word = codes "  " ++ (replicate (7 - length word) 32 ++ word)

-- an answer's word, or its fault's number
abbrev pub cell : Result Verdict VerdictFault → List ℕ
cell (Ok Allowed) = aligned (codes "allow")
cell (Ok (Denied report)) = aligned (codes "deny")
cell (Ok (Depends allowed denied)) = aligned (codes "depends")
cell (Err fault) = aligned (first_word (fault_text fault))

abbrev pub row_line : ℕ → List ℕ → List (Result Verdict VerdictFault) → List ℕ
row_line width name answers = padded width (shown_name name) ++ (flat_map cell answers ++ codes "\n")

abbrev pub row_by : Format → ℕ → List ℕ → List (Result Verdict VerdictFault) → List ℕ
row_by Text width name answers = row_line width name answers
row_by Json width name answers = piece (row_document name answers)

-- the answers of a text that was read to some requests, in order
abbrev pub AreAnswers : Reading → List Asked → List (Result Verdict VerdictFault) → Type 0
AreAnswers read [] answers = answers ≡ []
AreAnswers read (asked ∷ requests) answers =
    (answer : Result Verdict VerdictFault) × (rest : List (Result Verdict VerdictFault)) × IsAnswerOf read asked answer × AreAnswers read requests rest
    × (answers ≡ answer ∷ rest)

-- the row of a text that was read, behind a name
abbrev pub IsRowBy : Format → ℕ → Reading → List Asked → List ℕ → List ℕ → Type 0
IsRowBy format width read requests name text =
    (answers : List (Result Verdict VerdictFault)) × AreAnswers read requests answers × (text ≡ row_by format width name answers)

-- an entity's row
abbrev pub IsRow : Format → ℕ → List Asked → ReadEntity → List ℕ → Type 0
IsRow format width requests entity text = IsRowBy format width entity.osd.read requests (string_bytes entity.name) text

-- the numbers from 1 on, each in its column
abbrev pub numbers_to : ℕ → List ℕ
numbers_to zero = []
numbers_to (suc n) = numbers_to n ++ aligned (decimal (suc n))

-- in front of the rows stands a line that numbers the requests
abbrev pub head_line : ℕ → ℕ → List ℕ
head_line width count = padded width (codes "entity") ++ (numbers_to count ++ codes "\n")

abbrev pub table_by : Format → ℕ → ℕ → List ℕ → List ℕ
table_by Text width count rows = head_line width count ++ rows
table_by Json width count rows = entities_by Json rows

-- the whole table
abbrev pub IsTable : Format → List ReadEntity → List Asked → List ℕ → Type 0
IsTable format entities requests text =
    (rows : List ℕ) × AreInOrder (IsRow format (name_width entities) requests) entities rows
    × (text ≡ table_by format (name_width entities) (length requests) rows)
