-- Statement: contracts of public calls use it.
-- What is printed of an audit as a text: under which rules it holds, the matrix, and lists below it (this project's profile).
use Rattle.std.specs.Prelude.{ℕ, ◌≡◌, ◌+◌, ◌==◌, List, [], ◌∷◌, ◌++◌, Bool, true, false, not, ◌&&◌, ◌||◌, Option, None, Some, Result, Ok, Err, codes, flat_map, length, nat_le, string_bytes, if◌then◌else◌}
use Rattle.std.specs.List.{list_all, slice_get}
use Rattle.std.specs.Option.{option_map_or}
use Rattle.audit_core.specs.declared.cell.Cell.{Cell}
use Rattle.audit_core.specs.declared.cell.Extent.{Extent}
use Rattle.audit_core.specs.declared.cell.Extent.TheVariants.{Nothing, Part, Whole}
use Rattle.rights_core.specs.Rights.{Rights}
use Rattle.share_core.specs.declared.pools.Pool.{Pool}
use Rattle.verdict_text.specs.ShownName.{shown_name}
use Rattle.verdict_text.specs.Reading.{fault_text}
use Rattle.verdict_text.specs.declared.entity.ReadEntity.{ReadEntity}
use Rattle.verdict_text.specs.declared.reading.Rules.{Rules}
use Rattle.verdict_text.specs.declared.reading.Rules.TheVariants as by
use Rattle.verdict_text.specs.declared.reading.TextFault.{TextFault}
use Rattle.audit_text.specs.Matrix.{IsMatrix, lines}
use Rattle.audit_text.specs.Reached.{AreReached, is_first, label, members}
use Rattle.audit_text.specs.declared.reached.Reached.{Reached}

abbrev pub rules_words : Rules → List ℕ
rules_words by.Ceph = codes "By the rules of Ceph 16.2.15"
rules_words by.Project = codes "By this project's rules"

-- the lines above the matrix
abbrev pub head : Rules → List ℕ
head rules =
    rules_words rules ++ codes ". These are osd capabilities alone: what an entity\nmay ask of mon, mgr and mds is not looked at.\nr reads, w writes, l lists, x calls methods of listed classes: plain where every\nobject of every namespace, in brackets where some. * is every request, - none.\n\n"

-- a title with the lines below it, or with the word none where no line follows
abbrev pub section : List ℕ → List ℕ → List ℕ
section title [] = title ++ codes ": none\n"
section title (byte ∷ bytes) = title ++ (codes ":\n" ++ (byte ∷ bytes))

-- an entity whose text is refused, and the fault
abbrev pub unread_line : ReadEntity → Result Rights TextFault → List ℕ
unread_line entity (Ok rights) = []
unread_line entity (Err fault) = codes "  " ++ (shown_name (string_bytes entity.name) ++ (codes " " ++ (fault_text fault ++ codes "\n")))

abbrev pub unread_lines : List ReadEntity → List ℕ
unread_lines entities = flat_map (λ entity. unread_line entity entity.osd.read) entities

abbrev pub is_something : Extent → Bool
is_something Nothing = false
is_something Part = true
is_something Whole = true

-- there are cells, and each has a letter
abbrev pub is_everywhere : List Cell → Bool
is_everywhere cells = not (length cells == 0) && list_all (λ cell. is_something cell.any) cells

abbrev pub row_label : List Reached → Reached → List ℕ
row_label all one = label (string_bytes one.entity.now.name) (length (members all one))

abbrev pub everywhere_line : List Reached → Reached → List ℕ
everywhere_line all one = if is_first all one && is_everywhere one.cells.items then codes "  " ++ (row_label all one ++ codes "\n") else []

abbrev pub everywhere_lines : List Reached → List ℕ
everywhere_lines all = flat_map (everywhere_line all) all

-- a write, or a call, which may write too
abbrev pub may_write : Cell → Bool
may_write cell = is_something cell.write || is_something cell.call

-- nobody may write in the pool of this number

abbrev pub leaves_unwritten : ℕ → Reached → Bool
leaves_unwritten number one = option_map_or (λ cell. not (may_write cell)) (slice_get one.cells.items number) true

abbrev pub is_unwritten : List Reached → ℕ → Bool
is_unwritten all number = list_all (leaves_unwritten number) all

abbrev pub unwritten_line : List Reached → ℕ → Pool → List ℕ
unwritten_line all number pool = if is_unwritten all number then codes "  " ++ (shown_name pool.name ++ codes "\n") else []

abbrev pub unwritten_lines : List Reached → ℕ → List Pool → List ℕ
unwritten_lines all number [] = []
unwritten_lines all number (pool ∷ pools) = unwritten_line all number pool ++ unwritten_lines all (number + 1) pools

abbrev pub member_name : Reached → List ℕ
member_name one = codes " " ++ shown_name (string_bytes one.entity.now.name)

-- the names in a row, if it has several
abbrev pub member_line : List Reached → Reached → List ℕ
member_line all one =
    if is_first all one && not (nat_le (length (members all one)) 1)
    then codes "  " ++ (row_label all one ++ (codes ":" ++ (flat_map member_name (members all one) ++ codes "\n")))
    else []

abbrev pub member_lines : List Reached → List ℕ
member_lines all = flat_map (member_line all) all

-- the lists below the matrix
abbrev pub lists : List ReadEntity → List Pool → List Reached → List ℕ
lists entities pools all =
    section (codes "Not checked, so that they may reach more") (unread_lines entities)
    ++ (section (codes "Entities that reach every pool") (everywhere_lines all)
    ++ (section (codes "Pools where no checked entity may write or call") (unwritten_lines all 0 pools)
    ++ section (codes "Rows of several entities") (member_lines all)))

-- what is printed
abbrev pub IsReport : Rules → ℕ → List ReadEntity → List Pool → List ℕ → Type 0
IsReport rules width entities pools text =
    (all : List Reached) × (front : List ℕ) × AreReached entities pools all
    × IsMatrix width pools (lines pools all) (head rules) front × (text ≡ front ++ lists entities pools all)
