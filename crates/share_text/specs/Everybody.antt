-- Statement: contracts of public calls use it.
-- What is printed of those who read and write every object of every pool (this project's profile). The line ends with byte 10.
use Rattle.std.specs.Prelude.{ℕ, ◌≡◌, ◌-◌, List, [], ◌∷◌, ◌++◌, codes, decimal, filter, flat_map, if◌then◌else◌, length, map, nat_le, take}
use Rattle.serde_json.specs.Data.{string}
use Rattle.verdict_text.specs.ShownName.{shown_name}
use Rattle.verdict_text.specs.Documents.{list_by, piece}
use Rattle.verdict_text.specs.declared.format.Format.{Format}
use Rattle.verdict_text.specs.declared.format.Format.TheVariants.{Text, Json}
use Rattle.share_text.specs.Tenants.{AreTenants}
use Rattle.share_text.specs.declared.holder.Holder.{Holder}
use Rattle.share_text.specs.declared.tenants.Tenant.{Tenant}

-- their names, in the file's order
abbrev pub everybody : List Tenant → List (List ℕ)
everybody tenants = map (λ tenant. tenant.name.now) (filter (λ tenant. tenant.everywhere) tenants)

-- names behind these words, and behind commas from the second one on
abbrev pub listed : List ℕ → List (List ℕ) → List ℕ
listed words [] = []
listed words (name ∷ names) = words ++ (shown_name name ++ listed (codes ", ") names)

-- how many names more there are than three
abbrev pub more : ℕ → List ℕ
more count = if nat_le count 3 then [] else codes " and " ++ (decimal (count - 3) ++ codes " more")

-- what they do
abbrev pub doing : ℕ → List ℕ
doing count =
    if nat_le count 1 then codes " reads and writes every object of every pool, its pairs are left out\n"
    else codes " read and write every object of every pool, their pairs are left out\n"

-- the first three names, how many more there are, and what they do; no line of no names
abbrev pub everybody_line : List (List ℕ) → List ℕ
everybody_line names =
    if nat_le (length names) 0 then [] else listed [] (take 3 names) ++ (more (length names) ++ doing (length names))

-- the same as a text or as a document, which has each name
abbrev pub everybody_by : Format → List (List ℕ) → List ℕ
everybody_by Text names = everybody_line names
everybody_by Json names = list_by (codes "everybody") Json (flat_map (λ name. piece (string name)) names)

-- what is printed of some entities
abbrev pub IsEverybodyTold : Format → List Holder → List ℕ → Type 0
IsEverybodyTold format entities text = (tenants : List Tenant) × AreTenants entities tenants × (text ≡ everybody_by format (everybody tenants))
