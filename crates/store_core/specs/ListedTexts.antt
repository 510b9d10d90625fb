-- Refinement: only contracts inside the crate use it.
-- How the names of a listing piece are collected: as a set of texts.
use Rattle.std.specs.Prelude.{List, [], ◌∷◌, ℕ, Bool, if◌then◌else◌, map, String, string_bytes}
use Rattle.std.specs.FinSet as set
use Rattle.std.specs.FinMap.{FinMap, from_entries, insert}
use Rattle.std.specs.Coded.{Coded, coded_list, coded_ℕ}
use Rattle.std.specs.declared.alloc.Global.{Global}
use Rattle.store_core.specs.Store.{ObjectName, bytes_cmp}

-- a set of texts: a map with nothing at each
abbrev pub Texts : Type 0
Texts = FinMap bytes_cmp (Unit {0})

abbrev pub texts_code : Coded Texts
texts_code = set.code (coded_list coded_ℕ)

abbrev pub marked_text : List ℕ → List ℕ × Unit {0}
marked_text text = (text, tt)

abbrev pub with_text : Texts → List ℕ → Texts
with_text texts text = insert texts text tt

abbrev pub texts_of : List (String Global) → Texts
texts_of texts = from_entries (map (λ t. marked_text (string_bytes t)) texts)

-- the set with the names that a piece lists, one after another
abbrev pub collected : (ObjectName → Bool) → Texts → List ObjectName → Texts
collected is_listed texts [] = texts
collected is_listed texts (n ∷ ns) = collected is_listed (if is_listed n then with_text texts n.name else texts) ns
