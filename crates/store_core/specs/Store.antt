-- Statement: contracts of public calls use it.
-- The objects of a store, a finite map from their names to what they hold.
use Rattle.std.specs.Prelude.{ℕ, List, Option, Some, None, refl}
use Rattle.std.specs.Coded.{Coded, code_by, coded×, coded_list, coded_ℕ}
use Rattle.std.specs.Ordering.{nat_cmp, then_cmp, on}
use Rattle.std.specs.declared.cmp.Ordering.{Ordering}
use Rattle.std.specs.Cmp.Lexicographic.{slice_cmp}
use Rattle.std.specs.FinMap.{FinMap, code, insert, remove}
use Rattle.object_core.specs.Content.{Content}

-- where an object is: its pool, its namespace and its name there
pub record ObjectName : Type 0 where
  pub pool : List ℕ
  pub namespace : List ℕ
  pub name : List ℕ

abbrev pub bytes_cmp : List ℕ → List ℕ → Ordering
bytes_cmp = slice_cmp nat_cmp

-- by their pools, then by their namespaces, then by their names, each by bytes
abbrev pub name_cmp : ObjectName → ObjectName → Ordering
name_cmp = then_cmp (on (λ n. n.pool) bytes_cmp) (then_cmp (on (λ n. n.namespace) bytes_cmp) (on (λ n. n.name) bytes_cmp))

abbrev pub Store : Type 0
Store = FinMap name_cmp Content

-- the store with this object, or without it
abbrev pub with_object : Store → ObjectName → Option Content → Store
with_object store name (Some object) = insert store name object
with_object store name None = remove store name

-- how names and stores are stored, for the types whose values they are
abbrev pub name_code : Coded ObjectName
name_code =
    code_by (List ℕ × (List ℕ × List ℕ)) (coded× (coded_list coded_ℕ) (coded× (coded_list coded_ℕ) (coded_list coded_ℕ)))
    (λ n. (n.pool, (n.namespace, n.name))) (λ p. record { pool = p.0; namespace = p.1.0; name = p.1.1 }) (λ _. refl)

abbrev pub content_code : Coded Content
content_code =
    code_by (List ℕ × List (List ℕ × List ℕ)) (coded× (coded_list coded_ℕ) (coded_list (coded× (coded_list coded_ℕ) (coded_list coded_ℕ))))
    (λ c. (c.bytes, c.attributes)) (λ p. record { bytes = p.0; attributes = p.1 }) (λ _. refl)

abbrev pub store_code : Coded Store
store_code = code name_code content_code
