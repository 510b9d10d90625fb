-- Names in a tree, as the list of them in the order of their bytes.
use Rattle.std.proofs.Common.{◌≡◌, ◌∙◌, ℕ, List, [], ◌∷◌, ◌++◌, String, string_bytes, map, refl, sym, ap, append-nil}
use Rattle.std.specs.BTreeSet.{insert_key}
use Rattle.std.specs.Ordering.{match_ordering}
use Rattle.std.specs.declared.alloc.Global.{Global}
use Rattle.std.specs.declared.cmp.Ordering.{Ordering}
use Rattle.std.specs.declared.cmp.Ordering.TheVariants.{Less, Equal, Greater}
use Rattle.store_core.specs.Store.{bytes_cmp}

abbrev texts_cmp : String Global → String Global → Ordering
texts_cmp a b = bytes_cmp (string_bytes a) (string_bytes b)

pub text_added : (xs ys : List (String Global)) (k : String Global) → ys ≡ insert_key texts_cmp xs k → map string_bytes ys ≡ insert_key bytes_cmp (map string_bytes xs) (string_bytes k)
text_added xs ys k h = ap (map string_bytes) h ∙ go xs
  where
    by : (o : Ordering) (x : String Global) (xs rest : List (String Global)) (ks : List (List ℕ)) → map string_bytes rest ≡ ks
        → map string_bytes (match_ordering o (k ∷ x ∷ xs) (x ∷ xs) (x ∷ rest)) ≡ match_ordering o (string_bytes k ∷ string_bytes x ∷ map string_bytes xs) (string_bytes x ∷ map string_bytes xs) (string_bytes x ∷ ks)
    by Less x xs rest ks is = refl
    by Equal x xs rest ks is = refl
    by Greater x xs rest ks is = ap (λ l. string_bytes x ∷ l) is

    go : (xs : List (String Global)) → map string_bytes (insert_key texts_cmp xs k) ≡ insert_key bytes_cmp (map string_bytes xs) (string_bytes k)
    go [] = refl
    go (x ∷ xs) = by (texts_cmp k x) x xs _ _ (go xs)

-- the texts that were read, once none is left
pub all_texts : (front : List (List ℕ)) (rest start xs : List (String Global)) → rest ≡ [] → front ++ map string_bytes rest ≡ map string_bytes start → start ≡ xs → front ≡ map string_bytes xs
all_texts front rest start xs none read is = sym (append-nil front) ∙ ap (λ r. front ++ map string_bytes r) (sym none) ∙ read ∙ ap (map string_bytes) is
