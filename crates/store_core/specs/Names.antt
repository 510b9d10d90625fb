-- Statement: contracts of public calls use it.
-- The order of names is total, and tells different names apart.
use Rattle.std.specs.Prelude.{◌≡◌, ℕ, Bool, true, ◌&&◌, ◌==◌, ◌++◌, T}
use Rattle.std.proofs.Common.{refl, ap, sym, subst, ◌∙◌}
use Rattle.std.specs.Cmp.{IsTotalOrder, IsEquivalence, then_total, on_total, and_equiv, both_tied, unsigned_Decides}
use Rattle.std.specs.Cmp.Lexicographic.{nat_list_cmp_total, texts_ties, on_texts_equal}
use Rattle.std.specs.Str.{bytes_eq}
use Rattle.std.specs.Ordering.{eq_by_cmp, is_eq, ordering_then}
use Rattle.std.specs.FinMap.{IsAntisymmetric, slice_cmp-IsAntisymmetric, nat_cmp-IsAntisymmetric}
use Rattle.std.specs.declared.cmp.Ordering.{Ordering}
use Rattle.std.specs.declared.cmp.Ordering.TheVariants.{Less, Equal, Greater}
use Rattle.std.specs.Hash as fed
use Rattle.store_core.specs.Store.{ObjectName, bytes_cmp, name_cmp}

pub name_cmp_total : IsTotalOrder name_cmp
name_cmp_total = then_total (on_total (λ (n : ObjectName). n.pool) nat_list_cmp_total) (then_total (on_total (λ (n : ObjectName). n.namespace) nat_list_cmp_total) (on_total (λ (n : ObjectName). n.name) nat_list_cmp_total))

-- whether two names are the same
abbrev pub is_same : ObjectName → ObjectName → Bool
is_same a b = bytes_eq a.pool b.pool && (bytes_eq a.namespace b.namespace && bytes_eq a.name b.name)

pub is_same-ties : (a b : ObjectName) → is_same a b ≡ eq_by_cmp name_cmp a b
is_same-ties a b =
    both_tied _ _ (bytes_cmp a.pool b.pool) _ (texts_ties a.pool b.pool)
    (both_tied _ _ (bytes_cmp a.namespace b.namespace) (bytes_cmp a.name b.name) (texts_ties a.namespace b.namespace) (texts_ties a.name b.name))

pub is_same_equiv : IsEquivalence is_same
is_same_equiv = and_equiv (on_texts_equal (λ (n : ObjectName). n.pool)) (and_equiv (on_texts_equal (λ (n : ObjectName). n.namespace)) (on_texts_equal (λ (n : ObjectName). n.name)))

-- what a name is hashed by
abbrev pub hash_of : ObjectName → fed.HashWrites
hash_of n = fed.str n.pool ++ fed.str n.namespace ++ fed.str n.name

then_equal : (a b : Ordering) → ordering_then a b ≡ Equal → (a ≡ Equal) × (b ≡ Equal)
then_equal Less b e = absurd (subst (λ o. T (is_eq o)) (sym e) tt)
then_equal Equal b e = (refl, e)
then_equal Greater b e = absurd (subst (λ o. T (is_eq o)) (sym e) tt)

pub same_names : IsAntisymmetric name_cmp
same_names a b e =
    let outer : (bytes_cmp a.pool b.pool ≡ Equal) × (ordering_then (bytes_cmp a.namespace b.namespace) (bytes_cmp a.name b.name) ≡ Equal) = then_equal _ _ e in
    let inner : (bytes_cmp a.namespace b.namespace ≡ Equal) × (bytes_cmp a.name b.name ≡ Equal) = then_equal _ _ outer.1 in
    let pool : a.pool ≡ b.pool = slice_cmp-IsAntisymmetric nat_cmp-IsAntisymmetric a.pool b.pool outer.0 in
    let namespace : a.namespace ≡ b.namespace = slice_cmp-IsAntisymmetric nat_cmp-IsAntisymmetric a.namespace b.namespace inner.0 in
    let name : a.name ≡ b.name = slice_cmp-IsAntisymmetric nat_cmp-IsAntisymmetric a.name b.name inner.1 in
    λ i. record { pool = pool i; namespace = namespace i; name = name i }

equal_by : (o : Ordering) → is_eq o ≡ true → o ≡ Equal
equal_by Less h = absurd (subst T (sym h) tt)
equal_by Equal h = refl
equal_by Greater h = absurd (subst T (sym h) tt)

pub same_from_is_same : (a b : ObjectName) → is_same a b ≡ true → a ≡ b
same_from_is_same a b h = same_names a b (equal_by (name_cmp a b) (sym (is_same-ties a b) ∙ h))

pub hashes_alike : (a b : ObjectName) → is_same a b ≡ true → hash_of a ≡ hash_of b
hashes_alike a b h = ap hash_of (same_from_is_same a b h)

-- equal numbers are hashed alike
pub id_hashes_alike : (a b : ℕ) → (a == b) ≡ true → fed.u64 a ≡ fed.u64 b
id_hashes_alike a b h = ap fed.u64 ((unsigned_Decides a b).0 h)
