-- What a group decides hangs on its own objects alone.
use Rattle.std.proofs.Common.{◌≡◌, ℕ, List, [], ◌∷◌, Bool, true, false, ◌&&◌, ◌==◌, cond, Option, None, map, refl, sym, ap, subst, ◌∙◌}
use Rattle.std.specs.List.{filter}
use Rattle.std.specs.Str.{bytes_eq}
use Rattle.std.specs.declared.cmp.Ordering.TheVariants.{Equal}
use Rattle.std.specs.FinMap.{get, keys, entries, entries_sorted, get-entries}
use Rattle.std.specs.FinMap.Entries.{find, where_key, is_sorted-where_key, find-where_key, same_entries}
use Rattle.std.specs.Cmp.{unsigned_Decides}
use Rattle.std.proofs.lemmas.Slice.Eq.{bytes_eq-Decides}
use Rattle.place_core.specs.Placement.{group_of}
use Rattle.object_core.specs.Content.{Content}
use Rattle.object_core.specs.Effect.{effect}
use Rattle.store_core.specs.Request.{Sealed, Work, Vector, Listing, object_of}
use Rattle.store_core.specs.Store.{Store, ObjectName, name_cmp}
use Rattle.store_core.specs.Names.{name_cmp_total, same_names}
use Rattle.store_core.specs.Deciding.{Answer, name_of, ran, is_listed, names_in, answered, performed, answer_on, with_answer, is_allowed_sealed}
use Rattle.store_core.specs.declared.reply.Reply.TheVariants.{Names}
use Rattle.entry_core.specs.Locality.{group_for, IsIn, AgreeIn, Hashes, IsPlaced, SealedDecideAlike}

bytes_same : (a b : List ℕ) → bytes_eq a b ≡ true → a ≡ b
bytes_same a b h = (bytes_eq-Decides a b).0 h

-- the names that pass a test, where both stores hold the same at each of them
passes : (p : ObjectName → Bool) (q x : ObjectName) → name_cmp q x ≡ Equal → p x ≡ p q
passes p q x e = ap p (sym (same_names q x e))

keys_where : (p : ObjectName → Bool) (es : List (ObjectName × Content)) → map (λ e. e.0) (where_key name_cmp p es) ≡ filter p (map (λ e. e.0) es)
keys_where p [] = refl
keys_where p (e ∷ es) =
    elim (p e.0) as (λ b. map (λ e. e.0) (cond b (e ∷ where_key name_cmp p es) (where_key name_cmp p es)) ≡ cond b (e.0 ∷ filter p (map (λ e. e.0) es)) (filter p (map (λ e. e.0) es))) [
      | true ↦ ap (λ l. e.0 ∷ l) (keys_where p es)
      | false ↦ keys_where p es
    ]

found_alike : (b : Bool) (x y : Option Content) → (b ≡ true → x ≡ y) → cond b x None ≡ cond b y None
found_alike true x y h = h refl
found_alike false x y h = refl

find_alike : (p : ObjectName → Bool) (a b : Store) (q : ObjectName) → (p q ≡ true → get a q ≡ get b q) → find name_cmp q (where_key name_cmp p (entries a)) ≡ find name_cmp q (where_key name_cmp p (entries b))
find_alike p a b q h =
    find-where_key name_cmp p q (passes p q) (entries a)
    ∙ found_alike (p q) (find name_cmp q (entries a)) (find name_cmp q (entries b)) (λ t. sym (get-entries a q) ∙ h t ∙ get-entries b q)
    ∙ sym (find-where_key name_cmp p q (passes p q) (entries b))

same_keys : (p : ObjectName → Bool) (a b : Store) → ((q : ObjectName) → p q ≡ true → get a q ≡ get b q) → filter p (keys a) ≡ filter p (keys b)
same_keys p a b h =
    sym (keys_where p (entries a))
    ∙ ap (map (λ e. e.0)) (same_entries name_cmp name_cmp_total same_names (where_key name_cmp p (entries a)) (where_key name_cmp p (entries b))
    (is_sorted-where_key name_cmp p (entries a) (entries_sorted a)) (is_sorted-where_key name_cmp p (entries b) (entries_sorted b)) (λ q. find_alike p a b q (h q)))
    ∙ keys_where p (entries b)

both_true : (a b : Bool) → (a && b) ≡ true → (a ≡ true) × (b ≡ true)
both_true true b h = (refl, h)
both_true false b h = absurd (cc)

number_same : (a b : ℕ) → (a == b) ≡ true → a ≡ b
number_same a b h = (unsigned_Decides a b).0 h

-- a listed name is one of the group's
listed_is_in : (groups : List ℕ → ℕ) (s : Sealed) (q : ObjectName) → IsPlaced groups s → is_listed s q ≡ true → IsIn groups (group_for s) q
listed_is_in groups s q placed h =
    let outer = both_true (bytes_eq q.pool s.view.pool && bytes_eq q.namespace s.namespace) (group_of q.namespace q.name s.view.pg_num == s.group) h in
    let inner = both_true (bytes_eq q.pool s.view.pool) (bytes_eq q.namespace s.namespace) outer.0 in
    record {
      pool = bytes_same q.pool s.view.pool inner.0;
      hash = ap (λ n. group_of q.namespace q.name n) (sym placed.counts) ∙ number_same (group_of q.namespace q.name s.view.pg_num) s.group outer.1;
    }

names_alike : (groups : List ℕ → ℕ) (s : Sealed) (a b : Store) → IsPlaced groups s → AgreeIn groups (group_for s) a b → names_in a s ≡ names_in b s
unfolding names_in
names_alike groups s a b placed agree = ap (map (λ n. n.name)) (same_keys (is_listed s) a b (λ q h. agree q (listed_is_in groups s q placed h)))

-- the object of a vector is one of the group's
named_in : (groups : List ℕ → ℕ) (s : Sealed) (object : List ℕ) → s.view.pg_num ≡ groups s.view.pool → group_of s.namespace object s.view.pg_num ≡ s.group
    → IsIn groups (group_for s) (record { pool = s.view.pool; namespace = s.namespace; name = object })
named_in groups s object counts hashes = record { pool = refl; hash = ap (λ n. group_of s.namespace object n) (sym counts) ∙ hashes }

performed_alike : (groups : List ℕ → ℕ) (s : Sealed) (a b : Store) → IsPlaced groups s → AgreeIn groups (group_for s) a b → (w : Work) → s.work ≡ w → Hashes s.view.pg_num s.namespace s.group w → performed a s w ≡ performed b s w
performed_alike groups s a b placed agree (Vector object ops) e hashes =
    let P : Work → Type 0 = λ w. IsIn groups (group_for s) (record { pool = s.view.pool; namespace = s.namespace; name = object_of w }) in
    ap (λ o. ran (effect o ops)) (agree (name_of s) (subst P (sym e) (named_in groups s object placed.counts hashes)))
performed_alike groups s a b placed agree Listing e hashes = ap (λ names. answered (Names names)) (names_alike groups s a b placed agree)

pub chosen_alike : (allowed : Bool) (x y denial : Answer) → x ≡ y → cond allowed x denial ≡ cond allowed y denial
chosen_alike true x y denial h = h
chosen_alike false x y denial h = refl

pub sealed_decide_alike : SealedDecideAlike
unfolding answer_on
sealed_decide_alike groups s a b placed agree =
    ap (with_answer s) (chosen_alike (is_allowed_sealed s) _ _ _ (performed_alike groups s a b placed agree s.work refl placed.hashes))
