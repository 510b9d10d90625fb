-- The hash map of objects, seen as the store.
use Rattle.std.proofs.Common.{◌≡◌, [], ◌∷◌, Bool, true, false, cond, Option, Some, None, map, refl, sym, ap, ◌∙◌}
use Rattle.std.specs.Arc.{arc_value}
use Rattle.std.specs.Option.{option_map, option_copied}
use Rattle.std.specs.List.{AllZip}
use Rattle.std.specs.Map.{lookup}
use Rattle.std.specs.Borrow.{Bor}
use Rattle.std.specs.FinMap.{from_entries, get, insert, remove, find, get-from_entries, get-insert, get-remove, same_map}
use Rattle.std.specs.Ordering.{eq_by_cmp}
use Rattle.std.specs.declared.alloc.Global.{Global}
use Rattle.std.specs.declared.sync.Arc.{Arc}
use Rattle.object_core.specs.Content.{Content}
use Rattle.store_core.specs.Store.{Store, ObjectName, name_cmp, with_object}
use Rattle.store_core.specs.Names.{name_cmp_total, same_names, is_same, is_same-ties, is_same_equiv, same_from_is_same}
use Rattle.store_core.specs.Objects.{StoredObjects, objects_of}

mapped_by : (b c : Bool) (a : Arc Content Global) (x : Option Content) (y : Option (Arc Content Global)) → b ≡ c → x ≡ option_map arc_value y → cond b (Some (arc_value a)) x ≡ option_map arc_value (cond c (Some a) y)
mapped_by b true a x y e h = ap (λ t. cond t (Some (arc_value a)) x) e
mapped_by b false a x y e h = ap (λ t. cond t (Some (arc_value a)) x) e ∙ h

find-lookup : (es : StoredObjects) (q : ObjectName) → find name_cmp q (map (λ e. (e.0, arc_value e.1)) es) ≡ option_map arc_value (lookup (is_same q) es)
find-lookup [] q = refl
find-lookup (e ∷ es) q = mapped_by (eq_by_cmp name_cmp q e.0) (is_same q e.0) e.1 _ _ (sym (is_same-ties q e.0)) (find-lookup es q)

-- a look-up in the store is one in the hash map
pub get-objects_of : (es : StoredObjects) (q : ObjectName) → get (objects_of es) q ≡ option_map arc_value (lookup (is_same q) es)
get-objects_of es q = get-from_entries name_cmp_total _ q ∙ find-lookup es q

changed_by : (b c : Bool) (o p : Option (Arc Content Global)) (w : Option Content) → c ≡ b → option_map arc_value o ≡ w → option_map arc_value (cond b o p) ≡ cond c w (option_map arc_value p)
changed_by true c o p w e h = h ∙ ap (λ t. cond t w (option_map arc_value p)) (sym e)
changed_by false c o p w e h = ap (λ t. cond t w (option_map arc_value p)) (sym e)

-- what a change of the hash map at one name does to the store at each name
after_change : (es fs : StoredObjects) (k : ObjectName) (o : Option (Arc Content Global)) (w : Option Content) (q : ObjectName) → option_map arc_value o ≡ w → lookup (is_same q) fs ≡ cond (is_same k q) o (lookup (is_same q) es)
    → get (objects_of fs) q ≡ cond (eq_by_cmp name_cmp q k) w (get (objects_of es) q)
after_change es fs k o w q h is =
    get-objects_of fs q ∙ ap (option_map arc_value) is ∙ changed_by (is_same k q) (eq_by_cmp name_cmp q k) o (lookup (is_same q) es) w (sym (is_same-ties q k) ∙ is_same_equiv.symm q k) h
    ∙ ap (cond (eq_by_cmp name_cmp q k) w) (sym (get-objects_of es q))

pub after_insert : (es fs : StoredObjects) (k : ObjectName) (a : Arc Content Global) → ((q : ObjectName) → lookup (is_same q) fs ≡ cond (is_same k q) (Some a) (lookup (is_same q) es)) → objects_of fs ≡ insert (objects_of es) k (arc_value a)
after_insert es fs k a h = same_map name_cmp_total same_names _ _ (λ q. after_change es fs k (Some a) (Some (arc_value a)) q refl (h q) ∙ sym (get-insert name_cmp_total (objects_of es) k (arc_value a) q))

pub after_remove : (es fs : StoredObjects) (k : ObjectName) → ((q : ObjectName) → lookup (is_same q) fs ≡ cond (is_same k q) None (lookup (is_same q) es)) → objects_of fs ≡ remove (objects_of es) k
after_remove es fs k h = same_map name_cmp_total same_names _ _ (λ q. after_change es fs k None None q refl (h q) ∙ sym (get-remove name_cmp_total (objects_of es) k q))

pub same_objects : (es fs : StoredObjects) → ((q : ObjectName) → lookup (is_same q) fs ≡ lookup (is_same q) es) → objects_of fs ≡ objects_of es
same_objects es fs h = same_map name_cmp_total same_names _ _ (λ q. get-objects_of fs q ∙ ap (option_map arc_value) (h q) ∙ sym (get-objects_of es q))

-- what a look-up lends
pub copied : (r : Option (Bor (Arc Content Global))) → option_map (λ a. arc_value a.now) r ≡ option_map arc_value (option_copied r)
copied None = refl
copied (Some a) = refl

-- a clone of the hash map stands for the same store
abbrev pair : ObjectName × Arc Content Global → ObjectName × Content
pair e = (e.0, arc_value e.1)

same_pairs : (es fs : StoredObjects) → AllZip (λ p q. (q.0 ≡ p.0) × (arc_value q.1 ≡ arc_value p.1)) es fs → map pair fs ≡ map pair es
same_pairs [] [] h = refl
same_pairs [] (f ∷ fs) h = absurd h
same_pairs (e ∷ es) [] h = absurd h
same_pairs (e ∷ es) (f ∷ fs) h = λ i. (h.0.0 i, h.0.1 i) ∷ same_pairs es fs h.1 i

pub after_clone : (es fs : StoredObjects) → AllZip (λ p q. (q.0 ≡ p.0) × (arc_value q.1 ≡ arc_value p.1)) es fs → objects_of fs ≡ objects_of es
after_clone es fs h = ap from_entries (same_pairs es fs h)

-- what stands at each name after a change of one object
pub get-with_object : (store : Store) (k q : ObjectName) (o : Option Content) → get (with_object store k o) q ≡ cond (eq_by_cmp name_cmp q k) o (get store q)
get-with_object store k q (Some c) = get-insert name_cmp_total store k c q
get-with_object store k q None = get-remove name_cmp_total store k q

there_again : (b : Bool) (store : Store) (k q : ObjectName) (w o : Option Content) → eq_by_cmp name_cmp q k ≡ b → o ≡ get store k → cond b o (cond b w (get store q)) ≡ get store q
there_again true store k q w o tied h = h ∙ ap (get store) (sym (same_from_is_same q k (is_same-ties q k ∙ tied)))
there_again false store k q w o tied h = refl

-- the object that was there before, put again, gives the store that was there before
pub put_again : (store store' : Store) (k : ObjectName) (w o : Option Content) → store' ≡ with_object store k w → o ≡ get store k → with_object store' k o ≡ store
put_again store store' k w o is h =
    ap (λ s. with_object s k o) is
    ∙ same_map name_cmp_total same_names _ _
    (λ q. get-with_object (with_object store k w) k q o ∙ ap (cond (eq_by_cmp name_cmp q k) o) (get-with_object store k q w) ∙ there_again (eq_by_cmp name_cmp q k) store k q w o refl h)
