-- Entries of different groups touch different objects: what is legal in each group is legal among all.
use Rattle.std.proofs.Common.{◌≡◌, ℕ, List, [], ◌∷◌, ◌++◌, Bool, true, false, ◌&&◌, ◌||◌, ◌==◌, cond, Some, None, refl, sym, ap, subst, ◌∙◌, append-nil}
use Rattle.std.specs.Str.{bytes_eq}
use Rattle.std.specs.FinMap.{get, get-insert, get-remove}
use Rattle.std.specs.Ordering.{eq_by_cmp}
use Rattle.std.specs.Cmp.{unsigned_Decides}
use Rattle.std.proofs.lemmas.List.Elements.{filter-append}
use Rattle.std.proofs.lemmas.Slice.Eq.{bytes_eq-Decides}
use Rattle.place_core.specs.Placement.{group_of}
use Rattle.object_core.specs.declared.outcome.Change.{Change}
use Rattle.object_core.specs.declared.outcome.Change.TheVariants.{Kept, Became}
use Rattle.store_core.specs.Request.{Sealed, Work, Vector, Listing, object_of}
use Rattle.store_core.specs.Store.{Store, ObjectName, name_cmp}
use Rattle.store_core.specs.Names.{name_cmp_total}
use Rattle.store_core.specs.Deciding.{store_of, name_of, decision_on, stepped}
use Rattle.store_core.specs.Objects.{changed}
use Rattle.entry_core.specs.Log.{LegalFrom, decide, ids, is_in}
use Rattle.store_core.specs.declared.entry.Entry.{Entry}
use Rattle.store_core.specs.declared.sealed.GroupId.{GroupId}
use Rattle.group_model_whole.specs.Each.{Each}
use Rattle.group_model_whole.specs.Group.{submitted}
use Rattle.group_model_whole.specs.Asked.{IsAsked}
use Rattle.entry_core.proofs.Lawful.{store_push, others_are_left, decision_tells_the_store}
use Rattle.entry_core.specs.Locality.{group_for, IsIn, AgreeIn, Hashes, IsPlaced}
use Rattle.world_front.specs.Groups.{is_same_group, is_of}
use Rattle.world_front.specs.Merging.{part_of, IsKnown, PartsAreLegalTogether}
use Rattle.entry_core.proofs.Locality.{sealed_decide_alike}
use Rattle.world_front.proofs.Bytes.{both_true, bytes_same, number_same}

-- groups

pub same_group : (a b : GroupId) → is_same_group a b ≡ true → a ≡ b
same_group a b h =
    let parts = both_true (bytes_eq a.pool b.pool) (a.number == b.number) h in
    let pool : a.pool ≡ b.pool = bytes_same a.pool b.pool parts.0 in
    let number : a.number ≡ b.number = number_same a.number b.number parts.1 in
    λ i. record { pool = pool i; number = number i }

pub bytes_refl : (a : List ℕ) → bytes_eq a a ≡ true
bytes_refl a = (bytes_eq-Decides a a).1 refl

pub number_refl : (a : ℕ) → (a == a) ≡ true
number_refl a = (unsigned_Decides a a).1 refl

both_are : (a b : Bool) → a ≡ true → b ≡ true → (a && b) ≡ true
both_are a b p q = ap (λ x. x && b) p ∙ q

pub group_refl : (a : GroupId) → is_same_group a a ≡ true
group_refl a = both_are (bytes_eq a.pool a.pool) (a.number == a.number) (bytes_refl a.pool) (number_refl a.number)

-- stores that agree on a group's objects still do after one decision of it

get_changed : (a b : Store) (name q : ObjectName) (c : Change) → get a q ≡ get b q → get (changed a name c) q ≡ get (changed b name c) q
get_changed a b name q Kept h = h
get_changed a b name q (Became (Some o)) h = get-insert name_cmp_total a name o q ∙ ap (λ r. cond (eq_by_cmp name_cmp q name) (Some o) r) h ∙ sym (get-insert name_cmp_total b name o q)
get_changed a b name q (Became None) h = get-remove name_cmp_total a name q ∙ ap (λ r. cond (eq_by_cmp name_cmp q name) None r) h ∙ sym (get-remove name_cmp_total b name q)

own_decision : (groups : List ℕ → ℕ) (a b : List Entry) (s : Sealed) → IsPlaced groups s → AgreeIn groups (group_for s) (store_of a) (store_of b) → decide a s ≡ decide b s
own_decision groups a b s placed agree = ap (λ d. d.entry) (sealed_decide_alike groups s (store_of a) (store_of b) placed agree)

own_agrees : (groups : List ℕ → ℕ) (a b : List Entry) (s : Sealed) → IsPlaced groups s → AgreeIn groups (group_for s) (store_of a) (store_of b)
    → AgreeIn groups (group_for s) (store_of (a ++ decide a s ∷ [])) (store_of (b ++ decide b s ∷ []))
own_agrees groups a b s placed agree q is =
    ap (λ t. get t q) (decision_tells_the_store a s)
    ∙ ap (λ d. get (changed (store_of a) (name_of s) d.change) q) (sealed_decide_alike groups s (store_of a) (store_of b) placed agree)
    ∙ get_changed (store_of a) (store_of b) (name_of s) q (decision_on (store_of b) s).change (agree q is)
    ∙ sym (ap (λ t. get t q) (decision_tells_the_store b s))

-- and after one decision of another group

same_pair : (a b : GroupId) → a.pool ≡ b.pool → a.number ≡ b.number → a ≡ b
same_pair a b p n = λ i. record { pool = p i; number = n i }

-- the object of a vector is of its own group alone
only_there : (groups : List ℕ → ℕ) (group : GroupId) (s : Sealed) (q : ObjectName) (object : List ℕ) → s.view.pg_num ≡ groups s.view.pool → group_of s.namespace object s.view.pg_num ≡ s.group
    → q ≡ record { pool = s.view.pool; namespace = s.namespace; name = object } → IsIn groups group q → group_for s ≡ group
only_there groups group s q object counts hashes is there =
    let pool : s.view.pool ≡ group.pool = sym (ap (λ n. n.pool) is) ∙ there.pool in
    same_pair (group_for s) group pool
    (sym hashes
    ∙ ap (λ n. group_of s.namespace object n) (counts ∙ ap groups pool)
    ∙ ap (λ n. group_of n.namespace n.name (groups group.pool)) (sym is)
    ∙ there.hash)

other_left : (groups : List ℕ → ℕ) (group : GroupId) (log : List Entry) (e : Entry) (q : ObjectName) → e.sealed.view.pg_num ≡ groups e.sealed.view.pool → (w : Work) → e.sealed.work ≡ w → Hashes e.sealed.view.pg_num e.sealed.namespace e.sealed.group w
    → (group_for e.sealed ≡ group → ⊥) → IsIn groups group q → get (store_of (log ++ e ∷ [])) q ≡ get (store_of log) q
other_left groups group log e q counts (Vector object ops) is hashes apart there =
    others_are_left log e q (λ same. apart (only_there groups group e.sealed q object counts hashes (same ∙ ap (λ w. record { pool = e.sealed.view.pool; namespace = e.sealed.namespace; name = object_of w }) is) there))
other_left groups group log e q counts Listing is hashes apart there =
    ap (λ t. get t q) (store_push log e ∙ ap (λ w. stepped (store_of log) e.sealed w e.reply) is)

other_agrees : (groups : List ℕ → ℕ) (group : GroupId) (log : List Entry) (e : Entry) (b : Store) → IsPlaced groups e.sealed → (group_for e.sealed ≡ group → ⊥)
    → AgreeIn groups group (store_of log) b → AgreeIn groups group (store_of (log ++ e ∷ [])) b
other_agrees groups group log e b placed apart agree q there = other_left groups group log e q placed.counts e.sealed.work refl placed.hashes apart there ∙ agree q there

-- numbers

or_false : (a b : Bool) → a ≡ false → b ≡ false → (a || b) ≡ false
or_false a b p q = ap (λ x. x || b) p ∙ q

not_both : true ≡ false → ⊥
not_both e = cc

first_false : (a b : Bool) → (a || b) ≡ false → a ≡ false
first_false true b h = h
first_false false b h = refl

second_false : (a b : Bool) → (a || b) ≡ false → b ≡ false
second_false true b h = absurd (cc)
second_false false b h = h

same_number : (submissions : List Sealed) (x e : Entry) → IsAsked submissions x.sealed → IsAsked submissions e.sealed → (x.sealed.id == e.sealed.id) ≡ true → group_for e.sealed ≡ group_for x.sealed
same_number submissions x e ax ae h =
    let one : Some x.sealed ≡ Some e.sealed = sym ax ∙ ap (submitted submissions) (number_same x.sealed.id e.sealed.id h) ∙ ae in
    let sealed : x.sealed ≡ e.sealed = cc in
    ap group_for (sym sealed)

-- a number that none of the group's entries has, none of all has
new_among : (groups : List ℕ → ℕ) (submissions : List Sealed) (before : List Entry) (e : Entry) → Each (IsKnown groups submissions) before → IsAsked submissions e.sealed
    → is_in (ids (part_of (group_for e.sealed) before)) e.sealed.id ≡ false → is_in (ids before) e.sealed.id ≡ false
new_among groups submissions [] e known asked h = refl
new_among groups submissions (x ∷ xs) e known asked h = go (is_of (group_for e.sealed) x) refl h (λ new. new_among groups submissions xs e known.1 asked new)
  where
    apart : (c : Bool) → (x.sealed.id == e.sealed.id) ≡ c → is_of (group_for e.sealed) x ≡ false → c ≡ false
    apart true same there = ap (λ b. b) (sym (subst (λ g. is_same_group (group_for e.sealed) g ≡ true) (same_number submissions x e known.0.asked asked same) (group_refl (group_for e.sealed))) ∙ there)
    apart false same there = refl

    go : (b : Bool) → is_of (group_for e.sealed) x ≡ b → is_in (ids (cond b (x ∷ part_of (group_for e.sealed) xs) (part_of (group_for e.sealed) xs))) e.sealed.id ≡ false
        → (is_in (ids (part_of (group_for e.sealed) xs)) e.sealed.id ≡ false → is_in (ids xs) e.sealed.id ≡ false) → ((x.sealed.id == e.sealed.id) || is_in (ids xs) e.sealed.id) ≡ false
    go true there new rest = or_false _ _ (first_false _ _ new) (rest (second_false _ _ new))
    go false there new rest = or_false _ _ (apart (x.sealed.id == e.sealed.id) refl there) (rest new)

-- the merged list

pushed : (b : Bool) (e : Entry) (log part : List Entry) → LegalFrom log (cond b (e ∷ part) part) → LegalFrom (log ++ cond b (e ∷ []) []) part
pushed true e log part h = h.2
pushed false e log part h = subst (λ l. LegalFrom l part) (sym (append-nil log)) h

part_push : (group : GroupId) (log : List Entry) (e : Entry) → part_of group (log ++ e ∷ []) ≡ part_of group log ++ cond (is_of group e) (e ∷ []) []
part_push group log e = filter-append (is_of group) log (e ∷ [])

known_push : (P : Entry → Type 0) (xs : List Entry) (e : Entry) → Each P xs → P e → Each P (xs ++ e ∷ [])
known_push P [] e h p = (p, tt)
known_push P (x ∷ xs) e h p = (h.0, known_push P xs e h.1 p)

own_store : (groups : List ℕ → ℕ) (log part : List Entry) (e : Entry) → IsPlaced groups e.sealed → e ≡ decide log e.sealed → e ≡ decide part e.sealed
    → AgreeIn groups (group_for e.sealed) (store_of log) (store_of part) → AgreeIn groups (group_for e.sealed) (store_of (log ++ e ∷ [])) (store_of (part ++ e ∷ []))
own_store groups log part e placed one two agree q there =
    ap (λ x. get (store_of (log ++ x ∷ [])) q) one
    ∙ own_agrees groups log part e.sealed placed agree q there
    ∙ ap (λ x. get (store_of (part ++ x ∷ [])) q) (sym two)

agree_push : (groups : List ℕ → ℕ) (group : GroupId) (log part : List Entry) (e : Entry) (b : Bool) → is_of group e ≡ b → IsPlaced groups e.sealed → e ≡ decide log e.sealed → (b ≡ true → e ≡ decide part e.sealed)
    → AgreeIn groups group (store_of log) (store_of part) → AgreeIn groups group (store_of (log ++ e ∷ [])) (store_of (part ++ cond b (e ∷ []) []))
agree_push groups group log part e true is placed one two agree =
    let same : group ≡ group_for e.sealed = same_group group (group_for e.sealed) is in
    let P : GroupId → Type 0 = λ g. AgreeIn groups g (store_of (log ++ e ∷ [])) (store_of (part ++ e ∷ [])) in
    let Q : GroupId → Type 0 = λ g. AgreeIn groups g (store_of log) (store_of part) in
    subst P (sym same) (own_store groups log part e placed one (two refl) (subst Q same agree))
agree_push groups group log part e false is placed one two agree =
    let P : List Entry → Type 0 = λ l. AgreeIn groups group (store_of (log ++ e ∷ [])) (store_of l) in
    let apart : group_for e.sealed ≡ group → ⊥ = λ same. not_both (sym (subst (λ g. is_same_group group g ≡ true) (sym same) (group_refl group)) ∙ is) in
    subst P (sym (append-nil part)) (other_agrees groups group log e (store_of part) placed apart agree)

here : (group : GroupId) (log : List Entry) (e : Entry) (es : List Entry) → is_of group e ≡ true → LegalFrom log (part_of group (e ∷ es)) → LegalFrom log (e ∷ part_of group es)
here group log e es is h = let P : Bool → Type 0 = λ b. LegalFrom log (cond b (e ∷ part_of group es) (part_of group es)) in subst P is h

merged : (groups : List ℕ → ℕ) (submissions : List Sealed) (before es : List Entry) → Each (IsKnown groups submissions) before → Each (IsKnown groups submissions) es
    → ((group : GroupId) → LegalFrom (part_of group before) (part_of group es))
    → ((group : GroupId) → AgreeIn groups group (store_of before) (store_of (part_of group before)))
    → LegalFrom before es
merged groups submissions before [] known next legal agree = tt
merged groups submissions before (e ∷ es) known next legal agree =
    let home : GroupId = group_for e.sealed in
    let own = here home (part_of home before) e es (group_refl home) (legal home) in
    let one : e ≡ decide before e.sealed = own.1 ∙ sym (own_decision groups before (part_of home before) e.sealed next.0.placed (agree home)) in
    let two : (group : GroupId) → is_of group e ≡ true → e ≡ decide (part_of group before) e.sealed = λ group is. (here group (part_of group before) e es is (legal group)).1 in (
      new_among groups submissions before e known next.0.asked own.0,
      one,
      merged groups submissions (before ++ e ∷ []) es (known_push (IsKnown groups submissions) before e known next.0) next.1
          (λ group. let P : List Entry → Type 0 = λ l. LegalFrom l (part_of group es) in subst P (sym (part_push group before e)) (pushed (is_of group e) e (part_of group before) (part_of group es) (legal group)))
          (λ group. let P : List Entry → Type 0 = λ l. AgreeIn groups group (store_of (before ++ e ∷ [])) (store_of l) in
          subst P (sym (part_push group before e)) (agree_push groups group before (part_of group before) e (is_of group e) refl next.0.placed one (two group) (agree group))),
    )

pub parts_are_legal_together : PartsAreLegalTogether
parts_are_legal_together groups submissions audit known legal = merged groups submissions [] audit tt known legal (λ group q there. refl)
