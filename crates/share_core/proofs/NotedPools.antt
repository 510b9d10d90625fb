-- Which places are noted for the pools of grants.
use Rattle.std.proofs.Common.{◌≡◌, ◌≢◌, ◌<◌, ◌≤◌, ℕ, zero, suc, ◌+◌, List, [], ◌∷◌, ◌++◌, Bool, true, false, cond, ◌⊎◌, Option, None, Some, is_some, is_none, length, get_or, slice_get, nat_eq, refl, sym, ap, subst, ◌∙◌, inl, inr, arith}
use Rattle.std.specs.Prelude.{String, Vec, string_bytes}
use Rattle.std.specs.declared.alloc.Global.{Global}
use Rattle.std.specs.HashMap.{HashMap as IndexMap}
use Rattle.std.specs.List.{Contains, flat_map, list_any}
use Rattle.std.specs.Map.{lookup, set_value}
use Rattle.std.specs.Str.{bytes_eq}
use Rattle.std.proofs.lemmas.Bool.{false≢true}
use Rattle.std.proofs.lemmas.Bool.Decides.{Decides-eqb}
use Rattle.std.proofs.lemmas.List.Elements.{Contains-append_left, Contains-append_right}
use Rattle.std.proofs.lemmas.Option.{slice_get_within, slice_get-get_or}
use Rattle.std.proofs.lemmas.Slice.Eq.{bytes_eq-Decides}
use Rattle.indexmap.specs.IndexMap.{insert_entry}
use Rattle.indexmap.proofs.CallerLemmas.{insert_entry-new}
use Rattle.cap_grants.specs.declared.grant.AllowGrant.{AllowGrant}
use Rattle.share_core.specs.PoolPlaces.{AreKept, IsNotedFor, Named, items_or_none, list_of, noted, of_name}
use Rattle.share_core.specs.declared.pool_places.PoolPlaces.{PoolPlaces}

true_or_false : (a : Bool) → (a ≡ true) ⊎ (a ≡ false)
true_or_false true = inl refl
true_or_false false = inr refl

abbrev Entry : Type 0
Entry = List ℕ × AllowGrant

-- an empty list for a name that has none

list_push : (named : Named) (key : String Global) (list : Vec ℕ Global) (wanted : List ℕ) → list.items ≡ [] → of_name (named ++ (key, list) ∷ []) wanted ≡ of_name named wanted
list_push [] key list wanted empty = go (bytes_eq wanted (string_bytes key))
  where
    go : (b : Bool) → items_or_none (cond b (Some list) None) ≡ []
    go true = empty
    go false = refl
list_push (e ∷ es) key list wanted empty = go (bytes_eq wanted (string_bytes e.0)) (list_push es key list wanted empty)
  where
    go : (b : Bool) → of_name (es ++ (key, list) ∷ []) wanted ≡ of_name es wanted
        → items_or_none (cond b (Some e.1) (list_of (es ++ (key, list) ∷ []) wanted)) ≡ items_or_none (cond b (Some e.1) (list_of es wanted))
    go true rest = refl
    go false rest = rest

known_push : (named : Named) (key : String Global) (list : Vec ℕ Global) → is_some (list_of (named ++ (key, list) ∷ []) (string_bytes key)) ≡ true
known_push [] key list = go (bytes_eq (string_bytes key) (string_bytes key)) ((bytes_eq-Decides (string_bytes key) (string_bytes key)).1 refl)
  where
    go : (b : Bool) → b ≡ true → is_some (cond b (Some list) None) ≡ true
    go true h = refl
    go false h = absurd (false≢true h)
known_push (e ∷ es) key list = go (bytes_eq (string_bytes key) (string_bytes e.0)) (known_push es key list)
  where
    go : (b : Bool) → is_some (list_of (es ++ (key, list) ∷ []) (string_bytes key)) ≡ true
        → is_some (cond b (Some e.1) (list_of (es ++ (key, list) ∷ []) (string_bytes key))) ≡ true
    go true rest = refl
    go false rest = rest

none_of : {X : Type 0} (o : Option X) → is_some o ≡ false → o ≡ None
none_of None h = refl
none_of (Some x) h = absurd (false≢true (sym h))

abbrev added : Named → String Global → Vec ℕ Global → Named
added named key list = insert_entry (λ (a b : String Global). bytes_eq (string_bytes a) (string_bytes b)) named key list

pushed : {S : Type 0} (m : IndexMap (String Global) (Vec ℕ Global) S) (name : List ℕ) (key : String Global) (list : Vec ℕ Global) → string_bytes key ≡ name
    → is_some (list_of m.entries name) ≡ false → added m.entries key list ≡ m.entries ++ (key, list) ∷ []
pushed m name key list is none =
    insert_entry-new (λ (a b : String Global). bytes_eq (string_bytes a) (string_bytes b)) m key list
    (ap (λ bytes. list_of m.entries bytes) is ∙ none_of (list_of m.entries name) none)

pub prepared_same : {S : Type 0} (m : IndexMap (String Global) (Vec ℕ Global) S) (name : List ℕ) (key : String Global) (list : Vec ℕ Global) → string_bytes key ≡ name
    → is_some (list_of m.entries name) ≡ false → list.items ≡ [] → (wanted : List ℕ) → of_name (added m.entries key list) wanted ≡ of_name m.entries wanted
prepared_same m name key list is none empty wanted = ap (λ es. of_name es wanted) (pushed m name key list is none) ∙ list_push m.entries key list wanted empty

pub prepared_known : {S : Type 0} (m : IndexMap (String Global) (Vec ℕ Global) S) (name : List ℕ) (key : String Global) (list : Vec ℕ Global) → string_bytes key ≡ name
    → is_some (list_of m.entries name) ≡ false → is_some (list_of (added m.entries key list) name) ≡ true
prepared_known m name key list is none =
    ap (λ es. is_some (list_of es name)) (pushed m name key list is none)
    ∙ ap (λ bytes. is_some (list_of (m.entries ++ (key, list) ∷ []) bytes)) (sym is) ∙ known_push m.entries key list

-- another list for a name that has one

abbrev written : Named → List ℕ → Vec ℕ Global → Named
written named name list = set_value (λ (key : String Global). bytes_eq name (string_bytes key)) named list

at_once : {X : Type 0} {a b : X} → Some a ≡ Some b → a ≡ b
at_once e = cc

first_kept : (w : Bool) (list old new : Vec ℕ Global) (rest : Option (Vec ℕ Global)) (place : ℕ) → list ≡ old → ((place : ℕ) → Contains old.items place → Contains new.items place)
    → Contains (items_or_none (cond w (Some list) rest)) place → Contains (items_or_none (cond w (Some new) rest)) place
first_kept true list old new rest place same more has = more place (subst (λ (l : Vec ℕ Global). Contains l.items place) same has)
first_kept false list old new rest place same more has = has

later_kept : (w : Bool) (list : Vec ℕ Global) (rest later : Option (Vec ℕ Global)) (place : ℕ) → (Contains (items_or_none rest) place → Contains (items_or_none later) place)
    → Contains (items_or_none (cond w (Some list) rest)) place → Contains (items_or_none (cond w (Some list) later)) place
later_kept true list rest later place more has = has
later_kept false list rest later place more has = more has

pub written_kept : (named : Named) (name wanted : List ℕ) (old new : Vec ℕ Global) → list_of named name ≡ Some old
    → ((place : ℕ) → Contains old.items place → Contains new.items place) → (place : ℕ) → Contains (of_name named wanted) place
    → Contains (of_name (written named name new) wanted) place
written_kept [] name wanted old new at more place has = has
written_kept (e ∷ es) name wanted old new at more place has =
    go (bytes_eq name (string_bytes e.0)) at (λ later. written_kept es name wanted old new later more place)
  where
    go : (b : Bool) → cond b (Some e.1) (list_of es name) ≡ Some old → (list_of es name ≡ Some old → Contains (of_name es wanted) place → Contains (of_name (written es name new) wanted) place)
        → Contains (of_name (cond b ((e.0, new) ∷ es) (e ∷ written es name new)) wanted) place
    go true is rest = first_kept (bytes_eq wanted (string_bytes e.0)) e.1 old new (list_of es wanted) place (at_once is) more has
    go false is rest = later_kept (bytes_eq wanted (string_bytes e.0)) e.1 (list_of es wanted) (list_of (written es name new) wanted) place (rest is) has

pub written_has : (named : Named) (name : List ℕ) (old new : Vec ℕ Global) → list_of named name ≡ Some old → of_name (written named name new) name ≡ new.items
written_has [] name old new at = absurd (cc)
written_has (e ∷ es) name old new at = go (bytes_eq name (string_bytes e.0)) refl at (written_has es name old new)
  where
    go : (b : Bool) → bytes_eq name (string_bytes e.0) ≡ b → cond b (Some e.1) (list_of es name) ≡ Some old → (list_of es name ≡ Some old → of_name (written es name new) name ≡ new.items)
        → of_name (cond b ((e.0, new) ∷ es) (e ∷ written es name new)) name ≡ new.items
    go true t is rest = ap (λ b. items_or_none (cond b (Some new) (list_of es name))) t
    go false t is rest = ap (λ b. items_or_none (cond b (Some e.1) (list_of (written es name new) name))) t ∙ rest is

-- gathered places

pub Contains-flat_map : {X : Type 0} (f : X → List ℕ) (xs : List X) (i : ℕ) (x : X) (place : ℕ) → slice_get xs i ≡ Some x → Contains (f x) place → Contains (flat_map f xs) place
Contains-flat_map f [] i x place at has = absurd (cc)
Contains-flat_map f (y ∷ ys) zero x place at has = Contains-append_left (f y) (flat_map f ys) place (subst (λ z. Contains (f z) place) (sym (at_once at)) has)
Contains-flat_map f (y ∷ ys) (suc i) x place at has = Contains-append_right (f y) (flat_map f ys) place (Contains-flat_map f ys i x place at has)

-- a pool's places and those without a pool

pub kept_both : (old new : PoolPlaces) → ((place : ℕ) → Contains old.unnamed.items place → Contains new.unnamed.items place)
    → ((wanted : List ℕ) (place : ℕ) → Contains (of_name old.named.entries wanted) place → Contains (of_name new.named.entries wanted) place) → AreKept (noted old) (noted new)
kept_both old new unnamed named None place has = unnamed place has
kept_both old new unnamed named (Some name) place has = named name place has

-- a place is noted for the first grants
abbrev pub NotedSoFar : (Option (List ℕ) → List ℕ) → ℕ → List Entry → ℕ → Type 0
NotedSoFar at place grants count = (i : ℕ) (entry : Entry) → i < count → slice_get grants i ≡ Some entry → Contains (at entry.1.pool) place

pub one_noted : (old new : Option (List ℕ) → List ℕ) (place : ℕ) (grants : List Entry) (k : ℕ) (grant : Entry) → k < length grants → grant ≡ get_or grants k grant
    → AreKept old new → Contains (new grant.1.pool) place → NotedSoFar old place grants k → NotedSoFar new place grants (k + 1)
one_noted old new place grants k grant inside is kept has before i entry low at = elim (true_or_false (nat_eq i k)) [
  | inr other ↦ kept entry.1.pool place (before i entry (lower i k low other) at)
  | inl here ↦ (
      let same : grant ≡ entry = at_once (sym (slice_get-get_or grants k grant inside ∙ ap (λ e. Some e) (sym is)) ∙ (ap (λ n. slice_get grants n) (sym ((Decides-eqb i k).0 here)) ∙ at)) in
      subst (λ (e : Entry). Contains (new e.1.pool) place) same has
      )
]
  where
    lower : (a b : ℕ) → a < b + 1 → nat_eq a b ≡ false → a < b
    lower a b h e =
        let differs : a ≢ b = λ same. false≢true (sym e ∙ (Decides-eqb a b).1 same) in
        omega arith

pub all_noted : (at : Option (List ℕ) → List ℕ) (place : ℕ) (grants : List Entry) (count : ℕ) → length grants ≤ count → NotedSoFar at place grants count → IsNotedFor at place grants
all_noted at place grants count past before i entry is =
    let inside : i < length grants = slice_get_within grants i entry is in
    before i entry (omega arith) is
