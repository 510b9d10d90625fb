-- What a list of places says of names, and which entity stands there.
use Rattle.std.proofs.Common.{◌≡◌, ℕ, suc, ◌+◌, ◌<◌, ◌≤◌, List, [], ◌∷◌, ◌++◌, Bool, true, false, cond, Option, None, Some, is_some, length, take, get_or, slice_get, refl, sym, ap, ◌∙◌, arith}
use Rattle.std.specs.Prelude.{String, string_bytes}
use Rattle.std.specs.declared.alloc.Global.{Global}
use Rattle.std.specs.Map.{lookup}
use Rattle.std.specs.Option.{option_map, option_or}
use Rattle.std.specs.Str.{bytes_eq}
use Rattle.std.proofs.lemmas.List.{length-take-le, take_all, take_more}
use Rattle.std.proofs.lemmas.Slice.Eq.{bytes_eq-Decides}
use Rattle.std.specs.HashMap.{HashMap as IndexMap}
use Rattle.indexmap.specs.IndexMap.{insert_entry}
use Rattle.indexmap.proofs.CallerLemmas.{insert_entry-new}
use Rattle.verdict_text.specs.Named.{entity_in}
use Rattle.verdict_text.specs.FirstPlaces.{Places, place_of, place_in, AreFirstPlaces}
use Rattle.verdict_text.specs.declared.entity.Entity.{Entity}

bytes_sym : (a b : List ℕ) → bytes_eq a b ≡ bytes_eq b a
bytes_sym a b = go (bytes_eq a b) (bytes_eq b a) refl refl
  where
    go : (x y : Bool) → bytes_eq a b ≡ x → bytes_eq b a ≡ y → x ≡ y
    go true true p q = refl
    go false false p q = refl
    go true false p q = let there : bytes_eq b a ≡ true = (bytes_eq-Decides b a).1 (sym ((bytes_eq-Decides a b).0 p)) in absurd (cc)
    go false true p q = let there : bytes_eq a b ≡ true = (bytes_eq-Decides a b).1 (sym ((bytes_eq-Decides b a).0 q)) in absurd (cc)

-- ---- places

place_push : (es : Places) (key : String Global) (n : ℕ) (name : List ℕ) → place_of (es ++ (key, n) ∷ []) name ≡ option_or (place_of es name) (cond (bytes_eq name (string_bytes key)) (Some n) None)
place_push [] key n name = refl
place_push (e ∷ es) key n name = go (bytes_eq name (string_bytes e.0)) (place_push es key n name)
  where
    go : (b : Bool) → place_of (es ++ (key, n) ∷ []) name ≡ option_or (place_of es name) (cond (bytes_eq name (string_bytes key)) (Some n) None)
        → cond b (Some e.1) (place_of (es ++ (key, n) ∷ []) name) ≡ option_or (cond b (Some e.1) (place_of es name)) (cond (bytes_eq name (string_bytes key)) (Some n) None)
    go true rest = refl
    go false rest = rest

none_of : (o : Option ℕ) → is_some o ≡ false → o ≡ None
none_of None h = refl
none_of (Some n) h = absurd (cc)

-- a name that has no place is put last
pub added_new : {S : Type 0} (m : IndexMap (String Global) ℕ S) (name : List ℕ) (key : String Global) (n : ℕ) → string_bytes key ≡ name → is_some (place_of m.entries name) ≡ false
    → (wanted : List ℕ) → place_of (insert_entry (λ (a b : String Global). bytes_eq (string_bytes a) (string_bytes b)) m.entries key n) wanted ≡ option_or (place_of m.entries wanted) (cond (bytes_eq wanted name) (Some n) None)
added_new m name key n is none wanted =
    ap (λ es. place_of es wanted)
    (insert_entry-new (λ (a b : String Global). bytes_eq (string_bytes a) (string_bytes b)) m key n
    (ap (λ bytes. lookup (λ (q : String Global). bytes_eq bytes (string_bytes q)) m.entries) is ∙ none_of (place_of m.entries name) none))
    ∙ place_push m.entries key n wanted
    ∙ ap (λ bytes. option_or (place_of m.entries wanted) (cond (bytes_eq wanted bytes) (Some n) None)) is

-- a name that has a place keeps it
pub added_known : (es : Places) (name : List ℕ) (n : ℕ) → is_some (place_of es name) ≡ true → (wanted : List ℕ) → place_of es wanted ≡ option_or (place_of es wanted) (cond (bytes_eq wanted name) (Some n) None)
added_known es name n known wanted = go (place_of es wanted) (bytes_eq wanted name) refl refl
  where
    go : (o : Option ℕ) (b : Bool) → place_of es wanted ≡ o → bytes_eq wanted name ≡ b → o ≡ option_or o (cond b (Some n) None)
    go (Some k) b p q = refl
    go None false p q = refl
    go None true p q =
        let same : wanted ≡ name = (bytes_eq-Decides wanted name).0 q in
        let lost : is_some (place_of es name) ≡ false = ap (λ w. is_some (place_of es w)) (sym same) ∙ ap is_some p in
        absurd (cc)

-- ---- entities

first_push : (es : List Entity) (e : Entity) (name : List ℕ) → place_in (es ++ e ∷ []) name ≡ option_or (place_in es name) (cond (bytes_eq name (string_bytes e.name)) (Some (length es)) None)
first_push [] e name = refl
first_push (x ∷ es) e name = go (bytes_eq name (string_bytes x.name)) (place_in es name) (bytes_eq name (string_bytes e.name)) (first_push es e name)
  where
    go : (b : Bool) (o : Option ℕ) (last : Bool) → place_in (es ++ e ∷ []) name ≡ option_or o (cond last (Some (length es)) None)
        → cond b (Some 0) (option_map suc (place_in (es ++ e ∷ []) name)) ≡ option_or (cond b (Some 0) (option_map suc o)) (cond last (Some (suc (length es))) None)
    go true o last h = refl
    go false (Some k) last h = ap (option_map suc) h
    go false None true h = ap (option_map suc) h
    go false None false h = ap (option_map suc) h

-- the places of one entity more
pub next_place : (entities : List Entity) (k : ℕ) (e : Entity) (old new : Places) → k < length entities → e ≡ get_or entities k e → AreFirstPlaces old (take k entities)
    → ((wanted : List ℕ) → place_of new wanted ≡ option_or (place_of old wanted) (cond (bytes_eq wanted (string_bytes e.name)) (Some k) None)) → AreFirstPlaces new (take (k + 1) entities)
next_place entities k e old new within at before added name =
    let next : take (k + 1) entities ≡ take k entities ++ e ∷ [] = take_more entities k e within ∙ ap (λ x. take k entities ++ x ∷ []) (sym at) in
    let long : length (take k entities) ≡ k = length-take-le k entities (omega arith) in
    added name
    ∙ ap (λ o. option_or o (cond (bytes_eq name (string_bytes e.name)) (Some k) None)) (before name)
    ∙ ap (λ n. option_or (place_in (take k entities) name) (cond (bytes_eq name (string_bytes e.name)) (Some n) None)) (sym long)
    ∙ sym (first_push (take k entities) e name)
    ∙ ap (λ l. place_in l name) (sym next)

-- the places of all entities
pub all_places : (entities : List Entity) (k : ℕ) (places : Places) → length entities ≤ k → AreFirstPlaces places (take k entities) → AreFirstPlaces places entities
all_places entities k places past before name = before name ∙ ap (λ l. place_in l name) (take_all k entities past)

abbrev at_place : List Entity → Option ℕ → Option Entity
at_place es None = None
at_place es (Some k) = slice_get es k

at_next : (e : Entity) (es : List Entity) (o : Option ℕ) → at_place (e ∷ es) (option_map suc o) ≡ at_place es o
at_next e es None = refl
at_next e es (Some k) = refl

-- the entity at the first place of a name is the first of that name
stands_first : (es : List Entity) (name : List ℕ) → at_place es (place_in es name) ≡ entity_in es name
stands_first [] name = refl
stands_first (e ∷ es) name = go (bytes_eq name (string_bytes e.name)) (bytes_eq (string_bytes e.name) name) (bytes_sym name (string_bytes e.name)) (stands_first es name)
  where
    go : (b c : Bool) → b ≡ c → at_place es (place_in es name) ≡ entity_in es name → at_place (e ∷ es) (cond b (Some 0) (option_map suc (place_in es name))) ≡ cond c (Some e) (entity_in es name)
    go true true h rest = refl
    go false false h rest = at_next e es (place_in es name) ∙ rest
    go true false h rest = absurd (cc)
    go false true h rest = absurd (cc)

pub found_at : (places : Places) (es : List Entity) (name : List ℕ) (k : ℕ) → AreFirstPlaces places es → place_of places name ≡ Some k → slice_get es k ≡ entity_in es name
found_at places es name k first at = ap (at_place es) (sym at ∙ first name) ∙ stands_first es name

pub found_none : (places : Places) (es : List Entity) (name : List ℕ) → AreFirstPlaces places es → place_of places name ≡ None → None ≡ entity_in es name
found_none places es name first at = ap (at_place es) (sym at ∙ first name) ∙ stands_first es name
