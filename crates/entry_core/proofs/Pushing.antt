-- What a push, a copy and a fit keep of a log's index and objects.
use Rattle.std.proofs.Common.{◌≡◌, ℕ, ◌+◌, List, [], ◌∷◌, ◌++◌, Bool, true, false, cond, ◌==◌, Option, Some, None, is_some, length, get_or, take, refl, sym, ap, ◌∙◌, subst, arith}
use Rattle.std.specs.Cmp.{unsigned_Decides}
use Rattle.std.proofs.lemmas.List.{length-append, take_more, take_all}
use Rattle.std.specs.List.{AllZip}
use Rattle.std.specs.Map.{lookup}
use Rattle.std.specs.Option.{option_map}
use Rattle.store_core.specs.Store.{Store}
use Rattle.store_core.specs.Deciding.{Decision, store_of, name_of}
use Rattle.entry_core.specs.Fitting.{are_new, requests_of}
use Rattle.store_core.specs.Objects.{changed, decided_of, change_of}
use Rattle.entry_core.specs.Log.{Legal, decision, ids, is_in}
use Rattle.entry_core.specs.Stored.{IsStored, LeadsBack, Places, place_in}
use Rattle.store_core.specs.declared.entry.Entry.{Entry}
use Rattle.store_core.specs.declared.decided.ObjectChange.{ObjectChange}
use Rattle.entry_core.proofs.Lawful.{decision_tells_the_store}
use Rattle.entry_core.proofs.LegalLogs.{first_new, ids-push, legal_push, legal_rest, rest_new}
use Rattle.entry_core.proofs.Places.{is_in-place, place_push}

-- the objects after what was decided
store_after : (log : List Entry) (store store' : Store) (entry : Entry) (left : ObjectChange) → store ≡ store_of log → decided_of entry left ≡ decision log entry.sealed
    → store' ≡ changed store (name_of entry.sealed) (change_of left) → store' ≡ store_of (log ++ entry ∷ [])
store_after log store store' entry left made told h =
    h ∙ (λ i. changed (made i) (name_of entry.sealed) (told i).change) ∙ sym (decision_tells_the_store log entry.sealed) ∙ ap (λ (d : Decision). store_of (log ++ d.entry ∷ [])) (sym told)

nothing_ends : (b : List Entry) (y : Entry) → [] ≡ b ++ y ∷ [] → ⊥
nothing_ends b y h = let l : 0 ≡ length (b ++ y ∷ []) = ap length h in let m : length (b ++ y ∷ []) ≡ length b + 1 = length-append b (y ∷ []) in omega arith

-- logs with a last entry are equal where both parts are
pub split_last : (a b : List Entry) (x y : Entry) → a ++ x ∷ [] ≡ b ++ y ∷ [] → (a ≡ b) × (x ≡ y)
split_last [] [] x y h = (refl, cc)
split_last [] (f ∷ b) x y h = absurd (nothing_ends b y (cc))
split_last (e ∷ a) [] x y h = let rest : a ++ x ∷ [] ≡ [] = cc in absurd (nothing_ends a x (sym rest))
split_last (e ∷ a) (f ∷ b) x y h =
    let first : e ≡ f = cc in
    let rest : a ++ x ∷ [] ≡ b ++ y ∷ [] = cc in
    let r = split_last a b x y rest in
    ((λ i. first i ∷ r.0 i), r.1)

pub after_push : (log : List Entry) (index : List (ℕ × ℕ)) (store : Store) (kept : Option ObjectChange) (entry : Entry) (left : ObjectChange) (decided : Decision) → IsStored log index store kept → decided_of entry left ≡ decided → decided ≡ decision log decided.entry.sealed → is_in (ids log) decided.entry.sealed.id ≡ false
    → (log' : List Entry) (index' : List (ℕ × ℕ)) (store' : Store) (back : ObjectChange) → log' ≡ log ++ entry ∷ [] → ((id : ℕ) → lookup (λ n. id == n) index' ≡ cond (entry.sealed.id == id) (Some (length log)) (lookup (λ n. id == n) index))
    → store' ≡ changed store (name_of entry.sealed) (change_of left) → changed store' (name_of entry.sealed) (change_of back) ≡ store → IsStored log' index' store' (Some back)
after_push log index store kept entry left decided stored parts here new log' index' store' back grown indexed changed_to undone =
    let told : decided_of entry left ≡ decision log entry.sealed = parts ∙ here ∙ ap (λ (d : Decision). decision log d.entry.sealed) (sym parts) in
    let fresh : is_in (ids log) entry.sealed.id ≡ false = ap (λ (d : Decision). is_in (ids log) d.entry.sealed.id) parts ∙ new in
    let made : store' ≡ store_of log' = store_after log store store' entry left stored.made told changed_to ∙ ap store_of (sym grown) in
    record {
      places = λ id. indexed id ∙ ap (cond (entry.sealed.id == id) (Some (length log))) (stored.places id) ∙ sym (place_push log entry id fresh) ∙ ap (λ l. place_in l id) (sym grown);
      made = made;
      legal = subst Legal (sym grown) (legal_push [] log entry stored.legal fresh (ap (λ (d : Decision). d.entry) told));
      back = λ front e is.
          let last = split_last front log e entry (is ∙ grown) in
          (λ i. changed (sym made i) (name_of (last.1 i).sealed) (change_of back)) ∙ undone ∙ stored.made ∙ ap store_of (sym last.0);
    }

not_there : (o : Option ℕ) → is_some o ≡ false → None ≡ o
not_there None h = refl
not_there (Some p) h = absurd (cc)

gone_by : (front : List Entry) (last : Entry) (id n : ℕ) → is_in (ids front) last.sealed.id ≡ false → (b : Bool) → (last.sealed.id == id) ≡ b → cond b None (cond b (Some n) (place_in front id)) ≡ place_in front id
gone_by front last id n new true is =
    not_there (place_in front id) (sym (is_in-place front id) ∙ ap (is_in (ids front)) (sym ((unsigned_Decides last.sealed.id id).0 is)) ∙ new)
gone_by front last id n new false is = refl

-- a log by its last entry
pub whole_of : (log : List Entry) (kept : ℕ) (last : Entry) → length log ≡ kept + 1 → last ≡ get_or log kept last → take kept log ++ last ∷ [] ≡ log
whole_of log kept last one is =
    ap (λ x. take kept log ++ x ∷ []) is ∙ sym (take_more log kept last (omega arith)) ∙ take_all (kept + 1) log (omega arith)

-- an index without the last entry's number
pub places_back : (log : List Entry) (index index' : List (ℕ × ℕ)) (front : List Entry) (last : Entry) → front ++ last ∷ [] ≡ log → Legal log → Places index log
    → ((id : ℕ) → lookup (λ n. id == n) index' ≡ cond (last.sealed.id == id) None (lookup (λ n. id == n) index)) → Places index' front
places_back log index index' front last whole legal places indexed id =
    let new : is_in (ids front) last.sealed.id ≡ false = (legal_rest [] front (last ∷ []) (subst Legal (sym whole) legal)).0 in
    indexed id ∙ ap (cond (last.sealed.id == id) None) (places id ∙ ap (λ l. place_in l id) (sym whole) ∙ place_push front last id new)
    ∙ gone_by front last id (length front) new (last.sealed.id == id) refl

-- one more of the entries that are added: its number is new, and those behind it stay new
pub record MoreAdded (log' : List Entry) (index' : List (ℕ × ℕ)) (more : List Entry) : Type 0 where
  pub places : Places index' log'
  pub new : are_new (ids log') (requests_of more) ≡ true

pub add_entry : (log : List Entry) (index : List (ℕ × ℕ)) (e : Entry) (more : List Entry) → Places index log → are_new (ids log) (requests_of (e ∷ more)) ≡ true → (log' : List Entry) (index' : List (ℕ × ℕ)) → log' ≡ log ++ e ∷ []
    → ((id : ℕ) → lookup (λ n. id == n) index' ≡ cond (e.sealed.id == id) (Some (length log)) (lookup (λ n. id == n) index)) → MoreAdded log' index' more
add_entry log index e more places new log' index' grown indexed =
    let fresh : is_in (ids log) e.sealed.id ≡ false = first_new (is_in (ids log) e.sealed.id) _ new in
    let rest : are_new (ids log ++ e.sealed.id ∷ []) (requests_of more) ≡ true = rest_new (is_in (ids log) e.sealed.id) _ new in
    record {
      places = λ id. indexed id ∙ ap (cond (e.sealed.id == id) (Some (length log))) (places id) ∙ sym (place_push log e id fresh) ∙ ap (λ l. place_in l id) (sym grown);
      new = ap (λ l. are_new (ids l) (requests_of more)) grown ∙ ap (λ l. are_new l (requests_of more)) (ids-push log e) ∙ rest;
    }

-- changes that are alike lead back alike
pub same_back : (log : List Entry) (a b : Option ObjectChange) → option_map change_of a ≡ option_map change_of b → LeadsBack log b → LeadsBack log a
same_back log None b h leads = tt
same_back log (Some a) None h leads = absurd (cc)
same_back log (Some a) (Some b) h leads = λ front e is. let alike : change_of a ≡ change_of b = cc in ap (changed (store_of log) (name_of e.sealed)) alike ∙ leads front e is

pub same_pairs : (es fs : List (ℕ × ℕ)) → AllZip (λ p q. (q.0 ≡ p.0) × (q.1 ≡ p.1)) es fs → fs ≡ es
same_pairs [] [] h = refl
same_pairs [] (f ∷ fs) h = absurd h
same_pairs (e ∷ es) [] h = absurd h
same_pairs (e ∷ es) (f ∷ fs) h = λ i. (h.0.0 i, h.0.1 i) ∷ same_pairs es fs h.1 i

-- equal parts stand for the log, too
pub after_copy : (log log' : List Entry) (index index' : List (ℕ × ℕ)) (store store' : Store) (kept kept' : Option ObjectChange) → IsStored log index store kept → log' ≡ log → index' ≡ index → store' ≡ store → option_map change_of kept' ≡ option_map change_of kept
    → IsStored log' index' store' kept'
after_copy log log' index index' store store' kept kept' stored same_log same_index same_store alike = record {
  places = λ id. ap (lookup (λ n. id == n)) same_index ∙ stored.places id ∙ ap (λ l. place_in l id) (sym same_log);
  made = same_store ∙ stored.made ∙ ap store_of (sym same_log);
  legal = subst Legal (sym same_log) stored.legal;
  back = subst (λ l. LeadsBack l kept') (sym same_log) (same_back log kept' kept alike stored.back);
}
