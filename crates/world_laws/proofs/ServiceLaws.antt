-- What the service keeps, whatever happens.
use Rattle.std.proofs.Common.{◌≡◌, ◌∙◌, ℕ, ◌+◌, ◌<◌, ◌≤◌, ◌==◌, ◌||◌, List, [], ◌∷◌, ◌++◌, Bool, true, false, not, cond, Some, map, length, refl, sym, ap, subst, arith, append-nil, append_assoc, length-append}
use Rattle.std.specs.Prelude.{Contains, filter}
use Rattle.std.proofs.lemmas.List.{get_or_append_left}
use Rattle.verdict_core.specs.Verdict.{report_of}
use Rattle.store_core.specs.Request.{Sealed, target_of, needs_for}
use Rattle.store_core.specs.Deciding.{answer_on, answered, is_allowed_sealed, performed, store_of}
use Rattle.entry_core.specs.Log.{decide, ids, is_in, reply_in}
use Rattle.entry_core.specs.Laws.{is_denied, is_done}
use Rattle.store_core.specs.declared.reply.Reply.{Reply}
use Rattle.store_core.specs.declared.reply.Reply.TheVariants.{Denied}
use Rattle.store_core.specs.declared.entry.Entry.{Entry}
use Rattle.entry_core.proofs.Lawful.{verdict_is_sealed, refusals_leave_the_store}
use Rattle.world_front.proofs.Bytes.{number_same}
use Rattle.world_core.specs.Service.{Service, begun, AreNew, AreDecided, Step, Reaches, IsRight, ServiceKeepsItsWord, Grows, ServiceGrows}

-- ---- one more

new_join : (old xs ys : List Sealed) → AreNew old xs → AreNew (old ++ xs) ys → AreNew old (xs ++ ys)
new_join old [] ys h k = subst (λ l. AreNew l ys) (append-nil old) k
new_join old (x ∷ xs) ys h k = (h.0, new_join (old ++ x ∷ []) xs ys h.1 (subst (λ l. AreNew l ys) (sym (append_assoc old (x ∷ []) xs)) k))

contains_more : (xs ys : List Sealed) (s : Sealed) → Contains xs s → Contains (xs ++ ys) s
contains_more xs ys s h =
    let low : h.0 < length xs = h.1 in
    let grown : length (xs ++ ys) ≡ length xs + length ys = length-append xs ys in
    (h.0, omega arith, get_or_append_left xs ys s h.0 low ∙ h.2)

decided_more : (subs more : List Sealed) (old es : List Entry) → AreDecided subs old es → AreDecided (subs ++ more) old es
decided_more subs more old [] h = tt
decided_more subs more old (e ∷ es) h = (contains_more subs more e.sealed h.0, h.1, h.2, decided_more subs more (old ++ e ∷ []) es h.3)

decided_join : (subs : List Sealed) (old xs ys : List Entry) → AreDecided subs old xs → AreDecided subs (old ++ xs) ys → AreDecided subs old (xs ++ ys)
decided_join subs old [] ys h k = subst (λ l. AreDecided subs l ys) (append-nil old) k
decided_join subs old (x ∷ xs) ys h k = (h.0, h.1, h.2, decided_join subs (old ++ x ∷ []) xs ys h.3 (subst (λ l. AreDecided subs l ys) (sym (append_assoc old (x ∷ []) xs)) k))

record Kept (s : Service) : Type 0 where
  pub ids : AreNew [] s.submitted
  pub decided : AreDecided s.submitted [] s.decided
  pub answered : (id : ℕ) (reply : Reply) → s.answers id ≡ Some reply → reply_in s.decided id ≡ Some reply

kept_on : (requests : List Sealed) (old new : Service) → Kept old → Step requests old new → Kept new
kept_on requests old new h p =
    let N : List Sealed → Type 0 = AreNew [] in
    let early : AreDecided new.submitted [] old.decided = subst (λ l. AreDecided l [] old.decided) (sym p.submitted) (decided_more old.submitted requests [] old.decided h.decided) in
    record {
      ids = subst N (sym p.submitted) (new_join [] old.submitted requests h.ids p.under_new_ids);
      decided = subst (AreDecided new.submitted []) (sym p.decided) (decided_join new.submitted [] old.decided p.more early p.by_one_store);
      answered = p.answered;
    }

kept_through : (events : List (List Sealed)) (old new : Service) → Kept old → Reaches events old new → Kept new
kept_through [] old new h p = subst Kept p h
kept_through (requests ∷ rest) old new h p = kept_through rest p.0 new (kept_on requests old p.0 h p.1) p.2

pub service_grows : ServiceGrows
service_grows [] old new p = record { more = []; decided = ap (λ s. s.decided) (sym p) ∙ sym (append-nil old.decided); answers_stand = λ id reply is. ap (λ (s : Service). s.answers id) (sym p) ∙ is }
service_grows (requests ∷ rest) old new p =
    let g : Grows p.0 new = service_grows rest p.0 new p.2 in
    record {
      more = p.1.more ++ g.more;
      decided = g.decided ∙ ap (λ l. l ++ g.more) p.1.decided ∙ append_assoc old.decided p.1.more g.more;
      answers_stand = λ id reply is. g.answers_stand id reply (p.1.answers_stand id reply is);
    }

-- ---- at most once

in_more : (xs ys : List ℕ) (x : ℕ) → is_in xs x ≡ true → is_in (xs ++ ys) x ≡ true
in_more [] ys x h = absurd (cc)
in_more (y ∷ zs) ys x h = go (y == x) h (in_more zs ys x)
  where
    go : (b : Bool) → (b || is_in zs x) ≡ true → (is_in zs x ≡ true → is_in (zs ++ ys) x ≡ true) → (b || is_in (zs ++ ys) x) ≡ true
    go true k rest = refl
    go false k rest = rest k

in_last : (xs : List ℕ) (y x : ℕ) → (y == x) ≡ true → is_in (xs ++ y ∷ []) x ≡ true
in_last [] y x h = ap (λ b. b || false) h
in_last (z ∷ zs) y x h = go (z == x) (in_last zs y x h)
  where
    go : (b : Bool) → is_in (zs ++ y ∷ []) x ≡ true → (b || is_in (zs ++ y ∷ []) x) ≡ true
    go true k = refl
    go false k = k

ids_join : (xs ys : List Entry) → ids (xs ++ ys) ≡ ids xs ++ ids ys
ids_join [] ys = refl
ids_join (x ∷ xs) ys = ap (λ l. x.sealed.id ∷ l) (ids_join xs ys)

numbers_join : (xs ys : List Sealed) → map (λ (r : Sealed). r.id) (xs ++ ys) ≡ map (λ (r : Sealed). r.id) xs ++ map (λ (r : Sealed). r.id) ys
numbers_join [] ys = refl
numbers_join (x ∷ xs) ys = ap (λ l. x.id ∷ l) (numbers_join xs ys)

no_more : (subs : List Sealed) (id : ℕ) (old es : List Entry) → is_in (ids old) id ≡ true → AreDecided subs old es → filter (λ (e : Entry). e.sealed.id == id) es ≡ []
no_more subs id old [] there h = refl
no_more subs id old (e ∷ es) there h = go (e.sealed.id == id) refl (no_more subs id (old ++ e ∷ []) es (ap (λ l. is_in l id) (ids_join old (e ∷ [])) ∙ in_more (ids old) (e.sealed.id ∷ []) id there) h.3)
  where
    go : (b : Bool) → (e.sealed.id == id) ≡ b → filter (λ (x : Entry). x.sealed.id == id) es ≡ [] → cond b (e ∷ filter (λ (x : Entry). x.sealed.id == id) es) (filter (λ (x : Entry). x.sealed.id == id) es) ≡ []
    go true is rest = absurd (let same : e.sealed.id ≡ id = number_same e.sealed.id id is in let new : is_in (ids old) id ≡ false = subst (λ n. is_in (ids old) n ≡ false) same h.1 in cc)
    go false is rest = rest

at_most_once : (subs : List Sealed) (id : ℕ) (old es : List Entry) → AreDecided subs old es → length (filter (λ (e : Entry). e.sealed.id == id) es) ≤ 1
at_most_once subs id old [] h = omega arith
at_most_once subs id old (e ∷ es) h = go (e.sealed.id == id) refl (at_most_once subs id (old ++ e ∷ []) es h.3)
  where
    go : (b : Bool) → (e.sealed.id == id) ≡ b → length (filter (λ (x : Entry). x.sealed.id == id) es) ≤ 1 → length (cond b (e ∷ filter (λ (x : Entry). x.sealed.id == id) es) (filter (λ (x : Entry). x.sealed.id == id) es)) ≤ 1
    go true is rest =
        let none : filter (λ (x : Entry). x.sealed.id == id) es ≡ [] = no_more subs id (old ++ e ∷ []) es (ap (λ l. is_in l id) (ids_join old (e ∷ [])) ∙ in_last (ids old) e.sealed.id id is) h.3 in
        let zero_long : length (filter (λ (x : Entry). x.sealed.id == id) es) ≡ 0 = ap length none in
        omega arith
    go false is rest = rest

no_request : (id : ℕ) (old rs : List Sealed) → is_in (map (λ (r : Sealed). r.id) old) id ≡ true → AreNew old rs → filter (λ (r : Sealed). r.id == id) rs ≡ []
no_request id old [] there h = refl
no_request id old (s ∷ ss) there h = go (s.id == id) refl (no_request id (old ++ s ∷ []) ss (ap (λ l. is_in l id) (numbers_join old (s ∷ [])) ∙ in_more (map (λ (r : Sealed). r.id) old) (s.id ∷ []) id there) h.1)
  where
    go : (b : Bool) → (s.id == id) ≡ b → filter (λ (r : Sealed). r.id == id) ss ≡ [] → cond b (s ∷ filter (λ (r : Sealed). r.id == id) ss) (filter (λ (r : Sealed). r.id == id) ss) ≡ []
    go true is rest = absurd (let same : s.id ≡ id = number_same s.id id is in let new : is_in (map (λ (r : Sealed). r.id) old) id ≡ false = subst (λ n. is_in (map (λ (r : Sealed). r.id) old) n ≡ false) same h.0 in cc)
    go false is rest = rest

one_request : (id : ℕ) (old rs : List Sealed) → AreNew old rs → length (filter (λ (r : Sealed). r.id == id) rs) ≤ 1
one_request id old [] h = omega arith
one_request id old (s ∷ ss) h = go (s.id == id) refl (one_request id (old ++ s ∷ []) ss h.1)
  where
    go : (b : Bool) → (s.id == id) ≡ b → length (filter (λ (r : Sealed). r.id == id) ss) ≤ 1 → length (cond b (s ∷ filter (λ (r : Sealed). r.id == id) ss) (filter (λ (r : Sealed). r.id == id) ss)) ≤ 1
    go true is rest =
        let none : filter (λ (r : Sealed). r.id == id) ss ≡ [] = no_request id (old ++ s ∷ []) ss (ap (λ l. is_in l id) (numbers_join old (s ∷ [])) ∙ in_last (map (λ (r : Sealed). r.id) old) s.id id is) h.1 in
        let zero_long : length (filter (λ (r : Sealed). r.id == id) ss) ≡ 0 = ap length none in
        omega arith
    go false is rest = rest

-- ---- each entry

record Behind (subs : List Sealed) (before : List Entry) (e : Entry) : Type 0 where
  pub asked : Contains subs e.sealed
  pub decided : e ≡ decide before e.sealed

at_place : (subs : List Sealed) (old before : List Entry) (e : Entry) (behind : List Entry) → AreDecided subs old (before ++ e ∷ behind) → Behind subs (old ++ before) e
at_place subs old [] e behind h = subst (λ l. Behind subs l e) (sym (append-nil old)) (record { asked = h.0; decided = h.2 })
at_place subs old (x ∷ xs) e behind h = subst (λ l. Behind subs l e) (append_assoc old (x ∷ []) xs) (at_place subs (old ++ x ∷ []) xs e behind h.3)

performs : (before : List Entry) (s : Sealed) → is_allowed_sealed s ≡ true → (decide before s).reply ≡ (performed (store_of before) s s.work).reply
unfolding answer_on
performs before s is = ap (λ b. (cond b (performed (store_of before) s s.work) (answered (Denied (report_of s.ticket (target_of s) (needs_for s.work) s.tick)))).reply) is

not_back : (b c : Bool) → b ≡ not c → b ≡ true → c ≡ false
not_back b true h k = absurd (cc)
not_back b false h k = refl

right : (before : List Entry) (e : Entry) → e ≡ decide before e.sealed → IsRight before e
right before e is =
    let kept : e.reply ≡ (decide before e.sealed).reply = ap (λ x. x.reply) is in
    let v = verdict_is_sealed before e.sealed in
    record {
      allowed = λ ok. kept ∙ performs before e.sealed ok;
      denied = λ no. kept ∙ v.1 no;
      no_effect = λ no. refusals_leave_the_store before e (ap is_done (kept ∙ v.1 no));
      only_then = λ report d. not_back (is_denied (decide before e.sealed).reply) (is_allowed_sealed e.sealed) v.0 (ap is_denied (sym kept ∙ d));
    }

pub service_keeps_its_word : ServiceKeepsItsWord
service_keeps_its_word events s p =
    let k : Kept s = kept_through events begun s (record { ids = tt; decided = tt; answered = λ id reply is. absurd (cc) }) p in
    let at : (before : List Entry) (e : Entry) (behind : List Entry) → before ++ e ∷ behind ≡ s.decided → Behind s.submitted before e =
    λ before e behind whole. at_place s.submitted [] before e behind (subst (AreDecided s.submitted []) (sym whole) k.decided) in
    record {
      one_id = λ id. one_request id [] s.submitted k.ids;
      at_most_once = λ id. at_most_once s.submitted id [] s.decided k.decided;
      was_submitted = λ before e behind whole. (at before e behind whole).asked;
      is_right = λ before e behind whole. right before e (at before e behind whole).decided;
      was_decided = k.answered;
    }
