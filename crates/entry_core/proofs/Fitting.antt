-- Logs that are fitted to parts.
use Rattle.std.proofs.Common.{◌≡◌, ℕ, suc, ◌+◌, ◌-◌, ◌<◌, ◌≤◌, List, [], ◌∷◌, ◌++◌, Bool, true, false, ◌&&◌, ◌||◌, ◌==◌, cond, map, leb, Some, None, length, take, drop, get_or, min, not, refl, sym, ap, ◌∙◌, subst, append-nil, append_assoc, arith, add-one}
use Rattle.std.specs.Cmp.{unsigned_Decides}
use Rattle.std.proofs.lemmas.Bool.{eq-eqb}
use Rattle.std.proofs.lemmas.Bool.Decides.{nat_tests}
use Rattle.std.proofs.lemmas.List.{take_all, take_more, drop_all, drop-map, length-append, length-drop, length-map, map-append, drop-append-le, take-append-drop}
use Prim.Native.Nat.{zero}
use Rattle.std.proofs.Math.Seq.{drop-cons, take-append_seam, drop-append_seam}
use Rattle.store_core.specs.Request.{Sealed}
use Rattle.entry_core.specs.Log.{Legal, LegalFrom, decide, ids, is_in}
use Rattle.entry_core.specs.Fitting.{requests_of, part_of, agreed, are_new, decided_behind, kept, can_fit, fitted}
use Rattle.entry_core.specs.FittingLaws.{SameNext, FitGivesTheLog, FitOfNothing, FittedIsLegal}
use Rattle.store_core.specs.declared.entry.Entry.{Entry}
use Rattle.entry_core.proofs.LegalLogs.{legal_front, legal_rest, behind_again, new_again, legal_behind}

le_true : (a b : ℕ) → a ≤ b → leb a b ≡ true
le_true a b h = grind (arith, nat_tests)

fits_by : (a b c : Bool) (x : List Entry) → a ≡ true → b ≡ true → c ≡ true → cond (a && (b && c)) (Some x) None ≡ Some x
fits_by a b c x p q r = λ i. cond (p i && (q i && r i)) (Some x) None

-- a part that fits, by what stays and what is decided
fit_by : (log : List Entry) (from : ℕ) (part : List Sealed) (stay : List Entry) (rest : List Sealed) → from ≤ length log → length log ≤ kept log from part + 1 → take (kept log from part) log ≡ stay → drop (agreed (drop from log) part) part ≡ rest
    → are_new (ids stay) rest ≡ true → fitted log from part ≡ Some (decided_behind stay rest)
fit_by log from part stay rest within one stays rests new =
    (λ i. cond (can_fit log from part) (Some (decided_behind (stays i) (rests i))) None)
    ∙ fits_by _ _ _ (decided_behind stay rest) (le_true from (length log) within) (le_true (length log) (kept log from part + 1) one) ((λ i. are_new (ids (stays i)) (rests i)) ∙ new)

-- entries begin with their own requests
agreed_front : (front last : List Entry) (more : List Sealed) → agreed (front ++ last) (requests_of front ++ more) ≡ length front + agreed last more
agreed_front [] last more = omega arith
agreed_front (e ∷ front) last more =
    ap (λ b. cond b (suc (agreed (front ++ last) (requests_of front ++ more))) 0) (eq-eqb e.sealed.id e.sealed.id refl)
    ∙ (let more : agreed (front ++ last) (requests_of front ++ more) ≡ length front + agreed last more = agreed_front front last more in omega arith)

-- where the next entries begin with no request of the other's
fit_apart : (front last behind : List Entry) (from : ℕ) → Legal (front ++ behind) → length last ≤ 1 → from ≤ length front → agreed last (requests_of behind) ≡ 0
    → fitted (front ++ last) from (part_of (front ++ behind) from) ≡ Some (front ++ behind)
fit_apart front last behind from legal one within apart =
    let mine : drop from (front ++ last) ≡ drop from front ++ last = drop-append-le from front last within in
    let part : part_of (front ++ behind) from ≡ requests_of (drop from front) ++ requests_of behind =
    ap requests_of (drop-append-le from front behind within) ∙ map-append (λ (e : Entry). e.sealed) (drop from front) behind in
    let all : agreed (drop from (front ++ last)) (part_of (front ++ behind) from) ≡ length (drop from front) + agreed last (requests_of behind) =
    (λ i. agreed (mine i) (part i)) ∙ agreed_front (drop from front) last (requests_of behind) in
    let behind_from : length (drop from front) ≡ length front - from = length-drop from front in
    let keeps : kept (front ++ last) from (part_of (front ++ behind) from) ≡ length front = omega arith in
    let count : agreed (drop from (front ++ last)) (part_of (front ++ behind) from) ≡ length (requests_of (drop from front)) =
    all ∙ (let l : length (requests_of (drop from front)) ≡ length (drop from front) = length-map (drop from front) (λ (e : Entry). e.sealed) in omega arith) in
    let long : length (front ++ last) ≡ length front + length last = length-append front last in
    let rest : LegalFrom front behind = legal_rest [] front behind legal in
    fit_by (front ++ last) from (part_of (front ++ behind) from) front (requests_of behind) (omega arith) (omega arith)
    (ap (λ k. take k (front ++ last)) keeps ∙ take-append_seam front last)
    ((λ i. drop (count i) (part i)) ∙ drop-append_seam (requests_of (drop from front)) (requests_of behind))
    (new_again front behind rest)
    ∙ ap (λ l. Some l) (behind_again front behind rest)

-- an entry that follows in a legal log is decided on the log before it
follows : (front : List Entry) (e : Entry) (rest : List Entry) → Legal (front ++ e ∷ rest) → e ≡ decide front e.sealed
follows front e rest legal = (legal_rest [] front (e ∷ rest) legal).1

fit_next : (front : List Entry) (m o : Entry) (os : List Entry) (from : ℕ) → Legal (front ++ m ∷ []) → Legal (front ++ o ∷ os) → from ≤ length front → (m.sealed.id ≡ o.sealed.id → m.sealed ≡ o.sealed)
    → (b : Bool) → (m.sealed.id == o.sealed.id) ≡ b → fitted (front ++ m ∷ []) from (part_of (front ++ o ∷ os) from) ≡ Some (front ++ o ∷ os)
fit_next front m o os from mine other within same true is =
    let one : m ≡ o = follows front m [] mine ∙ ap (decide front) (same ((unsigned_Decides m.sealed.id o.sealed.id).0 is)) ∙ sym (follows front o os other) in
    let whole : (front ++ o ∷ []) ++ os ≡ front ++ o ∷ os = append_assoc front (o ∷ []) os in
    let long : length (front ++ o ∷ []) ≡ length front + 1 = length-append front (o ∷ []) in
    let again : fitted ((front ++ o ∷ []) ++ []) from (part_of ((front ++ o ∷ []) ++ os) from) ≡ Some ((front ++ o ∷ []) ++ os) =
    fit_apart (front ++ o ∷ []) [] os from (subst Legal (sym whole) other) (omega arith) (omega arith) refl in
    (λ i. fitted ((ap (λ (x : Entry). front ++ x ∷ []) one ∙ sym (append-nil (front ++ o ∷ []))) i) from (part_of (sym whole i) from)) ∙ again ∙ ap (λ l. Some l) whole
fit_next front m o os from mine other within same false is =
    fit_apart front (m ∷ []) (o ∷ os) from other (omega arith) within (ap (λ b. cond b (suc 0) 0) is)

fit_near : (front last behind : List Entry) (from : ℕ) → Legal (front ++ last) → Legal (front ++ behind) → length last ≤ 1 → from ≤ length front → SameNext last behind
    → fitted (front ++ last) from (part_of (front ++ behind) from) ≡ Some (front ++ behind)
fit_near front [] behind from mine other one within same = fit_apart front [] behind from other one within refl
fit_near front (m ∷ []) [] from mine other one within same = fit_apart front (m ∷ []) [] from other one within refl
fit_near front (m ∷ []) (o ∷ os) from mine other one within same = fit_next front m o os from mine other within same (m.sealed.id == o.sealed.id) refl
fit_near front (m ∷ n ∷ ms) behind from mine other one within same = absurd (omega arith)

pub fit_gives_the_log : FitGivesTheLog
fit_gives_the_log mine other from legal legal_other near =
    (λ i. fitted (sym near.mine_is i) from (part_of (sym near.other_is i) from))
    ∙ fit_near near.front near.last near.behind from (subst Legal (sym near.mine_is) legal) (subst Legal (sym near.other_is) legal_other) near.one near.within near.same
    ∙ ap (λ l. Some l) near.other_is

agreed_none : (es : List Entry) → agreed es [] ≡ 0
agreed_none [] = refl
agreed_none (e ∷ es) = refl

pub fit_of_nothing : FitOfNothing
fit_of_nothing log =
    let none : agreed (drop (length log) log) [] ≡ 0 = agreed_none (drop (length log) log) in
    let keeps : kept log (length log) [] ≡ length log = omega arith in
    fit_by log (length log) [] log [] (omega arith) (omega arith) (ap (λ k. take k log) keeps ∙ take_all (length log) log (omega arith)) (ap (λ n. drop n []) none) refl

new_of : (a b c : Bool) → (a && (b && c)) ≡ true → c ≡ true
new_of true true c h = h
new_of true false c h = absurd (cc)
new_of false b c h = absurd (cc)

legal_by : (b : Bool) (x new : List Entry) → (b ≡ true → Legal x) → cond b (Some x) None ≡ Some new → Legal new
legal_by true x new legal is = let same : x ≡ new = cc in subst Legal same (legal refl)
legal_by false x new legal is = absurd (cc)

pub fitted_is_legal : FittedIsLegal
fitted_is_legal log from part new legal is =
    let k : ℕ = kept log from part in
    let front : Legal (take k log) = legal_front [] (take k log) (drop k log) (subst Legal (sym (take-append-drop k log)) legal) in
    legal_by (can_fit log from part) _ new
    (λ fits. legal_behind (take k log) (drop (agreed (drop from log) part) part) front (new_of (leb from (length log)) (leb (length log) (k + 1)) _ fits)) is

-- one more place at which entries and requests may agree
pub agreed_at : (es : List Entry) (part : List Sealed) (p : ℕ) (e : Entry) (s : Sealed) → p < length es → p < length part → e ≡ get_or es p e → s ≡ get_or part p s
    → agreed (drop p es) (drop p part) ≡ cond (e.sealed.id == s.id) (suc (agreed (drop (suc p) es) (drop (suc p) part))) 0
agreed_at es part p e s in_es in_part is_e is_s =
    (λ i. agreed (drop-cons es p e in_es i) (drop-cons part p s in_part i))
    ∙ (λ i. cond ((sym is_e i).sealed.id == (sym is_s i).id) (suc (agreed (drop (suc p) es) (drop (suc p) part))) 0)

pub agreed_end : (es : List Entry) (part : List Sealed) (p : ℕ) → p ≡ min (length es) (length part) → agreed (drop p es) (drop p part) ≡ 0
agreed_end [] part p h = refl_at p
  where
    refl_at : (p : ℕ) → agreed (drop p []) (drop p part) ≡ 0
    refl_at zero = refl
    refl_at (suc p) = refl
agreed_end (e ∷ es) [] p h = at p
  where
    at : (p : ℕ) → agreed (drop p (e ∷ es)) (drop p []) ≡ 0
    at zero = refl
    at (suc p) = agreed_none (drop p es)
agreed_end (e ∷ es) (s ∷ part) zero h = absurd (omega arith)
agreed_end (e ∷ es) (s ∷ part) (suc p) h = agreed_end es part p (omega arith)

-- the next request of a part is decided on the log
pub behind_at : (log : List Entry) (part : List Sealed) (p : ℕ) (s : Sealed) → p < length part → s ≡ get_or part p s → decided_behind log (drop p part) ≡ decided_behind (log ++ decide log s ∷ []) (drop (p + 1) part)
behind_at log part p s within is =
    ap (decided_behind log) (drop-cons part p s within) ∙ (λ i. decided_behind (log ++ decide log (sym is i) ∷ []) (drop (sym (add-one p) i) part))

pub not_true : (b : Bool) → not b ≡ true → b ≡ false
not_true true h = sym h
not_true false h = refl

pub not_false : (b : Bool) → not b ≡ false → b ≡ true
not_false true h = refl
not_false false h = sym h

-- the numbers of requests
abbrev pub numbers_of : List Sealed → List ℕ
numbers_of part = map (λ (s : Sealed). s.id) part

or_assoc : (a b c : Bool) → ((a || b) || c) ≡ (a || (b || c))
or_assoc true b c = refl
or_assoc false b c = refl

pub is_in-append : (a b : List ℕ) (x : ℕ) → is_in (a ++ b) x ≡ (is_in a x || is_in b x)
is_in-append [] b x = refl
is_in-append (y ∷ a) b x = ap (λ c. (y == x) || c) (is_in-append a b x) ∙ sym (or_assoc (y == x) (is_in a x) (is_in b x))

-- the next request of a part is new to some numbers, and those behind it are
pub new_at : (before : List ℕ) (part : List Sealed) (p : ℕ) (s : Sealed) → p < length part → s ≡ get_or part p s → are_new before (drop p part) ≡ (not (is_in before s.id) && are_new (before ++ s.id ∷ []) (drop (suc p) part))
new_at before part p s within is =
    ap (are_new before) (drop-cons part p s within) ∙ (λ i. not (is_in before (sym is i).id) && are_new (before ++ (sym is i).id ∷ []) (drop (suc p) part))

numbers_of-more : (part : List Sealed) (p : ℕ) (s : Sealed) → p < length part → s ≡ get_or part p s → numbers_of (take (p + 1) part) ≡ numbers_of (take p part) ++ s.id ∷ []
numbers_of-more part p s within is =
    ap numbers_of (take_more part p s within) ∙ map-append (λ (x : Sealed). x.id) (take p part) (get_or part p s ∷ []) ∙ ap (λ (x : Sealed). numbers_of (take p part) ++ x.id ∷ []) (sym is)

-- how far a part was looked at: what is left is new where all is, and a set has the numbers so far
pub record AreSeen (front : List ℕ) (part : List Sealed) (has : ℕ → Bool) (p : ℕ) : Type 0 where
  pub new : are_new (front ++ numbers_of (take p part)) (drop p part) ≡ are_new front part
  pub seen : (q : ℕ) → has q ≡ is_in (numbers_of (take p part)) q

pub none_seen : (front : List ℕ) (part : List Sealed) (has : ℕ → Bool) → ((q : ℕ) → has q ≡ false) → AreSeen front part has 0
none_seen front [] has h = record { new = ap (λ l. are_new l []) (append-nil front); seen = h }
none_seen front (s ∷ part) has h = record { new = ap (λ l. are_new l (s ∷ part)) (append-nil front); seen = h }

stands_by : (a b : Bool) (c : Bool) → (a || b) ≡ true → (not (a || b) && c) ≡ false
stands_by a b c h = λ i. not (h i) && c

-- a number that stands already
pub seen_twice : (front : List ℕ) (part : List Sealed) (has : ℕ → Bool) (p : ℕ) (s : Sealed) → p < length part → s ≡ get_or part p s → AreSeen front part has p → (is_in front s.id || has s.id) ≡ true → are_new front part ≡ false
seen_twice front part has p s within is so_far stands =
    let there : is_in (front ++ numbers_of (take p part)) s.id ≡ true = is_in-append front (numbers_of (take p part)) s.id ∙ ap (λ b. is_in front s.id || b) (sym (so_far.seen s.id)) ∙ stands in
    sym so_far.new ∙ new_at (front ++ numbers_of (take p part)) part p s within is ∙ ap (λ b. not b && are_new ((front ++ numbers_of (take p part)) ++ s.id ∷ []) (drop (suc p) part)) there

fresh_by : (a b : Bool) → a ≡ false → (not a && b) ≡ b
fresh_by a b h = λ i. not (h i) && b

or_false : (b : Bool) → (b || false) ≡ b
or_false true = refl
or_false false = refl

put_by : (b c : Bool) → cond b true c ≡ (c || (b || false))
put_by true true = refl
put_by true false = refl
put_by false true = refl
put_by false false = refl

-- one more number
pub see_more : (front : List ℕ) (part : List Sealed) (has has' : ℕ → Bool) (p : ℕ) (s : Sealed) → p < length part → s ≡ get_or part p s → AreSeen front part has p → is_in front s.id ≡ false → has s.id ≡ false → ((q : ℕ) → has' q ≡ cond (s.id == q) true (has q))
    → AreSeen front part has' (p + 1)
see_more front part has has' p s within is so_far off unseen put =
    let n : List ℕ = numbers_of (take p part) in
    let fresh : is_in (front ++ n) s.id ≡ false = is_in-append front n s.id ∙ (λ i. off i || (sym (so_far.seen s.id) ∙ unseen) i) in
    let more : numbers_of (take (p + 1) part) ≡ n ++ s.id ∷ [] = numbers_of-more part p s within is in
    record {
      new = (λ i. are_new (front ++ more i) (drop (add-one p i) part)) ∙ ap (λ l. are_new l (drop (suc p) part)) (sym (append_assoc front n (s.id ∷ [])))
          ∙ sym (fresh_by (is_in (front ++ n) s.id) _ fresh) ∙ sym (new_at (front ++ n) part p s within is) ∙ so_far.new;
      seen = λ q. put q ∙ ap (cond (s.id == q) true) (so_far.seen q) ∙ put_by (s.id == q) (is_in n q) ∙ sym (is_in-append n (s.id ∷ []) q) ∙ ap (λ l. is_in l q) (sym more);
    }

pub all_seen : (front : List ℕ) (part : List Sealed) (has : ℕ → Bool) (p : ℕ) → p ≡ length part → AreSeen front part has p → are_new front part ≡ true
all_seen front part has p end so_far = sym so_far.new ∙ ap (are_new (front ++ numbers_of (take p part))) (drop_all p part (omega arith))

-- requests that are decided come behind those of the log
requests_behind : (log : List Entry) (part : List Sealed) → requests_of (decided_behind log part) ≡ requests_of log ++ part
requests_behind log [] = sym (append-nil (requests_of log))
requests_behind log (s ∷ part) =
    requests_behind (log ++ decide log s ∷ []) part ∙ ap (λ l. l ++ part) (map-append (λ (e : Entry). e.sealed) log (decide log s ∷ [])) ∙ append_assoc (requests_of log) (s ∷ []) part

ids_of : (log : List Entry) → ids log ≡ numbers_of (requests_of log)
ids_of [] = refl
ids_of (e ∷ log) = ap (λ l. e.sealed.id ∷ l) (ids_of log)

fitted_by : (b : Bool) (x new : List Entry) → cond b (Some x) None ≡ Some new → x ≡ new
fitted_by true x new is = cc
fitted_by false x new is = absurd (cc)

-- a log that was fitted has the requests that it keeps, and the rest of the part
pub fitted_requests : (log : List Entry) (from : ℕ) (part : List Sealed) (new : List Entry) → fitted log from part ≡ Some new
    → requests_of new ≡ requests_of (take (kept log from part) log) ++ drop (agreed (drop from log) part) part
fitted_requests log from part new is =
    ap requests_of (sym (fitted_by (can_fit log from part) _ new is)) ∙ requests_behind (take (kept log from part) log) (drop (agreed (drop from log) part) part)

-- and their numbers
pub fitted_ids : (log : List Entry) (from : ℕ) (part : List Sealed) (new : List Entry) → fitted log from part ≡ Some new
    → ids new ≡ ids (take (kept log from part) log) ++ numbers_of (drop (agreed (drop from log) part) part)
fitted_ids log from part new is =
    let stay : List Entry = take (kept log from part) log in
    let rest : List Sealed = drop (agreed (drop from log) part) part in
    ids_of new ∙ ap numbers_of (fitted_requests log from part new is) ∙ map-append (λ (s : Sealed). s.id) (requests_of stay) rest ∙ ap (λ l. l ++ numbers_of rest) (sym (ids_of stay))

-- and its parts from a place within the entries that it keeps
pub fitted_part : (log : List Entry) (from : ℕ) (part : List Sealed) (new : List Entry) (start : ℕ) → fitted log from part ≡ Some new → start ≤ length (take (kept log from part) log)
    → part_of new start ≡ part_of (take (kept log from part) log) start ++ drop (agreed (drop from log) part) part
fitted_part log from part new start is within =
    let stay : List Entry = take (kept log from part) log in
    let rest : List Sealed = drop (agreed (drop from log) part) part in
    let long : start ≤ length (requests_of stay) = omega (arith, length-map stay (λ (e : Entry). e.sealed)) in
    sym (drop-map (λ (e : Entry). e.sealed) start new) ∙ ap (drop start) (fitted_requests log from part new is) ∙ drop-append-le start (requests_of stay) rest long
    ∙ ap (λ l. l ++ rest) (drop-map (λ (e : Entry). e.sealed) start stay)
