-- Logs that are not yet fitted: what they will have, and with how many entries others begin like them.
use Prim.Native.Nat.{zero}
use Rattle.std.proofs.Common.{ℕ, suc, ◌≡◌, ◌≤◌, ◌<◌, ◌+◌, ◌-◌, ◌==◌, ◌&&◌, Bool, true, false, cond, leb, List, [], ◌∷◌, ◌++◌, length, take, drop, min, refl, sym, ap, ◌∙◌, arith, append-nil, append_assoc}
use Rattle.std.specs.Prelude.{Some, None}
use Rattle.std.proofs.lemmas.Bool.{eq-eqb, eqb-true}
use Rattle.std.proofs.lemmas.Bool.Decides.{nat_tests}
use Rattle.std.proofs.lemmas.List.{take_all, take-map, drop-map, length-append, length-map, length-take-le, map-append}
use Rattle.std.proofs.Math.Seq.{drop-append_seam, take-append_seam}
use Rattle.entry_core.specs.Log.{decide, ids}
use Rattle.entry_core.specs.Fitting.{requests_of, part_of, agreed, decided_behind, kept, can_fit, fitted}
use Rattle.entry_core.proofs.Fitting.{numbers_of}
use Rattle.peer_core.specs.Types.{Sealed, Entry, Offer}
use Rattle.group_messages.specs.Beginnings.{common, told_ids}
use Rattle.group_messages.proofs.Alike.{common_none, common_within, common_short, common_long, ids-length, ids-take, ids-drop}
use Rattle.peer_core.proofs.Told.{take_none, parts, goes_on}

-- lists

drop_none : {X : Type 0} (n : ℕ) → drop n (let none : List X = [] in none) ≡ []
drop_none zero = refl
drop_none (suc n) = refl

pub drop_front : {X : Type 0} (n k : ℕ) (xs : List X) → drop n (take k xs) ≡ take (k - n) (drop n xs)
drop_front zero k xs = let same : k ≡ k - 0 = omega arith in ap (λ m. take m xs) same
drop_front (suc n) zero xs = let none : 0 ≡ zero - suc n = omega arith in ap (λ m. take m (drop (suc n) xs)) none
drop_front (suc n) (suc k) [] = sym (take_none (suc k - suc n))
drop_front (suc n) (suc k) (x ∷ xs) = let same : k - n ≡ suc k - suc n = omega arith in drop_front n k xs ∙ ap (λ m. take m (drop n xs)) same

-- a place behind a list's end is as good as its end
pub drop_min : {X : Type 0} (n : ℕ) (xs : List X) (t : ℕ) → t ≡ min n (length xs) → drop t xs ≡ drop n xs
drop_min n [] t is = drop_none t ∙ sym (drop_none n)
drop_min zero (x ∷ xs) zero is = refl
drop_min zero (x ∷ xs) (suc t) is = absurd (omega arith)
drop_min (suc n) (x ∷ xs) zero is = absurd (omega arith)
drop_min (suc n) (x ∷ xs) (suc t) is = drop_min n xs t (omega arith)

drop_both : {X : Type 0} (n : ℕ) (xs ys : List X) → drop n (xs ++ ys) ≡ drop n xs ++ drop (n - length xs) ys
drop_both n [] ys = let same : n ≡ n - 0 = omega arith in ap (λ m. drop m ys) same ∙ ap (λ l. l ++ drop (n - 0) ys) (sym (drop_none n))
drop_both zero (x ∷ xs) ys = let none : 0 ≡ zero - length (x ∷ xs) = omega arith in ap (λ m. x ∷ (xs ++ drop m ys)) none
drop_both (suc n) (x ∷ xs) ys = let same : n - length xs ≡ suc n - length (x ∷ xs) = omega arith in drop_both n xs ys ∙ ap (λ m. drop n xs ++ drop m ys) same

-- numbers that are the same

turned : (a b : ℕ) → (a == b) ≡ (b == a)
turned a b = go (a == b) (b == a) refl refl
  where
    go : (v w : Bool) → (a == b) ≡ v → (b == a) ≡ w → (a == b) ≡ (b == a)
    go true w is other = is ∙ sym (eq-eqb b a (sym (eqb-true a b is)))
    go false true is other = let same : (a == b) ≡ true = eq-eqb a b (sym (eqb-true b a other)) in absurd (cc)
    go false false is other = is ∙ sym other

pub common_turned : (xs ys : List ℕ) → common xs ys ≡ common ys xs
common_turned [] ys = sym (common_none ys)
common_turned (x ∷ xs) [] = refl
common_turned (x ∷ xs) (y ∷ ys) = λ i. cond (turned x y i) (suc (common_turned xs ys i)) 0

-- a list behind which another one comes

behind_short : (part xs ys : List ℕ) → common part xs < length xs → common part xs ≡ common part (xs ++ ys)
behind_short part xs ys short =
    let same : common part xs ≡ common xs part = common_turned part xs in
    same ∙ sym (common_short xs ys part (omega arith)) ∙ common_turned (xs ++ ys) part

behind_long : (part xs ys : List ℕ) (n : ℕ) → n ≡ common part xs → length xs ≤ n → n + common (drop n part) ys ≡ common part (xs ++ ys)
behind_long part xs ys n is long =
    let same : common part xs ≡ common xs part = common_turned part xs in
    let most : common xs part ≤ length xs = (common_within xs part).0 in
    let whole : n ≡ length xs = omega arith in
    (λ i. whole i + common (drop (whole i) part) ys) ∙ ap (λ m. length xs + m) (common_turned (drop (length xs) part) ys)
    ∙ sym (common_long xs ys part (omega arith)) ∙ common_turned (xs ++ ys) part

-- requests that are decided come behind those of the log

pub requests_behind : (log : List Entry) (part : List Sealed) → requests_of (decided_behind log part) ≡ requests_of log ++ part
requests_behind log [] = sym (append-nil (requests_of log))
requests_behind log (s ∷ part) =
    requests_behind (log ++ decide log s ∷ []) part ∙ ap (λ l. l ++ part) (map-append (λ (e : Entry). e.sealed) log (decide log s ∷ [])) ∙ append_assoc (requests_of log) (s ∷ []) part

ids_of : (log : List Entry) → ids log ≡ numbers_of (requests_of log)
ids_of [] = refl
ids_of (e ∷ log) = ap (λ l. e.sealed.id ∷ l) (ids_of log)

ids_behind : (log : List Entry) (part : List Sealed) → ids (decided_behind log part) ≡ ids log ++ numbers_of part
ids_behind log part =
    ids_of (decided_behind log part) ∙ ap numbers_of (requests_behind log part) ∙ map-append (λ (s : Sealed). s.id) (requests_of log) part ∙ ap (λ l. l ++ numbers_of part) (sym (ids_of log))

-- the log that a fitting makes

module _ (log : List Entry) (rest : List Sealed) (stays : ℕ) (within : stays ≤ length log) where
  long : length (take stays log) ≡ stays
  long = length-take-le stays log within

  ids_long : length (ids (take stays log)) ≡ stays
  ids_long = ids-length (take stays log) ∙ long

  pub part_from : (from : ℕ) → take (stays - from) (part_of log from) ++ drop (from - stays) rest ≡ part_of (decided_behind (take stays log) rest) from
  part_from from =
      let many : length (requests_of (take stays log)) ≡ stays = length-map (take stays log) (λ (e : Entry). e.sealed) ∙ long in
      let front : take (stays - from) (part_of log from) ≡ drop from (requests_of (take stays log)) =
      take-map (λ (e : Entry). e.sealed) (stays - from) (drop from log) ∙ ap requests_of (sym (drop_front from stays log)) ∙ sym (drop-map (λ (e : Entry). e.sealed) from (take stays log)) in
      (λ i. front i ++ drop (from - sym many i) rest)
      ∙ sym (drop_both from (requests_of (take stays log)) rest)
      ∙ ap (drop from) (sym (requests_behind (take stays log) rest))
      ∙ drop-map (λ (e : Entry). e.sealed) from (decided_behind (take stays log) rest)

  ids_from : (place : ℕ) → drop place (ids (decided_behind (take stays log) rest)) ≡ ids (drop place (take stays log)) ++ numbers_of (drop (place - stays) rest)
  ids_from place =
      ap (drop place) (ids_behind (take stays log) rest)
      ∙ drop_both place (ids (take stays log)) (numbers_of rest)
      ∙ (λ i. sym (ids-drop place (take stays log)) i ++ drop (place - ids_long i) (numbers_of rest))
      ∙ ap (λ l. ids (drop place (take stays log)) ++ l) (drop-map (λ (s : Sealed). s.id) (place - stays) rest)

  -- requests that end among the entries that stay, or behind them

  pub alike_short : (place : ℕ) (part : List ℕ) (entries : List Entry) (n : ℕ) → entries ≡ drop place (take stays log) → n ≡ common part (ids entries) → n < length entries →
      n ≡ common part (drop place (ids (decided_behind (take stays log) rest)))
  alike_short place part entries n is n_is short =
      let many : length (ids entries) ≡ length entries = ids-length entries in
      n_is ∙ behind_short part (ids entries) (numbers_of (drop (place - stays) rest)) (omega arith)
      ∙ ap (common part) ((λ i. ids (is i) ++ numbers_of (drop (place - stays) rest)) ∙ sym (ids_from place))

  pub alike_long : (place : ℕ) (part : List ℕ) (entries : List Entry) (n : ℕ) → entries ≡ drop place (take stays log) → n ≡ common part (ids entries) → length entries ≤ n →
      n + common (drop n part) (numbers_of (drop (place - stays) rest)) ≡ common part (drop place (ids (decided_behind (take stays log) rest)))
  alike_long place part entries n is n_is all =
      let many : length (ids entries) ≡ length entries = ids-length entries in
      behind_long part (ids entries) (numbers_of (drop (place - stays) rest)) n n_is (omega arith)
      ∙ ap (common part) ((λ i. ids (is i) ++ numbers_of (drop (place - stays) rest)) ∙ sym (ids_from place))

  -- a log that was told

  front_ids : take stays (ids log) ≡ take stays (ids (decided_behind (take stays log) rest))
  front_ids =
      sym (ids-take stays log) ∙ sym (take-append_seam (ids (take stays log)) (numbers_of rest)) ∙ (λ i. take (ids_long i) (sym (ids_behind (take stays log) rest) i))

  log_within : stays ≤ length (ids log)
  log_within = let many : length (ids log) ≡ length log = ids-length log in omega arith

  new_within : stays ≤ length (ids (decided_behind (take stays log) rest))
  new_within =
      let all : length (ids (decided_behind (take stays log) rest)) ≡ length (ids (take stays log)) + length (numbers_of rest) =
      ap length (ids_behind (take stays log) rest) ∙ length-append (ids (take stays log)) (numbers_of rest) in
      let front : length (ids (take stays log)) ≡ stays = ids_long in
      omega arith

  told_alike : (told from n a : ℕ) → from ≡ min stays told → n ≡ told - from → a ≡ common (numbers_of rest) (ids (take n (drop from log))) →
      a ≡ common (take n (drop from (ids log))) (drop from (ids (decided_behind (take stays log) rest)))
  told_alike told from zero a from_is n_is is = is ∙ common_none (numbers_of rest)
  told_alike told from (suc n) a from_is n_is is =
      let all : stays ≡ from = omega arith in
      let seam : numbers_of rest ≡ drop from (ids (decided_behind (take stays log) rest)) =
      sym (drop-append_seam (ids (take stays log)) (numbers_of rest)) ∙ (λ i. drop ((ids_long ∙ all) i) (sym (ids_behind (take stays log) rest) i)) in
      is ∙ common_turned (numbers_of rest) (ids (take (suc n) (drop from log)))
      ∙ (λ i. common ((ids-take (suc n) (drop from log) ∙ ap (take (suc n)) (ids-drop from log)) i) (seam i))

  pub told_short : (offer : Offer) (told from a : ℕ) → told ≡ min offer.start (length log) → from ≡ min stays told → a ≡ common (numbers_of rest) (ids (take (told - from) (drop from log))) → from + a < told →
      from + a ≡ common (told_ids log offer) (ids (decided_behind (take stays log) rest))
  told_short offer told from a told_is from_is a_is short =
      parts (ids log) (ids (decided_behind (take stays log) rest)) offer.start stays told from a log_within new_within front_ids (told_is ∙ ap (min offer.start) (sym (ids-length log))) from_is
      (told_alike told from (told - from) a from_is refl a_is) (numbers_of offer.part) short
      ∙ ap (λ l. common (l ++ numbers_of offer.part) (ids (decided_behind (take stays log) rest))) (sym (ids-take offer.start log))

  pub told_long : (offer : Offer) (told from a : ℕ) → told ≡ min offer.start (length log) → from ≡ min stays told → a ≡ common (numbers_of rest) (ids (take (told - from) (drop from log))) → told ≤ from + a →
      told + common (numbers_of offer.part) (drop told (ids (decided_behind (take stays log) rest))) ≡ common (told_ids log offer) (ids (decided_behind (take stays log) rest))
  told_long offer told from a told_is from_is a_is all =
      goes_on (ids log) (ids (decided_behind (take stays log) rest)) offer.start stays told from a log_within new_within front_ids (told_is ∙ ap (min offer.start) (sym (ids-length log))) from_is
      (told_alike told from (told - from) a from_is refl a_is) (numbers_of offer.part) all
      ∙ ap (λ l. common (l ++ numbers_of offer.part) (ids (decided_behind (take stays log) rest))) (sym (ids-take offer.start log))

-- the entries that stay, from a place on
pub entries_between : (log : List Entry) (stays place start : ℕ) → stays ≤ length log → start ≡ min place stays → take (stays - start) (drop start log) ≡ drop place (take stays log)
entries_between log stays place start within is =
    let many : length (take stays log) ≡ stays = length-take-le stays log within in
    sym (drop_front start stays log) ∙ drop_min place (take stays log) start (is ∙ ap (min place) (sym many))

-- a log that stays as it is
pub whole_stays : (log : List Entry) (n : ℕ) (rest : List Sealed) → n ≡ length log → rest ≡ [] → decided_behind (take n log) rest ≡ log
whole_stays log n rest all none = (λ i. decided_behind (take (all i) log) (none i)) ∙ take_all (length log) log (omega arith)

-- a log that is fitted

agreed_common : (es : List Entry) (part : List Sealed) → agreed es part ≡ common (numbers_of part) (ids es)
agreed_common [] part = sym (common_none (numbers_of part))
agreed_common (e ∷ es) [] = refl
agreed_common (e ∷ es) (s ∷ part) = λ i. cond (turned e.sealed.id s.id i) (suc (agreed_common es part i)) 0

fitted_by : (b : Bool) (x new : List Entry) → cond b (Some x) None ≡ Some new → (b ≡ true) × (x ≡ new)
fitted_by true x new is = let same : x ≡ new = cc in (refl, same)
fitted_by false x new is = absurd (cc)

first_of : (a b : Bool) → (a && b) ≡ true → a ≡ true
first_of true b is = refl
first_of false b is = is

le_of : (a b : ℕ) → leb a b ≡ true → a ≤ b
le_of a b is = grind (arith, nat_tests)

pub fitted_becomes : (log : List Entry) (start : ℕ) (part : List Sealed) (new : List Entry) (s a : ℕ) → s ≡ min start (length log) → a ≡ common (numbers_of part) (ids (drop s log)) → fitted log start part ≡ Some new →
    decided_behind (take (s + a) log) (drop a part) ≡ new
fitted_becomes log start part new s a s_is a_is is =
    let both : (can_fit log start part ≡ true) × (decided_behind (take (kept log start part) log) (drop (agreed (drop start log) part) part) ≡ new) = fitted_by (can_fit log start part) _ new is in
    let within : start ≤ length log = le_of start (length log) (first_of (leb start (length log)) _ both.0) in
    let s_same : s ≡ start = omega arith in
    let a_same : a ≡ agreed (drop start log) part = a_is ∙ (λ i. common (numbers_of part) (ids (drop (s_same i) log))) ∙ sym (agreed_common (drop start log) part) in
    (λ i. decided_behind (take (s_same i + a_same i) log) (drop (a_same i) part)) ∙ both.1
