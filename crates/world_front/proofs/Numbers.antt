-- No two requests of a front have one number.
use Prim.Native.Nat.{zero, suc}
use Rattle.std.proofs.Common.{◌≡◌, ◌∙◌, ℕ, ◌+◌, ◌-◌, ◌*◌, ◌<◌, ◌≤◌, ◌==◌, List, [], ◌∷◌, ◌++◌, Bool, true, false, if◌then◌else◌, Option, Some, None, Result, Ok, Err, length, refl, sym, ap, subst, arith, append_assoc}
use Rattle.std.specs.Prelude.{slice_get, slice_set}
use Rattle.std.specs.Cmp.{unsigned_Decides}
use Rattle.store_core.specs.Request.{Sealed}
use Rattle.group_model_whole.specs.Each.{Each}
use Rattle.group_model_whole.specs.Group.{submitted}
use Rattle.group_model_whole.specs.Asked.{IsAsked}
use Rattle.world_front.specs.ControlPlane.{Session, session_of, if_open, session_at, if_ok}
use Rattle.world_front.specs.Event.{Fault, NoSession}
pub use Rattle.world_front.specs.Stands.{next_in, next_at, IsGiven}

-- no session goes back
pub record Onward (old new : List Session) : Type 0 where
  pub onward : (n : ℕ) → next_at old n ≤ next_at new n

pub given_later : (old new : List Session) (id : ℕ) → Onward old new → IsGiven old id → IsGiven new id
given_later old new id on h = record {
  session = h.session;
  number = h.number;
  is = h.is;
  past = let a : next_at old h.session ≤ next_at new h.session = on.onward h.session in let b : h.number < next_at old h.session = h.past in omega arith;
}

-- ---- a new session, and a changed one

pub pushed_onward : (sessions : List Session) (s : Session) → Onward sessions (sessions ++ s ∷ [])
pushed_onward sessions s = record { onward = λ n. go sessions (n - 1) }
  where
    go : (ss : List Session) (i : ℕ) → next_in (slice_get ss i) ≤ next_in (slice_get (ss ++ s ∷ []) i)
    go [] i = omega arith
    go (x ∷ xs) zero = omega arith
    go (x ∷ xs) (suc i) = go xs i

pub pushed_most : (sessions : List Session) (s : Session) (most : ℕ) → s.next ≤ most → ((n : ℕ) → next_at sessions n ≤ most) → (n : ℕ) → next_at (sessions ++ s ∷ []) n ≤ most
pushed_most sessions s most here all n = go sessions (n - 1) (all_in sessions all)
  where
    all_in : (ss : List Session) → ((k : ℕ) → next_at ss k ≤ most) → (i : ℕ) → next_in (slice_get ss i) ≤ most
    all_in ss h i = let a : next_at ss (suc i) ≤ most = h (suc i) in let e : suc i - 1 ≡ i = omega arith in subst (λ j. next_in (slice_get ss j) ≤ most) e a

    go : (ss : List Session) (i : ℕ) → ((j : ℕ) → next_in (slice_get ss j) ≤ most) → next_in (slice_get (ss ++ s ∷ []) i) ≤ most
    go [] zero h = here
    go [] (suc i) h = omega arith
    go (x ∷ xs) zero h = h zero
    go (x ∷ xs) (suc i) h = go xs i (λ j. h (suc j))

set_onward : (sessions : List Session) (i : ℕ) (old new : Session) → slice_get sessions i ≡ Some old → old.next ≤ new.next → (j : ℕ) → next_in (slice_get sessions j) ≤ next_in (slice_get (slice_set sessions i new) j)
set_onward [] i old new is up j = absurd (cc)
set_onward (x ∷ xs) zero old new is up zero = let same : x ≡ old = cc in let e : x.next ≡ old.next = ap (λ s. s.next) same in omega arith
set_onward (x ∷ xs) zero old new is up (suc j) = omega arith
set_onward (x ∷ xs) (suc i) old new is up zero = omega arith
set_onward (x ∷ xs) (suc i) old new is up (suc j) = set_onward xs i old new is up j

set_most : (sessions : List Session) (i : ℕ) (new : Session) (most : ℕ) → new.next ≤ most → ((j : ℕ) → next_in (slice_get sessions j) ≤ most) → (j : ℕ) → next_in (slice_get (slice_set sessions i new) j) ≤ most
set_most [] i new most here all j = all j
set_most (x ∷ xs) zero new most here all zero = here
set_most (x ∷ xs) zero new most here all (suc j) = all (suc j)
set_most (x ∷ xs) (suc i) new most here all zero = all zero
set_most (x ∷ xs) (suc i) new most here all (suc j) = set_most xs i new most here (λ k. all (suc k)) j

set_here : (sessions : List Session) (i : ℕ) (old new : Session) → slice_get sessions i ≡ Some old → next_in (slice_get (slice_set sessions i new) i) ≡ new.next
set_here [] i old new is = absurd (cc)
set_here (x ∷ xs) zero old new is = refl
set_here (x ∷ xs) (suc i) old new is = set_here xs i old new is

-- ---- an open session

opened_by : (o : Option Session) (s : Session) → if_open o ≡ Ok s → o ≡ Some s
opened_by None s h = absurd (cc)
opened_by (Some t) s h = go t.is_closed h
  where
    go : (b : Bool) → (if b then Err NoSession else Ok t) ≡ Ok s → Some t ≡ Some s
    go true e = absurd (cc)
    go false e = let same : t ≡ s = cc in ap (λ v. Some v) same

pub open_is : (sessions : List Session) (n : ℕ) (s : Session) → session_of sessions n ≡ Ok s → slice_get sessions (n - 1) ≡ Some s
open_is sessions n s h = go (n == 0) h
  where
    go : (b : Bool) → (if b then Err NoSession else if_open (slice_get sessions (n - 1))) ≡ Ok s → slice_get sessions (n - 1) ≡ Some s
    go true e = absurd (cc)
    go false e = opened_by (slice_get sessions (n - 1)) s e

-- a change of an open session that does not lower its next number
pub at_onward : (sessions : List Session) (n : ℕ) (change : Session → Session) → ((s : Session) → s.next ≤ (change s).next) → Onward sessions (session_at sessions n change)
at_onward sessions n change up = record { onward = λ k. go (session_of sessions n) refl (k - 1) }
  where
    go : (r : Result Session Fault) → session_of sessions n ≡ r → (j : ℕ) → next_in (slice_get sessions j) ≤ next_in (slice_get (if_ok r sessions (λ s. slice_set sessions (n - 1) (change s))) j)
    go (Err f) is j = omega arith
    go (Ok s) is j = set_onward sessions (n - 1) s (change s) (open_is sessions n s is) (up s) j

pub at_most : (sessions : List Session) (n : ℕ) (change : Session → Session) (most least : ℕ) → least ≤ most → ((s : Session) → s.next ≤ least → (change s).next ≤ most) → ((k : ℕ) → next_at sessions k ≤ least) → (k : ℕ) → next_at (session_at sessions n change) k ≤ most
at_most sessions n change most least more up all k = go (session_of sessions n) refl
  where
    all_in : (i : ℕ) → next_in (slice_get sessions i) ≤ most
    all_in i = let a : next_at sessions (suc i) ≤ least = all (suc i) in let e : suc i - 1 ≡ i = omega arith in let b : next_in (slice_get sessions i) ≤ least = subst (λ j. next_in (slice_get sessions j) ≤ least) e a in omega arith

    go : (r : Result Session Fault) → session_of sessions n ≡ r → next_in (slice_get (if_ok r sessions (λ s. slice_set sessions (n - 1) (change s))) (k - 1)) ≤ most
    go (Err f) is = all_in (k - 1)
    go (Ok s) is =
        let here : s.next ≤ least = subst (λ o. next_in o ≤ least) (open_is sessions n s is) (all n) in
        set_most sessions (n - 1) (change s) most (up s here) all_in (k - 1)

-- ---- consecutive numbers

abbrev pub NumberedFrom : ℕ → ℕ → List Sealed → Type 0
NumberedFrom session number [] = Unit {0}
NumberedFrom session number (s ∷ ss) = (s.id ≡ session * 4294967296 + number) × NumberedFrom session (number + 1) ss

-- where no request has a number, a new one is found under it
asked_found : (rs : List Sealed) (id : ℕ) (s : Sealed) → Each (λ r. r.id ≡ id → ⊥) rs → s.id ≡ id → submitted (rs ++ s ∷ []) id ≡ Some s
asked_found [] id s h is = ap (λ b. if b then Some s else None) ((unsigned_Decides s.id id).1 is)
asked_found (r ∷ rs) id s h is = go (r.id == id) refl (asked_found rs id s h.1 is)
  where
    go : (b : Bool) → (r.id == id) ≡ b → submitted (rs ++ s ∷ []) id ≡ Some s → (if b then Some r else submitted (rs ++ s ∷ []) id) ≡ Some s
    go true e rest = absurd (h.0 ((unsigned_Decides r.id id).0 e))
    go false e rest = rest

-- what is found stays
pub asked_later : (rs more : List Sealed) (s : Sealed) → IsAsked rs s → IsAsked (rs ++ more) s
asked_later [] more s is = absurd (cc)
asked_later (r ∷ rs) more s is = go (r.id == s.id) is (λ k. asked_later rs more s k)
  where
    go : (b : Bool) → (if b then Some r else submitted rs s.id) ≡ Some s → (IsAsked rs s → IsAsked (rs ++ more) s) → (if b then Some r else submitted (rs ++ more) s.id) ≡ Some s
    go true e rest = e
    go false e rest = rest e

all_below : (session bound : ℕ) → List Sealed → Type 0
all_below session bound rs = Each (λ r. (n : ℕ) × (q : ℕ) × (r.id ≡ n * 4294967296 + q) × (q < 4294967296) × (n ≡ session → q < bound)) rs

apart_from : (session bound : ℕ) → bound < 4294967296 → (rs : List Sealed) → all_below session bound rs → Each (λ r. r.id ≡ session * 4294967296 + bound → ⊥) rs
unfolding all_below
apart_from session bound small [] h = tt
apart_from session bound small (r ∷ rs) h = (λ is. clash r.id h.0.0 h.0.1 h.0.2 h.0.3 h.0.4 is, apart_from session bound small rs h.1)
  where
    clash : (id n q : ℕ) → id ≡ n * 4294967296 + q → q < 4294967296 → (n ≡ session → q < bound) → id ≡ session * 4294967296 + bound → ⊥
    clash id n q e low same is =
        let s : n ≡ session = omega arith in
        let t : q < bound = same s in
        omega arith

below_more : (session bound : ℕ) (rs : List Sealed) (s : Sealed) → bound < 4294967296 → all_below session bound rs → s.id ≡ session * 4294967296 + bound → all_below session (bound + 1) (rs ++ s ∷ [])
unfolding all_below
below_more session bound [] s small h is = ((session, bound, is, small, λ e. omega arith), tt)
below_more session bound (r ∷ rs) s small h is = ((h.0.0, h.0.1, h.0.2, h.0.3, λ e. let t : h.0.1 < bound = h.0.4 e in omega arith), below_more session bound rs s small h.1 is)

-- new requests with consecutive numbers are found among all
news_asked : (session number : ℕ) (rs news : List Sealed) → all_below session number rs → number + length news ≤ 4294967296 → NumberedFrom session number news → Each (IsAsked (rs ++ news)) news
news_asked session number rs [] below few numbered = tt
news_asked session number rs (s ∷ ss) below few numbered =
    let small : number < 4294967296 = omega arith in
    let first : IsAsked (rs ++ s ∷ []) s = asked_found rs s.id s (subst (λ i. Each (λ r. r.id ≡ i → ⊥) rs) (sym numbered.0) (apart_from session number small rs below)) refl in
    let joined : (rs ++ s ∷ []) ++ ss ≡ rs ++ s ∷ ss = append_assoc rs (s ∷ []) ss in
    let P : List Sealed → Type 0 = λ l. IsAsked l s in
    let Q : List Sealed → Type 0 = λ l. Each (IsAsked l) ss in (
      subst P joined (asked_later (rs ++ s ∷ []) ss s first),
      subst Q joined (news_asked session (number + 1) (rs ++ s ∷ []) ss (below_more session number rs s small below numbered.0) (omega arith) numbered.1),
    )

given_below : (sessions : List Session) (session bound : ℕ) → next_at sessions session ≡ bound → ((n : ℕ) → next_at sessions n ≤ 4294967296) → (rs : List Sealed) → Each (λ r. IsGiven sessions r.id) rs → all_below session bound rs
unfolding all_below
given_below sessions session bound is few [] h = tt
given_below sessions session bound is few (r ∷ rs) h =
    let g = h.0 in
    let low : next_at sessions g.session ≤ 4294967296 = few g.session in
    let past : g.number < next_at sessions g.session = g.past in
    ((g.session, g.number, g.is, omega arith, λ e. let m : next_at sessions g.session ≡ bound = ap (next_at sessions) e ∙ is in omega arith), given_below sessions session bound is few rs h.1)

-- the requests of one event
pub all_asked : (sessions : List Session) (session number : ℕ) (rs news : List Sealed) → next_at sessions session ≡ number → ((n : ℕ) → next_at sessions n ≤ 4294967296) → number + length news ≤ 4294967296
    → Each (λ r. IsGiven sessions r.id) rs → NumberedFrom session number news → Each (IsAsked (rs ++ news)) news
all_asked sessions session number rs news is few room given numbered = news_asked session number rs news (given_below sessions session number is few rs given) room numbered

pub news_given : (sessions : List Session) (session number : ℕ) (news : List Sealed) → number + length news ≤ next_at sessions session → NumberedFrom session number news → Each (λ r. IsGiven sessions r.id) news
news_given sessions session number [] room numbered = tt
news_given sessions session number (s ∷ ss) room numbered =
    (record { session = session; number = number; is = numbered.0; past = omega arith }, news_given sessions session (number + 1) ss (omega arith) numbered.1)

-- the next number of a session after its requests
pub at_here : (sessions : List Session) (n : ℕ) (s : Session) (change : Session → Session) → session_of sessions n ≡ Ok s → next_at (session_at sessions n change) n ≡ (change s).next
at_here sessions n s change is =
    ap (λ r. next_in (slice_get (if_ok r sessions (λ t. slice_set sessions (n - 1) (change t))) (n - 1))) is
    ∙ set_here sessions (n - 1) s (change s) (open_is sessions n s is)
