-- The sessions of a pass, where they stand, and the numbers that they give.
use Rattle.std.proofs.Common.{◌≡◌, ◌≢◌, ◌∙◌, ℕ, suc, ◌+◌, ◌<◌, ◌==◌, Bool, true, false, cond, List, [], ◌∷◌, Option, Some, None, length, get_or, refl, sym, ap, subst, arith}
use Rattle.std.specs.Prelude.{slice_get, slice_set, if◌then◌else◌}
use Rattle.std.specs.Option.{option_map}
use Rattle.std.specs.List.{position_from}
use Rattle.std.proofs.lemmas.Iterator.Adapters.{position_from-zero}
use Rattle.world_front.specs.Stands.{next_in}
use Rattle.world_front.specs.declared.session.Session.{Session}
use Rattle.world_front.proofs.Bytes.{number_same}
use Rattle.cluster.specs.declared.pass.OwnSession.{OwnSession}
use Rattle.cluster.specs.Sessions.{own_session, own_session_at, next_of}
use Rattle.cluster.specs.Asking.{own_place}
use Rattle.cluster_locks.proofs.Places.{get_at}

-- ---- where a session stands

abbrev stands : List OwnSession → ℕ → Option ℕ
stands [] n = None
stands (o ∷ os) n = if o.number == n then Some 0 else option_map suc (stands os n)

from_is : (own : List OwnSession) (n i : ℕ) → position_from (λ (o : OwnSession). o.number == n) i own ≡ option_map (λ k. i + k) (stands own n)
from_is [] n i = refl
from_is (o ∷ os) n i = go (o.number == n) (from_is os n (i + 1)) (stands os n) refl
  where
    raised : (found : Option ℕ) → option_map (λ k. (i + 1) + k) found ≡ option_map (λ k. i + k) (option_map suc found)
    raised None = refl
    raised (Some k) = ap (λ (j : ℕ). Some j) (omega arith)

    go : (b : Bool) → position_from (λ (o : OwnSession). o.number == n) (i + 1) os ≡ option_map (λ k. (i + 1) + k) (stands os n) → (found : Option ℕ) → stands os n ≡ found
        → cond b (Some i) (position_from (λ (o : OwnSession). o.number == n) (i + 1) os) ≡ option_map (λ k. i + k) (if b then Some 0 else option_map suc (stands os n))
    go true rest found is = ap (λ (j : ℕ). Some j) (omega arith)
    go false rest found is = rest ∙ raised (stands os n)

place_is : (own : List OwnSession) (n : ℕ) → own_place own n ≡ stands own n
place_is own n = position_from-zero (λ (o : OwnSession). o.number == n) own ∙ (from_is own n 0 ∙ same (stands own n))
  where
    same : (found : Option ℕ) → option_map (λ k. 0 + k) found ≡ found
    same None = refl
    same (Some k) = ap (λ (j : ℕ). Some j) (omega arith)

-- the session that stands there, and what changes with it
pub record StandsAt (own : List OwnSession) (n k : ℕ) : Type 0 where
  pub one : OwnSession
  pub there : slice_get own k ≡ Some one
  pub found : own_session own n ≡ Some one.session
  pub within : k < length own
  pub changed : (change : Session → Session) → own_session_at own n change ≡ slice_set own k (record one { session = change one.session })
  pub stays : (change : Session → Session) → stands (own_session_at own n change) n ≡ Some k

stands_here : (own : List OwnSession) (n k : ℕ) → stands own n ≡ Some k → StandsAt own n k
stands_here [] n k is = absurd (cc)
stands_here (o ∷ os) n k is = go (o.number == n) refl is (λ j e. stands_here os n j e)
  where
    here : (o.number == n) ≡ true → 0 ≡ k → StandsAt (o ∷ os) n k
    here this e = subst (StandsAt (o ∷ os) n) e (record {
      one = o;
      there = refl;
      found = ap (λ b. if b then Some o.session else own_session os n) this;
      within = omega arith;
      changed = λ change. ap (λ b. if b then record o { session = change o.session } ∷ os else o ∷ own_session_at os n change) this;
      stays = λ change. ap (λ b. stands (if b then record o { session = change o.session } ∷ os else o ∷ own_session_at os n change) n) this
          ∙ ap (λ b. if b then Some 0 else option_map suc (stands os n)) this;
    })

    later : (o.number == n) ≡ false → (j : ℕ) → StandsAt os n j → suc j ≡ k → StandsAt (o ∷ os) n k
    later this j h e = let below : j < length os = h.within in subst (StandsAt (o ∷ os) n) e (record {
      one = h.one;
      there = h.there;
      found = ap (λ b. if b then Some o.session else own_session os n) this ∙ h.found;
      within = omega arith;
      changed = λ change. ap (λ b. if b then record o { session = change o.session } ∷ os else o ∷ own_session_at os n change) this ∙ ap (λ l. o ∷ l) (h.changed change);
      stays = λ change. ap (λ b. stands (if b then record o { session = change o.session } ∷ os else o ∷ own_session_at os n change) n) this
          ∙ (ap (λ b. if b then Some 0 else option_map suc (stands (own_session_at os n change) n)) this ∙ ap (λ (f : Option ℕ). option_map suc f) (h.stays change));
    })

    among : (o.number == n) ≡ false → (found : Option ℕ) → stands os n ≡ found → option_map suc found ≡ Some k → ((j : ℕ) → stands os n ≡ Some j → StandsAt os n j) → StandsAt (o ∷ os) n k
    among this None e is rest = absurd (cc)
    among this (Some j) e is rest = let same : suc j ≡ k = cc in later this j (rest j e) same

    go : (b : Bool) → (o.number == n) ≡ b → (if b then Some 0 else option_map suc (stands os n)) ≡ Some k → ((j : ℕ) → stands os n ≡ Some j → StandsAt os n j) → StandsAt (o ∷ os) n k
    go true this is rest = let e : 0 ≡ k = cc in here this e
    go false this is rest = among this (stands os n) refl is rest

pub stands_at : (own : List OwnSession) (n k : ℕ) → own_place own n ≡ Some k → StandsAt own n k
stands_at own n k is = stands_here own n k (sym (place_is own n) ∙ is)

-- the session that was read there
pub read_at_place : (own : List OwnSession) (n k : ℕ) (r : OwnSession) (h : StandsAt own n k) → r ≡ get_or own k r → r ≡ h.one
read_at_place own n k r h is = let both : Some h.one ≡ Some r = sym h.there ∙ get_at own k r h.within is in cc

pub read_session : (own : List OwnSession) (n k : ℕ) (r : OwnSession) → own_place own n ≡ Some k → r ≡ get_or own k r → own_session own n ≡ Some r.session
read_session own n k r place is = let h = stands_at own n k place in h.found ∙ ap (λ (o : OwnSession). Some o.session) (sym (read_at_place own n k r h is))

pub place_stays : (own : List OwnSession) (n k : ℕ) (change : Session → Session) → own_place own n ≡ Some k → own_place (own_session_at own n change) n ≡ Some k
place_stays own n k change is = place_is (own_session_at own n change) n ∙ (stands_at own n k is).stays change

none_stands : (own : List OwnSession) (n : ℕ) → stands own n ≡ None → own_session own n ≡ None
none_stands [] n is = refl
none_stands (o ∷ os) n is = go (o.number == n) is (λ e. none_stands os n e)
  where
    go : (b : Bool) → (if b then Some 0 else option_map suc (stands os n)) ≡ None → (stands os n ≡ None → own_session os n ≡ None) → (if b then Some o.session else own_session os n) ≡ None
    go true is rest = absurd (cc)
    go false is rest = rest (none (stands os n) is)
      where
        none : (found : Option ℕ) → option_map suc found ≡ None → found ≡ None
        none None e = refl
        none (Some j) e = absurd (cc)

pub no_session : (own : List OwnSession) (n : ℕ) → own_place own n ≡ None → own_session own n ≡ None
no_session own n is = none_stands own n (sym (place_is own n) ∙ is)

-- ---- numbers

same_session_later : (own : List OwnSession) (n : ℕ) (change : Session → Session) → own_session (own_session_at own n change) n ≡ option_map change (own_session own n)
same_session_later [] n change = refl
same_session_later (o ∷ os) n change = go (o.number == n) refl (same_session_later os n change)
  where
    go : (b : Bool) → (o.number == n) ≡ b → own_session (own_session_at os n change) n ≡ option_map change (own_session os n)
        → own_session (if b then record o { session = change o.session } ∷ os else o ∷ own_session_at os n change) n ≡ option_map change (if b then Some o.session else own_session os n)
    go true this rest = ap (λ b. if b then Some (change o.session) else own_session os n) this
    go false this rest = ap (λ b. if b then Some o.session else own_session (own_session_at os n change) n) this ∙ rest

other_session_later : (own : List OwnSession) (n m : ℕ) (change : Session → Session) → m ≢ n → own_session (own_session_at own n change) m ≡ own_session own m
other_session_later [] n m change apart = refl
other_session_later (o ∷ os) n m change apart = go (o.number == n) refl (other_session_later os n m change apart)
  where
    not_it : (o.number == n) ≡ true → (b : Bool) → (o.number == m) ≡ b → b ≡ false
    not_it this false e = refl
    not_it this true e = absurd (apart (sym (number_same o.number m e) ∙ number_same o.number n this))

    go : (b : Bool) → (o.number == n) ≡ b → own_session (own_session_at os n change) m ≡ own_session os m
        → own_session (if b then record o { session = change o.session } ∷ os else o ∷ own_session_at os n change) m ≡ (if o.number == m then Some o.session else own_session os m)
    go true this rest = let e : (o.number == m) ≡ false = not_it this (o.number == m) refl in
        ap (λ b. if b then Some (change o.session) else own_session os m) e ∙ sym (ap (λ b. if b then Some o.session else own_session os m) e)
    go false this rest = ap (λ (r : Option Session). if o.number == m then Some o.session else r) rest

-- one number more was given
pub one_given : (own : List OwnSession) (n : ℕ) (change : Session → Session) (s : Session) → own_session own n ≡ Some s → (change s).next ≡ s.next + 1 → next_of (own_session_at own n change) n ≡ next_of own n + 1
one_given own n change s has more =
    ap next_in (same_session_later own n change) ∙ (ap (λ (o : Option Session). next_in (option_map change o)) has ∙ (more ∙ ap (λ (o : Option Session). next_in o + 1) (sym has)))

pub none_given : (own : List OwnSession) (n m : ℕ) (change : Session → Session) → m ≢ n → next_of (own_session_at own n change) m ≡ next_of own m
none_given own n m change apart = ap next_in (other_session_later own n m change apart)

pub next_is : (own : List OwnSession) (n : ℕ) (s : Session) → own_session own n ≡ Some s → next_of own n ≡ s.next
next_is own n s has = ap next_in has
