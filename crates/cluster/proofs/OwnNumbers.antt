-- The sessions of a pass, by their numbers, as more are opened and tickets renewed.
use Prim.Native.Nat.{zero, suc}
use mathlib.Core.Logic.{dite}
use native.Mathlib.Decide.{ℕ_discrete}
use Rattle.std.proofs.Common.{◌≡◌, ◌≢◌, ℕ, ◌+◌, ◌<◌, ◌≤◌, ◌==◌, ◌∙◌, Bool, true, false, if◌then◌else◌, List, [], ◌∷◌, ◌++◌, length, set, refl, sym, ap, subst, arith}
use Rattle.std.specs.Prelude.{None, Some, slice_get}
use Rattle.std.specs.Cmp.{unsigned_Decides}
use Rattle.world_front.proofs.Bytes.{number_same}
use Rattle.world_front.specs.Stands.{next_in}
use Rattle.world_front.specs.declared.session.Session.{Session}
use Rattle.cluster.specs.declared.pass.OwnSession.{OwnSession}
use Rattle.cluster.specs.Sessions.{own_session, own_session_at, next_of}

-- one more session has given no number yet
module _ (o : OwnSession) (fresh : o.session.next ≡ 1) where
  pub more_up : (own : List OwnSession) (s n : ℕ) → n < next_of own s → n < next_of (own ++ o ∷ []) s
  more_up [] s n h = let k : n < 0 = h in absurd (omega arith)
  more_up (p ∷ own) s n h = go (p.number == s) h (λ k. more_up own s n k)
    where
      go : (b : Bool) → n < next_in (if b then Some p.session else own_session own s) → (n < next_of own s → n < next_of (own ++ o ∷ []) s) → n < next_in (if b then Some p.session else own_session (own ++ o ∷ []) s)
      go true k rest = k
      go false k rest = rest k

  pub more_down : (own : List OwnSession) (s n : ℕ) → 1 ≤ n → n < next_of (own ++ o ∷ []) s → n < next_of own s
  more_down [] s n far h = go (o.number == s) h
    where
      go : (b : Bool) → n < next_in (if b then Some o.session else None) → n < 0
      go true k = absurd (omega arith)
      go false k = k
  more_down (p ∷ own) s n far h = go (p.number == s) h (λ k. more_down own s n far k)
    where
      go : (b : Bool) → n < next_in (if b then Some p.session else own_session (own ++ o ∷ []) s) → (n < next_of (own ++ o ∷ []) s → n < next_of own s) → n < next_in (if b then Some p.session else own_session own s)
      go true k rest = k
      go false k rest = rest k

-- a change of one session that keeps the number of its next request
pub same_next : (change : Session → Session) → ((s : Session) → (change s).next ≡ s.next) → (own : List OwnSession) (n s : ℕ) → next_of (own_session_at own n change) s ≡ next_of own s
same_next change keeps [] n s = refl
same_next change keeps (o ∷ own) n s = go (o.number == n) (same_next change keeps own n s)
  where
    here : (d : Bool) → next_in (if d then Some (change o.session) else own_session own s) ≡ next_in (if d then Some o.session else own_session own s)
    here true = keeps o.session
    here false = refl

    there : (d : Bool) → next_of (own_session_at own n change) s ≡ next_of own s → next_in (if d then Some o.session else own_session (own_session_at own n change) s) ≡ next_in (if d then Some o.session else own_session own s)
    there true rest = refl
    there false rest = rest

    go : (b : Bool) → next_of (own_session_at own n change) s ≡ next_of own s → next_of (if b then record o { session = change o.session } ∷ own else o ∷ own_session_at own n change) s ≡ next_of (o ∷ own) s
    go true rest = here (o.number == s)
    go false rest = there (o.number == s) rest

-- ---- the place of a session

pub is_same : (a n : ℕ) → a ≡ n → (a == n) ≡ true
is_same a n e = (unsigned_Decides a n).1 e

pub not_same : (a n : ℕ) → a ≢ n → (a == n) ≡ false
not_same a n other = go (a == n) refl
  where
    go : (b : Bool) → (a == n) ≡ b → b ≡ false
    go true e = absurd (other (number_same a n e))
    go false e = refl

-- none of the first k has this number
abbrev pub NoneBefore : List OwnSession → ℕ → ℕ → Type 0
NoneBefore own n k = (j : ℕ) (o : OwnSession) → j < k → slice_get own j ≡ Some o → (o.number == n) ≡ false

pub none_first : (own : List OwnSession) (n : ℕ) → NoneBefore own n 0
none_first own n j o h at = absurd (omega arith)

pub none_next : (own : List OwnSession) (n k : ℕ) (o : OwnSession) → slice_get own k ≡ Some o → (o.number == n) ≡ false → NoneBefore own n k → NoneBefore own n (k + 1)
none_next own n k o at is none j p h there = dite (ℕ_discrete j k)
    (λ same. let both : Some o ≡ Some p = sym at ∙ (ap (slice_get own) (sym same) ∙ there) in let e : o ≡ p = cc in subst (λ (q : OwnSession). (q.number == n) ≡ false) e is)
    (λ other. none j p (omega arith) there)

none_later : (p : OwnSession) (own : List OwnSession) (n k : ℕ) → NoneBefore (p ∷ own) n (suc k) → NoneBefore own n k
none_later p own n k none j o h at = none (suc j) o (omega arith) at

pub changed_at : (own : List OwnSession) (n k : ℕ) (o : OwnSession) (change : Session → Session) → slice_get own k ≡ Some o → (o.number == n) ≡ true → NoneBefore own n k → own_session_at own n change ≡ set own k (record o { session = change o.session })
changed_at [] n k o change at is none = absurd (cc)
changed_at (p ∷ own) n zero o change at is none =
    let both : Some p ≡ Some o = at in let e : p ≡ o = cc in
    subst (λ (q : OwnSession). own_session_at (q ∷ own) n change ≡ record o { session = change o.session } ∷ own) (sym e)
    (ap (λ b. if b then record o { session = change o.session } ∷ own else o ∷ own_session_at own n change) is)
changed_at (p ∷ own) n (suc k) o change at is none =
    ap (λ b. if b then record p { session = change p.session } ∷ own else p ∷ own_session_at own n change) (none 0 p (omega arith) refl)
    ∙ ap (λ l. p ∷ l) (changed_at own n k o change at is (none_later p own n k none))

pub none_changed : (own : List OwnSession) (n : ℕ) (change : Session → Session) → NoneBefore own n (length own) → own_session_at own n change ≡ own
none_changed [] n change none = refl
none_changed (p ∷ own) n change none =
    ap (λ b. if b then record p { session = change p.session } ∷ own else p ∷ own_session_at own n change) (none 0 p (omega arith) refl)
    ∙ ap (λ l. p ∷ l) (none_changed own n change (none_later p own n (length own) none))

pub same_count : (own : List OwnSession) (n : ℕ) (change : Session → Session) → length (own_session_at own n change) ≡ length own
same_count [] n change = refl
same_count (o ∷ own) n change = go (o.number == n) (same_count own n change)
  where
    go : (b : Bool) → length (own_session_at own n change) ≡ length own → length (if b then record o { session = change o.session } ∷ own else o ∷ own_session_at own n change) ≡ suc (length own)
    go true rest = refl
    go false rest = ap suc rest
