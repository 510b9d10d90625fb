-- A pass that looked, took a turn on the users, gave a note or heard one is still a pass of its cluster.
use Rattle.std.proofs.Common.{◌≡◌, ℕ, ◌+◌, ◌<◌, ◌≤◌, ◌∙◌, List, [], ◌∷◌, ◌++◌, map, get_or, refl, sym, ap, subst, arith}
use Rattle.std.specs.Prelude.{All, true}
use Rattle.std.proofs.lemmas.List.Elements.{All-head, All-tail, All-cons, All-nil}
use Rattle.turn_lock.specs.Turns.{with_leaver}
use Rattle.turn_lock.specs.Seats.{Seated, mine_of, seat_lock, IsSeatOf, HasItsOwn}
use Rattle.map_core.specs.State.{History}
use Rattle.store_core.specs.declared.sealed.GroupId.{GroupId}
use Rattle.group_model_whole.specs.Each.{Each}
use Rattle.group_model.specs.Group.{Event, Submit, Deliver, Lose, Repeat, NewInterval, Restart, Kick, is_submitted}
use Rattle.world_front.specs.ControlPlane.{id_of}
use Rattle.cluster.specs.declared.cluster.Cluster.{Cluster}
use Rattle.cluster.specs.declared.cluster.Seats.{Seats}
use Rattle.cluster.specs.declared.pass.OwnSession.{OwnSession}
use Rattle.cluster.specs.declared.pass.Pass.{Pass}
use Rattle.cluster_locks.specs.declared.users.UserTable.{UserTable}
use Rattle.cluster_locks.specs.declared.users.UserEntry.{UserEntry}
use Rattle.cluster.specs.Asks.{Asks, IsOwnEvent, IsPassOf, asked_of, known_by}
use Rattle.cluster.specs.GroupMoves.{happened, happened_at}
use Rattle.world_front.specs.declared.session.Session.{Session}
use Rattle.cluster.specs.Sessions.{own_session_at, next_of, IsNumbered}
use Rattle.cluster_locks.specs.Places.{InStep, TakesIn}
use Rattle.cluster.specs.Passes.{ArePassOf, AreSeatsOf, HaveShare, TakeIn, UserTurn}
use Rattle.cluster_locks.specs.Shares.{pass_share}
use Rattle.published_map.specs.Published.{Covers, KnowsAll}
use Rattle.cluster.specs.Noted.{GaveNote}
use Rattle.cluster.specs.Views.{OnlyLooked}
use Rattle.cluster.proofs.OwnNumbers.{more_up, more_down, same_next}

-- ---- what a pass asked

-- the sessions' numbers go no further, nor back
abbrev pub SameNumbers : List OwnSession → List OwnSession → Type 0
SameNumbers own new = ((s n : ℕ) → n < next_of own s → n < next_of new s) × ((s n : ℕ) → 1 ≤ n → n < next_of new s → n < next_of own s)

pub same_numbers : (own new : List OwnSession) → new ≡ own → SameNumbers own new
same_numbers own new is = (λ s n h. subst (λ l. n < next_of l s) (sym is) h, λ s n far h. subst (λ l. n < next_of l s) is h)

-- one session more
pub opened_numbers : (o : OwnSession) (own new : List OwnSession) → o.session.next ≡ 1 → new ≡ own ++ o ∷ [] → SameNumbers own new
opened_numbers o own new fresh is = (λ s n h. subst (λ l. n < next_of l s) (sym is) (more_up o fresh own s n h), λ s n far h. more_down o fresh own s n far (subst (λ l. n < next_of l s) is h))

-- a session with another ticket
pub renewed_numbers : (change : Session → Session) → ((s : Session) → (change s).next ≡ s.next) → (own new : List OwnSession) (n : ℕ) → new ≡ own_session_at own n change → SameNumbers own new
renewed_numbers change keeps own new n is =
    let next : (s : ℕ) → next_of new s ≡ next_of own s = λ s. ap (λ l. next_of l s) is ∙ same_next change keeps own n s in
    (λ s m h. subst (λ k. m < k) (sym (next s)) h, λ s m far h. subst (λ k. m < k) (next s) h)

module _ (start : History) (own new : List OwnSession) (same : SameNumbers own new) where
  numbered_still : (id : ℕ) → IsNumbered own id → IsNumbered new id
  numbered_still id h = record { session = h.session; number = h.number; is = h.is; past = same.0 h.session h.number h.past; fits = h.fits }

  own_still : (id : GroupId) (e : Event) → IsOwnEvent start own id e → IsOwnEvent start new id e
  own_still id (Submit s) h = (h.0, h.1, numbered_still s.id h.2)
  own_still id (Deliver k) h = h
  own_still id (Lose k) h = h
  own_still id (Repeat k) h = h
  own_still id (NewInterval acting up) h = h
  own_still id (Restart daemon) h = h
  own_still id Kick h = h

  each_still : (id : GroupId) (es : List Event) → Each (IsOwnEvent start own id) es → Each (IsOwnEvent start new id) es
  each_still id [] h = tt
  each_still id (e ∷ es) h = (own_still id e h.0, each_still id es h.1)

asks_still : (c : Cluster) (own new : List OwnSession) (old later : Seats) → SameNumbers own new → ((j : ℕ) → happened_at later j ≡ happened_at old j) → Asks c own old → Asks c new later
asks_still c own new old later numbers same asks = record {
  events = λ j g is. subst (λ l. Each (IsOwnEvent c.start new g.group) l) (sym (same j)) (each_still c.start own new numbers g.group (happened_at old j) (asks.events j g is));
  each = λ session number far below. let t = asks.each session number far (numbers.1 session number far below) in (t.0, subst (λ l. is_submitted (asked_of l) (id_of session number) ≡ true) (sym (same t.0)) t.1);
  once = λ j k id p q. asks.once j k id (subst (λ l. is_submitted (asked_of l) id ≡ true) (same j) p) (subst (λ l. is_submitted (asked_of l) id ≡ true) (same k) q);
}

-- ---- a pass stays one

pub pass_still : (c : Cluster) (old new : Pass) → IsPassOf c old → ArePassOf c new.seats → All HasItsOwn new.seats.groups.items → ((j : ℕ) → happened_at new.seats j ≡ happened_at old.seats j)
    → SameNumbers old.sessions.items new.sessions.items → KnowsAll (known_by new) (known_by old) → IsPassOf c new
pass_still c old new p seats made same numbers knows = record {
  begun = p.begun;
  seats = seats;
  made = made;
  since = λ m h. p.since m (knows.covers m h);
  asks = asks_still c old.sessions.items new.sessions.items old.seats new.seats numbers same p.asks;
}

same_reader : (old new : Pass) → new.reader ≡ old.reader → KnowsAll (known_by new) (known_by old)
same_reader old new is = record { covers = λ m h. subst (λ o. Covers m (known_by (record old { reader = o }))) is h }

-- it only looked
pub pass_looked : (c : Cluster) (old new : Pass) → IsPassOf c old → OnlyLooked old new → KnowsAll (known_by new) (known_by old) → IsPassOf c new
pass_looked c old new p same knows = pass_still c old new p
    (subst (ArePassOf c) (sym same.0) p.seats)
    (subst (λ (s : Seats). All HasItsOwn s.groups.items) (sym same.0) p.made)
    (λ j. ap (λ (s : Seats). happened_at s j) same.0)
    (same_numbers old.sessions.items new.sessions.items (ap (λ v. v.items) same.1))
    knows

-- nothing changed but the room for sessions
pub pass_same : (c : Cluster) (old new : Pass) → IsPassOf c old → new.seats ≡ old.seats → new.sessions.items ≡ old.sessions.items → new.reader ≡ old.reader → IsPassOf c new
pass_same c old new p seats sessions reader = pass_still c old new p
    (subst (ArePassOf c) (sym seats) p.seats)
    (subst (λ (s : Seats). All HasItsOwn s.groups.items) (sym seats) p.made)
    (λ j. ap (λ (s : Seats). happened_at s j) seats)
    (same_numbers old.sessions.items new.sessions.items sessions)
    (same_reader old new reader)

-- it took a turn on the users
pub pass_turned : {A Step : Type 0} (entry : Step → UserTable → A → UserEntry) (tells : Step → UserTable → A → Type 0) (step : Step) (answer : A) (c : Cluster) (old new : Pass)
    → IsPassOf c old → AreSeatsOf c new.seats → UserTurn entry tells c old.seats new.seats step answer → SameNumbers old.sessions.items new.sessions.items → new.reader ≡ old.reader → IsPassOf c new
pass_turned entry tells step answer c old new p own turn numbers reader =
    let seats = p.seats in
    let groups = turn.3 in pass_still c old new p (
      own,
      (subst (λ v. All (λ s. s.share ≡ pass_share c.passes) v.items) (sym groups) seats.1.0, turn.2.0 ∙ seats.1.1),
      (subst (λ v. All (λ s. s.joined ≡ []) v.items) (sym groups) seats.2.0, turn.2.1 ∙ seats.2.1),
    )
    (subst (λ v. All HasItsOwn v.items) (sym groups) p.made)
    (λ j. ap (λ v. happened_at (record new.seats { groups = v }) j) groups)
    numbers (same_reader old new reader)

-- it gave a note
pub pass_noted : (c : Cluster) (old new : Pass) → IsPassOf c old → GaveNote old new → IsPassOf c new
pass_noted c old new p gave =
    let seats = p.seats in
    let groups = gave.0.0 in let users = gave.0.1 in pass_still c old new p (
      (ap (map seat_lock) groups ∙ seats.0.0, subst (IsSeatOf c.users) (sym users) seats.0.1),
      (subst (λ l. All (λ s. s.share ≡ pass_share c.passes) l) (sym groups) seats.1.0, ap (λ s. s.share) users ∙ seats.1.1),
      (subst (λ l. All (λ s. s.joined ≡ []) l) (sym groups) seats.2.0, ap (λ s. s.joined) users ∙ seats.2.1),
    )
    (subst (λ l. All HasItsOwn l) (sym groups) p.made)
    (λ j. ap (λ l. happened (get_or (map mine_of l) j [])) groups)
    (same_numbers old.sessions.items new.sessions.items (ap (λ v. v.items) gave.2))
    (same_reader old new gave.1)

-- ---- a note is heard

module _ {E : Type 0} where
  share_heard : (n : ℕ) (old other new : Seated E) → TakesIn old other new → other.share ≡ 0 → old.share ≡ n → new.share ≡ n
  share_heard n old other new t none is = let e : new.share ≡ old.share + other.share = t.share in omega arith

  alone_heard : (old other new : Seated E) → TakesIn old other new → other.share ≡ 0 → old.joined ≡ [] → new.joined ≡ []
  alone_heard old other new t none is = t.joined ∙ (ap (λ k. with_leaver other.number old.joined k other.joined other.mine) none ∙ is)

  share_row : (n : ℕ) (xs ys zs : List (Seated E)) → InStep TakesIn xs ys zs → All (λ s. s.share ≡ 0) ys → All (λ s. s.share ≡ n) xs → All (λ s. s.share ≡ n) zs
  share_row n [] [] [] h none is = All-nil (λ s. s.share ≡ n)
  share_row n (x ∷ xs) (y ∷ ys) (z ∷ zs) h none is = All-cons (λ s. s.share ≡ n) z zs
      (share_heard n x y z h.0 (All-head (λ s. s.share ≡ 0) y ys none) (All-head (λ s. s.share ≡ n) x xs is))
      (share_row n xs ys zs h.1 (All-tail (λ s. s.share ≡ 0) y ys none) (All-tail (λ s. s.share ≡ n) x xs is))
  share_row n [] [] (z ∷ zs) h none is = elim h [ ]
  share_row n [] (y ∷ ys) zs h none is = elim h [ ]
  share_row n (x ∷ xs) [] zs h none is = elim h [ ]
  share_row n (x ∷ xs) (y ∷ ys) [] h none is = elim h [ ]

  alone_row : (xs ys zs : List (Seated E)) → InStep TakesIn xs ys zs → All (λ s. s.share ≡ 0) ys → All (λ s. s.joined ≡ []) xs → All (λ s. s.joined ≡ []) zs
  alone_row [] [] [] h none is = All-nil (λ s. s.joined ≡ [])
  alone_row (x ∷ xs) (y ∷ ys) (z ∷ zs) h none is = All-cons (λ s. s.joined ≡ []) z zs
      (alone_heard x y z h.0 (All-head (λ s. s.share ≡ 0) y ys none) (All-head (λ s. s.joined ≡ []) x xs is))
      (alone_row xs ys zs h.1 (All-tail (λ s. s.share ≡ 0) y ys none) (All-tail (λ s. s.joined ≡ []) x xs is))
  alone_row [] [] (z ∷ zs) h none is = elim h [ ]
  alone_row [] (y ∷ ys) zs h none is = elim h [ ]
  alone_row (x ∷ xs) [] zs h none is = elim h [ ]
  alone_row (x ∷ xs) (y ∷ ys) [] h none is = elim h [ ]

  made_row : (xs ys zs : List (Seated E)) → InStep TakesIn xs ys zs → All HasItsOwn zs
  made_row [] [] [] h = All-nil HasItsOwn
  made_row (x ∷ xs) (y ∷ ys) (z ∷ zs) h = let t = h.0 in All-cons HasItsOwn z zs t.made (made_row xs ys zs h.1)
  made_row [] [] (z ∷ zs) h = elim h [ ]
  made_row [] (y ∷ ys) zs h = elim h [ ]
  made_row (x ∷ xs) [] zs h = elim h [ ]
  made_row (x ∷ xs) (y ∷ ys) [] h = elim h [ ]

  mine_row : (xs ys zs : List (Seated E)) → InStep TakesIn xs ys zs → map mine_of zs ≡ map mine_of xs
  mine_row [] [] [] h = refl
  mine_row (x ∷ xs) (y ∷ ys) (z ∷ zs) h = let t = h.0 in λ i. t.own i ∷ mine_row xs ys zs h.1 i
  mine_row [] [] (z ∷ zs) h = elim h [ ]
  mine_row [] (y ∷ ys) zs h = elim h [ ]
  mine_row (x ∷ xs) [] zs h = elim h [ ]
  mine_row (x ∷ xs) (y ∷ ys) [] h = elim h [ ]

pub pass_heard : (c : Cluster) (other : Seats) (old new : Pass) → IsPassOf c old → HaveShare 0 other → AreSeatsOf c new.seats → TakeIn old.seats other new.seats → new.reader ≡ old.reader → new.sessions ≡ old.sessions → IsPassOf c new
pass_heard c other old new p none own heard reader sessions =
    let seats = p.seats in
    let xs = old.seats.groups.items in let ys = other.groups.items in let zs = new.seats.groups.items in pass_still c old new p (
      own,
      (share_row (pass_share c.passes) xs ys zs heard.0 none.0 seats.1.0, share_heard (pass_share c.passes) old.seats.users other.users new.seats.users heard.1 none.1 seats.1.1),
      (alone_row xs ys zs heard.0 none.0 seats.2.0, alone_heard old.seats.users other.users new.seats.users heard.1 none.1 seats.2.1),
    )
    (made_row xs ys zs heard.0)
    (λ j. ap (λ l. happened (get_or l j [])) (mine_row xs ys zs heard.0))
    (same_numbers old.sessions.items new.sessions.items (ap (λ v. v.items) sessions))
    (same_reader old new reader)
