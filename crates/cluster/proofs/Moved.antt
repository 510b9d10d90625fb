-- One group more has moved, or was looked at.
use Rattle.std.proofs.Common.{◌≡◌, ◌≢◌, ℕ, ◌+◌, ◌<◌, ◌≤◌, List, [], ◌∷◌, ◌++◌, map, length, get_or, refl, sym, ap, ◌∙◌, subst, Some, arith}
use Rattle.std.specs.Prelude.{All, Bool, true, false, Option, None, Ok, Err, slice_get}
use Rattle.std.specs.Option.{option_to_list}
use mathlib.Core.Logic.{dite}
use native.Mathlib.Decide.{ℕ_discrete}
use Rattle.std.proofs.lemmas.List.{append_assoc, append-nil}
use Rattle.std.proofs.lemmas.List.Elements.{All-head, All-tail, All-cons, All-set}
use Rattle.atomic_table.specs.Seated.{TableId}
use Rattle.turn_lock.specs.declared.rule.Joined.{Joined}
use Rattle.std.proofs.lemmas.Option.{slice_get-get_or}
use Rattle.turn_lock.specs.Seats.{Seated, HasItsOwn, seen_by, mine_of, lock_of, seat_lock}
use Rattle.turn_lock.specs.Turns.{StartsWith, made, made_by, state_after}
use Rattle.map_core.specs.State.{History}
use Rattle.map_core.specs.declared.command.MapCommand.{MapCommand}
use Rattle.store_core.specs.declared.sealed.GroupId.{GroupId}
use Rattle.group_model.specs.Group.{Group, Event, has_all_intervals}
use Rattle.group_core.specs.Moves.{event_of}
use Rattle.group_messages.specs.declared.group_move.GroupMove.{GroupMove}
use Rattle.group_messages.specs.declared.fault.GroupFault.{GroupFault}
use Rattle.cluster_locks.specs.declared.groups.GroupEntry.{GroupEntry}
use Rattle.cluster_locks.specs.declared.groups.GroupEntry.TheVariants.{Happened, Looked, Idle}
use Rattle.cluster.specs.declared.cluster.Cluster.{Cluster}
use Rattle.cluster.specs.declared.cluster.Seats.{Seats}
use Rattle.cluster_locks.specs.Groups.{group_after}
use Rattle.cluster.specs.Passes.{GroupTurn, AreSeatsOf, HaveShare, AreAlone, AreMonitorOf, HaveTheirOwn, group_count}
use Rattle.cluster_locks.specs.Shares.{monitor_share}
use Rattle.cluster.specs.MapCommands.{begins_interval}
use Rattle.cluster_locks.specs.Moves.{move_entry, MoveTells, full_entry, FullTells}
use Rattle.cluster.specs.GroupMoves.{happened, happened_at, seen_at, standing, Goes, OneMoved, HaveMoved, HaveLooked, Found, FullAt, NoneFull, BeginsAt, event_at}
use Rattle.cluster_locks.proofs.Places.{read_at, read_put, read_other, put_same, same_length, starts_whole}

pub starts_through : {X : Type 0} → (xs ys zs : List X) → StartsWith xs ys → StartsWith ys zs → StartsWith xs zs
starts_through xs ys zs p q = (q.0 ++ p.0, p.1 ∙ (ap (λ l. l ++ p.0) q.1 ∙ append_assoc zs q.0 p.0))

pub goes_through : (x y z : Seats) → Goes x y → Goes y z → Goes x z
goes_through x y z g h = record {
  seen = λ j. starts_through _ _ _ (h.seen j) (g.seen j);
  stands = h.stands ∙ g.stands;
  users = h.users ∙ g.users;
}

pub goes_nowhere : (x : Seats) → Goes x x
goes_nowhere x = record { seen = λ j. starts_whole _; stands = refl; users = refl }

pub looked_nowhere : (x : Seats) → HaveLooked x x
looked_nowhere x = record { same = λ j. refl; goes = goes_nowhere x }

pub looked_through : (x y z : Seats) → HaveLooked x y → HaveLooked y z → HaveLooked x z
looked_through x y z g h = record { same = λ j. h.same j ∙ g.same j; goes = goes_through x y z g.goes h.goes }

pub inside_of : (c : Cluster) (seats : Seats) (k : ℕ) → AreSeatsOf c seats → k < group_count c → k < length seats.groups.items
inside_of c seats k own below = let long : length seats.groups.items ≡ length c.groups.items = same_length seat_lock lock_of seats.groups.items c.groups.items own.0 in omega arith

happened_more : (es : List GroupEntry) (e : GroupEntry) → happened (es ++ e ∷ []) ≡ happened es ++ happened (e ∷ [])
happened_more [] e = refl
happened_more (Happened x ∷ es) e = ap (λ l. x ∷ l) (happened_more es e)
happened_more (Looked ∷ es) e = happened_more es e
happened_more (Idle ∷ es) e = happened_more es e

module _ (c : Cluster) (k : ℕ) (old new : Seats) (inside : k < length old.groups.items) {A Step : Type 0} (entry : Step → Group → A → GroupEntry) (tells : Step → Group → A → Type 0) (step : Step) (answer : A) (turn : GroupTurn entry tells c old new k step answer) where
  found_at : (let t = turn.0 in t.before ≡ get_or old.groups.items k t.before)
  found_at = let t = turn.0 in
      let there : slice_get old.groups.items k ≡ Some (get_or old.groups.items k t.before) = slice_get-get_or old.groups.items k t.before inside in
      let both : Some t.before ≡ Some (get_or old.groups.items k t.before) = sym t.found ∙ there in cc

  -- what the seat had seen, and what it has seen
  saw : (let t = turn.0 in seen_at old k ≡ t.before.seen)
  saw = read_at seen_by old.groups.items k inside turn.0.before [] found_at

  sees : (let t = turn.0 in seen_at new k ≡ (t.before.seen ++ t.turned.between) ++ made t.before.number (entry step (state_after group_after t.lock.first (t.before.seen ++ t.turned.between)) answer) ∷ [])
  sees = let t = turn.0 in ap (λ l. get_or (map seen_by l) k []) t.stays ∙ (read_put seen_by old.groups.items k inside t.after [] ∙ t.turned.seen_is)

  seen_later : (j : ℕ) → StartsWith (seen_at new j) (seen_at old j)
  seen_later j = let t = turn.0 in dite (ℕ_discrete j k)
      (λ same. subst (λ (i : ℕ). StartsWith (seen_at new i) (seen_at old i)) (sym same)
      (starts_through _ _ _ (_, sees) (t.turned.between, ap (λ l. l ++ t.turned.between) (sym saw))))
      (λ other. subst (λ l. StartsWith l (seen_at old j)) (sym (ap (λ l. get_or (map seen_by l) j []) t.stays ∙ read_other seen_by old.groups.items k inside t.after j [] other)) (starts_whole _))

  pub goes : Goes old new
  goes = let t = turn.0 in record {
    seen = seen_later;
    stands = ap (map standing) t.stays ∙ put_same standing old.groups.items k inside t.before t.after found_at (λ i. (t.same.0 i, t.same.1 i, t.share.0 i, t.share.1 i));
    users = turn.1;
  }

  -- an entry of the seat k was added
  pub added : (event : Option Event) → ((g : Group) → happened (entry step g answer ∷ []) ≡ option_to_list event) → OneMoved event k old new
  added event is =
      let t = turn.0 in
      let g : Group = state_after group_after t.lock.first (t.before.seen ++ t.turned.between) in
      let mine : get_or (map mine_of new.groups.items) k [] ≡ t.before.mine ++ entry step g answer ∷ [] = ap (λ l. get_or (map mine_of l) k []) t.stays ∙ (read_put mine_of old.groups.items k inside t.after [] ∙ t.turned.mine_is) in
      let was : get_or (map mine_of old.groups.items) k [] ≡ t.before.mine = read_at mine_of old.groups.items k inside t.before [] found_at in record {
        here = ap happened mine ∙ (happened_more t.before.mine (entry step g answer) ∙ λ i. happened (sym was i) ++ is g i);
        others = λ j other. ap (λ l. happened (get_or (map mine_of l) j [])) t.stays ∙ ap happened (read_other mine_of old.groups.items k inside t.after j [] other);
        goes = goes;
      }

  -- what the answer tells held of a state between
  tells_found : (P : Group → Type 0) → ((g : Group) → tells step g answer → P g) → Found c k P old new
  tells_found P holds = let t = turn.0 in record {
    lock = t.lock;
    locked = t.locked;
    list = t.before.seen ++ t.turned.between;
    since = (t.turned.between, ap (λ l. l ++ t.turned.between) (sym saw));
    until = (_, sees);
    holds = holds _ t.turned.told;
  }

none_here : (k : ℕ) (old new : Seats) → OneMoved None k old new → (j : ℕ) → happened_at new j ≡ happened_at old j
none_here k old new one j = dite (ℕ_discrete j k)
    (λ is. subst (λ (i : ℕ). happened_at new i ≡ happened_at old i) (sym is) (one.here ∙ append-nil (happened_at old k)))
    (λ other. one.others j other)

module _ (c : Cluster) (k : ℕ) (old new : Seats) (inside : k < length old.groups.items) where
  pub moved : (m : GroupMove) (x : Unit {0}) (event : Option Event) → Some (event_of m) ≡ event
      → GroupTurn move_entry MoveTells c old new k (record { 0 = m }) (Ok x) → OneMoved event k old new
  moved m x event is t = added c k old new inside move_entry MoveTells (record { 0 = m }) (Ok x) t event (λ g. ap (λ (o : Option Event). option_to_list o) is)

  pub refused : (m : GroupMove) (fault : GroupFault) → GroupTurn move_entry MoveTells c old new k (record { 0 = m }) (Err fault) → OneMoved None k old new
  refused m fault t = added c k old new inside move_entry MoveTells (record { 0 = m }) (Err fault) t None (λ g. refl)

  pub looked : (answer : Bool) → GroupTurn full_entry FullTells c old new k (record {}) answer → HaveLooked old new
  looked answer t = record {
    same = none_here k old new (added c k old new inside full_entry FullTells (record {}) answer t None (λ g. refl));
    goes = goes c k old new inside full_entry FullTells (record {}) answer t;
  }

  pub found : (answer : Bool) → GroupTurn full_entry FullTells c old new k (record {}) answer → Found c k (λ g. has_all_intervals g ≡ answer) old new
  found answer t = tells_found c k old new inside full_entry FullTells (record {}) answer t (λ g. has_all_intervals g ≡ answer) (λ g told. sym told)

-- nothing to do
pub rests : (event : Option Event) (k : ℕ) (seats : Seats) → None ≡ event → OneMoved event k seats seats
rests event k seats is = record {
  here = sym (append-nil (happened_at seats k)) ∙ ap (λ (o : Option Event). happened_at seats k ++ option_to_list o) is;
  others = λ j other. refl;
  goes = goes_nowhere seats;
}

pub none_moved : (event : ℕ → Option Event) (from : ℕ) (seats : Seats) → HaveMoved event from from seats seats
none_moved event from seats = record { moved = λ j a b. absurd (omega arith); before = λ j a. refl; later = λ j a. refl; goes = goes_nowhere seats }

pub one_more : (event : ℕ → Option Event) (from k : ℕ) (first old new : Seats) → from ≤ k → HaveMoved event from k first old → OneMoved (event k) k old new → HaveMoved event from (k + 1) first new
one_more event from k first old new far h one = record {
  moved = λ j a b. dite (ℕ_discrete j k)
      (λ same. subst (λ (i : ℕ). happened_at new i ≡ happened_at first i ++ option_to_list (event i)) (sym same) (one.here ∙ ap (λ l. l ++ option_to_list (event k)) (h.later k (omega arith))))
      (λ other. one.others j other ∙ h.moved j a (omega arith));
  before = λ j a. let other : j ≢ k = λ e. omega arith in one.others j other ∙ h.before j a;
  later = λ j a. let other : j ≢ k = λ e. omega arith in one.others j other ∙ h.later j (omega arith);
  goes = goes_through first old new h.goes one.goes;
}

pub no_more : (event : ℕ → Option Event) (from k : ℕ) (first old new : Seats) → HaveMoved event from k first old → OneMoved None k old new → HaveMoved event from k first new
no_more event from k first old new h one = let same = none_here k old new one in record {
  moved = λ j a b. same j ∙ h.moved j a b;
  before = λ j a. same j ∙ h.before j a;
  later = λ j a. same j ∙ h.later j a;
  goes = goes_through first old new h.goes one.goes;
}

-- looks before the moves
pub after_looks : (event : ℕ → Option Event) (from to : ℕ) (first old new : Seats) → HaveLooked first old → HaveMoved event from to old new → HaveMoved event from to first new
after_looks event from to first old new h m = record {
  moved = λ j a b. m.moved j a b ∙ ap (λ l. l ++ option_to_list (event j)) (h.same j);
  before = λ j a. m.before j a ∙ h.same j;
  later = λ j a. m.later j a ∙ h.same j;
  goes = goes_through first old new h.goes m.goes;
}

pub at_place : (event : GroupId → Option Event) (places : List GroupId) (k : ℕ) (id : GroupId) → slice_get places k ≡ Some id → event_at event places k ≡ event id
at_place event places k id is = ap (λ (o : Option GroupId). elim o [ Some i ↦ event i | None ↦ None ]) is

-- ---- what was found

pub found_through : (c : Cluster) (k : ℕ) (P : Group → Type 0) (w x y z : Seats) → Goes w x → Found c k P x y → Goes y z → Found c k P w z
found_through c k P w x y z g f h = record {
  lock = f.lock;
  locked = f.locked;
  list = f.list;
  since = starts_through _ _ _ f.since (g.seen k);
  until = starts_through _ _ _ (h.seen k) f.until;
  holds = f.holds;
}

module _ (c : Cluster) (history : History) (command : MapCommand) (places : List GroupId) where
  pub none_full : (seats : Seats) → NoneFull c history command places 0 seats seats
  none_full seats k below = absurd (omega arith)

  pub none_through : (to : ℕ) (w x y z : Seats) → Goes w x → NoneFull c history command places to x y → Goes y z → NoneFull c history command places to w z
  none_through to w x y z g f h k below begins = found_through c k _ w x y z g (f k below begins) h

  pub none_more : (to : ℕ) (first old new : Seats) → HaveLooked first old → NoneFull c history command places to first old → HaveLooked old new
      → (BeginsAt history command places to → Found c to (λ g. has_all_intervals g ≡ false) old new) → NoneFull c history command places (to + 1) first new
  none_more to first old new h before look one k below begins = dite (ℕ_discrete k to)
      (λ same. subst (λ (i : ℕ). Found c i (λ g. has_all_intervals g ≡ false) first new) (sym same) (found_through c to _ first old new new h.goes (one (subst (BeginsAt history command places) same begins)) (goes_nowhere new)))
      (λ other. found_through c k _ first first old new (goes_nowhere first) (before k (omega arith) begins) look.goes)

pub full_either : (c : Cluster) (k : ℕ) (begins answer : Bool) (old new : Seats) → begins ≡ true → Found c k (λ g. has_all_intervals g ≡ answer) old new → FullAt c k begins answer old new
full_either c k begins true old new is f = (is, f)
full_either c k begins false old new is f = λ also. f

pub begins_there : (history : History) (command : MapCommand) (places : List GroupId) (k : ℕ) (id : GroupId) → slice_get places k ≡ Some id → BeginsAt history command places k → begins_interval history command id ≡ true
begins_there history command places k id is b = let both : Some b.0 ≡ Some id = sym b.1 ∙ is in let same : b.0 ≡ id = cc in subst (λ (i : GroupId). begins_interval history command i ≡ true) same b.2

-- ---- the monitor's seats stay the monitor's

still_all : (P : Seated GroupEntry → Type 0) (Q : TableId × ℕ × ℕ × List (Joined GroupEntry) → Type 0) → ((s : Seated GroupEntry) → P s → Q (standing s)) → ((s : Seated GroupEntry) → Q (standing s) → P s)
    → (xs ys : List (Seated GroupEntry)) → map standing ys ≡ map standing xs → All P xs → All P ys
still_all P Q to from [] [] is h = h
still_all P Q to from [] (y ∷ ys) is h = absurd (cc)
still_all P Q to from (x ∷ xs) [] is h = absurd (cc)
still_all P Q to from (x ∷ xs) (y ∷ ys) is h =
    let first : standing y ≡ standing x = cc in
    let rest : map standing ys ≡ map standing xs = cc in
    All-cons P y ys (from y (subst Q (sym first) (to x (All-head P x xs h)))) (still_all P Q to from xs ys rest (All-tail P x xs h))

pub still_share : (n : ℕ) (old new : Seats) → Goes old new → HaveShare n old → HaveShare n new
still_share n old new goes h = (
  still_all (λ s. s.share ≡ n) (λ t. t.2 ≡ n) (λ s e. e) (λ s e. e) old.groups.items new.groups.items goes.stands h.0,
  ap (λ s. s.share) goes.users ∙ h.1,
)

pub still_alone : (old new : Seats) → Goes old new → AreAlone old → AreAlone new
still_alone old new goes h = (
  still_all (λ s. s.joined ≡ []) (λ t. t.3 ≡ []) (λ s e. e) (λ s e. e) old.groups.items new.groups.items goes.stands h.0,
  ap (λ s. s.joined) goes.users ∙ h.1,
)

-- a seat that took a turn knows all that it made
pub still_own : {Step A : Type 0} → (entry : Step → Group → A → GroupEntry) (tells : Step → Group → A → Type 0) (c : Cluster) (old new : Seats) (k : ℕ) (step : Step) (answer : A)
    → GroupTurn entry tells c old new k step answer → HaveTheirOwn old → HaveTheirOwn new
still_own entry tells c old new k step answer turn made =
    let t = turn.0 in
    let own : HasItsOwn t.after = subst (λ n. made_by n t.after.seen ≡ t.after.mine) (sym t.same.1) t.turned.own in
    subst (All HasItsOwn) (sym t.stays) (All-set HasItsOwn old.groups.items k t.after own made)

pub still_monitor : {Step A : Type 0} → (entry : Step → Group → A → GroupEntry) (tells : Step → Group → A → Type 0) (c : Cluster) (old new : Seats) (k : ℕ) (step : Step) (answer : A)
    → AreMonitorOf c old → AreSeatsOf c new → Goes old new → GroupTurn entry tells c old new k step answer → AreMonitorOf c new
still_monitor entry tells c old new k step answer own seats goes turn =
    (seats, still_share (monitor_share c.passes) old new goes own.1, still_alone old new goes own.2, still_own entry tells c old new k step answer turn own.3)
