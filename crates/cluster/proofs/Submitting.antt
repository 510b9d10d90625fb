-- A pass is a pass after a submission, and what is asked by sessions and views.
use Rattle.std.proofs.Common.{◌≡◌, ◌∙◌, ◌⊎◌, inl, inr, ℕ, ◌+◌, ◌*◌, ◌<◌, ◌≤◌, ◌==◌, ◌||◌, Bool, true, false, List, [], ◌∷◌, Option, Some, None, length, refl, sym, ap, subst, arith}
use Rattle.std.specs.Prelude.{Ok, Err, is_some, slice_get, nat_le, nat_lt, not}
use Rattle.std.specs.Option.{option_to_list, option_map, option_map_or}
use mathlib.Core.Logic.{dite}
use native.Mathlib.Decide.{ℕ_discrete}
use Rattle.std.proofs.lemmas.Bool.Decides.{nat_tests}
use Rattle.std.proofs.lemmas.List.{length-map}
use Rattle.map_core.specs.State.{History}
use Rattle.map_core.specs.Map.{map_of, pool_in}
use Rattle.map_core.specs.Refusal.{is_word, has_pool, groups_in, first_of, acting_refusal}
use Rattle.map_core.specs.declared.fault.MapFault.{MapFault}
use Rattle.map_core.specs.declared.fault.MapFault.TheVariants as map_fault
use Rattle.map_core.specs.declared.pool.Pool.{Pool}
use Rattle.entry_core.specs.Locality.{group_for}
use Rattle.store_core.specs.Request.{Sealed}
use Rattle.store_core.specs.declared.sealed.GroupId.{GroupId}
use Rattle.group_model_whole.specs.Each.{Each}
use Rattle.group_model.specs.Group.{Group, Submit}
use Rattle.group_messages.specs.declared.fault.GroupFault.{GroupFault}
use Rattle.world_front.specs.ControlPlane.{◌>>=◌, need, refuse_if, id_of, asks_more}
use Rattle.world_core.specs.Moves.{IsAt}
use Rattle.world_core.specs.Sound.{IsSealedFor}
use Rattle.world_events.specs.declared.event.Ask.{Ask}
use Rattle.world_core.proofs.Acting.{group_at_is}
use Rattle.world_front.proofs.Bytes.{number_same}
use Rattle.world_front.proofs.Merge.{number_refl}
use Rattle.turn_lock.specs.Seats.{lock_of, first_of as began, seat_lock}
use Rattle.world_events.specs.declared.fault.WorldFault.{WorldFault as Fault}
use Rattle.world_events.specs.declared.fault.WorldFault.TheVariants.{NoSession, StaleTick}
use Rattle.world_front.specs.declared.session.Session.{Session}
use Rattle.cluster.specs.declared.asking.NewRequest.{NewRequest}
use Rattle.cluster.specs.declared.cluster.Cluster.{Cluster}
use Rattle.cluster.specs.declared.cluster.Seats.{Seats}
use Rattle.cluster.specs.declared.pass.OwnSession.{OwnSession}
use Rattle.cluster.specs.declared.pass.Pass.{Pass}
use Rattle.cluster_locks.specs.Groups.{submission_entry, SubmissionTells}
use Rattle.cluster.specs.Passes.{GroupTurn, AreSeatsOf, group_count, firsts_of}
use Rattle.cluster.specs.GroupMoves.{happened_at, OneMoved}
use Rattle.cluster.specs.Sessions.{own_session, own_session_at, next_of, IsNumbered}
use Rattle.cluster.specs.Asks.{IsOwnEvent, IsAskedAt, Asks, IsPassOf}
use Rattle.cluster.specs.Asking.{session_by}
use Rattle.cluster.specs.ToAsk.{IsToAsk}
use Rattle.cluster.proofs.ClusterPlaces.{inside_count}
use Rattle.cluster.proofs.Ending.{beside_as_long, numbered_in, asked_inside, same_session}
use Rattle.cluster.proofs.OwnSessions.{one_given, none_given}
use Rattle.cluster_locks.proofs.Places.{same_length}
use Rattle.cluster.proofs.PassTurns.{AsksNow, asks_after, asks_still, one_made, turned_pass}

-- ---- the session that asks

less_tells : (a b : ℕ) → a < b → nat_lt a b ≡ true
less_tells a b h = grind (arith, nat_tests)

not_less_tells : (a b : ℕ) → b ≤ a → nat_lt a b ≡ false
not_less_tells a b h = grind (arith, nat_tests)

module _ (own : List OwnSession) (a : NewRequest) where
  pub session_none : own_session own a.session ≡ None → session_by own a ≡ Err NoSession
  session_none none = ap (λ (o : Option Session). need o NoSession >>= λ s. refuse_if (nat_lt a.tick s.tick) StaleTick >>= λ _. Ok s) none

  pub session_stale : (s : Session) → own_session own a.session ≡ Some s → a.tick < s.tick → session_by own a ≡ Err StaleTick
  session_stale s has less = ap (λ (o : Option Session). need o NoSession >>= λ s. refuse_if (nat_lt a.tick s.tick) StaleTick >>= λ _. Ok s) has
      ∙ ap (λ b. refuse_if b StaleTick >>= λ _. Ok s) (less_tells a.tick s.tick less)

  pub session_fine : (s : Session) → own_session own a.session ≡ Some s → s.tick ≤ a.tick → session_by own a ≡ Ok s
  session_fine s has far = ap (λ (o : Option Session). need o NoSession >>= λ s. refuse_if (nat_lt a.tick s.tick) StaleTick >>= λ _. Ok s) has
      ∙ ap (λ b. refuse_if b StaleTick >>= λ _. Ok s) (not_less_tells a.tick s.tick far)

-- ---- a group of the start

-- a request that was sealed by a pool of the start is for an existing group
pub group_there : (start : History) (s : Sealed) → IsSealedFor start s → is_word s.view.pool ≡ true → acting_refusal start s.view.pool s.group ≡ None
unfolding groups_in
group_there start s sealed word = three (is_word s.view.pool) (has_pool (map_of start).pools s.view.pool) (nat_le (groups_in (map_of start).pools s.view.pool) s.group) word (ap is_some found) low
  where
    found : pool_in (map_of start).pools s.view.pool ≡ Some sealed.well.pool.is.pool
    found = sealed.well.pool.is.found

    counted : groups_in (map_of start).pools s.view.pool ≡ s.view.pg_num
    counted = ap (λ (o : Option Pool). option_map_or (λ (p : Pool). p.pg_num) o 0) found ∙ sealed.well.pool.is.groups

    above : (a b : ℕ) → b < a → nat_le a b ≡ false
    above a b h = grind (arith, nat_tests)

    low : nat_le (groups_in (map_of start).pools s.view.pool) s.group ≡ false
    low = ap (λ n. nat_le n s.group) counted ∙ above s.view.pg_num s.group sealed.below

    three : (a b c : Bool) → a ≡ true → b ≡ true → c ≡ false → first_of ((not a, map_fault.BadName) ∷ (not b, map_fault.NoPool) ∷ (c, map_fault.NoGroup) ∷ []) ≡ None
    three true true false p q r = refl
    three true true true p q r = absurd (cc)
    three true false c p q r = absurd (cc)
    three false b c p q r = absurd (cc)

-- so it has a place
pub not_refused : (start : History) (s : Sealed) (group : GroupId) (fault : Fault) (wrap : MapFault → Fault) → IsSealedFor start s → is_word s.view.pool ≡ true → group ≡ group_for s
    → Some fault ≡ option_map wrap (acting_refusal start group.pool group.number) → ⊥
not_refused start s group fault wrap sealed word same is =
    let none : option_map wrap (acting_refusal start group.pool group.number) ≡ None =
    ap (λ (i : GroupId). option_map wrap (acting_refusal start i.pool i.number)) same ∙ ap (option_map wrap) (group_there start s sealed word) in
    let both : Some fault ≡ None = is ∙ none in cc

-- ---- one request more

module _ (c : Cluster) (old : Pass) (pass : IsPassOf c old) (ask : Ask) (request : Sealed) (asks : IsToAsk c.start old.sessions.items ask request) (s : Session) (has : own_session old.sessions.items ask.session ≡ Some s)
    (place : ℕ) (at : IsAt (firsts_of c) (group_for request) place) where
  abbrev later : List OwnSession
  later = own_session_at old.sessions.items ask.session (asks_more ask 1)

  one_more : next_of later ask.session ≡ next_of old.sessions.items ask.session + 1
  one_more = one_given old.sessions.items ask.session (asks_more ask 1) s has refl

  grows : (n : ℕ) → next_of old.sessions.items n ≤ next_of later n
  grows n = dite (ℕ_discrete n ask.session)
      (λ same. subst (λ (m : ℕ). next_of old.sessions.items m ≤ next_of later m) (sym same) (let e = one_more in omega arith))
      (λ apart. let e = none_given old.sessions.items ask.session n (asks_more ask 1) apart in omega arith)

  now_is : (id : ℕ) → request.id ≡ id → AsksNow (Some (Submit request)) id
  now_is id same = ap (λ b. b || false) (ap (λ (n : ℕ). n == id) same ∙ number_refl id)

  is_now : (id : ℕ) → AsksNow (Some (Submit request)) id → request.id ≡ id
  is_now id now = go (request.id == id) refl now
    where
      go : (b : Bool) → (request.id == id) ≡ b → (b || false) ≡ true → request.id ≡ id
      go true e h = number_same request.id id e
      go false e h = absurd (cc)

  given : (session number : ℕ) → 1 ≤ number → number < next_of later session → (number < next_of old.sessions.items session) ⊎ AsksNow (Some (Submit request)) (id_of session number)
  given session number first past = dite (ℕ_discrete session ask.session)
      (λ same.
      let past' : number < next_of later ask.session = subst (λ (n : ℕ). number < next_of later n) same past in
      let e = one_more in
      dite (ℕ_discrete number (next_of old.sessions.items ask.session))
      (λ last. inr (now_is (id_of session number) (asks.id ∙ λ i. id_of (sym same i) (sym last i))))
      (λ before. inl (subst (λ (n : ℕ). number < next_of old.sessions.items n) (sym same) (omega arith))))
      (λ apart. inl (subst (λ (n : ℕ). number < n) (none_given old.sessions.items ask.session session (asks_more ask 1) apart) past))

  -- its number was given to no request before
  apart_from : (n : IsNumbered old.sessions.items request.id) → ⊥
  apart_from n =
      let room = asks.room in
      let fits = n.fits in
      let past = n.past in
      let ids : n.session * 4294967296 + n.number ≡ ask.session * 4294967296 + next_of old.sessions.items ask.session = sym n.is ∙ asks.id in
      let same : n.session ≡ ask.session = same_session n.session ask.session n.number (next_of old.sessions.items ask.session) fits (omega arith) ids in
      let past' : n.number < next_of old.sessions.items ask.session = subst (λ (m : ℕ). n.number < next_of old.sessions.items m) same past in
      let scaled : n.session * 4294967296 ≡ ask.session * 4294967296 = ap (λ (m : ℕ). m * 4294967296) same in
      omega arith

  never : (j id : ℕ) → AsksNow (Some (Submit request)) id → IsAskedAt old.seats j id → ⊥
  never j id now was =
      let seat = asked_inside old.seats.groups.items j id was in
      let long : length old.seats.groups.items ≡ length (firsts_of c) = same_length seat_lock lock_of old.seats.groups.items c.groups.items pass.seats.0.0 ∙ sym (length-map c.groups.items began) in
      let group = beside_as_long (firsts_of c) old.seats.groups.items j seat.0 long seat.1 in
      let numbered : IsNumbered old.sessions.items id = numbered_in c.start old.sessions.items group.0.group (happened_at old.seats j) id (pass.asks.events j group.0 group.1) was in
      apart_from (subst (IsNumbered old.sessions.items) (sym (is_now id now)) numbered)

  fits : (g : Group) → slice_get (firsts_of c) place ≡ Some g → Each (IsOwnEvent c.start later g.group) (option_to_list (Some (Submit request)))
  fits g there =
      let both : Some at.group ≡ Some g = sym at.there ∙ there in
      let same : at.group ≡ g = cc in
      let named : group_for request ≡ g.group = group_at_is (group_for request) (firsts_of c) at.group at.found ∙ ap (λ (x : Group). x.group) same in
      let room = asks.room in
      let e = one_more in
      ((asks.sealed, named, record { session = ask.session; number = next_of old.sessions.items ask.session; is = asks.id; past = omega arith; fits = omega arith }), tt)

  pub asked_pass : (new : Pass) (x : Unit {0}) → AreSeatsOf c new.seats → GroupTurn submission_entry SubmissionTells c old.seats new.seats place (record { 0 = Some request }) (Ok x) → new.reader ≡ old.reader
      → new.sessions.items ≡ later → IsPassOf c new
  asked_pass new x seats turn reader sessions =
      let below = inside_count c (group_for request) place at in
      let one : OneMoved (Some (Submit request)) place old.seats new.seats = one_made c old new place below pass seats submission_entry SubmissionTells (record { 0 = Some request }) (Ok x) turn (Some (Submit request)) (λ g. refl) in
      turned_pass c old new place below pass seats submission_entry SubmissionTells (record { 0 = Some request }) (Ok x) turn reader
      (subst (λ (l : List OwnSession). Asks c l new.seats) (sym sessions) (asks_after c old.sessions.items later old.seats new.seats place (Some (Submit request)) pass.asks one grows fits given never))

-- a request that was refused
pub refused_pass : (c : Cluster) (old : Pass) (seats : Seats) (request : Sealed) (place : ℕ) (fault : GroupFault) → place < group_count c → IsPassOf c old → AreSeatsOf c seats
    → GroupTurn submission_entry SubmissionTells c old.seats seats place (record { 0 = Some request }) (Err fault) → IsPassOf c (record old { seats = seats })
refused_pass c old seats request place fault below pass are turn =
    let new : Pass = record old { seats = seats } in
    let one : OneMoved None place old.seats seats = one_made c old new place below pass are submission_entry SubmissionTells (record { 0 = Some request }) (Err fault) turn None (λ g. refl) in
    turned_pass c old new place below pass are submission_entry SubmissionTells (record { 0 = Some request }) (Err fault) turn refl
    (asks_still c old.sessions.items old.sessions.items old.seats seats place None pass.asks one refl (λ id h. none id h) (λ g. tt))
  where
    none : (id : ℕ) → AsksNow None id → ⊥
    none id h = cc
