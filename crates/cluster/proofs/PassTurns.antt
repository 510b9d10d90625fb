-- A pass is a pass after one turn of its own on a group.
use Rattle.std.proofs.Common.{◌≡◌, ◌∙◌, ◌⊎◌, inl, inr, ℕ, ◌<◌, ◌≤◌, ◌==◌, ◌||◌, Bool, true, false, List, [], ◌∷◌, ◌++◌, length, refl, sym, ap, subst, Some, arith}
use Rattle.std.specs.Prelude.{Option, slice_get}
use Rattle.std.specs.Option.{option_to_list}
use mathlib.Core.Logic.{dite}
use native.Mathlib.Decide.{ℕ_discrete}
use Rattle.map_core.specs.State.{History, GoesOn}
use Rattle.store_core.specs.Request.{Sealed}
use Rattle.group_model_whole.specs.Each.{Each}
use Rattle.group_model.specs.Group.{Group, Event, Submit, Deliver, Lose, Repeat, NewInterval, Restart, Kick, is_submitted}
use Rattle.world_front.specs.ControlPlane.{id_of}
use Rattle.world_core.proofs.Acting.{each_join, each_weaker}
use Rattle.cluster_locks.specs.declared.groups.GroupEntry.{GroupEntry}
use Rattle.cluster.specs.declared.cluster.Cluster.{Cluster}
use Rattle.cluster.specs.declared.cluster.Seats.{Seats}
use Rattle.cluster.specs.declared.pass.OwnSession.{OwnSession}
use Rattle.cluster.specs.declared.pass.Pass.{Pass}
use Rattle.published_map.specs.declared.published.Knowledge.{Knowledge}
use Rattle.published_map.specs.Published.{Covers}
use Rattle.cluster.specs.Passes.{GroupTurn, AreSeatsOf, group_count, firsts_of}
use Rattle.cluster_locks.specs.Shares.{pass_share}
use Rattle.cluster.specs.GroupMoves.{happened, happened_at, OneMoved}
use Rattle.cluster.specs.Sessions.{next_of}
use Rattle.cluster.specs.Asks.{asked_of, IsOwnEvent, IsAskedAt, Asks, known_by, IsPassOf}
use Rattle.cluster.proofs.Moved.{inside_of, added, goes, still_share, still_alone, still_own}

-- ---- requests among events

asked_joined : (es fs : List Event) → asked_of (es ++ fs) ≡ asked_of es ++ asked_of fs
asked_joined [] fs = refl
asked_joined (Submit s ∷ es) fs = ap (λ l. s ∷ l) (asked_joined es fs)
asked_joined (Deliver k ∷ es) fs = asked_joined es fs
asked_joined (Lose k ∷ es) fs = asked_joined es fs
asked_joined (Repeat k ∷ es) fs = asked_joined es fs
asked_joined (NewInterval acting up ∷ es) fs = asked_joined es fs
asked_joined (Restart d ∷ es) fs = asked_joined es fs
asked_joined (Kick ∷ es) fs = asked_joined es fs

submitted_first : (rs more : List Sealed) (id : ℕ) → is_submitted rs id ≡ true → is_submitted (rs ++ more) id ≡ true
submitted_first [] more id h = absurd (cc)
submitted_first (r ∷ rs) more id h = go (r.id == id) h (λ e. submitted_first rs more id e)
  where
    go : (b : Bool) → (b || is_submitted rs id) ≡ true → (is_submitted rs id ≡ true → is_submitted (rs ++ more) id ≡ true) → (b || is_submitted (rs ++ more) id) ≡ true
    go true e rest = refl
    go false e rest = rest e

submitted_last : (rs more : List Sealed) (id : ℕ) → is_submitted more id ≡ true → is_submitted (rs ++ more) id ≡ true
submitted_last [] more id h = h
submitted_last (r ∷ rs) more id h = go (r.id == id) (submitted_last rs more id h)
  where
    go : (b : Bool) → is_submitted (rs ++ more) id ≡ true → (b || is_submitted (rs ++ more) id) ≡ true
    go true rest = refl
    go false rest = rest

submitted_either : (rs more : List Sealed) (id : ℕ) → is_submitted (rs ++ more) id ≡ true → (is_submitted rs id ≡ true) ⊎ (is_submitted more id ≡ true)
submitted_either [] more id h = inr h
submitted_either (r ∷ rs) more id h = go (r.id == id) h (λ e. submitted_either rs more id e)
  where
    go : (b : Bool) → (b || is_submitted (rs ++ more) id) ≡ true → (is_submitted (rs ++ more) id ≡ true → (is_submitted rs id ≡ true) ⊎ (is_submitted more id ≡ true)) → ((b || is_submitted rs id) ≡ true) ⊎ (is_submitted more id ≡ true)
    go true e rest = inl refl
    go false e rest = rest e

-- what a pass may make, where its sessions have given more numbers
own_later : (start : History) (own own' : List OwnSession) (g : Group) (e : Event) → ((n : ℕ) → next_of own n ≤ next_of own' n) → IsOwnEvent start own g.group e → IsOwnEvent start own' g.group e
own_later start own own' g (Submit s) grows h = (h.0, h.1, record { session = h.2.session; number = h.2.number; is = h.2.is; past = later h.2.session h.2.number h.2.past; fits = h.2.fits })
  where
    later : (session number : ℕ) → number < next_of own session → number < next_of own' session
    later session number past = let more = grows session in omega arith
own_later start own own' g (Deliver k) grows h = h
own_later start own own' g (Lose k) grows h = h
own_later start own own' g (Repeat k) grows h = h
own_later start own own' g (NewInterval acting up) grows h = h
own_later start own own' g (Restart d) grows h = h
own_later start own own' g Kick grows h = h

-- ---- what a pass asks after one event more, or none

abbrev pub AsksNow : Option Event → ℕ → Type 0
AsksNow event id = is_submitted (asked_of (option_to_list event)) id ≡ true

module _ (c : Cluster) (own own' : List OwnSession) (old new : Seats) (k : ℕ) (event : Option Event) (before : Asks c own old) (one : OneMoved event k old new) where
  here_is : asked_of (happened_at new k) ≡ asked_of (happened_at old k) ++ asked_of (option_to_list event)
  here_is = ap asked_of one.here ∙ asked_joined (happened_at old k) (option_to_list event)

  still_asked : (j id : ℕ) → IsAskedAt old j id → IsAskedAt new j id
  still_asked j id h = dite (ℕ_discrete j k)
      (λ same. subst (λ (i : ℕ). IsAskedAt new i id) (sym same)
      (subst (λ (l : List Sealed). is_submitted l id ≡ true) (sym here_is) (submitted_first (asked_of (happened_at old k)) (asked_of (option_to_list event)) id (subst (λ (i : ℕ). IsAskedAt old i id) same h))))
      (λ other. subst (λ (l : List Event). is_submitted (asked_of l) id ≡ true) (sym (one.others j other)) h)

  now_asked : (j id : ℕ) → IsAskedAt new j id → IsAskedAt old j id ⊎ ((j ≡ k) × AsksNow event id)
  now_asked j id h = dite (ℕ_discrete j k)
      (λ same. elim (submitted_either (asked_of (happened_at old k)) (asked_of (option_to_list event)) id (subst (λ (l : List Sealed). is_submitted l id ≡ true) here_is (subst (λ (i : ℕ). IsAskedAt new i id) same h))) [
        | inl was ↦ inl (subst (λ (i : ℕ). IsAskedAt old i id) (sym same) was)
        | inr is ↦ inr (same, is)
      ])
      (λ other. inl (subst (λ (l : List Event). is_submitted (asked_of l) id ≡ true) (one.others j other) h))

  asks_here : (id : ℕ) → AsksNow event id → IsAskedAt new k id
  asks_here id h = subst (λ (l : List Sealed). is_submitted l id ≡ true) (sym here_is) (submitted_last (asked_of (happened_at old k)) (asked_of (option_to_list event)) id h)

  -- the event is the pass's own, the numbers that are given now are those that it asks, and none of them was asked before
  pub asks_after : ((n : ℕ) → next_of own n ≤ next_of own' n) → ((g : Group) → slice_get (firsts_of c) k ≡ Some g → Each (IsOwnEvent c.start own' g.group) (option_to_list event))
      → ((session number : ℕ) → 1 ≤ number → number < next_of own' session → (number < next_of own session) ⊎ AsksNow event (id_of session number))
      → ((j id : ℕ) → AsksNow event id → IsAskedAt old j id → ⊥) → Asks c own' new
  asks_after grows fits given never = record {
    events = λ j g there.
        let was : Each (IsOwnEvent c.start own' g.group) (happened_at old j) = each_weaker (IsOwnEvent c.start own g.group) (IsOwnEvent c.start own' g.group) (λ e h. own_later c.start own own' g e grows h) (happened_at old j) (before.events j g there) in
        dite (ℕ_discrete j k)
        (λ same.
        let there' : slice_get (firsts_of c) k ≡ Some g = subst (λ (i : ℕ). slice_get (firsts_of c) i ≡ Some g) same there in
        subst (λ (i : ℕ). Each (IsOwnEvent c.start own' g.group) (happened_at new i)) (sym same)
        (subst (Each (IsOwnEvent c.start own' g.group)) (sym one.here)
        (each_join (IsOwnEvent c.start own' g.group) (happened_at old k) (option_to_list event) (subst (λ (i : ℕ). Each (IsOwnEvent c.start own' g.group) (happened_at old i)) same was) (fits g there'))))
        (λ other. subst (Each (IsOwnEvent c.start own' g.group)) (sym (one.others j other)) was);
    each = λ session number first past. elim (given session number first past) [
      | inl was ↦ (let e = before.each session number first was in (e.0, still_asked e.0 (id_of session number) e.1))
      | inr is ↦ (k, asks_here (id_of session number) is)
    ];
    once = λ i j id a b. both i j id (now_asked i id a) (now_asked j id b);
  }
    where
      both : (i j id : ℕ) → IsAskedAt old i id ⊎ ((i ≡ k) × AsksNow event id) → IsAskedAt old j id ⊎ ((j ≡ k) × AsksNow event id) → i ≡ j
      both i j id (inl a) (inl b) = before.once i j id a b
      both i j id (inl a) (inr b) = absurd (never i id b.1 a)
      both i j id (inr a) (inl b) = absurd (never j id a.1 b)
      both i j id (inr a) (inr b) = a.0 ∙ sym b.0

  -- nothing is asked now
  pub asks_still : own' ≡ own → ((id : ℕ) → AsksNow event id → ⊥) → ((g : Group) → Each (IsOwnEvent c.start own' g.group) (option_to_list event)) → Asks c own' new
  asks_still same none fits = asks_after (λ n. subst (λ (l : List OwnSession). next_of own n ≤ next_of l n) (sym same) (omega arith)) (λ g there. fits g)
      (λ session number first past. inl (subst (λ (l : List OwnSession). number < next_of l session) same past)) (λ j id now was. none id now)

-- ---- the pass

same_known : (old new : Pass) → new.reader ≡ old.reader → known_by new ≡ known_by old
same_known old new e = ap (λ r. known_by (record old { reader = r })) e

module _ (c : Cluster) (old new : Pass) (k : ℕ) (below : k < group_count c) (pass : IsPassOf c old) (seats : AreSeatsOf c new.seats) {A Step : Type 0} (entry : Step → Group → A → GroupEntry) (tells : Step → Group → A → Type 0) (step : Step) (answer : A)
    (turn : GroupTurn entry tells c old.seats new.seats k step answer) where
  inside : k < length old.seats.groups.items
  inside = inside_of c old.seats k pass.seats.0 below

  pub one_made : (event : Option Event) → ((g : Group) → happened (entry step g answer ∷ []) ≡ option_to_list event) → OneMoved event k old.seats new.seats
  one_made event is = added c k old.seats new.seats inside entry tells step answer turn event is

  pub turned_pass : new.reader ≡ old.reader → Asks c new.sessions.items new.seats → IsPassOf c new
  turned_pass reader asks =
      let on = goes c k old.seats new.seats inside entry tells step answer turn in record {
        begun = pass.begun;
        seats = (seats, still_share (pass_share c.passes) old.seats new.seats on pass.seats.1, still_alone old.seats new.seats on pass.seats.2);
        made = still_own entry tells c old.seats new.seats k step answer turn pass.made;
        since = subst (λ (v : Knowledge). (map : History) → Covers map v → GoesOn map c.start) (sym (same_known old new reader)) pass.since;
        asks = asks;
      }
