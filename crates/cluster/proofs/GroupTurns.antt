-- The turns on one group by a list in which the monitor made its moves, and passes what they may make.
use Rattle.std.proofs.Common.{◌≡◌, ◌≢◌, ◌∙◌, ℕ, ◌+◌, ◌==◌, List, [], ◌∷◌, ◌++◌, Bool, true, false, if◌then◌else◌, Some, None, fold, refl, sym, ap, subst, append_assoc}
use Rattle.std.specs.Option.{option_to_list}
use Rattle.turn_lock.specs.declared.rule.Made.{Made}
use Rattle.turn_lock.specs.Turns.{made_by, state_after, EachFits}
use Rattle.map_core.specs.State.{MapState, History}
use Rattle.map_core.specs.Map.{map_of, initial, after}
use Rattle.map_core.specs.Limits.{AcceptedFrom, IsAccepted}
use Rattle.map_core.specs.declared.command.MapCommand.{MapCommand}
use Rattle.map_core.specs.declared.command.MapCommand.TheVariants.{PoolCreate, AppEnable, AppSet, AppRm, OsdUp, OsdDown, OsdRestart}
use Rattle.entry_core.specs.Locality.{group_for}
use Rattle.store_core.specs.Request.{Sealed}
use Rattle.store_core.specs.declared.sealed.GroupId.{GroupId}
use Rattle.group_model_whole.specs.Each.{Each}
use Rattle.group_model.specs.Group.{Group, Event, Submit, Deliver, Lose, Repeat, NewInterval, Restart, Kick, group_step, refusal_of}
use Rattle.world_core.specs.Moves.{moves_groups, move_of}
use Rattle.world_core.specs.Sound.{IsSealedFor}
use Rattle.world_front.proofs.Merge.{number_refl}
use Rattle.world_core.proofs.Standing.{step_is}
use Rattle.world_front.proofs.Pools.{in_later}
use Rattle.world_core.proofs.Intervals.{later}
use Rattle.world_laws.proofs.Apart.{Turn, Moves, Asks, Works, alone_step, moved_alone, TakesTurns, commands_of}
use Rattle.cluster_locks.specs.declared.groups.GroupEntry.{GroupEntry}
use Rattle.cluster_locks.specs.declared.groups.GroupEntry.TheVariants.{Happened, Looked, Idle}
use Rattle.cluster_locks.specs.Groups.{group_after, entry_fits, WasAccepted}
use Rattle.published_map.specs.Published.{with_commands}
use Rattle.cluster.specs.GroupMoves.{happened}
use Rattle.cluster.specs.Monitors.{moves_from}

-- what a pass may make on a group: a request for it that was sealed by a map, or a delivery of message 0
abbrev pub IsPassEvent : History → GroupId → Event → Type 0
IsPassEvent start id (Submit s) = IsSealedFor start s × (group_for s ≡ id)
IsPassEvent start id (Deliver k) = k ≡ 0
IsPassEvent start id (Lose k) = ⊥
IsPassEvent start id (Repeat k) = ⊥
IsPassEvent start id (NewInterval acting up) = ⊥
IsPassEvent start id (Restart d) = ⊥
IsPassEvent start id Kick = ⊥

-- turns with these commands, which a group takes from this history on, and after which it is the last
abbrev pub Took : History → Group → List MapCommand → Group → Type 0
Took h g cs last =
    (ts : List Turn) × TakesTurns (record { history = h; group = g }) ts × (commands_of ts ≡ cs) × ((fold alone_step (record { history = h; group = g }) ts).group ≡ last)

-- ---- numbers of seats

pub not_same : (a b : ℕ) → (a == b) ≡ false → a ≡ b → ⊥
not_same a b apart same = let is : (a == b) ≡ true = subst (λ (n : ℕ). (a == n) ≡ true) same (number_refl a) in absurd (cc)

-- ---- lists that fit

module _ (g : Group) (m : Made GroupEntry) (ms : List (Made GroupEntry)) (fit : EachFits group_after entry_fits g (m ∷ ms)) where
  pub fits_first : entry_fits g m.entry
  fits_first = fit [] ms m refl

  pub fits_rest : EachFits group_after entry_fits (group_after g m.entry) ms
  fits_rest before rest x is = fit (m ∷ before) rest x (ap (λ l. m ∷ l) is)

-- ---- commands that the map accepts

accepted_first : (state : MapState) (epoch : ℕ) (xs ys : List MapCommand) → AcceptedFrom state epoch (xs ++ ys) → AcceptedFrom state epoch xs
accepted_first state epoch [] ys h = tt
accepted_first state epoch (x ∷ xs) ys h = (h.0, accepted_first (after state x) (epoch + 1) xs ys h.1)

accepted_later : (h : History) (c : MapCommand) (cs : List MapCommand) → IsAccepted (with_commands h (c ∷ cs)) → IsAccepted (with_commands (later h c) cs)
accepted_later h c cs accepted = subst (AcceptedFrom (initial h.daemons) 1) (sym (append_assoc h.commands (c ∷ []) cs)) accepted

accepted_one : (h : History) (c : MapCommand) (cs : List MapCommand) → IsAccepted (with_commands h (c ∷ cs)) → IsAccepted (later h c)
accepted_one h c cs accepted = accepted_first (initial h.daemons) 1 (h.commands ++ c ∷ []) cs (accepted_later h c cs accepted)

-- what was sealed by a map is sealed by one that goes on from it
sealed_later : (h : History) (cs : List MapCommand) (s : Sealed) → IsSealedFor h s → IsSealedFor (with_commands h cs) s
sealed_later h cs s i = record { well = record { pool = in_later h cs s.view.pool s.view.pg_num i.well.pool; hashes = i.well.hashes }; below = i.below }

-- ---- one turn more at the front

module _ (h : History) (g : Group) (cs : List MapCommand) (last : Group) where
  add_move : (c : MapCommand) → IsAccepted (later h c) → (moves_groups c ≡ true → refusal_of g (move_of (map_of h) c g.group) ≡ None) → Took (later h c) (moved_alone h g c) cs last → Took h g (c ∷ cs) last
  add_move c accepted passes t = (Moves c ∷ t.0, ((accepted, passes), t.1), ap (λ l. c ∷ l) t.2, t.3)

  -- a command that moves no group
  add_still : (c : MapCommand) → moves_groups c ≡ false → IsAccepted (later h c) → Took (later h c) g cs last → Took h g (c ∷ cs) last
  add_still c still accepted t =
      let same : moved_alone h g c ≡ g = ap (λ (b : Bool). if b then group_step g (move_of (map_of h) c g.group) else g) still in
      add_move c accepted (λ moves. absurd (cc)) (subst (λ (x : Group). Took (later h c) x cs last) (sym same) t)

  add_moving : (c : MapCommand) (e : Event) → moves_groups c ≡ true → e ≡ move_of (map_of h) c g.group → refusal_of g e ≡ None → IsAccepted (later h c) → Took (later h c) (group_step g e) cs last → Took h g (c ∷ cs) last
  add_moving c e moves is passes accepted t =
      let same : moved_alone h g c ≡ group_step g e = ap (λ (b : Bool). if b then group_step g (move_of (map_of h) c g.group) else g) moves ∙ ap (group_step g) (sym is) in
      add_move c accepted (λ also. subst (λ (x : Event). refusal_of g x ≡ None) is passes) (subst (λ (x : Group). Took (later h c) x cs last) (sym same) t)

  add_request : (s : Sealed) → IsSealedFor h s → group_for s ≡ g.group → refusal_of g (Submit s) ≡ None → Took h (group_step g (Submit s)) cs last → Took h g cs last
  add_request s sealed own passes t = (Asks s ∷ t.0, ((sealed, own, passes), t.1), t.2, t.3)

  add_delivery : (k : ℕ) → k ≡ 0 → Took h (group_step g (Deliver k)) cs last → Took h g cs last
  add_delivery k is t = let u : Took h (group_step g (Deliver 0)) cs last = subst (λ (n : ℕ). Took h (group_step g (Deliver n)) cs last) is t in (Works ∷ u.0, (tt, u.1), u.2, u.3)

-- ---- the commands up to the monitor's next event

moved_accepted : (state : MapState) (c : MapCommand) (id : GroupId) (g : Group) → moves_groups c ≡ true → WasAccepted g (move_of state c id) → refusal_of g (move_of state c id) ≡ None
moved_accepted state (OsdUp d) id g moves h = h
moved_accepted state (OsdDown d) id g moves h = h
moved_accepted state (OsdRestart d) id g moves h = h
moved_accepted state (PoolCreate name pg_num size min_size) id g moves h = absurd (cc)
moved_accepted state (AppEnable pool app) id g moves h = absurd (cc)
moved_accepted state (AppSet pool app key value) id g moves h = absurd (cc)
moved_accepted state (AppRm pool app key) id g moves h = absurd (cc)

-- the events of a command and of those after it
module _ (h : History) (id : GroupId) (c : MapCommand) (cs : List MapCommand) where
  still_moves : moves_groups c ≡ false → moves_from h id (c ∷ cs) ≡ moves_from (later h c) id cs
  still_moves still = ap (λ (b : Bool). option_to_list (if b then Some (move_of (map_of h) c id) else None) ++ moves_from (later h c) id cs) still

  moving_moves : moves_groups c ≡ true → moves_from h id (c ∷ cs) ≡ move_of (map_of h) c id ∷ moves_from (later h c) id cs
  moving_moves moves = ap (λ (b : Bool). option_to_list (if b then Some (move_of (map_of h) c id) else None) ++ moves_from (later h c) id cs) moves

-- the commands that are left, where the monitor made nothing more
moves_left : (id : GroupId) (g : Group) (cs : List MapCommand) (h : History) → IsAccepted (with_commands h cs) → [] ≡ moves_from h id cs → Took h g cs g
moves_left id g [] h accepted none = ([], tt, refl, refl)
moves_left id g (c ∷ cs) h accepted none = go (moves_groups c) refl (λ is. moves_left id g cs (later h c) (accepted_later h c cs accepted) is)
  where
    go : (b : Bool) → moves_groups c ≡ b → ([] ≡ moves_from (later h c) id cs → Took (later h c) g cs g) → Took h g (c ∷ cs) g
    go true moves rest = let more : [] ≡ move_of (map_of h) c id ∷ moves_from (later h c) id cs = none ∙ moving_moves h id c cs moves in absurd (cc)
    go false still rest = add_still h g cs g c still (accepted_one h c cs accepted) (rest (none ∙ still_moves h id c cs still))

-- What goes on from a history after the group's event: with the commands that are then left
abbrev GoesOnFrom : GroupId → List Event → Group → Group → History → Type 0
GoesOnFrom id es next last h =
    (later : History) (left : List MapCommand) → ((s : Sealed) → IsSealedFor h s → IsSealedFor later s) → IsAccepted (with_commands later left) → es ≡ moves_from later id left → Took later next left last

moves_to : (id : GroupId) (e : Event) (es : List Event) (g last : Group) (cs : List MapCommand) (h : History) → g.group ≡ id → WasAccepted g e → IsAccepted (with_commands h cs) → e ∷ es ≡ moves_from h id cs
    → GoesOnFrom id es (group_step g e) last h → Took h g cs last
moves_to id e es g last [] h same fits accepted own goes = absurd (cc)
moves_to id e es g last (c ∷ cs) h same fits accepted own goes =
    go (moves_groups c) refl
    (λ is. moves_to id e es g last cs (later h c) same fits (accepted_later h c cs accepted) is (λ k left more. goes k left (λ s i. more s (sealed_later h (c ∷ []) s i))))
  where
    go : (b : Bool) → moves_groups c ≡ b → (e ∷ es ≡ moves_from (later h c) id cs → Took (later h c) g cs last) → Took h g (c ∷ cs) last
    go false still rest = add_still h g cs last c still (accepted_one h c cs accepted) (rest (own ∙ still_moves h id c cs still))
    go true moves rest =
        let all : e ∷ es ≡ move_of (map_of h) c id ∷ moves_from (later h c) id cs = own ∙ moving_moves h id c cs moves in
        let is : e ≡ move_of (map_of h) c id = cc in
        let after : es ≡ moves_from (later h c) id cs = cc in
        let passes : refusal_of g e ≡ None = subst (λ (x : Event). refusal_of g x ≡ None) (sym is) (moved_accepted (map_of h) c id g moves (subst (WasAccepted g) is fits)) in
        add_moving h g cs last c e moves (is ∙ ap (move_of (map_of h) c) (sym same)) passes (accepted_one h c cs accepted)
        (goes (later h c) cs (λ s i. sealed_later h (c ∷ []) s i) (accepted_later h c cs accepted) after)

-- ---- all turns

module _ (start : History) (id : GroupId) (n : ℕ) where
  -- of the other seats each event is a pass's
  abbrev OthersPass : List (Made GroupEntry) → Type 0
  OthersPass list = (by : ℕ) → by ≢ n → Each (IsPassEvent start id) (happened (made_by by list))

  abbrev AllTaken : List (Made GroupEntry) → Type 0
  AllTaken list = (h : History) (g : Group) (cs : List MapCommand) → g.group ≡ id → ((s : Sealed) → IsSealedFor start s → IsSealedFor h s) → IsAccepted (with_commands h cs)
      → EachFits group_after entry_fits g list → happened (made_by n list) ≡ moves_from h id cs → OthersPass list → Took h g cs (state_after group_after g list)

  each_rest : (e : GroupEntry) (es : List GroupEntry) → Each (IsPassEvent start id) (happened (e ∷ es)) → Each (IsPassEvent start id) (happened es)
  each_rest (Happened e) es h = h.1
  each_rest Looked es h = h
  each_rest Idle es h = h

  others_rest : (m : Made GroupEntry) (ms : List (Made GroupEntry)) → OthersPass (m ∷ ms) → OthersPass ms
  others_rest m ms others by apart = go (m.by == by) (others by apart)
    where
      go : (b : Bool) → Each (IsPassEvent start id) (happened (if b then m.entry ∷ made_by by ms else made_by by ms)) → Each (IsPassEvent start id) (happened (made_by by ms))
      go true h = each_rest m.entry (made_by by ms) h
      go false h = h

  -- one entry, before turns that can be taken
  module _ (h : History) (g : Group) (cs : List MapCommand) (same : g.group ≡ id) (sealed : (s : Sealed) → IsSealedFor start s → IsSealedFor h s) (accepted : IsAccepted (with_commands h cs)) (last : Group) (es : List Event) where
    -- the monitor's
    own_entry : (e : GroupEntry) → entry_fits g e → happened (e ∷ []) ++ es ≡ moves_from h id cs → GoesOnFrom id es (group_after g e) last h → Took h g cs last
    own_entry (Happened e) fits own goes = moves_to id e es g last cs h same fits accepted own goes
    own_entry Looked fits own goes = goes h cs (λ s i. i) accepted own
    own_entry Idle fits own goes = goes h cs (λ s i. i) accepted own

    -- a pass's
    other_entry : (e : GroupEntry) → entry_fits g e → Each (IsPassEvent start id) (happened (e ∷ [])) → Took h (group_after g e) cs last → Took h g cs last
    other_entry (Happened (Submit s)) fits own t = add_request h g cs last s (sealed s own.0.0) (own.0.1 ∙ sym same) fits t
    other_entry (Happened (Deliver k)) fits own t = add_delivery h g cs last k own.0 t
    other_entry (Happened (Lose k)) fits own t = absurd own.0
    other_entry (Happened (Repeat k)) fits own t = absurd own.0
    other_entry (Happened (NewInterval acting up)) fits own t = absurd own.0
    other_entry (Happened (Restart d)) fits own t = absurd own.0
    other_entry (Happened Kick) fits own t = absurd own.0
    other_entry Looked fits own t = t
    other_entry Idle fits own t = t

  happened_first : (e : GroupEntry) (es : List GroupEntry) → happened (e ∷ []) ++ happened es ≡ happened (e ∷ es)
  happened_first (Happened e) es = refl
  happened_first Looked es = refl
  happened_first Idle es = refl

  each_first : (e : GroupEntry) (es : List GroupEntry) → Each (IsPassEvent start id) (happened (e ∷ es)) → Each (IsPassEvent start id) (happened (e ∷ []))
  each_first (Happened e) es h = (h.0, tt)
  each_first Looked es h = tt
  each_first Idle es h = tt

  same_after : (e : GroupEntry) (g : Group) → g.group ≡ id → (group_after g e).group ≡ id
  same_after (Happened e) g same = step_is id e g same
  same_after Looked g same = same
  same_after Idle g same = same

  one_more : (m : Made GroupEntry) (ms : List (Made GroupEntry)) → AllTaken ms → AllTaken (m ∷ ms)
  one_more m ms taken h g cs same sealed accepted fit own others = go (m.by == n) refl own
    where
      last : Group
      last = state_after group_after (group_after g m.entry) ms

      goes : GoesOnFrom id (happened (made_by n ms)) (group_after g m.entry) last h
      goes k left more further is =
          taken k (group_after g m.entry) left (same_after m.entry g same) (λ s i. more s (sealed s i)) further (fits_rest g m ms fit) is (others_rest m ms others)

      mine : m.by ≢ n → Each (IsPassEvent start id) (happened (m.entry ∷ made_by m.by ms))
      mine apart = subst (λ (b : Bool). Each (IsPassEvent start id) (happened (if b then m.entry ∷ made_by m.by ms else made_by m.by ms))) (number_refl m.by) (others m.by apart)

      go : (b : Bool) → (m.by == n) ≡ b → happened (if b then m.entry ∷ made_by n ms else made_by n ms) ≡ moves_from h id cs → Took h g cs last
      go true is made = own_entry h g cs same sealed accepted last (happened (made_by n ms)) m.entry (fits_first g m ms fit) (happened_first m.entry (made_by n ms) ∙ made) goes
      go false is made =
          other_entry h g cs same sealed accepted last (happened (made_by n ms)) m.entry (fits_first g m ms fit) (each_first m.entry (made_by m.by ms) (mine (λ e. not_same m.by n is e)))
          (goes h cs (λ s i. i) accepted made)

  all_taken : (list : List (Made GroupEntry)) → AllTaken list
  all_taken [] = λ h g cs same sealed accepted fit own others. moves_left id g cs h accepted own
  all_taken (m ∷ ms) = one_more m ms (all_taken ms)

-- A group whose list of turns fits took the turns of these commands: of the list the seat n made just the commands' events, and the other seats
-- what passes may make
pub took_turns : (start : History) (first : Group) (n : ℕ) (cs : List MapCommand) (list : List (Made GroupEntry)) → EachFits group_after entry_fits first list → happened (made_by n list) ≡ moves_from start first.group cs
    → ((by : ℕ) → by ≢ n → Each (IsPassEvent start first.group) (happened (made_by by list))) → IsAccepted (with_commands start cs) → Took start first cs (state_after group_after first list)
took_turns start first n cs list fit own others accepted = all_taken start first.group n list start first cs refl (λ s i. i) accepted fit own others
