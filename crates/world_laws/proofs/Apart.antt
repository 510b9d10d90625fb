-- What one group keeps that runs apart from the others, under a lock of its own.
use Rattle.std.proofs.Common.{◌≡◌, ◌∙◌, ℕ, ◌+◌, ◌≤◌, ◌==◌, ◌||◌, List, [], ◌∷◌, ◌++◌, Bool, true, false, not, cond, if◌then◌else◌, Some, None, length, map, fold, refl, sym, ap, subst, arith, append-nil, append_assoc, length-append, nat_lt}
use Rattle.std.specs.List.{filter, flat_map}
use Rattle.std.proofs.lemmas.Bool.Decides.{nat_tests}
use Rattle.place_core.specs.Placement.{numbers_of}
use Rattle.map_core.specs.State.{History}
use Rattle.map_core.specs.Map.{after, map_of}
use Rattle.map_core.specs.Limits.{IsAccepted}
use Rattle.map_core.specs.declared.command.MapCommand.{MapCommand}
use Rattle.map_core.specs.declared.command.MapCommand.TheVariants.{PoolCreate, AppEnable, AppSet, AppRm, OsdUp, OsdDown, OsdRestart}
use Rattle.map_core.proofs.Current.{after_push}
use Rattle.entry_core.specs.Locality.{group_for}
use Rattle.store_core.specs.Request.{Sealed}
use Rattle.store_core.specs.declared.sealed.GroupId.{GroupId}
use Rattle.group_model_whole.specs.Each.{Each}
use Rattle.group_model_whole.specs.Asked.{IsAsked}
use Rattle.group_model.specs.Group.{Group, group_step, submitted, is_submitted, has_all_requests}
use Rattle.group_model.specs.Group as group
use Rattle.group_messages.specs.declared.fault.GroupFault.TheVariants as group_fault
use Rattle.world_events.specs.declared.event.Event.TheVariants.{Map}
use Rattle.world_front.specs.Groups.{is_same_group, is_for, groups_of}
use Rattle.world_front.specs.ControlPlane.{ControlPlane, requests_of, requests_in, front_step}
use Rattle.world_core.specs.World.{World, group_at, members_of, created_by}
use Rattle.world_core.specs.Moves.{moves_groups, move_of}
use Rattle.world_events.specs.Submitting.{AreNew}
use Rattle.world_core.specs.Sound.{IsSealedFor, Submits, Stands, IsWithin, GroupKept, IsSound}
use Rattle.world_front.proofs.Merge.{group_refl, number_refl}
use Rattle.world_core.proofs.Standing.{step_is, stands_step}
use Rattle.world_core.proofs.Acting.{each_join, each_weaker, group_at_is, group_at_each}
use Rattle.world_front.proofs.Pools.{in_later}
use Rattle.world_front.proofs.Numbers.{asked_later}
use Rattle.world_core.proofs.Sets.{IsMap, members_fit, lies_within}
use Rattle.world_core.proofs.Requests.{facts, message_facts, submit_facts, interval_facts, restart_facts}
use Rattle.world_core.proofs.Intervals.{later, sets_after}
use Rattle.world_core.proofs.Sounds.{command_places}
use Rattle.world_core.proofs.Accepted.{within_step, asking_on, mapped_on}

-- ---- turns

-- a turn on one group: a command on the map, a request, or a delivery of its oldest message
pub data Turn : Type 0 where
  Moves : MapCommand → Turn
  Asks : Sealed → Turn
  Works : Turn

-- a group, and the map's history as far as the group knows it
pub record Alone : Type 0 where
  pub history : History
  pub group : Group

-- a group after a command, in which each group has a part or none
abbrev pub moved_alone : History → Group → MapCommand → Group
moved_alone h g c = if moves_groups c then group_step g (move_of (map_of h) c g.group) else g

abbrev pub alone_step : Alone → Turn → Alone
alone_step a (Moves c) = record { history = later a.history c; group = moved_alone a.history a.group c }
alone_step a (Asks s) = record a { group = group_step a.group (group.Submit s) }
alone_step a Works = record a { group = group_step a.group (group.Deliver 0) }

-- What a turn must be, where it is taken: a command that the map accepts, in which the group does not refuse its part; or a request that was
-- sealed for the group by the map that it knows, and that it does not refuse. A delivery may always be
abbrev pub TakesTurn : Alone → Turn → Type 0
TakesTurn a (Moves c) = IsAccepted (later a.history c) × (moves_groups c ≡ true → group.refusal_of a.group (move_of (map_of a.history) c a.group.group) ≡ None)
TakesTurn a (Asks s) = IsSealedFor a.history s × (group_for s ≡ a.group.group) × (group.refusal_of a.group (group.Submit s) ≡ None)
TakesTurn a Works = Unit {0}

-- each turn, where it is taken
abbrev pub TakesTurns : Alone → List Turn → Type 0
TakesTurns a [] = Unit {0}
TakesTurns a (t ∷ ts) = TakesTurn a t × TakesTurns (alone_step a t) ts

-- ---- what stands of a group alone

-- a front as far as one group knows it: the map's history, and its own requests
abbrev pub front_alone : History → List Sealed → ControlPlane
front_alone h rs = record { database = record { table = []; users = [] }; history = h; sessions = []; submissions = rs; lists = [] }

pub record StandsAlone (a : Alone) : Type 0 where
  pub accepted : IsAccepted a.history
  pub kept : GroupKept (front_alone a.history a.group.requests) a.group.group a.group
  pub sealed : Each (IsSealedFor a.history) a.group.requests
  pub own : Each (λ s. group_for s ≡ a.group.group) a.group.requests
  pub new : AreNew [] a.group.requests
  pub few : length a.group.requests ≤ 16384
  pub stands : Stands a.group.requests a.group

-- what is kept of a group is of the history, and of the requests that are for it
pub kept_by : (f f' : ControlPlane) (id : GroupId) (g : Group) → GroupKept f id g → f'.history ≡ f.history → filter (is_for id) f'.submissions ≡ filter (is_for id) f.submissions → GroupKept f' id g
kept_by f f' id g h history submissions =
    let P : History → Type 0 = λ k. GroupKept (record f' { history = k }) id g in
    subst P (sym history) (record {
      requests = h.requests ∙ sym submissions;
      groups = h.groups;
      pool = h.pool;
      number = h.number;
      up = h.up;
      sets = h.sets;
      within = h.within;
    })

-- of a group whose requests and whose place are known
alone_of : (a : Alone) (id : GroupId) (rs : List Sealed) → a.group.group ≡ id → a.group.requests ≡ rs → IsAccepted a.history → GroupKept (front_alone a.history rs) id a.group → Each (IsSealedFor a.history) rs → Each (λ s. group_for s ≡ id) rs
    → AreNew [] rs → length rs ≤ 16384 → Stands rs a.group → StandsAlone a
alone_of a id rs same are accepted kept sealed own new few stands =
    let K : GroupId → List Sealed → Type 0 = λ i l. GroupKept (front_alone a.history l) i a.group in
    let O : GroupId → List Sealed → Type 0 = λ i l. Each (λ s. group_for s ≡ i) l in
    let F : List Sealed → Type 0 = λ l. length l ≤ 16384 in
    let S : List Sealed → Type 0 = λ l. Stands l a.group in
    record {
      accepted = accepted;
      kept = subst (K a.group.group) (sym are) (subst (λ i. K i rs) (sym same) kept);
      sealed = subst (Each (IsSealedFor a.history)) (sym are) sealed;
      own = subst (O a.group.group) (sym are) (subst (λ i. O i rs) (sym same) own);
      new = subst (AreNew []) (sym are) new;
      few = subst F (sym are) few;
      stands = subst S (sym are) stands;
    }

-- ---- a command

command_facts : (h : History) (g : Group) (c : MapCommand) → g.up ≡ numbers_of (map_of h).up → (moves_groups c ≡ true → group.refusal_of g (move_of (map_of h) c g.group) ≡ None)
    → facts (moved_alone h g c) ≡ record { requests = g.requests; sets = sets_after h g.group g.sets c; up = numbers_of (after (map_of h) c).up }
command_facts h g c up passes = by c passes
  where
    still : facts g ≡ record { requests = g.requests; sets = g.sets; up = numbers_of (map_of h).up }
    still = ap (λ u. record { requests = g.requests; sets = g.sets; up = u }) up

    by : (c : MapCommand) → (moves_groups c ≡ true → group.refusal_of g (move_of (map_of h) c g.group) ≡ None)
        → facts (moved_alone h g c) ≡ record { requests = g.requests; sets = sets_after h g.group g.sets c; up = numbers_of (after (map_of h) c).up }
    by (PoolCreate name pg_num size min_size) passes = still
    by (AppEnable pool app) passes = still
    by (AppSet pool app key value) passes = still
    by (AppRm pool app key) passes = still
    by (OsdUp d) passes = interval_facts g (members_of (after (map_of h) (OsdUp d)) g.group) (numbers_of (after (map_of h) (OsdUp d)).up) (passes refl)
    by (OsdDown d) passes = interval_facts g (members_of (after (map_of h) (OsdDown d)) g.group) (numbers_of (after (map_of h) (OsdDown d)).up) (passes refl)
    by (OsdRestart d) passes = restart_facts g d (passes refl) ∙ ap (λ u. record { requests = g.requests; sets = sets_after h g.group g.sets (OsdRestart d); up = u }) up

command_within : (h : History) (g : Group) (c : MapCommand) → IsMap (after (map_of h) c) → IsWithin (map_of h).daemons g → IsWithin (map_of h).daemons (moved_alone h g c)
command_within h g (PoolCreate name pg_num size min_size) m w = w
command_within h g (AppEnable pool app) m w = w
command_within h g (AppSet pool app key value) m w = w
command_within h g (AppRm pool app key) m w = w
command_within h g (OsdUp d) m w =
    within_step (map_of h).daemons g (move_of (map_of h) (OsdUp d) g.group) w (members_fit (after (map_of h) (OsdUp d)) g.group m) (lies_within (after (map_of h) (OsdUp d)) g.group m)
command_within h g (OsdDown d) m w =
    within_step (map_of h).daemons g (move_of (map_of h) (OsdDown d) g.group) w (members_fit (after (map_of h) (OsdDown d)) g.group m) (lies_within (after (map_of h) (OsdDown d)) g.group m)
command_within h g (OsdRestart d) m w = within_step (map_of h).daemons g (group.Restart d) w tt tt

command_stands : (rs : List Sealed) (h : History) (g : Group) (c : MapCommand) → Stands rs g → Stands rs (moved_alone h g c)
command_stands rs h g (PoolCreate name pg_num size min_size) s = s
command_stands rs h g (AppEnable pool app) s = s
command_stands rs h g (AppSet pool app key value) s = s
command_stands rs h g (AppRm pool app key) s = s
command_stands rs h g (OsdUp d) s = stands_step rs g (move_of (map_of h) (OsdUp d) g.group) s tt
command_stands rs h g (OsdDown d) s = stands_step rs g (move_of (map_of h) (OsdDown d) g.group) s tt
command_stands rs h g (OsdRestart d) s = stands_step rs g (group.Restart d) s tt

command_same : (h : History) (g : Group) (c : MapCommand) → (moved_alone h g c).group ≡ g.group
command_same h g c = go (moves_groups c)
  where
    go : (b : Bool) → (if b then group_step g (move_of (map_of h) c g.group) else g).group ≡ g.group
    go true = step_is g.group (move_of (map_of h) c g.group) g refl
    go false = refl

-- what was sealed by a map is sealed by each later one
pub sealed_later : (h : History) (cs : List MapCommand) (s : Sealed) → IsSealedFor h s → IsSealedFor (record h { commands = h.commands ++ cs }) s
sealed_later h cs s i = record { well = record { pool = in_later h cs s.view.pool s.view.pg_num i.well.pool; hashes = i.well.hashes }; below = i.below }

command_kept : (a : Alone) (c : MapCommand) → StandsAlone a → TakesTurn a (Moves c) → StandsAlone (alone_step a (Moves c))
unfolding requests_of requests_in
command_kept a c k t =
    let h : History = a.history in
    let g : Group = a.group in
    let f : ControlPlane = front_alone h g.requests in
    let m : IsMap (after (map_of h) c) = record { history = later h c; accepted = t.0; is = after_push h.daemons h.commands c } in
    let now = command_facts h g c k.kept.up t.1 in
    let there : GroupKept (front_step f (Map c)) g.group (moved_alone h g c) = mapped_on f g.group g (moved_alone h g c) c k.kept now (command_within h g c m k.kept.within) in
    alone_of (alone_step a (Moves c)) g.group g.requests (command_same h g c) (ap (λ x. x.requests) now) t.0
    (kept_by (front_step f (Map c)) (front_alone (later h c) g.requests) g.group (moved_alone h g c) there refl (ap (filter (is_for g.group)) (sym (append-nil g.requests))))
    (each_weaker (IsSealedFor h) (IsSealedFor (later h c)) (λ s i. sealed_later h (c ∷ []) s i) g.requests k.sealed)
    k.own k.new k.few (command_stands g.requests h g c k.stands)

-- ---- a request

-- what is found in a list that begins with others
pub past_others : (old more : List Sealed) (n : ℕ) → submitted old n ≡ None → submitted (old ++ more) n ≡ submitted more n
past_others [] more n none = refl
past_others (r ∷ rs) more n none = go (r.id == n) none (λ e. past_others rs more n e)
  where
    go : (b : Bool) → (if b then Some r else submitted rs n) ≡ None → (submitted rs n ≡ None → submitted (rs ++ more) n ≡ submitted more n) → (if b then Some r else submitted (rs ++ more) n) ≡ submitted more n
    go true e rest = absurd (cc)
    go false e rest = rest e

pub first_found : (s : Sealed) (more : List Sealed) → submitted (s ∷ more) s.id ≡ Some s
first_found s more = ap (λ b. if b then Some s else submitted more s.id) (number_refl s.id)

pub not_submitted : (rs : List Sealed) (n : ℕ) → is_submitted rs n ≡ false → submitted rs n ≡ None
not_submitted [] n h = refl
not_submitted (r ∷ rs) n h = go (r.id == n) h (λ e. not_submitted rs n e)
  where
    go : (b : Bool) → (b || is_submitted rs n) ≡ false → (is_submitted rs n ≡ false → submitted rs n ≡ None) → (if b then Some r else submitted rs n) ≡ None
    go true e rest = absurd (cc)
    go false e rest = rest e

pub new_push : (old rs : List Sealed) (s : Sealed) → AreNew old rs → submitted (old ++ rs) s.id ≡ None → AreNew old (rs ++ s ∷ [])
new_push old [] s h none = (ap (λ l. submitted l s.id) (sym (append-nil old)) ∙ none, tt)
new_push old (r ∷ rs) s h none = (h.0, new_push (old ++ r ∷ []) rs s h.1 (ap (λ l. submitted l s.id) (append_assoc old (r ∷ []) rs) ∙ none))

passes_both : (b c : Bool) → (if b then Some group_fault.Doubled else (if c then Some group_fault.Full else None)) ≡ None → (b ≡ false) × (c ≡ false)
passes_both true c h = absurd (cc)
passes_both false true h = absurd (cc)
passes_both false false h = (refl, refl)

has_room : (n : ℕ) → not (nat_lt n 16384) ≡ false → n + 1 ≤ 16384
has_room n h = go (nat_lt n 16384) refl h
  where
    go : (b : Bool) → nat_lt n 16384 ≡ b → not b ≡ false → n + 1 ≤ 16384
    go true e k = grind (arith, nat_tests)
    go false e k = absurd (cc)

-- what is found in some requests is found in others: then a group of these is one of those
submits_among : (rs rs' : List Sealed) (id : GroupId) → ((s : Sealed) → IsAsked rs s → IsAsked rs' s) → (e : group.Event) → Submits rs id e → Submits rs' id e
submits_among rs rs' id found (group.Submit s) h = (found s h.0, h.1)
submits_among rs rs' id found (group.Deliver k) h = tt
submits_among rs rs' id found (group.Lose k) h = tt
submits_among rs rs' id found (group.Repeat k) h = tt
submits_among rs rs' id found (group.NewInterval acting up) h = tt
submits_among rs rs' id found (group.Restart d) h = tt
submits_among rs rs' id found group.Kick h = tt

pub stands_among : (rs rs' : List Sealed) (g : Group) → ((s : Sealed) → IsAsked rs s → IsAsked rs' s) → Stands rs g → Stands rs' g
stands_among rs rs' g found h = record {
  min_size = h.min_size;
  count = h.count;
  acting = h.acting;
  up = h.up;
  events = h.events;
  submits = each_weaker (Submits rs g.group) (Submits rs' g.group) (λ e k. submits_among rs rs' g.group found e k) h.events h.submits;
  is = h.is;
}

request_kept : (a : Alone) (s : Sealed) → StandsAlone a → TakesTurn a (Asks s) → StandsAlone (alone_step a (Asks s))
request_kept a s k t =
    let h : History = a.history in
    let g : Group = a.group in
    let rs : List Sealed = g.requests in
    let more : List Sealed = rs ++ s ∷ [] in
    let next : Group = group_step g (group.Submit s) in
    let passes = passes_both (is_submitted rs s.id) (has_all_requests g) t.2 in
    let none : submitted rs s.id ≡ None = not_submitted rs s.id passes.0 in
    let room : length rs + 1 ≤ 16384 = has_room (length rs) passes.1 in
    let now : facts next ≡ record (facts g) { requests = more } = submit_facts g s t.2 in
    let mine : filter (is_for g.group) (s ∷ []) ≡ s ∷ [] = ap (λ b. cond b (s ∷ []) []) (ap (is_same_group g.group) t.1 ∙ group_refl g.group) in
    alone_of (alone_step a (Asks s)) g.group more (step_is g.group (group.Submit s) g refl) (ap (λ x. x.requests) now) k.accepted
    (asking_on (front_alone h rs) (front_alone h more) g.group g next (s ∷ []) k.kept refl refl
    (now ∙ ap (λ l. record (facts g) { requests = rs ++ l }) (sym mine))
    (within_step (map_of h).daemons g (group.Submit s) k.kept.within tt tt))
    (each_join (IsSealedFor h) rs (s ∷ []) k.sealed (t.0, tt))
    (each_join (λ r. group_for r ≡ g.group) rs (s ∷ []) k.own (t.1, tt))
    (new_push [] rs s k.new none)
    (omega (arith, length-append rs (s ∷ [])))
    (stands_step more g (group.Submit s) (stands_among rs more g (λ r i. asked_later rs (s ∷ []) r i) k.stands) (past_others rs (s ∷ []) s.id none ∙ first_found s [], t.1))

-- ---- a delivery

delivery_kept : (a : Alone) → StandsAlone a → StandsAlone (alone_step a Works)
delivery_kept a k =
    let h : History = a.history in
    let g : Group = a.group in
    let rs : List Sealed = g.requests in
    let next : Group = group_step g (group.Deliver 0) in
    let now : facts next ≡ facts g = message_facts (group.Deliver 0) g tt in
    alone_of (alone_step a Works) g.group rs (step_is g.group (group.Deliver 0) g refl) (ap (λ x. x.requests) now) k.accepted
    (asking_on (front_alone h rs) (front_alone h rs) g.group g next [] k.kept refl (sym (append-nil rs))
    (now ∙ ap (λ l. record (facts g) { requests = l }) (sym (append-nil rs)))
    (within_step (map_of h).daemons g (group.Deliver 0) k.kept.within tt tt))
    k.sealed k.own k.new k.few (stands_step rs g (group.Deliver 0) k.stands tt)

-- ---- the laws

-- a group alone stands after each turn that it takes
pub alone_kept : (a : Alone) (t : Turn) → StandsAlone a → TakesTurn a t → StandsAlone (alone_step a t)
alone_kept a (Moves c) k t = command_kept a c k t
alone_kept a (Asks s) k t = request_kept a s k t
alone_kept a Works k t = delivery_kept a k

pub alone_through : (ts : List Turn) (a : Alone) → StandsAlone a → TakesTurns a ts → StandsAlone (fold alone_step a ts)
alone_through [] a k t = k
alone_through (u ∷ us) a k t = alone_through us (alone_step a u) (alone_kept a u k t.0) t.1

-- each group of a sound world without requests stands alone
pub alone_at_start : (w : World) → IsSound w → w.front.submissions ≡ [] → (id : GroupId) (g : Group) → group_at id w.groups ≡ Some g → StandsAlone (record { history = w.front.history; group = g })
alone_at_start w sound empty id g there =
    let k : GroupKept w.front id g = sound.kept.groups id g there in
    let same : id ≡ g.group = group_at_is id w.groups g there in
    let none : g.requests ≡ [] = k.requests ∙ ap (filter (is_for id)) empty in
    let S : List Sealed → Type 0 = λ l. Stands l g in
    alone_of (record { history = w.front.history; group = g }) id [] (sym same) none sound.kept.front.accepted
    (kept_by w.front (front_alone w.front.history []) id g k refl (ap (filter (is_for id)) (sym empty)))
    tt tt tt (omega arith)
    (subst S empty (group_at_each (Stands w.front.submissions) id w.groups g sound.stands.groups there))

-- ---- what turns leave

step_name : (a : Alone) (t : Turn) → (alone_step a t).group.group ≡ a.group.group
step_name a (Moves c) = command_same a.history a.group c
step_name a (Asks s) = step_is a.group.group (group.Submit s) a.group refl
step_name a Works = step_is a.group.group (group.Deliver 0) a.group refl

-- it stays the group of its place
pub name_through : (ts : List Turn) (a : Alone) → (fold alone_step a ts).group.group ≡ a.group.group
name_through [] a = refl
name_through (t ∷ ts) a = name_through ts (alone_step a t) ∙ step_name a t

-- the commands among turns
abbrev pub commands_of : List Turn → List MapCommand
commands_of [] = []
commands_of (Moves c ∷ ts) = c ∷ commands_of ts
commands_of (Asks s ∷ ts) = commands_of ts
commands_of (Works ∷ ts) = commands_of ts

-- the history that it knows has these more
pub history_through : (ts : List Turn) (a : Alone) → (fold alone_step a ts).history ≡ record a.history { commands = a.history.commands ++ commands_of ts }
history_through [] a = ap (λ l. record a.history { commands = l }) (sym (append-nil a.history.commands))
history_through (Moves c ∷ ts) a = history_through ts (alone_step a (Moves c)) ∙ ap (λ l. record a.history { commands = l }) (append_assoc a.history.commands (c ∷ []) (commands_of ts))
history_through (Asks s ∷ ts) a = history_through ts (alone_step a (Asks s))
history_through (Works ∷ ts) a = history_through ts (alone_step a Works)

-- ---- the places of a map

abbrev pub creates_pool : MapCommand → Bool
creates_pool (PoolCreate name pg_num size min_size) = true
creates_pool _ = false

one_stays : (h : History) (c : MapCommand) → creates_pool c ≡ false → flat_map groups_of (map_of (later h c)).pools ≡ flat_map groups_of (map_of h).pools
one_stays h c none = ap (λ s. flat_map groups_of s.pools) (after_push h.daemons h.commands c) ∙ command_places (map_of h) (front_alone h []) c refl ∙ no_more c none
  where
    no_more : (c : MapCommand) → creates_pool c ≡ false → flat_map groups_of (map_of h).pools ++ map (λ g. g.group) (created_by (front_alone h []) (Map c)) ≡ flat_map groups_of (map_of h).pools
    no_more (PoolCreate name pg_num size min_size) e = absurd (cc)
    no_more (AppEnable pool app) e = append-nil (flat_map groups_of (map_of h).pools)
    no_more (AppSet pool app key value) e = append-nil (flat_map groups_of (map_of h).pools)
    no_more (AppRm pool app key) e = append-nil (flat_map groups_of (map_of h).pools)
    no_more (OsdUp d) e = append-nil (flat_map groups_of (map_of h).pools)
    no_more (OsdDown d) e = append-nil (flat_map groups_of (map_of h).pools)
    no_more (OsdRestart d) e = append-nil (flat_map groups_of (map_of h).pools)

-- commands that create no pool leave the places
pub places_stay : (h : History) (cs : List MapCommand) → Each (λ c. creates_pool c ≡ false) cs → flat_map groups_of (map_of (record h { commands = h.commands ++ cs })).pools ≡ flat_map groups_of (map_of h).pools
places_stay h [] none = ap (λ l. flat_map groups_of (map_of (record h { commands = l })).pools) (append-nil h.commands)
places_stay h (c ∷ cs) none =
    ap (λ l. flat_map groups_of (map_of (record h { commands = l })).pools) (sym (append_assoc h.commands (c ∷ []) cs))
    ∙ places_stay (later h c) cs none.1
    ∙ one_stays h c none.0

-- ---- the pools of a map
