-- What a world keeps whose events were all accepted.
use Prim.Native.Nat.{zero, suc}
use Rattle.std.proofs.Common.{◌≡◌, ◌∙◌, ℕ, ◌+◌, ◌*◌, ◌<◌, ◌≤◌, ◌==◌, ◌||◌, List, ◌∷◌, ◌++◌, Bool, true, false, not, cond, if◌then◌else◌, Option, Some, None, Result, Ok, Err, map, length, refl, sym, ap, subst, arith, append-nil, length-append, nat_lt, option_to_list, []}
use Rattle.std.specs.List.{filter, flat_map, range_with_len, find, list_any}
use Rattle.std.specs.Option.{option_map, option_or}
use Rattle.std.specs.Str.{bytes_eq}
use Rattle.std.proofs.lemmas.Bool.Decides.{nat_tests}
use Rattle.std.proofs.lemmas.List.Elements.{filter-append}
use Rattle.place_core.specs.Placement.{IsActingSet, acting_of, numbers_of}
use Rattle.map_core.specs.State.{MapState, History}
use Rattle.map_core.specs.Map.{is_named, created, after, initial, map_of, epoch_of, pool_in}
use Rattle.map_core.specs.Refusal.{refusal}
use Rattle.map_core.specs.PoolLimits.{IsPool}
use Rattle.map_core.specs.Intervals.{size_in, set_of, begun, intervals_of}
use Rattle.map_core.specs.Replay.{pool_step}
use Rattle.map_core.specs.declared.pool.Pool.{Pool}
use Rattle.map_core.specs.declared.command.MapCommand.{MapCommand}
use Rattle.map_core.specs.declared.command.MapCommand.TheVariants.{PoolCreate, AppEnable, AppSet, AppRm, OsdUp, OsdDown, OsdRestart}
use Rattle.map_core.proofs.Current.{daemons_stay, after_push}
use Rattle.map_core.proofs.OnePool.{pool_after_step}
use Rattle.store_core.specs.Request.{Sealed}
use Rattle.store_core.specs.declared.sealed.GroupId.{GroupId}
use Rattle.group_model_whole.specs.Each.{Each}
use Rattle.group_model.specs.Group.{Group, EventFits, group_step, run, start, last_set, is_submitted}
use Rattle.group_model.specs.Group as group
use Rattle.group_model.specs.Reached.{IsReached}
use Rattle.group_model_whole.specs.Within.{ActsWithin}
use Rattle.group_messages.specs.declared.fault.GroupFault.{GroupFault}
use Rattle.group_messages.specs.declared.fault.GroupFault.TheVariants as group_fault
use Rattle.group_model.proofs.Runs.{run-append}
use Rattle.world_events.specs.declared.event.Ask.{Ask}
use Rattle.world_events.specs.declared.event.Event.{Event}
use Rattle.world_events.specs.declared.event.Event.TheVariants.{Auth, Map, Open, Renew, Close, Submit, List as ListNames, Deliver, Lose, Repeat, Kick}
use Rattle.world_events.specs.declared.fault.WorldFault.{WorldFault as Fault}
use Rattle.world_events.specs.declared.fault.WorldFault.TheVariants.{Map as OfMap, Group as OfGroup}
use Rattle.entry_core.specs.Locality.{group_for}
use Rattle.world_front.specs.Groups.{is_same_group, is_for, groups_of}
use Rattle.world_front.specs.ControlPlane.{ControlPlane, front_step, front_refusal, asking_refusal, is_full, requests_of, requests_in, sealed_by, if_ok}
use Rattle.world_front.specs.declared.session.Session.{Session}
use Rattle.world_core.specs.World.{World, Part, part, group_at, members_of, map_parts, asked_parts, parts_of, begun_group, created_by, refused_in, parts_refusal, is_accepted, world_step}
use Rattle.world_core.specs.Holds.{events_in, group_step_alone}
use Rattle.world_core.specs.Accepted.{FrontTells, IsServed}
use Rattle.world_front.proofs.Merge.{same_group, bytes_refl}
use Rattle.world_front.proofs.Bytes.{number_same}
use Rattle.world_front.proofs.Pools.{InMap, in_later, found_in}
use Rattle.world_front.proofs.Numbers.{next_in, next_at, open_is, IsGiven, NumberedFrom}
use Rattle.world_core.proofs.Acting.{each_join}
use Rattle.world_front.proofs.Fronts.{Requested, submit_made, list_made, FrontStands}
use Rattle.world_core.proofs.Holding.{step_at}
use Rattle.world_front.proofs.Places.{each_filter, numbered, places_once, AtMostOne}
use Rattle.world_core.proofs.Limits.{or_second, wrapped_none, not_refused, Allowed, allowed, CreatesWell, creates_well, IsSealedFor, FrontKept, once, front_kept, few_submissions, pool_limits, if_none, each_not, counted_for, not_full}
use Rattle.world_core.proofs.Sets.{IsMap, set_acting, members_fit, lies_within}
use Rattle.world_core.proofs.Requests.{facts, told_one, asked_facts, moved_facts, restarted_facts}
use Rattle.world_core.proofs.Intervals.{sized_set, members_are, intervals_after, intervals_none, HasSets, later, sets_after, sets_kept}
pub use Rattle.world_core.specs.Sound.{IsWithin, GroupKept, WorldKept}

-- ---- events that all groups accept

abbrev Passes : World → Event → Type 0
Passes w (Map command) = parts_refusal w.groups (parts_of w.front (Map command)) ≡ None
Passes w (Submit ask object ops) = parts_refusal w.groups (parts_of w.front (Submit ask object ops)) ≡ None
Passes w (ListNames ask) = parts_refusal w.groups (parts_of w.front (ListNames ask)) ≡ None
Passes w (Auth command) = Unit {0}
Passes w (Open entity until) = Unit {0}
Passes w (Renew n until) = Unit {0}
Passes w (Close n) = Unit {0}
Passes w (Deliver id k) = Unit {0}
Passes w (Lose id k) = Unit {0}
Passes w (Repeat id k) = Unit {0}
Passes w (Kick id) = Unit {0}

passes : (w : World) (e : Event) → is_accepted w e ≡ true → Passes w e
passes w (Map command) h = wrapped_none OfGroup _ (or_second (front_refusal w.front (Map command)) _ (not_refused w (Map command) (λ fault. refl) h))
passes w (Submit ask object ops) h = wrapped_none OfGroup _ (or_second (front_refusal w.front (Submit ask object ops)) _ (not_refused w (Submit ask object ops) (λ fault. refl) h))
passes w (ListNames ask) h = wrapped_none OfGroup _ (or_second (front_refusal w.front (ListNames ask)) _ (not_refused w (ListNames ask) (λ fault. refl) h))
passes w (Auth command) h = tt
passes w (Open entity until) h = tt
passes w (Renew n until) h = tt
passes w (Close n) h = tt
passes w (Deliver id k) h = tt
passes w (Lose id k) h = tt
passes w (Repeat id k) h = tt
passes w (Kick id) h = tt

-- ---- each group is one that there can be

abbrev Fit : List Part → Type 0
Fit ps = Each (λ p. EventFits p.event) ps

asked_fit : (rs : List Sealed) → Fit (asked_parts rs)
asked_fit [] = tt
asked_fit (s ∷ ss) = (tt, asked_fit ss)

moved_fit : (state : MapState) (ids : List GroupId) → IsMap state → Fit (map (λ id. part id (group.NewInterval (members_of state id) (numbers_of state.up))) ids)
moved_fit state [] m = tt
moved_fit state (id ∷ ids) m = (members_fit state id m, moved_fit state ids m)

restarted_fit : (d : ℕ) (ids : List GroupId) → Fit (map (λ id. part id (group.Restart d)) ids)
restarted_fit d [] = tt
restarted_fit d (id ∷ ids) = (tt, restarted_fit d ids)

map_fit : (state : MapState) (c : MapCommand) → IsMap (after state c) → Fit (map_parts state c)
map_fit state (PoolCreate name pg_num size min_size) m = tt
map_fit state (AppEnable pool app) m = tt
map_fit state (AppSet pool app key value) m = tt
map_fit state (AppRm pool app key) m = tt
map_fit state (OsdUp d) m = moved_fit (after state (OsdUp d)) (flat_map groups_of state.pools) m
map_fit state (OsdDown d) m = moved_fit (after state (OsdDown d)) (flat_map groups_of state.pools) m
map_fit state (OsdRestart d) m = restarted_fit d (flat_map groups_of state.pools)

-- the map after an accepted command
pub next_map : (f : ControlPlane) (c : MapCommand) → FrontKept (front_step f (Map c)) → IsMap (after (map_of f.history) c)
next_map f c next = record { history = later f.history c; accepted = next.accepted; is = after_push f.history.daemons f.history.commands c }

parts_fit : (f : ControlPlane) (e : Event) → FrontKept (front_step f e) → Fit (parts_of f e)
parts_fit f (Map command) h = map_fit (map_of f.history) command (next_map f command h)
parts_fit f (Submit ask object ops) h = asked_fit (sealed_by f (Submit ask object ops))
parts_fit f (ListNames ask) h = asked_fit (sealed_by f (ListNames ask))
parts_fit f (Auth command) h = tt
parts_fit f (Open entity until) h = tt
parts_fit f (Renew n until) h = tt
parts_fit f (Close n) h = tt
parts_fit f (Deliver id k) h = (tt, tt)
parts_fit f (Lose id k) h = (tt, tt)
parts_fit f (Repeat id k) h = (tt, tt)
parts_fit f (Kick id) h = (tt, tt)

-- ---- within the daemons that are up

abbrev Within : ℕ → List Part → Type 0
Within count ps = Each (λ p. ActsWithin count p.event) ps

asked_within : (count : ℕ) (rs : List Sealed) → Within count (asked_parts rs)
asked_within count [] = tt
asked_within count (s ∷ ss) = (tt, asked_within count ss)

moved_within : (state : MapState) (ids : List GroupId) → IsMap state → Within state.daemons (map (λ id. part id (group.NewInterval (members_of state id) (numbers_of state.up))) ids)
moved_within state [] m = tt
moved_within state (id ∷ ids) m = (lies_within state id m, moved_within state ids m)

restarted_within : (count d : ℕ) (ids : List GroupId) → Within count (map (λ id. part id (group.Restart d)) ids)
restarted_within count d [] = tt
restarted_within count d (id ∷ ids) = (tt, restarted_within count d ids)

map_within : (state : MapState) (c : MapCommand) → IsMap (after state c) → Within state.daemons (map_parts state c)
map_within state (PoolCreate name pg_num size min_size) m = tt
map_within state (AppEnable pool app) m = tt
map_within state (AppSet pool app key value) m = tt
map_within state (AppRm pool app key) m = tt
map_within state (OsdUp d) m = moved_within (after state (OsdUp d)) (flat_map groups_of state.pools) m
map_within state (OsdDown d) m = moved_within (after state (OsdDown d)) (flat_map groups_of state.pools) m
map_within state (OsdRestart d) m = restarted_within state.daemons d (flat_map groups_of state.pools)

parts_within : (f : ControlPlane) (e : Event) → FrontKept (front_step f e) → Within (map_of f.history).daemons (parts_of f e)
parts_within f (Map command) next = map_within (map_of f.history) command (next_map f command next)
parts_within f (Submit ask object ops) next = asked_within (map_of f.history).daemons (sealed_by f (Submit ask object ops))
parts_within f (ListNames ask) next = asked_within (map_of f.history).daemons (sealed_by f (ListNames ask))
parts_within f (Auth command) next = tt
parts_within f (Open entity until) next = tt
parts_within f (Renew n until) next = tt
parts_within f (Close n) next = tt
parts_within f (Deliver id k) next = (tt, tt)
parts_within f (Lose id k) next = (tt, tt)
parts_within f (Repeat id k) next = (tt, tt)
parts_within f (Kick id) next = (tt, tt)

pub within_step : (count : ℕ) (g : Group) (e : group.Event) → IsWithin count g → EventFits e → ActsWithin count e → IsWithin count (group_step g e)
within_step count g e h fits acts =
    let r : IsReached g = h.is.reached in
    let A : ℕ → Type 0 = λ n. ActsWithin n e in
    record {
      is = record {
        reached = record {
          group = r.group;
          min_size = r.min_size;
          daemons = r.daemons;
          acting = r.acting;
          up = r.up;
          events = r.events ++ e ∷ [];
          least = r.least;
          begins = r.begins;
          fit = each_join EventFits r.events (e ∷ []) r.fit (fits, tt);
          is = run-append r.events (e ∷ []) (start r.group r.min_size r.daemons r.acting r.up) ∙ ap (λ v. group_step v e) r.is;
        };
        first = h.is.first;
        later = each_join (ActsWithin r.daemons) r.events (e ∷ []) h.is.later (subst A (sym h.all) acts, tt);
      };
      all = h.all;
    }

within_run : (count : ℕ) (ps : List Part) (g : Group) → Fit ps → Within count ps → IsWithin count g → IsWithin count (run (map (λ p. p.event) ps) g)
within_run count [] g fit acts h = h
within_run count (p ∷ ps) g fit acts h = within_run count ps (group_step g p.event) fit.1 acts.1 (within_step count g p.event h fit.0 acts.0)

within_on : (f : ControlPlane) (e : Event) (id : GroupId) (g : Group) → FrontKept (front_step f e) → IsWithin (map_of f.history).daemons g → IsWithin (map_of f.history).daemons (run (events_in id (parts_of f e)) g)
within_on f e id g next r =
    within_run (map_of f.history).daemons (filter (λ p. is_same_group id p.id) (parts_of f e)) g
    (each_filter (λ p. EventFits p.event) (λ p. is_same_group id p.id) (parts_of f e) (parts_fit f e next))
    (each_filter (λ p. ActsWithin (map_of f.history).daemons p.event) (λ p. is_same_group id p.id) (parts_of f e) (parts_within f e next)) r

-- ---- a group that was there

-- an event that leaves the map, with these new requests
pub asking_on : (f f' : ControlPlane) (id : GroupId) (g g' : Group) (news : List Sealed) → GroupKept f id g → f'.history ≡ f.history → f'.submissions ≡ f.submissions ++ news
    → facts g' ≡ record (facts g) { requests = g.requests ++ filter (is_for id) news } → IsWithin (map_of f.history).daemons g' → GroupKept f' id g'
asking_on f f' id g g' news h history submissions now within =
    let I : History → Type 0 = λ k. InMap k id.pool h.groups in
    let R : History → Type 0 = λ k. IsWithin (map_of k).daemons g' in
    let S : History → List (List ℕ) → Type 0 = λ k s. HasSets k id s in
    record {
      requests = ap (λ x. x.requests) now ∙ ap (λ l. l ++ filter (is_for id) news) h.requests ∙ sym (filter-append (is_for id) f.submissions news) ∙ ap (filter (is_for id)) (sym submissions);
      groups = h.groups;
      pool = subst I (sym history) h.pool;
      number = h.number;
      up = ap (λ x. x.up) now ∙ h.up ∙ ap (λ k. numbers_of (map_of k).up) (sym history);
      sets = subst (λ k. S k g'.sets) (sym history) (subst (S f.history) (sym (ap (λ x. x.sets) now)) h.sets);
      within = subst R (sym history) within;
    }

no_news : (g g' : Group) → facts g' ≡ facts g → facts g' ≡ record (facts g) { requests = g.requests ++ [] }
no_news g g' e = e ∙ ap (λ l. record (facts g) { requests = l }) (sym (append-nil g.requests))

single_of : (f : ControlPlane) (id : GroupId) (ask : Ask) (r : Result (List Sealed) Fault) → ((rs : List Sealed) → r ≡ Ok rs → Requested f ask rs) → AtMostOne (filter (is_for id) (if_ok r [] (λ rs. rs)))
single_of f id ask (Err fault) made = record { one = None; is = refl }
single_of f id ask (Ok rs) made = (made rs refl).single id

-- what a command leaves of the facts
mapped_facts : (f : ControlPlane) (id : GroupId) (g : Group) (groups : List Group) (c : MapCommand) → FrontKept f → GroupKept f id g → group_at id groups ≡ Some g → parts_refusal groups (map_parts (map_of f.history) c) ≡ None
    → facts (run (events_in id (map_parts (map_of f.history) c)) g) ≡ record { requests = g.requests; sets = sets_after f.history id g.sets c; up = numbers_of (after (map_of f.history) c).up }
mapped_facts f id g groups c kept h there none = by c none
  where
    still : facts g ≡ record { requests = g.requests; sets = g.sets; up = numbers_of (map_of f.history).up }
    still = ap (λ u. record { requests = g.requests; sets = g.sets; up = u }) h.up

    one_place : filter (is_same_group id) (flat_map groups_of (map_of f.history).pools) ≡ id ∷ []
    one_place = places_once id (map_of f.history).pools h.pool.is.pool (once f kept) (found_in f.history id.pool h.groups h.pool) (subst (λ n. id.number < n) (sym h.pool.is.groups) h.number)

    by : (c : MapCommand) → parts_refusal groups (map_parts (map_of f.history) c) ≡ None
        → facts (run (events_in id (map_parts (map_of f.history) c)) g) ≡ record { requests = g.requests; sets = sets_after f.history id g.sets c; up = numbers_of (after (map_of f.history) c).up }
    by (PoolCreate name pg_num size min_size) passed = still
    by (AppEnable pool app) passed = still
    by (AppSet pool app key value) passed = still
    by (AppRm pool app key) passed = still
    by (OsdUp d) passed = moved_facts id g groups (after (map_of f.history) (OsdUp d)) there passed one_place
    by (OsdDown d) passed = moved_facts id g groups (after (map_of f.history) (OsdDown d)) there passed one_place
    by (OsdRestart d) passed = restarted_facts id g groups (map_of f.history) d there passed one_place ∙ ap (λ u. record { requests = g.requests; sets = sets_after f.history id g.sets (OsdRestart d); up = u }) h.up

pub mapped_on : (f : ControlPlane) (id : GroupId) (g g' : Group) (c : MapCommand) → GroupKept f id g → facts g' ≡ record { requests = g.requests; sets = sets_after f.history id g.sets c; up = numbers_of (after (map_of f.history) c).up }
    → IsWithin (map_of f.history).daemons g' → GroupKept (front_step f (Map c)) id g'
unfolding requests_of requests_in
mapped_on f id g g' c h now within =
    let next : map_of (later f.history c) ≡ after (map_of f.history) c = after_push f.history.daemons f.history.commands c in
    let S : List (List ℕ) → Type 0 = λ s. HasSets (later f.history c) id s in
    record {
      requests = ap (λ x. x.requests) now ∙ h.requests ∙ ap (filter (is_for id)) (sym (append-nil f.submissions));
      groups = h.groups;
      pool = in_later f.history (c ∷ []) id.pool h.groups h.pool;
      number = h.number;
      up = ap (λ x. x.up) now ∙ ap (λ s. numbers_of s.up) (sym next);
      sets = subst S (sym (ap (λ x. x.sets) now)) (sets_kept f.history c id g.sets next h.sets);
      within = subst (λ s. IsWithin s.daemons g') (sym next) within;
    }

old_kept : (w : World) (e : Event) (id : GroupId) (g : Group) → FrontKept w.front → FrontKept (front_step w.front e) → GroupKept w.front id g → Passes w e → group_at id w.groups ≡ Some g → GroupKept (front_step w.front e) id (run (events_in id (parts_of w.front e)) g)
unfolding requests_of requests_in
old_kept w (Map c) id g kept next h passed there =
    mapped_on w.front id g (run (events_in id (parts_of w.front (Map c))) g) c h (mapped_facts w.front id g w.groups c kept h there passed) (within_on w.front (Map c) id g next h.within)
old_kept w (Submit ask object ops) id g kept next h passed there =
    asking_on w.front (front_step w.front (Submit ask object ops)) id g (run (events_in id (parts_of w.front (Submit ask object ops))) g) (sealed_by w.front (Submit ask object ops)) h refl refl
    (asked_facts id g w.groups (sealed_by w.front (Submit ask object ops)) there passed (single_of w.front id ask (requests_of w.front (Submit ask object ops)) (λ rs is. submit_made w.front ask object ops rs is)))
    (within_on w.front (Submit ask object ops) id g next h.within)
old_kept w (ListNames ask) id g kept next h passed there =
    asking_on w.front (front_step w.front (ListNames ask)) id g (run (events_in id (parts_of w.front (ListNames ask))) g) (sealed_by w.front (ListNames ask)) h refl refl
    (asked_facts id g w.groups (sealed_by w.front (ListNames ask)) there passed (single_of w.front id ask (requests_of w.front (ListNames ask)) (λ rs is. list_made w.front ask rs is)))
    (within_on w.front (ListNames ask) id g next h.within)
old_kept w (Auth command) id g kept next h passed there = asking_on w.front (front_step w.front (Auth command)) id g g [] h refl refl (no_news g g refl) h.within
old_kept w (Open entity until) id g kept next h passed there = asking_on w.front (front_step w.front (Open entity until)) id g g [] h refl refl (no_news g g refl) h.within
old_kept w (Renew n until) id g kept next h passed there = asking_on w.front (front_step w.front (Renew n until)) id g g [] h refl refl (no_news g g refl) h.within
old_kept w (Close n) id g kept next h passed there = asking_on w.front (front_step w.front (Close n)) id g g [] h refl refl (no_news g g refl) h.within
old_kept w (Deliver other k) id g kept next h passed there =
    asking_on w.front (front_step w.front (Deliver other k)) id g (run (events_in id (parts_of w.front (Deliver other k))) g) [] h refl refl (no_news g (run (events_in id (parts_of w.front (Deliver other k))) g) (told_one id other (group.Deliver k) g tt)) (within_on w.front (Deliver other k) id g next h.within)
old_kept w (Lose other k) id g kept next h passed there =
    asking_on w.front (front_step w.front (Lose other k)) id g (run (events_in id (parts_of w.front (Lose other k))) g) [] h refl refl (no_news g (run (events_in id (parts_of w.front (Lose other k))) g) (told_one id other (group.Lose k) g tt)) (within_on w.front (Lose other k) id g next h.within)
old_kept w (Repeat other k) id g kept next h passed there =
    asking_on w.front (front_step w.front (Repeat other k)) id g (run (events_in id (parts_of w.front (Repeat other k))) g) [] h refl refl (no_news g (run (events_in id (parts_of w.front (Repeat other k))) g) (told_one id other (group.Repeat k) g tt)) (within_on w.front (Repeat other k) id g next h.within)
old_kept w (Kick other) id g kept next h passed there =
    asking_on w.front (front_step w.front (Kick other)) id g (run (events_in id (parts_of w.front (Kick other))) g) [] h refl refl (no_news g (run (events_in id (parts_of w.front (Kick other))) g) (told_one id other group.Kick g tt)) (within_on w.front (Kick other) id g next h.within)

-- ---- a new group

-- the group that a pool's creation makes at a place
pub record IsMade (state : MapState) (min_size : ℕ) (name : List ℕ) (pg_num : ℕ) (id : GroupId) (g : Group) : Type 0 where
  pub pool : id.pool ≡ name
  pub number : id.number < pg_num
  pub is : begun_group state min_size id ≡ g

pub made_at : (state : MapState) (min_size : ℕ) (name : List ℕ) (k n : ℕ) (id : GroupId) (g : Group) → group_at id (map (begun_group state min_size) (map (numbered name) (range_with_len k n))) ≡ Some g → IsMade state min_size name (k + n) id g
made_at state min_size name k zero id g h = absurd (cc)
made_at state min_size name k (suc n) id g h = go (is_same_group id (numbered name k)) refl h (λ more. made_at state min_size name (k + 1) n id g more)
  where
    further : IsMade state min_size name ((k + 1) + n) id g → IsMade state min_size name (k + suc n) id g
    further m = let less : id.number < (k + 1) + n = m.number in record { pool = m.pool; number = omega arith; is = m.is }

    go : (b : Bool) → is_same_group id (numbered name k) ≡ b → (if b then Some (begun_group state min_size (numbered name k)) else group_at id (map (begun_group state min_size) (map (numbered name) (range_with_len (k + 1) n)))) ≡ Some g
        → (group_at id (map (begun_group state min_size) (map (numbered name) (range_with_len (k + 1) n))) ≡ Some g → IsMade state min_size name ((k + 1) + n) id g) → IsMade state min_size name (k + suc n) id g
    go true is one rest =
        let same : id ≡ numbered name k = same_group id (numbered name k) is in
        let group_is : begun_group state min_size (numbered name k) ≡ g = cc in
        let number : id.number ≡ k = ap (λ i. i.number) same in
        record { pool = ap (λ i. i.pool) same; number = omega arith; is = ap (begun_group state min_size) same ∙ group_is }
    go false is more rest = further (rest more)

-- no request is for a pool that is not there
pub none_yet : (history : History) (id : GroupId) (ss : List Sealed) → find (is_named id.pool) (map_of history).pools ≡ None → Each (IsSealedFor history) ss → filter (is_for id) ss ≡ []
none_yet history id [] none all = refl
none_yet history id (s ∷ ss) none all = go (is_for id s) refl (none_yet history id ss none all.1)
  where
    go : (b : Bool) → is_for id s ≡ b → filter (is_for id) ss ≡ [] → cond b (s ∷ filter (is_for id) ss) (filter (is_for id) ss) ≡ []
    go false e rest = rest
    go true e rest =
        let pool : id.pool ≡ s.view.pool = ap (λ i. i.pool) (same_group id (group_for s) e) in
        let p = all.0.well.pool in
        absurd (let both : Some p.is.pool ≡ None = sym (found_in history s.view.pool s.view.pg_num p) ∙ ap (λ n. find (is_named n) (map_of history).pools) (sym pool) ∙ none in cc)

no_size : (state : MapState) (pool : List ℕ) (number : ℕ) → size_in state.pools pool ≡ None → set_of state pool number ≡ None
unfolding set_of
no_size state pool number h = ap (option_map (acting_of pool number (numbers_of state.up))) h

made_kept : (f : ControlPlane) (name : List ℕ) (pg_num size min_size : ℕ) (id : GroupId) (g : Group) → FrontKept f → FrontKept (front_step f (Map (PoolCreate name pg_num size min_size))) → CreatesWell (map_of f.history).pools name
    → IsMade (after (map_of f.history) (PoolCreate name pg_num size min_size)) min_size name pg_num id g → GroupKept (front_step f (Map (PoolCreate name pg_num size min_size))) id g
unfolding requests_of requests_in size_in pool_in
made_kept f name pg_num size min_size id g kept then_kept well made =
    let c : MapCommand = PoolCreate name pg_num size min_size in
    let state : MapState = map_of f.history in
    let next : map_of (later f.history c) ≡ after state c = after_push f.history.daemons f.history.commands c in
    let new : Pool = created name pg_num size min_size in
    let absent : find (is_named id.pool) state.pools ≡ None = ap (λ n. find (is_named n) state.pools) made.pool ∙ well.fresh in
    let found : find (is_named id.pool) (after state c).pools ≡ Some new =
    pool_after_step id.pool state.pools c ∙ ap (λ o. pool_step id.pool o c) absent ∙ ap (λ b. if b then Some new else None) (ap (bytes_eq name) made.pool ∙ bytes_refl name) in
    let sized : size_in (after state c).pools id.pool ≡ Some size = ap (option_map (λ (p : Pool). p.size)) found in
    let unsized : size_in state.pools id.pool ≡ None = ap (option_map (λ (p : Pool). p.size)) absent in
    let acting : List ℕ = acting_of id.pool id.number (numbers_of (after state c).up) size in
    let unset : set_of state id.pool id.number ≡ None = no_size state id.pool id.number unsized in
    let present : set_of (after state c) id.pool id.number ≡ Some acting = sized_set (after state c) id.pool id.number size sized in
    let members : members_of (after state c) id ≡ acting = members_are (after state c) id acting present in
    let found_now : find (is_named id.pool) (map_of (later f.history c)).pools ≡ Some new = ap (λ s. find (is_named id.pool) s.pools) next ∙ found in
    let limits : IsPool new = pool_limits (front_step f (Map c)) id.pool new then_kept found_now in
    let then_map : IsMap (after state c) = next_map f c then_kept in
    let P : Group → Type 0 = λ v. GroupKept (front_step f (Map c)) id v in
    subst P made.is (record {
      requests = sym (ap (filter (is_for id)) (append-nil f.submissions) ∙ none_yet f.history id f.submissions absent kept.sealed);
      groups = pg_num;
      pool = record { size = size; min_size = min_size; is = record { pool = new; found = found_now; named = sym made.pool; groups = refl; daemons = refl; needed = refl } };
      number = made.number;
      up = ap (λ s. numbers_of s.up) (sym next);
      sets = record {
        are = ap (λ s. s ∷ []) members
            ∙ ap (λ o. option_to_list (begun c o (Some acting))) (sym unset)
            ∙ ap (λ l. l ++ option_to_list (begun c (set_of state id.pool id.number) (Some acting))) (sym (intervals_none f.history id.pool id.number unset))
            ∙ ap (λ o. intervals_of f.history id.pool id.number ++ option_to_list (begun c (set_of state id.pool id.number) o)) (sym present)
            ∙ sym (intervals_after f.history c id.pool id.number);
        present = ap (λ s. set_of s id.pool id.number) next ∙ present ∙ ap Some (sym members);
      };
      within = subst (λ s. IsWithin s.daemons (begun_group (after state c) min_size id)) (sym next) (record {
        is = record {
          reached = record {
            group = id;
            min_size = min_size;
            daemons = (after state c).daemons;
            acting = members_of (after state c) id;
            up = numbers_of (after state c).up;
            events = [];
            least = limits.some_needed;
            begins = members_fit (after state c) id then_map;
            fit = tt;
            is = refl;
          };
          first = lies_within (after state c) id then_map;
          later = tt;
        };
        all = refl;
      });
    })

new_kept : (f : ControlPlane) (e : Event) (id : GroupId) (g : Group) → FrontKept f → FrontKept (front_step f e) → Allowed f e → group_at id (created_by f e) ≡ Some g → GroupKept (front_step f e) id g
new_kept f (Map (PoolCreate name pg_num size min_size)) id g kept then_kept none h =
    made_kept f name pg_num size min_size id g kept then_kept
    (creates_well (map_of f.history) (epoch_of f.history) name pg_num size min_size (wrapped_none OfMap (refusal (map_of f.history) (epoch_of f.history) (PoolCreate name pg_num size min_size)) none))
    (from_zero (made_at (after (map_of f.history) (PoolCreate name pg_num size min_size)) min_size name 0 pg_num id g h))
  where
    from_zero : IsMade (after (map_of f.history) (PoolCreate name pg_num size min_size)) min_size name (0 + pg_num) id g → IsMade (after (map_of f.history) (PoolCreate name pg_num size min_size)) min_size name pg_num id g
    from_zero m = let less : id.number < 0 + pg_num = m.number in record { pool = m.pool; number = omega arith; is = m.is }
new_kept f (Map (AppEnable pool app)) id g kept then_kept none h = absurd (cc)
new_kept f (Map (AppSet pool app key value)) id g kept then_kept none h = absurd (cc)
new_kept f (Map (AppRm pool app key)) id g kept then_kept none h = absurd (cc)
new_kept f (Map (OsdUp d)) id g kept then_kept none h = absurd (cc)
new_kept f (Map (OsdDown d)) id g kept then_kept none h = absurd (cc)
new_kept f (Map (OsdRestart d)) id g kept then_kept none h = absurd (cc)
new_kept f (Auth command) id g kept then_kept none h = absurd (cc)
new_kept f (Open entity until) id g kept then_kept none h = absurd (cc)
new_kept f (Renew n until) id g kept then_kept none h = absurd (cc)
new_kept f (Close n) id g kept then_kept none h = absurd (cc)
new_kept f (Submit ask object ops) id g kept then_kept none h = absurd (cc)
new_kept f (ListNames ask) id g kept then_kept none h = absurd (cc)
new_kept f (Deliver other k) id g kept then_kept none h = absurd (cc)
new_kept f (Lose other k) id g kept then_kept none h = absurd (cc)
new_kept f (Repeat other k) id g kept then_kept none h = absurd (cc)
new_kept f (Kick other) id g kept then_kept none h = absurd (cc)

-- ---- histories

pub world_kept : (w : World) (e : Event) → WorldKept w → is_accepted w e ≡ true → WorldKept (world_step w e)
world_kept w e h accepted = record {
  front = next;
  groups = λ id g is. go id g (group_at id w.groups) refl (sym (step_at id w e) ∙ is);
}
  where
    next : FrontKept (front_step w.front e)
    next = front_kept w.front e h.front (allowed w e accepted)

    go : (id : GroupId) (g : Group) (o : Option Group) → group_at id w.groups ≡ o → group_step_alone w.front id e o ≡ Some g → GroupKept (front_step w.front e) id g
    go id g None there is = new_kept w.front e id g h.front next (allowed w e accepted) is
    go id g (Some old) there is =
        let same : run (events_in id (parts_of w.front e)) old ≡ g = cc in
        subst (GroupKept (front_step w.front e) id) same (old_kept w e id old h.front next (h.groups id old there) (passes w e accepted) there)

-- ---- no group refuses a request that the front does not

new_number : (sessions : List Session) (session m : ℕ) → next_at sessions session ≤ m → m < 4294967296 → ((n : ℕ) → next_at sessions n ≤ 4294967296) → (rs : List Sealed) → Each (λ r. IsGiven sessions r.id) rs
    → (id : ℕ) → id ≡ session * 4294967296 + m → is_submitted rs id ≡ false
new_number sessions session m past room few [] given id is = refl
new_number sessions session m past room few (r ∷ rs) given id is = go (r.id == id) refl (new_number sessions session m past room few rs given.1 id is)
  where
    clash : (n q : ℕ) → r.id ≡ n * 4294967296 + q → q < next_at sessions n → r.id ≡ id → ⊥
    clash n q number below same =
        let top : next_at sessions n ≤ 4294967296 = few n in
        let here : n ≡ session = omega arith in
        let low : next_at sessions n ≡ next_at sessions session = ap (next_at sessions) here in
        omega arith

    go : (b : Bool) → (r.id == id) ≡ b → is_submitted rs id ≡ false → (b || is_submitted rs id) ≡ false
    go true e rest = absurd (clash given.0.session given.0.number given.0.is given.0.past (number_same r.id id e))
    go false e rest = rest

has_room : (n : ℕ) → n < 16384 → not (nat_lt n 16384) ≡ false
has_room n less = go (nat_lt n 16384) refl
  where
    go : (b : Bool) → nat_lt n 16384 ≡ b → not b ≡ false
    go true e = refl
    go false e = absurd (let most : 16384 ≤ n = grind (arith, nat_tests) in omega arith)

one_passes : (f : ControlPlane) (s : Sealed) (found : Option Group) → ((g : Group) → found ≡ Some g → g.requests ≡ filter (is_for (group_for s)) f.submissions) → is_submitted (filter (is_for (group_for s)) f.submissions) s.id ≡ false
    → length (filter (is_for (group_for s)) f.submissions) < 16384 → refused_in found (group.Submit s) ≡ None
one_passes f s None requests new less = refl
one_passes f s (Some g) requests new less =
    ap (λ l. if is_submitted l s.id then Some group_fault.Doubled else (if not (nat_lt (length l) 16384) then Some group_fault.Full else None)) (requests g refl)
    ∙ ap (λ b. if b then Some group_fault.Doubled else (if not (nat_lt (length (filter (is_for (group_for s)) f.submissions)) 16384) then Some group_fault.Full else None)) new
    ∙ ap (λ b. if b then Some group_fault.Full else None) (has_room (length (filter (is_for (group_for s)) f.submissions)) less)

all_pass_on : (w : World) (session m : ℕ) (rs : List Sealed) → WorldKept w → FrontStands w.front → ((n : ℕ) → next_at w.front.sessions n ≤ 4294967296) → next_at w.front.sessions session ≤ m → m + length rs ≤ 4294967296
    → NumberedFrom session m rs → Each (λ s. is_full w.front s ≡ false) rs → parts_refusal w.groups (asked_parts rs) ≡ None
all_pass_on w session m [] kept stands few past room numbered open_ones = refl
all_pass_on w session m (s ∷ ss) kept stands few past room numbered open_ones =
    let subs : List Sealed = w.front.submissions in
    let new : is_submitted (filter (is_for (group_for s)) subs) s.id ≡ false =
    new_number w.front.sessions session m past (omega arith) few (filter (is_for (group_for s)) subs) (each_filter (λ r. IsGiven w.front.sessions r.id) (is_for (group_for s)) subs stands.given) s.id numbered.0 in
    let less : length (filter (is_for (group_for s)) subs) < 16384 = subst (λ n. n < 16384) (counted_for (group_for s) s subs refl) (not_full _ open_ones.0) in
    let here : refused_in (group_at (group_for s) w.groups) (group.Submit s) ≡ None = one_passes w.front s (group_at (group_for s) w.groups) (λ g is. (kept.groups (group_for s) g is).requests) new less in
    ap (λ o. option_or o (parts_refusal w.groups (asked_parts ss))) here ∙ all_pass_on w session (m + 1) ss kept stands few (omega arith) (omega arith) numbered.1 open_ones.1

asking_passes : (w : World) (ask : Ask) (r : Result (List Sealed) Fault) → WorldKept w → FrontStands w.front → asking_refusal w.front r ≡ None → ((rs : List Sealed) → r ≡ Ok rs → Requested w.front ask rs)
    → length (w.front.submissions ++ if_ok r [] (λ rs. rs)) ≤ 33554432 → parts_refusal w.groups (asked_parts (if_ok r [] (λ rs. rs))) ≡ None
asking_passes w ask (Err fault) kept stands none made room = refl
asking_passes w ask (Ok rs) kept stands none made room =
    let q : Requested w.front ask rs = made rs refl in
    let now : next_at w.front.sessions ask.session ≡ q.session.next = ap next_in (open_is w.front.sessions ask.session q.session q.open_one) in
    let all : length w.front.submissions + length rs ≤ 33554432 = subst (λ n. n ≤ 33554432) (length-append w.front.submissions rs) room in
    let few : (n : ℕ) → next_at w.front.sessions n ≤ 4294967296 = λ n. let m : next_at w.front.sessions n ≤ length w.front.submissions + 1 = stands.most n in omega arith in
    let top : next_at w.front.sessions ask.session ≤ length w.front.submissions + 1 = stands.most ask.session in
    all_pass_on w ask.session q.session.next rs kept stands few (omega arith) (omega arith) q.numbered (each_not (is_full w.front) rs (if_none (list_any (is_full w.front) rs) _ none))

-- what the front and the groups say of a request, together
told_alone : (first : Option Fault) (rest : Option GroupFault) → (first ≡ None → rest ≡ None) → option_or first (option_map OfGroup rest) ≡ first
told_alone None rest h = ap (option_map OfGroup) (h refl)
told_alone (Some fault) rest h = refl

pub front_tells : (w : World) → WorldKept w → FrontStands w.front → FrontTells w
unfolding requests_of requests_in
front_tells w kept stands = record {
  submit = λ ask object ops. told_alone (front_refusal w.front (Submit ask object ops)) (parts_refusal w.groups (parts_of w.front (Submit ask object ops))) (λ none.
      asking_passes w ask (requests_of w.front (Submit ask object ops)) kept stands none (λ rs is. submit_made w.front ask object ops rs is)
      (few_submissions (front_step w.front (Submit ask object ops)) (front_kept w.front (Submit ask object ops) kept.front none)));
  list = λ ask. told_alone (front_refusal w.front (ListNames ask)) (parts_refusal w.groups (parts_of w.front (ListNames ask))) (λ none.
      asking_passes w ask (requests_of w.front (ListNames ask)) kept stands none (λ rs is. list_made w.front ask rs is)
      (few_submissions (front_step w.front (ListNames ask)) (front_kept w.front (ListNames ask) kept.front none)));
}

-- ---- what the present map says of a group

pub group_served : (w : World) (id : GroupId) (g : Group) → WorldKept w → group_at id w.groups ≡ Some g → IsServed w id g
group_served w id g k there =
    let h : GroupKept w.front id g = k.groups id g there in
    let A : List ℕ → Type 0 = λ up. IsActingSet up (last_set g.sets) in
    record {
      within = h.within.is;
      daemons = h.within.all ∙ daemons_stay (initial w.front.history.daemons) w.front.history.commands;
      up = h.up;
      present = h.sets.present;
      acting = subst A (sym h.up) (set_acting (map_of w.front.history) id (last_set g.sets) (record { history = w.front.history; accepted = k.front.accepted; is = refl }) h.sets.present);
    }
