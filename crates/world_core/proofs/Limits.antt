-- What the front keeps whose events were accepted: few pools, each name once, and few requests for each group.
use Prim.Native.Nat.{suc}
use Rattle.std.proofs.Common.{◌≡◌, ◌∙◌, ℕ, ◌+◌, ◌*◌, ◌<◌, ◌≤◌, ◌||◌, List, ◌∷◌, ◌++◌, Bool, true, false, not, cond, Option, Some, None, is_some, option_to_list, length, map, slice_index_or, ◌≢◌, All, count_by, refl, sym, ap, subst, arith, append-nil, length-append, if◌then◌else◌, Result, Ok, Err, []}
use Rattle.std.specs.Prelude.{nat_le}
use Rattle.std.specs.List.{AllPairs, filter, flat_map, find, list_any}
use Rattle.std.specs.Option.{option_map, option_or}
use Rattle.std.proofs.lemmas.Bool.Decides.{nat_tests}
use Rattle.std.proofs.lemmas.List.Elements.{filter-append, All-head, All-tail}
use Rattle.std.proofs.lemmas.List.Sums.{length-filter}
use Rattle.std.proofs.lemmas.List.FromFn.{length-map-range_with_len}
use Rattle.grant_core.specs.Flat.{Table}
use Rattle.map_core.specs.State.{MapState, History}
use Rattle.map_core.specs.Map.{is_named, initial, map_of, epoch_of, pool_in}
use Rattle.map_core.specs.Refusal.{refusal, tests, in_limits, is_last}
use Rattle.map_core.specs.PoolLimits.{IsPool}
use Rattle.map_core.specs.Limits.{IsAccepted}
use Rattle.map_core.specs.declared.pool.Pool.{Pool}
use Rattle.map_core.specs.declared.command.MapCommand.{MapCommand}
use Rattle.map_core.specs.declared.command.MapCommand.TheVariants.{PoolCreate}
use Rattle.map_core.proofs.Acceptance.{all_fail, limits_of, accepted_push}
use Rattle.map_core.proofs.Kept.{pools_differ, pools_are_few}
use Rattle.store_core.specs.Request.{Sealed}
use Rattle.store_core.specs.declared.sealed.GroupId.{GroupId}
use Rattle.group_model_whole.specs.Each.{Each}
use Rattle.world_events.specs.declared.event.Ask.{Ask}
use Rattle.world_events.specs.declared.event.Event.{Event}
use Rattle.world_events.specs.declared.event.Event.TheVariants.{Auth, Map, Open, Renew, Close, Submit, List as ListNames, Deliver, Lose, Repeat, Kick}
use Rattle.world_events.specs.declared.fault.WorldFault.{WorldFault as Fault}
use Rattle.world_events.specs.declared.fault.WorldFault.TheVariants.{Map as OfMap}
use Rattle.entry_core.specs.Locality.{group_for}
use Rattle.world_front.specs.Groups.{is_same_group, is_for, groups_of}
use Rattle.world_front.specs.ControlPlane.{ControlPlane, first_front, front_step, front_refusal, asking_refusal, is_full, requests_of, requests_in, if_ok}
use Rattle.world_core.specs.World.{World, refusal_of, is_drop, accepts, is_accepted}
use Rattle.world_front.proofs.Merge.{same_group}
use Rattle.world_front.proofs.Pools.{in_later, found_in}
use Rattle.world_front.proofs.Bytes.{bytes_same}
use Rattle.world_core.proofs.Acting.{each_join, each_weaker}
use Rattle.world_front.proofs.Fronts.{IsSealedWell, IsBelow, Requested, submit_made, list_made}
use Rattle.world_front.proofs.Places.{true_not_false, each_filter, all_pass, group_turned, NamedOnce, places_once, AtMostOne}
pub use Rattle.world_core.specs.Sound.{IsSealedFor, FrontKept}

-- ---- what an accepted event was let through by

pub or_first : {X : Type 0} (a b : Option X) → option_or a b ≡ None → a ≡ None
or_first None b h = refl
or_first (Some x) b h = absurd (cc)

pub or_second : {X : Type 0} (a b : Option X) → option_or a b ≡ None → b ≡ None
or_second None b h = h
or_second (Some x) b h = absurd (cc)

pub wrapped_none : {X Y : Type 0} (f : X → Y) (o : Option X) → option_map f o ≡ None → o ≡ None
wrapped_none f None h = refl
wrapped_none f (Some x) h = absurd (cc)

pub not_refused : (w : World) (e : Event) → ((fault : Fault) → is_drop e fault ≡ false) → is_accepted w e ≡ true → refusal_of w e ≡ None
not_refused w e kept h = go (refusal_of w e) h
  where
    go : (o : Option Fault) → accepts e o ≡ true → o ≡ None
    go None k = refl
    go (Some fault) k = absurd (true_not_false (sym k ∙ kept fault))

-- nothing that the front knows refuses the event
abbrev pub Allowed : ControlPlane → Event → Type 0
Allowed f (Map command) = front_refusal f (Map command) ≡ None
Allowed f (Submit ask object ops) = front_refusal f (Submit ask object ops) ≡ None
Allowed f (ListNames ask) = front_refusal f (ListNames ask) ≡ None
Allowed f (Auth command) = Unit {0}
Allowed f (Open entity until) = Unit {0}
Allowed f (Renew n until) = Unit {0}
Allowed f (Close n) = Unit {0}
Allowed f (Deliver id k) = Unit {0}
Allowed f (Lose id k) = Unit {0}
Allowed f (Repeat id k) = Unit {0}
Allowed f (Kick id) = Unit {0}

pub allowed : (w : World) (e : Event) → is_accepted w e ≡ true → Allowed w.front e
allowed w (Map command) h = or_first _ _ (not_refused w (Map command) (λ fault. refl) h)
allowed w (Submit ask object ops) h = or_first _ _ (not_refused w (Submit ask object ops) (λ fault. refl) h)
allowed w (ListNames ask) h = or_first _ _ (not_refused w (ListNames ask) (λ fault. refl) h)
allowed w (Auth command) h = tt
allowed w (Open entity until) h = tt
allowed w (Renew n until) h = tt
allowed w (Close n) h = tt
allowed w (Deliver id k) h = tt
allowed w (Lose id k) h = tt
allowed w (Repeat id k) h = tt
allowed w (Kick id) h = tt

-- ---- pools have different names

none_named : (name : List ℕ) (ps : List Pool) → ((j : ℕ) (d : List ℕ) → j < length (map (λ (p : Pool). p.name) ps) → name ≢ slice_index_or (map (λ (p : Pool). p.name) ps) j d) → find (is_named name) ps ≡ None
none_named name [] h = refl
none_named name (p ∷ ps) h = go (is_named name p) refl (none_named name ps (λ j d low. h (suc j) d (omega arith)))
  where
    go : (b : Bool) → is_named name p ≡ b → find (is_named name) ps ≡ None → cond b (Some p) (find (is_named name) ps) ≡ None
    go true e rest = absurd (h 0 [] (omega arith) (sym (bytes_same p.name name e)))
    go false e rest = rest

pub named_once : (ps : List Pool) → AllPairs (λ a b. a ≢ b) (map (λ (p : Pool). p.name) ps) → NamedOnce ps
named_once [] h = tt
named_once (p ∷ ps) h = (none_named p.name ps (λ j d low. h 0 (suc j) d (omega arith) (omega arith)), named_once ps (λ i j d less low. h (suc i) (suc j) d (omega arith) (omega arith)))

or_left : (a b : Bool) → (a || b) ≡ false → a ≡ false
or_left true b h = absurd (cc)
or_left false b h = refl

or_right : (a b : Bool) → (a || b) ≡ false → b ≡ false
or_right true b h = absurd (cc)
or_right false b h = h

none_is : {X : Type 0} (o : Option X) → is_some o ≡ false → o ≡ None
none_is None h = refl
none_is (Some x) h = absurd (cc)

-- a new pool has a new name, and there were fewer than 32
pub record CreatesWell (pools : List Pool) (name : List ℕ) : Type 0 where
  pub fresh : find (is_named name) pools ≡ None
  pub room : length pools < 32

pub creates_well : (state : MapState) (epoch : ℕ) (name : List ℕ) (pg_num size min_size : ℕ) → refusal state epoch (PoolCreate name pg_num size min_size) ≡ None → CreatesWell state.pools name
unfolding refusal pool_in
creates_well state epoch name pg_num size min_size h =
    let fails = all_fail (tests state epoch (PoolCreate name pg_num size min_size)) h in
    record {
      fresh = none_is (find (is_named name) state.pools) fails.1.0;
      room = below_32 (length state.pools) (or_right (not (in_limits pg_num size min_size)) (nat_le 32 (length state.pools)) (or_left (not (in_limits pg_num size min_size) || nat_le 32 (length state.pools)) (is_last epoch) fails.1.1.0));
    }
  where
    below_32 : (n : ℕ) → nat_le 32 n ≡ false → n < 32
    below_32 n k = grind (arith, nat_tests)

-- ---- the front

pub once : (f : ControlPlane) → FrontKept f → NamedOnce (map_of f.history).pools
once f h = named_once (map_of f.history).pools (pools_differ f.history h.accepted)

pub first_kept : (table : Table) (daemons : ℕ) → FrontKept (first_front table daemons)
first_kept table daemons = record { accepted = tt; sealed = tt; few = λ id. omega arith }

same_kept : (f g : ControlPlane) → FrontKept f → g.history ≡ f.history → g.submissions ≡ f.submissions → FrontKept g
same_kept f g h history submissions =
    let S : History → List Sealed → Type 0 = λ k l. Each (IsSealedFor k) l in
    let F : List Sealed → Type 0 = λ l. (id : GroupId) → length (filter (is_for id) l) ≤ 16384 in
    record {
      accepted = subst IsAccepted (sym history) h.accepted;
      sealed = subst (λ k. S k g.submissions) (sym history) (subst (S f.history) (sym submissions) h.sealed);
      few = subst F (sym submissions) h.few;
    }

map_kept : (f : ControlPlane) (c : MapCommand) → FrontKept f → Allowed f (Map c) → FrontKept (front_step f (Map c))
unfolding requests_of requests_in
map_kept f c h none =
    let passed : refusal (map_of f.history) (epoch_of f.history) c ≡ None = wrapped_none OfMap (refusal (map_of f.history) (epoch_of f.history) c) none in
    let later : History = record f.history { commands = f.history.commands ++ c ∷ [] } in
    let S : List Sealed → Type 0 = λ l. Each (IsSealedFor later) l in
    let F : List Sealed → Type 0 = λ l. (id : GroupId) → length (filter (is_for id) l) ≤ 16384 in
    record {
      accepted = accepted_push (initial f.history.daemons) 1 (epoch_of f.history) f.history.commands c h.accepted refl passed;
      sealed = subst S (sym (append-nil f.submissions)) (each_weaker (IsSealedFor f.history) (IsSealedFor later)
          (λ s k. record { well = record { pool = in_later f.history (c ∷ []) s.view.pool s.view.pg_num k.well.pool; hashes = k.well.hashes }; below = k.below }) f.submissions h.sealed);
      few = subst F (sym (append-nil f.submissions)) h.few;
    }

-- ---- requests

pub limits_now : (f : ControlPlane) → FrontKept f → All IsPool (map_of f.history).pools
limits_now f h = limits_of f.history.daemons f.history.commands h.accepted

found_limits : (test : Pool → Bool) (pools : List Pool) (p : Pool) → All IsPool pools → find test pools ≡ Some p → IsPool p
found_limits test [] p all h = absurd (cc)
found_limits test (q ∷ qs) p all h = go (test q) h (λ k. found_limits test qs p (All-tail IsPool q qs all) k)
  where
    go : (b : Bool) → cond b (Some q) (find test qs) ≡ Some p → (find test qs ≡ Some p → IsPool p) → IsPool p
    go true k rest = let same : q ≡ p = cc in subst IsPool same (All-head IsPool q qs all)
    go false k rest = rest k

pub pool_limits : (f : ControlPlane) (name : List ℕ) (p : Pool) → FrontKept f → find (is_named name) (map_of f.history).pools ≡ Some p → IsPool p
pool_limits f name p h found = found_limits (is_named name) (map_of f.history).pools p (limits_now f h) found

pub asked_for : (f : ControlPlane) → FrontKept f → (rs : List Sealed) → Each (IsSealedWell f.history) rs → Each IsBelow rs → Each (IsSealedFor f.history) rs
asked_for f h [] well below = tt
asked_for f h (s ∷ ss) well below =
    let p = well.0.pool in
    let limits = pool_limits f s.view.pool p.is.pool h (found_in f.history s.view.pool s.view.pg_num p) in
    let some : 1 ≤ s.view.pg_num = subst (λ n. 1 ≤ n) p.is.groups limits.some_groups in
    (record { well = well.0; below = below.0 some }, asked_for f h ss well.1 below.1)

pub each_not : {X : Type 0} (test : X → Bool) (xs : List X) → list_any test xs ≡ false → Each (λ x. test x ≡ false) xs
each_not test [] h = tt
each_not test (x ∷ xs) h = (or_left (test x) (list_any test xs) h, each_not test xs (or_right (test x) (list_any test xs) h))

pub if_none : {X : Type 0} (b : Bool) (x : X) → (if b then Some x else None) ≡ None → b ≡ false
if_none true x h = absurd (cc)
if_none false x h = refl

filter_same : {X : Type 0} (p q : X → Bool) → ((x : X) → p x ≡ q x) → (xs : List X) → filter p xs ≡ filter q xs
filter_same p q same [] = refl
filter_same p q same (x ∷ xs) = ap (λ b. cond b (x ∷ filter p xs) (filter p xs)) (same x) ∙ ap (λ l. cond (q x) (x ∷ l) l) (filter_same p q same xs)

-- as many as the front counts for the group of a request
pub counted_for : (id : GroupId) (s : Sealed) (ss : List Sealed) → id ≡ group_for s → count_by (λ r. is_same_group (group_for r) (group_for s)) ss ≡ length (filter (is_for id) ss)
counted_for id s ss same =
    sym (length-filter (λ r. is_same_group (group_for r) (group_for s)) ss)
    ∙ ap length (filter_same (λ r. is_same_group (group_for r) (group_for s)) (is_for id) (λ r. group_turned (group_for r) (group_for s) ∙ ap (λ i. is_same_group i (group_for r)) (sym same)) ss)

pub not_full : (n : ℕ) → nat_le 16384 n ≡ false → n < 16384
not_full n h = grind (arith, nat_tests)

-- requests of one event that are for a group: none, or one, for which there is room
record OneMore (f : ControlPlane) (id : GroupId) (rs : List Sealed) : Type 0 where
  one : Option Sealed
  is : filter (is_for id) rs ≡ option_to_list one
  room : length (option_to_list one) + length (filter (is_for id) f.submissions) ≤ 16384

one_more : (f : ControlPlane) (id : GroupId) (rs : List Sealed) → FrontKept f → list_any (is_full f) rs ≡ false → AtMostOne (filter (is_for id) rs) → OneMore f id rs
one_more f id rs h full single = go single.one single.is
  where
    go : (o : Option Sealed) → filter (is_for id) rs ≡ option_to_list o → OneMore f id rs
    go None e = let few : length (filter (is_for id) f.submissions) ≤ 16384 = h.few id in record { one = None; is = e; room = omega arith }
    go (Some s) e =
        let open_one = (subst (Each (λ r. is_full f r ≡ false)) e (each_filter (λ r. is_full f r ≡ false) (is_for id) rs (each_not (is_full f) rs full))).0 in
        let here = (subst (Each (λ r. is_for id r ≡ true)) e (all_pass (is_for id) rs)).0 in
        let same : id ≡ group_for s = same_group id (group_for s) here in
        let less : count_by (λ r. is_same_group (group_for r) (group_for s)) f.submissions < 16384 = not_full _ open_one in
        let below : length (filter (is_for id) f.submissions) < 16384 = subst (λ n. n < 16384) (counted_for id s f.submissions same) less in
        record { one = Some s; is = e; room = omega arith }

asking_kept : (f g : ControlPlane) (ask : Ask) (r : Result (List Sealed) Fault) → FrontKept f → asking_refusal f r ≡ None → ((rs : List Sealed) → r ≡ Ok rs → Requested f ask rs) → g.history ≡ f.history
    → g.submissions ≡ f.submissions ++ if_ok r [] (λ rs. rs) → FrontKept g
asking_kept f g ask (Err fault) h none made history submissions = absurd (cc)
asking_kept f g ask (Ok rs) h none made history submissions =
    let q : Requested f ask rs = made rs refl in
    let full : list_any (is_full f) rs ≡ false = if_none (list_any (is_full f) rs) _ none in
    let next : ControlPlane = record f { submissions = f.submissions ++ rs } in
    let kept : FrontKept next = record {
      accepted = h.accepted;
      sealed = each_join (IsSealedFor f.history) f.submissions rs h.sealed (asked_for f h rs q.sealed q.below);
      few = λ id. few_more id (one_more f id rs h full (q.single id));
    } in
    same_kept next g kept history submissions
  where
    few_more : (id : GroupId) → OneMore f id rs → length (filter (is_for id) (f.submissions ++ rs)) ≤ 16384
    few_more id m =
        let parts : length (filter (is_for id) (f.submissions ++ rs)) ≡ length (filter (is_for id) f.submissions ++ option_to_list m.one) =
        ap length (filter-append (is_for id) f.submissions rs ∙ ap (λ l. filter (is_for id) f.submissions ++ l) m.is) in
        let room : length (option_to_list m.one) + length (filter (is_for id) f.submissions) ≤ 16384 = m.room in
        omega (arith, parts, length-append (filter (is_for id) f.submissions) (option_to_list m.one))

pub front_kept : (f : ControlPlane) (e : Event) → FrontKept f → Allowed f e → FrontKept (front_step f e)
unfolding requests_of requests_in
front_kept f (Map c) h none = map_kept f c h none
front_kept f (Submit ask object ops) h none = asking_kept f (front_step f (Submit ask object ops)) ask (requests_of f (Submit ask object ops)) h none (λ rs is. submit_made f ask object ops rs is) refl refl
front_kept f (ListNames ask) h none = asking_kept f (front_step f (ListNames ask)) ask (requests_of f (ListNames ask)) h none (λ rs is. list_made f ask rs is) refl refl
front_kept f (Auth command) h none = same_kept f (front_step f (Auth command)) h refl (append-nil f.submissions)
front_kept f (Open entity until) h none = same_kept f (front_step f (Open entity until)) h refl (append-nil f.submissions)
front_kept f (Renew n until) h none = same_kept f (front_step f (Renew n until)) h refl (append-nil f.submissions)
front_kept f (Close n) h none = same_kept f (front_step f (Close n)) h refl (append-nil f.submissions)
front_kept f (Deliver id k) h none = same_kept f (front_step f (Deliver id k)) h refl (append-nil f.submissions)
front_kept f (Lose id k) h none = same_kept f (front_step f (Lose id k)) h refl (append-nil f.submissions)
front_kept f (Repeat id k) h none = same_kept f (front_step f (Repeat id k)) h refl (append-nil f.submissions)
front_kept f (Kick id) h none = same_kept f (front_step f (Kick id)) h refl (append-nil f.submissions)

-- ---- how many requests there can be

-- the requests of each place, summed
total : List GroupId → List Sealed → ℕ
total [] ss = 0
total (i ∷ ids) ss = length (filter (is_for i) ss) + total ids ss

total_few : (ids : List GroupId) (ss : List Sealed) → ((id : GroupId) → length (filter (is_for id) ss) ≤ 16384) → total ids ss ≤ length ids * 16384
unfolding total
total_few [] ss few = omega arith
total_few (i ∷ ids) ss few =
    let a : length (filter (is_for i) ss) ≤ 16384 = few i in
    let b : total ids ss ≤ length ids * 16384 = total_few ids ss few in
    omega arith

one_longer : (b : Bool) (s : Sealed) (l : List Sealed) → length (cond b (s ∷ l) l) ≡ cond b 1 0 + length l
one_longer true s l = omega arith
one_longer false s l = omega arith

one_place : (b : Bool) (i : GroupId) (l : List GroupId) → length (cond b (i ∷ l) l) ≡ cond b 1 0 + length l
one_place true i l = omega arith
one_place false i l = omega arith

total_more : (ids : List GroupId) (s : Sealed) (ss : List Sealed) → total ids (s ∷ ss) ≡ length (filter (λ i. is_for i s) ids) + total ids ss
unfolding total
total_more [] s ss = refl
total_more (i ∷ ids) s ss = omega (arith, one_longer (is_for i s) s (filter (is_for i) ss), one_place (is_for i s) i (filter (λ j. is_for j s) ids), total_more ids s ss)

all_counted : (ids : List GroupId) (ss : List Sealed) → Each (λ s. length (filter (λ i. is_for i s) ids) ≡ 1) ss → length ss ≤ total ids ss
unfolding total
all_counted ids [] h = omega arith
all_counted ids (s ∷ ss) h = let a : length (filter (λ i. is_for i s) ids) ≡ 1 = h.0 in let b : length ss ≤ total ids ss = all_counted ids ss h.1 in omega (arith, total_more ids s ss)

placed_once : (f : ControlPlane) → FrontKept f → (s : Sealed) → IsSealedFor f.history s → length (filter (λ i. is_for i s) (flat_map groups_of (map_of f.history).pools)) ≡ 1
placed_once f h s k =
    let p = k.well.pool in
    let less : s.group < p.is.pool.pg_num = subst (λ n. s.group < n) (sym p.is.groups) k.below in
    ap length (filter_same (λ i. is_for i s) (is_same_group (group_for s)) (λ i. group_turned i (group_for s)) (flat_map groups_of (map_of f.history).pools)
    ∙ places_once (group_for s) (map_of f.history).pools p.is.pool (once f h) (found_in f.history s.view.pool s.view.pg_num p) less)

all_placed : (f : ControlPlane) → FrontKept f → (ss : List Sealed) → Each (IsSealedFor f.history) ss → Each (λ s. length (filter (λ i. is_for i s) (flat_map groups_of (map_of f.history).pools)) ≡ 1) ss
all_placed f h [] k = tt
all_placed f h (s ∷ ss) k = (placed_once f h s k.0, all_placed f h ss k.1)

few_places : (pools : List Pool) → All IsPool pools → length (flat_map groups_of pools) ≤ length pools * 64
few_places [] all = omega arith
few_places (p ∷ ps) all =
    let a : p.pg_num ≤ 64 = (All-head IsPool p ps all).few_groups in
    let b : length (flat_map groups_of ps) ≤ length ps * 64 = few_places ps (All-tail IsPool p ps all) in
    let c : length (groups_of p) ≡ p.pg_num = length-map-range_with_len (λ n. record { pool = p.name; number = n }) 0 p.pg_num in
    omega (arith, length-append (groups_of p) (flat_map groups_of ps))

-- 32 pools of 64 groups of 16,384 requests
pub few_submissions : (f : ControlPlane) → FrontKept f → length f.submissions ≤ 33554432
few_submissions f h =
    let places : List GroupId = flat_map groups_of (map_of f.history).pools in
    let a : length f.submissions ≤ total places f.submissions = all_counted places f.submissions (all_placed f h f.submissions h.sealed) in
    let b : total places f.submissions ≤ length places * 16384 = total_few places f.submissions h.few in
    let c : length places ≤ length (map_of f.history).pools * 64 = few_places (map_of f.history).pools (limits_now f h) in
    let d : length (map_of f.history).pools ≤ 32 = pools_are_few f.history h.accepted in
    omega arith
