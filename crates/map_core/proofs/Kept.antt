-- What histories keep: pools with different names, their numbers, and the present set as the last interval's.
use Rattle.std.proofs.Common.{◌≡◌, ◌≢◌, ℕ, suc, ◌+◌, ◌-◌, ◌<◌, ◌≤◌, List, [], ◌∷◌, ◌++◌, Bool, true, false, not, ◌||◌, cond, length, take, drop, fold, map, find, is_some, Option, Some, None, option_to_list, refl, sym, ap, ◌∙◌, arith, subst, nat_le, length-append, get_or, append_assoc, zero}
use Rattle.std.specs.List.{AllPairs}
use Rattle.std.specs.Option.{option_map}
use Rattle.std.specs.Str.{bytes_eq}
use Rattle.std.proofs.lemmas.Bool.{false≢true}
use Rattle.std.proofs.lemmas.Bool.Decides.{nat_tests}
use Rattle.std.proofs.lemmas.Slice.Eq.{bytes_eq-Decides}
use Rattle.std.proofs.lemmas.List.{append-nil, take-append-drop}
use Rattle.std.proofs.lemmas.List.Sums.{fold-append}
use Rattle.std.proofs.lemmas.List.Quantifiers.{all_pairs_push}
use Rattle.place_core.specs.Placement.{acting_of, numbers_of}
use Rattle.map_core.specs.State.{MapState, History}
use Rattle.map_core.specs.Map.{change_first, is_named, tagged, created, pools_after, after, initial, map_after, map_of, pool_in, view_of, view_at}
use Rattle.map_core.specs.Refusal.{refusal, tests, in_limits, is_last}
use Rattle.map_core.specs.Replay.{pool_step, change_some}
use Rattle.map_core.specs.Limits.{AcceptedFrom}
use Rattle.map_core.specs.Intervals.{size_in, set_of, restarts, begun, intervals_from, intervals_of}
use Rattle.map_core.specs.Laws.{PoolsDiffer, PoolsAreFew, HasPool, PoolsStay, ViewsAreOfPools, CommandsBeginIntervals, EndIn, PresentSetIsLast, moves_daemons, OthersLeaveSets}
use Rattle.map_core.proofs.Acceptance.{all_fail, or_left, or_right}
use Rattle.map_core.proofs.OnePool.{pool_in_history}
use Rattle.map_core.proofs.IntervalLists.{intervals_push, size_stays}
use Rattle.map_core.proofs.Daemons.{set_sized}
use Rattle.map_core.specs.declared.pool.Pool.{Pool}
use Rattle.map_core.specs.declared.pool.PoolView.{PoolView}
use Rattle.map_core.specs.declared.command.MapCommand.{MapCommand}
use Rattle.map_core.specs.declared.command.MapCommand.TheVariants.{PoolCreate, AppEnable, AppSet, AppRm, OsdUp, OsdDown, OsdRestart}

-- ---- names

names : List Pool → List (List ℕ)
names pools = map (λ (p : Pool). p.name) pools

same_names : (test : Pool → Bool) (command : MapCommand) (pools : List Pool) → names (change_first test (tagged command) pools) ≡ names pools
unfolding names
same_names test command [] = refl
same_names test command (x ∷ pools) = go (test x) (same_names test command pools)
  where
    go : (b : Bool) → names (change_first test (tagged command) pools) ≡ names pools → names (cond b (tagged command x ∷ pools) (x ∷ change_first test (tagged command) pools)) ≡ names (x ∷ pools)
    go true rest = refl
    go false rest = ap (λ l. x.name ∷ l) rest

-- a name that no pool has
new_name : (name : List ℕ) (pools : List Pool) → is_some (find (is_named name) pools) ≡ false → (k : ℕ) (d : List ℕ) → k < length (names pools) → get_or (names pools) k d ≢ name
unfolding names
new_name name [] h = λ k d low same. omega arith
new_name name (x ∷ pools) h = go (is_named name x) refl h (new_name name pools)
  where
    go : (b : Bool) → is_named name x ≡ b → is_some (cond b (Some x) (find (is_named name) pools)) ≡ false → (is_some (find (is_named name) pools) ≡ false → (k : ℕ) (d : List ℕ) → k < length (names pools) → get_or (names pools) k d ≢ name)
        → (k : ℕ) (d : List ℕ) → k < length (names (x ∷ pools)) → get_or (names (x ∷ pools)) k d ≢ name
    go true is none rest k d low same = false≢true (sym none)
    go false is none rest zero d low same = false≢true (sym is ∙ (bytes_eq-Decides x.name name).1 same)
    go false is none rest (suc k) d low same = rest none k d (omega arith) same

names_push : (pools : List Pool) (x : Pool) → names (pools ++ x ∷ []) ≡ names pools ++ x.name ∷ []
unfolding names
names_push [] x = refl
names_push (y ∷ pools) x = ap (λ l. y.name ∷ l) (names_push pools x)

abbrev Apart : List (List ℕ) → Type 0
Apart l = AllPairs (λ a b. a ≢ b) l

-- different names, at most 32
record Distinct (pools : List Pool) : Type 0 where
  differ : Apart (names pools)
  few : length pools ≤ 32

same_length : (test : Pool → Bool) (command : MapCommand) (pools : List Pool) → length (change_first test (tagged command) pools) ≡ length pools
same_length test command [] = refl
same_length test command (x ∷ pools) = go (test x) (same_length test command pools)
  where
    go : (b : Bool) → length (change_first test (tagged command) pools) ≡ length pools → length (cond b (tagged command x ∷ pools) (x ∷ change_first test (tagged command) pools)) ≡ suc (length pools)
    go true rest = refl
    go false rest = ap suc rest

changed_distinct : (test : Pool → Bool) (command : MapCommand) (pools : List Pool) → Distinct pools → Distinct (change_first test (tagged command) pools)
changed_distinct test command pools h = record { differ = subst Apart (sym (same_names test command pools)) h.differ; few = omega (arith, same_length test command pools, h.few) }

fewer : (n : ℕ) → nat_le 32 n ≡ false → n < 32
fewer n h = grind (arith, nat_tests)

distinct_step : (state : MapState) (epoch : ℕ) (command : MapCommand) → refusal state epoch command ≡ None → Distinct state.pools → Distinct (pools_after command state.pools)
unfolding refusal pool_in
distinct_step state epoch (PoolCreate name pg size min) h all =
    let fails = all_fail (tests state epoch (PoolCreate name pg size min)) h in
    let room : length state.pools < 32 = fewer _ (or_right (not (in_limits pg size min)) _ (or_left _ (is_last epoch) fails.1.1.0)) in
    record {
      differ = subst Apart (sym (names_push state.pools (created name pg size min))) (all_pairs_push (λ a b. a ≢ b) (names state.pools) name all.differ (new_name name state.pools fails.1.0));
      few = omega (arith, room, length-append state.pools (created name pg size min ∷ []));
    }
distinct_step state epoch (AppEnable pool app) h all = changed_distinct (is_named pool) (AppEnable pool app) state.pools all
distinct_step state epoch (AppSet pool app key value) h all = changed_distinct (is_named pool) (AppSet pool app key value) state.pools all
distinct_step state epoch (AppRm pool app key) h all = changed_distinct (is_named pool) (AppRm pool app key) state.pools all
distinct_step state epoch (OsdUp daemon) h all = all
distinct_step state epoch (OsdDown daemon) h all = all
distinct_step state epoch (OsdRestart daemon) h all = all

distinct_steps : (state : MapState) (epoch : ℕ) (commands : List MapCommand) → AcceptedFrom state epoch commands → Distinct state.pools → Distinct (fold after state commands).pools
distinct_steps state epoch [] accepted all = all
distinct_steps state epoch (c ∷ commands) accepted all = distinct_steps (after state c) (epoch + 1) commands accepted.1 (distinct_step state epoch c accepted.0 all)

distinct_of : (history : History) → AcceptedFrom (initial history.daemons) 1 history.commands → Distinct (map_of history).pools
unfolding names
distinct_of history accepted = distinct_steps (initial history.daemons) 1 history.commands accepted (record { differ = λ i j d low within. absurd (omega arith); few = omega arith })

pub pools_differ : PoolsDiffer
unfolding names
pools_differ history accepted = (distinct_of history accepted).differ

pub pools_are_few : PoolsAreFew
pools_are_few history accepted = (distinct_of history accepted).few

-- ---- numbers

-- a pool with the same name and numbers
record StaysIn (x : Pool) (found : Option Pool) : Type 0 where
  pool : Pool
  is : found ≡ Some pool
  named : pool.name ≡ x.name
  groups : pool.pg_num ≡ x.pg_num
  daemons : pool.size ≡ x.size
  needed : pool.min_size ≡ x.min_size

itself : (x : Pool) → StaysIn x (Some x)
itself x = record { pool = x; is = refl; named = refl; groups = refl; daemons = refl; needed = refl }

stays_tagged : (name pool : List ℕ) (command : MapCommand) (x : Pool) → StaysIn x (change_some name pool command (Some x))
stays_tagged name pool command x = go (bytes_eq pool name)
  where
    go : (b : Bool) → StaysIn x (cond b (option_map (tagged command) (Some x)) (Some x))
    go true = record { pool = tagged command x; is = refl; named = refl; groups = refl; daemons = refl; needed = refl }
    go false = itself x

stays_step : (name : List ℕ) (x : Pool) (command : MapCommand) → StaysIn x (pool_step name (Some x) command)
stays_step name x (PoolCreate n pg size min) = itself x
stays_step name x (AppEnable pool app) = stays_tagged name pool (AppEnable pool app) x
stays_step name x (AppSet pool app key value) = stays_tagged name pool (AppSet pool app key value) x
stays_step name x (AppRm pool app key) = stays_tagged name pool (AppRm pool app key) x
stays_step name x (OsdUp d) = itself x
stays_step name x (OsdDown d) = itself x
stays_step name x (OsdRestart d) = itself x

stays_steps : (name : List ℕ) (x : Pool) (commands : List MapCommand) → StaysIn x (fold (pool_step name) (Some x) commands)
stays_steps name x [] = itself x
stays_steps name x (c ∷ commands) =
    let one = stays_step name x c in
    let more = stays_steps name one.pool commands in
    record {
      pool = more.pool;
      is = ap (λ o. fold (pool_step name) o commands) one.is ∙ more.is;
      named = more.named ∙ one.named;
      groups = more.groups ∙ one.groups;
      daemons = more.daemons ∙ one.daemons;
      needed = more.needed ∙ one.needed;
    }

pub pools_stay : PoolsStay
pools_stay history commands name pg_num size min_size has =
    let s = pool_step name in
    let stays = stays_steps name has.pool commands in
    record {
      pool = stays.pool;
      found = pool_in_history name history.daemons (history.commands ++ commands)
          ∙ fold-append s None history.commands commands
          ∙ ap (λ o. fold s o commands) (sym (pool_in_history name history.daemons history.commands) ∙ has.found)
          ∙ stays.is;
      named = stays.named ∙ has.named;
      groups = stays.groups ∙ has.groups;
      daemons = stays.daemons ∙ has.daemons;
      needed = stays.needed ∙ has.needed;
    }

named_so : (name : List ℕ) (pools : List Pool) (x : Pool) → find (is_named name) pools ≡ Some x → x.name ≡ name
named_so name [] x e = absurd (cc)
named_so name (y ∷ pools) x e = go (is_named name y) refl e (named_so name pools x)
  where
    go : (b : Bool) → is_named name y ≡ b → cond b (Some y) (find (is_named name) pools) ≡ Some x → (find (is_named name) pools ≡ Some x → x.name ≡ name) → x.name ≡ name
    go true is one rest = let same : y ≡ x = cc in ap (λ (p : Pool). p.name) (sym same) ∙ (bytes_eq-Decides y.name name).0 is
    go false is one rest = rest one

pub views_are_of_pools : ViewsAreOfPools
unfolding view_at pool_in
views_are_of_pools history name epoch view is = go (pool_in (map_after history.daemons (take (epoch - 1) history.commands)).pools name) refl is
  where
    front : List MapCommand
    front = take (epoch - 1) history.commands

    behind : List MapCommand
    behind = drop (epoch - 1) history.commands

    then_named : (x : Pool) → pool_in (map_after history.daemons front).pools name ≡ Some x → x.name ≡ name
    then_named x e = named_so name (map_after history.daemons front).pools x e

    go : (o : Option Pool) → pool_in (map_after history.daemons front).pools name ≡ o → option_map (view_of epoch) o ≡ Some view → (view.pool ≡ name) × HasPool history name view.pg_num view.size view.min_size
    go None found none = absurd (cc)
    go (Some x) found one =
        let same : view_of epoch x ≡ view = cc in
        let then_had : HasPool (record { daemons = history.daemons; commands = front }) name x.pg_num x.size x.min_size =
        record { pool = x; found = found; named = then_named x found; groups = refl; daemons = refl; needed = refl } in
        let now_has = pools_stay (record { daemons = history.daemons; commands = front }) behind name x.pg_num x.size x.min_size then_had in
        let P : List MapCommand → Type 0 = λ l. HasPool (record { daemons = history.daemons; commands = l }) name x.pg_num x.size x.min_size in
        let here : HasPool history name x.pg_num x.size x.min_size = subst P (take-append-drop (epoch - 1) history.commands) now_has in
        let Q : PoolView → Type 0 = λ v. (v.pool ≡ name) × HasPool history name v.pg_num v.size v.min_size in
        subst Q same (then_named x found, here)

-- ---- intervals

pub commands_begin_intervals : CommandsBeginIntervals
unfolding intervals_of
commands_begin_intervals history command pool group = intervals_push (initial history.daemons) pool group history.commands command

-- the set of a group whose pool has a size
sized_set : (state : MapState) (pool : List ℕ) (group size : ℕ) → size_in state.pools pool ≡ Some size → set_of state pool group ≡ Some (acting_of pool group (numbers_of state.up) size)
unfolding set_of
sized_set state pool group size h = ap (option_map (acting_of pool group (numbers_of state.up))) h

-- a set stays a set
set_later : (state : MapState) (command : MapCommand) (pool : List ℕ) (group : ℕ) (members : List ℕ) → set_of state pool group ≡ Some members
    → (size : ℕ) × (members ≡ acting_of pool group (numbers_of state.up) size) × (set_of (after state command) pool group ≡ Some (acting_of pool group (numbers_of (after state command).up) size))
set_later state command pool group members h =
    let s = set_sized state pool group members h in
    (s.0, sym s.2, sized_set (after state command) pool group s.0 (size_stays pool state.pools command s.0 s.1))

same_up : (state : MapState) (command : MapCommand) → moves_daemons command ≡ false → (after state command).up ≡ state.up
same_up state (PoolCreate n pg size min) h = refl
same_up state (AppEnable pool app) h = refl
same_up state (AppSet pool app key value) h = refl
same_up state (AppRm pool app key) h = refl
same_up state (OsdUp d) h = absurd (false≢true (sym h))
same_up state (OsdDown d) h = absurd (false≢true (sym h))
same_up state (OsdRestart d) h = refl

pub others_leave_sets : OthersLeaveSets
others_leave_sets state command pool group members quiet h =
    let s = set_later state command pool group members h in
    s.2 ∙ ap (λ u. Some (acting_of pool group (numbers_of u) s.0)) (same_up state command quiet) ∙ ap Some (sym s.1)

ends_by : (command : MapCommand) (old new : Option (List ℕ)) (sets : List (List ℕ)) → ((o : List ℕ) → old ≡ Some o → new ≡ None → ⊥) → EndIn old sets → EndIn new (sets ++ option_to_list (begun command old new))
ends_by command None None sets stays ends = append-nil sets ∙ ends
ends_by command None (Some new) sets stays ends = (sets, refl)
ends_by command (Some old) None sets stays ends = absurd (stays old refl refl)
ends_by command (Some old) (Some new) sets stays ends = go (restarts command old) (bytes_eq old new) refl
  where
    go : (r b : Bool) → bytes_eq old new ≡ b → EndIn (Some new) (sets ++ option_to_list (cond (r || not b) (Some new) None))
    go true b e = (sets, refl)
    go false false e = (sets, refl)
    go false true e = (ends.0, append-nil sets ∙ ends.1 ∙ ap (λ l. ends.0 ++ l ∷ []) ((bytes_eq-Decides old new).0 e))

ends_from : (state : MapState) (pool : List ℕ) (group : ℕ) (commands : List MapCommand) (sets : List (List ℕ)) → EndIn (set_of state pool group) sets
    → EndIn (set_of (fold after state commands) pool group) (sets ++ intervals_from state pool group commands)
ends_from state pool group [] sets ends = subst (EndIn (set_of state pool group)) (sym (append-nil sets)) ends
ends_from state pool group (c ∷ commands) sets ends =
    let one = option_to_list (begun c (set_of state pool group) (set_of (after state c) pool group)) in
    let stays = λ (o : List ℕ) (is : set_of state pool group ≡ Some o) (none : set_of (after state c) pool group ≡ None). let s = set_later state c pool group o is in none_is _ (sym s.2 ∙ none) in
    subst (EndIn (set_of (fold after state (c ∷ commands)) pool group)) (append_assoc sets one (intervals_from (after state c) pool group commands))
    (ends_from (after state c) pool group commands (sets ++ one) (ends_by c (set_of state pool group) (set_of (after state c) pool group) sets stays ends))
  where
    none_is : (l : List ℕ) → Some l ≡ None → ⊥
    none_is l e = cc

no_set : (daemons : ℕ) (pool : List ℕ) (group : ℕ) → set_of (initial daemons) pool group ≡ None
unfolding set_of size_in pool_in
no_set daemons pool group = refl

pub present_set_is_last : PresentSetIsLast
unfolding intervals_of
present_set_is_last history pool group =
    let P : Option (List ℕ) → Type 0 = λ o. EndIn o [] in
    ends_from (initial history.daemons) pool group history.commands [] (subst P (sym (no_set history.daemons pool group)) refl)
