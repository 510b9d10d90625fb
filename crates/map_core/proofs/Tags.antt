-- What accepted commands keep of tags: each application of a pool once, and each key of an application once.
use Rattle.std.proofs.Common.{◌≡◌, ◌≢◌, ℕ, zero, suc, ◌+◌, ◌-◌, ◌<◌, List, [], ◌∷◌, ◌++◌, Bool, true, false, ◌||◌, cond, length, take, fold, find, All, Option, Some, None, refl, sym, ◌∙◌, arith, subst, get_or}
use Rattle.std.specs.Bool.{⊤}
use Rattle.std.specs.List.{AllPairs, list_any}
use Rattle.std.specs.Option.{option_map, option_map_or}
use Rattle.std.specs.Str.{bytes_eq}
use Rattle.std.proofs.lemmas.Bool.{false≢true}
use Rattle.std.proofs.lemmas.Slice.Eq.{bytes_eq-Decides}
use Rattle.std.proofs.lemmas.List.Elements.{All-nil, All-cons, All-head, All-tail, All-push}
use Rattle.std.proofs.lemmas.List.Kept.{AllPairs-cons}
use Rattle.std.proofs.lemmas.List.Quantifiers.{all_pairs_push}
use Rattle.common_types.specs.declared.tags.AppTags.{AppTags}
use Rattle.map_core.specs.State.{MapState, History}
use Rattle.map_core.specs.Map.{change_first, is_named, is_app, is_key, put_pair, without_pair, with_pairs, tags_after, tagged, created, pools_after, after, initial, map_after, map_of, pool_in, view_of, view_at}
use Rattle.map_core.specs.Refusal.{refusal, tests, tags_in, has_app}
use Rattle.map_core.specs.Limits.{AcceptedFrom}
use Rattle.map_core.specs.PossibleTags.{ArePossible}
use Rattle.map_core.specs.Laws.{TagsArePossible, ViewsArePossible}
use Rattle.map_core.proofs.Acceptance.{all_fail, accepted_take}
use Rattle.map_core.specs.declared.pool.Pool.{Pool}
use Rattle.map_core.specs.declared.pool.PoolView.{PoolView}
use Rattle.map_core.specs.declared.command.MapCommand.{MapCommand}
use Rattle.map_core.specs.declared.command.MapCommand.TheVariants.{PoolCreate, AppEnable, AppSet, AppRm, OsdUp, OsdDown, OsdRestart}

-- ---- lists whose elements differ

none_differ : {X : Type 0} (R : X → X → Type 0) → AllPairs R []
none_differ R i j d low high = absurd (omega arith)

first_of_pairs : {X : Type 0} (R : X → X → Type 0) (x : X) (xs : List X) → AllPairs R (x ∷ xs) → All (R x) xs
first_of_pairs R x xs h k d low = h 0 (suc k) d (omega arith) (omega arith)

rest_of_pairs : {X : Type 0} (R : X → X → Type 0) (x : X) (xs : List X) → AllPairs R (x ∷ xs) → AllPairs R xs
rest_of_pairs R x xs h i j d low high = h (suc i) (suc j) d (omega arith) (omega arith)

other : (a b : List ℕ) → bytes_eq a b ≡ false → a ≢ b
other a b h same = false≢true (sym h ∙ (bytes_eq-Decides a b).1 same)

-- ---- pairs of an application

abbrev Pair : Type 0
Pair = List ℕ × List ℕ

abbrev KeysDiffer : List Pair → Type 0
KeysDiffer pairs = AllPairs (λ p q. p.0 ≢ q.0) pairs

put_all : (P : List ℕ → Type 0) (key value : List ℕ) (pairs : List Pair) → P key → All (λ p. P p.0) pairs → All (λ p. P p.0) (put_pair key value pairs)
put_all P key value [] new all = All-cons (λ (p : Pair). P p.0) (key, value) [] new (All-nil (λ (p : Pair). P p.0))
put_all P key value (x ∷ pairs) new all = go (is_key key x) (put_all P key value pairs new (All-tail (λ (p : Pair). P p.0) x pairs all))
  where
    head : P x.0
    head = All-head (λ (p : Pair). P p.0) x pairs all

    tail : All (λ (p : Pair). P p.0) pairs
    tail = All-tail (λ (p : Pair). P p.0) x pairs all

    go : (b : Bool) → All (λ (p : Pair). P p.0) (put_pair key value pairs) → All (λ (p : Pair). P p.0) (cond b ((x.0, value) ∷ pairs) (x ∷ put_pair key value pairs))
    go true rest = All-cons (λ (p : Pair). P p.0) (x.0, value) pairs head tail
    go false rest = All-cons (λ (p : Pair). P p.0) x (put_pair key value pairs) head rest

put_differ : (key value : List ℕ) (pairs : List Pair) → KeysDiffer pairs → KeysDiffer (put_pair key value pairs)
put_differ key value [] h = AllPairs-cons (λ (p q : Pair). p.0 ≢ q.0) (key, value) [] (All-nil (λ (q : Pair). key ≢ q.0)) (none_differ (λ (p q : Pair). p.0 ≢ q.0))
put_differ key value (x ∷ pairs) h = go (is_key key x) refl (put_differ key value pairs (rest_of_pairs (λ (p q : Pair). p.0 ≢ q.0) x pairs h))
  where
    head : All (λ (q : Pair). x.0 ≢ q.0) pairs
    head = first_of_pairs (λ (p q : Pair). p.0 ≢ q.0) x pairs h

    tail : KeysDiffer pairs
    tail = rest_of_pairs (λ (p q : Pair). p.0 ≢ q.0) x pairs h

    go : (b : Bool) → is_key key x ≡ b → KeysDiffer (put_pair key value pairs) → KeysDiffer (cond b ((x.0, value) ∷ pairs) (x ∷ put_pair key value pairs))
    go true is rest = AllPairs-cons (λ (p q : Pair). p.0 ≢ q.0) (x.0, value) pairs head tail
    go false is rest = AllPairs-cons (λ (p q : Pair). p.0 ≢ q.0) x (put_pair key value pairs) (put_all (λ n. x.0 ≢ n) key value pairs (other x.0 key is) head) rest

without_all : (P : Pair → Type 0) (key : List ℕ) (pairs : List Pair) → All P pairs → All P (without_pair key pairs)
without_all P key [] all = all
without_all P key (x ∷ pairs) all = go (is_key key x) (without_all P key pairs (All-tail P x pairs all))
  where
    go : (b : Bool) → All P (without_pair key pairs) → All P (cond b pairs (x ∷ without_pair key pairs))
    go true rest = All-tail P x pairs all
    go false rest = All-cons P x (without_pair key pairs) (All-head P x pairs all) rest

without_differ : (key : List ℕ) (pairs : List Pair) → KeysDiffer pairs → KeysDiffer (without_pair key pairs)
without_differ key [] h = h
without_differ key (x ∷ pairs) h = go (is_key key x) (without_differ key pairs (rest_of_pairs (λ (p q : Pair). p.0 ≢ q.0) x pairs h))
  where
    tail : KeysDiffer pairs
    tail = rest_of_pairs (λ (p q : Pair). p.0 ≢ q.0) x pairs h

    go : (b : Bool) → KeysDiffer (without_pair key pairs) → KeysDiffer (cond b pairs (x ∷ without_pair key pairs))
    go true rest = tail
    go false rest = AllPairs-cons (λ (p q : Pair). p.0 ≢ q.0) x (without_pair key pairs) (without_all (λ (q : Pair). x.0 ≢ q.0) key pairs (first_of_pairs (λ (p q : Pair). p.0 ≢ q.0) x pairs h)) rest

-- ---- applications of a pool

abbrev AppsDiffer : List AppTags → Type 0
AppsDiffer tags = AllPairs (λ a b. a.application ≢ b.application) tags

abbrev HasKeysOnce : AppTags → Type 0
HasKeysOnce app = KeysDiffer app.pairs

abbrev with_changed : (List Pair → List Pair) → AppTags → AppTags
with_changed change a = record a { pairs = change a.pairs }

same_apps_all : (P : List ℕ → Type 0) (app : List ℕ) (change : List Pair → List Pair) (tags : List AppTags) → All (λ (a : AppTags). P a.application) tags → All (λ (a : AppTags). P a.application) (with_pairs app change tags)
same_apps_all P app change [] all = all
same_apps_all P app change (x ∷ tags) all = go (is_app app x) (same_apps_all P app change tags (All-tail (λ (a : AppTags). P a.application) x tags all))
  where
    head : P x.application
    head = All-head (λ (a : AppTags). P a.application) x tags all

    tail : All (λ (a : AppTags). P a.application) tags
    tail = All-tail (λ (a : AppTags). P a.application) x tags all

    go : (b : Bool) → All (λ (a : AppTags). P a.application) (with_pairs app change tags) → All (λ (a : AppTags). P a.application) (cond b (with_changed change x ∷ tags) (x ∷ with_pairs app change tags))
    go true rest = All-cons (λ (a : AppTags). P a.application) (with_changed change x) tags head tail
    go false rest = All-cons (λ (a : AppTags). P a.application) x (with_pairs app change tags) head rest

same_apps_differ : (app : List ℕ) (change : List Pair → List Pair) (tags : List AppTags) → AppsDiffer tags → AppsDiffer (with_pairs app change tags)
same_apps_differ app change [] h = h
same_apps_differ app change (x ∷ tags) h = go (is_app app x) (same_apps_differ app change tags (rest_of_pairs (λ (a b : AppTags). a.application ≢ b.application) x tags h))
  where
    head : All (λ (a : AppTags). x.application ≢ a.application) tags
    head = first_of_pairs (λ (a b : AppTags). a.application ≢ b.application) x tags h

    tail : AppsDiffer tags
    tail = rest_of_pairs (λ (a b : AppTags). a.application ≢ b.application) x tags h

    go : (b : Bool) → AppsDiffer (with_pairs app change tags) → AppsDiffer (cond b (with_changed change x ∷ tags) (x ∷ with_pairs app change tags))
    go true rest = AllPairs-cons (λ (a b : AppTags). a.application ≢ b.application) (with_changed change x) tags head tail
    go false rest = AllPairs-cons (λ (a b : AppTags). a.application ≢ b.application) x (with_pairs app change tags) (same_apps_all (λ n. x.application ≢ n) app change tags head) rest

keys_kept : (app : List ℕ) (change : List Pair → List Pair) → ((pairs : List Pair) → KeysDiffer pairs → KeysDiffer (change pairs)) → (tags : List AppTags) → All HasKeysOnce tags → All HasKeysOnce (with_pairs app change tags)
keys_kept app change keeps [] all = all
keys_kept app change keeps (x ∷ tags) all = go (is_app app x) (keys_kept app change keeps tags (All-tail HasKeysOnce x tags all))
  where
    head : HasKeysOnce x
    head = All-head HasKeysOnce x tags all

    tail : All HasKeysOnce tags
    tail = All-tail HasKeysOnce x tags all

    go : (b : Bool) → All HasKeysOnce (with_pairs app change tags) → All HasKeysOnce (cond b (with_changed change x ∷ tags) (x ∷ with_pairs app change tags))
    go true rest = All-cons HasKeysOnce (with_changed change x) tags (keeps x.pairs head) tail
    go false rest = All-cons HasKeysOnce x (with_pairs app change tags) head rest

pairs_changed : (app : List ℕ) (change : List Pair → List Pair) → ((pairs : List Pair) → KeysDiffer pairs → KeysDiffer (change pairs)) → (tags : List AppTags) → ArePossible tags → ArePossible (with_pairs app change tags)
pairs_changed app change keeps tags h = (same_apps_differ app change tags h.0, keys_kept app change keeps tags h.1)

-- an application that the pool has not
not_there : (app : List ℕ) (tags : List AppTags) → list_any (is_app app) tags ≡ false → (k : ℕ) (d : AppTags) → k < length tags → (get_or tags k d).application ≢ app
not_there app [] h = λ k d low same. omega arith
not_there app (x ∷ tags) h = go (is_app app x) refl h (not_there app tags)
  where
    go : (b : Bool) → is_app app x ≡ b → (b || list_any (is_app app) tags) ≡ false → (list_any (is_app app) tags ≡ false → (k : ℕ) (d : AppTags) → k < length tags → (get_or tags k d).application ≢ app)
        → (k : ℕ) (d : AppTags) → k < length (x ∷ tags) → (get_or (x ∷ tags) k d).application ≢ app
    go true is none rest k d low same = false≢true (sym none)
    go false is none rest zero d low same = other x.application app is same
    go false is none rest (suc k) d low same = rest none k d (omega arith) same

enabled : (app : List ℕ) (tags : List AppTags) → has_app tags app ≡ false → ArePossible tags → ArePossible (tags ++ (record { application = app; pairs = [] }) ∷ [])
unfolding has_app
enabled app tags new h = (
  all_pairs_push (λ (a b : AppTags). a.application ≢ b.application) tags (record { application = app; pairs = [] }) h.0 (not_there app tags new),
  All-push HasKeysOnce tags (record { application = app; pairs = [] }) h.1 (none_differ (λ (p q : Pair). p.0 ≢ q.0)),
)

-- ---- pools

abbrev HasPossible : Pool → Type 0
HasPossible pool = ArePossible pool.tags

-- a command to the pool of a name, whose tags are such that the command keeps them possible
changed : (name : List ℕ) (command : MapCommand) (C : List AppTags → Type 0) → ((tags : List AppTags) → C tags → ArePossible tags → ArePossible (tags_after command tags)) → (pools : List Pool)
    → C (tags_in pools name) → All HasPossible pools → All HasPossible (change_first (is_named name) (tagged command) pools)
unfolding tags_in pool_in
changed name command C keeps [] c all = all
changed name command C keeps (x ∷ pools) c all = go (is_named name x) c (λ c. changed name command C keeps pools c tail)
  where
    head : HasPossible x
    head = All-head HasPossible x pools all

    tail : All HasPossible pools
    tail = All-tail HasPossible x pools all

    rest : List Pool
    rest = change_first (is_named name) (tagged command) pools

    go : (b : Bool) → C (option_map_or (λ (p : Pool). p.tags) (cond b (Some x) (find (is_named name) pools)) []) → (C (tags_in pools name) → All HasPossible (change_first (is_named name) (tagged command) pools))
        → All HasPossible (cond b (tagged command x ∷ pools) (x ∷ change_first (is_named name) (tagged command) pools))
    go true c more = All-cons HasPossible (tagged command x) pools (keeps x.tags c head) tail
    go false c more = All-cons HasPossible x (change_first (is_named name) (tagged command) pools) head (more c)

possible_step : (state : MapState) (epoch : ℕ) (command : MapCommand) → refusal state epoch command ≡ None → All HasPossible state.pools → All HasPossible (pools_after command state.pools)
unfolding refusal
possible_step state epoch (PoolCreate name pg size min) h all =
    All-push HasPossible state.pools (created name pg size min) all (none_differ (λ (a b : AppTags). a.application ≢ b.application), All-nil HasKeysOnce)
possible_step state epoch (AppEnable pool app) h all =
    changed pool (AppEnable pool app) (λ tags. has_app tags app ≡ false) (enabled app) state.pools (all_fail (tests state epoch (AppEnable pool app)) h).1.1.0 all
possible_step state epoch (AppSet pool app key value) h all =
    changed pool (AppSet pool app key value) (λ tags. ⊤) (λ tags c. pairs_changed app (put_pair key value) (put_differ key value) tags) state.pools tt all
possible_step state epoch (AppRm pool app key) h all =
    changed pool (AppRm pool app key) (λ tags. ⊤) (λ tags c. pairs_changed app (without_pair key) (without_differ key) tags) state.pools tt all
possible_step state epoch (OsdUp daemon) h all = all
possible_step state epoch (OsdDown daemon) h all = all
possible_step state epoch (OsdRestart daemon) h all = all

possible_steps : (state : MapState) (epoch : ℕ) (commands : List MapCommand) → AcceptedFrom state epoch commands → All HasPossible state.pools → All HasPossible (fold after state commands).pools
possible_steps state epoch [] accepted all = all
possible_steps state epoch (command ∷ commands) accepted all = possible_steps (after state command) (epoch + 1) commands accepted.1 (possible_step state epoch command accepted.0 all)

pub tags_are_possible : TagsArePossible
tags_are_possible history accepted = possible_steps (initial history.daemons) 1 history.commands accepted (All-nil HasPossible)

found_so : (name : List ℕ) (pools : List Pool) (x : Pool) → find (is_named name) pools ≡ Some x → All HasPossible pools → HasPossible x
found_so name [] x e all = absurd (cc)
found_so name (y ∷ pools) x e all = go (is_named name y) e (λ more. found_so name pools x more (All-tail HasPossible y pools all))
  where
    go : (b : Bool) → cond b (Some y) (find (is_named name) pools) ≡ Some x → (find (is_named name) pools ≡ Some x → HasPossible x) → HasPossible x
    go true one rest = let same : y ≡ x = cc in subst HasPossible same (All-head HasPossible y pools all)
    go false more rest = rest more

pub views_are_possible : ViewsArePossible
unfolding view_at pool_in
views_are_possible history name epoch view accepted is = go (pool_in (map_after history.daemons (take (epoch - 1) history.commands)).pools name) refl is
  where
    front : History
    front = record { daemons = history.daemons; commands = take (epoch - 1) history.commands }

    all_then : All HasPossible (map_of front).pools
    all_then = tags_are_possible front (accepted_take (initial history.daemons) 1 (epoch - 1) history.commands accepted)

    go : (o : Option Pool) → pool_in (map_after history.daemons (take (epoch - 1) history.commands)).pools name ≡ o → option_map (view_of epoch) o ≡ Some view → ArePossible view.tags
    go None found none = absurd (cc)
    go (Some x) found one =
        let same : view_of epoch x ≡ view = cc in
        subst (λ (v : PoolView). ArePossible v.tags) same (found_so name (map_of front).pools x found all_then)
