-- The pool of a name, command by command.
use Rattle.std.proofs.Common.{◌≡◌, ℕ, ◌+◌, ◌<◌, length, take, drop, get_or, Result, Ok, Err, OnErr, List, [], ◌∷◌, ◌++◌, Bool, true, false, cond, fold, find, Option, Some, None, is_some, refl, sym, ap, ◌∙◌}
use Rattle.std.specs.Option.{option_map}
use Rattle.std.proofs.lemmas.List.{take-append-drop}
use Rattle.std.proofs.lemmas.List.Sums.{fold-append, fold_more}
use Rattle.std.specs.Str.{bytes_eq}
use Rattle.std.proofs.lemmas.Slice.Eq.{bytes_eq-Decides}
use Rattle.std.proofs.lemmas.Bool.{false≢true}
use Rattle.map_core.specs.State.{MapState}
use Rattle.map_core.specs.Map.{change_first, is_named, tagged, created, pools_after, after, initial, map_after, pool_in}
use Rattle.map_core.specs.Replay.{pool_step, change_some}
use Rattle.map_core.specs.declared.pool.Pool.{Pool}
use Rattle.map_core.specs.declared.command.MapCommand.{MapCommand}
use Rattle.map_core.specs.declared.command.MapCommand.TheVariants.{PoolCreate, AppEnable, AppSet, AppRm, OsdUp, OsdDown, OsdRestart}

-- the pool found after one more at the end
abbrev or_last : Option Pool → Bool → Pool → Option Pool
or_last (Some x) b y = Some x
or_last None b y = cond b (Some y) None

push_at : (b c : Bool) (x y : Pool) (found later : Option Pool) → later ≡ or_last found c y → cond b (Some x) later ≡ or_last (cond b (Some x) found) c y
push_at true c x y found later e = refl
push_at false c x y found later e = e

find_push : (test : Pool → Bool) (pools : List Pool) (y : Pool) → find test (pools ++ y ∷ []) ≡ or_last (find test pools) (test y) y
find_push test [] y = refl
find_push test (x ∷ pools) y = push_at (test x) (test y) x y (find test pools) (find test (pools ++ y ∷ [])) (find_push test pools y)

-- the pool found after the first that passes another test has changed, where the change leaves the test
same_at : (test : Pool → Bool) (change : Pool → Pool) (x : Pool) (pools changed : List Pool) (b : Bool) → test x ≡ b → test (change x) ≡ test x → find test changed ≡ option_map change (find test pools)
    → find test (cond b (change x ∷ pools) (x ∷ changed)) ≡ option_map change (cond b (Some x) (find test pools))
same_at test change x pools changed true e keeps rest = ap (λ c. cond c (Some (change x)) (find test pools)) (keeps ∙ e)
same_at test change x pools changed false e keeps rest = ap (λ c. cond c (Some x) (find test changed)) e ∙ rest

find_same : (test : Pool → Bool) (change : Pool → Pool) (pools : List Pool) → ((x : Pool) → test (change x) ≡ test x) → find test (change_first test change pools) ≡ option_map change (find test pools)
find_same test change [] keeps = refl
find_same test change (x ∷ pools) keeps = same_at test change x pools (change_first test change pools) (test x) refl (keeps x) (find_same test change pools keeps)

other_at : (test other : Pool → Bool) (change : Pool → Pool) (x : Pool) (pools changed : List Pool) (b : Bool) → other x ≡ b → test (change x) ≡ test x → (other x ≡ true → test x ≡ false) → find test changed ≡ find test pools
    → find test (cond b (change x ∷ pools) (x ∷ changed)) ≡ cond (test x) (Some x) (find test pools)
other_at test other change x pools changed true e keeps apart rest =
    ap (λ c. cond c (Some (change x)) (find test pools)) (keeps ∙ apart e) ∙ ap (λ c. cond c (Some x) (find test pools)) (sym (apart e))
other_at test other change x pools changed false e keeps apart rest = ap (cond (test x) (Some x)) rest

find_other : (test other : Pool → Bool) (change : Pool → Pool) (pools : List Pool) → ((x : Pool) → test (change x) ≡ test x) → ((x : Pool) → other x ≡ true → test x ≡ false) → find test (change_first other change pools) ≡ find test pools
find_other test other change [] keeps apart = refl
find_other test other change (x ∷ pools) keeps apart = other_at test other change x pools (change_first other change pools) (other x) refl (keeps x) (apart x) (find_other test other change pools keeps apart)

-- two names of one pool are one name
apart_names : (name other : List ℕ) → bytes_eq other name ≡ false → (x : Pool) → is_named other x ≡ true → is_named name x ≡ false
apart_names name other differ x is = go (bytes_eq x.name name) refl
  where
    go : (b : Bool) → bytes_eq x.name name ≡ b → b ≡ false
    go false e = refl
    go true e =
        let here : x.name ≡ other = (bytes_eq-Decides x.name other).0 is in
        let there : x.name ≡ name = (bytes_eq-Decides x.name name).0 e in
        absurd (false≢true (sym differ ∙ (bytes_eq-Decides other name).1 (sym here ∙ there)))

changed_named : (name pool : List ℕ) (command : MapCommand) (pools : List Pool) → find (is_named name) (change_first (is_named pool) (tagged command) pools) ≡ change_some name pool command (find (is_named name) pools)
changed_named name pool command pools = go (bytes_eq pool name) refl
  where
    go : (b : Bool) → bytes_eq pool name ≡ b → find (is_named name) (change_first (is_named pool) (tagged command) pools) ≡ cond b (option_map (tagged command) (find (is_named name) pools)) (find (is_named name) pools)
    go true e =
        let same : pool ≡ name = (bytes_eq-Decides pool name).0 e in
        ap (λ n. find (is_named name) (change_first (is_named n) (tagged command) pools)) same ∙ find_same (is_named name) (tagged command) pools (λ x. refl)
    go false e = find_other (is_named name) (is_named pool) (tagged command) pools (λ x. refl) (apart_names name pool e)

created_named : (found : Option Pool) (name n : List ℕ) (pg size min : ℕ) → or_last found (bytes_eq n name) (created n pg size min) ≡ pool_step name found (PoolCreate n pg size min)
created_named (Some x) name n pg size min = refl
created_named None name n pg size min = refl

-- what a command leaves of the pool of a name follows from that pool alone
pub pool_after_step : (name : List ℕ) (pools : List Pool) (command : MapCommand) → find (is_named name) (pools_after command pools) ≡ pool_step name (find (is_named name) pools) command
pool_after_step name pools (PoolCreate n pg size min) = find_push (is_named name) pools (created n pg size min) ∙ created_named (find (is_named name) pools) name n pg size min
pool_after_step name pools (AppEnable pool app) = changed_named name pool (AppEnable pool app) pools
pool_after_step name pools (AppSet pool app key value) = changed_named name pool (AppSet pool app key value) pools
pool_after_step name pools (AppRm pool app key) = changed_named name pool (AppRm pool app key) pools
pool_after_step name pools (OsdUp d) = refl
pool_after_step name pools (OsdDown d) = refl
pool_after_step name pools (OsdRestart d) = refl

pool_after_steps : (name : List ℕ) (state : MapState) (commands : List MapCommand) → find (is_named name) (fold after state commands).pools ≡ fold (pool_step name) (find (is_named name) state.pools) commands
pool_after_steps name state [] = refl
pool_after_steps name state (command ∷ commands) =
    pool_after_steps name (after state command) commands ∙ ap (λ found. fold (pool_step name) found commands) (pool_after_step name state.pools command)

pub pool_in_history : (name : List ℕ) (daemons : ℕ) (commands : List MapCommand) → pool_in (map_after daemons commands).pools name ≡ fold (pool_step name) None commands
unfolding pool_in
pool_in_history name daemons commands = pool_after_steps name (initial daemons) commands

-- a pool that is there stays there
abbrev Stays : Option Pool → Option Pool → Type 0
Stays before after = is_some before ≡ true → is_some after ≡ true

some_changed : (name pool : List ℕ) (command : MapCommand) (found : Option Pool) → Stays found (change_some name pool command found)
some_changed name pool command None h = absurd (false≢true h)
some_changed name pool command (Some x) h = go (bytes_eq pool name)
  where
    go : (b : Bool) → is_some (cond b (option_map (tagged command) (Some x)) (Some x)) ≡ true
    go true = refl
    go false = refl

some_step : (name : List ℕ) (found : Option Pool) (command : MapCommand) → Stays found (pool_step name found command)
some_step name None (PoolCreate n pg size min) h = absurd (false≢true h)
some_step name (Some x) (PoolCreate n pg size min) h = refl
some_step name found (AppEnable pool app) h = some_changed name pool (AppEnable pool app) found h
some_step name found (AppSet pool app key value) h = some_changed name pool (AppSet pool app key value) found h
some_step name found (AppRm pool app key) h = some_changed name pool (AppRm pool app key) found h
some_step name found (OsdUp d) h = h
some_step name found (OsdDown d) h = h
some_step name found (OsdRestart d) h = h

pub some_steps : (name : List ℕ) (found : Option Pool) (commands : List MapCommand) → Stays found (fold (pool_step name) found commands)
some_steps name found [] h = h
some_steps name found (command ∷ commands) h = some_steps name (pool_step name found command) commands (some_step name found command h)

-- where a step leaves a pool, the pool is there at the end
pub some_at_end : (name : List ℕ) (commands : List MapCommand) (i : ℕ) (x : MapCommand) (found : Option Pool) → i < length commands → x ≡ get_or commands i x → found ≡ fold (pool_step name) None (take i commands)
    → is_some (pool_step name found x) ≡ true → is_some (fold (pool_step name) None commands) ≡ true
some_at_end name commands i x found low at so_far is =
    let s = pool_step name in
    let front : s found x ≡ fold s None (take (i + 1) commands) =
    ap (λ f. s f x) so_far ∙ ap (s (fold s None (take i commands))) at ∙ sym (fold_more s None commands i x low) in
    let whole : fold s (fold s None (take (i + 1) commands)) (drop (i + 1) commands) ≡ fold s None commands =
    sym (fold-append s None (take (i + 1) commands) (drop (i + 1) commands)) ∙ ap (fold s None) (take-append-drop (i + 1) commands) in
    ap is_some (sym whole) ∙ some_steps name (fold s None (take (i + 1) commands)) (drop (i + 1) commands) (ap is_some (sym front) ∙ is)

pub on_err : {T E : Type 0} (r : Result T E) {P : Type 0} → P → OnErr r P
on_err (Ok x) p = tt
on_err (Err e) p = p
