-- Sizes of acting sets, and the intervals after one more command.
use Rattle.std.proofs.Common.{◌≡◌, ℕ, ◌≤◌, List, [], ◌∷◌, ◌++◌, append_assoc, Bool, true, false, cond, fold, find, Option, Some, None, All, refl, sym, ap, ◌∙◌, subst}
use Rattle.std.specs.Option.{option_map, option_to_list, IfSome}
use Rattle.std.proofs.lemmas.List.{append-nil}
use Rattle.std.proofs.lemmas.List.Elements.{All-head, All-tail}
use Rattle.map_core.specs.State.{MapState}
use Rattle.std.specs.Str.{bytes_eq}
use Rattle.map_core.specs.Map.{after, is_named, pool_in, pools_after, tagged, created}
use Rattle.map_core.specs.Replay.{pool_step, change_some}
use Rattle.map_core.proofs.OnePool.{pool_after_step}
use Rattle.map_core.specs.PoolLimits.{IsPool}
use Rattle.map_core.specs.Intervals.{size_in, size_made, set_of, begun, intervals_from}
use Rattle.map_core.specs.declared.pool.Pool.{Pool}
use Rattle.map_core.specs.declared.command.MapCommand.{MapCommand}
use Rattle.map_core.specs.declared.command.MapCommand.TheVariants.{PoolCreate, AppEnable, AppSet, AppRm, OsdUp, OsdDown, OsdRestart}

found_at : (P : Pool → Type 0) (b : Bool) (x : Pool) (rest : Option Pool) → P x → IfSome rest P → IfSome (cond b (Some x) rest) P
found_at P true x rest here there = here
found_at P false x rest here there = there

-- what is found has what all have
pub All-find : (P : Pool → Type 0) (test : Pool → Bool) (pools : List Pool) → All P pools → IfSome (find test pools) P
All-find P test [] all = tt
All-find P test (x ∷ pools) all = found_at P (test x) x (find test pools) (All-head P x pools all) (All-find P test pools (All-tail P x pools all))

small_from : (found : Option Pool) → IfSome found IsPool → IfSome (option_map (λ (p : Pool). p.size) found) (λ size. size ≤ 5)
small_from None h = tt
small_from (Some x) h = h.few_daemons

-- sets are small
pub size_small : (pools : List Pool) (name : List ℕ) → All IsPool pools → IfSome (size_in pools name) (λ size. size ≤ 5)
unfolding size_in pool_in
size_small pools name all = small_from (find (is_named name) pools) (All-find IsPool (is_named name) pools all)

-- one more command begins at most one more interval
pub intervals_push : (state : MapState) (pool : List ℕ) (group : ℕ) (commands : List MapCommand) (command : MapCommand)
    → intervals_from state pool group (commands ++ command ∷ [])
    ≡ intervals_from state pool group commands ++ option_to_list (begun command (set_of (fold after state commands) pool group) (set_of (after (fold after state commands) command) pool group))
intervals_push state pool group [] command = append-nil _
intervals_push state pool group (x ∷ commands) command =
    ap (λ l. option_to_list (begun x (set_of state pool group) (set_of (after state x) pool group)) ++ l) (intervals_push (after state x) pool group commands command)
    ∙ sym (append_assoc (option_to_list (begun x (set_of state pool group) (set_of (after state x) pool group))) (intervals_from (after state x) pool group commands) _)

change_size : (name pool : List ℕ) (command : MapCommand) (x : Pool) (size : ℕ) → Some x.size ≡ Some size → option_map (λ (p : Pool). p.size) (change_some name pool command (Some x)) ≡ Some size
change_size name pool command x size e = go (bytes_eq pool name)
  where
    go : (b : Bool) → option_map (λ (p : Pool). p.size) (cond b (option_map (tagged command) (Some x)) (Some x)) ≡ Some size
    go true = e
    go false = e

-- the sizes after a command
step_size : (name : List ℕ) (found : Option Pool) (command : MapCommand) (size : ℕ) → option_map (λ (p : Pool). p.size) found ≡ Some size → option_map (λ (p : Pool). p.size) (pool_step name found command) ≡ Some size
step_size name None command size e = absurd (cc)
step_size name (Some x) (PoolCreate n pg s m) size e = e
step_size name (Some x) (AppEnable pool app) size e = change_size name pool (AppEnable pool app) x size e
step_size name (Some x) (AppSet pool app key value) size e = change_size name pool (AppSet pool app key value) x size e
step_size name (Some x) (AppRm pool app key) size e = change_size name pool (AppRm pool app key) x size e
step_size name (Some x) (OsdUp d) size e = e
step_size name (Some x) (OsdDown d) size e = e
step_size name (Some x) (OsdRestart d) size e = e

-- a pool that is there keeps its size
pub size_stays : (name : List ℕ) (pools : List Pool) (command : MapCommand) (size : ℕ) → size_in pools name ≡ Some size → size_in (pools_after command pools) name ≡ Some size
unfolding size_in pool_in
size_stays name pools command size e = ap (option_map (λ (p : Pool). p.size)) (pool_after_step name pools command) ∙ step_size name (find (is_named name) pools) command size e

pub none_found : (found : Option Pool) → option_map (λ (p : Pool). p.size) found ≡ None → found ≡ None
none_found None e = refl
none_found (Some x) e = absurd (cc)

none_changed : (name pool : List ℕ) (command : MapCommand) → option_map (λ (p : Pool). p.size) (change_some name pool command None) ≡ None
none_changed name pool command = go (bytes_eq pool name)
  where
    go : (b : Bool) → option_map (λ (p : Pool). p.size) (cond b (option_map (tagged command) None) None) ≡ None
    go true = refl
    go false = refl

none_step : (name : List ℕ) (command : MapCommand) → option_map (λ (p : Pool). p.size) (pool_step name None command) ≡ size_made command name
none_step name (PoolCreate n pg s m) = go (bytes_eq n name)
  where
    go : (b : Bool) → option_map (λ (p : Pool). p.size) (cond b (Some (created n pg s m)) None) ≡ cond b (Some s) None
    go true = refl
    go false = refl
none_step name (AppEnable pool app) = none_changed name pool (AppEnable pool app)
none_step name (AppSet pool app key value) = none_changed name pool (AppSet pool app key value)
none_step name (AppRm pool app key) = none_changed name pool (AppRm pool app key)
none_step name (OsdUp d) = refl
none_step name (OsdDown d) = refl
none_step name (OsdRestart d) = refl

-- the size of a pool that was not there is that of the command which creates it
pub size_of_new : (name : List ℕ) (pools : List Pool) (command : MapCommand) → size_in pools name ≡ None → size_in (pools_after command pools) name ≡ size_made command name
unfolding size_in pool_in
size_of_new name pools command e =
    ap (option_map (λ (p : Pool). p.size)) (pool_after_step name pools command ∙ ap (λ f. pool_step name f command) (none_found _ e)) ∙ none_step name command

pub if_some_along : {T : Type 0} (a b : Option T) (P : T → Type 0) → a ≡ b → IfSome b P → IfSome a P
if_some_along {T} a b P e h = subst (λ (o : Option T). IfSome o P) (sym e) h
