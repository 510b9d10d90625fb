-- The kept parts are the map after the commands.
use Rattle.std.proofs.Common.{◌≡◌, ◌≢◌, ℕ, ◌+◌, ◌≤◌, arith, List, [], ◌∷◌, ◌++◌, Bool, Option, None, Some, Result, Ok, Err, length, take, fold, unwrap_or, is_some, not, ◌||◌, ◌==◌, ◌-◌, nat_lt, true, false, All, IfOk, IsErrAnd, refl, sym, ap, ◌∙◌, subst}
use Rattle.std.proofs.lemmas.List.Sums.{fold_push}
use Rattle.std.proofs.lemmas.List.Elements.{All-same}
use Rattle.std.proofs.lemmas.Result.{IfOk-weaker}
use Rattle.std.proofs.lemmas.Bool.{false≢true}
use Rattle.std.specs.Option.{option_map, IfSome}
use Rattle.place_core.specs.Placement.{acting_of, numbers_of}
use Rattle.map_core.specs.State.{MapState, History}
use Rattle.map_core.specs.Map.{after, initial, map_after, map_of, epoch_of, pools_after, up_after, pool_in, view_of, view_at, is_named}
use Rattle.common_types.specs.Refused.{RefusedFirst}
use Rattle.map_core.specs.Refusal.{refusal, first_of, acting_tests, view_refusal, is_word}
use Rattle.map_core.specs.PoolLimits.{IsPool, HasLimits}
use Rattle.map_core.specs.Limits.{AcceptedFrom}
use Rattle.map_core.specs.Intervals.{size_in, set_of}
use Rattle.map_core.specs.Replay.{no_pool, pool_step}
use Rattle.map_core.specs.declared.fault.MapFault.TheVariants as faults
use Rattle.map_core.specs.declared.pool.PoolView.{PoolView}
use Rattle.map_core.proofs.Acceptance.{accepted_take, limits_of, limits_step, all_fail, not_false}
use Rattle.map_core.proofs.IntervalLists.{none_found, All-find, if_some_along}
use Rattle.map_core.proofs.OnePool.{pool_in_history}
use Rattle.std.proofs.Math.Seq.{take-length}
use Rattle.std.proofs.lemmas.Bool.Decides.{nat_tests}
use Rattle.map_core.specs.declared.pool.Pool.{Pool}
use Rattle.map_core.specs.declared.command.MapCommand.{MapCommand}
use Rattle.map_core.specs.declared.fault.MapFault.{MapFault}

pub daemons_stay : (state : MapState) (commands : List MapCommand) → (fold after state commands).daemons ≡ state.daemons
daemons_stay state [] = refl
daemons_stay state (command ∷ commands) = daemons_stay (after state command) commands

abbrev pub state_of : ℕ → List Pool → List Bool → MapState
state_of daemons pools up = record { daemons = daemons; pools = pools; up = up }

abbrev pub history : ℕ → List MapCommand → History
history daemons commands = record { daemons = daemons; commands = commands }

pub current : (h : History) (daemons : ℕ) (commands : List MapCommand) (pools : List Pool) (up : List Bool) → history daemons commands ≡ h → pools ≡ (map_after daemons commands).pools → up ≡ (map_after daemons commands).up
    → state_of daemons pools up ≡ map_of h
current h daemons commands pools up view pools_are up_are =
    let parts : state_of daemons pools up ≡ map_after daemons commands =
    λ i. record { daemons = sym (daemons_stay (initial daemons) commands) i; pools = pools_are i; up = up_are i } in
    parts ∙ ap map_of view

-- the refusal by the kept parts is that of the map
pub refusal_is : (h : History) (daemons len : ℕ) (commands : List MapCommand) (pools seen : List Pool) (up : List Bool) (command : MapCommand) (answer : Option MapFault) → history daemons commands ≡ h
    → pools ≡ (map_after daemons commands).pools → up ≡ (map_after daemons commands).up → len ≡ length commands → seen ≡ pools → answer ≡ refusal (state_of daemons seen up) (len + 1) command
    → answer ≡ refusal (map_of h) (epoch_of h) command
refusal_is h daemons len commands pools seen up command answer view pools_are up_are at same is =
    is ∙ ap (λ s. refusal s (len + 1) command) (current h daemons commands seen up view (same ∙ pools_are) up_are)
    ∙ ap (λ n. refusal (map_of h) (n + 1) command) at ∙ ap (λ x. refusal (map_of h) (epoch_of x) command) view

pub memory_alone : {T E : Type 0} (o : Option E) (memory : E) (r : Result T E) → o ≡ None → IsErrAnd r (λ e. e ≡ memory) → RefusedFirst o memory r
memory_alone o memory (Ok x) none err = absurd err
memory_alone o memory (Err e) none err = err ∙ ap (λ p. unwrap_or p memory) (sym none)

pub fault_alone : {E : Type 0} (o : Option E) (memory fault : E) → o ≡ Some fault → fault ≡ unwrap_or o memory
fault_alone o memory fault e = ap (λ p. unwrap_or p memory) (sym e)

-- the map after one more command
pub after_push : (daemons : ℕ) (commands : List MapCommand) (command : MapCommand) → map_after daemons (commands ++ command ∷ []) ≡ after (map_after daemons commands) command
after_push daemons commands command = fold_push after (initial daemons) commands command

-- the acting set by the kept parts is that of the map, and so is the one after a command
pub set_is : (h : History) (daemons : ℕ) (commands : List MapCommand) (pools seen : List Pool) (up : List Bool) (name : List ℕ) (group : ℕ) (size : ℕ) (members : List ℕ) → history daemons commands ≡ h
    → pools ≡ (map_after daemons commands).pools → up ≡ (map_after daemons commands).up → seen ≡ pools → size_in seen name ≡ Some size → members ≡ acting_of name group (numbers_of up) size
    → set_of (map_of h) name group ≡ Some members
unfolding set_of
set_is h daemons commands pools seen up name group size members view pools_are up_are same sized is =
    sym (ap (λ s. set_of s name group) (current h daemons commands seen up view (same ∙ pools_are) up_are))
    ∙ ap (option_map (acting_of name group (numbers_of up))) sized ∙ ap Some (sym is)

pub set_is_none : (h : History) (daemons : ℕ) (commands : List MapCommand) (pools seen : List Pool) (up : List Bool) (name : List ℕ) (group : ℕ) → history daemons commands ≡ h
    → pools ≡ (map_after daemons commands).pools → up ≡ (map_after daemons commands).up → seen ≡ pools → size_in seen name ≡ None → set_of (map_of h) name group ≡ None
unfolding set_of
set_is_none h daemons commands pools seen up name group view pools_are up_are same sized =
    sym (ap (λ s. set_of s name group) (current h daemons commands seen up view (same ∙ pools_are) up_are)) ∙ ap (option_map (acting_of name group (numbers_of up))) sized

pub set_after_is : (h : History) (daemons : ℕ) (commands : List MapCommand) (pools seen : List Pool) (up next : List Bool) (command : MapCommand) (name : List ℕ) (group : ℕ) (size : ℕ) (members : List ℕ) → history daemons commands ≡ h
    → pools ≡ (map_after daemons commands).pools → up ≡ (map_after daemons commands).up → seen ≡ pools → next ≡ up_after command up → size_in (pools_after command seen) name ≡ Some size → members ≡ acting_of name group (numbers_of next) size
    → set_of (after (map_of h) command) name group ≡ Some members
unfolding set_of
set_after_is h daemons commands pools seen up next command name group size members view pools_are up_are same next_is sized is =
    sym (ap (λ s. set_of (after s command) name group) (current h daemons commands seen up view (same ∙ pools_are) up_are))
    ∙ ap (option_map (acting_of name group (numbers_of (up_after command up)))) sized ∙ ap (λ u. Some (acting_of name group (numbers_of u) size)) (sym next_is) ∙ ap Some (sym is)

pub set_after_is_none : (h : History) (daemons : ℕ) (commands : List MapCommand) (pools seen : List Pool) (up : List Bool) (command : MapCommand) (name : List ℕ) (group : ℕ) → history daemons commands ≡ h
    → pools ≡ (map_after daemons commands).pools → up ≡ (map_after daemons commands).up → seen ≡ pools → size_in (pools_after command seen) name ≡ None → set_of (after (map_of h) command) name group ≡ None
unfolding set_of
set_after_is_none h daemons commands pools seen up command name group view pools_are up_are same sized =
    sym (ap (λ s. set_of (after s command) name group) (current h daemons commands seen up view (same ∙ pools_are) up_are))
    ∙ ap (option_map (acting_of name group (numbers_of (up_after command up)))) sized

-- the pools that are kept have limits, now and after a command that nothing refuses
pub limits_now : (daemons : ℕ) (commands : List MapCommand) (pools seen : List Pool) → AcceptedFrom (initial daemons) 1 commands → pools ≡ (map_after daemons commands).pools → seen ≡ pools → All IsPool seen
limits_now daemons commands pools seen accepted pools_are same = All-same IsPool seen (map_after daemons commands).pools (same ∙ pools_are) (limits_of daemons commands accepted)

pub limits_then : (h : History) (daemons : ℕ) (commands : List MapCommand) (pools seen : List Pool) (up : List Bool) (command : MapCommand) → AcceptedFrom (initial daemons) 1 commands → history daemons commands ≡ h
    → pools ≡ (map_after daemons commands).pools → up ≡ (map_after daemons commands).up → seen ≡ pools → refusal (map_of h) (epoch_of h) command ≡ None → All IsPool (pools_after command seen)
limits_then h daemons commands pools seen up command accepted view pools_are up_are same allowed =
    let state = current h daemons commands seen up view (same ∙ pools_are) up_are in
    limits_step (state_of daemons seen up) (epoch_of h) command (ap (λ s. refusal s (epoch_of h) command) state ∙ allowed) (limits_now daemons commands pools seen accepted pools_are same)

-- a group that is not refused has a pool
pub group_has_size : (pools : List Pool) (name : List ℕ) (group : ℕ) → first_of (acting_tests pools name group) ≡ None → size_in pools name ≡ None → ⊥
unfolding size_in
group_has_size pools name group allowed e = false≢true (sym (ap is_some (none_found (pool_in pools name) e)) ∙ not_false _ (all_fail (acting_tests pools name group) allowed).1.0)

-- a view is that of the map, by the pool that was found
pub record IsViewed (h : History) (name : List ℕ) (epoch : ℕ) (r : Result PoolView MapFault) : Type 0 where
  pub view : IfOk r (λ v. view_at h name epoch ≡ Some v)
  pub refused : RefusedFirst (view_refusal h name epoch) faults.OutOfMemory r
  pub limits : IfOk r (λ (v : PoolView). HasLimits v.pg_num v.size v.min_size)

refused_as : (h : History) (name : List ℕ) (epoch : ℕ) (word out : Bool) (found : Option Pool) → word ≡ true → out ≡ false
    → first_of ((not word, faults.BadName) ∷ (out, faults.NoEpoch) ∷ (not (is_some (option_map (view_of epoch) found)), faults.NoPool) ∷ []) ≡ no_pool found
refused_as h name epoch false out found w o = absurd (false≢true w)
refused_as h name epoch true true found w o = absurd (false≢true (sym o))
refused_as h name epoch true false None w o = refl
refused_as h name epoch true false (Some x) w o = refl

view_limits : (epoch : ℕ) (found : Option Pool) (v : PoolView) → IfSome found IsPool → option_map (view_of epoch) found ≡ Some v → HasLimits v.pg_num v.size v.min_size
view_limits epoch None v limits e = absurd (cc)
view_limits epoch (Some x) v limits e =
    let same : view_of epoch x ≡ v = cc in
    subst (λ (w : PoolView). HasLimits w.pg_num w.size w.min_size) same limits

pub viewed : (h : History) (name : List ℕ) (epoch : ℕ) (found : Option Pool) (r : Result PoolView MapFault) → is_word name ≡ true → (epoch == 0 || nat_lt (epoch_of h) epoch) ≡ false
    → pool_in (map_after h.daemons (take (epoch - 1) h.commands)).pools name ≡ found → IfSome found IsPool
    → IfOk r (λ v. option_map (view_of epoch) found ≡ Some v) → RefusedFirst (no_pool found) faults.OutOfMemory r → IsViewed h name epoch r
unfolding view_at
viewed h name epoch found r word out at limits view refused =
    let seen : view_at h name epoch ≡ option_map (view_of epoch) found = ap (option_map (view_of epoch)) at in
    let same : view_refusal h name epoch ≡ no_pool found =
    ap (λ o. first_of ((not (is_word name), faults.BadName) ∷ (epoch == 0 || nat_lt (epoch_of h) epoch, faults.NoEpoch) ∷ (not (is_some o), faults.NoPool) ∷ [])) seen
    ∙ refused_as h name epoch (is_word name) (epoch == 0 || nat_lt (epoch_of h) epoch) found word out in
    record {
      view = IfOk-weaker r _ (λ v. view_at h name epoch ≡ Some v) (λ v e. seen ∙ e) view;
      refused = subst (λ (o : Option MapFault). RefusedFirst o faults.OutOfMemory r) (sym same) refused;
      limits = IfOk-weaker r _ (λ (v : PoolView). HasLimits v.pg_num v.size v.min_size) (λ v e. view_limits epoch found v limits e) view;
    }

-- an epoch from 1 to the present one
pub epoch_in : (h : History) (daemons len epoch : ℕ) (commands : List MapCommand) → history daemons commands ≡ h → len ≡ length commands → epoch ≢ 0 → epoch ≤ len + 1 → (epoch == 0 || nat_lt (epoch_of h) epoch) ≡ false
epoch_in h daemons len epoch commands view at some few =
    let present : epoch_of h ≡ len + 1 = sym (ap epoch_of view) ∙ omega (arith, at) in
    tests_of epoch (epoch_of h) some (omega (arith, present))
  where
    tests_of : (epoch last : ℕ) → epoch ≢ 0 → epoch ≤ last → (epoch == 0 || nat_lt last epoch) ≡ false
    tests_of epoch last some few = grind (arith, nat_tests)

-- the pool at the present epoch, and at an earlier one
pub found_now : (h : History) (daemons len epoch : ℕ) (commands : List MapCommand) (pools seen : List Pool) (name : List ℕ) → history daemons commands ≡ h → pools ≡ (map_after daemons commands).pools → seen ≡ pools → len ≡ length commands → epoch ≡ len + 1
    → pool_in (map_after h.daemons (take (epoch - 1) h.commands)).pools name ≡ pool_in seen name
found_now h daemons len epoch commands pools seen name view pools_are same at is =
    let n : epoch - 1 ≡ length commands = omega (arith, at, is) in
    ap (λ (x : History). pool_in (map_after x.daemons (take (epoch - 1) x.commands)).pools name) (sym view)
    ∙ ap (λ m. pool_in (map_after daemons (take m commands)).pools name) n
    ∙ ap (λ l. pool_in (map_after daemons l).pools name) (take-length commands)
    ∙ ap (λ l. pool_in l name) (sym (same ∙ pools_are))

pub found_then : (h : History) (daemons epoch : ℕ) (commands seen : List MapCommand) (name : List ℕ) → history daemons commands ≡ h → seen ≡ take (epoch - 1) commands
    → pool_in (map_after h.daemons (take (epoch - 1) h.commands)).pools name ≡ fold (pool_step name) None seen
found_then h daemons epoch commands seen name view same =
    ap (λ (x : History). pool_in (map_after x.daemons (take (epoch - 1) x.commands)).pools name) (sym view)
    ∙ pool_in_history name daemons (take (epoch - 1) commands) ∙ ap (fold (pool_step name) None) (sym same)

pub limits_found : (pools : List Pool) (name : List ℕ) → All IsPool pools → IfSome (pool_in pools name) IsPool
unfolding pool_in
limits_found pools name all = All-find IsPool (is_named name) pools all

pub limits_found_then : (h : History) (daemons epoch : ℕ) (commands seen : List MapCommand) (name : List ℕ) → AcceptedFrom (initial daemons) 1 commands → history daemons commands ≡ h → seen ≡ take (epoch - 1) commands
    → IfSome (fold (pool_step name) None seen) IsPool
limits_found_then h daemons epoch commands seen name accepted view same =
    if_some_along _ _ IsPool (sym (pool_in_history name daemons seen))
    (limits_found (map_after daemons seen).pools name (limits_of daemons seen (subst (λ (l : List MapCommand). AcceptedFrom (initial daemons) 1 l) (sym same) (accepted_take (initial daemons) 1 (epoch - 1) commands accepted))))
