-- What accepted commands keep.
use Rattle.std.proofs.Common.{◌≡◌, ℕ, zero, suc, ◌+◌, ◌<◌, ◌≤◌, List, [], ◌∷◌, ◌++◌, length, take, fold, Bool, true, false, not, ◌||◌, ◌&&◌, cond, None, All, nat_le, refl, ◌∙◌, arith, subst}
use Rattle.std.proofs.lemmas.Bool.Decides.{nat_tests}
use Rattle.std.proofs.lemmas.List.Elements.{All-nil, All-cons, All-head, All-tail, All-push}
use Rattle.map_core.specs.State.{MapState}
use Rattle.map_core.specs.Map.{change_first, is_named, tagged, created, pools_after, after, initial, map_after}
use Rattle.map_core.specs.Refusal.{first_of, refusal, tests, in_limits, is_last}
use Rattle.map_core.specs.PoolLimits.{HasLimits, IsPool}
use Rattle.map_core.specs.Limits.{AcceptedFrom}
use Rattle.map_core.specs.declared.pool.Pool.{Pool}
use Rattle.map_core.specs.declared.command.MapCommand.{MapCommand}
use Rattle.map_core.specs.declared.command.MapCommand.TheVariants.{PoolCreate, AppEnable, AppSet, AppRm, OsdUp, OsdDown, OsdRestart}
use Rattle.map_core.specs.declared.fault.MapFault.{MapFault}

-- no fault: each test fails
abbrev pub AllFail : List (Bool × MapFault) → Type 0
AllFail [] = Unit {0}
AllFail (test ∷ tests) = (test.0 ≡ false) × AllFail tests

fail_by : (b : Bool) (fault : MapFault) (tests : List (Bool × MapFault)) → (first_of tests ≡ None → AllFail tests) → first_of ((b, fault) ∷ tests) ≡ None → (b ≡ false) × AllFail tests
fail_by true fault tests rest h = absurd (cc)
fail_by false fault tests rest h = (refl, rest h)

pub all_fail : (tests : List (Bool × MapFault)) → first_of tests ≡ None → AllFail tests
all_fail [] h = tt
all_fail (test ∷ tests) h = fail_by test.0 test.1 tests (all_fail tests) h

pub or_right : (a b : Bool) → (a || b) ≡ false → b ≡ false
or_right true b h = absurd (cc)
or_right false b h = h

pub or_left : (a b : Bool) → (a || b) ≡ false → a ≡ false
or_left true b h = absurd (cc)
or_left false b h = refl

pub not_false : (a : Bool) → not a ≡ false → a ≡ true
not_false true h = refl
not_false false h = absurd (cc)

below : (epoch : ℕ) → is_last epoch ≡ false → epoch < 65535
below epoch h = grind (arith, nat_tests)

-- an accepted command leaves room for its epoch
pub room : (state : MapState) (epoch : ℕ) (command : MapCommand) → refusal state epoch command ≡ None → epoch < 65535
unfolding refusal
room state epoch (PoolCreate name pg size min) h = below epoch (or_right _ _ (all_fail (tests state epoch (PoolCreate name pg size min)) h).1.1.0)
room state epoch (AppEnable pool app) h = below epoch (or_right _ _ (all_fail (tests state epoch (AppEnable pool app)) h).1.1.1.0)
room state epoch (AppSet pool app key value) h = below epoch (or_right _ _ (all_fail (tests state epoch (AppSet pool app key value)) h).1.1.1.0)
room state epoch (AppRm pool app key) h = below epoch (all_fail (tests state epoch (AppRm pool app key)) h).1.1.1.1.0
room state epoch (OsdUp daemon) h = below epoch (all_fail (tests state epoch (OsdUp daemon)) h).1.1.0
room state epoch (OsdDown daemon) h = below epoch (all_fail (tests state epoch (OsdDown daemon)) h).1.1.0
room state epoch (OsdRestart daemon) h = below epoch (all_fail (tests state epoch (OsdRestart daemon)) h).1.1.0

and_left : (a b : Bool) → (a && b) ≡ true → a ≡ true
and_left true b h = refl
and_left false b h = absurd (cc)

and_right : (a b : Bool) → (a && b) ≡ true → b ≡ true
and_right true b h = h
and_right false b h = absurd (cc)

le_from : (a b : ℕ) → nat_le a b ≡ true → a ≤ b
le_from a b h = grind (arith, nat_tests)

limits_from : (pg size min : ℕ) → in_limits pg size min ≡ true → HasLimits pg size min
unfolding in_limits
limits_from pg size min h =
    let a = and_left _ (nat_le min size) h in
    let b = and_left _ (nat_le 1 min) a in
    let c = and_left _ (nat_le size 5) b in
    let d = and_left _ (nat_le 1 size) c in
    record {
      some_groups = le_from 1 pg (and_left _ (nat_le pg 64) d);
      few_groups = le_from pg 64 (and_right (nat_le 1 pg) _ d);
      some_daemons = le_from 1 size (and_right (nat_le 1 pg && nat_le pg 64) _ c);
      few_daemons = le_from size 5 (and_right (nat_le 1 pg && nat_le pg 64 && nat_le 1 size) _ b);
      some_needed = le_from 1 min (and_right (nat_le 1 pg && nat_le pg 64 && nat_le 1 size && nat_le size 5) _ a);
      few_needed = le_from min size (and_right (nat_le 1 pg && nat_le pg 64 && nat_le 1 size && nat_le size 5 && nat_le 1 min) _ h);
    }

kept_at : (b : Bool) (command : MapCommand) (x : Pool) (pools changed : List Pool) → All IsPool (x ∷ pools) → All IsPool changed → All IsPool (cond b (tagged command x ∷ pools) (x ∷ changed))
kept_at true command x pools changed all rest = All-cons IsPool (tagged command x) pools (All-head IsPool x pools all) (All-tail IsPool x pools all)
kept_at false command x pools changed all rest = All-cons IsPool x changed (All-head IsPool x pools all) rest

keeps_limits : (test : Pool → Bool) (command : MapCommand) (pools : List Pool) → All IsPool pools → All IsPool (change_first test (tagged command) pools)
keeps_limits test command [] all = all
keeps_limits test command (x ∷ pools) all = kept_at (test x) command x pools (change_first test (tagged command) pools) all (keeps_limits test command pools (All-tail IsPool x pools all))

-- an accepted command keeps the limits of pools
pub limits_step : (state : MapState) (epoch : ℕ) (command : MapCommand) → refusal state epoch command ≡ None → All IsPool state.pools → All IsPool (pools_after command state.pools)
unfolding refusal
limits_step state epoch (PoolCreate name pg size min) h all =
    All-push IsPool state.pools (created name pg size min) all
    (limits_from pg size min (not_false _ (or_left _ _ (or_left _ _ (all_fail (tests state epoch (PoolCreate name pg size min)) h).1.1.0))))
limits_step state epoch (AppEnable pool app) h all = keeps_limits (is_named pool) (AppEnable pool app) state.pools all
limits_step state epoch (AppSet pool app key value) h all = keeps_limits (is_named pool) (AppSet pool app key value) state.pools all
limits_step state epoch (AppRm pool app key) h all = keeps_limits (is_named pool) (AppRm pool app key) state.pools all
limits_step state epoch (OsdUp daemon) h all = all
limits_step state epoch (OsdDown daemon) h all = all
limits_step state epoch (OsdRestart daemon) h all = all

limits_steps : (state : MapState) (epoch : ℕ) (commands : List MapCommand) → AcceptedFrom state epoch commands → All IsPool state.pools → All IsPool (fold after state commands).pools
limits_steps state epoch [] accepted all = all
limits_steps state epoch (command ∷ commands) accepted all = limits_steps (after state command) (epoch + 1) commands accepted.1 (limits_step state epoch command accepted.0 all)

pub limits_of : (daemons : ℕ) (commands : List MapCommand) → AcceptedFrom (initial daemons) 1 commands → All IsPool (map_after daemons commands).pools
limits_of daemons commands accepted = limits_steps (initial daemons) 1 commands accepted (All-nil IsPool)

-- the first of accepted commands are accepted, and so is one more that nothing refuses
pub accepted_take : (state : MapState) (epoch k : ℕ) (commands : List MapCommand) → AcceptedFrom state epoch commands → AcceptedFrom state epoch (take k commands)
accepted_take state epoch zero commands accepted = tt
accepted_take state epoch (suc k) [] accepted = tt
accepted_take state epoch (suc k) (command ∷ commands) accepted = (accepted.0, accepted_take (after state command) (epoch + 1) k commands accepted.1)

pub accepted_push : (state : MapState) (epoch e : ℕ) (commands : List MapCommand) (command : MapCommand) → AcceptedFrom state epoch commands → e ≡ length commands + epoch → refusal (fold after state commands) e command ≡ None
    → AcceptedFrom state epoch (commands ++ command ∷ [])
accepted_push state epoch e [] command accepted at h = (subst (λ (n : ℕ). refusal state n command ≡ None) (at ∙ omega arith) h, tt)
accepted_push state epoch e (x ∷ commands) command accepted at h =
    (accepted.0, accepted_push (after state x) (epoch + 1) e commands command accepted.1 (omega (arith, at)) h)
