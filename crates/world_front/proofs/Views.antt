-- A pool that was seen has a word for its name, and was seen at an epoch that there was.
use Rattle.std.proofs.Common.{◌≡◌, ◌∙◌, ◌⊎◌, inl, inr, ℕ, ◌+◌, ◌≤◌, ◌||◌, ◌==◌, Bool, true, false, not, cond, List, [], ◌∷◌, ◌++◌, Option, Some, None, is_some, fold, find, unwrap_or, refl, sym, ap, arith}
use Rattle.std.specs.Prelude.{nat_lt}
use Rattle.std.proofs.lemmas.Bool.{eqb-true}
use Rattle.std.proofs.lemmas.Bool.Decides.{nat_tests}
use Rattle.map_core.specs.State.{MapState, History}
use Rattle.map_core.specs.Map.{change_first, is_named, tagged, created, pools_after, after, initial, map_of, epoch_of, pool_in, view_at}
use Rattle.map_core.specs.Refusal.{refusal, tests, first_of, view_refusal, is_word}
use Rattle.map_core.specs.Limits.{AcceptedFrom, IsAccepted}
use Rattle.map_core.specs.Laws.{HasPool}
use Rattle.map_core.specs.declared.pool.Pool.{Pool}
use Rattle.map_core.specs.declared.pool.PoolView.{PoolView}
use Rattle.map_core.specs.declared.command.MapCommand.{MapCommand}
use Rattle.map_core.specs.declared.command.MapCommand.TheVariants.{PoolCreate, AppEnable, AppSet, AppRm, OsdUp, OsdDown, OsdRestart}
use Rattle.map_core.specs.declared.fault.MapFault.{MapFault}
use Rattle.map_core.specs.declared.fault.MapFault.TheVariants as map_fault
use Rattle.map_core.proofs.Acceptance.{all_fail, not_false}
use Rattle.map_core.proofs.Kept.{views_are_of_pools}
use Rattle.group_model_whole.specs.Each.{Each}
use Rattle.world_front.specs.Event.{NoPool, OutOfMemory}
use Rattle.world_front.specs.ControlPlane.{need, error_of}
use Rattle.world_front.specs.Refusing.{fault_of_view}
use Rattle.world_front.proofs.Refused.{first_or_memory}

-- ---- names

AreWords : List Pool → Type 0
AreWords pools = Each (λ (p : Pool). is_word p.name ≡ true) pools

words_changed : (test : Pool → Bool) (command : MapCommand) (pools : List Pool) → AreWords pools → AreWords (change_first test (tagged command) pools)
unfolding AreWords
words_changed test command [] h = tt
words_changed test command (x ∷ pools) h = go (test x) (words_changed test command pools h.1)
  where
    go : (b : Bool) → AreWords (change_first test (tagged command) pools) → AreWords (cond b (tagged command x ∷ pools) (x ∷ change_first test (tagged command) pools))
    go true rest = h
    go false rest = (h.0, rest)

words_push : (pools : List Pool) (x : Pool) → AreWords pools → is_word x.name ≡ true → AreWords (pools ++ x ∷ [])
unfolding AreWords
words_push [] x h word = (word, tt)
words_push (y ∷ pools) x h word = (h.0, words_push pools x h.1 word)

words_step : (state : MapState) (epoch : ℕ) (command : MapCommand) → refusal state epoch command ≡ None → AreWords state.pools → AreWords (pools_after command state.pools)
unfolding refusal
words_step state epoch (PoolCreate name pg size min) h all =
    words_push state.pools (created name pg size min) all (not_false _ (all_fail (tests state epoch (PoolCreate name pg size min)) h).0)
words_step state epoch (AppEnable pool app) h all = words_changed (is_named pool) (AppEnable pool app) state.pools all
words_step state epoch (AppSet pool app key value) h all = words_changed (is_named pool) (AppSet pool app key value) state.pools all
words_step state epoch (AppRm pool app key) h all = words_changed (is_named pool) (AppRm pool app key) state.pools all
words_step state epoch (OsdUp daemon) h all = all
words_step state epoch (OsdDown daemon) h all = all
words_step state epoch (OsdRestart daemon) h all = all

words_steps : (state : MapState) (epoch : ℕ) (commands : List MapCommand) → AcceptedFrom state epoch commands → AreWords state.pools → AreWords (fold after state commands).pools
words_steps state epoch [] accepted all = all
words_steps state epoch (c ∷ commands) accepted all = words_steps (after state c) (epoch + 1) commands accepted.1 (words_step state epoch c accepted.0 all)

found_word : (name : List ℕ) (pools : List Pool) (x : Pool) → AreWords pools → find (is_named name) pools ≡ Some x → is_word x.name ≡ true
unfolding AreWords
found_word name [] x h e = absurd (cc)
found_word name (y ∷ pools) x h e = go (is_named name y) e (found_word name pools x h.1)
  where
    go : (b : Bool) → cond b (Some y) (find (is_named name) pools) ≡ Some x → (find (is_named name) pools ≡ Some x → is_word x.name ≡ true) → is_word x.name ≡ true
    go true one rest = let same : y ≡ x = cc in ap (λ (p : Pool). is_word p.name) (sym same) ∙ h.0
    go false one rest = rest one

words_of : (h : History) → IsAccepted h → AreWords (map_of h).pools
unfolding AreWords
words_of h accepted = words_steps (initial h.daemons) 1 h.commands accepted tt

-- the name of a pool that was seen
viewed_word : (h : History) (name : List ℕ) (epoch : ℕ) (v : PoolView) → IsAccepted h → view_at h name epoch ≡ Some v → is_word name ≡ true
unfolding pool_in
viewed_word h name epoch v accepted is =
    let had : HasPool h name v.pg_num v.size v.min_size = (views_are_of_pools h name epoch v is).1 in
    ap is_word (sym had.named) ∙ found_word name (map_of h).pools had.pool (words_of h accepted) had.found

-- ---- refusals

none_at_zero : (h : History) (name : List ℕ) (epoch : ℕ) → epoch ≡ 0 → view_at h name epoch ≡ None
unfolding view_at pool_in
none_at_zero h name epoch zero = ap (λ e. view_at h name e) zero

-- no view is refused where there is one
no_view : (h : History) (name : List ℕ) (epoch : ℕ) (fault : MapFault) → IsAccepted h → epoch ≤ epoch_of h → view_refusal h name epoch ≡ Some fault → view_at h name epoch ≡ None
no_view h name epoch fault accepted past refused = go (view_at h name epoch) refl
  where
    not_past : (b : Bool) → nat_lt (epoch_of h) epoch ≡ b → b ≡ false
    not_past false e = refl
    not_past true e = absurd (later e)
      where
        later : nat_lt (epoch_of h) epoch ≡ true → ⊥
        later e = grind (arith, nat_tests)

    three : (a b c : Bool) → a ≡ true → b ≡ false → c ≡ true → first_of ((not a, map_fault.BadName) ∷ (b, map_fault.NoEpoch) ∷ (not c, map_fault.NoPool) ∷ []) ≡ None
    three true false true p q r = refl
    three false b c p q r = absurd (cc)
    three true true c p q r = absurd (cc)
    three true false false p q r = absurd (cc)

    seen : (v : PoolView) → view_at h name epoch ≡ Some v → (b : Bool) → (epoch == 0) ≡ b → ⊥
    seen v is true e = (let none : view_at h name epoch ≡ None = none_at_zero h name epoch (eqb-true epoch 0 e) in cc)
    seen v is false e = (
        let word : is_word name ≡ true = viewed_word h name epoch v accepted is in
        let late : nat_lt (epoch_of h) epoch ≡ false = not_past (nat_lt (epoch_of h) epoch) refl in
        let gone : view_refusal h name epoch ≡ None = three (is_word name) (epoch == 0 || nat_lt (epoch_of h) epoch) (is_some (view_at h name epoch)) word (ap (λ b. b || nat_lt (epoch_of h) epoch) e ∙ late) (ap is_some is) in
        cc)

    go : (o : Option PoolView) → view_at h name epoch ≡ o → view_at h name epoch ≡ None
    go None is = is
    go (Some v) is = absurd (seen v is (epoch == 0) refl)

pub view_refused : (h : History) (name : List ℕ) (epoch : ℕ) (fault : MapFault) → IsAccepted h → epoch ≤ epoch_of h → fault ≡ unwrap_or (view_refusal h name epoch) map_fault.OutOfMemory
    → (fault_of_view fault ≡ OutOfMemory) ⊎ (error_of (need (view_at h name epoch) NoPool) ≡ Some (fault_of_view fault))
view_refused h name epoch fault accepted past is = elim (first_or_memory (view_refusal h name epoch) map_fault.OutOfMemory fault is) [
  | inl memory ↦ inl (ap fault_of_view memory)
  | inr refused ↦ named fault (no_view h name epoch fault accepted past refused)
]
  where
    wanting : view_at h name epoch ≡ None → error_of (need (view_at h name epoch) NoPool) ≡ Some NoPool
    wanting none = ap (λ o. error_of (need o NoPool)) none

    named : (f : MapFault) → view_at h name epoch ≡ None → (fault_of_view f ≡ OutOfMemory) ⊎ (error_of (need (view_at h name epoch) NoPool) ≡ Some (fault_of_view f))
    named map_fault.OutOfMemory none = inl refl
    named map_fault.PoolExists none = inr (wanting none)
    named map_fault.NoPool none = inr (wanting none)
    named map_fault.NoApplication none = inr (wanting none)
    named map_fault.NoKey none = inr (wanting none)
    named map_fault.NoDaemon none = inr (wanting none)
    named map_fault.AlreadySo none = inr (wanting none)
    named map_fault.Limit none = inr (wanting none)
    named map_fault.BadName none = inr (wanting none)
    named map_fault.NoGroup none = inr (wanting none)
    named map_fault.NoEpoch none = inr (wanting none)
