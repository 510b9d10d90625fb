-- The map refuses none of its places.
use Rattle.std.proofs.Common.{◌≡◌, ◌∙◌, ℕ, ◌+◌, ◌<◌, ◌≤◌, List, ◌∷◌, Bool, true, false, not, cond, if◌then◌else◌, Option, Some, None, is_some, fold, refl, sym, ap, arith, []}
use Rattle.std.specs.Prelude.{nat_le}
use Rattle.std.specs.List.{find}
use Rattle.std.specs.Option.{option_map_or}
use Rattle.std.proofs.lemmas.Bool.Decides.{nat_tests}
use Rattle.map_core.specs.State.{MapState, History}
use Rattle.map_core.specs.Map.{change_first, is_named, tagged, created, after, initial, map_of, pool_in}
use Rattle.map_core.specs.Refusal.{refusal, tests, acting_refusal, acting_tests, first_of, groups_in, is_word}
use Rattle.map_core.specs.Limits.{AcceptedFrom, IsAccepted}
use Rattle.map_core.specs.declared.fault.MapFault.TheVariants as fault
use Rattle.map_core.specs.declared.pool.Pool.{Pool}
use Rattle.map_core.specs.declared.command.MapCommand.{MapCommand}
use Rattle.map_core.specs.declared.command.MapCommand.TheVariants.{PoolCreate, AppEnable, AppSet, AppRm, OsdUp, OsdDown, OsdRestart}
use Rattle.map_core.proofs.Acceptance.{all_fail, not_false}
use Rattle.store_core.specs.declared.sealed.GroupId.{GroupId}
use Rattle.group_model_whole.specs.Each.{Each}
use Rattle.world_front.proofs.Bytes.{bytes_same}
use Rattle.world_core.proofs.Acting.{each_join}

not_above : (a b : ℕ) → b < a → nat_le a b ≡ false
not_above a b h = go (nat_le a b) refl
  where
    go : (t : Bool) → nat_le a b ≡ t → t ≡ false
    go false e = refl
    go true e = absurd (let less : a ≤ b = grind (arith, nat_tests) in omega arith)

-- each pool has a name that a pool can have
abbrev AreNamed : List Pool → Type 0
AreNamed pools = Each (λ (p : Pool). is_word p.name ≡ true) pools

tagged_named : (test : Pool → Bool) (c : MapCommand) (pools : List Pool) → AreNamed pools → AreNamed (change_first test (tagged c) pools)
tagged_named test c [] all = tt
tagged_named test c (p ∷ ps) all = go (test p) (tagged_named test c ps all.1)
  where
    go : (b : Bool) → AreNamed (change_first test (tagged c) ps) → AreNamed (if b then tagged c p ∷ ps else p ∷ change_first test (tagged c) ps)
    go true rest = (all.0, all.1)
    go false rest = (all.0, rest)

names_after : (state : MapState) (epoch : ℕ) (c : MapCommand) → refusal state epoch c ≡ None → AreNamed state.pools → AreNamed (after state c).pools
unfolding refusal
names_after state epoch (PoolCreate name pg_num size min_size) h all =
    each_join (λ (p : Pool). is_word p.name ≡ true) state.pools (created name pg_num size min_size ∷ []) all
    (not_false (is_word name) (all_fail (tests state epoch (PoolCreate name pg_num size min_size)) h).0, tt)
names_after state epoch (AppEnable pool app) h all = tagged_named (is_named pool) (AppEnable pool app) state.pools all
names_after state epoch (AppSet pool app key value) h all = tagged_named (is_named pool) (AppSet pool app key value) state.pools all
names_after state epoch (AppRm pool app key) h all = tagged_named (is_named pool) (AppRm pool app key) state.pools all
names_after state epoch (OsdUp d) h all = all
names_after state epoch (OsdDown d) h all = all
names_after state epoch (OsdRestart d) h all = all

names_through : (cs : List MapCommand) (state : MapState) (epoch : ℕ) → AcceptedFrom state epoch cs → AreNamed state.pools → AreNamed (fold after state cs).pools
names_through [] state epoch accepted all = all
names_through (c ∷ cs) state epoch accepted all = names_through cs (after state c) (epoch + 1) accepted.1 (names_after state epoch c accepted.0 all)

found_named : (test : Pool → Bool) (pools : List Pool) (p : Pool) → AreNamed pools → find test pools ≡ Some p → is_word p.name ≡ true
found_named test [] p all h = absurd (cc)
found_named test (q ∷ qs) p all h = go (test q) h (λ k. found_named test qs p all.1 k)
  where
    go : (b : Bool) → cond b (Some q) (find test qs) ≡ Some p → (find test qs ≡ Some p → is_word p.name ≡ true) → is_word p.name ≡ true
    go true k rest = let same : q ≡ p = cc in ap (λ (r : Pool). is_word r.name) (sym same) ∙ all.0
    go false k rest = rest k

named_so : (name : List ℕ) (pools : List Pool) (p : Pool) → find (is_named name) pools ≡ Some p → p.name ≡ name
named_so name [] p h = absurd (cc)
named_so name (q ∷ qs) p h = go (is_named name q) refl h (λ k. named_so name qs p k)
  where
    go : (b : Bool) → is_named name q ≡ b → cond b (Some q) (find (is_named name) qs) ≡ Some p → (find (is_named name) qs ≡ Some p → p.name ≡ name) → p.name ≡ name
    go true e k rest = let same : q ≡ p = cc in ap (λ (r : Pool). r.name) (sym same) ∙ bytes_same q.name name e
    go false e k rest = rest k

-- the map refuses none of its places
pub place_there : (h : History) (id : GroupId) (p : Pool) → IsAccepted h → find (is_named id.pool) (map_of h).pools ≡ Some p → id.number < p.pg_num → acting_refusal h id.pool id.number ≡ None
unfolding pool_in groups_in
place_there h id p accepted found less =
    by (not (is_word id.pool)) (not (is_some (find (is_named id.pool) (map_of h).pools)))
    (nat_le (option_map_or (λ (q : Pool). q.pg_num) (find (is_named id.pool) (map_of h).pools) 0) id.number)
    (ap not word)
    (ap (λ o. not (is_some o)) found)
    (ap (λ o. nat_le (option_map_or (λ (q : Pool). q.pg_num) o 0) id.number) found ∙ not_above p.pg_num id.number less)
  where
    word : is_word id.pool ≡ true
    word =
        ap is_word (sym (named_so id.pool (map_of h).pools p found))
        ∙ found_named (is_named id.pool) (map_of h).pools p (names_through h.commands (initial h.daemons) 1 accepted tt) found

    by : (a b c : Bool) → a ≡ false → b ≡ false → c ≡ false → first_of ((a, fault.BadName) ∷ (b, fault.NoPool) ∷ (c, fault.NoGroup) ∷ []) ≡ None
    by false false false x y z = refl
    by true b c x y z = absurd (cc)
    by false true c x y z = absurd (cc)
    by false false true x y z = absurd (cc)

-- a number below those of its pool is that of a group, and no other number is
pub some_there : (h : History) (id : GroupId) → IsAccepted h → id.number < groups_in (map_of h).pools id.pool → acting_refusal h id.pool id.number ≡ None
unfolding pool_in groups_in
some_there h id accepted less = go (find (is_named id.pool) (map_of h).pools) refl less
  where
    go : (o : Option Pool) → find (is_named id.pool) (map_of h).pools ≡ o → id.number < option_map_or (λ (p : Pool). p.pg_num) o 0 → acting_refusal h id.pool id.number ≡ None
    go None e low = absurd (omega arith)
    go (Some p) e low = place_there h id p accepted e low

pub none_missing : (h : History) (id : GroupId) → groups_in (map_of h).pools id.pool ≤ id.number → acting_refusal h id.pool id.number ≡ None → ⊥
none_missing h id most none =
    let fails = all_fail (acting_tests (map_of h).pools id.pool id.number) none in
    let low : nat_le (groups_in (map_of h).pools id.pool) id.number ≡ false = fails.1.1.0 in
    grind (arith, nat_tests)
