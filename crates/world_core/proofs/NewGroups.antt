-- The groups that a pool's creation makes.
use Prim.Native.Nat.{zero, suc}
use Rattle.std.proofs.Common.{◌≡◌, ◌∙◌, ℕ, ◌+◌, ◌≤◌, ◌||◌, List, [], ◌∷◌, ◌++◌, true, not, None, map, length, sym, ap, arith}
use Rattle.std.specs.Prelude.{nat_le}
use Rattle.std.specs.List.{range_with_len}
use Rattle.std.proofs.lemmas.Bool.Decides.{nat_tests}
use Rattle.std.proofs.lemmas.List.{map-append}
use Rattle.map_core.specs.State.{MapState, History}
use Rattle.map_core.specs.Map.{initial, after, map_of}
use Rattle.map_core.specs.Refusal.{refusal, tests, in_limits, is_last}
use Rattle.map_core.specs.declared.command.MapCommand.{MapCommand}
use Rattle.map_core.specs.declared.command.MapCommand.TheVariants.{PoolCreate}
use Rattle.map_core.proofs.Acceptance.{all_fail, or_left, not_false}
use Rattle.map_core.proofs.Current.{daemons_stay}
use Rattle.store_core.specs.declared.sealed.GroupId.{GroupId}
use Rattle.group_model.specs.Group.{start}
use Rattle.world_core.specs.World.{begun_group, members_of}
use Rattle.place_core.specs.Placement.{numbers_of}
use Rattle.world_front.proofs.Places.{numbered}

range_push : (a n : ℕ) → range_with_len a (suc n) ≡ range_with_len a n ++ (a + n) ∷ []
range_push a zero = let e : a ≡ a + 0 = omega arith in ap (λ x. x ∷ []) e
range_push a (suc n) =
    let e : a + 1 + n ≡ a + suc n = omega arith in
    ap (λ l. a ∷ l) (range_push (a + 1) n ∙ ap (λ x. range_with_len (a + 1) n ++ x ∷ []) e)

one_more : (n : ℕ) → range_with_len 0 (n + 1) ≡ range_with_len 0 n ++ n ∷ []
one_more n =
    let e : n + 1 ≡ suc n = omega arith in
    let z : 0 + n ≡ n = omega arith in
    ap (range_with_len 0) e ∙ range_push 0 n ∙ ap (λ m. range_with_len 0 n ++ m ∷ []) z

-- one group more, by its number
pub one_made : (state : MapState) (min_size : ℕ) (pool : List ℕ) (n : ℕ)
    → map (begun_group state min_size) (map (numbered pool) (range_with_len 0 (n + 1))) ≡ map (begun_group state min_size) (map (numbered pool) (range_with_len 0 n)) ++ begun_group state min_size (numbered pool n) ∷ []
one_made state min_size pool n =
    ap (λ l. map (begun_group state min_size) (map (numbered pool) l)) (one_more n)
    ∙ ap (map (begun_group state min_size)) (map-append (numbered pool) (range_with_len 0 n) (n ∷ []))
    ∙ map-append (begun_group state min_size) (map (numbered pool) (range_with_len 0 n)) (numbered pool n ∷ [])

-- a new pool's groups need one daemon at least
pub least_needed : (state : MapState) (epoch : ℕ) (name : List ℕ) (pg_num size min_size : ℕ) → refusal state epoch (PoolCreate name pg_num size min_size) ≡ None → 1 ≤ min_size
unfolding refusal in_limits
least_needed state epoch name pg_num size min_size h =
    let fails = all_fail (tests state epoch (PoolCreate name pg_num size min_size)) h in
    let fits : in_limits pg_num size min_size ≡ true =
    not_false (in_limits pg_num size min_size) (or_left (not (in_limits pg_num size min_size)) (nat_le 32 (length state.pools)) (or_left (not (in_limits pg_num size min_size) || nat_le 32 (length state.pools)) (is_last epoch) fails.1.1.0)) in
    least pg_num size min_size fits
  where
    least : (p s m : ℕ) → in_limits p s m ≡ true → 1 ≤ m
    least p s m k = grind (arith, nat_tests)

-- a group in its first interval, from what the map says after a command
pub begun_is : (h : History) (c : MapCommand) (min_size daemons : ℕ) (id : GroupId) (acting up : List ℕ) → daemons ≡ h.daemons → acting ≡ members_of (after (map_of h) c) id → up ≡ numbers_of (after (map_of h) c).up
    → start id min_size daemons acting up ≡ begun_group (after (map_of h) c) min_size id
begun_is h c min_size daemons id acting up count set numbers =
    ap (λ k. start id min_size k acting up) (count ∙ sym (daemons_stay (initial h.daemons) h.commands))
    ∙ ap (λ s. start id min_size (map_of h).daemons s up) set
    ∙ ap (λ u. start id min_size (map_of h).daemons (members_of (after (map_of h) c) id) u) numbers
