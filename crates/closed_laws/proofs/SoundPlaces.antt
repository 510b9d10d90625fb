-- A group of a sound world is found by its place.
use Rattle.std.proofs.Common.{◌≡◌, ◌∙◌, ℕ, ◌<◌, true, false, Option, Some, None, is_some, refl, sym, ap, arith}
use Rattle.std.specs.Prelude.{nat_le}
use Rattle.std.specs.List.{find}
use Rattle.std.specs.Option.{option_map, option_map_or}
use Rattle.std.proofs.lemmas.Bool.Decides.{nat_tests}
use Rattle.map_core.specs.Map.{is_named, map_of, pool_in}
use Rattle.map_core.specs.Refusal.{acting_tests, first_of, groups_in}
use Rattle.map_core.specs.Limits.{IsAccepted}
use Rattle.map_core.specs.declared.pool.Pool.{Pool}
use Rattle.map_core.proofs.Acceptance.{all_fail, not_false}
use Rattle.store_core.specs.declared.sealed.GroupId.{GroupId}
use Rattle.world_events.specs.declared.fault.WorldFault.TheVariants.{Map as OfMap}
use Rattle.world_front.specs.ControlPlane.{ControlPlane, group_refusal}
use Rattle.world_core.specs.World.{World}
use Rattle.world_core.specs.Sound.{IsSound}
use Rattle.world_core.proofs.Limits.{wrapped_none}
use Rattle.world_core.proofs.PlacesNamed.{place_there}
use Rattle.world_laws.specs.Places.{IsPlace, IsFoundByPlace}
use Rattle.world_laws.proofs.PlaceGroups.{at_place, of_place}

-- what the front says of a name and a number

above : (a b : ℕ) → nat_le a b ≡ false → b < a
above a b h = grind (arith, nat_tests)

some_found : (o : Option Pool) → is_some o ≡ true → (p : Pool) × (o ≡ Some p)
some_found None h = absurd (cc)
some_found (Some p) h = (p, refl)

named_place : (f : ControlPlane) (id : GroupId) → group_refusal f id ≡ None → IsPlace f.history id
unfolding pool_in groups_in
named_place f id h =
    let fails = all_fail (acting_tests (map_of f.history).pools id.pool id.number) (wrapped_none OfMap (first_of (acting_tests (map_of f.history).pools id.pool id.number)) h) in
    let found = some_found (find (is_named id.pool) (map_of f.history).pools) (not_false (is_some (find (is_named id.pool) (map_of f.history).pools)) fails.1.0) in
    record {
      pool = found.0;
      found = found.1;
      number = above found.0.pg_num id.number (sym (ap (λ o. nat_le (option_map_or (λ (p : Pool). p.pg_num) o 0) id.number) found.1) ∙ fails.1.1.0);
    }

place_named : (f : ControlPlane) (id : GroupId) → IsAccepted f.history → IsPlace f.history id → group_refusal f id ≡ None
place_named f id accepted p = ap (option_map OfMap) (place_there f.history id p.pool accepted p.found p.number)

pub found_by_place : (w : World) (id : GroupId) → IsSound w → IsFoundByPlace w id
found_by_place w id sound = record {
  at_place = at_place w id sound.kept.front sound.places;
  of_place = λ g there. of_place w.front id g (sound.kept.groups id g there);
  named = λ none. at_place w id sound.kept.front sound.places (named_place w.front id none);
  unrefused = λ g there. place_named w.front id sound.kept.front.accepted (of_place w.front id g (sound.kept.groups id g there));
}
