-- What questions to a world print.
use Rattle.std.proofs.Common.{◌≡◌, ◌∙◌, ◌&&◌, ℕ, List, Bool, true, if◌then◌else◌, Option, Some, None, Ok, Err, refl, sym, ap, is_some, unwrap_or, []}
use Rattle.std.specs.Option.{option_map, option_or}
use Rattle.map_core.specs.State.{History}
use Rattle.map_core.specs.Map.{map_of, epoch_of, view_at}
use Rattle.map_core.specs.Intervals.{set_of}
use Rattle.map_core.specs.Refusal.{view_refusal}
use Rattle.map_core.specs.declared.pool.PoolView.{PoolView}
use Rattle.place_core.specs.Placement.{group_of}
use Rattle.store_core.specs.Request.{Sealed}
use Rattle.group_model.specs.Group.{submitted}
use Rattle.world_events.specs.declared.fault.WorldFault.{WorldFault as Fault}
use Rattle.world_events.specs.declared.fault.WorldFault.TheVariants.{NoRequest, BadObjectName, Map as OfMap}
use Rattle.world_front.specs.ControlPlane.{ControlPlane, is_object_name, is_namespace}
use Rattle.world_core.specs.World.{World}
use Rattle.world_core.specs.Answers.{answer_at}
use Rattle.world_core.specs.Calls.{answer_refusal}
use Rattle.world_script.specs.Script.{answer_found, answer_in, located, locate_text, name_refusal}
use Rattle.script_printing.specs.Text.{or_refused, located_text}
use Rattle.world_core.proofs.Answering.{asked_for}

-- ---- where an object is

abbrev name_test : Bool → Option Fault
name_test named = if named then None else Some BadObjectName

passed : (front : ControlPlane) (pool namespace object : List ℕ) → view_refusal front.history pool (epoch_of front.history) ≡ None
    → locate_text front pool namespace object ≡ or_refused (name_refusal namespace object) (located front pool namespace object (view_at front.history pool (epoch_of front.history)))
passed front pool namespace object none =
    ap (λ o. or_refused (option_or (option_map OfMap o) (name_refusal namespace object)) (located front pool namespace object (view_at front.history pool (epoch_of front.history)))) none

pub located_here : (front : ControlPlane) (pool namespace object : List ℕ) (view : PoolView) (set : Option (List ℕ)) → view_refusal front.history pool (epoch_of front.history) ≡ None
    → (is_object_name object && is_namespace namespace) ≡ true → view_at front.history pool (epoch_of front.history) ≡ Some view
    → set_of (map_of front.history) pool (group_of namespace object view.pg_num) ≡ set
    → located_text (group_of namespace object view.pg_num) (unwrap_or set []) ≡ locate_text front pool namespace object
located_here front pool namespace object view set none named seen is =
    ap (λ o. located_text (group_of namespace object view.pg_num) (unwrap_or o [])) (sym is)
    ∙ sym (passed front pool namespace object none
    ∙ ap (λ b. or_refused (name_test b) (located front pool namespace object (view_at front.history pool (epoch_of front.history)))) named
    ∙ ap (located front pool namespace object) seen)

-- the same by the map, the epoch and the names that the program asked
pub located_by : (front : ControlPlane) (pool namespace object : List ℕ) (history : History) (epoch : ℕ) (view : PoolView) (group : ℕ) (namespace' object' : List ℕ) (set : Option (List ℕ))
    → history ≡ front.history → epoch ≡ epoch_of history → view_refusal history pool epoch ≡ None
    → (is_object_name object && is_namespace namespace) ≡ true → view_at history pool epoch ≡ Some view
    → group ≡ group_of namespace' object' view.pg_num → namespace' ≡ namespace → object' ≡ object → set ≡ set_of (map_of history) pool group
    → located_text group (unwrap_or set []) ≡ locate_text front pool namespace object
located_by front pool namespace object history epoch view group namespace' object' set same at none named seen is spaced called members =
    let now : epoch ≡ epoch_of front.history = at ∙ ap epoch_of same in
    let none_now : view_refusal front.history pool (epoch_of front.history) ≡ None = sym (ap (λ h. view_refusal h pool epoch) same ∙ ap (view_refusal front.history pool) now) ∙ none in
    let seen_now : view_at front.history pool (epoch_of front.history) ≡ Some view = sym (ap (λ h. view_at h pool epoch) same ∙ ap (view_at front.history pool) now) ∙ seen in
    let here : group ≡ group_of namespace object view.pg_num = is ∙ ap (λ n. group_of n object' view.pg_num) spaced ∙ ap (λ o. group_of namespace o view.pg_num) called in
    let members_now : set_of (map_of front.history) pool (group_of namespace object view.pg_num) ≡ set =
    sym (members ∙ ap (λ h. set_of (map_of h) pool group) same ∙ ap (set_of (map_of front.history) pool) here) in
    ap (λ g. located_text g (unwrap_or set [])) here ∙ located_here front pool namespace object view set none_now named seen_now members_now

-- ---- answers

abbrev answer_test : Bool → Option Fault
answer_test asked = if asked then None else Some NoRequest

pub answered : (w : World) (id : ℕ) → answer_refusal w id ≡ None → answer_in w.front (answer_at w) id ≡ Ok (answer_at w id)
answered w id none = go (submitted w.front.submissions id) (sym (ap answer_test (asked_for w.front.submissions id)) ∙ none)
  where
    go : (found : Option Sealed) → answer_test (is_some found) ≡ None → answer_found found (answer_at w id) ≡ Ok (answer_at w id)
    go None none = absurd (cc)
    go (Some s) none = refl

pub unasked : (w : World) (id : ℕ) (fault : Fault) → answer_refusal w id ≡ Some fault → answer_in w.front (answer_at w) id ≡ Err fault
unasked w id fault is = go (submitted w.front.submissions id) (sym (ap answer_test (asked_for w.front.submissions id)) ∙ is)
  where
    go : (found : Option Sealed) → answer_test (is_some found) ≡ Some fault → answer_found found (answer_at w id) ≡ Err fault
    go None is = let same : NoRequest ≡ fault = cc in ap Err same
    go (Some s) is = absurd (cc)
