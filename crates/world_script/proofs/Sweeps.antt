-- Message 0 of a group delivered or lost again and again.
use Prim.Native.Nat.{zero, suc}
use Rattle.std.proofs.Common.{◌≡◌, ◌∙◌, ◌⊎◌, inl, inr, ℕ, ◌+◌, ◌<◌, ◌≤◌, List, [], ◌∷◌, ◌++◌, Bool, true, false, if◌then◌else◌, Option, Some, None, length, refl, sym, ap, subst, arith, fold, append-nil, append_assoc, slice_get, get_or, drop, drop-cons}
use Rattle.std.specs.Prelude.{nat_lt}
use Rattle.std.specs.Option.{option_map, option_or}
use Rattle.std.proofs.lemmas.List.Sums.{fold-append}
use Rattle.store_core.specs.declared.sealed.GroupId.{GroupId}
use Rattle.group_model.specs.Types.{Sent, Party, Osd, Client}
use Rattle.group_model.specs.Group.{Group, group_step, refusal_to, refusal_at}
use Rattle.group_model.specs.Group as group
use Rattle.entry_core.specs.Log.{is_in}
use Rattle.group_model.specs.Budget.{budget}
use Rattle.group_messages.specs.declared.fault.GroupFault.TheVariants.{Unreachable}
use Rattle.group_model.specs.Reached.{IsReached}
use Rattle.group_model.proofs.Lowering.{deliver_lowers, lose_lowers}
use Rattle.world_events.specs.declared.event.Event.{Event}
use Rattle.world_events.specs.declared.fault.WorldFault.{WorldFault as Fault}
use Rattle.world_events.specs.declared.fault.WorldFault.TheVariants.{OutOfMemory, Group as OfGroup}
use Rattle.world_front.specs.ControlPlane.{group_refusal}
use Rattle.world_core.specs.World.{World, group_at, at_group, world_step, refusal_of, refused_in, is_drop}
use Rattle.world_core.specs.Calls.{KeepsPromises}
use Rattle.world_script.specs.Script.{budget_in, has_messages, events_while, emptied_within, emptied, one_if_none, unrefused, on_each}
use Rattle.world_script.specs.Sweeping.{event_at}
use Rattle.world_script.specs.declared.groups.Sweep.{Sweep}
use Rattle.world_script.specs.declared.groups.Sweep.TheVariants.{Deliver, Lose}
use Rattle.world_core.proofs.Acting.{group_at_self}
use Rattle.world_core.proofs.Standing.{step_is}

-- ---- one event

abbrev group_event : Sweep → group.Event
group_event Deliver = group.Deliver 0
group_event Lose = group.Lose 0

no_message : true ≡ false → ⊥
no_message e = cc

-- the groups after the event
after_groups : (w : World) (sweep : Sweep) (id : GroupId) → (world_step w (event_at sweep id 0)).groups ≡ at_group id (λ g. group_step g (group_event sweep)) w.groups
after_groups w Deliver id = append-nil _
after_groups w Lose id = append-nil _

after_group : (w : World) (sweep : Sweep) (id : GroupId) (g : Group) → group_at id w.groups ≡ Some g
    → group_at id (world_step w (event_at sweep id 0)).groups ≡ Some (group_step g (group_event sweep))
after_group w sweep id g found =
    ap (group_at id) (after_groups w sweep id)
    ∙ group_at_self id (λ v. group_step v (group_event sweep)) (λ v. step_is v.group (group_event sweep) v refl) w.groups
    ∙ ap (option_map (λ v. group_step v (group_event sweep))) found

-- the message that is there
first_message : (ms : List Sent) → nat_lt 0 (length ms) ≡ true → (m : Sent) × (slice_get ms 0 ≡ Some m)
first_message [] some = absurd (no_message (sym some))
first_message (m ∷ ms) some = (m, refl)

lowers : (sweep : Sweep) (g : Group) (m : Sent) → slice_get g.wire 0 ≡ Some m
    → ((k : ℕ) (m : Sent) → slice_get g.wire k ≡ Some m → budget (group_step g (group.Deliver k)) + 1 ≤ budget g)
    → ((k : ℕ) (m : Sent) → slice_get g.wire k ≡ Some m → budget (group_step g (group.Lose k)) + 1 ≤ budget g)
    → budget (group_step g (group_event sweep)) + 1 ≤ budget g
lowers Deliver g m is delivers loses = delivers 0 m is
lowers Lose g m is delivers loses = loses 0 m is

pub sweep_lowers : (w : World) (sweep : Sweep) (id : GroupId) → KeepsPromises w → has_messages (group_at id w.groups) ≡ true
    → budget_in (group_at id (world_step w (event_at sweep id 0)).groups) < budget_in (group_at id w.groups)
sweep_lowers w sweep id keeps some = go (group_at id w.groups) refl some
  where
    go : (found : Option Group) → group_at id w.groups ≡ found → has_messages found ≡ true → budget_in (group_at id (world_step w (event_at sweep id 0)).groups) < budget_in (group_at id w.groups)
    go None is some = absurd (no_message (sym some))
    go (Some g) is some =
        let m = first_message g.wire some in
        let ok : IsReached g = (keeps.groups id g is).served.within.reached in
        let low : budget (group_step g (group_event sweep)) + 1 ≤ budget g =
        lowers sweep g m.0 m.1 (deliver_lowers g ok) (lose_lowers g ok) in
        let here : budget_in (group_at id w.groups) ≡ budget g = ap budget_in is in
        let there : budget_in (group_at id (world_step w (event_at sweep id 0)).groups) ≡ budget (group_step g (group_event sweep)) = ap budget_in (after_group w sweep id g is) in
        omega (arith, low, here, there)

-- what refuses it

to_party : (id : GroupId) (g : Group) (party : Party) (fault : Fault) → option_map OfGroup (option_or (refusal_to g party) None) ≡ Some fault → is_drop (event_at Deliver id 0) fault ≡ true
to_party id g Client fault is = absurd (cc)
to_party id g (Osd d) fault is = go (is_in g.up d) is
  where
    go : (up : Bool) → option_map OfGroup (option_or (if up then None else Some Unreachable) None) ≡ Some fault → is_drop (event_at Deliver id 0) fault ≡ true
    go true is = absurd (cc)
    go false is = let same : fault ≡ OfGroup Unreachable = cc in ap (is_drop (event_at Deliver id 0)) same

at_message : (id : GroupId) (sweep : Sweep) (g : Group) (m : Sent) (fault : Fault) → slice_get g.wire 0 ≡ Some m
    → option_map OfGroup (option_or (group.refusal_of g (group_event sweep)) None) ≡ Some fault → is_drop (event_at sweep id 0) fault ≡ true
at_message id Deliver g m fault found is = to_party id g m.to fault (sym (ap (λ o. option_map OfGroup (option_or (refusal_at g 0 o) None)) found) ∙ is)
at_message id Lose g m fault found is = absurd (let none : None ≡ Some fault = sym (ap (λ o. option_map OfGroup (option_or (group.missing_at 0 o) None)) found) ∙ is in cc)

abbrev refusal_here : World → Sweep → GroupId → Option Group → Option Fault
refusal_here w sweep id found = option_or (group_refusal w.front id) (option_map OfGroup (option_or (refused_in found (group_event sweep)) None))

refused_here : (w : World) (sweep : Sweep) (id : GroupId) → refusal_of w (event_at sweep id 0) ≡ refusal_here w sweep id (group_at id w.groups)
refused_here w Deliver id = refl
refused_here w Lose id = refl

pub sweep_refused : (w : World) (sweep : Sweep) (id : GroupId) (fault : Fault) → group_refusal w.front id ≡ None → has_messages (group_at id w.groups) ≡ true
    → refusal_of w (event_at sweep id 0) ≡ Some fault → is_drop (event_at sweep id 0) fault ≡ true
sweep_refused w sweep id fault there some is = go (group_at id w.groups) some (sym (ap (λ o. option_or o (option_map OfGroup (option_or (refused_in (group_at id w.groups) (group_event sweep)) None))) there) ∙ sym (refused_here w sweep id) ∙ is)
  where
    go : (found : Option Group) → has_messages found ≡ true → option_map OfGroup (option_or (refused_in found (group_event sweep)) None) ≡ Some fault → is_drop (event_at sweep id 0) fault ≡ true
    go None some is = absurd (no_message (sym some))
    go (Some g) some is = let m = first_message g.wire some in at_message id sweep g m.0 fault m.1 is

-- ---- until none is left

pub record IsSwept (sweep : Sweep) (id : GroupId) (before now : World) (count : ℕ) : Type 0 where
  pub there : group_refusal now.front id ≡ None
  pub done : List Event
  pub most : ℕ
  pub enough : budget_in (group_at id now.groups) ≤ most
  pub same : emptied (event_at sweep) id before ≡ done ++ emptied_within (event_at sweep) id most now
  pub is : now ≡ fold world_step before done
  pub counted : count ≡ unrefused before done

pub begun : (sweep : Sweep) (id : GroupId) (w : World) → group_refusal w.front id ≡ None → IsSwept sweep id w w 0
begun sweep id w there = record { there = there; done = []; most = budget_in (group_at id w.groups); enough = omega arith; same = refl; is = refl; counted = refl }

none_within : (sweep : Sweep) (id : GroupId) (most : ℕ) (w : World) → has_messages (group_at id w.groups) ≡ false → emptied_within (event_at sweep) id most w ≡ []
none_within sweep id zero w none = refl
none_within sweep id (suc most) w none = ap (λ b. events_while b (event_at sweep id 0) w (emptied_within (event_at sweep) id most)) none

-- all was done
all_done : (sweep : Sweep) (id : GroupId) (before now : World) (count : ℕ) (h : IsSwept sweep id before now count) → has_messages (group_at id now.groups) ≡ false → h.done ≡ emptied (event_at sweep) id before
all_done sweep id before now count h none = sym (h.same ∙ ap (λ more. h.done ++ more) (none_within sweep id h.most now none) ∙ append-nil h.done)

pub swept_count : (sweep : Sweep) (id : GroupId) (before now : World) (count : ℕ) → IsSwept sweep id before now count → has_messages (group_at id now.groups) ≡ false
    → count ≡ unrefused before (emptied (event_at sweep) id before)
swept_count sweep id before now count h none = h.counted ∙ ap (unrefused before) (all_done sweep id before now count h none)

pub unrefused-append : (w : World) (es more : List Event) → unrefused w (es ++ more) ≡ unrefused w es + unrefused (fold world_step w es) more
unrefused-append w [] more = omega arith
unrefused-append w (e ∷ es) more = omega (arith, unrefused-append (world_step w e) es more)

still_there : (w : World) (sweep : Sweep) (id : GroupId) → group_refusal w.front id ≡ None → group_refusal (world_step w (event_at sweep id 0)).front id ≡ None
still_there w Deliver id h = h
still_there w Lose id h = h

pub swept_on : (sweep : Sweep) (id : GroupId) (before now next : World) (count one : ℕ) → IsSwept sweep id before now count → has_messages (group_at id now.groups) ≡ true
    → next ≡ world_step now (event_at sweep id 0) → budget_in (group_at id next.groups) < budget_in (group_at id now.groups)
    → one_if_none (refusal_of now (event_at sweep id 0)) ≡ one → IsSwept sweep id before next (count + one)
swept_on sweep id before now next count one h some steps low told = go h.most h.enough h.same
  where
    go : (most : ℕ) → budget_in (group_at id now.groups) ≤ most → emptied (event_at sweep) id before ≡ h.done ++ emptied_within (event_at sweep) id most now → IsSwept sweep id before next (count + one)
    go zero enough same = absurd (omega arith)
    go (suc most) enough same = record {
      there = subst (λ v. group_refusal v.front id ≡ None) (sym steps) (still_there now sweep id h.there);
      done = h.done ++ event_at sweep id 0 ∷ [];
      most = most;
      enough = omega arith;
      same =
          same
          ∙ ap (λ b. h.done ++ events_while b (event_at sweep id 0) now (emptied_within (event_at sweep) id most)) some
          ∙ ap (λ v. h.done ++ (event_at sweep id 0 ∷ emptied_within (event_at sweep) id most v)) (sym steps)
          ∙ sym (append_assoc h.done (event_at sweep id 0 ∷ []) (emptied_within (event_at sweep) id most next));
      is = steps ∙ ap (λ v. world_step v (event_at sweep id 0)) h.is ∙ sym (fold-append world_step before h.done (event_at sweep id 0 ∷ []));
      counted =
          let now_told : one_if_none (refusal_of (fold world_step before h.done) (event_at sweep id 0)) ≡ one = subst (λ v. one_if_none (refusal_of v (event_at sweep id 0)) ≡ one) h.is told in
          let parts : unrefused before (h.done ++ event_at sweep id 0 ∷ []) ≡ unrefused before h.done + (one_if_none (refusal_of (fold world_step before h.done) (event_at sweep id 0)) + 0) = unrefused-append before h.done (event_at sweep id 0 ∷ []) in
          omega (arith, now_told, parts, h.counted);
    }

-- what refused it, where that was not out of memory
pub not_memory : (fault : Fault) (refusal : Option Fault) → (fault ≡ OutOfMemory → ⊥) → (fault ≡ OutOfMemory) ⊎ (refusal ≡ Some fault) → refusal ≡ Some fault
not_memory fault refusal other (inl memory) = absurd (other memory)
not_memory fault refusal other (inr is) = is

-- ---- every group in turn

pub record IsOnEach (events : GroupId → World → List Event) (ids : List GroupId) (index : ℕ) (before now : World) (count : ℕ) : Type 0 where
  pub done : List Event
  pub same : on_each events ids before ≡ done ++ on_each events (drop index ids) now
  pub is : now ≡ fold world_step before done
  pub counted : count ≡ unrefused before done

pub each_on : (events : GroupId → World → List Event) (ids : List GroupId) (index : ℕ) (before now next : World) (count more : ℕ) (id d : GroupId) → IsOnEach events ids index before now count
    → index < length ids → id ≡ get_or ids index d → next ≡ fold world_step now (events id now) → more ≡ unrefused now (events id now) → IsOnEach events ids (index + 1) before next (count + more)
each_on events ids index before now next count more id d h low here steps told =
    let next_index : suc index ≡ index + 1 = omega arith in
    let cut : drop index ids ≡ id ∷ drop (index + 1) ids = drop-cons ids index d low ∙ ap (λ x. x ∷ drop (suc index) ids) (sym here) ∙ ap (λ k. id ∷ drop k ids) next_index in
    record {
      done = h.done ++ events id now;
      same =
          h.same ∙ ap (λ l. h.done ++ on_each events l now) cut ∙ ap (λ v. h.done ++ (events id now ++ on_each events (drop (index + 1) ids) v)) (sym steps)
          ∙ sym (append_assoc h.done (events id now) (on_each events (drop (index + 1) ids) next));
      is = steps ∙ ap (λ v. fold world_step v (events id now)) h.is ∙ sym (fold-append world_step before h.done (events id now));
      counted =
          let now_told : more ≡ unrefused (fold world_step before h.done) (events id now) = subst (λ v. more ≡ unrefused v (events id now)) h.is told in
          let parts = unrefused-append before h.done (events id now) in
          omega (arith, now_told, parts, h.counted);
    }

-- the events of a sweep leave the map
pub swept_history : (sweep : Sweep) (id : GroupId) (most : ℕ) (w : World) → (fold world_step w (emptied_within (event_at sweep) id most w)).front.history ≡ w.front.history
swept_history sweep id zero w = refl
swept_history sweep id (suc most) w = go (has_messages (group_at id w.groups)) (swept_history sweep id most (world_step w (event_at sweep id 0)))
  where
    one : (sweep : Sweep) → (world_step w (event_at sweep id 0)).front.history ≡ w.front.history
    one Deliver = refl
    one Lose = refl

    go : (b : Bool) → (fold world_step (world_step w (event_at sweep id 0)) (emptied_within (event_at sweep) id most (world_step w (event_at sweep id 0)))).front.history ≡ (world_step w (event_at sweep id 0)).front.history
        → (fold world_step w (events_while b (event_at sweep id 0) w (emptied_within (event_at sweep) id most))).front.history ≡ w.front.history
    go true rest = rest ∙ one sweep
    go false rest = refl
