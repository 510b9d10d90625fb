-- What a vector and a list are to the world: requests that the groups take, all or none.
use Rattle.std.proofs.Common.{◌≡◌, ◌∙◌, ◌⊎◌, inl, inr, ℕ, ◌<◌, ◌≤◌, ◌||◌, List, [], ◌∷◌, ◌++◌, Bool, true, false, not, if◌then◌else◌, Some, None, Result, Ok, Err, length, refl, sym, ap, subst, arith, append-nil}
use Rattle.std.specs.Prelude.{nat_le, nat_lt, slice_set}
use Rattle.std.specs.List.{flat_map, list_any}
use Rattle.std.specs.Option.{option_map, option_map_or, option_or}
use Rattle.std.proofs.lemmas.Bool.Decides.{nat_tests}
use Rattle.object_core.specs.declared.op.Op.{Op}
use Rattle.map_core.specs.State.{History}
use Rattle.map_core.specs.Map.{map_of}
use Rattle.map_core.specs.declared.pool.Pool.{Pool}
use Rattle.entry_core.specs.Locality.{group_for}
use Rattle.store_core.specs.Request.{Sealed}
use Rattle.group_model_whole.specs.Each.{Each}
use Rattle.group_model.specs.Group.{Group, Submit, group_step, has_all_requests}
use Rattle.group_messages.specs.declared.fault.GroupFault.TheVariants as group_fault
use Rattle.world_events.specs.declared.event.Ask.{Ask}
use Rattle.world_events.specs.declared.event.Event.{Event}
use Rattle.world_events.specs.declared.event.Event.TheVariants.{List as ListNames}
use Rattle.world_events.specs.declared.event.Told.{Told}
use Rattle.world_events.specs.declared.fault.WorldFault.{WorldFault as Fault}
use Rattle.world_events.specs.declared.fault.WorldFault.TheVariants.{Group as OfGroup, OutOfMemory}
use Rattle.world_events.specs.declared.event.Event.TheVariants as events
use Rattle.world_front.specs.ControlPlane.{ControlPlane, asking_refusal, error_of, front_refusal, front_step, is_full, requests_of, told_of, if_ok}
use Rattle.world_core.specs.World.{World, Part, acted, asked_parts, created_by, is_drop, parts_of, parts_refusal, refusal_of}
use Rattle.world_front.specs.Groups.{groups_of}
use Rattle.world_core.specs.Moves.{IsAt, stepped}
use Rattle.world_front.specs.Groups.{place_in}
use Rattle.world_front.specs.Refusing.{RefusedOrMemory}
use Rattle.world_core.specs.declared.audit.Run.{Run}
use Rattle.world_core.specs.Inside.{world_of}
use Rattle.world_core.specs.Sound.{FitsAt, IsKept, IsSealedFor, IsSound}
use Rattle.world_core.specs.Accepted.{FrontTells}
use Rattle.world_core.specs.Applying.{Applies}
use Rattle.world_core.specs.Taking.{TakesAll, is_full_at, places_for}
use Rattle.world_core.proofs.Accepted.{front_tells}
use Rattle.world_front.proofs.Fronts.{Requested, list_made, submit_made}
use Rattle.world_core.proofs.Limits.{asked_for, counted_for, few_submissions}
use Rattle.world_core.proofs.Messages.{true_not_false}
use Rattle.world_core.proofs.PlaceIn.{stands}
use Rattle.world_front.proofs.Pools.{found_in}
use Rattle.world_core.proofs.RunPlaces.{Longer, fit_on, told_on}
use Rattle.world_core.proofs.Silent.{acted_audit, acted_groups, asked_silent, longer_with, stepped_audits}
use Rattle.world_core.proofs.Sounds.{ids_of, at_group_ids}
use Rattle.world_core.proofs.Standing.{step_is}

-- ---- where the group of a request stands

abbrev pools_of : ControlPlane → List Pool
pools_of f = (map_of f.history).pools

-- groups of these places
abbrev AreAt : ControlPlane → List Group → Type 0
AreAt f gs = ids_of gs ≡ flat_map groups_of (pools_of f)

place_at : (f : ControlPlane) (gs : List Group) (s : Sealed) → IsSealedFor f.history s → AreAt f gs → IsAt gs (group_for s) (place_in (pools_of f) (group_for s))
place_at f gs s k are =
    let p = k.well.pool in
    let less : s.group < p.is.pool.pg_num = subst (λ n. s.group < n) (sym p.is.groups) k.below in
    stands (group_for s) (pools_of f) p.is.pool (found_in f.history s.view.pool s.view.pg_num p) less gs are

places_within : (f : ControlPlane) (gs : List Group) (rs : List Sealed) → Each (IsSealedFor f.history) rs → AreAt f gs → Each (λ place. place < length gs) (places_for (pools_of f) rs)
places_within f gs [] k are = tt
places_within f gs (s ∷ ss) k are = ((place_at f gs s k.0 are).within, places_within f gs ss k.1 are)

-- ---- full groups

le_lt : (n : ℕ) → nat_le 16384 n ≡ not (nat_lt n 16384)
le_lt n = go (nat_le 16384 n) refl (nat_lt n 16384) refl
  where
    go : (a : Bool) → nat_le 16384 n ≡ a → (b : Bool) → nat_lt n 16384 ≡ b → a ≡ not b
    go true p false q = refl
    go false p true q = refl
    go true p true q = absurd (let x : 16384 ≤ n = grind (arith, nat_tests) in let y : n < 16384 = grind (arith, nat_tests) in omega arith)
    go false p false q = absurd (let x : n < 16384 = grind (arith, nat_tests) in let y : 16384 ≤ n = grind (arith, nat_tests) in omega arith)

full_same : (f : ControlPlane) (gs : List Group) (runs : List Run) (s : Sealed) → IsSound (world_of f gs runs) → IsSealedFor f.history s → is_full f s ≡ is_full_at gs (place_in (pools_of f) (group_for s))
full_same f gs runs s h k =
    let at : IsAt gs (group_for s) (place_in (pools_of f) (group_for s)) = place_at f gs s k h.places in
    ap (nat_le 16384) (counted_for (group_for s) s f.submissions refl)
    ∙ ap (λ l. nat_le 16384 (length l)) (sym (h.kept.groups (group_for s) at.group at.found).requests)
    ∙ le_lt (length at.group.requests)
    ∙ ap (λ o. option_map_or has_all_requests o false) (sym at.there)

any_same : (f : ControlPlane) (gs : List Group) (runs : List Run) (rs : List Sealed) → IsSound (world_of f gs runs) → Each (IsSealedFor f.history) rs → list_any (is_full f) rs ≡ list_any (is_full_at gs) (places_for (pools_of f) rs)
any_same f gs runs [] h k = refl
any_same f gs runs (s ∷ ss) h k =
    ap (λ b. b || list_any (is_full f) ss) (full_same f gs runs s h k.0) ∙ ap (λ b. is_full_at gs (place_in (pools_of f) (group_for s)) || b) (any_same f gs runs ss h k.1)

-- ---- the groups after they took the requests

taken_steps : (f : ControlPlane) (gs hs : List Group) (rs : List Sealed) → Each (IsSealedFor f.history) rs → AreAt f gs → TakesAll gs (places_for (pools_of f) rs) rs hs → hs ≡ stepped (asked_parts rs) gs
taken_steps f gs hs [] k are h = h
taken_steps f gs hs (s ∷ ss) k are h =
    let t = h.1 in
    let at : IsAt gs (group_for s) (place_in (pools_of f) (group_for s)) = place_at f gs s k.0 are in
    let same : Some at.group ≡ Some t.group = sym at.there ∙ t.there in
    let old : at.group ≡ t.group = cc in
    let next : h.0 ≡ stepped (asked_parts (s ∷ [])) gs =
    t.are ∙ ap (λ g. slice_set gs (place_in (pools_of f) (group_for s)) (group_step g (Submit s))) (sym old) ∙ sym (at.changed (λ g. group_step g (Submit s))) in
    let ids : ids_of h.0 ≡ ids_of gs = ap ids_of next ∙ at_group_ids (group_for s) (λ g. group_step g (Submit s)) (λ g. step_is g.group (Submit s) g refl) gs in
    taken_steps f h.0 hs ss k.1 (ids ∙ are) h.2 ∙ ap (stepped (asked_parts ss)) next

-- ---- requests of an event

-- an event that asks, and for which requests
pub record AsksFor (f : ControlPlane) (e : Event) (ask : Ask) (rs : List Sealed) : Type 0 where
  pub asked : requests_of f e ≡ Ok rs
  pub made : Requested f ask rs
  pub parts : parts_of f e ≡ asked_parts rs
  pub creates : created_by f e ≡ []
  pub refuses : front_refusal f e ≡ asking_refusal f (requests_of f e)
  pub told : (w : World) → w.front ≡ f → refusal_of w e ≡ option_or (front_refusal w.front e) (option_map OfGroup (parts_refusal w.groups (parts_of w.front e)))
  pub stays : (fault : Fault) → is_drop e fault ≡ false
  pub tells : (w : World) → FrontTells w → refusal_of w e ≡ front_refusal w.front e

pub vector_asks : (f : ControlPlane) (ask : Ask) (object : List ℕ) (ops : List Op) (s : Sealed) → requests_of f (events.Submit ask object ops) ≡ Ok (s ∷ []) → AsksFor f (events.Submit ask object ops) ask (s ∷ [])
vector_asks f ask object ops s is = record {
  asked = is;
  made = submit_made f ask object ops (s ∷ []) is;
  parts = ap (λ r. asked_parts (if_ok r [] (λ rs. rs))) is;
  creates = refl;
  refuses = refl;
  told = λ w _. refl;
  stays = λ _. refl;
  tells = λ w t. t.submit ask object ops;
}

pub list_asks : (f : ControlPlane) (ask : Ask) (rs : List Sealed) → requests_of f (ListNames ask) ≡ Ok rs → AsksFor f (ListNames ask) ask rs
list_asks f ask rs is = record {
  asked = is;
  made = list_made f ask rs is;
  parts = ap (λ r. asked_parts (if_ok r [] (λ l. l))) is;
  creates = refl;
  refuses = refl;
  told = λ w _. refl;
  stays = λ _. refl;
  tells = λ w t. t.list ask;
}

pub sealed_all : (f : ControlPlane) (gs : List Group) (runs : List Run) (e : Event) (ask : Ask) (rs : List Sealed) → IsKept f gs runs → AsksFor f e ask rs → Each (IsSealedFor f.history) rs
sealed_all f gs runs e ask rs h a = asked_for f h.sound.kept.front rs a.made.sealed a.made.below

pub all_within : (f : ControlPlane) (gs : List Group) (runs : List Run) (e : Event) (ask : Ask) (rs : List Sealed) (history : History) → IsKept f gs runs → AsksFor f e ask rs → history ≡ f.history → Each (λ place. place < length gs) (places_for (map_of history).pools rs)
all_within f gs runs e ask rs history h a same =
    subst (λ k. Each (λ place. place < length gs) (places_for (map_of k).pools rs)) (sym same) (places_within f gs rs (sealed_all f gs runs e ask rs h a) h.sound.places)

-- why the event is refused: as the front says
refusal_is : (f : ControlPlane) (gs : List Group) (runs : List Run) (e : Event) (ask : Ask) (rs : List Sealed) → IsKept f gs runs → AsksFor f e ask rs
    → refusal_of (world_of f gs runs) e ≡ (if list_any (is_full_at gs) (places_for (pools_of f) rs) then Some (OfGroup group_fault.Full) else None)
refusal_is f gs runs e ask rs h a =
    let w : World = world_of f gs runs in
    a.tells w (front_tells w h.sound.kept h.sound.stands.front)
    ∙ a.refuses ∙ ap (asking_refusal f) a.asked
    ∙ ap (λ b. if b then Some (OfGroup group_fault.Full) else None) (any_same f gs runs rs h.sound (sealed_all f gs runs e ask rs h a))

-- ---- what comes of the event

-- it is refused before it asks anything
pub refused_asking : (f : ControlPlane) (gs : List Group) (runs : List Run) (e : Event) (fault : Fault) → front_refusal f e ≡ asking_refusal f (requests_of f e) → ((x : Fault) → is_drop e x ≡ false)
    → RefusedOrMemory {T = Told} (error_of (requests_of f e)) (Err fault) → Applies (world_of f gs runs) e (Err fault) (world_of f gs runs)
refused_asking f gs runs e fault refuses stays refused = record {
  steps = λ k. absurd (true_not_false (sym k ∙ stays fault));
  tells = tt;
  refused = go refused;
  unchanged = λ _. refl;
}
  where
    asking : (r : Result (List Sealed) Fault) → error_of r ≡ Some fault → asking_refusal f r ≡ Some fault
    asking (Ok rs) k = absurd (cc)
    asking (Err x) k = k

    go : RefusedOrMemory {T = Told} (error_of (requests_of f e)) (Err fault) → RefusedOrMemory {T = Told} (refusal_of (world_of f gs runs) e) (Err fault)
    go (inl k) = inl k
    go (inr k) = inr (ap (λ o. option_or o (option_map OfGroup (parts_refusal gs (parts_of f e)))) (refuses ∙ asking (requests_of f e) k))

-- it is refused because a group is full, or because memory ran out
pub refused_taking : (f : ControlPlane) (gs : List Group) (runs : List Run) (e : Event) (ask : Ask) (rs : List Sealed) (history : History) (fault : Fault) → IsKept f gs runs → AsksFor f e ask rs → history ≡ f.history
    → (fault ≡ OutOfMemory) ⊎ ((fault ≡ OfGroup group_fault.Full) × (list_any (is_full_at gs) (places_for (map_of history).pools rs) ≡ true)) → Applies (world_of f gs runs) e (Err fault) (world_of f gs runs)
refused_taking f gs runs e ask rs history fault h a same refused = record {
  steps = λ k. absurd (true_not_false (sym k ∙ a.stays fault));
  tells = tt;
  refused = go refused;
  unchanged = λ _. refl;
}
  where
    go : (fault ≡ OutOfMemory) ⊎ ((fault ≡ OfGroup group_fault.Full) × (list_any (is_full_at gs) (places_for (map_of history).pools rs) ≡ true)) → RefusedOrMemory {T = Told} (refusal_of (world_of f gs runs) e) (Err fault)
    go (inl k) = inl k
    go (inr k) = inr (refusal_is f gs runs e ask rs h a
        ∙ ap (λ b. if b then Some (OfGroup group_fault.Full) else None) (ap (λ v. list_any (is_full_at gs) (places_for (map_of v).pools rs)) (sym same) ∙ k.1)
        ∙ ap (λ v. Some v) (sym k.0))

-- it happened
pub record Asked (f : ControlPlane) (gs : List Group) (runs : List Run) (e : Event) (told : Told) (f' : ControlPlane) (gs' : List Group) : Type 0 where
  pub applies : Applies (world_of f gs runs) e (Ok told) (world_of f' gs' runs)
  pub fit : Each (FitsAt gs') runs

pub asked : (f f' : ControlPlane) (gs gs' : List Group) (runs : List Run) (e : Event) (ask : Ask) (rs : List Sealed) (history : History) (told : Told) → IsKept f gs runs → AsksFor f e ask rs → history ≡ f.history
    → list_any (is_full_at gs) (places_for (map_of history).pools rs) ≡ false → TakesAll gs (places_for (map_of history).pools rs) rs gs' → f' ≡ front_step f e → told ≡ told_of f e → Asked f gs runs e told f' gs'
asked f f' gs gs' runs e ask rs history told h a same room taken front tells =
    let w : World = world_of f gs runs in
    let parts : List Part = asked_parts rs in
    let silent = asked_silent rs in
    let T : History → Type 0 = λ k. TakesAll gs (places_for (map_of k).pools rs) rs gs' in
    let groups : gs' ≡ stepped parts gs = taken_steps f gs gs' rs (sealed_all f gs runs e ask rs h a) h.sound.places (subst T same taken) in
    let longer : Longer gs (stepped parts gs ++ []) = longer_with gs (stepped parts gs) [] (stepped_audits parts gs silent) in
    let now : gs' ≡ stepped parts gs ++ [] = groups ∙ sym (append-nil (stepped parts gs)) in
    let F : List Part → List Group → World = λ ps cs. record { front = front_step f e; groups = (acted w ps).groups ++ cs; audit = (acted w ps).audit } in
    record {
      applies = record {
        steps = λ _.
            ap (λ v. world_of v gs' runs) front
            ∙ ap (λ l. world_of (front_step f e) l runs) now
            ∙ ap (λ l. record { front = front_step f e; groups = stepped parts gs ++ []; audit = l }) (told_on gs (stepped parts gs ++ []) runs longer h.fit ∙ sym (acted_audit parts w silent))
            ∙ ap (λ l. record { front = front_step f e; groups = l ++ []; audit = (acted w parts).audit }) (sym (acted_groups parts w))
            ∙ ap (λ ps. F ps []) (sym a.parts) ∙ ap (F (parts_of f e)) (sym a.creates);
        tells = tells;
        refused = refusal_is f gs runs e ask rs h a
            ∙ ap (λ b. if b then Some (OfGroup group_fault.Full) else None) (ap (λ v. list_any (is_full_at gs) (places_for (map_of v).pools rs)) (sym same) ∙ room);
        unchanged = λ k. absurd (true_not_false k);
      };
      fit = subst (λ l. Each (FitsAt l) runs) (sym now) (fit_on gs (stepped parts gs ++ []) runs longer h.fit);
    }

-- memory was wanting, and all was given back
pub asked_nothing : (f f' : ControlPlane) (gs gs' : List Group) (runs : List Run) (e : Event) → ((x : Fault) → is_drop e x ≡ false) → f' ≡ f → gs' ≡ gs → Applies (world_of f gs runs) e (Err OutOfMemory) (world_of f' gs' runs)
asked_nothing f f' gs gs' runs e stays front groups = record {
  steps = λ k. absurd (true_not_false (sym k ∙ stays OutOfMemory));
  tells = tt;
  refused = inl refl;
  unchanged = λ _. ap (λ v. world_of v gs' runs) front ∙ ap (λ l. world_of f l runs) groups;
}

-- there is room for more requests
pub few_now : (f : ControlPlane) (gs : List Group) (runs : List Run) → IsKept f gs runs → length f.submissions < 67108864
few_now f gs runs h = fits (length f.submissions) (few_submissions f h.sound.kept.front)
  where
    fits : (n : ℕ) → n ≤ 33554432 → n < 67108864
    fits n less = omega arith
