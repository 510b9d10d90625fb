-- What a call on one group is to the world.
use Rattle.std.proofs.Common.{◌≡◌, ◌∙◌, ◌⊎◌, inl, inr, ℕ, List, [], ◌∷◌, ◌++◌, Bool, true, false, if◌then◌else◌, Option, Some, None, Result, Ok, Err, length, drop, refl, sym, ap, subst, append-nil}
use Rattle.std.specs.Prelude.{slice_get, slice_set}
use Rattle.std.specs.Option.{option_map, option_or}
use Rattle.entry_core.specs.Log.{is_in}
use Rattle.store_core.specs.declared.sealed.GroupId.{GroupId}
use Rattle.group_model_whole.specs.Each.{Each}
use Rattle.group_model_whole.specs.History.{Begins}
use Rattle.group_model.specs.Types.{Party, Client, Osd, Sent}
use Rattle.group_model.specs.Group.{Group, group_step, left_by, refusal_to, refusal_at, arrives, deliver, without, copy_hears}
use Rattle.group_model.specs.Group as group
use Rattle.group_messages.specs.declared.fault.GroupFault.{GroupFault}
use Rattle.group_messages.specs.declared.fault.GroupFault.TheVariants as group_fault
use Rattle.group_model.proofs.Additions.{audit_grows}
use Rattle.world_events.specs.declared.event.Event.{Event}
use Rattle.world_events.specs.declared.event.Event.TheVariants.{Auth, Map, Open, Renew, Close, Submit, List as ListNames, Deliver, Lose, Repeat, Kick}
use Rattle.world_events.specs.declared.event.Told.{Told}
use Rattle.world_events.specs.declared.fault.WorldFault.{WorldFault as Fault}
use Rattle.world_events.specs.declared.fault.WorldFault.TheVariants.{OutOfMemory, Map as OfMap, Group as OfGroup}
use Rattle.world_events.specs.declared.event.Told.TheVariants.{Done}
use Rattle.map_core.specs.Refusal.{acting_refusal}
use Rattle.map_core.specs.declared.fault.MapFault.{MapFault}
use Rattle.world_front.specs.ControlPlane.{ControlPlane, front_step, front_refusal, group_refusal, told_of, requests_of, requests_in}
use Rattle.world_core.specs.World.{World, Part, part, group_at, at_group, act, acted, counts, is_drop, accepts, is_accepted, created_by, decided_in, part_refusal, parts_refusal, parts_of, refused_in, refusal_of, world_step}
use Rattle.world_core.specs.Moves.{IsAt}
use Rattle.common_types.specs.Refused.{RefusedExactly}
use Rattle.world_front.specs.Refusing.{RefusedOrMemory}
use Rattle.world_core.specs.declared.audit.Run.{Run}
use Rattle.group_core.specs.declared.call.GroupCall.{GroupCall}
use Rattle.group_core.specs.declared.call.GroupCall.TheVariants as calls
use Rattle.world_core.specs.Inside.{world_of, entries_told}
use Rattle.world_core.specs.Sound.{FitsAt, IsSound, IsKept}
use Rattle.group_core.specs.Calls.{event_of}
use Rattle.world_core.specs.Applying.{Applies, CalledAt, LosesExactly, LosesFreely, StepsOrMemory, event_for, fault_of_group, runs_from, told_call}
use Rattle.world_core.proofs.Calling.{no_run, set_same}
use Rattle.world_core.proofs.RunPlaces.{changed_runs}
use Rattle.world_core.proofs.Runs.{same_begins}
use Rattle.grant_core.specs.Flat.{Table}
use Rattle.world_core.specs.Holds.{Holds}
use Rattle.world_core.proofs.Holding.{holds_on}
use Rattle.world_core.proofs.Sounds.{has_numbers_on, sound_on}

pub true_not_false : true ≡ false → ⊥
true_not_false e = cc

-- ---- worlds that were applied an event

pub memory_no_drop : (e : Event) → is_drop e OutOfMemory ≡ false
memory_no_drop (Auth command) = refl
memory_no_drop (Map command) = refl
memory_no_drop (Open entity until) = refl
memory_no_drop (Renew n until) = refl
memory_no_drop (Close n) = refl
memory_no_drop (Submit ask object ops) = refl
memory_no_drop (ListNames ask) = refl
memory_no_drop (Deliver id k) = refl
memory_no_drop (Lose id k) = refl
memory_no_drop (Repeat id k) = refl
memory_no_drop (Kick id) = refl

-- an event that counts was accepted
pub accepted_when : (w : World) (e : Event) (r : Result Told Fault) → RefusedOrMemory (refusal_of w e) r → counts e r ≡ true → is_accepted w e ≡ true
accepted_when w e (Ok told) refused is = ap (accepts e) refused
accepted_when w e (Err fault) (inl none) is = absurd (true_not_false (sym is ∙ ap (is_drop e) none ∙ memory_no_drop e))
accepted_when w e (Err fault) (inr some) is = ap (accepts e) some ∙ is

-- the world stays sound
pub applied_sound : (old new : World) (e : Event) (r : Result Told Fault) → IsSound old → Applies old e r new → IsSound new
applied_sound old new e r h a = go (counts e r) refl
  where
    go : (b : Bool) → counts e r ≡ b → IsSound new
    go true is = subst IsSound (sym (a.steps is)) (sound_on old e h (accepted_when old e r a.refused is))
    go false is = subst IsSound (sym (a.unchanged is)) h

-- ---- the step of an event that is one part, and nothing to the front

pub step_of_part : (w : World) (e : Event) (id : GroupId) (ge : group.Event) → front_step w.front e ≡ w.front → parts_of w.front e ≡ part id ge ∷ [] → created_by w.front e ≡ [] → world_step w e ≡ act w (part id ge)
step_of_part w e id ge front parts none =
    let F : ControlPlane → List Part → List Group → World = λ f ps cs. record { front = f; groups = (acted w ps).groups ++ cs; audit = (acted w ps).audit } in
    ap (λ f. F f (parts_of w.front e) (created_by w.front e)) front
    ∙ ap (λ ps. F w.front ps (created_by w.front e)) parts
    ∙ ap (F w.front (part id ge ∷ [])) none
    ∙ ap (λ l. record (act w (part id ge)) { groups = l }) (append-nil (act w (part id ge)).groups)

call_parts : (f : ControlPlane) (id : GroupId) (c : GroupCall) → parts_of f (event_for id c) ≡ part id (event_of c) ∷ []
call_parts f id (calls.Deliver place) = refl
call_parts f id (calls.Lose place) = refl
call_parts f id (calls.Repeat place) = refl
call_parts f id calls.Kick = refl

call_creates : (f : ControlPlane) (id : GroupId) (c : GroupCall) → created_by f (event_for id c) ≡ []
call_creates f id (calls.Deliver place) = refl
call_creates f id (calls.Lose place) = refl
call_creates f id (calls.Repeat place) = refl
call_creates f id calls.Kick = refl

call_front : (f : ControlPlane) (id : GroupId) (c : GroupCall) → front_step f (event_for id c) ≡ f
unfolding requests_of requests_in
call_front f id (calls.Deliver place) = ap (λ l. record f { submissions = l }) (append-nil f.submissions)
call_front f id (calls.Lose place) = ap (λ l. record f { submissions = l }) (append-nil f.submissions)
call_front f id (calls.Repeat place) = ap (λ l. record f { submissions = l }) (append-nil f.submissions)
call_front f id calls.Kick = ap (λ l. record f { submissions = l }) (append-nil f.submissions)

call_tells : (f : ControlPlane) (id : GroupId) (c : GroupCall) → Done ≡ told_of f (event_for id c)
call_tells f id (calls.Deliver place) = refl
call_tells f id (calls.Lose place) = refl
call_tells f id (calls.Repeat place) = refl
call_tells f id calls.Kick = refl

call_refused : (f : ControlPlane) (id : GroupId) (c : GroupCall) → front_refusal f (event_for id c) ≡ group_refusal f id
call_refused f id (calls.Deliver place) = refl
call_refused f id (calls.Lose place) = refl
call_refused f id (calls.Repeat place) = refl
call_refused f id calls.Kick = refl

pub or_none : {X : Type 0} (o : Option X) → option_or o None ≡ o
or_none None = refl
or_none (Some x) = refl

-- why the world refuses a call on a group that is there
pub call_refusal : (w : World) (id : GroupId) (c : GroupCall) (g : Group) → group_refusal w.front id ≡ None → group_at id w.groups ≡ Some g → refusal_of w (event_for id c) ≡ option_map OfGroup (group.refusal_of g (event_of c))
call_refusal w id c g none there =
    let first : front_refusal w.front (event_for id c) ≡ None = call_refused w.front id c ∙ none in
    ap (λ o. option_or o (option_map OfGroup (parts_refusal w.groups (parts_of w.front (event_for id c))))) first
    ∙ ap (λ ps. option_map OfGroup (parts_refusal w.groups ps)) (call_parts w.front id c)
    ∙ ap (option_map OfGroup) (or_none (part_refusal w.groups (part id (event_of c))) ∙ ap (λ o. refused_in o (event_of c)) there)

-- why a call is refused where there is no such group
pub no_group_refusal : (w : World) (id : GroupId) (c : GroupCall) (fault : Fault) → group_refusal w.front id ≡ Some fault → refusal_of w (event_for id c) ≡ Some fault
no_group_refusal w id c fault some = ap (λ o. option_or o (option_map OfGroup (parts_refusal w.groups (parts_of w.front (event_for id c))))) (call_refused w.front id c ∙ some)

-- ---- what a call leaves of its group

-- a delivery to a daemon that is down
step_dropped : (g : Group) (k : ℕ) → group.refusal_of g (group.Deliver k) ≡ Some group_fault.Unreachable → group_step g (group.Deliver k) ≡ without g k
step_dropped g k h = go (slice_get g.wire k) h
  where
    to : (m : Sent) (p : Party) → refusal_to g p ≡ Some group_fault.Unreachable → arrives (without g k) m p ≡ without g k
    to m Client none = absurd (cc)
    to m (Osd d) some = by (is_in g.up d) some
      where
        by : (b : Bool) → (if b then None else Some group_fault.Unreachable) ≡ Some group_fault.Unreachable → (if b then copy_hears (without g k) m d (slice_get g.copies d) else without g k) ≡ without g k
        by true none = absurd (cc)
        by false is = refl

    go : (o : Option Sent) → refusal_at g k o ≡ Some group_fault.Unreachable → deliver g k o ≡ without g k
    go None none = absurd (cc)
    go (Some m) some = to m m.to some

-- a refused call leaves the group, or counts and has dropped a message
Left : GroupId → GroupCall → Group → GroupFault → Group → Type 0
Left id c old fault new = ((is_drop (event_for id c) (fault_of_group fault) ≡ true) × (new ≡ group_step old (event_of c))) ⊎ ((is_drop (event_for id c) (fault_of_group fault) ≡ false) × (new ≡ old))

left : (id : GroupId) (c : GroupCall) (old : Group) (fault : GroupFault) (new : Group) → group.refusal_of old (event_of c) ≡ Some fault → new ≡ left_by old (event_of c) fault → Left id c old fault new
unfolding Left
left id (calls.Deliver place) old group_fault.Unreachable new some is = inl (refl, is ∙ sym (step_dropped old place some))
left id (calls.Deliver place) old (group_fault.NoMessage k) new some is = inr (refl, is)
left id (calls.Deliver place) old group_fault.Full new some is = inr (refl, is)
left id (calls.Deliver place) old group_fault.OutOfMemory new some is = inr (refl, is)
left id (calls.Deliver place) old group_fault.Doubled new some is = inr (refl, is)
left id (calls.Lose place) old fault new some is = inr (refl, is)
left id (calls.Repeat place) old fault new some is = inr (refl, is)
left id calls.Kick old fault new some is = inr (refl, is)

-- ---- the world after a call

pub record Called (f : ControlPlane) (gs : List Group) (runs : List Run) (id : GroupId) (c : GroupCall) (r : Result (Unit {0}) GroupFault) (gs' : List Group) (runs' : List Run) : Type 0 where
  pub applies : Applies (world_of f gs runs) (event_for id c) (told_call r) (world_of f gs' runs')
  pub fit : Each (FitsAt gs') runs'

pub called : (f : ControlPlane) (gs : List Group) (runs : List Run) (id : GroupId) (c : GroupCall) (place : ℕ) (r : Result (Unit {0}) GroupFault) (gs' : List Group) (runs' : List Run)
    → Each (FitsAt gs) runs → group_refusal f id ≡ None → IsAt gs id place → CalledAt gs runs place (event_of c) r gs' runs' → Called f gs runs id c r gs' runs'
unfolding Left
called f gs runs id c place r gs' runs' fits none at h = by r h.steps
  where
    w : World
    w = world_of f gs runs

    grown : Begins h.old.audit (group_step h.old (event_of c)).audit
    grown = audit_grows [] (event_of c ∷ []) h.old

    found : group_at id gs ≡ Some h.old
    found = at.found ∙ sym at.there ∙ h.there

    fit_now : Begins h.old.audit h.new.audit → Each (FitsAt gs') runs'
    fit_now more =
        let n = changed_runs gs runs place h.old h.new h.there more fits in
        let P : List Group → List Run → Type 0 = λ l rs. Each (FitsAt l) rs in
        subst (λ l. P l runs') (sym h.groups_are) (subst (P (slice_set gs place h.new)) (sym h.runs_are) n.fit)

    fit_stepped : h.new ≡ group_step h.old (event_of c) → Each (FitsAt gs') runs'
    fit_stepped is = fit_now (subst (λ g. Begins h.old.audit g.audit) (sym is) grown)

    fit_same : h.new ≡ h.old → Each (FitsAt gs') runs'
    fit_same is = fit_now (same_begins h.old.audit h.new.audit (ap (λ g. g.audit) (sym is)))

    stepped : h.new ≡ group_step h.old (event_of c) → world_of f gs' runs' ≡ world_step w (event_for id c)
    stepped is =
        let more : Begins h.old.audit h.new.audit = subst (λ g. Begins h.old.audit g.audit) (sym is) grown in
        let n = changed_runs gs runs place h.old h.new h.there more fits in
        let same : Some at.group ≡ Some h.old = sym at.there ∙ h.there in
        let old : at.group ≡ h.old = cc in
        let groups : gs' ≡ at_group id (λ g. group_step g (event_of c)) gs =
        h.groups_are ∙ ap (slice_set gs place) (is ∙ ap (λ g. group_step g (event_of c)) (sym old)) ∙ sym (at.changed (λ g. group_step g (event_of c))) in
        let audit : entries_told gs' runs' ≡ entries_told gs runs ++ decided_in (group_at id gs) (event_of c) =
        ap (λ l. entries_told l runs') h.groups_are ∙ ap (entries_told (slice_set gs place h.new)) h.runs_are ∙ n.tell
        ∙ ap (λ g. entries_told gs runs ++ drop (length h.old.audit) g.audit) is
        ∙ ap (λ o. entries_told gs runs ++ decided_in o (event_of c)) (sym found) in
        ap (λ l. record { front = f; groups = l; audit = entries_told gs' runs' }) groups
        ∙ ap (λ l. record { front = f; groups = at_group id (λ g. group_step g (event_of c)) gs; audit = l }) audit
        ∙ sym (step_of_part w (event_for id c) id (event_of c) (call_front f id c) (call_parts f id c) (call_creates f id c))

    same : h.new ≡ h.old → world_of f gs' runs' ≡ w
    same is =
        let groups : gs' ≡ gs = h.groups_are ∙ ap (slice_set gs place) is ∙ set_same gs place h.old h.there in
        let rs : runs' ≡ runs = h.runs_are ∙ ap (λ g. runs ++ runs_from place (length h.old.audit) (length g.audit)) is ∙ ap (λ l. runs ++ l) (no_run place (length h.old.audit)) ∙ append-nil runs in
        ap (λ l. world_of f l runs') groups ∙ ap (world_of f gs) rs

    refusal : refusal_of w (event_for id c) ≡ option_map OfGroup (group.refusal_of h.old (event_of c))
    refusal = call_refusal w id c h.old none found

    wrapped : (fault : GroupFault) → group.refusal_of h.old (event_of c) ≡ Some fault → (fault_of_group fault ≡ OutOfMemory) ⊎ (refusal_of w (event_for id c) ≡ Some (fault_of_group fault))
    wrapped group_fault.OutOfMemory some = inl refl
    wrapped (group_fault.NoMessage k) some = inr (refusal ∙ ap (option_map OfGroup) some)
    wrapped group_fault.Unreachable some = inr (refusal ∙ ap (option_map OfGroup) some)
    wrapped group_fault.Full some = inr (refusal ∙ ap (option_map OfGroup) some)
    wrapped group_fault.Doubled some = inr (refusal ∙ ap (option_map OfGroup) some)

    by : (r : Result (Unit {0}) GroupFault) → StepsOrMemory h.old (event_of c) r h.new → Called f gs runs id c r gs' runs'
    by (Ok done) s = record {
      applies = record {
        steps = λ _. stepped s.1;
        tells = call_tells f id c;
        refused = refusal ∙ ap (option_map OfGroup) s.0;
        unchanged = λ e. absurd (true_not_false e);
      };
      fit = fit_stepped s.1;
    }
    by (Err fault) (inl s) =
        let no : is_drop (event_for id c) (fault_of_group fault) ≡ false = ap (λ v. is_drop (event_for id c) (fault_of_group v)) s.0 ∙ memory_no_drop (event_for id c) in
        record {
          applies = record {
            steps = λ e. absurd (true_not_false (sym e ∙ no));
            tells = tt;
            refused = inl (ap fault_of_group s.0);
            unchanged = λ _. same s.1;
          };
          fit = fit_same s.1;
        }
    by (Err fault) (inr s) = go (left id c h.old fault h.new s.0 s.1)
      where
        go : Left id c h.old fault h.new → Called f gs runs id c (Err fault) gs' runs'
        go (inl k) = record {
          applies = record {
            steps = λ _. stepped k.1;
            tells = tt;
            refused = wrapped fault s.0;
            unchanged = λ e. absurd (true_not_false (sym k.0 ∙ e));
          };
          fit = fit_stepped k.1;
        }
        go (inr k) = record {
          applies = record {
            steps = λ e. absurd (true_not_false (sym e ∙ k.0));
            tells = tt;
            refused = wrapped fault s.0;
            unchanged = λ _. same k.1;
          };
          fit = fit_same k.1;
        }

-- where there is no such group, nothing happens
pub called_none : (w : World) (id : GroupId) (c : GroupCall) (fault : Fault) → group_refusal w.front id ≡ Some fault → Applies w (event_for id c) (Err fault) w
called_none w id c fault some =
    let never : is_drop (event_for id c) fault ≡ false = of_map c (acting_refusal w.front.history id.pool id.number) some in
    record {
      steps = λ e. absurd (true_not_false (sym e ∙ never));
      tells = tt;
      refused = inr (no_group_refusal w id c fault some);
      unchanged = λ _. refl;
    }
  where
    of_map : (c : GroupCall) (o : Option MapFault) → option_map OfMap o ≡ Some fault → is_drop (event_for id c) fault ≡ false
    of_map c None h = absurd (cc)
    of_map (calls.Deliver place) (Some m) h = let same : OfMap m ≡ fault = cc in ap (is_drop (Deliver id place)) (sym same)
    of_map (calls.Lose place) (Some m) h = refl
    of_map (calls.Repeat place) (Some m) h = refl
    of_map calls.Kick (Some m) h = refl

-- ---- a loss never runs out of memory

other_than_memory : (fault : GroupFault) (o : Option Fault) → (OfGroup fault ≡ OutOfMemory) ⊎ (o ≡ Some (OfGroup fault)) → o ≡ Some (OfGroup fault)
other_than_memory fault o (inl memory) = absurd (cc)
other_than_memory fault o (inr is) = is

pub lost_exactly : (w : World) (id : GroupId) (c : GroupCall) (done : Result (Unit {0}) GroupFault) → RefusedOrMemory (refusal_of w (event_for id c)) (told_call done) → LosesFreely c done → LosesExactly w (event_for id c) (told_call done)
lost_exactly w id (calls.Deliver k) done h free = tt
lost_exactly w id (calls.Repeat k) done h free = tt
lost_exactly w id calls.Kick done h free = tt
lost_exactly w id (calls.Lose k) (Ok done) h free = h
lost_exactly w id (calls.Lose k) (Err group_fault.OutOfMemory) h free = absurd (free refl)
lost_exactly w id (calls.Lose k) (Err (group_fault.NoMessage place)) h free = other_than_memory (group_fault.NoMessage place) (refusal_of w (Lose id k)) h
lost_exactly w id (calls.Lose k) (Err group_fault.Unreachable) h free = other_than_memory group_fault.Unreachable (refusal_of w (Lose id k)) h
lost_exactly w id (calls.Lose k) (Err group_fault.Full) h free = other_than_memory group_fault.Full (refusal_of w (Lose id k)) h
lost_exactly w id (calls.Lose k) (Err group_fault.Doubled) h free = other_than_memory group_fault.Doubled (refusal_of w (Lose id k)) h

pub lost_nowhere : (w : World) (id : GroupId) (c : GroupCall) (fault : Fault) → group_refusal w.front id ≡ Some fault → LosesExactly w (event_for id c) (Err fault)
lost_nowhere w id (calls.Deliver k) fault some = tt
lost_nowhere w id (calls.Repeat k) fault some = tt
lost_nowhere w id calls.Kick fault some = tt
lost_nowhere w id (calls.Lose k) fault some = no_group_refusal w id (calls.Lose k) fault some

pub lost_of : (w : World) (e : Event) (r : Result Told Fault) → LosesExactly w e r → (id : GroupId) (k : ℕ) → e ≡ Lose id k → RefusedExactly (refusal_of w e) r
lost_of w e r h id k is =
    let now : RefusedExactly (refusal_of w (Lose id k)) r = subst (λ v. LosesExactly w v r) is h in
    subst (λ v. RefusedExactly (refusal_of w v) r) (sym is) now

-- what applied leaves of what the code keeps
pub kept_on : (f f' : ControlPlane) (gs gs' : List Group) (runs runs' : List Run) (e : Event) (r : Result Told Fault) → IsKept f gs runs → Applies (world_of f gs runs) e r (world_of f' gs' runs') → Each (FitsAt gs') runs' → IsKept f' gs' runs'
kept_on f f' gs gs' runs runs' e r h a fit = record { sound = applied_sound (world_of f gs runs) (world_of f' gs' runs') e r h.sound a; fit = fit }

-- what held of the events before holds with this one
pub applied_holds : (old new : World) (e : Event) (r : Result Told Fault) → IsSound old → Applies old e r new → (table : Table) (daemons : ℕ) (before : List Event) → Holds table daemons before old → counts e r ≡ true → Holds table daemons (before ++ e ∷ []) new
applied_holds old new e r h a table daemons before holds is =
    let P : World → Type 0 = λ w. Holds table daemons (before ++ e ∷ []) w in
    subst P (sym (a.steps is)) (holds_on table daemons before e old holds (has_numbers_on old e h.kept.front (accepted_when old e r a.refused is)))
