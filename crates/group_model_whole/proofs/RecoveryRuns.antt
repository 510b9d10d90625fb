-- What every event keeps, from the beginning on, where each acting set lies within the daemons that are up.
use Rattle.std.proofs.Common.{ℕ, ◌≡◌, ◌≤◌, Bool, true, false, not, ◌&&◌, ◌||◌, ◌==◌, List, [], ◌∷◌, ◌++◌, map, length, take, refl, sym, ◌∙◌, subst, arith, inl, inr, if◌then◌else◌}
use Rattle.std.specs.Prelude.{Option, Some, None, slice_get}
use Rattle.std.specs.List.{remove}
use Rattle.std.proofs.Math.ListN.{length-map}
use Rattle.std.proofs.lemmas.Bool.{eqb-true, both_ways, and_parts, and_right, or_cases, or_left, or_right, not_from_true, ne_eqb}
use Rattle.entry_core.specs.Log.{is_in}
use Rattle.store_core.specs.Request.{Sealed}
use Rattle.store_core.specs.declared.sealed.GroupId.{GroupId}
use Rattle.group_model_whole.specs.ActingSets.{set_of, is_primary, daemons}
use Rattle.group_model_whole.specs.Steps.{blank, restarted}
use Rattle.group_model_whole.specs.Types.{Daemon, Body, Interval, Query, Info, Install, Installed, Append, Appended, Request, Reply, NotHere, Party, Client, Osd, Sent}
use Rattle.group_model_whole.specs.Each.{Each}
use Rattle.group_messages.specs.Answers.{Answer}
use Rattle.group_model_whole.specs.Group.{Group, Event, Submit, Deliver, Lose, Repeat, NewInterval, Restart, Kick, last_set, is_answered, is_submitted, has_all_requests, has_all_intervals, take_request, to_primary, answered, copy_hears, arrives, without, deliver, lose, again, submit, begin, with_up, same_set, new_interval, restart, kick, group_step, run, start}
use Rattle.group_model_whole.specs.Within.{LiesWithin, ActsWithin}
use Rattle.group_model_whole.proofs.Eaches.{Each-append, Each-push, Each-remove, Each-get}
use Rattle.group_model_whole.proofs.Invariant.{SentOk}
use Rattle.group_model_whole.proofs.Groups.{Good, get-map, step_good, without_good, restarts_good, empty_good}
use Rattle.group_model_whole.proofs.RecoveryStates.{RoleIsPrompt}
use Rattle.group_model_whole.proofs.RecoveryFits.{BodyFits, SentFits}
use Rattle.group_model_whole.proofs.RecoveryFitGroups.{tell_first_fits, kick_fits}
use Rattle.group_model_whole.proofs.RecoveryReaches.{Reach, hears_reach, begin_reach, restarts_base, restarts_reach}
use Rattle.group_model_whole.proofs.RecoveryDeliveries.{first_in}
use Rattle.group_model_whole.proofs.Calls.{get_below, get_in}

module _ (count : ℕ) where
  -- only the wire, the requests or the answers change
  same_reach : (g : Group) (wire : List Sent) (requests : List Sealed) (answers : List Answer) → Reach (length (take count daemons)) g → Each (SentFits g.sets) wire → Reach (length (take count daemons)) (record g { wire = wire; requests = requests; answers = answers })
  same_reach g wire requests answers r each = record {
    base = record {
      least = r.base.least;
      fits = record { copies = r.base.fits.copies; wire = each };
      roles = r.base.roles;
      exist = r.base.exist;
      copies = λ d less. (let h = r.base.copies d less in record { copy = h.copy; here = h.here });
      few = r.base.few;
    };
    leader = r.leader;
    last_up = r.last_up;
  }

  answered_reach : (g : Group) (b : Body) → Reach (length (take count daemons)) g → Reach (length (take count daemons)) (answered g b)
  answered_reach g (Reply id reply) r = go (is_answered g.answers id)
    where
      go : (b : Bool) → Reach (length (take count daemons)) (if b then g else record g { answers = g.answers ++ record { id = id; reply = reply } ∷ [] })
      go true = r
      go false = same_reach g g.wire g.requests (g.answers ++ record { id = id; reply = reply } ∷ []) r r.base.fits.wire
  answered_reach g (Interval sets) r = r
  answered_reach g (Query n) r = r
  answered_reach g (Info n base log) r = r
  answered_reach g (Install n log) r = r
  answered_reach g (Installed n) r = r
  answered_reach g (Append n place s) r = r
  answered_reach g (Appended n place) r = r
  answered_reach g (Request s) r = r
  answered_reach g (NotHere id) r = r

  copy_hears_reach : (g : Group) (m : Sent) (d : ℕ) (found : Option Daemon) → slice_get g.copies d ≡ found → (good : Good g) → SentOk g.sets good.promise good.h m → BodyFits g.sets (Osd d) m.body → Reach (length (take count daemons)) g → Reach (length (take count daemons)) (copy_hears g m d found)
  copy_hears_reach g m d None is good ok body r = r
  copy_hears_reach g m d (Some c) is good ok body r = hears_reach (length (take count daemons)) g m d c good is ok body r

  arrives_reach : (g : Group) (m : Sent) (to : Party) → (good : Good g) → SentOk g.sets good.promise good.h m → BodyFits g.sets to m.body → Reach (length (take count daemons)) g → Reach (length (take count daemons)) (arrives g m to)
  arrives_reach g m Client good ok body r = answered_reach g m.body r
  arrives_reach g m (Osd d) good ok body r = go (is_in g.up d)
    where
      go : (b : Bool) → Reach (length (take count daemons)) (if b then copy_hears g m d (slice_get g.copies d) else g)
      go true = copy_hears_reach g m d (slice_get g.copies d) refl good ok body r
      go false = r

  without_reach : (g : Group) (k : ℕ) → Reach (length (take count daemons)) g → Reach (length (take count daemons)) (without g k)
  without_reach g k r = same_reach g (remove g.wire k) g.requests g.answers r (Each-remove (SentFits g.sets) g.wire k r.base.fits.wire)

  deliver_reach : (g : Group) (k : ℕ) (found : Option Sent) → slice_get g.wire k ≡ found → Good g → Reach (length (take count daemons)) g → Reach (length (take count daemons)) (deliver g k found)
  deliver_reach g k None is good r = r
  deliver_reach g k (Some m) is good r = arrives_reach (without g k) m m.to (without_good g k good) (Each-get (SentOk g.sets good.promise good.h) g.wire k m good.wire is) (Each-get (SentFits g.sets) g.wire k m r.base.fits.wire is) (without_reach g k r)

  lose_reach : (g : Group) (k : ℕ) (found : Option Sent) → Reach (length (take count daemons)) g → Reach (length (take count daemons)) (lose g k found)
  lose_reach g k None r = r
  lose_reach g k (Some m) r = without_reach g k r

  again_reach : (g : Group) (k : ℕ) (found : Option Sent) → slice_get g.wire k ≡ found → Reach (length (take count daemons)) g → Reach (length (take count daemons)) (again g found)
  again_reach g k None is r = r
  again_reach g k (Some m) is r = same_reach g (g.wire ++ m ∷ []) g.requests g.answers r (Each-push (SentFits g.sets) g.wire m r.base.fits.wire (Each-get (SentFits g.sets) g.wire k m r.base.fits.wire is))

  submit_reach : (g : Group) (s : Sealed) → Reach (length (take count daemons)) g → Reach (length (take count daemons)) (submit g s)
  submit_reach g s r = go (is_submitted g.requests s.id) (has_all_requests g)
    where
      go : (b q : Bool) → Reach (length (take count daemons)) (if b then g else (if q then g else take_request g s))
      go true q = r
      go false true = r
      go false false = same_reach g (g.wire ++ to_primary (last_set g.sets) (Request s ∷ [])) (g.requests ++ s ∷ []) g.answers r
          (Each-append (SentFits g.sets) g.wire (to_primary (last_set g.sets) (Request s ∷ [])) r.base.fits.wire (tell_first_fits g.sets (last_set g.sets) (s ∷ [])))

  same_set_in : (xs ys : List ℕ) (d : ℕ) → same_set xs ys ≡ true → is_in ys d ≡ true → is_in xs d ≡ true
  same_set_in [] [] d same is = is
  same_set_in (x ∷ xs) [] d same is = absurd (both_ways false refl same)
  same_set_in [] (y ∷ ys) d same is = absurd (both_ways false refl same)
  same_set_in (x ∷ xs) (y ∷ ys) d same is =
      let parts = and_parts (x == y) (same_set xs ys) same in
      go (eqb-true x y parts.0) is (same_set_in xs ys d parts.1)
    where
      go : x ≡ y → ((y == d) || is_in ys d) ≡ true → (is_in ys d ≡ true → is_in xs d ≡ true) → ((x == d) || is_in xs d) ≡ true
      go e is rec = elim (or_cases (y == d) (is_in ys d) is) [
        | inl here ↦ or_left (x == d) (is_in xs d) (subst (λ v. (v == d) ≡ true) (sym e) here)
        | inr later ↦ or_right (x == d) (is_in xs d) (rec later)
      ]

  new_interval_reach : (g : Group) (acting up : List ℕ) → LiesWithin count acting up → Good g → Reach (length (take count daemons)) g → Reach (length (take count daemons)) (new_interval g acting up)
  new_interval_reach g acting up within good r = go (same_set acting (last_set g.sets)) refl (has_all_intervals g)
    where
      stays : same_set acting (last_set g.sets) ≡ true → (d : ℕ) (c : Daemon) → is_primary (last_set g.sets) d ≡ true → slice_get g.copies d ≡ Some c → (is_in g.up c.number && not (is_in up c.number)) ≡ false
      stays same d c first is =
          let number : c.number ≡ d = (good.copies d c is).state.number in
          let here : is_in up c.number ≡ true = subst (λ v. is_in up v ≡ true) (sym number) (within d (same_set_in acting (last_set g.sets) d same (first_in (last_set g.sets) d first))).0 in
          and_right (is_in g.up c.number) (not (is_in up c.number)) (not_from_true (is_in up c.number) here)

      go : (b : Bool) → same_set acting (last_set g.sets) ≡ b → (q : Bool) → Reach (length (take count daemons)) (if b then with_up g up else (if q then g else begin (with_up g up) acting))
      go false other true = r
      go true same q = restarts_reach (length (take count daemons)) g up (λ c. is_in g.up c.number && not (is_in up c.number)) r (λ d is. (within d (same_set_in acting (last_set g.sets) d same is)).0) (stays same)
      go false other false = begin_reach (length (take count daemons)) (with_up g up) acting (restarts_good g up (λ c. is_in g.up c.number && not (is_in up c.number)) good)
          (restarts_base (length (take count daemons)) g up (λ c. is_in g.up c.number && not (is_in up c.number)) r.base) (λ d is. (within d is).1) (λ d is. (within d is).0)

  restart_reach : (g : Group) (d : ℕ) → Good g → Reach (length (take count daemons)) g → Reach (length (take count daemons)) (restart g d)
  restart_reach g d good r = go (is_in (last_set g.sets) d) refl (has_all_intervals g)
    where
      stays : is_in (last_set g.sets) d ≡ false → (e : ℕ) (c : Daemon) → is_primary (last_set g.sets) e ≡ true → slice_get g.copies e ≡ Some c → (c.number == d) ≡ false
      stays out e c first is = ne_eqb c.number d (λ same. (
          let e_is : e ≡ d = sym (good.copies e c is).state.number ∙ same in
          both_ways (is_in (last_set g.sets) d) out (subst (λ v. is_in (last_set g.sets) v ≡ true) e_is (first_in (last_set g.sets) e first))))

      go : (b : Bool) → is_in (last_set g.sets) d ≡ b → (q : Bool) → Reach (length (take count daemons)) (if b then (if q then g else begin (record g { copies = map (λ c. if c.number == d then restarted c else c) g.copies }) (last_set g.sets)) else record g { copies = map (λ c. if c.number == d then restarted c else c) g.copies })
      go true in_set true = r
      go true in_set false = begin_reach (length (take count daemons)) (record g { copies = map (λ c. if c.number == d then restarted c else c) g.copies }) (last_set g.sets) (restarts_good g g.up (λ c. c.number == d) good)
          (restarts_base (length (take count daemons)) g g.up (λ c. c.number == d) r.base) (λ e is. r.base.exist (length g.sets) e is) r.last_up
      go false out q = restarts_reach (length (take count daemons)) g g.up (λ c. c.number == d) r r.last_up (stays out)

  kick_reach : (g : Group) → Good g → Reach (length (take count daemons)) g → Reach (length (take count daemons)) (kick g)
  kick_reach g good r = let f = kick_fits g good r.base.fits in same_reach g (kick g).wire g.requests g.answers r f.wire

  step_reach : (e : Event) (g : Group) → ActsWithin count e → Good g → Reach (length (take count daemons)) g → Reach (length (take count daemons)) (group_step g e)
  step_reach (Submit s) g within good r = submit_reach g s r
  step_reach (Deliver k) g within good r = deliver_reach g k (slice_get g.wire k) refl good r
  step_reach (Lose k) g within good r = lose_reach g k (slice_get g.wire k) r
  step_reach (Repeat k) g within good r = again_reach g k (slice_get g.wire k) refl r
  step_reach (NewInterval acting up) g within good r = new_interval_reach g acting up within good r
  step_reach (Restart d) g within good r = restart_reach g d good r
  step_reach Kick g within good r = kick_reach g good r

  pub run_reach : (es : List Event) (g : Group) → Each (ActsWithin count) es → Good g → Reach (length (take count daemons)) g → Reach (length (take count daemons)) (run es g)
  run_reach [] g within good r = r
  run_reach (e ∷ es) g within good r = run_reach es (group_step g e) within.1 (step_good e g good) (step_reach e g within.0 good r)

pub start_reach : (group : GroupId) (z count : ℕ) (acting up : List ℕ) → 1 ≤ z → LiesWithin count acting up → Reach (length (take count daemons)) (start group z count acting up)
start_reach group z count acting up least within =
    begin_reach (length (take count daemons)) (record { group = group; min_size = z; copies = map (blank z) (take count daemons); wire = []; sets = []; up = up; requests = []; answers = []; audit = [] }) acting (empty_good group z count up) (record {
      least = least;
      fits = record { copies = λ d c is. (let m = get-map (blank z) (take count daemons) d c is in subst (λ v. 1 ≤ v.base → is_in (set_of [] v.base) d ≡ true) m.is (λ bad. absurd (omega arith))); wire = tt };
      roles = λ d c is. (let m = get-map (blank z) (take count daemons) d c is in subst (λ v. RoleIsPrompt v v.role) m.is tt);
      exist = λ j d is. absurd (both_ways false refl is);
      copies = λ d less. (let as_many = length-map (take count daemons) (blank z) in let a = get_below (map (blank z) (take count daemons)) d (omega arith) in record { copy = a.item; here = a.is });
      few = λ d c is. (let m = get-map (blank z) (take count daemons) d c is in get_in (take count daemons) d m.item m.is_item);
    }) (λ d is. (within d is).1) (λ d is. (within d is).0)
