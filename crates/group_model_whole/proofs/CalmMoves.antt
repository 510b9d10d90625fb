-- What daemons outside of its set do changes nothing for a quiet group.
use Rattle.std.proofs.Common.{ℕ, zero, suc, ◌≡◌, Bool, true, false, not, ◌==◌, ◌&&◌, List, [], ◌∷◌, map, refl, sym, ◌∙◌, ap, subst, inl, inr, if◌then◌else◌}
use Rattle.std.specs.Prelude.{Some, slice_get}
use Rattle.std.proofs.lemmas.Bool.{eq-eqb, eqb-true, both_ways, and_from, or_left, or_right}
use Rattle.entry_core.specs.Log.{is_in}
use Rattle.group_model_whole.specs.Steps.{restarted, blank}
use Rattle.group_model_whole.specs.Types.{Daemon, Sent}
use Rattle.group_model_whole.specs.Group.{Group, NewInterval, Restart, last_set, with_up, same_set, begin, has_all_intervals, group_step}
use Rattle.group_model_whole.specs.Calm.{KeepsSet}
use Rattle.group_model_whole.proofs.CalmRuns.{Kept}
use Rattle.group_model_whole.proofs.QuietStates.{lead_copy, Running, Due}

pub mapped_at : (f : Daemon → Daemon) (xs : List Daemon) (d : ℕ) (c : Daemon) → slice_get xs d ≡ Some c → f c ≡ c → slice_get (map f xs) d ≡ Some c
mapped_at f [] d c is same = is
mapped_at f (x ∷ xs) zero c is same = (let head : x ≡ c = cc in ap (λ v. Some (f v)) head ∙ ap (λ v. Some v) same)
mapped_at f (x ∷ xs) (suc d) c is same = mapped_at f xs d c is same

pub same_itself : (xs : List ℕ) → same_set xs xs ≡ true
same_itself [] = refl
same_itself (x ∷ xs) = and_from (x == x) (same_set xs xs) (eq-eqb x x refl) (same_itself xs)

-- the copies that restart as the daemons that are up change, and those that a restart restarts

abbrev pub as_up : List ℕ → List ℕ → Daemon → Daemon
as_up before after c = if is_in before c.number && not (is_in after c.number) then restarted c else c

abbrev pub as_restarted : ℕ → Daemon → Daemon
as_restarted d c = if c.number == d then restarted c else c

pub as_up_keeps : (before after : List ℕ) (c : Daemon) → is_in after c.number ≡ true → as_up before after c ≡ c
as_up_keeps before after c is = go (is_in before c.number) (is_in after c.number) is
  where
    go : (a b : Bool) → b ≡ true → (if a && not b then restarted c else c) ≡ c
    go true true is = refl
    go false true is = refl
    go a false is = absurd (cc)

pub as_restarted_keeps : (set : List ℕ) (d : ℕ) (c : Daemon) → is_in set d ≡ false → is_in set c.number ≡ true → as_restarted d c ≡ c
as_restarted_keeps set d c out is = go (c.number == d) refl
  where
    go : (b : Bool) → (c.number == d) ≡ b → (if b then restarted c else c) ≡ c
    go true same = absurd (both_ways (is_in set d) out (subst (λ v. is_in set v ≡ true) (eqb-true c.number d same) is))
    go false other = refl

pub keeps_interval : (g : Group) (acting set up : List ℕ) → g.sets ≡ acting ∷ [] → set ≡ acting → group_step g (NewInterval set up) ≡ with_up g up
keeps_interval g acting set up sets same =
    let is : same_set set (last_set g.sets) ≡ true = ap (λ v. same_set set (last_set v)) sets ∙ ap (λ v. same_set v acting) same ∙ same_itself acting in
    ap (λ b. if b then with_up g up else (if has_all_intervals g then g else begin (with_up g up) set)) is

pub keeps_restart : (g : Group) (acting : List ℕ) (d : ℕ) → g.sets ≡ acting ∷ [] → is_in acting d ≡ false → group_step g (Restart d) ≡ record g { copies = map (as_restarted d) g.copies }
keeps_restart g acting d sets out =
    let h : Group = record g { copies = map (as_restarted d) g.copies } in
    let is : is_in (last_set g.sets) d ≡ false = ap (λ v. is_in (last_set v) d) sets ∙ out in
    ap (λ b. if b then (if has_all_intervals g then g else begin (record g { copies = map (as_restarted d) g.copies }) (last_set g.sets)) else record g { copies = map (as_restarted d) g.copies }) is

module _ (z p : ℕ) (os : List ℕ) (f : Daemon → Daemon) (keeps : (c : Daemon) → is_in (p ∷ os) c.number ≡ true → f c ≡ c) where
  abbrev moved : Group → List ℕ → Group
  moved g up = record g { up = up; copies = map f g.copies }

  keeps_running : (g : Group) (up : List ℕ) (wire : List Sent) (c : Daemon) → c.number ≡ p → ((d : ℕ) → is_in (p ∷ os) d ≡ true → is_in up d ≡ true) →
      Running z p os g wire c → Running z p os (moved g up) wire c
  keeps_running g up wire c number live run = record {
    primary = mapped_at f g.copies p c run.primary (keeps c (or_left (p == c.number) (is_in os c.number) (eq-eqb p c.number (sym number))));
    members = λ d is. (let old = run.members d is in record {
      copy = old.copy;
      here = mapped_at f g.copies d old.copy old.here (keeps old.copy (subst (λ v. is_in (p ∷ os) v ≡ true) (sym old.number) (or_right (p == d) (is_in os d) is)));
      number = old.number;
      stage = old.stage;
    });
    once = run.once;
    asked = run.asked;
    told = run.told;
    order = run.order;
    said = run.said;
    role = run.role;
    sets = run.sets;
    are_up = live;
  }

  pub keeps_due : (g : Group) (up : List ℕ) (due : ℕ) → ((d : ℕ) → is_in (p ∷ os) d ≡ true → is_in up d ≡ true) → Due z p os g due → Due z p os (moved g up) due
  keeps_due g up due live (inl now) = inl (record { rest = now.rest; is = now.is; usual = now.usual; running = keeps_running g up _ (blank z p) refl live now.running; owes = now.owes })
  keeps_due g up due live (inr now) = inr (record {
    base = now.base;
    log = now.log;
    role = now.role;
    waiting = now.waiting;
    usual = now.usual;
    running = keeps_running g up g.wire (lead_copy z p os now.base now.log now.role now.waiting) refl live now.running;
    owes = now.owes;
  })

module _ (z p : ℕ) (os : List ℕ) where
  due_sets : (g : Group) (due : ℕ) → Due z p os g due → g.sets ≡ (p ∷ os) ∷ []
  due_sets g due (inl now) = now.running.sets
  due_sets g due (inr now) = now.running.sets

  due_up : (g : Group) (due : ℕ) → Due z p os g due → (d : ℕ) → is_in (p ∷ os) d ≡ true → is_in g.up d ≡ true
  due_up g due (inl now) = now.running.are_up
  due_up g due (inr now) = now.running.are_up

  pub interval_keeps : (g : Group) (due : ℕ) (set up : List ℕ) → KeepsSet (p ∷ os) set up → Due z p os g due → Kept (Due z p os) g (group_step g (NewInterval set up)) due
  interval_keeps g due set up keeps now =
      let step : group_step g (NewInterval set up) ≡ with_up g up = keeps_interval g (p ∷ os) set up (due_sets g due now) keeps.same in
      subst (λ v. Kept (Due z p os) g v due) (sym step) (record {
        now = keeps_due z p os (as_up g.up up) (λ c is. as_up_keeps g.up up c (keeps.live c.number is)) g up due keeps.live now;
        requests = refl;
      })

  pub restart_keeps : (g : Group) (due : ℕ) (d : ℕ) → is_in (p ∷ os) d ≡ false → Due z p os g due → Kept (Due z p os) g (group_step g (Restart d)) due
  restart_keeps g due d out now =
      let step : group_step g (Restart d) ≡ record g { copies = map (as_restarted d) g.copies } = keeps_restart g (p ∷ os) d (due_sets g due now) out in
      subst (λ v. Kept (Due z p os) g v due) (sym step) (record {
        now = keeps_due z p os (as_restarted d) (λ c is. as_restarted_keeps (p ∷ os) d c out is) g g.up due (due_up g due now) now;
        requests = refl;
      })
