-- Events, one after another.
use Prim.Native.Nat.{zero, suc}
use Rattle.std.proofs.Common.{◌≡◌, ◌∙◌, ◌⊎◌, inl, inr, ℕ, ◌+◌, ◌<◌, List, [], ◌∷◌, ◌++◌, true, false, Some, None, Result, Ok, Err, IsOk, length, take, get_or, refl, sym, ap, subst, arith}
use Rattle.std.specs.Prelude.{fold, slice_get}
use Rattle.std.proofs.lemmas.List.{take_more}
use Rattle.grant_core.specs.Flat.{Table}
use Rattle.world_events.specs.declared.event.Event.{Event}
use Rattle.world_events.specs.declared.event.Told.{Told}
use Rattle.world_events.specs.declared.fault.WorldFault.{WorldFault as Fault}
use Rattle.world_events.specs.declared.fault.WorldFault.TheVariants.{OutOfMemory}
use Rattle.world_core.specs.World.{World, accepts, counts, first_world, is_accepted, refusal_of, world_after, world_step}
use Rattle.world_core.specs.Holds.{AcceptedFrom, AreAccepted, Holds}
use Rattle.world_front.specs.Refusing.{RefusedOrMemory}
use Rattle.world_core.specs.Calls.{AreUnrefused, IsFirstRefused, UnrefusedFrom}
use Rattle.world_front.specs.ControlPlane.{first_front}
use Rattle.world_core.specs.Service.{Reaches, begun}
use Rattle.world_core.specs.Serving.{service_of, submitted_through}
use Rattle.world_core.proofs.Holding.{world_holds}
use Rattle.world_core.proofs.Sounds.{first_sound}
use Rattle.world_core.proofs.Serving.{serves_through}

-- the world after these events, of which nothing refused one
pub record IsAfter (table : Table) (daemons : ℕ) (events : List Event) (w : World) : Type 0 where
  pub holds : Holds table daemons events w
  pub accepted : AreAccepted table daemons events
  pub unrefused : AreUnrefused table daemons events

pub after_none : (table : Table) (daemons : ℕ) (w : World) → w ≡ first_world table daemons → IsAfter table daemons [] w
after_none table daemons w is = record { holds = subst (Holds table daemons []) (sym is) (world_holds table daemons [] (omega arith)); accepted = tt; unrefused = tt }

accepted_push : (w : World) (es : List Event) (e : Event) → AcceptedFrom w es → is_accepted (fold world_step w es) e ≡ true → AcceptedFrom w (es ++ e ∷ [])
accepted_push w [] e all is = (is, tt)
accepted_push w (x ∷ xs) e all is = (all.0, accepted_push (world_step w x) xs e all.1 is)

unrefused_push : (w : World) (es : List Event) (e : Event) → UnrefusedFrom w es → refusal_of (fold world_step w es) e ≡ None → UnrefusedFrom w (es ++ e ∷ [])
unrefused_push w [] e all is = (is, tt)
unrefused_push w (x ∷ xs) e all is = (all.0, unrefused_push (world_step w x) xs e all.1 is)

-- one event more, which nothing refused
pub after_next : (table : Table) (daemons : ℕ) (events : List Event) (k : ℕ) (d e copy : Event) (old new : World) (told : Told) → k < length events → e ≡ get_or events k d → copy ≡ e
    → IsAfter table daemons (take k events) old
    → ((before : List Event) → Holds table daemons before old → true ≡ true → Holds table daemons (before ++ copy ∷ []) new)
    → RefusedOrMemory (refusal_of old copy) (Ok told) → IsAfter table daemons (take (k + 1) events) new
after_next table daemons events k d e copy old new told low is same h holds refused =
    let es : List Event = take k events in
    let here : copy ≡ get_or events k d = same ∙ is in
    let P : List Event → Type 0 = λ l. IsAfter table daemons l new in
    let next : take (k + 1) events ≡ es ++ copy ∷ [] = take_more events k d low ∙ ap (λ x. es ++ x ∷ []) (sym here) in
    subst P (sym next) (record {
      holds = holds es h.holds refl;
      accepted = accepted_push (first_world table daemons) es copy h.accepted (ap (λ w. is_accepted w copy) (sym h.holds.made) ∙ ap (accepts copy) refused);
      unrefused = unrefused_push (first_world table daemons) es copy h.unrefused (ap (λ w. refusal_of w copy) (sym h.holds.made) ∙ refused);
    })

-- one event more, whose answer is no refusal
pub after_answer : (table : Table) (daemons : ℕ) (events : List Event) (k : ℕ) (d e copy : Event) (old new : World) (done : Result Told Fault) → k < length events → e ≡ get_or events k d → copy ≡ e
    → IsAfter table daemons (take k events) old
    → ((before : List Event) → Holds table daemons before old → counts copy done ≡ true → Holds table daemons (before ++ copy ∷ []) new)
    → RefusedOrMemory (refusal_of old copy) done → IsOk done → IsAfter table daemons (take (k + 1) events) new
after_answer table daemons events k d e copy old new (Ok told) low is same h holds refused ok = after_next table daemons events k d e copy old new told low is same h holds refused
after_answer table daemons events k d e copy old new (Err fault) low is same h holds refused ok = absurd (let no : false ≡ true = ok in cc)

there_is : (events : List Event) (k : ℕ) (d : Event) → k < length events → slice_get events k ≡ Some (get_or events k d)
there_is [] k d low = absurd (omega arith)
there_is (x ∷ xs) zero d low = refl
there_is (x ∷ xs) (suc k) d low = there_is xs k d (omega arith)

-- where it stops
pub stops : (table : Table) (daemons : ℕ) (events : List Event) (k : ℕ) (d : Event) (w : World) (fault : Fault) → k < length events → IsAfter table daemons (take k events) w
    → (fault ≡ OutOfMemory) ⊎ (refusal_of w (get_or events k d) ≡ Some fault) → IsFirstRefused table daemons events k fault
stops table daemons events k d w fault low h refused = record { event = get_or events k d; there = there_is events k d low; before = h.accepted; unrefused = h.unrefused; refused = go refused }
  where
    go : (fault ≡ OutOfMemory) ⊎ (refusal_of w (get_or events k d) ≡ Some fault) → (fault ≡ OutOfMemory) ⊎ (refusal_of (world_after table daemons (take k events)) (get_or events k d) ≡ Some fault)
    go (inl x) = inl x
    go (inr x) = inr (ap (λ v. refusal_of v (get_or events k d)) (sym h.holds.made) ∙ x)

-- where it stops at an answer
pub stops_at : (table : Table) (daemons : ℕ) (events : List Event) (k : ℕ) (d e copy : Event) (w : World) (done : Result Told Fault) (fault : Fault) → k < length events → e ≡ get_or events k d → copy ≡ e → IsAfter table daemons (take k events) w
    → RefusedOrMemory (refusal_of w copy) done → done ≡ Err fault → IsFirstRefused table daemons events k fault
stops_at table daemons events k d e copy w done fault low is same h refused told =
    let here : copy ≡ get_or events k d = same ∙ is in
    let why : RefusedOrMemory {T = Told} (refusal_of w copy) (Err fault) = subst (RefusedOrMemory (refusal_of w copy)) told refused in
    stops table daemons events k d w fault low h (subst (λ x. (fault ≡ OutOfMemory) ⊎ (refusal_of w x ≡ Some fault)) here why)

-- it is reached by as many steps of the service
pub run_serves : (table : Table) (daemons : ℕ) (events : List Event) (w : World) → IsAfter table daemons events w → Reaches (submitted_through (first_front table daemons) events) begun (service_of w)
run_serves table daemons events w h =
    let P : World → Type 0 = λ v. Reaches (submitted_through (first_front table daemons) events) begun (service_of v) in
    subst P (sym h.holds.made) (serves_through events (first_world table daemons) (first_sound table daemons) h.accepted)
