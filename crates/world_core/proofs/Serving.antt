-- A world takes the steps of the service.
use Prim.Native.Nat.{suc}
use Rattle.std.proofs.Common.{◌≡◌, ◌∙◌, ℕ, ◌+◌, ◌<◌, ◌≤◌, ◌==◌, ◌||◌, List, ◌∷◌, ◌++◌, Bool, true, false, if◌then◌else◌, Some, None, Result, map, length, refl, sym, ap, subst, arith, append-nil, length-append, []}
use Rattle.std.specs.Prelude.{Contains, fold}
use Rattle.std.specs.Option.{option_map}
use Rattle.store_core.specs.Request.{Sealed}
use Rattle.entry_core.specs.Log.{is_in, LegalFrom, reply_in}
use Rattle.store_core.specs.declared.reply.Reply.{Reply}
use Rattle.store_core.specs.declared.entry.Entry.{Entry}
use Rattle.group_model_whole.specs.Each.{Each}
use Rattle.group_model.specs.Group.{submitted}
use Rattle.group_model_whole.specs.Asked.{IsAsked}
use Rattle.group_model_whole.proofs.Audits.{legal_rest}
use Rattle.world_events.specs.declared.event.Event.{Event}
use Rattle.world_events.specs.declared.event.Told.{Told}
use Rattle.world_events.specs.declared.fault.WorldFault.{WorldFault as Fault}
use Rattle.world_front.specs.ControlPlane.{sealed_by}
use Rattle.world_core.specs.World.{World, counts, is_accepted, world_step}
use Rattle.world_core.specs.Answers.{answer_at}
use Rattle.world_core.specs.Applying.{Applies}
use Rattle.world_core.specs.Sound.{IsSound}
use Rattle.world_events.specs.Submitting as submitting
use Rattle.world_core.specs.Service.{AreNew, AreDecided, Step, Reaches, begun}
use Rattle.world_core.specs.Serving.{service_of, submitted_by, submitted_through}
use Rattle.world_core.proofs.Limits.{few_submissions}
use Rattle.world_core.proofs.Messages.{accepted_when}
use Rattle.world_core.proofs.Sounds.{sound_on, few_numbers}
use Rattle.world_core.proofs.Worlds.{world_legal, world_replied, audit_grows, answers_stand, world_one_list}
use Rattle.group_model.proofs.Twins.{reached_replicated}
use Rattle.world_core.specs.Calls.{KeepsPromises}
use Rattle.world_core.proofs.Replied.{world_answered}
use Rattle.world_core.specs.Holds.{AcceptedFrom}
use Rattle.world_front.proofs.NewRequests.{event_new}
use Rattle.world_core.proofs.Accepted.{front_tells, group_served}

-- ---- requests

absent : (rs : List Sealed) (id : ℕ) → submitted rs id ≡ None → is_in (map (λ (r : Sealed). r.id) rs) id ≡ false
absent [] id none = refl
absent (r ∷ rs) id none = go (r.id == id) none (absent rs id)
  where
    go : (b : Bool) → (if b then Some r else submitted rs id) ≡ None → (submitted rs id ≡ None → is_in (map (λ (x : Sealed). x.id) rs) id ≡ false) → (b || is_in (map (λ (x : Sealed). x.id) rs) id) ≡ false
    go true e rest = absurd (cc)
    go false e rest = rest e

pub are_new : (old rs : List Sealed) → submitting.AreNew old rs → AreNew old rs
are_new old [] h = tt
are_new old (r ∷ rs) h = (absent old r.id h.0, are_new (old ++ r ∷ []) rs h.1)

there : (rs : List Sealed) (id : ℕ) (s : Sealed) → submitted rs id ≡ Some s → Contains rs s
there [] id s is = absurd (cc)
there (r ∷ rs) id s is = go (r.id == id) is (there rs id s)
  where
    go : (b : Bool) → (if b then Some r else submitted rs id) ≡ Some s → (submitted rs id ≡ Some s → Contains rs s) → Contains (r ∷ rs) s
    go true one rest = let same : r ≡ s = cc in (0, omega arith, same)
    go false more rest = let c = rest more in let low : c.0 < length rs = c.1 in (suc c.0, omega arith, c.2)

-- ---- entries

each_rest : (P : Entry → Type 0) (xs ys : List Entry) → Each P (xs ++ ys) → Each P ys
each_rest P [] ys h = h
each_rest P (x ∷ xs) ys h = each_rest P xs ys h.1

pub are_decided : (subs : List Sealed) (old es : List Entry) → LegalFrom old es → Each (λ x. IsAsked subs x.sealed) es → AreDecided subs old es
are_decided subs old [] legal asked = tt
are_decided subs old (e ∷ es) legal asked = (there subs e.sealed.id e.sealed asked.0, legal.0, legal.1, are_decided subs (old ++ e ∷ []) es legal.2 asked.1)

pub is_reply : (w : World) → IsSound w → (id : ℕ) (reply : Reply) → answer_at w id ≡ Some reply → reply_in w.audit id ≡ Some reply
is_reply w h id reply is =
    let r = world_replied w h.stands id reply is in
    ap (λ o. option_map (λ (e : Entry). e.reply) o) r.found ∙ ap (λ x. Some x) r.is

pub world_serves : (w : World) (e : Event) → IsSound w → is_accepted w e ≡ true → Step (sealed_by w.front e) (service_of w) (service_of (world_step w e))
world_serves w e h accepted =
    let new : World = world_step w e in
    let sound : IsSound new = sound_on w e h accepted in
    let subs : List Sealed = new.front.submissions in
    let g = audit_grows w e in
    let few : length w.front.submissions ≤ 33554432 = few_submissions w.front h.kept.front in
    let all : length (w.front.submissions ++ sealed_by w.front e) ≤ 33554432 = few_submissions new.front sound.kept.front in
    let sum : length (w.front.submissions ++ sealed_by w.front e) ≡ length w.front.submissions + length (sealed_by w.front e) = length-append w.front.submissions (sealed_by w.front e) in
    let legal : LegalFrom w.audit g.rest = legal_rest [] w.audit g.rest (subst (LegalFrom []) (sym g.whole) (world_legal new sound.stands)) in
    let asked : Each (λ x. IsAsked subs x.sealed) g.rest = each_rest (λ x. IsAsked subs x.sealed) w.audit g.rest (subst (Each (λ x. IsAsked subs x.sealed)) (sym g.whole) sound.stands.asked) in
    record {
      submitted = refl;
      under_new_ids = are_new w.front.submissions (sealed_by w.front e) (event_new w.front e h.stands.front few (omega arith));
      more = g.rest;
      decided = sym g.whole;
      by_one_store = are_decided subs w.audit g.rest legal asked;
      answers_stand = answers_stand w e;
      answered = is_reply new sound;
    }

-- nothing happens
pub stays : (w : World) → IsSound w → Step [] (service_of w) (service_of w)
stays w h = record {
  submitted = sym (append-nil w.front.submissions);
  under_new_ids = tt;
  more = [];
  decided = sym (append-nil w.audit);
  by_one_store = tt;
  answers_stand = λ id reply is. is;
  answered = is_reply w h;
}

-- what a call does, accepted or not
pub applied_serves : (old new : World) (e : Event) (r : Result Told Fault) → IsSound old → Applies old e r new → Step (submitted_by old.front e r) (service_of old) (service_of new)
applied_serves old new e r h a = go (counts e r) refl
  where
    go : (b : Bool) → counts e r ≡ b → Step (if counts e r then sealed_by old.front e else []) (service_of old) (service_of new)
    go true is =
        let P : World → Type 0 = λ w. Step (sealed_by old.front e) (service_of old) (service_of w) in
        let Q : Bool → Type 0 = λ b. Step (if b then sealed_by old.front e else []) (service_of old) (service_of new) in
        subst Q (sym is) (subst P (sym (a.steps is)) (world_serves old e h (accepted_when old e r a.refused is)))
    go false is =
        let P : World → Type 0 = λ w. Step [] (service_of old) (service_of w) in
        let Q : Bool → Type 0 = λ b. Step (if b then sealed_by old.front e else []) (service_of old) (service_of new) in
        subst Q (sym is) (subst P (sym (a.unchanged is)) (stays old h))

-- a sound world is one step from the beginning
pub from_begun : (w : World) → IsSound w → Step w.front.submissions begun (service_of w)
from_begun w h = record {
  submitted = refl;
  under_new_ids = are_new [] w.front.submissions h.new;
  more = w.audit;
  decided = refl;
  by_one_store = are_decided w.front.submissions [] w.audit (world_legal w h.stands) h.stands.asked;
  answers_stand = λ id reply is. absurd (cc);
  answered = is_reply w h;
}

-- accepted events are as many steps
pub serves_through : (es : List Event) (w : World) → IsSound w → AcceptedFrom w es → Reaches (submitted_through w.front es) (service_of w) (service_of (fold world_step w es))
serves_through [] w h a = refl
serves_through (e ∷ es) w h a = (service_of (world_step w e), world_serves w e h a.0, serves_through es (world_step w e) (sound_on w e h a.0) a.1)

-- ---- what a sound world keeps

pub sound_promises : (w : World) → IsSound w → KeepsPromises w
sound_promises w h = record {
  reached = (w.front.submissions ∷ [], (service_of w, from_begun w h, refl));
  one_list = world_one_list w h.stands;
  numbers = few_numbers w.front h.kept.front;
  requests = λ id g there. (h.kept.groups id g there).requests;
  front = front_tells w h.kept h.stands.front;
  intervals = λ id g there. (h.kept.groups id g there).sets.are;
  groups = λ id g there. record {
    served = group_served w id g h.kept there;
    replicated = reached_replicated g (h.kept.groups id g there).within.is.reached;
  };
  answers = λ id reply is. world_answered w id reply h.stands is;
}
