-- The deliveries of a settling, group by group.
use Prim.Native.Nat.{zero, suc}
use Rattle.std.proofs.Common.{◌≡◌, ◌∙◌, ℕ, ◌+◌, List, [], ◌∷◌, ◌++◌, Bool, true, false, if◌then◌else◌, Option, Some, None, map, length, fold, replicate, refl, sym, ap, arith, append-nil, append_assoc}
use Rattle.std.specs.Prelude.{nat_lt, slice_get}
use Rattle.std.specs.Option.{option_map, option_or}
use Rattle.std.proofs.lemmas.Bool.Decides.{nat_tests}
use Rattle.store_core.specs.Deciding.{store_of, decision_on, name_of}
use Rattle.store_core.specs.Objects.{changed}
use Rattle.entry_core.specs.Log.{LegalFrom, decision, is_in}
use Rattle.store_core.specs.Request.{Sealed}
use Rattle.store_core.specs.declared.entry.Entry.{Entry}
use Rattle.store_core.specs.declared.sealed.GroupId.{GroupId}
use Rattle.entry_core.proofs.Lawful.{decision_tells_the_store}
use Rattle.group_model.specs.Types.{Sent, Party, Client, Osd}
use Rattle.group_model_whole.specs.Each.{Each}
use Rattle.group_model.specs.Group.{Group, group_step, run, deliver, delivered, delivered_now, delivered_to, refusal_to, refusal_at}
use Rattle.group_model.specs.Group as group
use Rattle.group_messages.specs.declared.fault.GroupFault.TheVariants as group_fault
use Rattle.group_model_whole.specs.Calm.{answer_with}
use Rattle.group_model.proofs.Runs.{delivered_idle}
use Rattle.world_events.specs.declared.event.Event.{Event}
use Rattle.world_events.specs.declared.event.Event.TheVariants.{Deliver}
use Rattle.world_events.specs.declared.fault.WorldFault.TheVariants.{Group as OfGroup}
use Rattle.world_front.specs.ControlPlane.{group_refusal}
use Rattle.world_core.specs.World.{World, group_at, decided_in, acted, refused_in, refusal_of, world_step}
use Rattle.world_laws.specs.Recovery.{if_sent, deliveries_of}
use Rattle.world_script.specs.Script.{has_messages, events_while, emptied_within, one_if_none, unrefused}
use Rattle.script_laws.specs.Plain.{Plain, decides}
use Rattle.world_core.proofs.Acting.{gained}
use Rattle.world_core.proofs.Requests.{IsMessage}
use Rattle.world_laws.proofs.KickRecovery.{shown, shown_part, shown_step, shown_front}

-- ---- the events

-- message 0 until none is left, as often as there is one
pub emptied_is : (most : ℕ) (id : GroupId) (w : World) (g : Group) → group_at id w.groups ≡ Some g → emptied_within Deliver id most w ≡ replicate (deliveries_of most g) (Deliver id 0)
emptied_is zero id w g there = refl
emptied_is (suc most) id w g there =
    ap (λ o. events_while (has_messages o) (Deliver id 0) w (emptied_within Deliver id most)) there
    ∙ by g.wire refl (emptied_is most id (world_step w (Deliver id 0)) (group_step g (group.Deliver 0)) (shown_step w id (group.Deliver 0) g tt there))
  where
    by : (ms : List Sent) → g.wire ≡ ms → emptied_within Deliver id most (world_step w (Deliver id 0)) ≡ replicate (deliveries_of most (group_step g (group.Deliver 0))) (Deliver id 0)
        → events_while (nat_lt 0 (length g.wire)) (Deliver id 0) w (emptied_within Deliver id most) ≡ replicate (if_sent (slice_get g.wire 0) (suc (deliveries_of most (group_step g (group.Deliver 0))))) (Deliver id 0)
    by [] is rest =
        ap (λ l. events_while (nat_lt 0 (length l)) (Deliver id 0) w (emptied_within Deliver id most)) is
        ∙ sym (ap (λ l. replicate (if_sent (slice_get l 0) (suc (deliveries_of most (group_step g (group.Deliver 0))))) (Deliver id 0)) is)
    by (m ∷ ms) is rest =
        let some : nat_lt 0 (length (m ∷ ms)) ≡ true = grind (arith, nat_tests) in
        ap (λ l. events_while (nat_lt 0 (length l)) (Deliver id 0) w (emptied_within Deliver id most)) is
        ∙ ap (λ b. events_while b (Deliver id 0) w (emptied_within Deliver id most)) some
        ∙ ap (λ l. Deliver id 0 ∷ l) rest
        ∙ sym (ap (λ l. replicate (if_sent (slice_get l 0) (suc (deliveries_of most (group_step g (group.Deliver 0))))) (Deliver id 0)) is)

-- ---- how many reach their addressee

reached : (w : World) (id : GroupId) (g : Group) (m : Sent) → group_refusal w.front id ≡ None → group_at id w.groups ≡ Some g → slice_get g.wire 0 ≡ Some m → one_if_none (refusal_of w (Deliver id 0)) ≡ delivered_to m.to g
reached w id g m named there is =
    ap (λ o. one_if_none (option_or o (option_map OfGroup (option_or (refused_in (group_at id w.groups) (group.Deliver 0)) None)))) named
    ∙ ap (λ o. one_if_none (option_map OfGroup (option_or (refused_in o (group.Deliver 0)) None))) there
    ∙ ap (λ o. one_if_none (option_map OfGroup (option_or (refusal_at g 0 o) None))) is
    ∙ to m.to
  where
    to : (party : Party) → one_if_none (option_map OfGroup (option_or (refusal_to g party) None)) ≡ delivered_to party g
    to Client = refl
    to (Osd d) = by (is_in g.up d)
      where
        by : (b : Bool) → one_if_none (option_map OfGroup (option_or (if b then None else Some group_fault.Unreachable) None)) ≡ (if b then 1 else 0)
        by true = refl
        by false = refl

pub unrefused_is : (most : ℕ) (id : GroupId) (w : World) (g : Group) → group_refusal w.front id ≡ None → group_at id w.groups ≡ Some g → unrefused w (replicate (deliveries_of most g) (Deliver id 0)) ≡ delivered most g
unrefused_is zero id w g named there = refl
unrefused_is (suc most) id w g named there =
    by (slice_get g.wire 0) refl
    (unrefused_is most id (world_step w (Deliver id 0)) (group_step g (group.Deliver 0)) (ap (λ f. group_refusal f id) (shown_front w.front id (group.Deliver 0) tt) ∙ named) (shown_step w id (group.Deliver 0) g tt there))
  where
    by : (o : Option Sent) → slice_get g.wire 0 ≡ o → unrefused (world_step w (Deliver id 0)) (replicate (deliveries_of most (group_step g (group.Deliver 0))) (Deliver id 0)) ≡ delivered most (group_step g (group.Deliver 0))
        → unrefused w (replicate (if_sent o (suc (deliveries_of most (group_step g (group.Deliver 0))))) (Deliver id 0)) ≡ delivered_now o g + delivered most (group_step g (group.Deliver 0))
    by None is rest =
        let stays : group_step g (group.Deliver 0) ≡ g = ap (deliver g 0) is in
        let none : delivered most (group_step g (group.Deliver 0)) ≡ 0 = ap (delivered most) stays ∙ delivered_idle most g is in
        sym (ap (λ n. 0 + n) none)
    by (Some m) is rest = ap (λ n. n + unrefused (world_step w (Deliver id 0)) (replicate (deliveries_of most (group_step g (group.Deliver 0))) (Deliver id 0))) (reached w id g m named there is) ∙ ap (λ n. delivered_to m.to g + n) rest

pub unrefused_join : (xs ys : List Event) (w : World) → unrefused w (xs ++ ys) ≡ unrefused w xs + unrefused (fold world_step w xs) ys
unrefused_join [] ys w = sym (none (unrefused w ys))
  where
    none : (n : ℕ) → 0 + n ≡ n
    none n = omega arith
unrefused_join (x ∷ xs) ys w = ap (λ n. one_if_none (refusal_of w x) + n) (unrefused_join xs ys (world_step w x)) ∙ sum (one_if_none (refusal_of w x)) (unrefused (world_step w x) xs) (unrefused (fold world_step (world_step w x) xs) ys)
  where
    sum : (a b c : ℕ) → a + (b + c) ≡ (a + b) + c
    sum a b c = omega arith

-- ---- what they decide

-- the same entries are new in the world and in the group
pub record Gains (w w' : World) (g g' : Group) : Type 0 where
  pub new : List Entry
  pub world : w'.audit ≡ w.audit ++ new
  pub group : g'.audit ≡ g.audit ++ new

pub gains : (es : List group.Event) (w : World) (id : GroupId) (g : Group) → Each IsMessage es → group_at id w.groups ≡ Some g → Gains w (fold world_step w (map (shown id) es)) g (run es g)
gains [] w id g h there = record { new = []; world = sym (append-nil w.audit); group = sym (append-nil g.audit) }
gains (e ∷ es) w id g h there =
    let rest : Gains (world_step w (shown id e)) (fold world_step (world_step w (shown id e)) (map (shown id) es)) (group_step g e) (run es (group_step g e)) =
    gains es (world_step w (shown id e)) id (group_step g e) h.1 (shown_step w id e g h.0 there) in
    let now : List Entry = decided_in (Some g) e in
    let first : (world_step w (shown id e)).audit ≡ w.audit ++ now = ap (λ ps. (acted w ps).audit) (shown_part w.front id e h.0) ∙ ap (λ o. w.audit ++ decided_in o e) there in
    record {
      new = now ++ rest.new;
      world = rest.world ∙ ap (λ l. l ++ rest.new) first ∙ append_assoc w.audit now rest.new;
      group = rest.group ∙ ap (λ l. l ++ rest.new) (gained g e) ∙ append_assoc g.audit now rest.new;
    }

-- one store decides them alike
pub decides_all : (new log : List Entry) (p : Plain) → p.objects ≡ store_of log → LegalFrom log new → fold decides p (map (λ e. e.sealed) new) ≡ record p { objects = store_of (log ++ new); answers = p.answers ++ map answer_with new }
decides_all [] log p is legal =
    ap (λ o. record p { objects = o }) (is ∙ ap store_of (sym (append-nil log))) ∙ ap (λ l. record p { objects = store_of (log ++ []); answers = l }) (sym (append-nil p.answers))
decides_all (e ∷ es) log p is legal =
    let s : Sealed = e.sealed in
    let told : decision_on p.objects s ≡ decision log s = ap (λ o. decision_on o s) is in
    let objects : changed p.objects (name_of s) (decision_on p.objects s).change ≡ store_of (log ++ e ∷ []) =
    ap (λ d. changed p.objects (name_of s) d.change) told ∙ ap (λ o. changed o (name_of s) (decision log s).change) is
    ∙ sym (decision_tells_the_store log s) ∙ ap (λ x. store_of (log ++ x ∷ [])) (sym legal.1) in
    let answers : p.answers ++ record { id = s.id; reply = (decision_on p.objects s).entry.reply } ∷ [] ≡ p.answers ++ answer_with e ∷ [] =
    ap (λ d. p.answers ++ record { id = s.id; reply = d.entry.reply } ∷ []) told ∙ ap (λ x. p.answers ++ record { id = s.id; reply = x.reply } ∷ []) (sym legal.1) in
    let rest = decides_all es (log ++ e ∷ []) (decides p s) objects legal.2 in
    rest
    ∙ ap (λ l. record p { objects = store_of l; answers = (decides p s).answers ++ map answer_with es }) (append_assoc log (e ∷ []) es)
    ∙ ap (λ l. record p { objects = store_of (log ++ e ∷ es); answers = l ++ map answer_with es }) answers
    ∙ ap (λ l. record p { objects = store_of (log ++ e ∷ es); answers = l }) (append_assoc p.answers (answer_with e ∷ []) (map answer_with es))
