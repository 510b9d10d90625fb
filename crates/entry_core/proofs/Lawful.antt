-- Laws of deciding.
use Rattle.std.proofs.Common.{◌≡◌, ℕ, List, [], ◌∷◌, ◌++◌, Bool, true, false, not, cond, Option, Some, None, Ok, Err, refl, ap, ◌∙◌}
use Rattle.std.proofs.lemmas.List.Sums.{fold-append}
use Rattle.std.specs.Ordering.{eq_by_cmp}
use Rattle.std.specs.FinMap.{empty, get, get-insert, get-remove}
use Rattle.verdict_core.specs.Verdict.{report_of}
use Rattle.object_core.specs.Content.{Content}
use Rattle.object_core.specs.Effect.{effect}
use Rattle.object_core.specs.Operations.{Run, left_by}
use Rattle.object_core.specs.declared.op.Op.{Op}
use Rattle.store_core.specs.Request.{Sealed, Work, Vector, Listing, target_of, needs_for}
use Rattle.store_core.specs.Store.{Store, ObjectName, name_cmp, with_object}
use Rattle.store_core.specs.Names.{name_cmp_total, is_same-ties, same_from_is_same}
use Rattle.store_core.specs.Deciding.{store_of, step, stepped, answered, ran, performed, answer_on, is_allowed_sealed, name_of}
use Rattle.entry_core.specs.Laws.{is_denied, is_done, VerdictIsSealed, RefusalsLeaveTheStore, OthersAreLeft, DecisionTellsTheStore}
use Rattle.store_core.specs.Objects.{changed}
use Rattle.entry_core.specs.Log.{decide}
use Rattle.store_core.specs.declared.reply.Reply.{Reply}
use Rattle.store_core.specs.declared.reply.Reply.TheVariants.{Denied, Done, Failed, Names}
use Rattle.store_core.specs.declared.entry.Entry.{Entry}

-- one more entry is one more step
pub store_push : (log : List Entry) (e : Entry) → store_of (log ++ e ∷ []) ≡ step (store_of log) e
store_push log e = fold-append step empty log (e ∷ [])

ran_kept : (r : Run) → is_denied (ran r).reply ≡ false
ran_kept (Ok done) = refl
ran_kept (Err fault) = refl

performed_kept : (store : Store) (s : Sealed) (w : Work) → is_denied (performed store s w).reply ≡ false
performed_kept store s (Vector object ops) = ran_kept (effect (get store (name_of s)) ops)
performed_kept store s Listing = refl

judged : (b : Bool) (store : Store) (s : Sealed) (report : Reply) → is_denied report ≡ true
    → let r = (cond b (performed store s s.work) (answered report)).reply in (is_denied r ≡ not b) × (b ≡ false → r ≡ report)
judged true store s report h = (performed_kept store s s.work, λ e. absurd (cc))
judged false store s report h = (h, λ e. refl)

pub verdict_is_sealed : VerdictIsSealed
unfolding answer_on
verdict_is_sealed log s = judged (is_allowed_sealed s) (store_of log) s (Denied (report_of s.ticket (target_of s) (needs_for s.work) s.tick)) refl

refused_step : (store : Store) (s : Sealed) (w : Work) (r : Reply) → is_done r ≡ false → stepped store s w r ≡ store
refused_step store s (Vector object ops) (Denied report) h = refl
refused_step store s (Vector object ops) (Done outputs) h = absurd (cc)
refused_step store s (Vector object ops) (Failed place number) h = refl
refused_step store s (Vector object ops) (Names names) h = refl
refused_step store s Listing r h = refl

pub refusals_leave_the_store : RefusalsLeaveTheStore
refusals_leave_the_store log e h = store_push log e ∙ refused_step (store_of log) e.sealed e.sealed.work e.reply h

not_tied : (b : Bool) (a c : Option Content) → (b ≡ true → ⊥) → cond b a c ≡ c
not_tied true a c h = absurd (h refl)
not_tied false a c h = refl

with_other : (store : Store) (k q : ObjectName) (o : Option Content) → (q ≡ k → ⊥) → get (with_object store k o) q ≡ get store q
with_other store k q (Some c) h = get-insert name_cmp_total store k c q ∙ not_tied (eq_by_cmp name_cmp q k) _ _ (λ t. h (same_from_is_same q k (is_same-ties q k ∙ t)))
with_other store k q None h = get-remove name_cmp_total store k q ∙ not_tied (eq_by_cmp name_cmp q k) _ _ (λ t. h (same_from_is_same q k (is_same-ties q k ∙ t)))

other_step : (store : Store) (s : Sealed) (w : Work) (r : Reply) (q : ObjectName) → (q ≡ name_of s → ⊥) → get (stepped store s w r) q ≡ get store q
other_step store s (Vector object ops) (Denied report) q h = refl
other_step store s (Vector object ops) (Done outputs) q h = with_other store (name_of s) q _ h
other_step store s (Vector object ops) (Failed place number) q h = refl
other_step store s (Vector object ops) (Names names) q h = refl
other_step store s Listing r q h = refl

pub others_are_left : OthersAreLeft
others_are_left log e q h = ap (λ s. get s q) (store_push log e) ∙ other_step (store_of log) e.sealed e.sealed.work e.reply q h

ran_step : (store : Store) (s : Sealed) (object : List ℕ) (ops : List Op) (r : Run) → effect (get store (name_of s)) ops ≡ r → stepped store s (Vector object ops) (ran r).reply ≡ changed store (name_of s) (ran r).change
ran_step store s object ops (Ok done) h = ap (λ t. with_object store (name_of s) (left_by (get store (name_of s)) t)) h
ran_step store s object ops (Err fault) h = refl

performed_step : (store : Store) (s : Sealed) (w : Work) → stepped store s w (performed store s w).reply ≡ changed store (name_of s) (performed store s w).change
performed_step store s (Vector object ops) = ran_step store s object ops _ refl
performed_step store s Listing = refl

judged_step : (b : Bool) (store : Store) (s : Sealed) (report : Reply) → is_done report ≡ false
    → let a = cond b (performed store s s.work) (answered report) in stepped store s s.work a.reply ≡ changed store (name_of s) a.change
judged_step true store s report h = performed_step store s s.work
judged_step false store s report h = refused_step store s s.work report h

answer_step : (store : Store) (s : Sealed) → stepped store s s.work (answer_on store s).reply ≡ changed store (name_of s) (answer_on store s).change
unfolding answer_on
answer_step store s = judged_step (is_allowed_sealed s) store s (Denied (report_of s.ticket (target_of s) (needs_for s.work) s.tick)) refl

pub decision_tells_the_store : DecisionTellsTheStore
decision_tells_the_store log s = store_push log (decide log s) ∙ answer_step (store_of log) s
