-- Groups in step refuse the same events, and settle in as many deliveries.
use Rattle.std.proofs.Common.{ℕ, zero, suc, ◌≡◌, ◌+◌, List, refl, sym, ◌∙◌, ap, subst}
use Rattle.std.specs.Prelude.{Option, Some, None, slice_get}
use Rattle.group_model_whole.specs.Types.{Daemon, Party, Osd, Client, Sent as WholeSent}
use Rattle.group_model_whole.specs.Group.{Group as WholeGroup, Event, Submit, Deliver, Lose, Repeat, NewInterval, Restart, Kick, group_step as whole_group_step, run as whole_run, start as whole_start, refusal_to as whole_refusal_to, refusal_at as whole_refusal_at, missing_at as whole_missing_at, refusal_of as whole_refusal_of, settle as whole_settle, delivered_to as whole_delivered_to, delivered_now as whole_delivered_now, delivered as whole_delivered}
use Rattle.group_model_whole.specs.History.{History}
use Rattle.group_model.specs.Types.{Sent}
use Rattle.group_model.specs.Group.{Group, group_step, run, start, refusal_to, refusal_at, missing_at, refusal_of, settle, delivered_to, delivered_now, delivered}
use Rattle.group_model.specs.Standing.{StandsFor}
use Rattle.group_model.specs.Refinement.{RefusesAlike, SettlesAlike}
use Rattle.group_model.proofs.Agreeing.{SentAgrees}
use Rattle.group_model.proofs.Lists.{IfBoth, Both-get}
use Rattle.group_model.proofs.Locked.{twin, Agree}
use Rattle.group_model.proofs.Standing.{stands_for}
use Rattle.group_model.proofs.Events.{Lock, step_locked, reached_locked}

module _ (g : Group) (ws : List Daemon) (ms : List WholeSent) (p : ℕ → ℕ) (h : History) where
  refused_to : (to : Party) → refusal_to g to ≡ whole_refusal_to (twin g ws ms) to
  refused_to Client = refl
  refused_to (Osd d) = refl

  reached_to : (to : Party) → delivered_to to g ≡ whole_delivered_to to (twin g ws ms)
  reached_to Client = refl
  reached_to (Osd d) = refl

  refused_at : (k : ℕ) (found : Option Sent) (found' : Option WholeSent) → IfBoth (SentAgrees p h) found found' → refusal_at g k found ≡ whole_refusal_at (twin g ws ms) k found'
  refused_at k None None says = refl
  refused_at k None (Some m') says = absurd says
  refused_at k (Some m) None says = absurd says
  refused_at k (Some m) (Some m') says = refused_to m.to ∙ ap (λ to. whole_refusal_to (twin g ws ms) to) (sym says.to)

  none_at : (k : ℕ) (found : Option Sent) (found' : Option WholeSent) → IfBoth (SentAgrees p h) found found' → missing_at k found ≡ whole_missing_at k found'
  none_at k None None says = refl
  none_at k None (Some m') says = absurd says
  none_at k (Some m) None says = absurd says
  none_at k (Some m) (Some m') says = refl

  now_same : (found : Option Sent) (found' : Option WholeSent) → IfBoth (SentAgrees p h) found found' → delivered_now found g ≡ whole_delivered_now found' (twin g ws ms)
  now_same None None says = refl
  now_same None (Some m') says = absurd says
  now_same (Some m) None says = absurd says
  now_same (Some m) (Some m') says = reached_to m.to ∙ ap (λ to. whole_delivered_to to (twin g ws ms)) (sym says.to)

twin_refuses : (g : Group) (ws : List Daemon) (ms : List WholeSent) (e : Event) → Agree g (twin g ws ms) → refusal_of g e ≡ whole_refusal_of (twin g ws ms) e
twin_refuses g ws ms (Submit s) a = refl
twin_refuses g ws ms (Deliver k) a = refused_at g ws ms a.facts.promise a.facts.h k (slice_get g.wire k) (slice_get ms k) (Both-get (SentAgrees a.facts.promise a.facts.h) g.wire ms k a.facts.wire)
twin_refuses g ws ms (Lose k) a = none_at g ws ms a.facts.promise a.facts.h k (slice_get g.wire k) (slice_get ms k) (Both-get (SentAgrees a.facts.promise a.facts.h) g.wire ms k a.facts.wire)
twin_refuses g ws ms (Repeat k) a = none_at g ws ms a.facts.promise a.facts.h k (slice_get g.wire k) (slice_get ms k) (Both-get (SentAgrees a.facts.promise a.facts.h) g.wire ms k a.facts.wire)
twin_refuses g ws ms (NewInterval acting up) a = refl
twin_refuses g ws ms (Restart d) a = refl
twin_refuses g ws ms Kick a = refl

refuses_same : (g : Group) (w : WholeGroup) (e : Event) → Agree g w → refusal_of g e ≡ whole_refusal_of w e
refuses_same g w e a = subst (λ v. Agree g v → refusal_of g e ≡ whole_refusal_of v e) (sym a.is) (twin_refuses g w.copies w.wire e) a

pub refuse_alike : RefusesAlike
refuse_alike group z count acting up es e = refuses_same (run es (start group z count acting up)) (whole_run es (whole_start group z count acting up)) e (reached_locked group z count acting up es).agree

first_same : (g : Group) (w : WholeGroup) → Agree g w → delivered_now (slice_get g.wire 0) g ≡ whole_delivered_now (slice_get w.wire 0) w
first_same g w a =
    subst (λ v. Agree g v → delivered_now (slice_get g.wire 0) g ≡ whole_delivered_now (slice_get v.wire 0) v) (sym a.is)
    (λ b. now_same g w.copies w.wire b.facts.promise b.facts.h (slice_get g.wire 0) (slice_get w.wire 0) (Both-get (SentAgrees b.facts.promise b.facts.h) g.wire w.wire 0 b.facts.wire)) a

settled_same : (n : ℕ) (g : Group) (w : WholeGroup) → Lock g w → StandsFor (settle n g) (whole_settle n w) × (delivered n g ≡ whole_delivered n w)
settled_same zero g w l = (stands_for g w l.agree, refl)
settled_same (suc n) g w l =
    let rest = settled_same n (group_step g (Deliver 0)) (whole_group_step w (Deliver 0)) (step_locked g w (Deliver 0) l) in
    let first = first_same g w l.agree in
    let more = rest.1 in
    (rest.0, (λ i. first i + more i))

pub settle_alike : SettlesAlike
settle_alike group z count acting up es n = settled_same n (run es (start group z count acting up)) (whole_run es (whole_start group z count acting up)) (reached_locked group z count acting up es)
