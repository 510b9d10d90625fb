-- A group settles in as many deliveries as the one for which it stands.
use Rattle.std.proofs.Common.{ℕ, zero, suc, ◌≡◌, ◌+◌, not, nat_lt, List, [], ◌∷◌, length, refl, sym, ◌∙◌, ap, subst, arith, if◌then◌else◌}
use Rattle.std.specs.Prelude.{Option, Some, None, slice_get}
use Rattle.entry_core.specs.Log.{is_in}
use Rattle.store_core.specs.Request.{Sealed}
use Rattle.group_model_whole.specs.Types.{Daemon, Party, Osd, Client, Role as WholeRole, Body as WholeBody, Sent as WholeSent}
use Rattle.group_model_whole.specs.Budget.{body_budget as whole_body_budget, sent_budget as whole_sent_budget, role_budget as whole_role_budget, copies_budget as whole_copies_budget, budget as whole_budget, settle_count as whole_settle_count, settled_group as whole_settled_group}
use Rattle.group_model_whole.specs.Group.{Group as WholeGroup, group_step as whole_group_step, settle as whole_settle, delivered_to as whole_delivered_to, delivered_now as whole_delivered_now, delivered as whole_delivered, refusal_of as whole_refusal_of}
use Rattle.group_model.specs.Standing.{Both, SameBody, SameSent, SameRole, SameCopy, StandsFor}
use Rattle.group_model.proofs.Lists.{IfBoth, Both-get}
use Rattle.group_model.proofs.Events.{Lock, step_locked}
use Rattle.group_model.specs.Types.{Role, Idle, Peering, Installing, Active, Copy, Body, Interval, Query, Info, Install, Installed, Append, Appended, Request, Reply, NotHere, Sent}
use Rattle.group_model.specs.Group.{Group, Submit, Deliver, Doubled, Full, is_submitted, group_step, settle, delivered_to, delivered_now, delivered, refusal_of}
use Rattle.group_model.specs.Budget.{body_budget, sent_budget, role_budget, copies_budget, budget, settle_count, settled_group}
use Rattle.group_model.proofs.Twins.{lock_stands, settle_locked}

-- both can make as many

body_same : (b : Body) (w : WholeBody) → SameBody b w → whole_body_budget w ≡ body_budget b
body_same (Interval sets) w s = ap whole_body_budget s
body_same (Query n len end) w s = ap whole_body_budget s
body_same (Info n base start part) w s = ap whole_body_budget s.is
body_same (Install n start part) w s = ap whole_body_budget s.is
body_same (Installed n) w s = ap whole_body_budget s
body_same (Append n place r) w s = ap whole_body_budget s
body_same (Appended n place) w s = ap whole_body_budget s
body_same (Request r) w s = ap whole_body_budget s
body_same (Reply id reply) w s = ap whole_body_budget s
body_same (NotHere id) w s = ap whole_body_budget s

sent_same : (ms : List Sent) (ws : List WholeSent) → Both SameSent ms ws → whole_sent_budget ws ≡ sent_budget ms
sent_same [] [] both = refl
sent_same [] (w ∷ ws) both = absurd both
sent_same (m ∷ ms) [] both = absurd both
sent_same (m ∷ ms) (w ∷ ws) both = (let one = body_same m.body w.body both.0.body in let rest = sent_same ms ws both.1 in omega arith)

role_same : (r : Role) (w : WholeRole) → SameRole r w → whole_role_budget w ≡ role_budget r
role_same Idle w s = ap whole_role_budget s
role_same (Peering informed) w s = ap whole_role_budget s.is
role_same (Installing done common) w s = ap whole_role_budget s
role_same (Active flight) w s = ap whole_role_budget s

copies_same : (cs : List Copy) (ws : List Daemon) → Both SameCopy cs ws → whole_copies_budget ws ≡ copies_budget cs
copies_same [] [] both = refl
copies_same [] (w ∷ ws) both = absurd both
copies_same (c ∷ cs) [] both = absurd both
copies_same (c ∷ cs) (w ∷ ws) both =
    let role = role_same c.role w.role both.0.role in
    let waits : length w.waiting ≡ length c.waiting = ap (λ l. length l) both.0.waiting in
    let rest = copies_same cs ws both.1 in
    omega arith

pub budget_same : (g : Group) (w : WholeGroup) → StandsFor g w → whole_budget w ≡ budget g
budget_same g w s = (let one = sent_same g.wire w.wire s.wire in let two = copies_same g.copies w.copies s.copies in omega arith)

-- as many reach their addressee

module _ (g : Group) (w : WholeGroup) (s : StandsFor g w) where
  reached_to : (to : Party) → whole_delivered_to to w ≡ delivered_to to g
  reached_to Client = refl
  reached_to (Osd d) = ap (λ up. if is_in up d then 1 else 0) s.up

  reached_now : (found : Option Sent) (found' : Option WholeSent) → IfBoth SameSent found found' → whole_delivered_now found' w ≡ delivered_now found g
  reached_now None None says = refl
  reached_now None (Some m') says = absurd says
  reached_now (Some m) None says = absurd says
  reached_now (Some m) (Some m') says = ap (λ to. whole_delivered_to to w) says.to ∙ reached_to m.to

  pub first_same : whole_delivered_now (slice_get w.wire 0) w ≡ delivered_now (slice_get g.wire 0) g
  first_same = reached_now (slice_get g.wire 0) (slice_get w.wire 0) (Both-get SameSent g.wire w.wire 0 s.wire)

pub delivered_same : (n : ℕ) (g : Group) (w : WholeGroup) → Lock g w → whole_delivered n w ≡ delivered n g
delivered_same zero g w l = refl
delivered_same (suc n) g w l =
    let first = first_same g w (lock_stands g w l) in
    let rest = delivered_same n (group_step g (Deliver 0)) (whole_group_step w (Deliver 0)) (step_locked g w (Deliver 0) l) in
    (λ i. first i + rest i)

pub count_same : (g : Group) (w : WholeGroup) → Lock g w → whole_settle_count w ≡ settle_count g
count_same g w l = ap (λ n. whole_delivered n w) (budget_same g w (lock_stands g w l)) ∙ delivered_same (budget g) g w l

-- both settled

pub settled_locked : (g : Group) (w : WholeGroup) → Lock g w → Lock (settled_group g) (whole_settled_group w)
settled_locked g w l = subst (λ n. Lock (settle (budget g) g) (whole_settle n w)) (sym (budget_same g w (lock_stands g w l))) (settle_locked (budget g) g w l)

pub settled_stands : (g : Group) (w : WholeGroup) → Lock g w → StandsFor (settled_group g) (whole_settled_group w)
settled_stands g w l = lock_stands (settled_group g) (whole_settled_group w) (settled_locked g w l)

-- where nothing is on its way in one, nothing is in the other

none_sent : (ms : List Sent) (ws : List WholeSent) → Both SameSent ms ws → ws ≡ [] → ms ≡ []
none_sent [] ws both is = refl
none_sent (m ∷ ms) [] both is = absurd both
none_sent (m ∷ ms) (w ∷ ws) both is = absurd (cc)

pub empty_same : (g : Group) (w : WholeGroup) → StandsFor g w → w.wire ≡ [] → g.wire ≡ []
empty_same g w s is = none_sent g.wire w.wire s.wire is

as_many : (ms : List Sent) (ws : List WholeSent) → Both SameSent ms ws → length ws ≡ length ms
as_many [] [] both = refl
as_many [] (w ∷ ws) both = absurd both
as_many (m ∷ ms) [] both = absurd both
as_many (m ∷ ms) (w ∷ ws) both = ap suc (as_many ms ws both.1)

pub sent_many : (g : Group) (w : WholeGroup) → StandsFor g w → length w.wire ≡ length g.wire
sent_many g w s = as_many g.wire w.wire s.wire

-- a submission is refused alike
pub submit_same : (g : Group) (w : WholeGroup) (r : Sealed) → StandsFor g w → whole_refusal_of w (Submit r) ≡ refusal_of g (Submit r)
submit_same g w r s = ap (λ (rs : List Sealed). if is_submitted rs r.id then Some Doubled else (if not (nat_lt (length rs) 16384) then Some Full else None)) s.requests
