-- After a kick, with nothing else on the wire, the first delivery puts a group on its way.
use Rattle.std.proofs.Common.{ℕ, ◌≡◌, ◌≤◌, Bool, true, false, not, ◌&&◌, nat_lt, List, [], ◌∷◌, ◌++◌, map, length, refl, sym, ◌∙◌, ap, subst, arith, inl, inr, ◌⊎◌, if◌then◌else◌, append_assoc}
use Rattle.std.specs.Prelude.{Option, Some, None, slice_get}
use Rattle.std.specs.List.{filter, remove}
use Rattle.std.proofs.lemmas.Bool.{eqb-true, both_ways, and_from, lt-ltb, le-ltb, not_from_false}
use Rattle.entry_core.specs.Log.{is_in}
use Rattle.store_core.specs.Request.{Sealed}
use Rattle.store_core.specs.declared.entry.Entry.{Entry}
use Rattle.group_model_whole.specs.Steps.{Stepped, still, send}
use Rattle.group_model_whole.specs.ActingSets.{set_of, is_primary, others, asked}
use Rattle.group_model_whole.specs.Decided.{last}
use Rattle.group_model_whole.specs.Choice.{is_informed, can_choose, best, own_offer}
use Rattle.group_model_whole.specs.Copy.{on_interval, leads, lead, learn_sets, queries, install_chosen, retransmit, retransmit_as, append_again}
use Rattle.group_model_whole.specs.Types.{Role, Idle, Peering, Installing, Active, Daemon, Interval, Query, Install, Append, Request, NotHere, Client, Osd, Sent}
use Rattle.group_model_whole.specs.Each.{Each}
use Rattle.group_model_whole.specs.History.{History}
use Rattle.group_messages.specs.Answers.{Answer}
use Rattle.group_model_whole.specs.Group.{Group, Deliver, last_set, is_answered, open_requests, to_daemon, to_primary, steps, arrives, copy_hears, without, deliver, group_step, kick, retransmit_of, retransmit_primary, retransmit_from, announced_by, resent_by}
use Rattle.group_model_whole.proofs.RecoveryStates.{Any, IsAsking, IsInstallingAt, IsAppendingAt, RoleDue, IsFor, InFlight, RequestDue, CanOpen, RoleIsPrompt, IsLeader, IsPrompt}
use Rattle.group_model_whole.proofs.RecoveryLists.{Any-left, Any-right, Any-map}
use Rattle.group_model_whole.proofs.Invariant.{RoleOk, CopyOk}
use Rattle.group_model_whole.proofs.RecoveryMoves.{Moved, install_moved}
use Rattle.group_model_whole.proofs.RecoveryServes.{role_due, role_due-right}
use Rattle.group_model_whole.proofs.Groups.{Good, get-set_same}
use Rattle.group_model_whole.proofs.RecoveryDeliveries.{Next, first_in}
use Rattle.group_model_whole.proofs.QuietLists.{filter_in}

has_last : (log : List Entry) → 1 ≤ length log → last log ≡ None → ⊥
has_last [] long is = absurd (omega arith)
has_last (x ∷ []) long is = cc
has_last (x ∷ y ∷ ys) long is = has_last (y ∷ ys) (omega arith) is

-- what is sent again
pub kicked_due : (z : ℕ) (sets : List (List ℕ)) (promise : ℕ → ℕ) (h : History) (up : List ℕ) (p : ℕ) (c : Daemon) (r : Role) → RoleOk z sets promise h p c r → RoleIsPrompt c r → (r ≡ Idle → ⊥) → RoleDue up (retransmit_as r c) c r
kicked_due z sets promise h up p c Idle ok prompt busy = busy refl
kicked_due z sets promise h up p c (Peering informed) ok prompt busy = (prompt, λ d a u. go d a (is_informed c informed d) refl)
  where
    go : (d : ℕ) → is_in (asked c) d ≡ true → (b : Bool) → is_informed c informed d ≡ b → (is_informed c informed d ≡ true) ⊎ Any (IsAsking c d) (retransmit_as (Peering informed) c)
    go d a true yet = inl yet
    go d a false not_yet = inr (Any-map (IsAsking c d) (λ d. send c (Osd d) (Query c.promise)) (filter (λ d. not (is_informed c informed d)) (asked c)) d
        (filter_in (λ d. not (is_informed c informed d)) (asked c) d a (not_from_false (is_informed c informed d) not_yet)) (inl refl))
kicked_due z sets promise h up p c (Installing done) ok prompt busy = (prompt, λ d a. go d a (is_in done d) refl)
  where
    go : (d : ℕ) → is_in (others c) d ≡ true → (b : Bool) → is_in done d ≡ b → (is_in done d ≡ true) ⊎ Any (IsInstallingAt c d) (retransmit_as (Installing done) c)
    go d a true yet = inl yet
    go d a false not_yet = inr (Any-map (IsInstallingAt c d) (λ m. send c (Osd m) (Install c.promise c.log)) (filter (λ m. not (is_in done m)) (others c)) d
        (filter_in (λ m. not (is_in done m)) (others c) d a (not_from_false (is_in done d) not_yet)) (inl (record { log = c.log; is = refl })))
kicked_due z sets promise h up p c (Active None) ok prompt busy = prompt
kicked_due z sets promise h up p c (Active (Some holders)) ok prompt busy = (prompt, λ d a. go d a (is_in holders d) refl (last c.log) refl)
  where
    go : (d : ℕ) → is_in (others c) d ≡ true → (b : Bool) → is_in holders d ≡ b → (e : Option Entry) → last c.log ≡ e → (is_in holders d ≡ true) ⊎ Any (IsAppendingAt c d) (append_again c e (filter (λ m. not (is_in holders m)) (others c)))
    go d a true yet e is = inl yet
    go d a false not_yet None is = absurd (has_last c.log ok.1.one is)
    go d a false not_yet (Some e) is = inr (Any-map (IsAppendingAt c d) (λ m. send c (Osd m) (Append c.promise (length c.log) e.sealed)) (filter (λ m. not (is_in holders m)) (others c)) d
        (filter_in (λ m. not (is_in holders m)) (others c) d a (not_from_false (is_in holders d) not_yet)) (inl (record { entry = e; is_last = is; is = refl })))

pub known_of : (z : ℕ) (sets : List (List ℕ)) (promise : ℕ → ℕ) (h : History) (p : ℕ) (c : Daemon) (r : Role) → RoleOk z sets promise h p c r → (r ≡ Idle → ⊥) → c.promise ≡ length c.known
known_of z sets promise h p c Idle ok busy = absurd (busy refl)
known_of z sets promise h p c (Peering informed) ok busy = ok.leads.is_known
known_of z sets promise h p c (Installing done) ok busy = ok.owns.leads.is_known
known_of z sets promise h p c (Active flight) ok busy = ok.0.leads.is_known

-- a step that the first message makes of the copy
pub record Started (up : List ℕ) (rest : List Sent) (n : ℕ) (s : Stepped) : Type 0 where
  pub promise : s.copy.promise ≡ n
  pub role : RoleDue up (rest ++ s.sent) s.copy s.copy.role

-- the copy begins to peer
pub lead_started : (up : List ℕ) (rest : List Sent) (c : Daemon) → c.role ≡ Idle → Started up rest c.promise (lead c)
lead_started up rest c idle = go (can_choose c []) refl
  where
    start : Bool → Stepped
    start b = if b then install_chosen c (best (own_offer c) []).log (others c) else still (record c { role = Peering [] })

    go : (b : Bool) → can_choose c [] ≡ b → Started up rest c.promise (record { copy = (if b then install_chosen c (best (own_offer c) []).log (others c) else still (record c { role = Peering [] })).copy; sent = queries c ++ (if b then install_chosen c (best (own_offer c) []).log (others c) else still (record c { role = Peering [] })).sent })
    go true chosen =
        let m : Moved up (rest ++ queries c) Client (NotHere 0) c (install_chosen c (best (own_offer c) []).log (others c)) =
        install_moved up (rest ++ queries c) Client (NotHere 0) c (best (own_offer c) []).log (others c) refl (λ id f. subst (λ v. InFlight v c.log id) idle f) (λ r bad. cc) in
        record {
          promise = m.promise;
          role = subst (λ v. RoleDue up v (install_chosen c (best (own_offer c) []).log (others c)).copy (install_chosen c (best (own_offer c) []).log (others c)).copy.role)
              (append_assoc rest (queries c) (install_chosen c (best (own_offer c) []).log (others c)).sent) m.role;
        }
    go false none = record {
      promise = refl;
      role = (
        none,
        λ d a u. inr (Any-right (IsAsking (record c { role = Peering [] }) d) rest (queries c ++ []) (Any-left (IsAsking (record c { role = Peering [] }) d) (queries c) []
            (Any-map (IsAsking (record c { role = Peering [] }) d) (λ d. send c (Osd d) (Query c.promise)) (asked c) d a (inl refl)))),
      );
    }

-- each open request is sent to the first member
among_open : (answers : List Answer) (requests : List Sealed) (p : ℕ) (c : Daemon) → Each (λ s. RequestDue answers (map (to_daemon p) (map Request (filter (λ s. not (is_answered answers s.id)) requests))) p c s.id) requests
among_open answers [] p c = tt
among_open answers (s ∷ rs) p c = go (is_answered answers s.id) refl (among_open answers rs p c)
  where
    weaker : (wire : List Sent) (x : Sent) (xs : List Sealed) → Each (λ s. RequestDue answers wire p c s.id) xs → Each (λ s. RequestDue answers (x ∷ wire) p c s.id) xs
    weaker wire x [] each = tt
    weaker wire x (y ∷ ys) each = (one each.0, weaker wire x ys each.1)
      where
        one : RequestDue answers wire p c y.id → RequestDue answers (x ∷ wire) p c y.id
        one (inl done) = inl done
        one (inr (inl w)) = inr (inl (inr w))
        one (inr (inr t)) = inr (inr t)

    go : (b : Bool) → is_answered answers s.id ≡ b → Each (λ s. RequestDue answers (map (to_daemon p) (map Request (filter (λ s. not (is_answered answers s.id)) rs))) p c s.id) rs → Each (λ x. RequestDue answers (map (to_daemon p) (map Request (if not b then s ∷ filter (λ s. not (is_answered answers s.id)) rs else filter (λ s. not (is_answered answers s.id)) rs))) p c x.id) (s ∷ rs)
    go true done rest = (inl done, rest)
    go false unanswered rest = (inr (inl (inl (inl (record { from = Client; request = s; same = refl; is = refl })))), weaker (map (to_daemon p) (map Request (filter (λ s. not (is_answered answers s.id)) rs))) (to_daemon p (Request s)) rs rest)

role_due-left : (up : List ℕ) (wire later : List Sent) (c : Daemon) (r : Role) → RoleDue up wire c r → RoleDue up (wire ++ later) c r
role_due-left up wire later c r due = role_due up wire (wire ++ later) c r
    (λ informed e d is u w. inr (Any-left (IsAsking c d) wire later w))
    (λ done e d is w. inr (Any-left (IsInstallingAt c d) wire later w))
    (λ holders e d is w. inr (Any-left (IsAppendingAt c d) wire later w)) due

deliver_is : (g : Group) (m : Sent) (rest : List Sent) → g.wire ≡ m ∷ rest → group_step g (Deliver 0) ≡ arrives (record g { wire = rest }) m m.to
deliver_is g m rest wire =
    let found : slice_get g.wire 0 ≡ Some m = ap (λ v. slice_get v 0) wire in
    let left : without g 0 ≡ record g { wire = rest } = ap (λ v. record g { wire = v }) (ap (λ v. remove v 0) wire) in
    ap (λ v. deliver g 0 v) found ∙ ap (λ v. arrives v m m.to) left

record Head (xs : List ℕ) (p : ℕ) : Type 0 where
  rest : List ℕ
  is : xs ≡ p ∷ rest

head_of : (xs : List ℕ) (p : ℕ) → is_primary xs p ≡ true → Head xs p
head_of [] p is = absurd (both_ways false refl is)
head_of (x ∷ xs) p is = record { rest = xs; is = ap (λ v. v ∷ xs) (eqb-true x p is) }

module _ (g : Group) (good : Good g) (can : CanOpen g) (prompt : IsPrompt g) (p : ℕ) (c : Daemon) (first : is_primary (last_set g.sets) p ≡ true) (here : slice_get g.copies p ≡ Some c) (empty : g.wire ≡ []) where
  ok : CopyOk g.min_size g.sets good.promise good.h p c
  ok = good.copies p c here

  abbrev ds : List ℕ
  ds = (head_of (last_set g.sets) p first).rest

  abbrev requests_sent : List Sent
  requests_sent = map (to_daemon p) (map Request (open_requests g))

  abbrev after_first : List ℕ → List Sent
  after_first ms = map (λ d. to_daemon d (Interval g.sets)) ms ++ retransmit c ++ map (to_daemon p) (map Request (open_requests g))

  wire_is : (kick g).wire ≡ to_daemon p (Interval g.sets) ∷ after_first ds
  wire_is =
      let e : last_set g.sets ≡ p ∷ ds = (head_of (last_set g.sets) p first).is in
      ap (λ v. v ++ announced_by g ++ retransmit_of g (last_set g.sets) ++ resent_by g) empty
      ∙ (ap (λ v. map (λ d. to_daemon d (Interval g.sets)) v ++ retransmit_primary g.copies v ++ to_primary v (map Request (open_requests g))) e
      ∙ ap (λ v. to_daemon p (Interval g.sets) ∷ (map (λ d. to_daemon d (Interval g.sets)) ds ++ retransmit_from v ++ map (to_daemon p) (map Request (open_requests g)))) here)

  started : (rest before : List Sent) → rest ≡ before ++ retransmit c ++ requests_sent → IsLeader g.sets c → Started g.up rest (length g.sets) (on_interval c g.sets)
  started rest before rest_is (inl late) = subst (λ v. Started g.up rest (length g.sets) v) (sym interval_is) (lead_started g.up rest (record (learn_sets c g.sets) { promise = length g.sets }) refl)
    where
      few : nat_lt (length (set_of g.sets (length g.sets))) c.min_size ≡ false
      few = le-ltb (length (set_of g.sets (length g.sets))) c.min_size (omega (arith, can.members, ok.state.same_size))

      own : is_primary (set_of g.sets (length g.sets)) c.number ≡ true
      own = subst (λ v. is_primary (set_of g.sets (length g.sets)) v ≡ true) (sym ok.state.number) first

      it_leads : leads c g.sets ≡ true
      it_leads = and_from (not (nat_lt (length (set_of g.sets (length g.sets))) c.min_size) && is_primary (set_of g.sets (length g.sets)) c.number) (nat_lt c.promise (length g.sets))
          (and_from (not (nat_lt (length (set_of g.sets (length g.sets))) c.min_size)) (is_primary (set_of g.sets (length g.sets)) c.number) (not_from_false (nat_lt (length (set_of g.sets (length g.sets))) c.min_size) few) own)
          (lt-ltb c.promise (length g.sets) late.0)

      interval_is : on_interval c g.sets ≡ lead (record (learn_sets c g.sets) { promise = length g.sets })
      interval_is = outer (nat_lt (length c.known) (length g.sets)) (lt-ltb (length c.known) (length g.sets) late.1)
        where
          inner : (b : Bool) → b ≡ true → (if b then lead (record (learn_sets c g.sets) { promise = length g.sets }) else still (learn_sets c g.sets)) ≡ lead (record (learn_sets c g.sets) { promise = length g.sets })
          inner true e = refl
          inner false e = absurd (both_ways false refl e)

          outer : (b : Bool) → b ≡ true → (if b then (if leads c g.sets then lead (record (learn_sets c g.sets) { promise = length g.sets }) else still (learn_sets c g.sets)) else still c) ≡ lead (record (learn_sets c g.sets) { promise = length g.sets })
          outer true e = inner (leads c g.sets) it_leads
          outer false e = absurd (both_ways false refl e)
  started rest before rest_is (inr there) = subst (λ v. Started g.up rest (length g.sets) v) (sym interval_is) (record { promise = there.0; role = subst (λ v. RoleDue g.up (v ++ []) c c.role) (sym rest_is) due })
    where
      known : c.promise ≡ length c.known
      known = known_of g.min_size g.sets good.promise good.h p c c.role ok.role there.1

      interval_is : on_interval c g.sets ≡ still c
      interval_is = rw (le-ltb (length c.known) (length g.sets) (omega (arith, there.0, known))) refl

      due : RoleDue g.up ((before ++ retransmit c ++ requests_sent) ++ []) c c.role
      due = role_due-left g.up (before ++ retransmit c ++ requests_sent) [] c c.role (role_due-left g.up (before ++ retransmit c) requests_sent c c.role (role_due-right g.up before (retransmit c) c c.role
          (kicked_due g.min_size g.sets good.promise good.h g.up p c c.role ok.role (prompt.roles p c here) there.1)))

  pub kick_next : Next (group_step (kick g) (Deliver 0)) p
  kick_next = subst (λ v. Next v p) (sym (deliver_is (kick g) (to_daemon p (Interval g.sets)) (after_first ds) wire_is)) (go (is_in g.up p) p_up (slice_get g.copies p) here)
    where
      p_up : is_in g.up p ≡ true
      p_up = can.last_up p (first_in (last_set g.sets) p first)

      step : Started g.up (after_first ds) (length g.sets) (on_interval c g.sets)
      step = started (after_first ds) (map (λ d. to_daemon d (Interval g.sets)) ds) refl (prompt.leader p c first here)

      requests_due : (xs : List Sealed) → Each (λ s. RequestDue g.answers requests_sent p (on_interval c g.sets).copy s.id) xs → Each (λ s. RequestDue g.answers (after_first ds ++ (on_interval c g.sets).sent) p (on_interval c g.sets).copy s.id) xs
      requests_due [] each = tt
      requests_due (x ∷ xs) each = (one x.id each.0, requests_due xs each.1)
        where
          one : (id : ℕ) → RequestDue g.answers requests_sent p (on_interval c g.sets).copy id → RequestDue g.answers (after_first ds ++ (on_interval c g.sets).sent) p (on_interval c g.sets).copy id
          one id (inl done) = inl done
          one id (inr (inl w)) = inr (inl (Any-left (IsFor p id) (after_first ds) (on_interval c g.sets).sent (Any-right (IsFor p id) (map (λ d. to_daemon d (Interval g.sets)) ds ++ retransmit c) requests_sent w)))
          one id (inr (inr t)) = inr (inr t)

      go : (t : Bool) → t ≡ true → (f : Option Daemon) → f ≡ Some c → Next (if t then copy_hears (record (kick g) { wire = after_first ds }) (to_daemon p (Interval g.sets)) p f else record (kick g) { wire = after_first ds }) p
      go false e f is = absurd (both_ways false refl e)
      go true e None is = absurd (cc)
      go true e (Some o) is =
          let same : c ≡ o = cc in
          subst (λ v. Next (steps (record (kick g) { wire = after_first ds }) p (on_interval v g.sets)) p) same (record {
            copy = (on_interval c g.sets).copy;
            on = record {
              first = first;
              here = get-set_same g.copies p c (on_interval c g.sets).copy here;
              promised = step.promise;
              role = step.role;
              requests = requests_due g.requests (among_open g.answers g.requests p (on_interval c g.sets).copy);
            };
          })
