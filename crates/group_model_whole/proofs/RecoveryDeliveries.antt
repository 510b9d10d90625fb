-- A group on its way stays on its way when its first message is delivered.
use Rattle.std.proofs.Common.{ℕ, suc, ◌≡◌, ◌≤◌, ◌<◌, ◌+◌, ◌-◌, Bool, true, false, not, ◌&&◌, ◌==◌, List, [], ◌∷◌, ◌++◌, length, refl, sym, ◌∙◌, ap, subst, arith, inl, inr, ◌⊎◌, if◌then◌else◌, slice_index_or}
use Rattle.std.specs.Prelude.{Option, Some, None, slice_get}
use Rattle.std.specs.List.{list_any, remove}
use Rattle.std.proofs.lemmas.Bool.{eq-eqb, cases_eq, both_ways, or_cases, or_left, or_right, and_parts}
use Rattle.entry_core.specs.Log.{is_in}
use Rattle.group_model_whole.specs.ActingSets.{set_of, is_primary, others, asked, daemons}
use Rattle.group_model_whole.specs.Copy.{copy_step}
use Rattle.group_model_whole.specs.Types.{Role, Idle, Peering, Installing, Active, Daemon, Body, Interval, Query, Info, Install, Installed, Append, Appended, Request, Reply, NotHere, Party, Client, Osd, Sent, EntryReply}
use Rattle.group_model_whole.specs.Each.{Each}
use Rattle.group_messages.specs.Answers.{Answer}
use Rattle.group_model_whole.specs.Group.{Group, Deliver, last_set, is_answered, steps, answered, copy_hears, arrives, without, deliver, group_step}
use Rattle.group_model_whole.proofs.RecoveryStates.{Any, RoleDue, IsRequest, IsReply, IsFor, IsTaken, RequestDue, Progress, HasCopy, CanOpen}
use Rattle.group_model_whole.proofs.Eaches.{Each-weaker}
use Rattle.group_model_whole.proofs.RecoveryLists.{Any-left, filter_kept}
use Rattle.group_model_whole.proofs.Invariant.{RoleOk, StateOk, SentOk, BodyOk}
use Rattle.group_model_whole.proofs.RecoveryMoves.{to_copy, Moved, osd_same}
use Rattle.group_model_whole.proofs.RecoveryTakes.{comes_moved}
use Rattle.group_model_whole.proofs.RecoveryResponses.{others_due, lost_due, client_due}
use Rattle.group_model_whole.proofs.Groups.{Good, get-set_same, get-set_other}

pub record Next (g : Group) (p : ℕ) : Type 0 where
  pub copy : Daemon
  pub on : Progress g p copy

is_answered-more : (answers : List Answer) (a : Answer) (id : ℕ) → is_answered answers id ≡ true → is_answered (answers ++ a ∷ []) id ≡ true
is_answered-more [] a id is = absurd (both_ways false refl is)
is_answered-more (x ∷ xs) a id is = elim (or_cases (x.id == id) (is_answered xs id) is) [
  | inl here ↦ or_left (x.id == id) (is_answered (xs ++ a ∷ []) id) here
  | inr later ↦ or_right (x.id == id) (is_answered (xs ++ a ∷ []) id) (is_answered-more xs a id later)
]

is_answered-new : (answers : List Answer) (a : Answer) → is_answered (answers ++ a ∷ []) a.id ≡ true
is_answered-new [] a = or_left (a.id == a.id) false (eq-eqb a.id a.id refl)
is_answered-new (x ∷ xs) a = or_right (x.id == a.id) (is_answered (xs ++ a ∷ []) a.id) (is_answered-new xs a)

pub first_in : (set : List ℕ) (d : ℕ) → is_primary set d ≡ true → is_in set d ≡ true
first_in [] d is = is
first_in (x ∷ xs) d is = or_left (x == d) (is_in xs d) is

record HasMember (sets : List (List ℕ)) (d : ℕ) : Type 0 where
  place : ℕ
  within : place < length sets
  is_member : is_in (slice_index_or sets place []) d ≡ true

known_has : (sets : List (List ℕ)) (d : ℕ) → list_any (λ members. is_in members d) sets ≡ true → HasMember sets d
known_has [] d h = absurd (both_ways false refl h)
known_has (s ∷ sets) d h = elim (or_cases (is_in s d) (list_any (λ members. is_in members d) sets) h) [
  | inl here ↦ record { place = 0; within = omega arith; is_member = here }
  | inr later ↦ (let k : HasMember sets d = known_has sets d later in record { place = suc k.place; within = omega (arith, k.within); is_member = k.is_member })
]

-- a step in which the requests stay due
requests_next : (g : Group) (p : ℕ) (c c' : Daemon) (wire wire' : List Sent) → ((id : ℕ) → Any (IsFor p id) wire ⊎ IsTaken c id → Any (IsFor p id) wire' ⊎ IsTaken c' id) →
    Each (λ s. RequestDue g.answers wire p c s.id) g.requests → Each (λ s. RequestDue g.answers wire' p c' s.id) g.requests
requests_next g p c c' wire wire' to each = Each-weaker (λ s. RequestDue g.answers wire p c s.id) (λ s. RequestDue g.answers wire' p c' s.id) (λ s due. one s.id due) g.requests each
  where
    one : (id : ℕ) → RequestDue g.answers wire p c id → RequestDue g.answers wire' p c' id
    one id (inl done) = inl done
    one id (inr due) = inr (to id due)

module _ (g : Group) (good : Good g) (can : CanOpen g) (p : ℕ) (c : Daemon) (to : Progress g p c) (m : Sent) (rest : List Sent) (wire : g.wire ≡ m ∷ rest) where
  state : StateOk g.min_size g.sets good.promise good.h p c
  state = (good.copies p c to.here).state

  role : RoleOk g.min_size g.sets good.promise good.h p c c.role
  role = (good.copies p c to.here).role

  due : RoleDue g.up (m ∷ rest) c c.role
  due = subst (λ v. RoleDue g.up v c c.role) wire to.role

  due_requests : Each (λ s. RequestDue g.answers (m ∷ rest) p c s.id) g.requests
  due_requests = subst (λ v. Each (λ s. RequestDue g.answers v p c s.id) g.requests) wire to.requests

  body_ok : BodyOk g.sets good.promise good.h m.from m.body
  body_ok = (subst (λ v. Each (SentOk g.sets good.promise good.h) v) wire good.wire).0

  known_role : (r : Role) → RoleOk g.min_size g.sets good.promise good.h p c r → RoleDue g.up (m ∷ rest) c r → c.promise ≡ length c.known
  known_role Idle ok owed = absurd owed
  known_role (Peering informed) ok owed = ok.leads.is_known
  known_role (Installing done) ok owed = ok.owns.leads.is_known
  known_role (Active flight) ok owed = ok.0.leads.is_known

  later_role : (r : Role) → RoleOk g.min_size g.sets good.promise good.h p c r → RoleDue g.up (m ∷ rest) c r → 1 ≤ c.promise
  later_role Idle ok owed = absurd owed
  later_role (Peering informed) ok owed = ok.leads.later
  later_role (Installing done) ok owed = ok.owns.leads.later
  later_role (Active flight) ok owed = ok.0.leads.later

  other_member : (d : ℕ) → is_in (others c) d ≡ true → is_in (last_set g.sets) d ≡ true
  other_member d is =
      let k = (filter_kept (λ v. not (v == c.number)) (set_of c.known c.promise) d is).is_item in
      let same : set_of c.known c.promise ≡ set_of g.sets (length g.sets) = state.known.same c.promise (later_role c.role role due) (omega (arith, known_role c.role role due)) ∙ ap (set_of g.sets) to.promised in
      subst (λ v. is_in v d ≡ true) same k

  asked_copy : (d : ℕ) → is_in (asked c) d ≡ true → HasCopy g d
  asked_copy d is =
      let k = (filter_kept (λ d. not (d == c.number) && list_any (λ members. is_in members d) c.known) daemons d is).passes in
      let has = known_has c.known d (and_parts (not (d == c.number)) (list_any (λ members. is_in members d) c.known) k).1 in
      let back : has.place ≡ has.place + 1 - 1 = omega arith in
      let in_set : is_in (set_of c.known (has.place + 1)) d ≡ true = subst (λ v. is_in (slice_index_or c.known v []) d ≡ true) back has.is_member in
      let same : set_of c.known (has.place + 1) ≡ set_of g.sets (has.place + 1) = state.known.same (has.place + 1) (omega arith) (omega (arith, has.within)) in
      can.daemons_exist (has.place + 1) d (subst (λ v. is_in v d ≡ true) same in_set)

  -- the message to daemon d is not one of a request or a reply
  not_for : (d id : ℕ) → m.to ≡ Osd d → (d ≡ p → ⊥) → IsFor p id m → ⊥
  not_for d id is apart (inl q) = apart (osd_same d p (sym is ∙ ap (λ v. v.to) q.is))
  not_for d id is apart (inr q) = let bad : Osd d ≡ Client = sym is ∙ ap (λ v. v.to) q.is in cc

  dropped : (d : ℕ) → m.to ≡ Osd d → (d ≡ p → ⊥) → (sent : List Sent) (id : ℕ) → Any (IsFor p id) (m ∷ rest) ⊎ IsTaken c id → Any (IsFor p id) (rest ++ sent) ⊎ IsTaken c id
  dropped d is apart sent id (inl (inl f)) = absurd (not_for d id is apart f)
  dropped d is apart sent id (inl (inr w)) = inl (Any-left (IsFor p id) rest sent w)
  dropped d is apart sent id (inr t) = inr t

  dropped_all : (d : ℕ) → m.to ≡ Osd d → (d ≡ p → ⊥) → (id : ℕ) → Any (IsFor p id) (m ∷ rest) ⊎ IsTaken c id → Any (IsFor p id) rest ⊎ IsTaken c id
  dropped_all d is apart id (inl (inl f)) = absurd (not_for d id is apart f)
  dropped_all d is apart id (inl (inr w)) = inl w
  dropped_all d is apart id (inr t) = inr t

  abbrev g' : Group
  g' = record g { wire = rest }

  -- it is lost
  lost_next : (d : ℕ) → m.to ≡ Osd d → (d ≡ p → ⊥) → (is_in (asked c) d ≡ true → is_in g.up d ≡ true → ⊥) → (is_in (others c) d ≡ true → ⊥) → Next (record g { wire = rest }) p
  lost_next d is apart not_asked not_other = record {
    copy = c;
    on = record {
      first = to.first;
      here = to.here;
      promised = to.promised;
      role = lost_due g.up rest c d m is (λ same. apart (same ∙ state.number)) not_asked not_other due;
      requests = requests_next g p c c (m ∷ rest) rest (dropped_all d is apart) due_requests;
    };
  }

  up_next : (d : ℕ) (found : Option Daemon) → m.to ≡ Osd d → is_in g.up d ≡ true → slice_get g.copies d ≡ found → Next (copy_hears (record g { wire = rest }) m d found) p
  up_next d None is up none = lost_next d is (λ same. no_copy (subst (λ v. HasCopy g v) (sym same) (record { copy = c; here = to.here })))
      (λ a u. no_copy (asked_copy d a)) (λ o. no_copy (can.daemons_exist (length g.sets) d (other_member d o)))
    where
      no_copy : HasCopy g d → ⊥
      no_copy has = let here = has.here in cc
  up_next d (Some o) is up here = elim (cases_eq d p) [
    | inl same ↦ mine same
    | inr apart ↦ record {
      copy = c;
      on = record {
        first = to.first;
        here = get-set_other g.copies d p (copy_step o (record { from = m.from; body = m.body })).copy (λ same. apart (sym same)) ∙ to.here;
        promised = to.promised;
        role = others_due g.min_size g.sets good.promise good.h g.up rest p d c o good.sound state role to.promised (good.copies d o here).state (λ same. apart (same ∙ state.number)) m is due;
        requests = requests_next g p c c (m ∷ rest) (rest ++ (copy_step o (record { from = m.from; body = m.body })).sent) (dropped d is apart (copy_step o (record { from = m.from; body = m.body })).sent) due_requests;
      };
    }
  ]
    where
      mine : d ≡ p → Next (steps (record g { wire = rest }) d (copy_step o (record { from = m.from; body = m.body }))) p
      mine same =
          let there : slice_get g.copies p ≡ Some o = subst (λ v. slice_get g.copies v ≡ Some o) same here in
          let here' = to.here in
          let o_is : c ≡ o = cc in
          let sent_is : m ≡ to_copy c m.from m.body = ap (λ v. record { from = m.from; to = v; body = m.body }) (is ∙ ap Osd (same ∙ sym state.number)) in
          let moved : Moved g.up rest m.from m.body c (copy_step c (record { from = m.from; body = m.body })) =
          comes_moved g.min_size g.sets good.promise good.h g.up rest m.from p c state to.promised m.body role body_ok (subst (λ v. RoleDue g.up (v ∷ rest) c c.role) sent_is due) in
          let mine_c : Next (steps (record g { wire = rest }) p (copy_step c (record { from = m.from; body = m.body }))) p = record {
            copy = (copy_step c (record { from = m.from; body = m.body })).copy;
            on = record {
              first = to.first;
              here = get-set_same g.copies p c (copy_step c (record { from = m.from; body = m.body })).copy to.here;
              promised = moved.promise ∙ to.promised;
              role = moved.role;
              requests = requests_next g p c (copy_step c (record { from = m.from; body = m.body })).copy (m ∷ rest) (rest ++ (copy_step c (record { from = m.from; body = m.body })).sent)
                  (λ id w. subst (λ v. Any (IsFor v id) (rest ++ (copy_step c (record { from = m.from; body = m.body })).sent) ⊎ IsTaken (copy_step c (record { from = m.from; body = m.body })).copy id) state.number
                  (moved.each id (subst (λ v. Any (IsFor c.number id) (v ∷ rest) ⊎ IsTaken c id) sent_is (subst (λ v. Any (IsFor v id) (m ∷ rest) ⊎ IsTaken c id) (sym state.number) w)))) due_requests;
            };
          } in
          subst (λ v. Next (steps (record g { wire = rest }) v (copy_step o (record { from = m.from; body = m.body }))) p) (sym same)
          (subst (λ v. Next (steps (record g { wire = rest }) p (copy_step v (record { from = m.from; body = m.body }))) p) o_is mine_c)

  client_next : m.to ≡ Client → (b : Body) → m.body ≡ b → Next (answered (record g { wire = rest }) b) p
  client_next is b body_is = go b body_is
    where
      role_next : RoleDue g.up rest c c.role
      role_next = client_due g.up rest c m is due

      not_request : (id : ℕ) → IsRequest p id m → ⊥
      not_request id q = let bad : Client ≡ Osd p = sym is ∙ ap (λ v. v.to) q.is in cc

      to_answers : (answers : List Answer) → ((id : ℕ) → is_answered g.answers id ≡ true → is_answered answers id ≡ true) → ((id : ℕ) → IsReply id m → is_answered answers id ≡ true) →
          Next (record g { wire = rest; answers = answers }) p
      to_answers answers more now = record {
        copy = c;
        on = record {
          first = to.first;
          here = to.here;
          promised = to.promised;
          role = role_next;
          requests = Each-weaker (λ s. RequestDue g.answers (m ∷ rest) p c s.id) (λ s. RequestDue answers rest p c s.id) (λ s due. one s.id due) g.requests due_requests;
        };
      }
        where
          one : (id : ℕ) → RequestDue g.answers (m ∷ rest) p c id → RequestDue answers rest p c id
          one id (inl done) = inl (more id done)
          one id (inr (inl (inl (inl q)))) = absurd (not_request id q)
          one id (inr (inl (inl (inr q)))) = inl (now id q)
          one id (inr (inl (inr w))) = inr (inl w)
          one id (inr (inr t)) = inr (inr t)

      other : ((id : ℕ) (reply : EntryReply) → m.body ≡ Reply id reply → ⊥) → Next (record g { wire = rest }) p
      other none = to_answers g.answers (λ id a. a) (λ id q. absurd (none id q.reply (ap (λ v. v.body) q.is)))

      go : (b : Body) → m.body ≡ b → Next (answered (record g { wire = rest }) b) p
      go (Reply id reply) e = by_answer (is_answered g.answers id) refl
        where
          same_id : (id' : ℕ) → IsReply id' m → id ≡ id'
          same_id id' q = let x : Reply id reply ≡ Reply id' q.reply = sym e ∙ ap (λ v. v.body) q.is in cc

          by_answer : (t : Bool) → is_answered g.answers id ≡ t → Next (if t then record g { wire = rest } else record g { wire = rest; answers = g.answers ++ record { id = id; reply = reply } ∷ [] }) p
          by_answer true has = to_answers g.answers (λ id a. a) (λ id' q. subst (λ v. is_answered g.answers v ≡ true) (same_id id' q) has)
          by_answer false new = to_answers (g.answers ++ record { id = id; reply = reply } ∷ []) (is_answered-more g.answers (record { id = id; reply = reply }))
              (λ id' q. subst (λ v. is_answered (g.answers ++ record { id = id; reply = reply } ∷ []) v ≡ true) (same_id id' q) (is_answered-new g.answers (record { id = id; reply = reply })))
      go (Interval sets) e = other (λ id reply x. cc)
      go (Query n) e = other (λ id reply x. cc)
      go (Info n base log) e = other (λ id reply x. cc)
      go (Install n log) e = other (λ id reply x. cc)
      go (Installed n) e = other (λ id reply x. cc)
      go (Append n place s) e = other (λ id reply x. cc)
      go (Appended n place) e = other (λ id reply x. cc)
      go (Request s) e = other (λ id reply x. cc)
      go (NotHere id) e = other (λ id reply x. cc)

  arrives_next : (q : Party) → m.to ≡ q → Next (arrives (record g { wire = rest }) m q) p
  arrives_next Client is = client_next is m.body refl
  arrives_next (Osd d) is = go (is_in g.up d) refl
    where
      p_up : is_in g.up p ≡ true
      p_up = can.last_up p (first_in (last_set g.sets) p to.first)

      go : (t : Bool) → is_in g.up d ≡ t → Next (if t then copy_hears (record g { wire = rest }) m d (slice_get g.copies d) else record g { wire = rest }) p
      go true up = up_next d (slice_get g.copies d) is up refl
      go false down = lost_next d is (λ same. both_ways (is_in g.up p) (subst (λ v. is_in g.up v ≡ false) same down) p_up)
          (λ a u. both_ways (is_in g.up d) down u) (λ o. both_ways (is_in g.up d) down (can.last_up d (other_member d o)))

  pub deliver_next : Next (group_step g (Deliver 0)) p
  deliver_next =
      let found : slice_get g.wire 0 ≡ Some m = ap (λ v. slice_get v 0) wire in
      let left : without g 0 ≡ record g { wire = rest } = ap (λ v. record g { wire = v }) (ap (λ v. remove v 0) wire) in
      subst (λ v. Next (deliver g 0 v) p) (sym found) (subst (λ v. Next (arrives v m m.to) p) (sym left) (arrives_next m.to refl))
