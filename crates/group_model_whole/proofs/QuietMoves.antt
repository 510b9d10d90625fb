-- The oldest message of a quiet group reaches its copy, and what it leaves the others.
use Rattle.std.proofs.Common.{ℕ, ◌≡◌, ◌+◌, true, false, ◌==◌, List, [], ◌∷◌, ◌++◌, refl, sym, ◌∙◌, ap, subst, arith, inl, inr, append_assoc, if◌then◌else◌}
use Rattle.std.specs.Prelude.{Some, slice_get, slice_set}
use Rattle.std.specs.List.{filter, remove}
use Rattle.std.proofs.lemmas.Bool.{cases_eq, eq-eqb, or_left, or_right, both_ways}
use Rattle.entry_core.specs.Log.{is_in}
use Rattle.store_core.specs.Request.{Sealed}
use Rattle.store_core.specs.declared.entry.Entry.{Entry}
use Rattle.group_model_whole.specs.Steps.{Stepped}
use Rattle.group_model_whole.specs.Copy.{on_body}
use Rattle.group_model_whole.specs.ActingSets.{others}
use Rattle.group_model_whole.specs.Types.{Role, Daemon, Osd, Client, Sent}
use Rattle.group_model_whole.specs.Each.{Each}
use Rattle.group_model_whole.specs.Group.{Group, Deliver, steps, is_distinct, arrives, copy_hears, deliver, group_step, delivered_to}
use Rattle.group_model_whole.specs.Decided.{decided_by}
use Rattle.group_model_whole.proofs.Eaches.{Each-append}
use Rattle.group_model_whole.proofs.QuietLists.{one, total, total-append, joined-append, filter-append, append-nil, get-set, get-set_other, distinct_parts, others_are}
use Rattle.group_model_whole.proofs.QuietStates.{concerns, asks_in, replies_in, wants_in, says_in, asks, replies, wants, says, sealed_of, answers_of, of_id, logs, lead_copy, weight_as, wire_weight, role_weight, waiting_weight, Stage, RoleOk, Usual, Member, Running, After}

head_arrives : (g : Group) (m : Sent) (rest : List Sent) → g.wire ≡ m ∷ rest → group_step g (Deliver 0) ≡ arrives (record g { wire = rest }) m m.to
head_arrives g m rest is =
    subst (λ w. deliver g 0 (slice_get w 0) ≡ arrives (record g { wire = rest }) m m.to) (sym is)
    (subst (λ w. arrives (record g { wire = remove w 0 }) m m.to ≡ arrives (record g { wire = rest }) m m.to) (sym is) refl)

pub reaches_client : (g : Group) (m : Sent) (rest : List Sent) → g.wire ≡ m ∷ rest → m.to ≡ Client → group_step g (Deliver 0) ≡ arrives (record g { wire = rest }) m Client
reaches_client g m rest is to = head_arrives g m rest is ∙ ap (λ v. arrives (record g { wire = rest }) m v) to

pub reaches_copy : (g : Group) (m : Sent) (rest : List Sent) (d : ℕ) (c : Daemon) (s : Stepped) → g.wire ≡ m ∷ rest → m.to ≡ Osd d → is_in g.up d ≡ true → slice_get g.copies d ≡ Some c →
    on_body m.body c m.from ≡ s → group_step g (Deliver 0) ≡ steps (record g { wire = rest }) d s
reaches_copy g m rest d c s is to up here step =
    let one : arrives (record g { wire = rest }) m m.to ≡ arrives (record g { wire = rest }) m (Osd d) = ap (λ v. arrives (record g { wire = rest }) m v) to in
    let two : arrives (record g { wire = rest }) m (Osd d) ≡ copy_hears (record g { wire = rest }) m d (slice_get g.copies d) =
    ap (λ b. if b then copy_hears (record g { wire = rest }) m d (slice_get g.copies d) else record g { wire = rest }) up in
    let three : copy_hears (record g { wire = rest }) m d (slice_get g.copies d) ≡ copy_hears (record g { wire = rest }) m d (Some c) = ap (λ f. copy_hears (record g { wire = rest }) m d f) here in
    let four : copy_hears (record g { wire = rest }) m d (Some c) ≡ steps (record g { wire = rest }) d s = ap (λ v. steps (record g { wire = rest }) d v) step in
    head_arrives g m rest is ∙ one ∙ two ∙ three ∙ four

module _ (z p : ℕ) (os : List ℕ) (once : is_distinct (p ∷ os) ≡ true) where
  pub first_out : is_in os p ≡ false
  first_out = (distinct_parts p os once).0

  pub not_first : (d : ℕ) → is_in os d ≡ true → d ≡ p → ⊥
  not_first d is same = both_ways (is_in os p) first_out (subst (λ v. is_in os v ≡ true) same is)

  pub others_of : (base : ℕ) (log : List Entry) (role : Role) (waiting : List Sealed) → others (lead_copy z p os base log role waiting) ≡ os
  others_of base log role waiting = rw (eq-eqb p p refl) (others_are p os first_out)

  -- what the first makes of a message
  pub record Moves (m : Sent) (rest : List Sent) (c c' : Daemon) (sent : List Sent) : Type 0 where
    pub members : (d : ℕ) → is_in os d ≡ true → (e : Daemon) → Stage z p os c.role c.log d e (filter (concerns d) (m ∷ rest)) → Stage z p os c'.role c'.log d e (filter (concerns d) (rest ++ sent))
    pub asked : (id : ℕ) → asks id sent + of_id id c'.waiting + logs id c'.log ≡ asks_in id m.body + of_id id c.waiting + logs id c.log
    pub told : (id : ℕ) → logs id (decided_by c'.role c'.log) ≡ logs id (decided_by c.role c.log) + replies id sent
    pub silent : (id : ℕ) → replies_in id m.body ≡ 0
    pub order : sealed_of c'.log ++ c'.waiting ≡ (sealed_of c.log ++ c.waiting) ++ wants_in m.body
    pub said : answers_of (decided_by c'.role c'.log) ≡ answers_of (decided_by c.role c.log) ++ says sent
    pub wants_none : wants sent ≡ []
    pub says_none : says_in m.body ≡ []
    pub role : RoleOk z p os c'.role c'

  pub first_moves : (g : Group) (m : Sent) (rest : List Sent) (c c' : Daemon) (sent : List Sent) → Running z p os g (m ∷ rest) c → Moves m rest c c' sent →
      Running z p os (steps (record g { wire = rest }) p (record { copy = c'; sent = sent })) (rest ++ sent) c'
  first_moves g m rest c c' sent run moves = record {
    primary = get-set g.copies p c c' run.primary;
    members = λ d is. (let old = run.members d is in record {
      copy = old.copy;
      here = get-set_other g.copies p d c' (not_first d is) ∙ old.here;
      number = old.number;
      stage = moves.members d is old.copy old.stage;
    });
    once = run.once;
    asked = λ id. (
        let old : asks_in id m.body + asks id rest + of_id id c.waiting + logs id c.log ≡ of_id id g.requests = run.asked id in
        let new = moves.asked id in
        let sum : asks id (rest ++ sent) ≡ asks id rest + asks id sent = total-append (λ m. asks_in id m.body) rest sent in
        omega arith);
    told = λ id. (
        let old : logs id (decided_by c.role c.log) ≡ replies_in id m.body + replies id rest + total (λ a. one (a.id == id)) g.answers = run.told id in
        let new = moves.told id in
        let none = moves.silent id in
        let sum : replies id (rest ++ sent) ≡ replies id rest + replies id sent = total-append (λ m. replies_in id m.body) rest sent in
        omega arith);
    order =
        let old : (sealed_of c.log ++ c.waiting) ++ (wants_in m.body ++ wants rest) ≡ g.requests = run.order in
        ap (λ v. v ++ wants (rest ++ sent)) moves.order
        ∙ ap (λ v. ((sealed_of c.log ++ c.waiting) ++ wants_in m.body) ++ v) (joined-append (λ m. wants_in m.body) rest sent ∙ ap (λ v. wants rest ++ v) moves.wants_none ∙ append-nil (wants rest))
        ∙ append_assoc (sealed_of c.log ++ c.waiting) (wants_in m.body) (wants rest)
        ∙ old;
    said =
        let old : answers_of (decided_by c.role c.log) ≡ g.answers ++ (says_in m.body ++ says rest) = run.said in
        let was : answers_of (decided_by c.role c.log) ≡ g.answers ++ says rest = old ∙ ap (λ v. g.answers ++ (v ++ says rest)) moves.says_none in
        moves.said
        ∙ ap (λ v. v ++ says sent) was
        ∙ append_assoc g.answers (says rest) (says sent)
        ∙ ap (λ v. g.answers ++ v) (sym (joined-append (λ m. says_in m.body) rest sent));
    role = moves.role;
    sets = run.sets;
    are_up = run.are_up;
  }

  -- what another member makes of a message
  pub record Hears (m : Sent) (rest : List Sent) (c : Daemon) (d : ℕ) (e : Daemon) (sent : List Sent) : Type 0 where
    pub number : e.number ≡ d
    pub stage : Stage z p os c.role c.log d e (filter (concerns d) (rest ++ sent))
    pub apart : (other : ℕ) → (other ≡ d → ⊥) → concerns other m ≡ false
    pub apart_sent : (other : ℕ) → (other ≡ d → ⊥) → filter (concerns other) sent ≡ []
    pub asks_none : (id : ℕ) → (asks_in id m.body ≡ 0) × (asks id sent ≡ 0)
    pub replies_none : (id : ℕ) → (replies_in id m.body ≡ 0) × (replies id sent ≡ 0)
    pub wants_none : (wants_in m.body ≡ []) × (wants sent ≡ [])
    pub says_none : (says_in m.body ≡ []) × (says sent ≡ [])

  pub member_hears : (g : Group) (m : Sent) (rest : List Sent) (c : Daemon) (d : ℕ) (old new : Daemon) (sent : List Sent) → is_in os d ≡ true → slice_get g.copies d ≡ Some old →
      Running z p os g (m ∷ rest) c → Hears m rest c d new sent → Running z p os (steps (record g { wire = rest }) d (record { copy = new; sent = sent })) (rest ++ sent) c
  member_hears g m rest c d old new sent among here run hears = record {
    primary = get-set_other g.copies d p new (λ same. not_first d among (sym same)) ∙ run.primary;
    members = λ other is. (elim (cases_eq other d) [
      | inl same ↦ subst (λ v. Member z p os (slice_set g.copies d new) c.role c.log v (filter (concerns v) (rest ++ sent))) (sym same)
          (record { copy = new; here = get-set g.copies d old new here; number = hears.number; stage = hears.stage })
      | inr not_it ↦ (
          let was = run.members other is in
          let no : concerns other m ≡ false = hears.apart other not_it in
          let before : filter (concerns other) (m ∷ rest) ≡ filter (concerns other) rest = ap (λ b. if b then m ∷ filter (concerns other) rest else filter (concerns other) rest) no in
          let after : filter (concerns other) (rest ++ sent) ≡ filter (concerns other) rest =
          filter-append (concerns other) rest sent ∙ ap (λ v. filter (concerns other) rest ++ v) (hears.apart_sent other not_it) ∙ append-nil (filter (concerns other) rest) in
          record {
            copy = was.copy;
            here = get-set_other g.copies d other new not_it ∙ was.here;
            number = was.number;
            stage = subst (λ v. Stage z p os c.role c.log other was.copy v) (before ∙ sym after) was.stage;
          })
    ]);
    once = run.once;
    asked = λ id. (
        let old : asks_in id m.body + asks id rest + of_id id c.waiting + logs id c.log ≡ of_id id g.requests = run.asked id in
        let none = hears.asks_none id in
        let sum : asks id (rest ++ sent) ≡ asks id rest + asks id sent = total-append (λ m. asks_in id m.body) rest sent in
        omega (arith, none.0, none.1));
    told = λ id. (
        let old : logs id (decided_by c.role c.log) ≡ replies_in id m.body + replies id rest + total (λ a. one (a.id == id)) g.answers = run.told id in
        let none = hears.replies_none id in
        let sum : replies id (rest ++ sent) ≡ replies id rest + replies id sent = total-append (λ m. replies_in id m.body) rest sent in
        omega (arith, none.0, none.1));
    order =
        let old : (sealed_of c.log ++ c.waiting) ++ (wants_in m.body ++ wants rest) ≡ g.requests = run.order in
        ap (λ v. (sealed_of c.log ++ c.waiting) ++ v)
        (joined-append (λ m. wants_in m.body) rest sent ∙ ap (λ v. wants rest ++ v) hears.wants_none.1 ∙ append-nil (wants rest) ∙ ap (λ v. v ++ wants rest) (sym hears.wants_none.0))
        ∙ old;
    said =
        let old : answers_of (decided_by c.role c.log) ≡ g.answers ++ (says_in m.body ++ says rest) = run.said in
        old
        ∙ ap (λ v. g.answers ++ v)
        (ap (λ v. v ++ says rest) hears.says_none.0 ∙ sym (joined-append (λ m. says_in m.body) rest sent ∙ ap (λ v. says rest ++ v) hears.says_none.1 ∙ append-nil (says rest)));
    role = run.role;
    sets = run.sets;
    are_up = run.are_up;
  }

  -- one delivery was made of those that were due
  pub record Next (g : Group) (m : Sent) (due : ℕ) : Type 0 where
    pub left : ℕ
    pub after : After z p os (group_step g (Deliver 0)) left
    pub less : due ≡ left + 1
    pub reached : delivered_to m.to g ≡ 1
    pub requests : (group_step g (Deliver 0)).requests ≡ g.requests

  reached_osd : (g : Group) (m : Sent) (d : ℕ) → m.to ≡ Osd d → is_in g.up d ≡ true → delivered_to m.to g ≡ 1
  reached_osd g m d to up = ap (λ v. delivered_to v g) to ∙ ap (λ b. if b then 1 else 0) up

  pub first_next : (g : Group) (m : Sent) (rest : List Sent) (c : Daemon) (base : ℕ) (log : List Entry) (role : Role) (waiting : List Sealed) (sent : List Sent) (due : ℕ) →
      g.wire ≡ m ∷ rest → m.to ≡ Osd p → Running z p os g (m ∷ rest) c → on_body m.body c m.from ≡ record { copy = lead_copy z p os base log role waiting; sent = sent } →
      Moves m rest c (lead_copy z p os base log role waiting) sent → Each (Usual z p os) rest → Each (Usual z p os) sent →
      due ≡ weight_as z p os m.body m.to + wire_weight z p os rest + role_weight z p os c.role + waiting_weight z p os c.waiting →
      wire_weight z p os sent + role_weight z p os role + waiting_weight z p os waiting + 1 ≡ weight_as z p os m.body m.to + role_weight z p os c.role + waiting_weight z p os c.waiting → Next g m due
  first_next g m rest c base log role waiting sent due is to run step moves usual usual_sent owes pays =
      let up : is_in g.up p ≡ true = run.are_up p (or_left (p == p) (is_in os p) (eq-eqb p p refl)) in
      let next : group_step g (Deliver 0) ≡ steps (record g { wire = rest }) p (record { copy = lead_copy z p os base log role waiting; sent = sent }) =
      reaches_copy g m rest p c (record { copy = lead_copy z p os base log role waiting; sent = sent }) is to up run.primary step in
      let sum : wire_weight z p os (rest ++ sent) ≡ wire_weight z p os rest + wire_weight z p os sent = total-append (λ m. weight_as z p os m.body m.to) rest sent in
      record {
        left = wire_weight z p os (rest ++ sent) + role_weight z p os role + waiting_weight z p os waiting;
        after = subst (λ v. After z p os v (wire_weight z p os (rest ++ sent) + role_weight z p os role + waiting_weight z p os waiting)) (sym next) (record {
          base = base;
          log = log;
          role = role;
          waiting = waiting;
          usual = Each-append (Usual z p os) rest sent usual usual_sent;
          running = first_moves g m rest c (lead_copy z p os base log role waiting) sent run moves;
          owes = refl;
        });
        less = omega arith;
        reached = reached_osd g m p to up;
        requests = ap (λ v. v.requests) next;
      }

  pub member_next : (g : Group) (m : Sent) (rest : List Sent) (base : ℕ) (log : List Entry) (role : Role) (waiting : List Sealed) (d : ℕ) (old new : Daemon) (sent : List Sent) (due : ℕ) →
      is_in os d ≡ true → slice_get g.copies d ≡ Some old → g.wire ≡ m ∷ rest → m.to ≡ Osd d → Running z p os g (m ∷ rest) (lead_copy z p os base log role waiting) → on_body m.body old m.from ≡ record { copy = new; sent = sent } →
      Hears m rest (lead_copy z p os base log role waiting) d new sent → Each (Usual z p os) rest → Each (Usual z p os) sent →
      due ≡ weight_as z p os m.body m.to + wire_weight z p os rest + role_weight z p os role + waiting_weight z p os waiting →
      wire_weight z p os sent + 1 ≡ weight_as z p os m.body m.to → Next g m due
  member_next g m rest base log role waiting d old new sent due among here is to run step hears usual usual_sent owes pays =
      let up : is_in g.up d ≡ true = run.are_up d (or_right (p == d) (is_in os d) among) in
      let next : group_step g (Deliver 0) ≡ steps (record g { wire = rest }) d (record { copy = new; sent = sent }) =
      reaches_copy g m rest d old (record { copy = new; sent = sent }) is to up here step in
      let sum : wire_weight z p os (rest ++ sent) ≡ wire_weight z p os rest + wire_weight z p os sent = total-append (λ m. weight_as z p os m.body m.to) rest sent in
      record {
        left = wire_weight z p os (rest ++ sent) + role_weight z p os role + waiting_weight z p os waiting;
        after = subst (λ v. After z p os v (wire_weight z p os (rest ++ sent) + role_weight z p os role + waiting_weight z p os waiting)) (sym next) (record {
          base = base;
          log = log;
          role = role;
          waiting = waiting;
          usual = Each-append (Usual z p os) rest sent usual usual_sent;
          running = member_hears g m rest (lead_copy z p os base log role waiting) d old new sent among here run hears;
          owes = refl;
        });
        less = omega arith;
        reached = reached_osd g m d to up;
        requests = ap (λ v. v.requests) next;
      }
