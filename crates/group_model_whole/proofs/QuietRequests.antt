-- Requests reach the first of a quiet group, and replies the client.
use Rattle.std.proofs.Common.{ℕ, ◌≡◌, ◌≤◌, ◌+◌, ◌*◌, ◌-◌, true, false, ◌==◌, List, [], ◌∷◌, ◌++◌, length, take, refl, sym, ◌∙◌, ap, subst, arith, append_assoc, if◌then◌else◌}
use Rattle.std.specs.Prelude.{Some, None}
use Rattle.std.specs.List.{filter}
use Rattle.std.proofs.lemmas.Bool.{eq-eqb}
use Rattle.entry_core.specs.Log.{find}
use Rattle.store_core.specs.Request.{Sealed}
use Rattle.store_core.specs.declared.entry.Entry.{Entry}
use Rattle.group_model_whole.specs.Steps.{still}
use Rattle.group_model_whole.specs.Serve.{serve}
use Rattle.group_model_whole.specs.Copy.{on_request, on_request_as, busy_request, waits}
use Rattle.group_model_whole.specs.Types.{EntryReply, Role, Idle, Peering, Installing, Active, Daemon, Request, Reply, Osd, Client, Sent}
use Rattle.group_model_whole.specs.Each.{Each}
use Rattle.group_model_whole.specs.Group.{Group, Deliver, is_distinct, to_daemon, group_step, is_answered}
use Rattle.group_model_whole.specs.Decided.{decided_by}
use Rattle.group_model_whole.proofs.QuietLists.{append-nil, one, total, total-append, total-take, none_passes, log_without, finds_none}
use Rattle.group_model_whole.proofs.QuietStates.{concerns, asks, replies, says, sealed_of, answers_of, of_id, logs, lead_copy, wire_weight, role_weight, waiting_weight, Stage, RoleOk, Usual, IsDone, IsHearing, IsSpreading, IsFlying, Running, After}
use Rattle.group_model_whole.proofs.QuietMoves.{first_next, reaches_client}
use Rattle.group_model_whole.proofs.QuietServes.{Served, served}
use Rattle.group_model_whole.proofs.QuietAnswers.{Step}
use Rattle.group_model_whole.proofs.QuietRounds.{about_nil, about_sent}

module _ (z p : ℕ) (os : List ℕ) (once : is_distinct (p ∷ os) ≡ true) (g : Group) (rest : List Sent) (usual : Each (Usual z p os) rest) (due : ℕ)
    (base : ℕ) (log : List Entry) where
  module _ (waiting : List Sealed) where
    abbrev At : Role → Daemon
    At r = lead_copy z p os base log r waiting

    abbrev StepAt : Role → Sent → Type 0
    StepAt r m = Step z p os once g rest usual due base log r waiting m

    module _ (s : Sealed) where
      record IsNew : Type 0 where
        not_waiting : of_id s.id waiting ≡ 0
        not_logged : logs s.id log ≡ 0

      is_new : (r : Role) → Running z p os g (to_daemon p (Request s) ∷ rest) (At r) → IsNew
      is_new r run =
          let asked : one (s.id == s.id) + asks s.id rest + of_id s.id waiting + logs s.id log ≡ of_id s.id g.requests = run.asked s.id in
          let most = run.once s.id in
          let this : one (s.id == s.id) ≡ 1 = ap one (eq-eqb s.id s.id refl) in
          record { not_waiting = omega arith; not_logged = omega arith }

      taken : (r : Role) → IsNew → on_request (At r) s ≡ on_request_as r (At r) s
      taken r new = ap (λ b. if b then still (At r) else on_request_as r (At r) s) (none_passes (λ w. w.id == s.id) waiting new.not_waiting)

      waits_next : (r : Role) → RoleOk z p os r (lead_copy z p os base log r (waiting ++ s ∷ [])) →
          on_request (At r) s ≡ record { copy = lead_copy z p os base log r (waiting ++ s ∷ []); sent = [] } → StepAt r (to_daemon p (Request s))
      waits_next r ok step is run owes =
          first_next z p os once g (to_daemon p (Request s)) rest (At r) base log r (waiting ++ s ∷ []) [] due is refl run step
          (record {
            members = λ x inx e st. subst (λ v. Stage z p os r log x e v) (sym (about_nil x rest)) st;
            asked = λ id. (let sum : of_id id (waiting ++ s ∷ []) ≡ of_id id waiting + (one (s.id == id) + 0) = total-append (λ w. one (w.id == id)) waiting (s ∷ []) in omega arith);
            told = λ id. omega arith;
            silent = λ id. refl;
            order = sym (append_assoc (sealed_of log) waiting (s ∷ []));
            said = sym (append-nil (answers_of (decided_by r log)));
            wants_none = refl;
            says_none = refl;
            role = ok;
          })
          usual tt owes
          (let sum : waiting_weight z p os (waiting ++ s ∷ []) ≡ waiting_weight z p os waiting + ((2 * length os + 1) + 0) = total-append (λ w. 2 * length os + 1) waiting (s ∷ []) in omega arith)

      serves_next : StepAt (Active None) (to_daemon p (Request s))
      serves_next is run owes =
          let new : IsNew = is_new (Active None) run in
          let t : Served z p os once base log (s ∷ waiting) (serve (s ∷ waiting) (At (Active None))) = served z p os once (s ∷ waiting) base log (Active None) waiting (λ id. (
          let asked : one (s.id == id) + asks id rest + of_id id waiting + logs id log ≡ of_id id g.requests = run.asked id in
          let most = run.once id in omega arith)) in
          first_next z p os once g (to_daemon p (Request s)) rest (At (Active None)) base t.log' t.role' t.waiting' (serve (s ∷ waiting) (At (Active None))).sent due is refl run
          (taken (Active None) new ∙ ap (λ v. record { copy = v; sent = (serve (s ∷ waiting) (At (Active None))).sent }) t.copy)
          (record {
            members = λ x inx e st. (
                let now : IsDone e log (filter (concerns x) rest) = st in
                subst (λ v. Stage z p os t.role' t.log' x e v) (sym (about_sent x rest (serve (s ∷ waiting) (At (Active None))).sent now.none)) (t.members x inx e now.holds));
            asked = λ id. (let all_asked = t.asked id in omega arith);
            told = λ id. (let all_told = t.told id in omega arith);
            silent = λ id. refl;
            order = (
                let none : waiting ≡ [] = run.role in
                t.order ∙ ap (λ v. sealed_of log ++ s ∷ v) none ∙ ap (λ v. v ++ s ∷ []) (sym (append-nil (sealed_of log)) ∙ ap (λ v. sealed_of log ++ v) (sym none)));
            said = t.said;
            wants_none = t.wants_none;
            says_none = refl;
            role = t.role;
          })
          usual t.usual owes (let pays = t.pays in omega arith)

      pub request_next : (r : Role) → StepAt r (to_daemon p (Request s))
      request_next Idle is run owes = absurd (let never : 1 ≡ 0 = run.role in let bad : ⊥ = omega arith in bad)
      request_next (Peering informed) is run owes =
          let role : IsHearing z p os informed (At (Peering informed)) = run.role in
          waits_next (Peering informed) (record { none = role.none; each = role.each; open_yet = role.open_yet }) (taken (Peering informed) (is_new (Peering informed) run)) is run owes
      request_next (Installing done) is run owes =
          let role : IsSpreading z p os done (At (Installing done)) = run.role in
          waits_next (Installing done) (record { none = role.none; open_yet = role.open_yet }) (taken (Installing done) (is_new (Installing done) run)) is run owes
      request_next (Active None) is run owes = serves_next is run owes
      request_next (Active (Some holders)) is run owes =
          let role : IsFlying z p os holders (At (Active (Some holders))) = run.role in
          let new : IsNew = is_new (Active (Some holders)) run in
          let shorter : logs s.id (take (length log - 1) log) ≤ logs s.id log = total-take (λ e. one (e.sealed.id == s.id)) (length log - 1) log in
          let few = new.not_logged in
          let miss : find (take (length log - 1) log) s.id ≡ None = finds_none (take (length log - 1) log) s.id (omega arith) in
          waits_next (Active (Some holders)) (record { ends = role.ends; open_yet = role.open_yet })
          (taken (Active (Some holders)) new
          ∙ ap (λ f. busy_request (At (Active (Some holders))) s f) miss
          ∙ ap (λ b. if b then still (At (Active (Some holders))) else waits (At (Active (Some holders))) s) (log_without log s.id new.not_logged))
          is run owes

    decided_few : (r : Role) (id : ℕ) → logs id (decided_by r log) ≤ logs id log
    decided_few Idle id = omega arith
    decided_few (Peering informed) id = omega arith
    decided_few (Installing done) id = omega arith
    decided_few (Active None) id = omega arith
    decided_few (Active (Some holders)) id = total-take (λ e. one (e.sealed.id == id)) (length log - 1) log

    pub reply_next : (r : Role) (id : ℕ) (reply : EntryReply) → StepAt r (record { from = Osd p; to = Client; body = Reply id reply })
    reply_next r id reply is run owes =
        let m : Sent = record { from = Osd p; to = Client; body = Reply id reply } in
        let told : logs id (decided_by r log) ≡ one (id == id) + replies id rest + total (λ a. one (a.id == id)) g.answers = run.told id in
        let asked : asks id rest + of_id id waiting + logs id log ≡ of_id id g.requests = (let old : 0 + asks id rest + of_id id waiting + logs id log ≡ of_id id g.requests = run.asked id in omega arith) in
        let most = run.once id in
        let few = decided_few r id in
        let this : one (id == id) ≡ 1 = ap one (eq-eqb id id refl) in
        let unanswered : is_answered g.answers id ≡ false = none_passes (λ a. a.id == id) g.answers (omega arith) in
        let next : group_step g (Deliver 0) ≡ record g { wire = rest; answers = g.answers ++ record { id = id; reply = reply } ∷ [] } =
        reaches_client g m rest is refl ∙ ap (λ b. if b then record g { wire = rest } else record g { wire = rest; answers = g.answers ++ record { id = id; reply = reply } ∷ [] }) unanswered in
        record {
          left = wire_weight z p os rest + role_weight z p os r + waiting_weight z p os waiting;
          after = subst (λ v. After z p os v (wire_weight z p os rest + role_weight z p os r + waiting_weight z p os waiting)) (sym next) (record {
            base = base;
            log = log;
            role = r;
            waiting = waiting;
            usual = usual;
            running = record {
              primary = run.primary;
              members = run.members;
              once = run.once;
              asked = λ i. (let old : 0 + asks i rest + of_id i waiting + logs i log ≡ of_id i g.requests = run.asked i in omega arith);
              told = λ i. (
                  let old : logs i (decided_by r log) ≡ one (id == i) + replies i rest + total (λ a. one (a.id == i)) g.answers = run.told i in
                  let sum : total (λ a. one (a.id == i)) (g.answers ++ record { id = id; reply = reply } ∷ []) ≡ total (λ a. one (a.id == i)) g.answers + (one (id == i) + 0) = total-append (λ a. one (a.id == i)) g.answers (record { id = id; reply = reply } ∷ []) in
                  omega arith);
              order = run.order;
              said = run.said ∙ sym (append_assoc g.answers (record { id = id; reply = reply } ∷ []) (says rest));
              role = run.role;
              sets = run.sets;
              are_up = run.are_up;
            };
            owes = refl;
          });
          less = omega arith;
          reached = refl;
          requests = ap (λ v. v.requests) next;
        }
