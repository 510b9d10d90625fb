-- What a group decided once it settled: its requests in order, each on those before it; and its answers say so.
use Rattle.std.proofs.Common.{ℕ, ◌≡◌, ◌≤◌, ◌+◌, Bool, true, false, ◌==◌, List, [], ◌∷◌, ◌++◌, map, refl, sym, ◌∙◌, ap, subst, arith, inl, inr, append_assoc, if◌then◌else◌}
use Rattle.std.specs.Prelude.{Some, None, slice_get}
use Rattle.std.specs.Option.{option_map}
use Rattle.std.proofs.lemmas.Bool.{eq-eqb, eqb-true, or_cases, or_left}
use Rattle.entry_core.specs.Log.{is_in, find, reply_in, Legal, LegalFrom}
use Rattle.store_core.specs.declared.entry.Entry.{Entry}
use Rattle.group_model_whole.specs.ActingSets.{set_of}
use Rattle.group_model_whole.specs.Types.{EntryReply, Active, Daemon}
use Rattle.group_messages.specs.Answers.{Answer}
use Rattle.group_model_whole.specs.Group.{Group, is_distinct, answer_of}
use Rattle.group_model_whole.specs.History.{Begins}
use Rattle.group_model_whole.specs.Replicated.{IsReplicated}
use Rattle.group_model_whole.specs.Asked.{IsReplied}
use Rattle.group_model_whole.specs.Calm.{log_after, log_of, answer_with}
use Rattle.group_model_whole.proofs.QuietLists.{one, total, total-append, total-map, append-nil}
use Rattle.group_model_whole.proofs.QuietStates.{logs, of_id, sealed_of, answers_of, lead_copy, Member, Running}
use Rattle.group_model_whole.proofs.QuietSteps.{IsIdle}

found_counts : (log : List Entry) (id : ℕ) (e : Entry) → find log id ≡ Some e → 1 ≤ logs id log
found_counts [] id e is = absurd (cc)
found_counts (x ∷ log) id e is = go (x.sealed.id == id) is (found_counts log id e)
  where
    go : (b : Bool) → (if b then Some x else find log id) ≡ Some e → (find log id ≡ Some e → 1 ≤ logs id log) → 1 ≤ one b + logs id log
    go true is rest = omega arith
    go false is rest = let r = rest is in omega arith

record HasAnswer (answers : List Answer) (id : ℕ) : Type 0 where
  reply : EntryReply
  is : answer_of answers id ≡ Some reply

some_answer : (answers : List Answer) (id : ℕ) → 1 ≤ total (λ a. one (a.id == id)) answers → HasAnswer answers id
some_answer [] id some = absurd (omega arith)
some_answer (a ∷ answers) id some = go (a.id == id) refl some (some_answer answers id)
  where
    go : (b : Bool) → (a.id == id) ≡ b → 1 ≤ one b + total (λ a. one (a.id == id)) answers → (1 ≤ total (λ a. one (a.id == id)) answers → HasAnswer answers id) → HasAnswer (a ∷ answers) id
    go true is some rest = record { reply = a.reply; is = ap (λ b. if b then Some a.reply else answer_of answers id) is }
    go false is some rest =
        let later : HasAnswer answers id = rest (omega arith) in
        record { reply = later.reply; is = ap (λ b. if b then Some a.reply else answer_of answers id) is ∙ later.is }

-- what was decided begins the log, and each entry of the log was answered as it was decided: so it is the whole log
same_log : (audit log : List Entry) → Begins audit log → ((id : ℕ) → logs id log ≤ 1) → ((id : ℕ) (reply : EntryReply) → answer_of (answers_of log) id ≡ Some reply → IsReplied audit id reply) → audit ≡ log
same_log audit log begins once replied = go begins.rest begins.whole
  where
    go : (rest : List Entry) → audit ++ rest ≡ log → audit ≡ log
    go [] whole = sym (append-nil audit) ∙ whole
    go (e ∷ rest) whole =
        let id : ℕ = e.sealed.id in
        let sum : logs id (audit ++ e ∷ rest) ≡ logs id audit + (one (e.sealed.id == id) + logs id rest) = total-append (λ e. one (e.sealed.id == id)) audit (e ∷ rest) in
        let same : logs id (audit ++ e ∷ rest) ≡ logs id log = ap (logs id) whole in
        let this : one (e.sealed.id == id) ≡ 1 = ap one (eq-eqb e.sealed.id e.sealed.id refl) in
        let counts : total (λ a. one (a.id == id)) (answers_of log) ≡ logs id log = total-map (λ a. one (a.id == id)) answer_with log in
        let a : HasAnswer (answers_of log) id = some_answer (answers_of log) id (omega arith) in
        let r : IsReplied audit id a.reply = replied id a.reply a.is in
        let decided = found_counts audit id r.entry r.found in
        let most = once id in
        absurd (let bad : ⊥ = omega arith in bad)

legal_log : (before es : List Entry) → LegalFrom before es → log_after before (sealed_of es) ≡ before ++ es
legal_log before [] legal = sym (append-nil before)
legal_log before (e ∷ es) legal =
    ap (λ v. log_after (before ++ v ∷ []) (sealed_of es)) (sym legal.1) ∙ legal_log (before ++ e ∷ []) es legal.2 ∙ append_assoc before (e ∷ []) es

answers_as : (log : List Entry) (id : ℕ) → answer_of (answers_of log) id ≡ reply_in log id
answers_as [] id = refl
answers_as (e ∷ log) id = go (e.sealed.id == id) (answers_as log id)
  where
    go : (b : Bool) → answer_of (answers_of log) id ≡ reply_in log id → (if b then Some e.reply else answer_of (answers_of log) id) ≡ option_map (λ e. e.reply) (if b then Some e else find log id)
    go true rest = refl
    go false rest = rest

pub record InOrder (g : Group) : Type 0 where
  pub order : sealed_of g.audit ≡ g.requests
  pub decided : g.audit ≡ log_of g.requests
  pub answers : g.answers ≡ map answer_with (log_of g.requests)
  pub answered : (id : ℕ) → answer_of g.answers id ≡ reply_in (log_of g.requests) id

orders : (g : Group) (log : List Entry) → Begins g.audit log → ((id : ℕ) → logs id log ≤ 1) → sealed_of log ≡ g.requests → answers_of log ≡ g.answers → Legal g.audit →
    ((id : ℕ) (reply : EntryReply) → answer_of g.answers id ≡ Some reply → IsReplied g.audit id reply) → InOrder g
orders g log begins once order said legal replied =
    let all : g.audit ≡ log = same_log g.audit log begins once (λ id reply is. replied id reply (ap (λ v. answer_of v id) (sym said) ∙ is)) in
    let order : sealed_of g.audit ≡ g.requests = ap sealed_of all ∙ order in
    let decided : g.audit ≡ log_of g.requests = sym (legal_log [] g.audit legal) ∙ ap log_of order in
    let answers : g.answers ≡ answers_of (log_of g.requests) = sym said ∙ ap answers_of (sym all ∙ decided) in
    record {
      order = order;
      decided = decided;
      answers = answers;
      answered = λ id. ap (λ v. answer_of v id) answers ∙ answers_as (log_of g.requests) id;
    }

module _ (z p : ℕ) (os : List ℕ) (once : is_distinct (p ∷ os) ≡ true) (g : Group) where
  module _ (base : ℕ) (log : List Entry) (run : Running z p os g [] (lead_copy z p os base log (Active None) [])) where
    abbrev lead : Daemon
    lead = lead_copy z p os base log (Active None) []

    latest : (m : ℕ) (other : Daemon) → is_in (set_of g.sets 1) m ≡ true → slice_get g.copies m ≡ Some other → other.promise ≤ 1
    latest m other is here =
        let among : is_in (p ∷ os) m ≡ true = subst (λ v. is_in (set_of v 1) m ≡ true) run.sets is in
        elim (or_cases (p == m) (is_in os m) among) [
          | inl same ↦ (
              let at_first : slice_get g.copies m ≡ Some (lead_copy z p os base log (Active None) []) = ap (slice_get g.copies) (sym (eqb-true p m same)) ∙ run.primary in
              let it : other ≡ lead_copy z p os base log (Active None) [] = cc in
              let promise : other.promise ≡ 1 = ap (λ v. v.promise) it in
              omega arith)
          | inr later ↦ (
              let member : Member z p os g.copies (Active None) log m [] = run.members m later in
              let it : other ≡ member.copy = (let at = member.here in cc) in
              let promise : other.promise ≡ 1 = ap (λ v. v.promise) it ∙ member.stage.holds.promise in
              omega arith)
        ]

    begun : IsReplicated g → Begins g.audit log
    begun replicated =
        let first_in : is_in (p ∷ os) p ≡ true = or_left (p == p) (is_in os p) (eq-eqb p p refl) in
        replicated p (lead_copy z p os base log (Active None) []) None run.primary refl latest p (lead_copy z p os base log (Active None) [])
        (subst (λ v. is_in (set_of v 1) p ≡ true) (sym run.sets) first_in) run.primary

  pub settled_order : (due : ℕ) → IsIdle z p os once g due → IsReplicated g → Legal g.audit → ((id : ℕ) (reply : EntryReply) → answer_of g.answers id ≡ Some reply → IsReplied g.audit id reply) → InOrder g
  settled_order due idle replicated legal replied =
      let run : Running z p os g [] (lead_copy z p os idle.base idle.log (Active None) []) = subst (λ v. Running z p os g [] (lead_copy z p os idle.base idle.log (Active None) v)) idle.empty idle.running in
      let order : (sealed_of idle.log ++ []) ++ [] ≡ g.requests = run.order in
      let said : answers_of idle.log ≡ g.answers ++ [] = run.said in
      orders g idle.log (begun idle.base idle.log run replicated)
      (λ id. (let asked : 0 + 0 + logs id idle.log ≡ of_id id g.requests = run.asked id in let most = run.once id in omega arith))
      (sym (append-nil (sealed_of idle.log ++ []) ∙ append-nil (sealed_of idle.log)) ∙ order)
      (said ∙ append-nil g.answers) legal replied
