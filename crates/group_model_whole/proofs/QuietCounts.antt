-- The first of a quiet group counts who installed its log and who has its entry.
use Rattle.std.proofs.Common.{ℕ, ◌≡◌, ◌+◌, ◌-◌, Bool, true, false, ◌==◌, List, [], ◌∷◌, ◌++◌, length, take, refl, sym, ◌∙◌, ap, subst, arith, inl, inr, if◌then◌else◌}
use Rattle.std.specs.Prelude.{Some}
use Rattle.std.specs.List.{filter}
use Rattle.std.proofs.lemmas.Bool.{cases_eq, cases_Bool, eq-eqb, ne_eqb}
use Rattle.entry_core.specs.Log.{is_in, decide}
use Rattle.store_core.specs.Request.{Sealed}
use Rattle.store_core.specs.declared.entry.Entry.{Entry}
use Rattle.group_model_whole.specs.Steps.{still}
use Rattle.group_model_whole.specs.ActingSets.{all_count, others, counted}
use Rattle.group_model_whole.proofs.Countings.{counted_same, counted_other}
use Rattle.group_model_whole.proofs.QuietMoves.{others_of}
use Rattle.group_model_whole.specs.Serve.{serve}
use Rattle.group_model_whole.specs.Copy.{complete}
use Rattle.group_model_whole.specs.Decided.{last}
use Rattle.group_model_whole.specs.Types.{Role, Installing, Active, Daemon, Install, Installed, Append, Appended, Reply, Osd, Client, Sent}
use Rattle.group_model_whole.specs.Each.{Each}
use Rattle.group_model_whole.specs.Group.{Group, is_distinct}
use Rattle.group_model_whole.specs.Calm.{answer_with}
use Rattle.group_model_whole.proofs.QuietLists.{append-nil, map-last, carries_id, logs-push, one, head_same, take-front}
use Rattle.group_model_whole.proofs.QuietStates.{between, concerns, logs, says, sealed_of, answers_of, lead_copy, Stage, Setting, Pushing, Usual, HasLog, IsDone, Ends, IsSpreading, IsFlying}
use Rattle.group_model_whole.proofs.QuietMoves.{first_next}
use Rattle.group_model_whole.proofs.QuietServes.{Served, served}
use Rattle.group_model_whole.proofs.QuietAnswers.{Step, about_head, about_other}
use Rattle.group_model_whole.proofs.QuietRounds.{last-push, about_nil, about_sent, all_in, fresh_all}

module _ (z p : ℕ) (os : List ℕ) (once : is_distinct (p ∷ os) ≡ true) (g : Group) (rest : List Sent) (usual : Each (Usual z p os) rest) (due : ℕ)
    (base : ℕ) (log : List Entry) (waiting : List Sealed) (d : ℕ) (among : is_in os d ≡ true) (none : filter (concerns d) rest ≡ []) where
  abbrev At : Role → Daemon
  At r = lead_copy z p os base log r waiting

  abbrev StepAt : Role → Sent → Type 0
  StepAt r m = Step z p os once g rest usual due base log r waiting m

  inside : (r : Role) (x : ℕ) → is_in os x ≡ true → is_in (others (At r)) x ≡ true
  inside r x inx = subst (λ v. is_in v x ≡ true) (sym (others_of z p os once base log r waiting)) inx

  module _ (done : List ℕ) where
    abbrev installed : Sent
    installed = between d p (Installed 1)

    set_head : (x : ℕ) (e : Daemon) (b : Bool) (ms about : List Sent) → Setting z p os b x e log ms → ms ≡ between d p (Installed 1) ∷ about → HasLog e log
    set_head x e true ms about st is = (let gone = st.none in absurd (cc))
    set_head x e false ms about (inl st) is = (let bodies : Installed 1 ≡ Install 1 log = ap (λ m. m.body) (head_same (between d p (Installed 1)) (between p x (Install 1 log)) about [] (sym is ∙ st.is)) in absurd (cc))
    set_head x e false ms about (inr st) is = st.holds

    set_done : (x : ℕ) (e : Daemon) → is_in os x ≡ true → Setting z p os (is_in done x) x e log (filter (concerns x) (installed ∷ rest)) → is_in (counted (At (Installing done)) done d) x ≡ true → IsDone e log (filter (concerns x) rest)
    set_done x e inx st found = elim (cases_eq x d) [
      | inl same ↦ record {
        none = subst (λ v. filter (concerns v) rest ≡ []) (sym same) none;
        holds = set_head x e (is_in done x) (filter (concerns x) (installed ∷ rest)) (filter (concerns x) rest) st (about_head x installed rest (eq-eqb d x (sym same)));
      }
      | inr not_it ↦ (
          let was : is_in done x ≡ true = sym (counted_other (At (Installing done)) done d x (inside (Installing done) x inx) not_it) ∙ found in
          let done_already : IsDone e log (filter (concerns x) (installed ∷ rest)) = subst (λ b. Setting z p os b x e log (filter (concerns x) (installed ∷ rest))) was st in
          record { none = sym (about_other x installed rest (ne_eqb d x (λ same. not_it (sym same)))) ∙ done_already.none; holds = done_already.holds })
    ]

    installed_waits : all_count (At (Installing done)) (counted (At (Installing done)) done d) ≡ false → StepAt (Installing done) installed
    installed_waits open_yet is run owes =
        let role : IsSpreading z p os done (At (Installing done)) = run.role in
        first_next z p os once g installed rest (At (Installing done)) base log (Installing (counted (At (Installing done)) done d)) waiting [] due is refl run
        (ap (λ v. if v then serve waiting (At (Installing done)) else still (At (Installing (counted (At (Installing done)) done d)))) open_yet)
        (record {
          members = λ x inx e st. (elim (cases_eq x d) [
            | inl same ↦ (
                let found : is_in (counted (At (Installing done)) done d) x ≡ true = counted_same (At (Installing done)) done d x (inside (Installing done) x inx) same in
                let now : IsDone e log (filter (concerns x) rest) = set_done x e inx st found in
                subst (λ b. Setting z p os b x e log (filter (concerns x) (rest ++ []))) (sym found) (record { none = about_nil x rest ∙ now.none; holds = now.holds }))
            | inr not_it ↦ subst (λ b. Setting z p os b x e log (filter (concerns x) (rest ++ []))) (sym (counted_other (At (Installing done)) done d x (inside (Installing done) x inx) not_it))
                (subst (λ v. Setting z p os (is_in done x) x e log v) (about_other x installed rest (ne_eqb d x (λ same. not_it (sym same))) ∙ sym (about_nil x rest)) st)
          ]);
          asked = λ id. refl;
          told = λ id. refl;
          silent = λ id. refl;
          order = sym (append-nil (sealed_of log ++ waiting));
          said = refl;
          wants_none = refl;
          says_none = refl;
          role = record { none = role.none; open_yet = open_yet };
        })
        usual tt owes (omega arith)

    installed_all : all_count (At (Installing done)) (counted (At (Installing done)) done d) ≡ true → StepAt (Installing done) installed
    installed_all all is run owes =
        let role : IsSpreading z p os done (At (Installing done)) = run.role in
        let s : Served z p os once base log waiting (serve waiting (At (Installing done))) = served z p os once waiting base log (Installing done) waiting (fresh_all z p os once g rest usual due base log waiting d among none (Installing done) installed run) in
        first_next z p os once g installed rest (At (Installing done)) base s.log' s.role' s.waiting' (serve waiting (At (Installing done))).sent due is refl run
        (ap (λ v. if v then serve waiting (At (Installing done)) else still (At (Installing (counted (At (Installing done)) done d)))) all
        ∙ ap (λ v. record { copy = v; sent = (serve waiting (At (Installing done))).sent }) s.copy)
        (record {
          members = λ x inx e st. (
              let now : IsDone e log (filter (concerns x) rest) = set_done x e inx st (all_in z p os once g rest usual due base log waiting d among none (Installing done) (counted (At (Installing done)) done d) all x inx) in
              subst (λ v. Stage z p os s.role' s.log' x e v) (sym (about_sent x rest (serve waiting (At (Installing done))).sent now.none)) (s.members x inx e now.holds));
          asked = λ id. (let all_asked = s.asked id in omega arith);
          told = λ id. (let all_told = s.told id in let empty : logs id log ≡ 0 = ap (logs id) role.none in omega arith);
          silent = λ id. refl;
          order = s.order ∙ sym (append-nil (sealed_of log ++ waiting));
          said = s.said ∙ ap (λ l. answers_of l ++ says (serve waiting (At (Installing done))).sent) role.none;
          wants_none = s.wants_none;
          says_none = refl;
          role = s.role;
        })
        usual s.usual owes (let pays = s.pays in omega arith)

    pub installed_next : StepAt (Installing done) (between d p (Installed 1))
    installed_next is run owes = elim (cases_Bool (all_count (At (Installing done)) (counted (At (Installing done)) done d))) [
      | inl all ↦ installed_all all is run owes
      | inr open_yet ↦ installed_waits open_yet is run owes
    ]

  module _ (holders : List ℕ) where
    abbrev pushed : Sent
    pushed = between d p (Appended 1 (length log))

    push_head : (x : ℕ) (e : Daemon) (b : Bool) (ms about : List Sent) → Pushing z p os b x e log ms → ms ≡ between d p (Appended 1 (length log)) ∷ about → HasLog e log
    push_head x e true ms about st is = (let gone = st.none in absurd (cc))
    push_head x e false ms about (inl st) is = (let bodies : Appended 1 (length log) ≡ Append 1 (length log) st.ends.sealed = ap (λ m. m.body) (head_same (between d p (Appended 1 (length log))) (between p x (Append 1 (length log) st.ends.sealed)) about [] (sym is ∙ st.is)) in absurd (cc))
    push_head x e false ms about (inr st) is = st.holds

    abbrev Flying : Role
    Flying = Active (Some holders)

    push_done : (x : ℕ) (e : Daemon) → is_in os x ≡ true → Pushing z p os (is_in holders x) x e log (filter (concerns x) (pushed ∷ rest)) → is_in (counted (At (Active (Some holders))) holders d) x ≡ true → IsDone e log (filter (concerns x) rest)
    push_done x e inx st found = elim (cases_eq x d) [
      | inl same ↦ record {
        none = subst (λ v. filter (concerns v) rest ≡ []) (sym same) none;
        holds = push_head x e (is_in holders x) (filter (concerns x) (pushed ∷ rest)) (filter (concerns x) rest) st (about_head x pushed rest (eq-eqb d x (sym same)));
      }
      | inr not_it ↦ (
          let was : is_in holders x ≡ true = sym (counted_other (At Flying) holders d x (inside Flying x inx) not_it) ∙ found in
          let done_already : IsDone e log (filter (concerns x) (pushed ∷ rest)) = subst (λ b. Pushing z p os b x e log (filter (concerns x) (pushed ∷ rest))) was st in
          record { none = sym (about_other x pushed rest (ne_eqb d x (λ same. not_it (sym same)))) ∙ done_already.none; holds = done_already.holds })
    ]

    appended_waits : all_count (At (Active (Some holders))) (counted (At (Active (Some holders))) holders d) ≡ false → StepAt (Active (Some holders)) pushed
    appended_waits open_yet is run owes =
        let role : IsFlying z p os holders (At Flying) = run.role in
        first_next z p os once g pushed rest (At Flying) base log (Active (Some (counted (At (Active (Some holders))) holders d))) waiting [] due is refl run
        (ap (λ v. if v then (if all_count (At Flying) (counted (At (Active (Some holders))) holders d) then complete (At Flying) (last log) else still (At (Active (Some (counted (At (Active (Some holders))) holders d))))) else still (At Flying)) (eq-eqb (length log) (length log) refl)
        ∙ ap (λ v. if v then complete (At Flying) (last log) else still (At (Active (Some (counted (At (Active (Some holders))) holders d))))) open_yet)
        (record {
          members = λ x inx e st. (elim (cases_eq x d) [
            | inl same ↦ (
                let found : is_in (counted (At (Active (Some holders))) holders d) x ≡ true = counted_same (At Flying) holders d x (inside Flying x inx) same in
                let now : IsDone e log (filter (concerns x) rest) = push_done x e inx st found in
                subst (λ b. Pushing z p os b x e log (filter (concerns x) (rest ++ []))) (sym found) (record { none = about_nil x rest ∙ now.none; holds = now.holds }))
            | inr not_it ↦ subst (λ b. Pushing z p os b x e log (filter (concerns x) (rest ++ []))) (sym (counted_other (At Flying) holders d x (inside Flying x inx) not_it))
                (subst (λ v. Pushing z p os (is_in holders x) x e log v) (about_other x pushed rest (ne_eqb d x (λ same. not_it (sym same))) ∙ sym (about_nil x rest)) st)
          ]);
          asked = λ id. refl;
          told = λ id. omega arith;
          silent = λ id. refl;
          order = sym (append-nil (sealed_of log ++ waiting));
          said = sym (append-nil (answers_of (take (length log - 1) log)));
          wants_none = refl;
          says_none = refl;
          role = record { ends = role.ends; open_yet = open_yet };
        })
        usual tt owes (omega arith)

    appended_all : all_count (At (Active (Some holders))) (counted (At (Active (Some holders))) holders d) ≡ true → StepAt (Active (Some holders)) pushed
    appended_all all is run owes =
        let role : IsFlying z p os holders (At Flying) = run.role in
        let ends : Ends log = role.ends in
        let is_last : last log ≡ Some (decide ends.front ends.sealed) = ap last ends.whole ∙ last-push ends.front (decide ends.front ends.sealed) in
        let reply : Sent = record { from = Osd p; to = Client; body = Reply (decide ends.front ends.sealed).sealed.id (decide ends.front ends.sealed).reply } in
        let s : Served z p os once base log waiting (serve waiting (At Flying)) = served z p os once waiting base log Flying waiting (fresh_all z p os once g rest usual due base log waiting d among none Flying pushed run) in
        first_next z p os once g pushed rest (At Flying) base s.log' s.role' s.waiting' (reply ∷ (serve waiting (At Flying)).sent) due is refl run
        (ap (λ v. if v then (if all_count (At Flying) (counted (At (Active (Some holders))) holders d) then complete (At Flying) (last log) else still (At (Active (Some (counted (At (Active (Some holders))) holders d))))) else still (At Flying)) (eq-eqb (length log) (length log) refl)
        ∙ ap (λ v. if v then complete (At Flying) (last log) else still (At (Active (Some (counted (At (Active (Some holders))) holders d))))) all
        ∙ ap (complete (At Flying)) is_last
        ∙ ap (λ v. record { copy = v; sent = reply ∷ (serve waiting (At Flying)).sent }) s.copy)
        (record {
          members = λ x inx e st. (
              let now : IsDone e log (filter (concerns x) rest) = push_done x e inx st (all_in z p os once g rest usual due base log waiting d among none Flying (counted (At (Active (Some holders))) holders d) all x inx) in
              subst (λ v. Stage z p os s.role' s.log' x e v) (sym (about_sent x rest (reply ∷ (serve waiting (At Flying)).sent) now.none)) (s.members x inx e now.holds));
          asked = λ id. (let all_asked = s.asked id in omega arith);
          told = λ id. (
              let all_told = s.told id in
              let sum : logs id log ≡ logs id ends.front + one (ends.sealed.id == id) = ap (logs id) ends.whole ∙ logs-push ends.front ends.sealed id in
              let same = carries_id ends.front ends.sealed id in
              let front : logs id (take (length log - 1) log) ≡ logs id ends.front = ap (λ l. logs id (take (length l - 1) l)) ends.whole ∙ ap (logs id) (take-front ends.front (decide ends.front ends.sealed)) in
              omega arith);
          silent = λ id. refl;
          order = s.order ∙ sym (append-nil (sealed_of log ++ waiting));
          said =
              s.said
              ∙ ap (λ l. answers_of l ++ says (serve waiting (At Flying)).sent) ends.whole
              ∙ map-last answer_with ends.front (decide ends.front ends.sealed) (says (serve waiting (At Flying)).sent)
              ∙ ap (λ l. answers_of l ++ answer_with (decide ends.front ends.sealed) ∷ says (serve waiting (At Flying)).sent)
              (sym (ap (λ l. take (length l - 1) l) ends.whole ∙ take-front ends.front (decide ends.front ends.sealed)));
          wants_none = s.wants_none;
          says_none = refl;
          role = s.role;
        })
        usual (inr (inr (inr (record { id = (decide ends.front ends.sealed).sealed.id; reply = (decide ends.front ends.sealed).reply; is = refl }))), s.usual) owes (let pays = s.pays in omega arith)

    pub appended_next : StepAt (Active (Some holders)) (between d p (Appended 1 (length log)))
    appended_next is run owes = elim (cases_Bool (all_count (At (Active (Some holders))) (counted (At (Active (Some holders))) holders d))) [
      | inl all ↦ appended_all all is run owes
      | inr open_yet ↦ appended_waits open_yet is run owes
    ]
