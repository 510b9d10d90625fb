-- A quiet group from its start: what is due, over submissions and deliveries.
use Rattle.store_core.specs.declared.sealed.GroupId.{GroupId}
use Rattle.std.proofs.Common.{ℕ, zero, suc, ◌≡◌, ◌≤◌, ◌<◌, ◌+◌, ◌*◌, true, false, not, ◌==◌, List, [], ◌∷◌, ◌++◌, map, length, take, refl, sym, ◌∙◌, ap, subst, arith, inl, inr, append_assoc, if◌then◌else◌}
use Rattle.std.specs.Prelude.{Some, slice_get}
use Rattle.std.specs.List.{filter}
use Rattle.std.proofs.lemmas.Bool.{cases_eq, eq-eqb, ne_eqb, or_parts, or_left, or_right}
use Rattle.entry_core.specs.Log.{is_in}
use Rattle.store_core.specs.Request.{Sealed}
use Rattle.group_model_whole.specs.ActingSets.{daemons}
use Rattle.group_model_whole.specs.Types.{Daemon, Interval, Request, Osd, Sent}
use Rattle.group_model_whole.specs.Each.{Each}
use Rattle.group_messages.specs.Answers.{Answer}
use Rattle.group_model_whole.specs.Group.{Group, is_distinct, to_daemon, to_primary, last_set, is_answered, is_submitted, take_request, run, start, settle, delivered, open_requests}
use Rattle.group_model_whole.specs.Steps.{blank}
use Rattle.group_model_whole.proofs.Eaches.{Each-push}
use Rattle.group_model_whole.proofs.Groups.{Counts, daemons_count}
use Rattle.group_model_whole.proofs.QuietLists.{joined-append, joined-none, one, total, total-append, filter-append, append-nil, none_counts, one_passes, filter_none, each_sent}
use Rattle.group_model_whole.proofs.QuietStates.{concerns, asks_in, replies_in, wants_in, says_in, asks, replies, wants, says, sealed_of, of_id, lead_copy, weight_as, wire_weight, Usual, Member, Running, Due}
use Rattle.group_model_whole.proofs.QuietMoves.{first_out, Next}
use Rattle.group_model_whole.proofs.CalmRuns.{Counting, Settled, settles}
use Rattle.group_model_whole.proofs.CalmMoves.{interval_keeps, restart_keeps}
use Rattle.group_model_whole.proofs.QuietSteps.{due_next, due_idle, IsIdle}

-- the copies at the start

pub blank_at : (z k n : ℕ) (xs : List ℕ) (d : ℕ) → Counts k xs → d < length (take n xs) → slice_get (map (blank z) (take n xs)) d ≡ Some (blank z (k + d))
blank_at z k zero xs d counts below = absurd (omega arith)
blank_at z k (suc n) [] d counts below = absurd (omega arith)
blank_at z k (suc n) (x ∷ xs) zero counts below = let same : x ≡ k + 0 = omega (arith, counts.0) in ap (λ v. Some (blank z v)) same
blank_at z k (suc n) (x ∷ xs) (suc d) counts below =
    let later = blank_at z (k + 1) n xs d counts.1 (omega arith) in
    let same : k + 1 + d ≡ k + suc d = omega arith in
    later ∙ ap (λ v. Some (blank z v)) same

pub take_few : (n : ℕ) (xs : List ℕ) → length (take n xs) ≤ length xs
take_few zero xs = omega arith
take_few (suc n) [] = omega arith
take_few (suc n) (x ∷ xs) = let rest = take_few n xs in omega arith

-- news to members

news_about : (sets : List (List ℕ)) (x : ℕ) (xs : List ℕ) → filter (concerns x) (map (λ d. to_daemon d (Interval sets)) xs) ≡ []
news_about sets x [] = refl
news_about sets x (d ∷ xs) = news_about sets x xs

news_asks : (sets : List (List ℕ)) (id : ℕ) (xs : List ℕ) → asks id (map (λ d. to_daemon d (Interval sets)) xs) ≡ 0
news_asks sets id [] = refl
news_asks sets id (d ∷ xs) = let rest = news_asks sets id xs in omega arith

news_replies : (sets : List (List ℕ)) (id : ℕ) (xs : List ℕ) → replies id (map (λ d. to_daemon d (Interval sets)) xs) ≡ 0
news_replies sets id [] = refl
news_replies sets id (d ∷ xs) = let rest = news_replies sets id xs in omega arith

news_weight : (z p : ℕ) (os : List ℕ) (sets : List (List ℕ)) (xs : List ℕ) → is_in xs p ≡ false → wire_weight z p os (map (λ d. to_daemon d (Interval sets)) xs) ≡ length xs
news_weight z p os sets [] out = refl
news_weight z p os sets (d ∷ xs) out =
    let parts = or_parts (d == p) (is_in xs p) out in
    let here : weight_as z p os (Interval sets) (Osd d) ≡ 1 = ap (λ b. if b then 1 + 4 * length os else 1) parts.0 in
    let rest = news_weight z p os sets xs parts.1 in
    omega arith

each_answered : (rs : List Sealed) (answers : List Answer) → ((id : ℕ) → of_id id rs ≤ total (λ a. one (a.id == id)) answers) → Each (λ s. not (is_answered answers s.id) ≡ false) rs
each_answered [] answers enough = tt
each_answered (s ∷ rs) answers enough = (
  (let here : one (s.id == s.id) + of_id s.id rs ≤ total (λ a. one (a.id == s.id)) answers = enough s.id in
      let this : one (s.id == s.id) ≡ 1 = ap one (eq-eqb s.id s.id refl) in
      ap not (one_passes (λ a. a.id == s.id) answers (omega arith))),
  each_answered rs answers (λ id. (let all : one (s.id == id) + of_id id rs ≤ total (λ a. one (a.id == id)) answers = enough id in omega arith)),
)

module _ (z p : ℕ) (os : List ℕ) (once : is_distinct (p ∷ os) ≡ true) (enough : z ≤ length (p ∷ os)) (few : (d : ℕ) → is_in os d ≡ true → d < 16) where
  pub start_due : (group : GroupId) (count : ℕ) (up : List ℕ) → ((d : ℕ) → is_in (p ∷ os) d ≡ true → d < length (take count daemons)) → ((d : ℕ) → is_in (p ∷ os) d ≡ true → is_in up d ≡ true) →
      Due z p os (start group z count (p ∷ os) up) (5 * length os + 1)
  start_due group count up exist are_up =
      let rest : List Sent = map (λ d. to_daemon d (Interval ((p ∷ os) ∷ []))) os in
      let copy : (d : ℕ) → is_in (p ∷ os) d ≡ true → slice_get (map (blank z) (take count daemons)) d ≡ Some (blank z d) =
      λ d is. (let same : 0 + d ≡ d = omega arith in blank_at z 0 count daemons d daemons_count (exist d is) ∙ ap (λ v. Some (blank z v)) same) in
      inl (record {
        rest = rest;
        is = ap (λ v. to_daemon p (Interval ((p ∷ os) ∷ [])) ∷ v) (append-nil rest);
        usual = each_sent (Usual z p os) (λ d. to_daemon d (Interval ((p ∷ os) ∷ []))) os (λ d is. inr (inl (record { member = d; among = is; is = refl })));
        running = record {
          primary = copy p (or_left (p == p) (is_in os p) (eq-eqb p p refl));
          members = λ x is. record {
            copy = blank z x;
            here = copy x (or_right (p == x) (is_in os x) is);
            number = refl;
            stage = record { fresh = record { promise = omega arith; base = refl; log = refl }; none = news_about ((p ∷ os) ∷ []) x os };
          };
          once = λ id. omega arith;
          asked = λ id. (let none = news_asks ((p ∷ os) ∷ []) id os in omega arith);
          told = λ id. (let none = news_replies ((p ∷ os) ∷ []) id os in omega arith);
          order = joined-none (λ m. wants_in m.body) (λ d. to_daemon d (Interval ((p ∷ os) ∷ []))) os (λ d. refl);
          said = sym (joined-none (λ m. says_in m.body) (λ d. to_daemon d (Interval ((p ∷ os) ∷ []))) os (λ d. refl));
          role = refl;
          sets = refl;
          are_up = are_up;
        };
        owes = (
            let light = news_weight z p os ((p ∷ os) ∷ []) os (first_out z p os once) in
            let heavy : weight_as z p os (Interval ((p ∷ os) ∷ [])) (Osd p) ≡ 1 + 4 * length os = ap (λ b. if b then 1 + 4 * length os else 1) (eq-eqb p p refl) in
            omega arith);
      })

  -- one more request

  submitted_running : (g : Group) (s : Sealed) (wire : List Sent) (c : Daemon) → Running z p os g wire c → is_submitted g.requests s.id ≡ false → Running z p os (take_request g s) (wire ++ to_daemon p (Request s) ∷ []) c
  submitted_running g s wire c run new = record {
    primary = run.primary;
    members = λ x is. subst (λ v. Member z p os g.copies c.role c.log x v) (sym (filter-append (concerns x) wire (to_daemon p (Request s) ∷ []) ∙ append-nil (filter (concerns x) wire))) (run.members x is);
    once = λ id. (
        let sum : of_id id (g.requests ++ s ∷ []) ≡ of_id id g.requests + (one (s.id == id) + 0) = total-append (λ r. one (r.id == id)) g.requests (s ∷ []) in
        let most = run.once id in
        elim (cases_eq s.id id) [
          | inl same ↦ (
              let none : of_id s.id g.requests ≡ 0 = none_counts (λ r. r.id == s.id) g.requests new in
              let none' : of_id id g.requests ≡ 0 = subst (λ v. of_id v g.requests ≡ 0) same none in
              let one_is : one (s.id == id) ≡ 1 = ap one (eq-eqb s.id id same) in
              omega arith)
          | inr other ↦ (let zero_is : one (s.id == id) ≡ 0 = ap one (ne_eqb s.id id other) in omega arith)
        ]);
    asked = λ id. (
        let old = run.asked id in
        let sum : of_id id (g.requests ++ s ∷ []) ≡ of_id id g.requests + (one (s.id == id) + 0) = total-append (λ r. one (r.id == id)) g.requests (s ∷ []) in
        let more : asks id (wire ++ to_daemon p (Request s) ∷ []) ≡ asks id wire + (one (s.id == id) + 0) = total-append (λ m. asks_in id m.body) wire (to_daemon p (Request s) ∷ []) in
        omega arith);
    told = λ id. (
        let old = run.told id in
        let more : replies id (wire ++ to_daemon p (Request s) ∷ []) ≡ replies id wire + 0 = total-append (λ m. replies_in id m.body) wire (to_daemon p (Request s) ∷ []) in
        omega arith);
    order =
        ap (λ v. (sealed_of c.log ++ c.waiting) ++ v) (joined-append (λ m. wants_in m.body) wire (to_daemon p (Request s) ∷ []))
        ∙ sym (append_assoc (sealed_of c.log ++ c.waiting) (wants wire) (s ∷ []))
        ∙ ap (λ v. v ++ s ∷ []) run.order;
    said = run.said ∙ ap (λ v. g.answers ++ v) (sym (joined-append (λ m. says_in m.body) wire (to_daemon p (Request s) ∷ []) ∙ append-nil (says wire)));
    role = run.role;
    sets = run.sets;
    are_up = run.are_up;
  }

  goes_to_first : (g : Group) (s : Sealed) → g.sets ≡ (p ∷ os) ∷ [] → to_primary (last_set g.sets) (Request s ∷ []) ≡ to_daemon p (Request s) ∷ []
  goes_to_first g s sets = ap (λ v. to_primary (last_set v) (Request s ∷ [])) sets

  request_weight : (s : Sealed) (wire : List Sent) → wire_weight z p os (wire ++ to_daemon p (Request s) ∷ []) ≡ wire_weight z p os wire + (2 * length os + 2)
  request_weight s wire = (let sum : wire_weight z p os (wire ++ to_daemon p (Request s) ∷ []) ≡ wire_weight z p os wire + ((2 * length os + 2) + 0) = total-append (λ m. weight_as z p os m.body m.to) wire (to_daemon p (Request s) ∷ []) in omega arith)

  pub due_opens : (g : Group) (s : Sealed) (due : ℕ) → is_submitted g.requests s.id ≡ false → Due z p os g due → Due z p os (take_request g s) (due + (2 * length os + 2))
  due_opens g s due new (inl now) =
      let first : Sent = to_daemon p (Interval ((p ∷ os) ∷ [])) in
      let sends = goes_to_first g s now.running.sets in
      inl (record {
        rest = now.rest ++ to_daemon p (Request s) ∷ [];
        is = ap (λ w. w ++ to_primary (last_set g.sets) (Request s ∷ [])) now.is ∙ ap (λ v. (to_daemon p (Interval ((p ∷ os) ∷ [])) ∷ now.rest) ++ v) sends;
        usual = Each-push (Usual z p os) now.rest (to_daemon p (Request s)) now.usual (inr (inr (inl (record { sealed = s; is = refl }))));
        running = submitted_running g s (first ∷ now.rest) (blank z p) now.running new;
        owes = (let sum = request_weight s now.rest in let old = now.owes in omega arith);
      })
  due_opens g s due new (inr now) =
      let sends = goes_to_first g s now.running.sets in
      let wire : g.wire ++ to_primary (last_set g.sets) (Request s ∷ []) ≡ g.wire ++ to_daemon p (Request s) ∷ [] = ap (λ v. g.wire ++ v) sends in
      inr (record {
        base = now.base;
        log = now.log;
        role = now.role;
        waiting = now.waiting;
        usual = subst (λ w. Each (Usual z p os) w) (sym wire) (Each-push (Usual z p os) g.wire (to_daemon p (Request s)) now.usual (inr (inr (inl (record { sealed = s; is = refl })))));
        running = subst (λ w. Running z p os (take_request g s) w (lead_copy z p os now.base now.log now.role now.waiting)) (sym wire)
            (submitted_running g s g.wire (lead_copy z p os now.base now.log now.role now.waiting) now.running new);
        owes = (
            let sum = request_weight s g.wire in
            let same : wire_weight z p os (g.wire ++ to_primary (last_set g.sets) (Request s ∷ [])) ≡ wire_weight z p os (g.wire ++ to_daemon p (Request s) ∷ []) = ap (wire_weight z p os) wire in
            let old = now.owes in omega arith);
      })

  -- what is due, over calm events

  pub counted : Counting (p ∷ os) (2 * length os + 2) (Due z p os)
  counted = record {
    takes = due_opens;
    next = λ g m rest due now is. (let n : Next z p os once g m due = due_next z p os once enough few g due m rest now is in record { left = n.left; after = inr n.after; less = n.less; reached = n.reached; requests = n.requests });
    moves = interval_keeps z p os;
    restarts = restart_keeps z p os;
  }

  pub record Ended (n : ℕ) (g : Group) (due : ℕ) : Type 0 where
    pub count : delivered n g ≡ due
    pub answered : open_requests (settle n g) ≡ []
    pub left : ℕ
    pub idle : IsIdle z p os once (settle n g) left
    pub requests : (settle n g).requests ≡ g.requests

  pub ends : (n : ℕ) (g : Group) (due : ℕ) → Due z p os g due → (settle n g).wire ≡ [] → Ended n g due
  ends n g due now empty =
      let s : Settled (Due z p os) n g due = settles (p ∷ os) (2 * length os + 2) (Due z p os) counted n g due now in
      let idle : IsIdle z p os once (settle n g) s.left = due_idle z p os once (settle n g) s.left s.now empty in
      let last : Group = settle n g in
      record {
        count = (let none = idle.none in let sum = s.sum in omega arith);
        answered = filter_none (λ r. not (is_answered last.answers r.id)) last.requests (each_answered last.requests last.answers (λ id. (let same = idle.each id in omega arith)));
        left = s.left;
        idle = idle;
        requests = s.requests;
      }
