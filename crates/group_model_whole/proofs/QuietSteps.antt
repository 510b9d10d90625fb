-- Each delivery of a quiet group is one of those that were due; and an empty wire leaves nothing to do.
use Rattle.std.proofs.Common.{ℕ, ◌≡◌, ◌≤◌, ◌<◌, ◌+◌, Bool, true, false, ◌==◌, List, [], ◌∷◌, length, refl, sym, ◌∙◌, ap, subst, arith, inl, inr}
use Rattle.std.specs.Prelude.{Some, None, slice_get}
use Rattle.std.specs.List.{filter, list_any, list_all}
use Rattle.std.proofs.lemmas.Bool.{eq-eqb, both_ways, or_cases, or_left, or_right, and_from, eqb-true}
use Rattle.entry_core.specs.Log.{is_in}
use Rattle.store_core.specs.Request.{Sealed}
use Rattle.store_core.specs.declared.entry.Entry.{Entry}
use Rattle.group_model_whole.specs.Choice.{can_choose, covers, best, own_offer, is_informed}
use Rattle.group_model_whole.specs.ActingSets.{all_count}
use Rattle.group_model_whole.specs.Types.{PeerInfo, Role, Idle, Peering, Installing, Active, Daemon, Interval, Query, Info, Install, Installed, Append, Appended, Sent}
use Rattle.group_model_whole.specs.Each.{Each}
use Rattle.group_model_whole.specs.Group.{Group, is_distinct, to_daemon}
use Rattle.group_model_whole.proofs.QuietLists.{one, total, all_pass, head_same, tail_same}
use Rattle.group_model_whole.proofs.QuietStates.{between, concerns, of_id, logs, lead_copy, wire_weight, role_weight, waiting_weight, Stage, Peered, Setting, Pushing, IsPeered, Usual, Member, Running, After, Due}
use Rattle.group_model_whole.proofs.QuietMoves.{others_of, Next}
use Rattle.group_model_whole.proofs.QuietAnswers.{Step, about_head, query_next, install_next, append_next, news_next}
use Rattle.group_model_whole.proofs.QuietRounds.{info_next}
use Rattle.group_model_whole.proofs.QuietCounts.{installed_next, appended_next}
use Rattle.group_model_whole.proofs.QuietRequests.{request_next, reply_next}
use Rattle.group_model_whole.proofs.QuietOpens.{opens_next}

module _ (z p : ℕ) (os : List ℕ) (once : is_distinct (p ∷ os) ≡ true) where
  module _ (g : Group) (rest : List Sent) (usual : Each (Usual z p os) rest) (due : ℕ) (base : ℕ) (log : List Entry) (waiting : List Sealed) (m : Sent)
      (is : g.wire ≡ m ∷ rest) where
    abbrev StepAt : Role → Sent → Type 0
    StepAt r v = Step z p os once g rest usual due base log r waiting v

    module _ (d : ℕ) (e : Daemon) (among : is_in os d ≡ true) (here : slice_get g.copies d ≡ Some e) (number : e.number ≡ d) where
      abbrev about : List Sent
      about = filter (concerns d) rest

      peering_round : (informed : List PeerInfo) (b : Bool) → list_any (λ i. i.number == d) informed ≡ b → IsPeered z p os informed d e (m ∷ about) → Peered z p os b d (m ∷ about) → StepAt (Peering informed) m
      peering_round informed true counted st on_way = absurd (cc)
      peering_round informed false counted st (inl on_way) =
          let head : m ≡ between p d (Query 1) = head_same m (between p d (Query 1)) about [] on_way.is in
          let tail : about ≡ [] = tail_same m (between p d (Query 1)) about [] on_way.is in
          subst (StepAt (Peering informed)) (sym head) (query_next z p os once g rest usual due base log (Peering informed) waiting d e among here number tail informed refl st.fresh counted)
      peering_round informed false counted st (inr on_way) =
          let head : m ≡ between d p (Info 1 on_way.base []) = head_same m (between d p (Info 1 on_way.base [])) about [] on_way.is in
          let tail : about ≡ [] = tail_same m (between d p (Info 1 on_way.base [])) about [] on_way.is in
          subst (StepAt (Peering informed)) (sym head) (info_next z p os once g rest usual due base log waiting d among tail informed on_way.base counted)

      installing_round : (done : List ℕ) (b : Bool) → is_in done d ≡ b → Setting z p os b d e log (m ∷ about) → StepAt (Installing done) m
      installing_round done true counted st = (let gone = st.none in absurd (cc))
      installing_round done false counted (inl st) =
          let head : m ≡ between p d (Install 1 log) = head_same m (between p d (Install 1 log)) about [] st.is in
          let tail : about ≡ [] = tail_same m (between p d (Install 1 log)) about [] st.is in
          subst (StepAt (Installing done)) (sym head) (install_next z p os once g rest usual due base log (Installing done) waiting d e among here number tail done refl st.fresh counted)
      installing_round done false counted (inr st) =
          let head : m ≡ between d p (Installed 1) = head_same m (between d p (Installed 1)) about [] st.is in
          let tail : about ≡ [] = tail_same m (between d p (Installed 1)) about [] st.is in
          subst (StepAt (Installing done)) (sym head) (installed_next z p os once g rest usual due base log waiting d among tail done)

      flying_round : (holders : List ℕ) (b : Bool) → is_in holders d ≡ b → Pushing z p os b d e log (m ∷ about) → StepAt (Active (Some holders)) m
      flying_round holders true counted st = (let gone = st.none in absurd (cc))
      flying_round holders false counted (inl st) =
          let head : m ≡ between p d (Append 1 (length log) st.ends.sealed) = head_same m (between p d (Append 1 (length log) st.ends.sealed)) about [] st.is in
          let tail : about ≡ [] = tail_same m (between p d (Append 1 (length log) st.ends.sealed)) about [] st.is in
          subst (StepAt (Active (Some holders))) (sym head) (append_next z p os once g rest usual due base log (Active (Some holders)) waiting d e among here number tail holders refl st.ends st.holds counted)
      flying_round holders false counted (inr st) =
          let head : m ≡ between d p (Appended 1 (length log)) = head_same m (between d p (Appended 1 (length log))) about [] st.is in
          let tail : about ≡ [] = tail_same m (between d p (Appended 1 (length log))) about [] st.is in
          subst (StepAt (Active (Some holders))) (sym head) (appended_next z p os once g rest usual due base log waiting d among tail holders)

      round : (r : Role) → Stage z p os r log d e (m ∷ about) → StepAt r m
      round Idle st is' run owes = absurd (let never : 1 ≡ 0 = run.role in let bad : ⊥ = omega arith in bad)
      round (Peering informed) st is' run owes = (let f : StepAt (Peering informed) m = peering_round informed (list_any (λ i. i.number == d) informed) refl st st.peered in f is' run owes)
      round (Installing done) st is' run owes = (let f : StepAt (Installing done) m = installing_round done (is_in done d) refl st in f is' run owes)
      round (Active None) st is' run owes = (let gone : m ∷ about ≡ [] = st.none in absurd (cc))
      round (Active (Some holders)) st is' run owes = (let f : StepAt (Active (Some holders)) m = flying_round holders (is_in holders d) refl st in f is' run owes)

    any : (r : Role) → Usual z p os m → StepAt r m
    any r (inl u) is' run owes =
        let it : Member z p os g.copies r log u.member (filter (concerns u.member) (m ∷ rest)) = run.members u.member u.among in
        let stage : Stage z p os r log u.member it.copy (m ∷ filter (concerns u.member) rest) = subst (λ v. Stage z p os r log u.member it.copy v) (about_head u.member m rest u.about) it.stage in
        let f : StepAt r m = round u.member it.copy u.among it.here it.number r stage in
        f is' run owes
    any r (inr (inl u)) is' run owes =
        let news : StepAt r (to_daemon u.member (Interval ((p ∷ os) ∷ []))) = λ is' run owes. (
        let it : Member z p os g.copies r log u.member (filter (concerns u.member) rest) = run.members u.member u.among in
        news_next z p os once g rest usual due base log r waiting u.member it.copy u.among it.here it.number it.stage is' run owes) in
        let f : StepAt r m = subst (StepAt r) (sym u.is) news in
        f is' run owes
    any r (inr (inr (inl u))) is' run owes = (let f : StepAt r m = subst (StepAt r) (sym u.is) (request_next z p os once g rest usual due base log waiting u.sealed r) in f is' run owes)
    any r (inr (inr (inr u))) is' run owes = (let f : StepAt r m = subst (StepAt r) (sym u.is) (reply_next z p os once g rest usual due base log waiting r u.id u.reply) in f is' run owes)

  pub after_next : (g : Group) (due : ℕ) (m : Sent) (rest : List Sent) → After z p os g due → g.wire ≡ m ∷ rest → Next z p os once g m due
  after_next g due m rest now is =
      let each : Each (Usual z p os) (m ∷ rest) = subst (λ w. Each (Usual z p os) w) is now.usual in
      let run : Running z p os g (m ∷ rest) (lead_copy z p os now.base now.log now.role now.waiting) = subst (λ w. Running z p os g w (lead_copy z p os now.base now.log now.role now.waiting)) is now.running in
      let owes : due ≡ wire_weight z p os (m ∷ rest) + role_weight z p os now.role + waiting_weight z p os now.waiting = now.owes ∙ ap (λ w. wire_weight z p os w + role_weight z p os now.role + waiting_weight z p os now.waiting) is in
      let f : Step z p os once g rest each.1 due now.base now.log now.role now.waiting m = any g rest each.1 due now.base now.log now.waiting m is now.role each.0 in
      f is run owes

  pub due_next : z ≤ length (p ∷ os) → ((d : ℕ) → is_in os d ≡ true → d < 16) → (g : Group) (due : ℕ) (m : Sent) (rest : List Sent) → Due z p os g due → g.wire ≡ m ∷ rest → Next z p os once g m due
  due_next enough few g due m rest (inr now) is = after_next g due m rest now is
  due_next enough few g due m rest (inl now) is =
      let head : m ≡ to_daemon p (Interval ((p ∷ os) ∷ [])) = head_same m (to_daemon p (Interval ((p ∷ os) ∷ []))) rest now.rest (sym is ∙ now.is) in
      subst (λ v. Next z p os once g v due) (sym head) (opens_next z p os once enough few g now.rest now.usual due now.is now.running now.owes)

  -- nothing is on its way

  pub record IsIdle (g : Group) (due : ℕ) : Type 0 where
    pub none : due ≡ 0
    pub each : (id : ℕ) → of_id id g.requests ≡ total (λ a. one (a.id == id)) g.answers
    pub base : ℕ
    pub log : List Entry
    pub waiting : List Sealed
    pub empty : waiting ≡ []
    pub running : Running z p os g [] (lead_copy z p os base log (Active None) waiting)

  module _ (g : Group) (base : ℕ) (log : List Entry) (waiting : List Sealed) where
    abbrev At : Role → Daemon
    At r = lead_copy z p os base log r waiting

    all_set : (r : Role) (counted : List ℕ) → ((x : ℕ) → is_in os x ≡ true → is_in counted x ≡ true) → all_count (At r) counted ≡ true
    all_set r counted each = subst (λ v. list_all (λ m. is_in counted m) v ≡ true) (sym (others_of z p os once base log r waiting)) (all_pass (λ m. is_in counted m) os each)

    all_told : (informed : List PeerInfo) → ((x : ℕ) → is_in os x ≡ true → list_any (λ i. i.number == x) informed ≡ true) → can_choose (At (Peering informed)) informed ≡ true
    all_told informed each = and_from (list_all (is_informed (At (Peering informed)) informed) (p ∷ os)) (covers z (best (own_offer (At (Peering informed))) informed).base (is_informed (At (Peering informed)) informed) 1 []) (all_pass (is_informed (At (Peering informed)) informed) (p ∷ os) here) refl
      where
        here : (x : ℕ) → is_in (p ∷ os) x ≡ true → is_informed (At (Peering informed)) informed x ≡ true
        here x is = elim (or_cases (p == x) (is_in os x) is) [
          | inl same ↦ or_left (x == p) (list_any (λ i. i.number == x) informed) (eq-eqb x p (sym (eqb-true p x same)))
          | inr later ↦ or_right (x == p) (list_any (λ i. i.number == x) informed) (each x later)
        ]

    peered_none : (b : Bool) (d : ℕ) → Peered z p os b d [] → b ≡ true
    peered_none true d st = refl
    peered_none false d (inl st) = (let gone = st.is in absurd (cc))
    peered_none false d (inr st) = (let gone = st.is in absurd (cc))

    set_none : (b : Bool) (d : ℕ) (e : Daemon) → Setting z p os b d e log [] → b ≡ true
    set_none true d e st = refl
    set_none false d e (inl st) = (let gone = st.is in absurd (cc))
    set_none false d e (inr st) = (let gone = st.is in absurd (cc))

    push_none : (b : Bool) (d : ℕ) (e : Daemon) → Pushing z p os b d e log [] → b ≡ true
    push_none true d e st = refl
    push_none false d e (inl st) = (let gone = st.is in absurd (cc))
    push_none false d e (inr st) = (let gone = st.is in absurd (cc))

    idle : (r : Role) (due : ℕ) → Running z p os g [] (At r) → due ≡ 0 + role_weight z p os r + waiting_weight z p os waiting → IsIdle g due
    idle Idle due run owes = absurd (let never : 1 ≡ 0 = run.role in let bad : ⊥ = omega arith in bad)
    idle (Peering informed) due run owes = absurd (both_ways (can_choose (At (Peering informed)) informed) run.role.open_yet
        (all_told informed (λ x is. (let it : Member z p os g.copies (Peering informed) log x [] = run.members x is in peered_none (list_any (λ i. i.number == x) informed) x it.stage.peered))))
    idle (Installing done) due run owes = absurd (both_ways (all_count (At (Installing done)) done) run.role.open_yet
        (all_set (Installing done) done (λ x is. (let it : Member z p os g.copies (Installing done) log x [] = run.members x is in set_none (is_in done x) x it.copy it.stage))))
    idle (Active (Some holders)) due run owes = absurd (both_ways (all_count (At (Active (Some holders))) holders) run.role.open_yet
        (all_set (Active (Some holders)) holders (λ x is. (let it : Member z p os g.copies (Active (Some holders)) log x [] = run.members x is in push_none (is_in holders x) x it.copy it.stage))))
    idle (Active None) due run owes =
        let empty : waiting ≡ [] = run.role in
        record {
          none = (let light : waiting_weight z p os waiting ≡ 0 = ap (waiting_weight z p os) empty in omega arith);
          each = λ id. (
              let asked : 0 + of_id id waiting + logs id log ≡ of_id id g.requests = run.asked id in
              let told : logs id log ≡ 0 + total (λ a. one (a.id == id)) g.answers = run.told id in
              let none : of_id id waiting ≡ 0 = ap (of_id id) empty in
              omega arith);
          base = base;
          log = log;
          waiting = waiting;
          empty = empty;
          running = run;
        }

  pub due_idle : (g : Group) (due : ℕ) → Due z p os g due → g.wire ≡ [] → IsIdle g due
  due_idle g due (inl now) is = (let some = now.is in absurd (cc))
  due_idle g due (inr now) is =
      idle g now.base now.log now.waiting now.role due
      (subst (λ w. Running z p os g w (lead_copy z p os now.base now.log now.role now.waiting)) is now.running)
      (now.owes ∙ ap (λ w. wire_weight z p os w + role_weight z p os now.role + waiting_weight z p os now.waiting) is)
