-- The first of a quiet group hears of its interval, and asks the other members.
use Rattle.std.proofs.Common.{ℕ, ◌≡◌, ◌≤◌, ◌<◌, ◌+◌, ◌*◌, Bool, true, false, not, nat_lt, ◌==◌, ◌&&◌, ◌||◌, List, [], ◌∷◌, ◌++◌, map, length, refl, sym, ◌∙◌, ap, subst, arith, inl, inr, if◌then◌else◌}
use Rattle.std.specs.Prelude.{None}
use Rattle.std.specs.List.{filter, list_any}
use Rattle.std.proofs.lemmas.Bool.{cases_eq, cases_Bool, eq-eqb, ne_eqb, le-ltb, both_ways, or_left}
use Rattle.entry_core.specs.Log.{is_in}
use Rattle.group_model_whole.specs.Steps.{still, blank}
use Rattle.group_model_whole.specs.Copy.{on_interval, leads, lead, learn_sets, queries, try_choice, install_chosen}
use Rattle.group_model_whole.specs.ActingSets.{asked, others, daemons}
use Rattle.group_model_whole.specs.Choice.{can_choose}
use Rattle.group_model_whole.specs.Types.{Role, Idle, Peering, Active, Daemon, Interval, Query, Osd, Sent}
use Rattle.group_model_whole.specs.Each.{Each}
use Rattle.group_model_whole.specs.Group.{Group, is_distinct, to_daemon}
use Rattle.group_model_whole.proofs.QuietLists.{joined-none, one, total, append-nil, sent_once, each_sent, distinct_parts, filter-same, filtered_in, filter_in, filter_distinct, length-filter, members_counted, is_daemon}
use Rattle.group_model_whole.proofs.QuietStates.{between, concerns, asks_in, replies_in, wants_in, says_in, asks, replies, wants, says, lead_copy, weight_as, wire_weight, Usual, Running}
use Rattle.group_model_whole.proofs.QuietMoves.{first_out, others_of, Next, first_next}
use Rattle.group_model_whole.proofs.QuietServes.{none_in, twos_in}
use Rattle.group_model_whole.proofs.QuietRounds.{about_sent, all_heard}

module _ (z p : ℕ) (os : List ℕ) (once : is_distinct (p ∷ os) ≡ true) (enough : z ≤ length (p ∷ os)) (few : (d : ℕ) → is_in os d ≡ true → d < 16) where
  abbrev lead0 : Role → Daemon
  lead0 r = lead_copy z p os 0 [] r []

  asks_members : (x : ℕ) → (not (x == p) && list_any (λ members. is_in members x) ((p ∷ os) ∷ [])) ≡ is_in os x
  asks_members x = elim (cases_eq x p) [
    | inl same ↦ ap (λ b. not b && list_any (λ members. is_in members x) ((p ∷ os) ∷ [])) (eq-eqb x p same) ∙ sym (subst (λ v. is_in os v ≡ false) (sym same) (first_out z p os once))
    | inr other ↦ ap (λ b. not b && list_any (λ members. is_in members x) ((p ∷ os) ∷ [])) (ne_eqb x p other)
        ∙ ap (λ b. (b || is_in os x) || false) (ne_eqb p x (λ same. other (sym same))) ∙ or_false (is_in os x)
  ]
    where
      or_false : (b : Bool) → (b || false) ≡ b
      or_false true = refl
      or_false false = refl

  asks_them : (r : Role) → asked (lead0 r) ≡ filter (λ x. is_in os x) daemons
  asks_them r = filter-same (λ x. not (x == p) && list_any (λ members. is_in members x) ((p ∷ os) ∷ [])) (λ x. is_in os x) asks_members daemons

  abbrev asking : List Sent
  asking = map (λ d. between p d (Query 1)) (filter (λ x. is_in os x) daemons)

  asks_all : queries (lead0 Idle) ≡ asking
  asks_all = ap (λ ds. map (λ d. between p d (Query 1)) ds) (asks_them Idle)

  asking_weight : wire_weight z p os asking ≡ 2 * length os
  asking_weight =
      let twos : wire_weight z p os asking ≡ 2 * length (filter (λ x. is_in os x) daemons) = twos_in z p os once (Query 1) (filter (λ x. is_in os x) daemons) (λ d. refl) in
      let long : length (filter (λ x. is_in os x) daemons) ≡ total (λ x. one (is_in os x)) daemons = length-filter (λ x. is_in os x) daemons in
      let count : total (λ d. one (is_in os d)) daemons ≡ length os = members_counted os (distinct_parts p os once).1 few in
      omega arith

  asking_about : (x : ℕ) → is_in os x ≡ true → filter (concerns x) asking ≡ between p x (Query 1) ∷ []
  asking_about x is = sent_once (concerns x) (λ d. between p d (Query 1)) x (λ e. refl) (filter (λ x. is_in os x) daemons)
      (filter_distinct (λ x. is_in os x) daemons refl) (filter_in (λ x. is_in os x) daemons x (is_daemon x (few x is)) is)

  asking_usual : Each (Usual z p os) asking
  asking_usual = each_sent (Usual z p os) (λ d. between p d (Query 1)) (filter (λ x. is_in os x) daemons)
      (λ d is. inl (record { member = d; among = filtered_in (λ x. is_in os x) daemons d is; about = eq-eqb d d refl }))

  hears : on_interval (blank z p) ((p ∷ os) ∷ []) ≡ record { copy = (try_choice (lead0 Idle) []).copy; sent = queries (lead0 Idle) ++ (try_choice (lead0 Idle) []).sent }
  hears =
      ap (λ b. if b then lead (lead0 Idle) else still (learn_sets (blank z p) ((p ∷ os) ∷ []))) leads_it
    where
      leads_it : leads (blank z p) ((p ∷ os) ∷ []) ≡ true
      leads_it = ap (λ b. not b && (p == p) && nat_lt 0 1) (le-ltb (length (p ∷ os)) z enough) ∙ ap (λ b. not false && b && nat_lt 0 1) (eq-eqb p p refl)

  module _ (g : Group) (rest : List Sent) (usual : Each (Usual z p os) rest) (due : ℕ)
      (is : g.wire ≡ to_daemon p (Interval ((p ∷ os) ∷ [])) ∷ rest)
      (run : Running z p os g (to_daemon p (Interval ((p ∷ os) ∷ [])) ∷ rest) (blank z p))
      (owes : due ≡ wire_weight z p os (to_daemon p (Interval ((p ∷ os) ∷ [])) ∷ rest)) where
    abbrev news : Sent
    news = to_daemon p (Interval ((p ∷ os) ∷ []))

    weighs : weight_as z p os (Interval ((p ∷ os) ∷ [])) (Osd p) ≡ 1 + 4 * length os
    weighs = ap (λ b. if b then 1 + 4 * length os else 1) (eq-eqb p p refl)

    no_asks : (id : ℕ) → asks id asking ≡ 0
    no_asks id = none_in z p os once (asks_in id) (Query 1) (filter (λ x. is_in os x) daemons) refl

    no_replies : (id : ℕ) → replies id asking ≡ 0
    no_replies id = none_in z p os once (replies_in id) (Query 1) (filter (λ x. is_in os x) daemons) refl

    wants_nothing : wants asking ≡ []
    wants_nothing = joined-none (λ m. wants_in m.body) (λ d. between p d (Query 1)) (filter (λ x. is_in os x) daemons) (λ d. refl)

    says_nothing : says asking ≡ []
    says_nothing = joined-none (λ m. says_in m.body) (λ d. between p d (Query 1)) (filter (λ x. is_in os x) daemons) (λ d. refl)

    owed : due ≡ weight_as z p os (Interval ((p ∷ os) ∷ [])) (Osd p) + wire_weight z p os rest + 0 + 0
    owed = omega arith

    peers : can_choose (lead0 Idle) [] ≡ false → Next z p os once g news due
    peers open_yet = first_next z p os once g news rest (blank z p) 0 [] (Peering []) [] asking due is refl run
        (hears ∙ ap (λ b. record {
          copy = (if b then install_chosen (lead0 Idle) [] (others (lead0 Idle)) else still (lead0 (Peering []))).copy;
          sent = queries (lead0 Idle) ++ (if b then install_chosen (lead0 Idle) [] (others (lead0 Idle)) else still (lead0 (Peering []))).sent;
        }) open_yet ∙ ap (λ v. record { copy = lead0 (Peering []); sent = v }) (append-nil (queries (lead0 Idle)) ∙ asks_all))
        (record {
          members = λ x inx e st. record { fresh = st.fresh; peered = inl (record { is = about_sent x rest asking st.none ∙ asking_about x inx }) };
          asked = λ id. (let none = no_asks id in omega arith);
          told = λ id. (let none = no_replies id in omega arith);
          silent = λ id. refl;
          order = refl;
          said = sym says_nothing;
          wants_none = wants_nothing;
          says_none = refl;
          role = record { none = refl; each = tt; open_yet = open_yet };
        })
        usual asking_usual owed (let w = asking_weight in let v = weighs in omega arith)

    alone : can_choose (lead0 Idle) [] ≡ true → (ms : List ℕ) → os ≡ ms → Next z p os once g news due
    alone chosen (m ∷ ms) some =
        let is_member : is_in os m ≡ true = subst (λ v. is_in v m ≡ true) (sym some) (or_left (m == m) (is_in ms m) (eq-eqb m m refl)) in
        absurd (both_ways false refl (all_heard z p os once g rest usual due 0 [] [] (lead0 Idle) [] refl refl refl chosen m is_member))
    alone chosen [] none =
        let others_none : others (lead0 Idle) ≡ [] = others_of z p os once 0 [] Idle [] ∙ none in
        let zero_long : length os ≡ 0 = ap (λ v. length v) none in
        first_next z p os once g news rest (blank z p) 1 [] (Active None) [] asking due is refl run
        (hears ∙ ap (λ b. record {
          copy = (if b then install_chosen (lead0 Idle) [] (others (lead0 Idle)) else still (lead0 (Peering []))).copy;
          sent = queries (lead0 Idle) ++ (if b then install_chosen (lead0 Idle) [] (others (lead0 Idle)) else still (lead0 (Peering []))).sent;
        }) chosen
        ∙ ap (λ v. record { copy = (install_chosen (lead0 Idle) [] v).copy; sent = queries (lead0 Idle) ++ (install_chosen (lead0 Idle) [] v).sent }) others_none
        ∙ ap (λ v. record { copy = lead_copy z p os 1 [] (Active None) []; sent = v }) (append-nil (queries (lead0 Idle)) ∙ asks_all))
        (record {
          members = λ x inx e st. absurd (both_ways (is_in os x) (subst (λ v. is_in v x ≡ false) (sym none) refl) inx);
          asked = λ id. (let no_one = no_asks id in omega arith);
          told = λ id. (let no_one = no_replies id in omega arith);
          silent = λ id. refl;
          order = refl;
          said = sym says_nothing;
          wants_none = wants_nothing;
          says_none = refl;
          role = refl;
        })
        usual asking_usual owed (let w = asking_weight in let v = weighs in omega arith)

    pub opens_next : Next z p os once g (to_daemon p (Interval ((p ∷ os) ∷ []))) due
    opens_next = elim (cases_Bool (can_choose (lead0 Idle) [])) [
      | inl chosen ↦ alone chosen os refl
      | inr open_yet ↦ peers open_yet
    ]
