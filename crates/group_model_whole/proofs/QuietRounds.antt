-- The first of a quiet group hears its members, round by round.
use Rattle.std.proofs.Common.{ℕ, ◌≡◌, ◌≤◌, ◌+◌, ◌*◌, ◌-◌, true, false, not, ◌==◌, ◌||◌, List, [], ◌∷◌, ◌++◌, map, length, take, refl, sym, ◌∙◌, ap, subst, arith, inl, inr, if◌then◌else◌}
use Rattle.std.specs.Prelude.{Some}
use Rattle.std.specs.List.{filter, list_any, list_all}
use Rattle.std.proofs.lemmas.Bool.{cases_eq, cases_Bool, eq-eqb, ne_eqb, both_ways, and_parts, or_right}
use Rattle.entry_core.specs.Log.{is_in}
use Rattle.store_core.specs.Request.{Sealed}
use Rattle.store_core.specs.declared.entry.Entry.{Entry}
use Rattle.group_model_whole.specs.ActingSets.{set_of, others, all_count}
use Rattle.group_model_whole.specs.Steps.{still, send}
use Rattle.group_model_whole.specs.Copy.{install_chosen, try_choice, on_info}
use Rattle.group_model_whole.specs.Choice.{can_choose, covers, best, own_offer, is_informed}
use Rattle.group_model_whole.specs.Decided.{last}
use Rattle.group_model_whole.specs.Types.{PeerInfo, Role, Peering, Installing, Daemon, Info, Install, Osd, Sent}
use Rattle.group_model_whole.specs.Each.{Each}
use Rattle.group_model_whole.specs.Group.{Group, is_distinct}
use Rattle.group_model_whole.proofs.Eaches.{Each-push}
use Rattle.group_model_whole.proofs.Choices.{best_among}
use Rattle.group_model_whole.proofs.QuietLists.{joined-none, filter-append, append-nil, all_at, any-push, sent_once, each_sent, distinct_parts}
use Rattle.group_model_whole.proofs.QuietStates.{between, concerns, asks_in, replies_in, wants_in, says_in, asks, replies, sealed_of, of_id, logs, lead_copy, wire_weight, Peered, Usual, IsHearing, Running}
use Rattle.group_model_whole.proofs.QuietMoves.{not_first, others_of, first_next}
use Rattle.group_model_whole.proofs.QuietServes.{none_in, twos_in}
use Rattle.group_model_whole.proofs.QuietAnswers.{Step, about_other}

pub last-push : (log : List Entry) (e : Entry) → last (log ++ e ∷ []) ≡ Some e
last-push [] e = refl
last-push (x ∷ []) e = refl
last-push (x ∷ y ∷ log) e = last-push (y ∷ log) e

pub none_count : (os : List ℕ) (d : ℕ) → is_in os d ≡ true → list_all (λ m. is_in [] m) os ≡ false
none_count [] d is = absurd (both_ways false refl is)
none_count (o ∷ os) d is = refl

pub about_nil : (d : ℕ) (rest : List Sent) → filter (concerns d) (rest ++ []) ≡ filter (concerns d) rest
about_nil d rest = ap (filter (concerns d)) (append-nil rest)

pub about_sent : (d : ℕ) (rest sent : List Sent) → filter (concerns d) rest ≡ [] → filter (concerns d) (rest ++ sent) ≡ filter (concerns d) sent
about_sent d rest sent none = filter-append (concerns d) rest sent ∙ ap (λ v. v ++ filter (concerns d) sent) none

-- with one more that counts

heard_same : (xs : List PeerInfo) (i : PeerInfo) (x : ℕ) → x ≡ i.number → list_any (λ j. j.number == x) (xs ++ i ∷ []) ≡ true
heard_same xs i x same = any-push (λ j. j.number == x) xs i ∙ ap (λ v. v || list_any (λ j. j.number == x) xs) (eq-eqb i.number x (sym same))

heard_other : (xs : List PeerInfo) (i : PeerInfo) (x : ℕ) → (x ≡ i.number → ⊥) → list_any (λ j. j.number == x) (xs ++ i ∷ []) ≡ list_any (λ j. j.number == x) xs
heard_other xs i x not_it = any-push (λ j. j.number == x) xs i ∙ ap (λ v. v || list_any (λ j. j.number == x) xs) (ne_eqb i.number x (λ same. not_it (sym same)))

module _ (z p : ℕ) (os : List ℕ) (once : is_distinct (p ∷ os) ≡ true) (g : Group) (rest : List Sent) (usual : Each (Usual z p os) rest) (due : ℕ)
    (base : ℕ) (log : List Entry) (waiting : List Sealed) where
  abbrev At : Role → Daemon
  At r = lead_copy z p os base log r waiting

  abbrev StepAt : Role → Sent → Type 0
  StepAt r m = Step z p os once g rest usual due base log r waiting m

  install_some : (c : Daemon) (l : List Entry) (ms : List ℕ) (d : ℕ) → is_in ms d ≡ true →
      install_chosen c l ms ≡ record { copy = record c { base = c.promise; log = l; role = Installing [] }; sent = map (λ m. send c (Osd m) (Install c.promise l)) ms }
  install_some c l [] d is = absurd (both_ways false refl is)
  install_some c l (m ∷ ms) d is = refl

  pub all_heard : (c : Daemon) (informed : List PeerInfo) → c.known ≡ (p ∷ os) ∷ [] → c.promise ≡ 1 → c.number ≡ p → can_choose c informed ≡ true → (x : ℕ) → is_in os x ≡ true → list_any (λ i. i.number == x) informed ≡ true
  all_heard c informed known promise number chosen x is =
      let parts = and_parts (list_all (is_informed c informed) (set_of c.known c.promise)) (covers c.min_size (best (own_offer c) informed).base (is_informed c informed) 1 (take (c.promise - 1) c.known)) chosen in
      let one_set : set_of c.known c.promise ≡ p ∷ os = ap (λ v. set_of v c.promise) known ∙ ap (λ v. set_of ((p ∷ os) ∷ []) v) promise in
      let all : list_all (is_informed c informed) (p ∷ os) ≡ true = subst (λ v. list_all (is_informed c informed) v ≡ true) one_set parts.0 in
      let here : is_informed c informed x ≡ true = all_at (is_informed c informed) (p ∷ os) x all (or_right (p == x) (is_in os x) is) in
      let unlike : (x == c.number) ≡ false = ne_eqb x c.number (λ same. not_first z p os once x is (same ∙ number)) in
      subst (λ b. (b || list_any (λ i. i.number == x) informed) ≡ true) unlike here

  module _ (d : ℕ) (among : is_in os d ≡ true) (none : filter (concerns d) rest ≡ []) where
    module _ (informed : List PeerInfo) (b : ℕ) (unheard : list_any (λ i. i.number == d) informed ≡ false) where
      abbrev informed' : List PeerInfo
      informed' = informed ++ record { number = d; base = b; log = [] } ∷ []

      takes : on_info (Peering informed) (At (Peering informed)) 1 (record { number = d; base = b; log = [] }) ≡ try_choice (At (Peering informed)) informed'
      takes =
          let unlike : (d == p) ≡ false = ne_eqb d p (not_first z p os once d among) in
          ap (λ v. if not (v || list_any (λ i. i.number == d) informed) then try_choice (At (Peering informed)) informed' else still (At (Peering informed))) unlike
          ∙ ap (λ v. if not v then try_choice (At (Peering informed)) informed' else still (At (Peering informed))) unheard

      info_waits : can_choose (At (Peering informed)) informed' ≡ false → StepAt (Peering informed) (between d p (Info 1 b []))
      info_waits open_yet is run owes =
          let role : IsHearing z p os informed (At (Peering informed)) = run.role in
          first_next z p os once g (between d p (Info 1 b [])) rest (At (Peering informed)) base log (Peering informed') waiting [] due is refl run
          (takes ∙ ap (λ v. if v then install_chosen (At (Peering informed)) (best (own_offer (At (Peering informed))) informed').log (others (At (Peering informed))) else still (At (Peering informed'))) open_yet)
          (record {
            members = λ x inx e st. record {
              fresh = st.fresh;
              peered = elim (cases_eq x d) [
                | inl same ↦ subst (λ v. Peered z p os v x (filter (concerns x) (rest ++ []))) (sym (heard_same informed (record { number = d; base = b; log = [] }) x same))
                    (about_nil x rest ∙ subst (λ v. filter (concerns v) rest ≡ []) (sym same) none)
                | inr not_it ↦ subst (λ v. Peered z p os v x (filter (concerns x) (rest ++ []))) (sym (heard_other informed (record { number = d; base = b; log = [] }) x not_it))
                    (subst (λ v. Peered z p os (list_any (λ i. i.number == x) informed) x v)
                    (about_other x (between d p (Info 1 b [])) rest (ne_eqb d x (λ same. not_it (sym same))) ∙ sym (about_nil x rest)) st.peered)
              ];
            };
            asked = λ id. refl;
            told = λ id. refl;
            silent = λ id. refl;
            order = sym (append-nil (sealed_of log ++ waiting));
            said = refl;
            wants_none = refl;
            says_none = refl;
            role = record { none = role.none; each = Each-push (λ i. i.log ≡ []) informed (record { number = d; base = b; log = [] }) role.each refl; open_yet = open_yet };
          })
          usual tt owes (omega arith)

      info_chooses : can_choose (At (Peering informed)) informed' ≡ true → StepAt (Peering informed) (between d p (Info 1 b []))
      info_chooses chosen is run owes =
          let role : IsHearing z p os informed (At (Peering informed)) = run.role in
          let best_none : (best (own_offer (At (Peering informed))) informed').log ≡ [] =
          best_among (λ i. i.log ≡ []) (own_offer (At (Peering informed))) informed' role.none (Each-push (λ i. i.log ≡ []) informed (record { number = d; base = b; log = [] }) role.each refl) in
          let sent : List Sent = map (λ x. between p x (Install 1 [])) os in
          first_next z p os once g (between d p (Info 1 b [])) rest (At (Peering informed)) 1 [] (Installing []) waiting sent due is refl run
          (takes
          ∙ ap (λ v. if v then install_chosen (At (Peering informed)) (best (own_offer (At (Peering informed))) informed').log (others (At (Peering informed))) else still (At (Peering informed'))) chosen
          ∙ ap (λ v. install_chosen (At (Peering informed)) (best (own_offer (At (Peering informed))) informed').log v) (others_of z p os once base log (Peering informed) waiting)
          ∙ install_some (At (Peering informed)) (best (own_offer (At (Peering informed))) informed').log os d among
          ∙ ap (λ l. record { copy = lead_copy z p os 1 l (Installing []) waiting; sent = map (λ x. between p x (Install 1 l)) os }) best_none)
          (record {
            members = λ x inx e st. (
                let all : list_any (λ i. i.number == x) informed' ≡ true = all_heard (At (Peering informed)) informed' refl refl refl chosen x inx in
                let none_x : filter (concerns x) rest ≡ [] = elim (cases_eq x d) [
                  | inl same ↦ subst (λ v. filter (concerns v) rest ≡ []) (sym same) none
                  | inr not_it ↦ (
                      let was : list_any (λ i. i.number == x) informed ≡ true = sym (heard_other informed (record { number = d; base = b; log = [] }) x not_it) ∙ all in
                      let gone : filter (concerns x) (between d p (Info 1 b []) ∷ rest) ≡ [] = subst (λ v. Peered z p os v x (filter (concerns x) (between d p (Info 1 b []) ∷ rest))) was st.peered in
                      sym (about_other x (between d p (Info 1 b [])) rest (ne_eqb d x (λ same. not_it (sym same)))) ∙ gone)
                ] in
                inl (record {
                  fresh = st.fresh;
                  is = about_sent x rest sent none_x ∙ sent_once (concerns x) (λ x. between p x (Install 1 [])) x (λ e. refl) os (distinct_parts p os once).1 inx;
                }));
            asked = λ id. (
                let no_asks : asks id sent ≡ 0 = none_in z p os once (asks_in id) (Install 1 []) os refl in
                let empty : logs id log ≡ 0 = ap (logs id) role.none in
                omega arith);
            told = λ id. (let no_replies : replies id sent ≡ 0 = none_in z p os once (replies_in id) (Install 1 []) os refl in omega arith);
            silent = λ id. refl;
            order = sym (append-nil (sealed_of log ++ waiting) ∙ ap (λ l. sealed_of l ++ waiting) role.none);
            said = sym (joined-none (λ m. says_in m.body) (λ x. between p x (Install 1 [])) os (λ d. refl));
            wants_none = joined-none (λ m. wants_in m.body) (λ x. between p x (Install 1 [])) os (λ d. refl);
            says_none = refl;
            role = record { none = refl; open_yet = subst (λ v. list_all (λ m. is_in [] m) v ≡ false) (sym (others_of z p os once 1 [] (Installing []) waiting)) (none_count os d among) };
          })
          usual (each_sent (Usual z p os) (λ x. between p x (Install 1 [])) os (λ x inx. inl (record { member = x; among = inx; about = eq-eqb x x refl })))
          owes (let twos : wire_weight z p os sent ≡ 2 * length os = twos_in z p os once (Install 1 []) os (λ x. refl) in omega arith)

      pub info_next : StepAt (Peering informed) (between d p (Info 1 b []))
      info_next is run owes = elim (cases_Bool (can_choose (At (Peering informed)) informed')) [
        | inl chosen ↦ info_chooses chosen is run owes
        | inr open_yet ↦ info_waits open_yet is run owes
      ]

    -- the last that was missing counts

    pub all_in : (r : Role) (counted : List ℕ) → all_count (At r) counted ≡ true → (x : ℕ) → is_in os x ≡ true → is_in counted x ≡ true
    all_in r counted all x inx = all_at (λ m. is_in counted m) os x (subst (λ v. list_all (λ m. is_in counted m) v ≡ true) (others_of z p os once base log r waiting) all) inx

    pub fresh_all : (r : Role) (m : Sent) → Running z p os g (m ∷ rest) (At r) → (id : ℕ) → of_id id waiting + logs id log ≤ 1
    fresh_all r m run id = let asked : asks id (m ∷ rest) + of_id id waiting + logs id log ≡ of_id id g.requests = run.asked id in let most = run.once id in omega arith
