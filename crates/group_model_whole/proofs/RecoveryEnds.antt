-- A group on its way that has no message left has answered every request.
use Rattle.std.proofs.Common.{ℕ, ◌≡◌, ◌≤◌, ◌<◌, ◌+◌, ◌-◌, Bool, true, not, ◌&&◌, ◌==◌, List, [], length, take, slice_index_or, refl, ◌∙◌, ap, subst, arith, inl, inr, ◌⊎◌, length-take, get_or-take}
use Rattle.std.specs.Prelude.{Some, None, slice_get}
use Rattle.std.specs.List.{list_any, list_all}
use Rattle.std.proofs.lemmas.Bool.{eq-eqb, ne_eqb, cases_eq, cases_order, or_left, and_from, both_ways, not_from_false}
use Rattle.entry_core.specs.Log.{is_in}
use Rattle.store_core.specs.declared.entry.Entry.{Entry}
use Rattle.group_model_whole.specs.ActingSets.{set_of, asked, others, all_count, daemons}
use Rattle.group_model_whole.specs.Choice.{best, covers, is_informed, can_choose, own_offer}
use Rattle.group_model_whole.specs.Types.{PeerInfo, Role, Idle, Peering, Installing, Active, Daemon, Sent}
use Rattle.group_model_whole.specs.Each.{Each}
use Rattle.group_model_whole.specs.Offer.{IsOffer}
use Rattle.group_model_whole.specs.Group.{Group, is_answered}
use Rattle.group_model_whole.specs.Recovering.{HasUp}
use Rattle.group_model_whole.proofs.RecoveryStates.{Any, IsAsking, IsInstallingAt, IsAppendingAt, RoleDue, RequestDue, IsFor, InFlight, Progress, HasLater, CanOpen}
use Rattle.group_model_whole.proofs.Eaches.{Each-weaker}
use Rattle.group_model_whole.proofs.RecoveryLists.{Any-none, list_any_in, known_in, covers_all}
use Rattle.group_model_whole.proofs.Choices.{AtMost, first_at_most, each_at_most, Heard, heard_offer, Each-both}
use Rattle.group_model_whole.proofs.Invariant.{IsPeering, RoleOk, StateOk}
use Rattle.group_model_whole.proofs.Groups.{Good}
use Rattle.group_model_whole.proofs.QuietLists.{filter_in, all_pass, is_daemon}

-- the list is_any is empty, so each is counted
counted : (test : ℕ → Bool) (xs : List ℕ) (P : ℕ → Type 0) → ((d : ℕ) → P d → ⊥) → ((d : ℕ) → is_in xs d ≡ true → (test d ≡ true) ⊎ P d) → list_all test xs ≡ true
counted test xs P none each = all_pass test xs (λ d is. elim (each d is) [ inl met ↦ met | inr p ↦ absurd (none d p) ])

module _ (g : Group) (good : Good g) (can : CanOpen g) (p : ℕ) (c : Daemon) (to : Progress g p c) where
  state : StateOk g.min_size g.sets good.promise good.h p c
  state = (good.copies p c to.here).state

  -- a member of some interval is this copy or is asked
  pub asked_or_own : c.promise ≡ length c.known → (j d : ℕ) → 1 ≤ j → j ≤ length g.sets → is_in (set_of g.sets j) d ≡ true → (d ≡ c.number) ⊎ (is_in (asked c) d ≡ true)
  asked_or_own is_known j d from upto member = elim (cases_eq d c.number) [
    | inl same ↦ inl same
    | inr other ↦ (
        let h = can.daemons_exist j d member in
        let in_known : is_in (set_of c.known j) d ≡ true = rw (state.known.same j from (omega (arith, to.promised, is_known))) member in
        inr (filter_in (λ d. not (d == c.number) && list_any (λ members. is_in members d) c.known) daemons d (is_daemon d (can.daemons_few d h.copy h.here))
        (and_from (not (d == c.number)) (list_any (λ members. is_in members d) c.known) (not_from_false (d == c.number) (ne_eqb d c.number other)) (known_in c.known (j - 1) d in_known))))
  ]

  module _ (informed : List PeerInfo) (ok : IsPeering g.min_size g.sets good.promise good.h p c informed)
      (all : (d : ℕ) → is_in (asked c) d ≡ true → is_in g.up d ≡ true → is_informed c informed d ≡ true) where
    heard_member : (j d : ℕ) → 1 ≤ j → j ≤ length g.sets → is_in (set_of g.sets j) d ≡ true → is_in g.up d ≡ true → is_informed c informed d ≡ true
    heard_member j d from upto member up = elim (asked_or_own ok.leads.is_known j d from upto member) [
      | inl own ↦ or_left (d == c.number) (list_any (λ i. i.number == d) informed) (eq-eqb d c.number own)
      | inr is ↦ all d is up
    ]

    -- a copy's base is before the interval that is to be opened
    not_opened : (n : ℕ) (log : List Entry) → n ≡ c.promise → good.h.chosen n ≡ Some log → ⊥
    not_opened n log same is = let is' : good.h.chosen c.promise ≡ Some log = subst (λ v. good.h.chosen v ≡ Some log) same is in let no = ok.unchosen in cc

    base_below : (d : ℕ) (o : Daemon) → slice_get g.copies d ≡ Some o → o.base < c.promise
    base_below d o here =
        let s = (good.copies d o here).state in
        elim (cases_order o.base c.promise) [
          | inl same ↦ absurd (not_opened o.base s.source same s.source_is)
          | inr (inl less) ↦ less
          | inr (inr more) ↦ absurd (omega (arith, s.base, s.reached, to.promised))
        ]

    best_at_least : (d : ℕ) (o : Daemon) → slice_get g.copies d ≡ Some o → is_informed c informed d ≡ true → o.base ≤ (best (own_offer c) informed).base
    best_at_least d o here h =
        let s = (good.copies d o here).state in
        let own_ok : IsOffer good.promise good.h c.promise (own_offer c) = record {
          moved = own_moved;
          below = base_below p c to.here;
          source = state.source;
          source_is = state.source_is;
          begins = state.begins;
          within = state.within;
          most = λ j k early held. (own_most j k held);
        } in
        let who : Heard (λ i. IsOffer good.promise good.h c.promise i × AtMost i (best (own_offer c) informed)) d =
        heard_offer (λ i. IsOffer good.promise good.h c.promise i × AtMost i (best (own_offer c) informed)) c informed d
        (own_ok, first_at_most (own_offer c) informed)
        (Each-both (IsOffer good.promise good.h c.promise) (λ i. AtMost i (best (own_offer c) informed)) informed ok.offers (each_at_most (own_offer c) informed)) h in
        let held : good.h.held who.offer.number o.base ≡ Some (length o.log) = rw who.number s.held in
        let lower : o.base ≤ who.offer.base = (who.fact.0.most o.base (length o.log) (base_below d o here) held).0 in
        let most : who.offer.base ≤ (best (own_offer c) informed).base = who.fact.1.base in
        omega arith
      where
        own_moved : c.promise ≤ good.promise c.number
        own_moved = let e : good.promise c.number ≡ c.promise = ap good.promise state.number ∙ state.promised in omega arith

        own_most : (j k : ℕ) → good.h.held c.number j ≡ Some k → (j ≤ c.base) × (j ≡ c.base → k ≤ length c.log)
        own_most j k held =
            let held' : good.h.held p j ≡ Some k = subst (λ v. good.h.held v j ≡ Some k) state.number held in (
              state.held_below j k held',
              λ same. (
                  let at : good.h.held p c.base ≡ Some k = subst (λ v. good.h.held p v ≡ Some k) same held' in
                  let was = state.held in
                  let agree : k ≡ length c.log = cc in
                  omega arith),
            )

    pub chooses : can_choose c informed ≡ true
    chooses = and_from (list_all (is_informed c informed) (set_of c.known c.promise)) (covers c.min_size (best (own_offer c) informed).base (is_informed c informed) 1 (take (c.promise - 1) c.known)) members covered
      where
        same_last : set_of c.known c.promise ≡ set_of g.sets (length g.sets)
        same_last = state.known.same c.promise ok.leads.later (omega (arith, ok.leads.is_known)) ∙ ap (set_of g.sets) to.promised

        members : list_all (is_informed c informed) (set_of c.known c.promise) ≡ true
        members = all_pass (is_informed c informed) (set_of c.known c.promise) (λ d is. (
            let is' : is_in (set_of g.sets (length g.sets)) d ≡ true = subst (λ v. is_in v d ≡ true) same_last is in
            heard_member (length g.sets) d (omega (arith, ok.leads.later, to.promised)) (omega arith) is' (can.last_up d is')))

        at : (i : ℕ) → i < length (take (c.promise - 1) c.known) → (best (own_offer c) informed).base ≤ 1 + i → c.min_size ≤ length (slice_index_or (take (c.promise - 1) c.known) i []) →
            list_any (is_informed c informed) (slice_index_or (take (c.promise - 1) c.known) i []) ≡ true
        at i below from enough =
            let short : i < c.promise - 1 = omega (arith, simp length-take at below) in
            let back : i ≡ i + 1 - 1 = omega arith in
            let read : slice_index_or (take (c.promise - 1) c.known) i [] ≡ set_of g.sets (i + 1) = (rw get_or-take) ∙ ap (λ v. slice_index_or c.known v []) back ∙ state.known.same (i + 1) (omega arith) (omega (arith, ok.leads.is_known)) in
            let enough' : g.min_size ≤ length (set_of g.sets (i + 1)) = subst (λ v. v ≤ length (set_of g.sets (i + 1))) state.same_size (rw read at enough) in
            let inside : i + 1 ≤ length g.sets = omega (arith, to.promised) in
            rw read (found i inside from (can.ready (i + 1) (omega arith) (omega (arith, to.promised)) enough'))
          where
            found : (i : ℕ) → i + 1 ≤ length g.sets → (best (own_offer c) informed).base ≤ 1 + i → HasUp g.up (set_of g.sets (i + 1)) ⊎ HasLater g (i + 1) → list_any (is_informed c informed) (set_of g.sets (i + 1)) ≡ true
            found i inside from (inl u) = list_any_in (is_informed c informed) (set_of g.sets (i + 1)) u.member u.is_member (heard_member (i + 1) u.member (omega arith) inside u.is_member u.is_up)
            found i inside from (inr l) =
                let s = (good.copies l.daemon l.copy l.here).state in
                let h = heard_member l.copy.base l.daemon (omega (arith, l.later)) (omega (arith, s.base, s.reached)) (can.based l.daemon l.copy l.here (omega (arith, l.later))) l.is_up in
                absurd (omega (arith, best_at_least l.daemon l.copy l.here h, l.later))

        covered : covers c.min_size (best (own_offer c) informed).base (is_informed c informed) 1 (take (c.promise - 1) c.known) ≡ true
        covered = covers_all c.min_size (best (own_offer c) informed).base (is_informed c informed) 1 (take (c.promise - 1) c.known) at

  no_any : g.wire ≡ [] → (P : Sent → Type 0) → Any P g.wire → ⊥
  no_any none P = Any-none P g.wire none

  -- with nothing on the wire the copy is active, and nothing is in flight or waits
  rests : (r : Role) → c.role ≡ r → g.wire ≡ [] → RoleOk g.min_size g.sets good.promise good.h p c r → RoleDue g.up g.wire c r → (c.waiting ≡ []) × (r ≡ Active None)
  rests Idle is none ok due = absurd due
  rests (Peering informed) is none ok due = absurd (both_ways (can_choose c informed) due.0 (chooses informed ok (λ d asks up. elim (due.1 d asks up) [ inl met ↦ met | inr a ↦ absurd (no_any none (IsAsking c d) a) ])))
  rests (Installing done) is none ok due = absurd (both_ways (all_count c done) due.0 (counted (is_in done) (others c) (λ d. Any (IsInstallingAt c d) g.wire) (λ d. no_any none (IsInstallingAt c d)) due.1))
  rests (Active None) is none ok due = (due, refl)
  rests (Active (Some holders)) is none ok due = absurd (both_ways (all_count c holders) due.0 (counted (is_in holders) (others c) (λ d. Any (IsAppendingAt c d) g.wire) (λ d. no_any none (IsAppendingAt c d)) due.1))

  pub all_answered : g.wire ≡ [] → Each (λ s. is_answered g.answers s.id ≡ true) g.requests
  all_answered none =
      let r = rests c.role refl none (good.copies p c to.here).role to.role in
      Each-weaker (λ s. RequestDue g.answers g.wire p c s.id) (λ s. is_answered g.answers s.id ≡ true) (λ s due. one s.id r due) g.requests to.requests
    where
      no_flight : (r : Role) (id : ℕ) → r ≡ Active None → InFlight r c.log id → ⊥
      no_flight Idle id is f = f
      no_flight (Peering informed) id is f = f
      no_flight (Installing done) id is f = f
      no_flight (Active None) id is f = f
      no_flight (Active (Some holders)) id is f = cc

      one : (id : ℕ) → (c.waiting ≡ []) × (c.role ≡ Active None) → RequestDue g.answers g.wire p c id → is_answered g.answers id ≡ true
      one id r (inl met) = met
      one id r (inr (inl a)) = absurd (no_any none (IsFor p id) a)
      one id r (inr (inr (inl w))) = absurd (Any-none (λ w. w.id ≡ id) c.waiting r.0 w)
      one id r (inr (inr (inr f))) = absurd (no_flight c.role id r.1 f)
