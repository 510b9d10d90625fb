-- A group whose set is too small to serve: every copy stays idle, and a request is only turned away.
use Rattle.std.proofs.Common.{ℕ, zero, suc, ◌≡◌, ◌<◌, ◌+◌, Bool, true, false, not, nat_lt, ◌==◌, ◌&&◌, List, [], ◌∷◌, ◌++◌, map, length, refl, sym, ◌∙◌, ap, subst, arith, inl, inr, if◌then◌else◌, ◌⊎◌}
use Rattle.std.specs.Prelude.{Some, slice_get, slice_set}
use Rattle.std.specs.List.{filter, list_any}
use Rattle.std.proofs.lemmas.Bool.{cases_eq, lt-ltb, or_left, eq-eqb}
use Rattle.entry_core.specs.Log.{is_in, ids}
use Rattle.store_core.specs.Request.{Sealed}
use Rattle.group_model_whole.specs.Steps.{still, send, restarted}
use Rattle.group_model_whole.specs.Copy.{on_body, on_interval, leads, lead, learn_sets, on_request, on_request_as}
use Rattle.group_model_whole.specs.ActingSets.{is_primary}
use Rattle.group_model_whole.specs.Decided.{decided_by}
use Rattle.group_model_whole.specs.Types.{Party, Client, Osd, Idle, Daemon, Body, Interval, Query, Info, Install, Installed, Append, Appended, Request, Reply, NotHere, Sent}
use Rattle.group_model_whole.specs.Each.{Each}
use Rattle.group_model_whole.specs.Group.{Group, Deliver, NewInterval, Restart, to_daemon, to_primary, last_set, steps, answered, audit_after, take_request, with_up, group_step, delivered_to}
use Rattle.group_model_whole.specs.Calm.{KeepsSet, unserved_cost}
use Rattle.group_model_whole.proofs.Eaches.{Each-append, Each-get, Each-map, Each-set}
use Rattle.group_model_whole.proofs.QuietLists.{total, total-append, get-set, get-set_other}
use Rattle.group_model_whole.proofs.QuietMoves.{reaches_client, reaches_copy}
use Rattle.group_model_whole.proofs.CalmRuns.{Kept, Next}
use Rattle.group_model_whole.proofs.CalmMoves.{as_up, as_restarted, keeps_interval, keeps_restart}

pub record HasCopy (copies : List Daemon) (d : ℕ) : Type 0 where
  pub copy : Daemon
  pub here : slice_get copies d ≡ Some copy

-- a copy that has nothing to do
pub record IsResting (z : ℕ) (c : Daemon) : Type 0 where
  pub idle : c.role ≡ Idle
  pub none : c.waiting ≡ []
  pub least : c.min_size ≡ z

mapped_get : (f : Daemon → Daemon) (xs : List Daemon) (d : ℕ) → HasCopy xs d → HasCopy (map f xs) d
mapped_get f [] d has = (let at = has.here in absurd (cc))
mapped_get f (x ∷ xs) zero has = record { copy = f x; here = refl }
mapped_get f (x ∷ xs) (suc d) has = (let later : HasCopy (map f xs) d = mapped_get f xs d (record { copy = has.copy; here = has.here }) in record { copy = later.copy; here = later.here })

-- deliveries that a message still costs
abbrev pub small_weight : Body → ℕ
small_weight (Interval sets) = 1
small_weight (Request s) = 2
small_weight (NotHere id) = 1
small_weight (Query n) = 0
small_weight (Info n base log) = 0
small_weight (Install n log) = 0
small_weight (Installed n) = 0
small_weight (Append n place s) = 0
small_weight (Appended n place) = 0
small_weight (Reply id reply) = 0

abbrev pub small_weights : List Sent → ℕ
small_weights ms = total (λ m. small_weight m.body) ms

module _ (z : ℕ) (acting : List ℕ) where
  pub record IsTelling (m : Sent) : Type 0 where
    pub member : ℕ
    pub among : is_in acting member ≡ true
    pub is : m ≡ to_daemon member (Interval (acting ∷ []))

  pub record IsAsking (m : Sent) : Type 0 where
    pub member : ℕ
    pub among : is_in acting member ≡ true
    pub sealed : Sealed
    pub is : m ≡ to_daemon member (Request sealed)

  pub record IsRefusing (m : Sent) : Type 0 where
    pub from : Party
    pub id : ℕ
    pub is : m ≡ record { from = from; to = Client; body = NotHere id }

  abbrev pub Small : Sent → Type 0
  Small m = IsTelling m ⊎ (IsAsking m ⊎ IsRefusing m)

  pub record Resting (g : Group) (due : ℕ) : Type 0 where
    pub copies : Each (IsResting z) g.copies
    pub exist : (d : ℕ) → is_in acting d ≡ true → HasCopy g.copies d
    pub live : (d : ℕ) → is_in acting d ≡ true → is_in g.up d ≡ true
    pub wire : Each Small g.wire
    pub sets : g.sets ≡ acting ∷ []
    pub answers : g.answers ≡ []
    pub audit : g.audit ≡ []
    pub owes : due ≡ small_weights g.wire

  undecided : (audit : List _) (c : Daemon) → audit ≡ [] → c.role ≡ Idle → audit_after audit c ≡ []
  undecided audit c none idle = ap (λ a. audit_after a c) none ∙ ap (λ r. filter (λ e. not (is_in (ids []) e.sealed.id)) (decided_by r c.log)) idle

  copy_next : (g : Group) (m : Sent) (rest : List Sent) (due d : ℕ) (c c' : Daemon) (sent : List Sent) → Resting g due → g.wire ≡ m ∷ rest → m.to ≡ Osd d → is_in acting d ≡ true → slice_get g.copies d ≡ Some c →
      on_body m.body c m.from ≡ record { copy = c'; sent = sent } → IsResting z c' → Each Small sent → small_weights sent + 1 ≡ small_weight m.body → Next Resting g m due
  copy_next g m rest due d c c' sent now is to among here step rests small pays =
      let up : is_in g.up d ≡ true = now.live d among in
      let next : group_step g (Deliver 0) ≡ steps (record g { wire = rest }) d (record { copy = c'; sent = sent }) = reaches_copy g m rest d c (record { copy = c'; sent = sent }) is to up here step in
      let each : Each Small (m ∷ rest) = subst (Each Small) is now.wire in
      let sum : small_weights (rest ++ sent) ≡ small_weights rest + small_weights sent = total-append (λ m. small_weight m.body) rest sent in
      let owes : due ≡ small_weight m.body + small_weights rest = now.owes ∙ ap small_weights is in
      record {
        left = small_weights (rest ++ sent);
        after = subst (λ v. Resting v (small_weights (rest ++ sent))) (sym next) (record {
          copies = Each-set (IsResting z) g.copies d c' now.copies rests;
          exist = λ x inx. elim (cases_eq x d) [
            | inl same ↦ record { copy = c'; here = ap (slice_get (slice_set g.copies d c')) same ∙ get-set g.copies d c c' here }
            | inr other ↦ (let old : HasCopy g.copies x = now.exist x inx in record { copy = old.copy; here = get-set_other g.copies d x c' other ∙ old.here })
          ];
          live = now.live;
          wire = Each-append Small rest sent each.1 small;
          sets = now.sets;
          answers = now.answers;
          audit = undecided g.audit c' now.audit rests.idle;
          owes = refl;
        });
        less = omega arith;
        reached = ap (λ v. delivered_to v g) to ∙ ap (λ b. if b then 1 else 0) up;
        requests = ap (λ v. v.requests) next;
      }

  client_next : (g : Group) (m : Sent) (rest : List Sent) (due id : ℕ) → Resting g due → g.wire ≡ m ∷ rest → m.to ≡ Client → m.body ≡ NotHere id → Next Resting g m due
  client_next g m rest due id now is to body =
      let next : group_step g (Deliver 0) ≡ record g { wire = rest } = reaches_client g m rest is to ∙ ap (λ b. answered (record g { wire = rest }) b) body in
      let each : Each Small (m ∷ rest) = subst (Each Small) is now.wire in
      let owes : due ≡ small_weight m.body + small_weights rest = now.owes ∙ ap small_weights is in
      let light : small_weight m.body ≡ 1 = ap small_weight body in
      record {
        left = small_weights rest;
        after = subst (λ v. Resting v (small_weights rest)) (sym next) (record {
          copies = now.copies;
          exist = now.exist;
          live = now.live;
          wire = each.1;
          sets = now.sets;
          answers = now.answers;
          audit = now.audit;
          owes = refl;
        });
        less = omega arith;
        reached = ap (λ v. delivered_to v g) to;
        requests = ap (λ v. v.requests) next;
      }

  -- a copy that hears of the set
  record Hears (c : Daemon) : Type 0 where
    new : Daemon
    step : on_interval c (acting ∷ []) ≡ record { copy = new; sent = [] }
    rests : IsResting z new

  hears : length acting < z → (c : Daemon) → IsResting z c → Hears c
  hears few c rests = go (nat_lt (length c.known) 1) refl
    where
      short : nat_lt (length acting) c.min_size ≡ true
      short = ap (λ v. nat_lt (length acting) v) rests.least ∙ lt-ltb (length acting) z few

      follows : leads c (acting ∷ []) ≡ false
      follows = ap (λ b. not b && is_primary acting c.number && nat_lt c.promise 1) short

      go : (b : Bool) → nat_lt (length c.known) 1 ≡ b → Hears c
      go true is = record {
        new = learn_sets c (acting ∷ []);
        step = ap (λ b. if b then (if leads c (acting ∷ []) then lead (record (learn_sets c (acting ∷ [])) { promise = 1 }) else still (learn_sets c (acting ∷ []))) else still c) is
            ∙ ap (λ b. if b then lead (record (learn_sets c (acting ∷ [])) { promise = 1 }) else still (learn_sets c (acting ∷ []))) follows;
        rests = record { idle = refl; none = refl; least = rests.least };
      }
      go false is = record {
        new = c;
        step = ap (λ b. if b then (if leads c (acting ∷ []) then lead (record (learn_sets c (acting ∷ [])) { promise = 1 }) else still (learn_sets c (acting ∷ []))) else still c) is;
        rests = rests;
      }

  turns : (c : Daemon) (s : Sealed) → IsResting z c → on_request c s ≡ record { copy = c; sent = send c Client (NotHere s.id) ∷ [] }
  turns c s rests =
      ap (λ ws. if list_any (λ w. w.id == s.id) ws then still c else on_request_as c.role c s) rests.none
      ∙ ap (λ r. on_request_as r c s) rests.idle

  pub small_next : length acting < z → (g : Group) (m : Sent) (rest : List Sent) (due : ℕ) → Resting g due → g.wire ≡ m ∷ rest → Next Resting g m due
  small_next few g m rest due now is = go (subst (Each Small) is now.wire).0
    where
      resting : (d : ℕ) (has : HasCopy g.copies d) → IsResting z has.copy
      resting d has = Each-get (IsResting z) g.copies d has.copy now.copies has.here

      go : Small m → Next Resting g m due
      go (inl u) =
          let has : HasCopy g.copies u.member = now.exist u.member u.among in
          let h : Hears has.copy = hears few has.copy (resting u.member has) in
          let step : on_body m.body has.copy m.from ≡ record { copy = h.new; sent = [] } = ap (λ v. on_body v.body has.copy v.from) u.is ∙ h.step in
          let light : small_weight m.body ≡ 1 = ap (λ v. small_weight v.body) u.is in
          copy_next g m rest due u.member has.copy h.new [] now is (ap (λ v. v.to) u.is) u.among has.here step h.rests tt (omega arith)
      go (inr (inl u)) =
          let has : HasCopy g.copies u.member = now.exist u.member u.among in
          let rests : IsResting z has.copy = resting u.member has in
          let step : on_body m.body has.copy m.from ≡ record { copy = has.copy; sent = send has.copy Client (NotHere u.sealed.id) ∷ [] } = ap (λ v. on_body v.body has.copy v.from) u.is ∙ turns has.copy u.sealed rests in
          let light : small_weight m.body ≡ 2 = ap (λ v. small_weight v.body) u.is in
          copy_next g m rest due u.member has.copy has.copy (send has.copy Client (NotHere u.sealed.id) ∷ []) now is (ap (λ v. v.to) u.is) u.among has.here step rests
          (inr (inr (record { from = Osd has.copy.number; id = u.sealed.id; is = refl })), tt) (omega arith)
      go (inr (inr u)) = client_next g m rest due u.id now is (ap (λ v. v.to) u.is) (ap (λ v. v.body) u.is)

  -- one more request

  first_asks : (set : List ℕ) (s : Sealed) → ((d : ℕ) → is_in set d ≡ true → is_in acting d ≡ true) → Each Small (to_primary set (Request s ∷ []))
  first_asks [] s sub = tt
  first_asks (d ∷ ds) s sub = (inr (inl (record { member = d; among = sub d (or_left (d == d) (is_in ds d) (eq-eqb d d refl)); sealed = s; is = refl })), tt)

  first_weighs : (set : List ℕ) (s : Sealed) → small_weights (to_primary set (Request s ∷ [])) ≡ unserved_cost (length set)
  first_weighs [] s = refl
  first_weighs (d ∷ ds) s = refl

  pub small_opens : (g : Group) (s : Sealed) (due : ℕ) → Resting g due → Resting (take_request g s) (due + unserved_cost (length acting))
  small_opens g s due now =
      let asks : to_primary (last_set g.sets) (Request s ∷ []) ≡ to_primary acting (Request s ∷ []) = ap (λ v. to_primary (last_set v) (Request s ∷ [])) now.sets in
      let sum : small_weights (g.wire ++ to_primary (last_set g.sets) (Request s ∷ [])) ≡ small_weights g.wire + small_weights (to_primary (last_set g.sets) (Request s ∷ [])) =
      total-append (λ m. small_weight m.body) g.wire (to_primary (last_set g.sets) (Request s ∷ [])) in
      let weighs : small_weights (to_primary (last_set g.sets) (Request s ∷ [])) ≡ unserved_cost (length acting) = ap small_weights asks ∙ first_weighs acting s in
      let old = now.owes in
      record {
        copies = now.copies;
        exist = now.exist;
        live = now.live;
        wire = Each-append Small g.wire (to_primary (last_set g.sets) (Request s ∷ [])) now.wire (subst (Each Small) (sym asks) (first_asks acting s (λ d is. is)));
        sets = now.sets;
        answers = now.answers;
        audit = now.audit;
        owes = omega arith;
      }

  -- daemons outside of the set come, go and restart

  moved_rests : (f : Daemon → Daemon) → ((c : Daemon) → IsResting z c → IsResting z (f c)) → (g : Group) (up : List ℕ) (due : ℕ) → ((d : ℕ) → is_in acting d ≡ true → is_in up d ≡ true) →
      Resting g due → Resting (record g { up = up; copies = map f g.copies }) due
  moved_rests f keeps g up due live now = record {
    copies = Each-map (IsResting z) (IsResting z) f keeps g.copies now.copies;
    exist = λ d is. mapped_get f g.copies d (now.exist d is);
    live = live;
    wire = now.wire;
    sets = now.sets;
    answers = now.answers;
    audit = now.audit;
    owes = now.owes;
  }

  if_restarted : (b : Bool) (c : Daemon) → IsResting z c → IsResting z (if b then restarted c else c)
  if_restarted true c rests = record { idle = refl; none = refl; least = rests.least }
  if_restarted false c rests = rests

  pub small_interval : (g : Group) (due : ℕ) (set up : List ℕ) → KeepsSet acting set up → Resting g due → Kept Resting g (group_step g (NewInterval set up)) due
  small_interval g due set up keeps now =
      let step : group_step g (NewInterval set up) ≡ with_up g up = keeps_interval g acting set up now.sets keeps.same in
      subst (λ v. Kept Resting g v due) (sym step) (record {
        now = moved_rests (as_up g.up up) (λ c rests. if_restarted (is_in g.up c.number && not (is_in up c.number)) c rests) g up due keeps.live now;
        requests = refl;
      })

  pub small_restart : (g : Group) (due : ℕ) (d : ℕ) → is_in acting d ≡ false → Resting g due → Kept Resting g (group_step g (Restart d)) due
  small_restart g due d out now =
      let step : group_step g (Restart d) ≡ record g { copies = map (as_restarted d) g.copies } = keeps_restart g acting d now.sets out in
      subst (λ v. Kept Resting g v due) (sym step) (record {
        now = moved_rests (as_restarted d) (λ c rests. if_restarted (c.number == d) c rests) g g.up due now.live now;
        requests = refl;
      })
