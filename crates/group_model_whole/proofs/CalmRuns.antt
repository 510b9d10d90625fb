-- Deliveries that are due in a group, over calm events: a request that is taken adds its cost, and a delivery takes one.
use Rattle.std.proofs.Common.{ℕ, zero, suc, ◌≡◌, ◌+◌, ◌*◌, Bool, true, false, List, [], ◌∷◌, ◌++◌, length, refl, sym, ◌∙◌, ap, subst, arith, inl, inr, length-append, if◌then◌else◌, ◌⊎◌}
use Rattle.std.specs.Prelude.{Some, None, slice_get}
use Rattle.entry_core.specs.Log.{is_in}
use Rattle.store_core.specs.Request.{Sealed}
use Rattle.group_model_whole.specs.Types.{Sent}
use Rattle.group_model_whole.specs.Group.{Group, Event, Submit, Deliver, Lose, Repeat, NewInterval, Restart, Kick, is_submitted, has_all_requests, take_request, deliver, group_step, run, settle, delivered, delivered_now, delivered_to}
use Rattle.group_model_whole.specs.Quiet.{found_one, made_by, deliveries_made}
use Rattle.group_model_whole.specs.Calm.{KeepsSet, IsCalm, OnlyCalm}

wire_found : (ms : List Sent) → (ms ≡ []) ⊎ ((m : Sent) × (rest : List Sent) × (ms ≡ m ∷ rest))
wire_found [] = inl refl
wire_found (m ∷ rest) = inr (m, rest, refl)

-- D g n: the group g is in order, and n deliveries are due in it
module _ (D : Group → ℕ → Type 0) where
  -- as many are due as before
  pub record Kept (g g' : Group) (due : ℕ) : Type 0 where
    pub now : D g' due
    pub requests : g'.requests ≡ g.requests

  -- one delivery was made of those that were due
  pub record Next (g : Group) (m : Sent) (due : ℕ) : Type 0 where
    pub left : ℕ
    pub after : D (group_step g (Deliver 0)) left
    pub less : due ≡ left + 1
    pub reached : delivered_to m.to g ≡ 1
    pub requests : (group_step g (Deliver 0)).requests ≡ g.requests

  -- message 0 was delivered, if there was one
  record Delivered (g : Group) (due : ℕ) : Type 0 where
    left : ℕ
    now : D (group_step g (Deliver 0)) left
    found : found_one (slice_get g.wire 0) + left ≡ due
    reached : delivered_now (slice_get g.wire 0) g + left ≡ due
    requests : (group_step g (Deliver 0)).requests ≡ g.requests

  -- message 0 was delivered n times, or until no message was left
  pub record Settled (n : ℕ) (g : Group) (due : ℕ) : Type 0 where
    pub left : ℕ
    pub now : D (settle n g) left
    pub sum : delivered n g + left ≡ due
    pub requests : (settle n g).requests ≡ g.requests

module _ (cost : ℕ) (D : Group → ℕ → Type 0) where
  -- after some events, with `made` deliveries
  pub record Ran (g g' : Group) (due made : ℕ) : Type 0 where
    pub left : ℕ
    pub now : D g' left
    pub sum : made + left + cost * length g.requests ≡ due + cost * length g'.requests

-- how each calm event changes what is due
pub record Counting (acting : List ℕ) (cost : ℕ) (D : Group → ℕ → Type 0) : Type 0 where
  pub takes : (g : Group) (s : Sealed) (due : ℕ) → is_submitted g.requests s.id ≡ false → D g due → D (take_request g s) (due + cost)
  pub next : (g : Group) (m : Sent) (rest : List Sent) (due : ℕ) → D g due → g.wire ≡ m ∷ rest → Next D g m due
  pub moves : (g : Group) (due : ℕ) (set up : List ℕ) → KeepsSet acting set up → D g due → Kept D g (group_step g (NewInterval set up)) due
  pub restarts : (g : Group) (due : ℕ) (d : ℕ) → is_in acting d ≡ false → D g due → Kept D g (group_step g (Restart d)) due

module _ (acting : List ℕ) (cost : ℕ) (D : Group → ℕ → Type 0) (c : Counting acting cost D) where
  delivers : (g : Group) (due : ℕ) → D g due → Delivered D g due
  delivers g due now = elim (wire_found g.wire) [
    | inl none ↦ (
        let nothing : slice_get g.wire 0 ≡ None = ap (λ w. slice_get w 0) none in
        let stays : group_step g (Deliver 0) ≡ g = ap (λ f. deliver g 0 f) nothing in
        record {
          left = due;
          now = subst (λ v. D v due) (sym stays) now;
          found = (let zero_is : found_one (slice_get g.wire 0) ≡ 0 = ap found_one nothing in omega arith);
          reached = (let zero_is : delivered_now (slice_get g.wire 0) g ≡ 0 = ap (λ f. delivered_now f g) nothing in omega arith);
          requests = ap (λ v. v.requests) stays;
        })
    | inr some ↦ (
        let next : Next D g some.0 due = c.next g some.0 some.1 due now some.2 in
        let head : slice_get g.wire 0 ≡ Some some.0 = ap (λ w. slice_get w 0) some.2 in
        record {
          left = next.left;
          now = next.after;
          found = (let one_is : found_one (slice_get g.wire 0) ≡ 1 = ap found_one head in let less = next.less in omega arith);
          reached = (let one_is : delivered_now (slice_get g.wire 0) g ≡ 1 = ap (λ f. delivered_now f g) head ∙ next.reached in let less = next.less in omega arith);
          requests = next.requests;
        })
  ]

  as_due : (g g' : Group) (due : ℕ) → Kept D g g' due → Ran cost D g g' due 0
  as_due g g' due kept = record {
    left = due;
    now = kept.now;
    sum = (let same : cost * length g'.requests ≡ cost * length g.requests = ap (λ v. cost * length v) kept.requests in omega arith);
  }

  ran_step : (g : Group) (due : ℕ) (e : Event) → IsCalm acting e → D g due → Ran cost D g (group_step g e) due (made_by g e)
  ran_step g due (Submit s) fits now = go (is_submitted g.requests s.id) refl
    where
      stays : Ran cost D g g due 0
      stays = record { left = due; now = now; sum = omega arith }

      grows : is_submitted g.requests s.id ≡ false → Ran cost D g (take_request g s) due 0
      grows new = record {
        left = due + cost;
        now = c.takes g s due new now;
        sum = (let long : length (g.requests ++ s ∷ []) ≡ length g.requests + 1 = length-append g.requests (s ∷ []) in
            let times : cost * length (g.requests ++ s ∷ []) ≡ cost * (length g.requests + 1) = ap (λ v. cost * v) long in
            let split : cost * (length g.requests + 1) ≡ cost * length g.requests + cost = omega arith in
            omega arith);
      }

      room : (full : Bool) → is_submitted g.requests s.id ≡ false → Ran cost D g (if full then g else take_request g s) due 0
      room true new = stays
      room false new = grows new

      go : (b : Bool) → is_submitted g.requests s.id ≡ b → Ran cost D g (if b then g else (if has_all_requests g then g else take_request g s)) due 0
      go true is = stays
      go false is = room (has_all_requests g) is
  ran_step g due (Deliver k) fits now =
      let d : Delivered D g due = delivers g due now in
      subst (λ v. Ran cost D g (group_step g (Deliver v)) due (made_by g (Deliver v))) (sym fits) (record {
        left = d.left;
        now = d.now;
        sum = (let found = d.found in let same : cost * length (group_step g (Deliver 0)).requests ≡ cost * length g.requests = ap (λ v. cost * length v) d.requests in omega arith);
      })
  ran_step g due (Lose k) fits now = absurd fits
  ran_step g due (Repeat k) fits now = absurd fits
  ran_step g due (NewInterval set up) fits now = as_due g (group_step g (NewInterval set up)) due (c.moves g due set up fits now)
  ran_step g due (Restart d) fits now = as_due g (group_step g (Restart d)) due (c.restarts g due d fits now)
  ran_step g due Kick fits now = absurd fits

  pub ran : (es : List Event) (g : Group) (due : ℕ) → OnlyCalm acting es → D g due → Ran cost D g (run es g) due (deliveries_made es g)
  ran [] g due fits now = record { left = due; now = now; sum = omega arith }
  ran (e ∷ es) g due fits now =
      let one_step : Ran cost D g (group_step g e) due (made_by g e) = ran_step g due e fits.0 now in
      let rest : Ran cost D (group_step g e) (run es (group_step g e)) one_step.left (deliveries_made es (group_step g e)) = ran es (group_step g e) one_step.left fits.1 one_step.now in
      record { left = rest.left; now = rest.now; sum = (let a = one_step.sum in let b = rest.sum in omega arith) }

  pub settles : (n : ℕ) (g : Group) (due : ℕ) → D g due → Settled D n g due
  settles zero g due now = record { left = due; now = now; sum = omega arith; requests = refl }
  settles (suc n) g due now =
      let d : Delivered D g due = delivers g due now in
      let rest : Settled D n (group_step g (Deliver 0)) d.left = settles n (group_step g (Deliver 0)) d.left d.now in
      record { left = rest.left; now = rest.now; sum = (let a = d.reached in let b = rest.sum in omega arith); requests = rest.requests ∙ d.requests }
