-- Recovery by hand.
use Rattle.std.proofs.Common.{ℕ, ◌≡◌, ◌≤◌, ◌-◌, true, not, nat_lt, ◌&&◌, List, [], ◌∷◌, map, length, take, max, replicate, refl, sym, ◌∙◌, ap, subst, arith, if◌then◌else◌}
use Rattle.entry_core.specs.Log.{is_in}
use Rattle.group_model_whole.specs.ActingSets.{set_of}
use Rattle.group_model_whole.specs.Choice.{covers}
use Rattle.group_model_whole.specs.Types.{Daemon, Idle as WholeIdle}
use Rattle.group_model_whole.specs.Group.{Group as WholeGroup, Event, Lose, Kick, last_set, run as whole_run, start as whole_start, kick as whole_kick}
use Rattle.group_model_whole.specs.Within.{IsReachedWithin as IsWholeReachedWithin}
use Rattle.group_model_whole.specs.Recovery.{greatest_base as whole_greatest_base, is_ready as is_whole_ready}
use Rattle.group_model_whole.specs.Recovering.{HasUp, IsReady as IsWholeReady, lost_all as whole_lost_all, Recovers as WholeRecovers}
use Rattle.group_model_whole.proofs.RecoveryLaws.{can_lose as whole_can_lose}
use Rattle.group_model_whole.proofs.RecoveryTests.{ready_from as whole_ready_from, ready_to as whole_ready_to}
use Rattle.group_model_whole.proofs.Statements.{recovers as whole_recovers}
use Rattle.group_model.specs.Standing.{Both, SameCopy, StandsFor}
use Rattle.group_model.specs.Types.{Copy}
use Rattle.group_model.specs.Group.{Group, kick, run, start}
use Rattle.group_model.specs.Reached.{IsReached}
use Rattle.group_model.specs.Recovery.{greatest_base, is_ready}
use Rattle.group_model.proofs.Agreeing.{whole}
use Rattle.group_model.proofs.Lists.{Both-weaker}
use Rattle.group_model.proofs.Events.{Lock, step_locked, run_locked, reached_locked}
use Rattle.group_model.specs.Recovering.{IsReady, lost_all, Recovers}
use Rattle.group_model.specs.Within.{IsReachedWithin}
use Rattle.group_model.proofs.Losses.{can_lose}
use Rattle.group_model.proofs.Twins.{lock_stands}
use Rattle.group_model.proofs.Counts.{budget_same, count_same, sent_many}
use Rattle.group_model.proofs.Serving.{served_same}

-- the greatest base of a copy that is up

abbrev SameBase : Copy → Daemon → Type 0
SameBase c w = (w.number ≡ c.number) × (w.base ≡ c.base)

bases_same : (up : List ℕ) (cs : List Copy) (ws : List Daemon) → Both SameBase cs ws → whole_greatest_base up ws ≡ greatest_base up cs
bases_same up [] [] both = refl
bases_same up [] (w ∷ ws) both = absurd both
bases_same up (c ∷ cs) [] both = absurd both
bases_same up (c ∷ cs) (w ∷ ws) both =
    let number : w.number ≡ c.number = both.0.0 in
    let base : w.base ≡ c.base = both.0.1 in
    let rest : whole_greatest_base up ws ≡ greatest_base up cs = bases_same up cs ws both.1 in
    (λ i. max (if is_in up (number i) then base i else 0) (rest i))

greatest_same : (g : Group) (w : WholeGroup) → StandsFor g w → whole_greatest_base w.up w.copies ≡ greatest_base g.up g.copies
greatest_same g w s = ap (λ up. whole_greatest_base up w.copies) s.up ∙ bases_same g.up g.copies w.copies (Both-weaker SameCopy SameBase (λ c v same. (same.number, same.base)) g.copies w.copies s.copies)

-- the test tells just where the premises hold: it reads of a copy its number and base alone

abbrev bare : Copy → Daemon
bare c = whole c WholeIdle

-- a group whose copies have these
abbrev bare_group : Group → WholeGroup
bare_group g = record { group = g.group; min_size = g.min_size; copies = map bare g.copies; wire = []; sets = g.sets; up = g.up; requests = g.requests; answers = g.answers; audit = g.audit }

bare_bases : (cs : List Copy) → Both SameBase cs (map bare cs)
bare_bases [] = tt
bare_bases (c ∷ cs) = ((refl, refl), bare_bases cs)

bare_base : (g : Group) → whole_greatest_base g.up (map bare g.copies) ≡ greatest_base g.up g.copies
bare_base g = bases_same g.up g.copies (map bare g.copies) (bare_bases g.copies)

bare_test : (g : Group) → is_whole_ready (bare_group g) ≡ is_ready g
bare_test g = ap (λ base. not (nat_lt (length (last_set g.sets)) g.min_size) && covers g.min_size base (is_in g.up) 1 (take (length g.sets - 1) g.sets)) (bare_base g)

pub ready_from : (g : Group) → is_ready g ≡ true → IsReady g
ready_from g is =
    let r : IsWholeReady (bare_group g) = whole_ready_from (bare_group g) (bare_test g ∙ is) in
    let base = bare_base g in
    record { members = r.members; intervals = λ j from upto below enough. r.intervals j from (omega arith) below enough }

pub ready_to : (g : Group) → IsReady g → is_ready g ≡ true
ready_to g r =
    let base = bare_base g in
    sym (bare_test g) ∙ whole_ready_to (bare_group g) (record { members = r.members; intervals = λ j from upto below enough. r.intervals j from (omega arith) below enough })

-- both are ready

ready_same : (g : Group) (w : WholeGroup) → StandsFor g w → IsReady g → IsWholeReady w
ready_same g w s r = record {
  members = subst (λ (l : List (List ℕ)). w.min_size ≤ length (last_set l)) (sym s.sets) (subst (λ n. n ≤ length (last_set g.sets)) (sym s.min_size) r.members);
  intervals = λ j from upto below enough. (
      let base = greatest_same g w s in
      let many : length w.sets ≡ length g.sets = ap (λ (l : List (List ℕ)). length l) s.sets in
      let size : w.min_size ≡ g.min_size = s.min_size in
      let members : length (set_of w.sets j) ≡ length (set_of g.sets j) = ap (λ (l : List (List ℕ)). length (set_of l j)) s.sets in
      let has : HasUp g.up (set_of g.sets j) = r.intervals j from (omega arith) (omega arith) (omega arith) in
      subst (λ (l : List (List ℕ)). HasUp w.up (set_of l j)) (sym s.sets) (subst (λ up. HasUp up (set_of g.sets j)) (sym s.up) has));
}

-- every message lost, then a kick

lost_locked : (g : Group) (w : WholeGroup) → Lock g w → Lock (lost_all g) (whole_lost_all w)
lost_locked g w l =
    let losses : List Event = replicate (length g.wire) (Lose 0) in
    let many : length g.wire ≡ length w.wire = sym (sent_many g w (lock_stands g w l)) in
    let there : whole_run losses w ≡ whole_lost_all w = ap (λ n. whole_run (replicate n (Lose 0)) w) many ∙ whole_can_lose w in
    subst (λ v. Lock (lost_all g) v) there (subst (λ v. Lock v (whole_run losses w)) (can_lose g) (run_locked losses g w l))

kicked_locked : (g : Group) (w : WholeGroup) → Lock g w → Lock (kick (lost_all g)) (whole_kick (whole_lost_all w))
kicked_locked g w l = step_locked (lost_all g) (whole_lost_all w) Kick (lost_locked g w l)

recovers_same : (g : Group) (w : WholeGroup) → Lock g w → WholeRecovers w → Recovers g
recovers_same g w l recovers =
    let h : Group = kick (lost_all g) in
    let v : WholeGroup = whole_kick (whole_lost_all w) in
    let k : Lock h v = kicked_locked g w l in
    record {
      served = served_same h v k recovers.served;
      few = (let few = recovers.few in let count = count_same h v k in let budget = budget_same h v (lock_stands h v k) in omega arith);
    }

pub recovers : (g : Group) → IsReachedWithin g → IsReady g → Recovers g
recovers g within =
    let r : IsReached g = within.reached in
    let P : Group → Type 0 = λ v. IsReady v → Recovers v in
    subst P r.is (λ ready.
    let made : Group = run r.events (start r.group r.min_size r.daemons r.acting r.up) in
    let w : WholeGroup = whole_run r.events (whole_start r.group r.min_size r.daemons r.acting r.up) in
    let l : Lock made w = reached_locked r.group r.min_size r.daemons r.acting r.up r.events in
    let there : IsWholeReachedWithin w = record {
      reached = record { group = r.group; min_size = r.min_size; daemons = r.daemons; acting = r.acting; up = r.up; events = r.events; least = r.least; begins = r.begins; fit = r.fit; is = refl };
      first = within.first;
      later = within.later;
    } in
    recovers_same made w l (whole_recovers w there (ready_same made w (lock_stands made w l) ready)))
