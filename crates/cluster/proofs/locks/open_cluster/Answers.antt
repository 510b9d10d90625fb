use Rattle.std.proofs.Common.{rules, ◌≡◌, ◌+◌, ◌-◌, ◌<◌, Some, get_or, take, vec_len, arith, sym, ap, ◌∙◌, subst}
use Rattle.std.specs.Prelude.{All}
use Rattle.turn_lock.specs.Seats.{IsNewSeatOf}
use Rattle.cluster_locks.specs.Places.{Beside, IsFreshRow}
use Rattle.cluster.specs.Passes.{AreSeatsOf, ArePassOf, HaveShare, HaveTheirOwn, AreAlone, AreFreshOf}
use Rattle.cluster_locks.specs.Shares.{pass_share, monitor_share, shares_of}
use Rattle.cluster_locks.proofs.FreshRows.{in_step_long}
use Rattle.cluster.proofs.Begun.{pairs_fresh, last_of, last_off, fresh_are, row_own, all_are}
use Rattle.cluster.proofs.locks.open_cluster.Goals as goal

all_long : (c : goal.After-pop) → vec_len c.in_ok-all.all ≡ c.args.passes + 1
all_long c = let count : c.in-Some.count ≡ c.args.passes + 1 = search rules in
    c.in_ok-all.all.ok.0 ∙ ((in_step_long _ _ _ _ c.in_ok-all.ensures).1 ∙ (sym c.in_ok-locks.rows.ok.0 ∙ (c.in_ok-locks.ensures.count ∙ count)))

all_long' : (c : goal.After-of) → vec_len c.in_ok-all.all ≡ c.args.passes + 1
all_long' c = let count : c.in-Some.count ≡ c.args.passes + 1 = search rules in
    c.in_ok-all.all.ok.0 ∙ ((in_step_long _ _ _ _ c.in_ok-all.ensures).1 ∙ (sym c.in_ok-locks.rows.ok.0 ∙ (c.in_ok-locks.ensures.count ∙ count)))

pub unwrap-monitor-requires : goal.unwrap-monitor-requires
unwrap-monitor-requires c = let long = all_long c in let some_there : 0 < vec_len c.in_ok-all.all = omega arith in search rules

-- the seats of all, each fresh, with its share
all_fresh : (c : goal.After-of) → Beside (AreFreshOf c.of.result) (shares_of c.args.passes) c.in_ok-all.all.items
all_fresh c =
    let count : c.in-Some.count ≡ c.args.passes + 1 = search rules in
    let rows = c.in_ok-locks.ensures.rows c.args.passes (sym count) in
    let opened = c.in_ok-users.ensures in
    let locks : c.in_ok-locks.locks.items ≡ c.of.result.groups.items = ap (λ v. v.items) (sym c.of.ensures.0) in
    pairs_fresh (λ row. row.items) c.of.result (shares_of c.args.passes) c.in_ok-locks.rows.items c.in_ok-users.seats.items c.in_ok-all.all.items
    (subst (λ ls. Beside (λ share row. IsFreshRow share ls row.items) (shares_of c.args.passes) c.in_ok-locks.rows.items) locks rows)
    (subst (λ l. All (IsNewSeatOf l) c.in_ok-users.seats.items) (sym c.of.ensures.1) opened.seats.1) (opened.shares c.args.passes (sym count)) c.in_ok-all.ensures

-- the monitor's seats, and those of the passes before them
split : (c : goal.After-of) → AreFreshOf c.of.result (monitor_share c.args.passes) c.unwrap-monitor.result × All (AreFreshOf c.of.result (pass_share c.args.passes)) c.pop.new.self.items
split c =
    let long = all_long' c in
    let less : vec_len c.in_ok-all.all - 1 ≡ c.args.passes = omega arith in
    let all = c.in_ok-all.all.items in
    let rest : c.pop.new.self.items ≡ take c.args.passes all = c.pop.ensures.rest ∙ ap (λ n. take n all) less in
    let value : Some c.unwrap-monitor.result ≡ Some (get_or all (vec_len c.in_ok-all.all - 1) c.unwrap-monitor.result) = sym c.unwrap-monitor.ensures ∙ c.pop.ensures.value c.unwrap-monitor.result (omega arith) in
    let at : c.unwrap-monitor.result ≡ get_or all (vec_len c.in_ok-all.all - 1) c.unwrap-monitor.result = cc in
    let at' : c.unwrap-monitor.result ≡ get_or all c.args.passes c.unwrap-monitor.result = at ∙ ap (λ n. get_or all n c.unwrap-monitor.result) less in
    let whole = last_off all c.args.passes c.unwrap-monitor.result (sym c.in_ok-all.all.ok.0 ∙ long) at' in
    let r = last_of (AreFreshOf c.of.result) c.args.passes (pass_share c.args.passes) (monitor_share c.args.passes) (take c.args.passes all) c.unwrap-monitor.result (subst (Beside (AreFreshOf c.of.result) (shares_of c.args.passes)) whole (all_fresh c)) in
    (r.0, subst (All (AreFreshOf c.of.result (pass_share c.args.passes))) (sym rest) r.1)

pub returns-clause-count : goal.returns-clause-count
returns-clause-count c = let long = all_long' c in let fewer : vec_len c.pop.new.self + 1 ≡ vec_len c.in_ok-all.all = let there : 0 < vec_len c.in_ok-all.all = omega arith in search rules in (c.of.ensures.3, omega arith)

pub returns-clause-fresh : goal.returns-clause-fresh
returns-clause-fresh c = split c

pub returns-clause-monitor : goal.returns-clause-monitor
returns-clause-monitor c =
    let fresh = (split c).0 in
    let are = fresh_are c.of.result (monitor_share c.args.passes) c.unwrap-monitor.result fresh in
    let made : HaveTheirOwn c.unwrap-monitor.result = row_own (monitor_share c.args.passes) c.of.result.groups.items c.unwrap-monitor.result.groups.items fresh.0 in
    (are.0, subst (λ n. HaveShare (monitor_share n) c.unwrap-monitor.result) (sym c.of.ensures.3) are.1, are.2, made)

pub returns-clause-passes : goal.returns-clause-passes
returns-clause-passes c = all_are (AreFreshOf c.of.result (pass_share c.args.passes)) (ArePassOf c.of.result) c.pop.new.self.items
    (λ p h. subst (λ n. AreSeatsOf c.of.result p × HaveShare (pass_share n) p × AreAlone p) (sym c.of.ensures.3) (fresh_are c.of.result (pass_share c.args.passes) p h)) (split c).1
