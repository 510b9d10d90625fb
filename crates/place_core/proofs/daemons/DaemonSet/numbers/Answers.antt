use Rattle.std.proofs.Common.{ℕ, ◌<◌, ◌∙◌, ap, arith, filter, slice_index_or, false, All, subst}
use Rattle.std.specs.List.{range_with_len}
use Rattle.place_core.specs.Placement.{numbers_of}
use Rattle.place_core.proofs.Numbers.{numbers_yes, numbers_no, numbers_below, numbers_differ}
use Rattle.place_core.proofs.daemons.DaemonSet.numbers.Goals as goal
use Rattle.place_core.proofs.daemons.DaemonSet.numbers.Goals.{then-self-daemon, else-self-daemon}

pub loop-daemon-preserved : goal.loop-daemon-preserved
loop-daemon-preserved c =
    let p = λ (d : ℕ). slice_index_or c.self.inside.flags d false in
    let so_far = c.loop-daemon.invariant in
    elim c.if-self-daemon.branch [
      | then-self-daemon w ↦ record {
        few = omega (arith, w.count-is);
        long = c.if-self-daemon.array_long;
        list = cc (numbers_yes p c.loop-daemon.numbers c.loop-daemon.count c.loop-daemon.daemon (omega arith) so_far.list w.if-self-daemon.true);
      }
      | else-self-daemon w ↦ record {
        few = omega (arith, w.count-is);
        long = c.if-self-daemon.array_long;
        list = cc (numbers_no p c.loop-daemon.numbers c.loop-daemon.count c.loop-daemon.daemon so_far.list w.if-self-daemon.false);
      }
    ]

pub returns-clause-list : goal.returns-clause-list
unfolding numbers_of
returns-clause-list c =
    c.loop-daemon.invariant.list ∙ ap (λ n. filter (λ d. slice_index_or c.self.inside.flags d false) (range_with_len 0 n)) (omega (arith, c.self.invariant)) ∙ ap numbers_of c.self.view_is

pub returns-clause-small : goal.returns-clause-small
returns-clause-small c = subst (λ (l : _). All (λ d. d < 16) (numbers_of l)) c.self.view_is (subst (λ (n : ℕ). All (λ d. d < n) (numbers_of c.self.inside.flags)) c.self.invariant (numbers_below c.self.inside.flags))

pub returns-clause-distinct : goal.returns-clause-distinct
returns-clause-distinct c = numbers_differ c.args.self.now
