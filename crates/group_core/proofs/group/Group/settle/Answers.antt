use Rattle.std.proofs.lemmas.Bool.{eqb-true}
use Rattle.std.proofs.lemmas.List.{nil_from_length}
use Rattle.std.proofs.Common.{◌≡◌, ◌==◌, ap, sym, ◌∙◌, subst, length, false}
use Rattle.group_model.specs.Group.{Group, Deliver, Unreachable}
use Rattle.std.specs.Prelude.{Ok, Err}
use Rattle.group_model.specs.Budget.{budget}
use Rattle.group_model.specs.Reached.{IsReached, Refuses, Settles}
use Rattle.group_core.proofs.Settles.{settle_grows, settle_stands}
use Rattle.group_model_whole.proofs.Settling.{dropped, not_dropped}
use Rattle.group_core.proofs.Settling.{so_far_more, so_far_less, so_far_ended, so_far_done}
use Rattle.group_core.proofs.group.Group.settle.Goals as goal

pub loop-self-smaller-in-Ok : goal.loop-self-smaller-in-Ok
loop-self-smaller-in-Ok c = c.in-Ok.ensures.delivered

pub loop-self-preserved-in-Ok : goal.loop-self-preserved-in-Ok
loop-self-preserved-in-Ok c =
    so_far_more c.args.self.now c.loop-self.self c.deliver.new.self c.loop-self.delivered c.saturating_add-delivered.result c.loop-self.invariant c.in-Ok.ensures.steps.0 c.in-Ok.ensures.steps.1 c.saturating_add-delivered.ensures

pub returns : goal.returns
returns c =
    let none : length c.loop-self.self.wire ≡ 0 = ap (λ (v : Group). length v.wire) (sym c.self-in-loop-self.view_is) ∙ ap (λ l. length l) (sym c.as_slice.ensures) ∙ eqb-true (length c.as_slice.result.now) 0 (sym c.is_empty.ensures ∙ c.loop-self-test.false) in
    let all : Settles c.args.self.now (Ok c.loop-self.delivered) c.loop-self.self = so_far_done c.args.self.now c.loop-self.self c.loop-self.delivered (subst IsReached c.self.view_is c.self.invariant.reached) c.loop-self.invariant (nil_from_length c.loop-self.self.wire none) in
    record {
      settles = all;
      grows = settle_grows c.args.self.now c.loop-self.self (budget c.args.self.now) all.0;
      stands = settle_stands c.args.self.now c.loop-self.self (budget c.args.self.now) all.0;
    }

pub loop-self-preserved : goal.loop-self-preserved
loop-self-preserved c =
    let down = dropped c.in-Err.fault (sym c.is_drop.ensures ∙ c.if-is_drop.true) in
    let said : Refuses c.loop-self.self (Deliver 0) Unreachable c.deliver.new.self = subst (λ f. Refuses c.loop-self.self (Deliver 0) f c.deliver.new.self) down c.in-Err.ensures.steps in
    so_far_less c.args.self.now c.loop-self.self c.deliver.new.self c.loop-self.delivered c.loop-self.invariant said.0 said.1

pub loop-self-smaller : goal.loop-self-smaller
loop-self-smaller c = c.in-Err.ensures.dropped (dropped c.in-Err.fault (sym c.is_drop.ensures ∙ c.if-is_drop.true))

pub returns-in-Err-2 : goal.returns-in-Err-2
returns-in-Err-2 c =
    let some : (length c.loop-self.self.wire == 0) ≡ false = ap (λ (v : Group). length v.wire == 0) (sym c.self-in-loop-self.view_is) ∙ ap (λ l. length l == 0) (sym c.as_slice.ensures) ∙ sym c.is_empty.ensures ∙ c.loop-self-test.true in
    let some_of : Settles c.args.self.now (Err c.in-Err.fault) c.deliver.new.self = so_far_ended c.args.self.now c.loop-self.self c.deliver.new.self c.loop-self.delivered c.in-Err.fault c.loop-self.invariant some c.in-Err.ensures.steps
    (not_dropped c.in-Err.fault (sym c.is_drop.ensures ∙ c.if-is_drop.false)) in
    record {
      settles = some_of;
      grows = settle_grows c.args.self.now c.deliver.new.self some_of.1.0 some_of.1.1;
      stands = settle_stands c.args.self.now c.deliver.new.self some_of.1.0 some_of.1.1;
    }
