use Rattle.std.proofs.Common.{sym, subst}
use Rattle.compare_text.specs.Deciding.{AreBefore}
use Rattle.compare_text.proofs.Addressed.{all_found, decide_first, decide_others, more_before}
use Rattle.compare_text.proofs.widening.examples_of.Goals as goal

pub example_from-requires : goal.example_from-requires
example_from-requires c = decide_first _ c.args.old.now.grants c.in-Some.others c.in-Some.entry _ (rw c.in-Some.ensures at c.loop-entry.invariant.decide)

pub loop-entry-preserved : goal.loop-entry-preserved
loop-entry-preserved c = record {
  before =
      subst (AreBefore c.args.registry _ c.args.old.now.grants c.args.new.now.grants c.in-Some.others) (sym c.in_ok-push_some.ensures)
      (more_before c.args.registry _ c.args.old.now.grants c.args.new.now.grants c.in-Some.others c.in-Some.entry c.loop-entry.examples.items c.in_ok-found.found (rw c.in-Some.ensures at c.loop-entry.invariant.before) c.in_ok-found.ensures);
  decide = decide_others _ c.args.old.now.grants c.in-Some.others c.in-Some.entry _ (rw c.in-Some.ensures at c.loop-entry.invariant.decide);
}

pub returns : goal.returns
returns c =
    let none = rw c.in_default.is at c.split_first.ensures in
    all_found c.args.registry c.args.addressed _ c.args.old.now.grants c.args.new.now.grants _ c.loop-entry.examples.items c.requires none c.loop-entry.invariant.before
