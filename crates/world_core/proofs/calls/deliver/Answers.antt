use Rattle.std.proofs.Common.{◌∙◌, ◌++◌, inl, length, refl, ap}
use Rattle.group_model.specs.Group.{Deliver}
use Rattle.world_core.specs.Applying.{runs_from}
use Rattle.world_core.proofs.Calling.{kept_nothing, steps_or_memory}
use Rattle.world_core.proofs.calls.deliver.Goals as goal

pub returns : goal.returns
returns c = record {
  steps = steps_or_memory c.args.group.now c.call-done.new.self (Deliver c.args.message) c.call-done.result c.call-done.ensures.steps;
  kept =
      c.keep.ensures ∙ ap (λ l. l ++ runs_from c.args.place c.decided_count-from.result c.decided_count-upto.result) c.reserve.ensures.items
      ∙ ap (λ n. c.args.runs.now.items ++ runs_from c.args.place n c.decided_count-upto.result) c.decided_count-from.ensures
      ∙ ap (λ n. c.args.runs.now.items ++ runs_from c.args.place (length c.args.group.now.audit) n) c.decided_count-upto.ensures;
}

pub returns-then-is_err : goal.returns-then-is_err
returns-then-is_err c = record {
  steps = inl (refl, refl);
  kept = c.reserve.ensures.items ∙ kept_nothing c.args.runs.now.items c.args.place (length c.args.group.now.audit);
}
