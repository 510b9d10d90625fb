use Rattle.std.proofs.Common.{arith, ap, ◌∙◌, ◌++◌, string_bytes}
use Rattle.who_text.specs.Table.{IsRow}
use Rattle.who_text.proofs.Told.{next_in_order, whole_order}
use Rattle.who_text.proofs.table.rows_of.Goals as goal

pub loop-entity-preserved : goal.loop-entity-preserved
loop-entity-preserved c =
    next_in_order (IsRow c.args.format c.args.width c.args.requests.now) c.args.entities.now c.loop-entity.entity-index c.entity-item.result _ _ _ (omega arith) c.entity-item.is c.loop-entity.invariant
    c.in_ok-row.ensures
    (c.in_ok-push_str.ensures.bytes ∙ ap (λ row. string_bytes c.loop-entity.text ++ row) c.as_str.ensures.value)

pub returns : goal.returns
returns c =
    whole_order (IsRow c.args.format c.args.width c.args.requests.now) c.args.entities.now c.loop-entity.entity-index _ c.loop-entity-test.false c.loop-entity.invariant
