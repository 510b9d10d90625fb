use Rattle.std.proofs.Common.{ap, ◌∙◌, ◌&&◌}
use Rattle.compare_text.specs.Relation.{is_wider}
use Rattle.compare_text.specs.Compared.{compared_by}
use Rattle.compare_text.proofs.Comparisons.{compared_lines}
use Rattle.compare_text.proofs.compare.compared.Goals as goal

pub returns : goal.returns
returns c =
    let change = c.in_ok-change.change in
    compared_lines c.args.how c.args.old.now.grants c.args.new.now.grants c.in_ok-change.change _ _ c.in_ok-change.ensures
    (c.in_ok-text.ensures ∙ ap (λ r. compared_by c.args.how.format r change.gained.items change.lost.items) c.relation-relation.ensures)
    (c.fails_check-fails.ensures ∙ ap (λ r. c.args.how.check && is_wider r) c.relation-relation.ensures)
