use Rattle.std.proofs.Common.{ap, ◌∙◌, ◌&&◌}
use Rattle.compare_text.specs.Relation.{is_wider, word_of}
use Rattle.compare_text.specs.Entities.{change_by}
use Rattle.compare_text.proofs.Comparisons.{change_told}
use Rattle.compare_text.proofs.compare_auth.changed_pair.Goals as goal

pub returns : goal.returns
returns c =
    let change = c.in_ok-change.change in
    change_told c.args.how c.args.pair.now.presence c.args.pair.now.name.now c.args.old.now.grants c.args.new.now.grants c.in_ok-change.change _ _ c.in_ok-change.ensures
    (c.in_ok-text.ensures
    ∙ ap (λ r. change_by c.args.how.format c.args.pair.now.name.now (word_of c.args.pair.now.presence r) change.gained.items change.lost.items) c.relation-relation.ensures)
    (c.fails_check-fails.ensures ∙ ap (λ r. c.args.how.check && is_wider r) c.relation-relation.ensures)
