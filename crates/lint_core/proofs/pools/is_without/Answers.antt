use Rattle.lint_core.proofs.Sublists.{only}
use Rattle.lint_core.proofs.pools.is_without.Goals as goal

pub part_ticket-requires : goal.part_ticket-requires
part_ticket-requires c = only c.args.table.now c.args.grants.now c.args.place c.requires.expands
