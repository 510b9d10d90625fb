use Rattle.lint_text.proofs.ceph.push_found.Goals as goal

pub returns-then-found-2 : goal.returns-then-found-2
returns-then-found-2 c = rw (c.if-found.false, c.if-found-2.true) c.push_line-then-found-2.ensures
