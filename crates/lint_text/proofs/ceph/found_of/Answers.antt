use Rattle.std.proofs.Common.{option_copied}
use Rattle.lint_text.proofs.CephFound.{found_all}
use Rattle.lint_text.proofs.ceph.found_of.Goals as goal

pub returns-in_ok-all-in-Ok : goal.returns-in_ok-all-in-Ok
returns-in_ok-all-in-Ok c =
    let counted = rw c.in-Ok.is at c.in_ok-read.ensures in
    found_all (option_copied c.args.pools) c.args.caps.now c.in-Ok.read _ counted c.in_ok-all-in-Ok.ensures
