use Rattle.grant_core.proofs.Sizes.{size_in_table}
use Rattle.std.proofs.Common.{arith}
use Rattle.std.proofs.lemmas.Grind.{common_steps}
use Rattle.grant_core.proofs.table.size_of_grant.Goals as goal

pub returns-in-Some-clause-value : goal.returns-in-Some-clause-value
returns-in-Some-clause-value c =
    rw c.in-Profile.is (size_in_table c.args.profiles.now.entries c.in-Profile.used c.in-Some.field-0-0 c.in-Some.profile.now c.requires (rw c.len.ensures.len at c.in-Some.ensures))

pub returns-in-None-clause-value : goal.returns-in-None-clause-value
returns-in-None-clause-value c = grind (arith, common_steps)
