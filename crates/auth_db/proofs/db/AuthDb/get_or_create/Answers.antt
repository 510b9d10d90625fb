use Rattle.std.proofs.Common.{rules}
use Rattle.auth_db.proofs.db.AuthDb.get_or_create.Goals as goal

pub returns-in-Some-clause-stepped : goal.returns-in-Some-clause-stepped
returns-in-Some-clause-stepped c = search rules

pub returns-in-Some-clause-unchanged : goal.returns-in-Some-clause-unchanged
returns-in-Some-clause-unchanged c = search rules
