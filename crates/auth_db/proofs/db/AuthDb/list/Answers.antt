use Rattle.std.proofs.Common.{rules}
use Rattle.auth_db.proofs.db.AuthDb.list.Goals as goal

pub returns-in-Ok-clause-names : goal.returns-in-Ok-clause-names
returns-in-Ok-clause-names c = search rules
