use Rattle.std.proofs.Common.{sym}
use Rattle.auth_db.specs.Entries.{users_of}
use Rattle.auth_db.proofs.Kept.{stored_at}
use Rattle.auth_db.proofs.db.AuthDb.get.Goals as goal

pub returns-in-Some-clause-good : goal.returns-in-Some-clause-good
returns-in-Some-clause-good c = rw (← c.self.view_is) ((stored_at c.self.inside.table (users_of c.self.inside.users.entries) c.args.name.now c.in-Some.caps.now c.self.invariant (sym c.in-Some.ensures)).0)

pub returns-in-Some-clause-short : goal.returns-in-Some-clause-short
returns-in-Some-clause-short c = (stored_at c.self.inside.table (users_of c.self.inside.users.entries) c.args.name.now c.in-Some.caps.now c.self.invariant (sym c.in-Some.ensures)).1
