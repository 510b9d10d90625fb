use Rattle.std.proofs.Common.{rules}
use Rattle.auth_db.specs.Entries.{users_of}
use Rattle.auth_db.proofs.Kept.{kept_without}
use Rattle.auth_db.proofs.db.AuthDb.del.Goals as goal

pub invariant_of-self : goal.invariant_of-self
invariant_of-self c = kept_without c.self.inside.table (users_of c.self.inside.users.entries) (users_of c.take.new.users.entries) c.args.name.now c.self.invariant c.take.ensures.removed c.take.ensures.len

pub returns-clause-removed : goal.returns-clause-removed
returns-clause-removed c = search rules
