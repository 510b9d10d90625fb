use Rattle.std.proofs.Common.{◌∙◌, ap, is_some}
use Rattle.auth_db.specs.Entries.{users_of}
use Rattle.auth_db.specs.Users.{is_name}
use Rattle.auth_db.proofs.Commute.{lookup-users_of, users_of-remove_entry}
use Rattle.auth_db.proofs.users.take.Goals as goal

pub returns-clause-there : goal.returns-clause-there
returns-clause-there c = c.is_some.ensures ∙ ap is_some (c.remove.ensures.value ∙ lookup-users_of (is_name c.args.name.now) c.args.users.now.entries)

pub returns-clause-removed : goal.returns-clause-removed
returns-clause-removed c = ap users_of c.remove.ensures.entries ∙ users_of-remove_entry (is_name c.args.name.now) c.args.users.now.entries
