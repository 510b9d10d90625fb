use Rattle.std.proofs.Common.{◌∙◌, ap, is_some}
use Rattle.auth_db.specs.Users.{is_name}
use Rattle.auth_db.proofs.Commute.{lookup-users_of}
use Rattle.auth_db.proofs.users.has_user.Goals as goal

pub returns : goal.returns
returns c = c.contains_key.ensures ∙ ap is_some (lookup-users_of (is_name c.args.name.now) c.args.users.now.entries)
