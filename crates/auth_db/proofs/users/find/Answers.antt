use Rattle.std.proofs.Common.{◌∙◌}
use Rattle.auth_db.specs.Users.{is_name}
use Rattle.auth_db.proofs.Commute.{lookup-users_of}
use Rattle.auth_db.proofs.users.find.Goals as goal

pub returns : goal.returns
returns c = c.get.ensures.value ∙ lookup-users_of (is_name c.args.name.now) c.args.users.now.entries
