use Rattle.std.proofs.Common.{refl, Ok}
use Rattle.auth_db.specs.Users.{user_at}
use Rattle.auth_db.specs.declared.db.Creation.TheVariants as creation
use Rattle.world_front.proofs.Refused.{told_made}
use Rattle.world_front.proofs.users.get_or_create.Goals as goal

pub returns-in-Ok-Made-clause-tells : goal.returns-in-Ok-Made-clause-tells
returns-in-Ok-Made-clause-tells c = let e = rw c.in-Ok-Made.field-0-is at c.in-Ok-Made.ensures in
    told_made (user_at c.args.users.now.users c.args.name.now) c.args.name.now c.args.caps (Ok creation.Made) refl e.there
