use Rattle.std.proofs.Common.{rules}
use Rattle.auth_db.proofs.db.caps_refusal.Goals as goal

pub returns : goal.returns
returns c = search rules
