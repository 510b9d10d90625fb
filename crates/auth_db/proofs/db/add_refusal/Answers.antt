use Rattle.std.proofs.Common.{rules}
use Rattle.auth_db.proofs.db.add_refusal.Goals as goal

pub returns-then-count-ge-MAX_USERS : goal.returns-then-count-ge-MAX_USERS
returns-then-count-ge-MAX_USERS c = search rules
