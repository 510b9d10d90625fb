use Rattle.std.proofs.Common.{rules}
use Rattle.object_core.proofs.class.registered.Goals as goal

pub returns-in-VaultPeek : goal.returns-in-VaultPeek
returns-in-VaultPeek c = search rules
