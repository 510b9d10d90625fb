use Rattle.std.proofs.Common.{option_copied}
use Rattle.verdict_core.specs.Chains.{NoneOfTags}
use Rattle.verdict_core.proofs.chains.Chains.all_tags_give.Given as goal

abbrev pub invariant-loop-app : goal.invariant-loop-app
invariant-loop-app g l = NoneOfTags l.app-index l.app-items l.front l.self.kinds.items l.grants l.target l.needs (option_copied l.call)
