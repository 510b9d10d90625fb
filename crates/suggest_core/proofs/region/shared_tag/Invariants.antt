use Rattle.std.proofs.Common.{◌≡◌, drop}
use Rattle.suggest_core.specs.Region.{shared_tag}
use Rattle.suggest_core.proofs.region.shared_tag.Given as goal

-- it is among the rest
abbrev pub invariant-loop-tag : goal.invariant-loop-tag
invariant-loop-tag l = shared_tag (drop l.tag-index l.tags) l.seen ≡ shared_tag l.tags l.seen
