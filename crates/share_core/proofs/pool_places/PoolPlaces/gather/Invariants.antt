use Rattle.std.proofs.Common.{◌≡◌, ◌++◌, drop}
use Rattle.std.specs.List.{flat_map}
use Rattle.share_core.specs.PoolPlaces.{gathered, named_of}
use Rattle.share_core.proofs.pool_places.PoolPlaces.gather.Given as goal

-- what is gathered, and what the rest gives, is the whole
abbrev pub invariant-loop-grant : goal.invariant-loop-grant
invariant-loop-grant l = l.places.items ++ flat_map (λ entry. named_of l.self entry.1.pool) (drop l.grant-index l.grants) ≡ gathered l.self l.grants
