-- Statement: contracts of public calls use it.
-- Which tags a pool can have (the Ceph manual's Pools chapter, "Associating a pool with an application").
use Rattle.std.specs.Prelude.{◌≢◌, List, AllPairs}
use Rattle.std.specs.List.{All}
use Rattle.common_types.specs.declared.tags.AppTags.{AppTags}

-- its applications differ, and the keys of each differ
abbrev pub ArePossible : List AppTags → Type 0
ArePossible tags = AllPairs (λ a b. a.application ≢ b.application) tags × All (λ app. AllPairs (λ p q. p.0 ≢ q.0) app.pairs) tags
