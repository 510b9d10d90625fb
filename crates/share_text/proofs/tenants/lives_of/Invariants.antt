use Rattle.std.proofs.Common.{◌≡◌, map, take, All}
use Rattle.share_text.specs.Live.{IsLiveOf}
use Rattle.share_text.proofs.tenants.lives_of.Given as goal

-- the entities so far, each with the ticket that is made of its rights
abbrev pub invariant-loop-entity : goal.invariant-loop-entity
invariant-loop-entity l = record {
  entities : map (λ live. live.entity) l.lives.items ≡ take l.entity-index l.entities;
  live : All (λ live. IsLiveOf live.entity live.ticket live.everywhere) l.lives.items;
}
