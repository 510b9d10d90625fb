-- Where a group of a cluster stands.
use Rattle.std.proofs.Common.{ℕ, ◌<◌, sym, subst}
use Rattle.std.proofs.lemmas.List.{length-map}
use Rattle.turn_lock.specs.Seats.{first_of}
use Rattle.map_core.specs.State.{History}
use Rattle.store_core.specs.declared.sealed.GroupId.{GroupId}
use Rattle.world_core.specs.Moves.{AreGroupsOf, IsAt}
use Rattle.world_core.proofs.GroupsOf.{are_groups}
use Rattle.cluster.specs.declared.cluster.Cluster.{Cluster}
use Rattle.cluster.specs.Passes.{group_count, firsts_of}
use Rattle.cluster.specs.Asks.{IsBegun}

-- the groups that a cluster began with are those of the map of its start
pub groups_of_start : (c : Cluster) → IsBegun c → AreGroupsOf c.start (firsts_of c)
groups_of_start c b = subst (AreGroupsOf c.start) (sym b.groups) (subst (λ (h : History). AreGroupsOf h b.world.groups) b.map_is (are_groups b.world b.sound))

pub inside_count : (c : Cluster) (id : GroupId) (place : ℕ) → IsAt (firsts_of c) id place → place < group_count c
inside_count c id place at = subst (λ (n : ℕ). place < n) (length-map c.groups.items first_of) at.within
