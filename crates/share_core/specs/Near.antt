-- Statement: contracts of public calls use it.
-- Which tickets of a list have to be looked at to see what they share with a ticket (this project's profile).
use Rattle.std.specs.Prelude.{ℕ, ◌≡◌, ◌⊎◌, ◌<◌, ◌≤◌, List, length, Some}
use Rattle.std.specs.List.{All, Contains, slice_get}
use Rattle.std.specs.List.Sorted.{IsStrictlyIncreasing}
use Rattle.grant_core.specs.Flat.{Flat}
use Rattle.share_core.specs.Sharing.{Share, ShareIn}
use Rattle.share_core.specs.declared.pools.Pool.{Pool}
use Rattle.share_core.specs.declared.touches.Touch.{Touch}

-- two lists of grants share nothing, in whatever ways they touch, whichever of them stands first: no target at all, and none
-- of any pools that are given
pub record AreApart (ones others : Flat) : Type 0 where
  pub anywhere : (one other : Touch) → (¬ Share ones one others other) × (¬ Share others other ones one)
  pub in_pools : (pools : List Pool) (one other : Touch) → (¬ ShareIn pools ones one others other) × (¬ ShareIn pools others other ones one)

-- of the tickets from one place on, only those are left out with which the grants share nothing
abbrev pub LeaveOutApart : Flat → List Flat → ℕ → List ℕ → Type 0
LeaveOutApart grants tickets from places = (place : ℕ) (other : Flat) → slice_get tickets place ≡ Some other → from ≤ place → Contains places place ⊎ AreApart grants other

-- Places of tickets, each below the next and none before the first that is asked for, which have all with which the grants
-- share something. One among them may share nothing, too.
pub record AreNear (grants : Flat) (tickets : List Flat) (from : ℕ) (places : List ℕ) : Type 0 where
  pub rising : IsStrictlyIncreasing places
  pub inside : All (λ place. (from ≤ place) × (place < length tickets)) places
  pub others : LeaveOutApart grants tickets from places
