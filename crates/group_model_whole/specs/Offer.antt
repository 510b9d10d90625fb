-- Refinement: only contracts inside the crate use it.
-- What a copy that was heard stands for.
use Rattle.std.specs.Prelude.{ℕ, ◌≡◌, ◌≤◌, ◌<◌, List, length, Some}
use Rattle.store_core.specs.declared.entry.Entry.{Entry}
use Rattle.group_model_whole.specs.Types.{PeerInfo}
use Rattle.group_model_whole.specs.History.{Begins, History}

-- what a copy told on behalf of interval n: its daemon promised interval n, and had then of each earlier interval's log no more than it told
pub record IsTold (promise : ℕ → ℕ) (h : History) (n : ℕ) (i : PeerInfo) : Type 0 where
  pub moved : n ≤ promise i.number
  pub reach : i.base ≤ n
  pub source : List Entry
  pub source_is : h.chosen i.base ≡ Some source
  pub begins : Begins source i.log
  pub within : Begins i.log (h.grown i.base)
  pub most : (j k : ℕ) → j < n → h.held i.number j ≡ Some k → (j ≤ i.base) × (j ≡ i.base → k ≤ length i.log)

-- the same, of a base before n
pub record IsOffer (promise : ℕ → ℕ) (h : History) (n : ℕ) (i : PeerInfo) : Type 0 where
  pub moved : n ≤ promise i.number
  pub below : i.base < n
  pub source : List Entry
  pub source_is : h.chosen i.base ≡ Some source
  pub begins : Begins source i.log
  pub within : Begins i.log (h.grown i.base)
  pub most : (j k : ℕ) → j < n → h.held i.number j ≡ Some k → (j ≤ i.base) × (j ≡ i.base → k ≤ length i.log)
