-- Statement: contracts of public calls use it.
-- What happened in a group's intervals so far. Nothing reads it: it stands beside the group in proofs.
use Rattle.std.specs.Prelude.{ℕ, ◌≡◌, ◌≤◌, ◌<◌, ◌-◌, ◌⊎◌, true, List, [], ◌++◌, length, take, Option, Some, None}
use Rattle.entry_core.specs.Log.{is_in, Legal}
use Rattle.store_core.specs.declared.entry.Entry.{Entry}
use Rattle.group_model_whole.specs.ActingSets.{set_of, is_primary}

-- the first list is the beginning of the second
pub record Begins (xs ys : List Entry) : Type 0 where
  pub rest : List Entry
  pub whole : xs ++ rest ≡ ys

pub record History : Type 0 where
  pub chosen : ℕ → Option (List Entry)  -- the log that an interval began with, once it was chosen
  pub grown : ℕ → List Entry  -- that log with all that its primary pushed since
  pub basis : ℕ → ℕ  -- the base of the copy whose log was chosen
  pub held : ℕ → ℕ → Option ℕ  -- of a daemon and an interval: how much of its log the daemon held while that was its base

-- the daemon held at least k entries of interval n's log
pub record Held (h : History) (m n k : ℕ) : Type 0 where
  pub most : ℕ
  pub is : h.held m n ≡ Some most
  pub enough : k ≤ most

-- each member of set n held k entries of its log
pub record IsDecided (sets : List (List ℕ)) (h : History) (n k : ℕ) : Type 0 where
  pub log : List Entry
  pub begun : h.chosen n ≡ Some log
  pub later : 1 ≤ n
  pub by_all : (m : ℕ) → is_in (set_of sets n) m ≡ true → Held h m n k

-- all but the last
abbrev pub but_last : List Entry → List Entry
but_last es = take (length es - 1) es

-- these entries were decided in that interval or before
pub record IsFront (sets : List (List ℕ)) (h : History) (n : ℕ) (es : List Entry) : Type 0 where
  pub at : ℕ
  pub upto : at ≤ n
  pub begins : Begins es (h.grown at)
  pub decided : IsDecided sets h at (length es)

abbrev pub IsSettled : List (List ℕ) → History → ℕ → List Entry → Type 0
IsSettled sets h n es = (es ≡ []) ⊎ IsFront sets h n es

-- a member of set j that promised interval n, and by then held of interval j's log only what the chosen log has
pub record Witness (promise : ℕ → ℕ) (sets : List (List ℕ)) (h : History) (n basis : ℕ) (log : List Entry) (j : ℕ) : Type 0 where
  pub member : ℕ
  pub is_member : is_in (set_of sets j) member ≡ true
  pub moved : n ≤ promise member
  pub most : (k : ℕ) → h.held member j ≡ Some k → (j ≡ basis) × (k ≤ length log)

-- interval n began with this log, which was chosen from a copy of that base
pub record IsOpened (promise : ℕ → ℕ) (min_size : ℕ) (sets : List (List ℕ)) (h : History) (n basis : ℕ) (log : List Entry) : Type 0 where
  pub is_interval : n ≤ length sets
  pub members : min_size ≤ length (set_of sets n)
  pub below : basis < n
  pub source : List Entry
  pub source_is : h.chosen basis ≡ Some source
  pub begins : Begins source log
  pub within : Begins log (h.grown basis)
  pub led : (d : ℕ) → is_primary (set_of sets n) d ≡ true → n ≤ promise d
  pub witness : (j : ℕ) → 1 ≤ j → basis ≤ j → j < n → min_size ≤ length (set_of sets j) → Witness promise sets h n basis log j

pub record IsSound (promise : ℕ → ℕ) (min_size : ℕ) (sets : List (List ℕ)) (h : History) : Type 0 where
  pub zero : h.chosen 0 ≡ Some []
  pub zero_grown : h.grown 0 ≡ []
  pub legal : (n : ℕ) → Legal (h.grown n)
  pub empty : (n : ℕ) → h.chosen n ≡ None → h.grown n ≡ []
  pub grows : (n : ℕ) (log : List Entry) → h.chosen n ≡ Some log → Begins log (h.grown n)
  pub opened : (n : ℕ) (log : List Entry) → 1 ≤ n → h.chosen n ≡ Some log → IsOpened promise min_size sets h n (h.basis n) log
  pub but_one : (n : ℕ) → IsSettled sets h n (but_last (h.grown n))
