-- Statement: contracts of public calls use it.
-- Laws of parts and fitting.
use Rattle.std.specs.Prelude.{◌≡◌, ℕ, ◌≤◌, Some, List, [], ◌∷◌, ◌++◌, length}
use Rattle.store_core.specs.Request.{Sealed}
use Rattle.entry_core.specs.Log.{Legal}
use Rattle.entry_core.specs.Fitting.{part_of, fitted}
use Rattle.store_core.specs.declared.entry.Entry.{Entry}

-- where both go on with a request of one number, it is one request
abbrev pub SameNext : List Entry → List Entry → Type 0
SameNext [] more = Unit {0}
SameNext (e ∷ es) [] = Unit {0}
SameNext (e ∷ es) (f ∷ more) = e.sealed.id ≡ f.sealed.id → e.sealed ≡ f.sealed

-- two logs begin alike, this far at least, and behind that the first has one entry at most
pub record NearlyBegins (mine other : List Entry) (from : ℕ) : Type 0 where
  pub front : List Entry
  pub last : List Entry
  pub behind : List Entry
  pub mine_is : front ++ last ≡ mine
  pub other_is : front ++ behind ≡ other
  pub one : length last ≤ 1
  pub within : from ≤ length front
  pub same : SameNext last behind

-- a legal log that is fitted to the part of another, with which it nearly begins, becomes the other
abbrev pub FitGivesTheLog : Type 0
FitGivesTheLog = (mine other : List Entry) (from : ℕ) → Legal mine → Legal other → NearlyBegins mine other from → fitted mine from (part_of other from) ≡ Some other

-- an empty part behind a log changes nothing
abbrev pub FitOfNothing : Type 0
FitOfNothing = (log : List Entry) → fitted log (length log) [] ≡ Some log

-- a legal log stays legal
abbrev pub FittedIsLegal : Type 0
FittedIsLegal = (log : List Entry) (from : ℕ) (part : List Sealed) (new : List Entry) → Legal log → fitted log from part ≡ Some new → Legal new
