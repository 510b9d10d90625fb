-- Statement: contracts of public calls use it.
-- How the program tells effects: a change that was not made stands for the object that was given.
use Rattle.std.specs.Prelude.{ℕ, Option, Result, Ok, Err}
use Rattle.object_core.specs.Content.{Content}
use Rattle.object_core.specs.Operations.{Changed, Run}
use Rattle.object_core.specs.declared.outcome.Change.{Change}
use Rattle.object_core.specs.declared.outcome.Change.TheVariants as change
use Rattle.object_core.specs.declared.outcome.Outcome.{Outcome}
use Rattle.object_core.specs.declared.outcome.Outcome.TheVariants.{Done, Failed}

-- the object after a change to a given one
abbrev pub after : Option Content → Change → Option Content
after given change.Kept = given
after given (change.Became object) = object

abbrev pub told_change : Option Content → Result Change ℕ → Changed
told_change given (Ok change) = Ok (after given change)
told_change given (Err number) = Err number

-- the run that an outcome tells
abbrev pub told : Option Content → Outcome → Run
told given (Done outputs object) = Ok (outputs, after given object)
told given (Failed place number) = Err (place, number)
