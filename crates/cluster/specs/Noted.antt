-- Statement: contracts of public calls use it.
-- Notes and news that passes are given.
use Rattle.std.specs.Prelude.{◌≡◌}
use Rattle.cluster.specs.declared.cluster.Cluster.{Cluster}
use Rattle.cluster.specs.declared.pass.Pass.{Pass}
use Rattle.cluster.specs.declared.notes.Note.{Note}
use Rattle.cluster.specs.Passes.{AreSeatsOf, HaveShare, SameSeats, TakeIn, heard_of}

-- a note of this cluster: its seats take no turns
abbrev pub IsNoteOf : Cluster → Note → Type 0
IsNoteOf c note = AreSeatsOf c note.seats × HaveShare 0 note.seats

-- what a note leaves of the pass that gave it: all
abbrev pub GaveNote : Pass → Pass → Type 0
GaveNote old new = SameSeats old.seats new.seats × (new.reader ≡ old.reader) × (new.sessions ≡ old.sessions)

-- the note tells all that the pass has seen of groups and users
abbrev pub TellsAllOf : Note → Pass → Type 0
TellsAllOf note pass = heard_of note.seats ≡ heard_of pass.seats

-- the pass has seen what it had seen and what the note tells; reader and sessions stay
abbrev pub HasReadNote : Note → Pass → Pass → Type 0
HasReadNote note old new = TakeIn old.seats note.seats new.seats × (new.reader ≡ old.reader) × (new.sessions ≡ old.sessions)
