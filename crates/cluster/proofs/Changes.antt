-- How a change of the map begins, and how it is refused after looks.
use Rattle.std.proofs.Common.{◌≡◌, ℕ, false, true, List, refl, sym, ap, ◌∙◌, subst, arith}
use Rattle.std.specs.Prelude.{Option, Some, None, IsNone, unwrap_or, is_some}
use Rattle.map_core.specs.State.{History}
use Rattle.map_core.specs.declared.command.MapCommand.{MapCommand}
use Rattle.map_core.specs.declared.fault.MapFault.{MapFault}
use Rattle.map_core.specs.declared.fault.MapFault.TheVariants as map_fault
use Rattle.store_core.specs.declared.sealed.GroupId.{GroupId}
use Rattle.cluster.specs.declared.cluster.Cluster.{Cluster}
use Rattle.cluster.specs.declared.cluster.Seats.{Seats}
use Rattle.cluster.specs.declared.monitor.Monitor.{Monitor}
use Rattle.cluster.specs.declared.monitor.Unfinished.{Unfinished}
use Rattle.cluster.specs.declared.monitor.Unfinished.TheVariants.{Left}
use Rattle.published_map.specs.Published.{with_command}
use Rattle.cluster.specs.Passes.{AreMonitorOf, group_count}
use Rattle.cluster.specs.GroupMoves.{HaveLooked, SomeFull}
use Rattle.cluster.specs.Monitors.{IsMonitorOf, IsOverfull, IsRefused, OnlyLooked, StandsBy, change_refusal, left_with, published_of, waiting_of}

-- with seats that only looked, and a map that is still the same
abbrev looked_with : Monitor → History → Seats → Monitor
looked_with old now seats = record old { map = now; seats = seats }

pub still_own : (c : Cluster) (old : Monitor) (now : History) (seats : Seats) → now ≡ old.map → IsMonitorOf c old → AreMonitorOf c seats → IsMonitorOf c (looked_with old now seats)
still_own c old now seats same own are = record {
  seats = are;
  places = own.places;
  stands = subst (λ (h : History). StandsBy old.unfinished (group_count c) h (published_of old) (waiting_of old)) (sym same) own.stands;
  knows = own.knows;
}

pub only_looked : (old : Monitor) (now : History) (seats : Seats) → now ≡ old.map → HaveLooked old.seats seats → OnlyLooked old (looked_with old now seats)
only_looked old now seats same looked = record { rest = λ i. looked_with old (same i) seats; looked = looked }

pub refused_for_want : (command : MapCommand) (old new : Monitor) → change_refusal old.map command ≡ None → OnlyLooked old new → IsRefused command map_fault.OutOfMemory old new
refused_for_want command old new free looked = record {
  fault_is = sym (ap (λ (f : Option MapFault). unwrap_or f map_fault.OutOfMemory) free);
  looked = looked;
  same = λ some. let e : false ≡ true = sym (ap is_some free) ∙ some in absurd (cc);
}

pub overfull : (c : Cluster) (command : MapCommand) (old : Monitor) (seats : Seats) (places : List GroupId) → change_refusal old.map command ≡ None → places ≡ old.places.items → HaveLooked old.seats seats
    → SomeFull c old.map command places old.seats seats → IsOverfull c command old (looked_with old old.map seats)
overfull c command old seats places free same looked full = record {
  free = free;
  looked = only_looked old old.map seats refl looked;
  full = subst (λ (l : List GroupId). SomeFull c old.map command l old.seats seats) same full;
}

stands_begun : (u : Option Unfinished) (count : ℕ) (before shown now : History) (waiting : List MapCommand) (command kept : MapCommand) → IsNone u → StandsBy u count before shown waiting → kept ≡ command
    → now ≡ with_command before command → StandsBy (Some (Left kept 0)) count now shown waiting
stands_begun None count before shown now waiting command kept none h same is = (omega arith, h.1, is ∙ λ i. with_command (sym h.0 i) (sym same i))
stands_begun (Some x) count before shown now waiting command kept none h same is = absurd (cc)

-- the monitor of a change that begins
pub owns_begun : (c : Cluster) (command kept : MapCommand) (old : Monitor) (now : History) (seats : Seats) → IsMonitorOf c old → IsNone old.unfinished → AreMonitorOf c seats → kept ≡ command
    → now ≡ with_command old.map command → IsMonitorOf c (left_with kept 0 (looked_with old now seats))
owns_begun c command kept old now seats own whole are same is = record {
  seats = are;
  places = own.places;
  stands = stands_begun old.unfinished (group_count c) old.map (published_of old) now (waiting_of old) command kept whole own.stands same is;
  knows = own.knows;
}
