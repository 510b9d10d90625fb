-- Refinement: only contracts inside the crate use it.
-- What a fit finds before the log is changed: entries that are decided on some of the log's objects, and what becomes of all.
use Rattle.std.specs.Prelude.{◌≡◌, List, Option, Some, None}
use Rattle.store_core.specs.Request.{Sealed}
use Rattle.store_core.specs.Store.{Store, ObjectName}
use Rattle.store_core.specs.Deciding.{store_of, name_of}
use Rattle.store_core.specs.Objects.{changed, all_changed, AlikeFor, change_of}
use Rattle.entry_core.specs.Stored.{LeadsBack}
use Rattle.store_core.specs.declared.entry.Entry.{Entry}
use Rattle.store_core.specs.declared.decided.NamedChange.{NamedChange}
use Rattle.store_core.specs.declared.decided.ObjectChange.{ObjectChange}
use Rattle.entry_core.specs.declared.draft.Draft.{Draft}

-- this change, if there is one, leads from a store back to another
abbrev pub Undoes : Store → Store → ObjectName → Option ObjectChange → Type 0
Undoes after before name None = Unit {0}
Undoes after before name (Some undo) = changed after name (change_of undo) ≡ before

-- these changes make the objects of a log those of a new one, from whose last entry this leads back
pub record IsFound (log new : List Entry) (changes : List NamedChange) (back : Option ObjectChange) : Type 0 where
  pub made : all_changed (store_of log) changes ≡ store_of new
  pub leads : LeadsBack new back

-- a draft that leads from a log to a new one, and whose objects are alike for the requests that are still to come
pub record IsDraft (log new : List Entry) (part : List Sealed) (d : Draft) : Type 0 where
  pub found : IsFound log new d.changes.items d.back
  pub alike : AlikeFor d.objects (store_of new) part
