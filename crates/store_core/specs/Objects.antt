-- Statement: contracts of public calls use it.
-- The objects that a store keeps in code, how they change, and for which requests two stores are alike.
use Rattle.std.specs.Prelude.{◌≡◌, List, [], ◌∷◌, Option, Some, None, map}
use Rattle.std.specs.Arc.{arc_value}
use Rattle.std.specs.FinMap.{from_entries, get}
use Rattle.std.specs.Option.{option_map}
use Rattle.std.specs.declared.alloc.Global.{Global}
use Rattle.std.specs.declared.sync.Arc.{Arc}
use Rattle.object_core.specs.Content.{Content}
use Rattle.object_core.specs.declared.outcome.Change.{Change}
use Rattle.object_core.specs.declared.outcome.Change.TheVariants as change
use Rattle.store_core.specs.Request.{Sealed, Work, Vector, Listing}
use Rattle.store_core.specs.Store.{Store, ObjectName, with_object}
use Rattle.store_core.specs.Deciding.{Decision, name_of}
use Rattle.store_core.specs.declared.entry.Entry.{Entry}
use Rattle.store_core.specs.declared.decided.NamedChange.{NamedChange}
use Rattle.store_core.specs.declared.decided.ObjectChange.{ObjectChange}
use Rattle.store_core.specs.declared.decided.ObjectChange.TheVariants as left

abbrev pub StoredObjects : Type 0
StoredObjects = List (ObjectName × Arc Content Global)

-- the objects of a hash map, whatever their order there
abbrev pub objects_of : StoredObjects → Store
objects_of entries = from_entries (map (λ e. (e.0, arc_value e.1)) entries)

-- what is left of the object
abbrev pub change_of : ObjectChange → Change
change_of left.Kept = change.Kept
change_of (left.Became object) = change.Became (option_map arc_value object)

abbrev pub decided_of : Entry → ObjectChange → Decision
decided_of entry left = record { entry = entry; change = change_of left }

-- a store after a change of one object
abbrev pub changed : Store → ObjectName → Change → Store
changed store name change.Kept = store
changed store name (change.Became object) = with_object store name object

-- a store after changes, one after another
abbrev pub all_changed : Store → List NamedChange → Store
all_changed store [] = store
all_changed store (c ∷ changes) = all_changed (changed store c.name (change_of c.left)) changes

-- two stores are alike for this work: they hold the same at its object, and for a listing they are the same
abbrev pub AlikeAt : Store → Store → ObjectName → Work → Type 0
AlikeAt a b name (Vector object ops) = get a name ≡ get b name
AlikeAt a b name Listing = a ≡ b

-- two stores are alike for requests
abbrev pub AlikeFor : Store → Store → List Sealed → Type 0
AlikeFor a b [] = Unit {0}
AlikeFor a b (s ∷ part) = AlikeAt a b (name_of s) s.work × AlikeFor a b part
