-- Statement: contracts of public calls use it.
-- In what ways two share an object (this project's profile): what the one does, and what the other does, both at one target.
use Rattle.std.specs.Prelude.{ℕ, List, Bool, true, false, Option, Some, None, codes}
use Rattle.grant_core.specs.Flat.{Flat}
use Rattle.request_types.specs.Target.{Target}
use Rattle.share_core.specs.Sharing.{IsExampleIn, IsSharedObject, Share, ShareIn}
use Rattle.share_core.specs.declared.pools.Pool.{Pool}
use Rattle.share_core.specs.declared.touches.Touch.{Touch}
use Rattle.share_core.specs.declared.touches.Touch.TheVariants.{AnyRead, AnyWrite}
use Rattle.share_text.specs.declared.kind.Kind.{Kind}
use Rattle.share_text.specs.declared.kind.Kind.TheVariants.{WritesWrites, WritesReads, ReadsWrites, ReadsReads}

abbrev pub one_touch : Kind → Touch
one_touch WritesWrites = AnyWrite
one_touch WritesReads = AnyWrite
one_touch ReadsWrites = AnyRead
one_touch ReadsReads = AnyRead

abbrev pub other_touch : Kind → Touch
other_touch WritesWrites = AnyWrite
other_touch WritesReads = AnyRead
other_touch ReadsWrites = AnyWrite
other_touch ReadsReads = AnyRead

-- one of them writes
abbrev pub is_written : Kind → Bool
is_written WritesWrites = true
is_written WritesReads = true
is_written ReadsWrites = true
is_written ReadsReads = false

abbrev pub kind_words : Kind → List ℕ
kind_words WritesWrites = codes "writes writes"
kind_words WritesReads = codes "writes reads"
kind_words ReadsWrites = codes "reads writes"
kind_words ReadsReads = codes "reads reads"

-- at this target, which is an object and no listing
abbrev pub IsSharedSo : Kind → Flat → Flat → Target → Type 0
IsSharedSo kind ones others target = IsSharedObject ones (one_touch kind) others (other_touch kind) target

-- at some target
abbrev pub ShareSo : Kind → Flat → Flat → Type 0
ShareSo kind ones others = Share ones (one_touch kind) others (other_touch kind)

-- The same where pools are given, whose targets alone count, each pool with exactly its tags. Without them each target counts
-- that can be.

abbrev pub ShareWithin : Option (List Pool) → Kind → Flat → Flat → Type 0
ShareWithin None kind ones others = ShareSo kind ones others
ShareWithin (Some pools) kind ones others = ShareIn pools ones (one_touch kind) others (other_touch kind)

-- a target that counts: where pools are given, one of the first pool in which they share so
abbrev pub IsSharedWithin : Option (List Pool) → Kind → Flat → Flat → Target → Type 0
IsSharedWithin None kind ones others target = IsSharedSo kind ones others target
IsSharedWithin (Some pools) kind ones others target = IsExampleIn pools ones (one_touch kind) others (other_touch kind) (Some target)
