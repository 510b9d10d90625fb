-- Statement: contracts of public calls use it.
-- The entities of two lists whose texts differ, as they were read, and what is printed of them (this project's profile).
use Rattle.std.specs.Prelude.{ℕ, ◌≡◌, List, [], ◌∷◌, ◌++◌, Bool, true, false, Option, Some, None, Ok, string_bytes}
use Rattle.std.specs.Option.{option_to_list}
use Rattle.std.specs.Str.{bytes_eq}
use Rattle.verdict_text.specs.Documents.{entities_by}
use Rattle.verdict_text.specs.EachTold.{AreAllTold}
use Rattle.verdict_text.specs.Named.{entity_in}
use Rattle.verdict_text.specs.Reading.{IsReading}
use Rattle.verdict_text.specs.declared.entity.Entity.{Entity}
use Rattle.verdict_text.specs.declared.reading.Rules.{Rules}
use Rattle.compare_text.specs.Entities.{AreTextsTold, nothing}
use Rattle.compare_text.specs.declared.comparison.Comparison.{Comparison}
use Rattle.compare_text.specs.declared.pairs.ReadPair.{ReadPair}
use Rattle.compare_text.specs.declared.relation.Presence.{Presence}
use Rattle.compare_text.specs.declared.relation.Presence.TheVariants.{Both, New, Gone}

-- each item in turn has what is found of it, or nothing
abbrev pub AreFoundOf : {X Y : Type 0} → (X → Option Y → Type 0) → List X → List Y → Type 0
AreFoundOf IsFound [] all = all ≡ []
AreFoundOf {X} {Y} IsFound (item ∷ items) all =
    (found : Option Y) × (others : List Y) × IsFound item found × AreFoundOf IsFound items others × (all ≡ option_to_list found ++ others)

-- the pair of an entity of this name
abbrev pub IsNamed : List ℕ → Presence → ReadPair → Type 0
IsNamed name presence pair = (pair.name.now ≡ name) × (pair.presence ≡ presence)

-- of an entity that both lists have, unless its texts are the same, byte for byte
abbrev pub IsBothPair : Bool → Rules → List ℕ → List ℕ → List ℕ → Option ReadPair → Type 0
IsBothPair true rules name old new found = found ≡ None
IsBothPair false rules name old new None = ⊥
IsBothPair false rules name old new (Some pair) = IsNamed name Both pair × IsReading rules old None pair.old × IsReading rules new None pair.new

-- of an entity of the old list, by what the new list has under its name
abbrev pub IsOldPairBy : Rules → Option Entity → Entity → Option ReadPair → Type 0
IsOldPairBy rules None entity None = ⊥
IsOldPairBy rules None entity (Some pair) = IsNamed (string_bytes entity.name) Gone pair × IsReading rules (string_bytes entity.osd) None pair.old × (pair.new ≡ Ok nothing)
IsOldPairBy rules (Some other) entity found =
    IsBothPair (bytes_eq (string_bytes entity.osd) (string_bytes other.osd)) rules (string_bytes entity.name) (string_bytes entity.osd) (string_bytes other.osd) found

abbrev pub IsOldPair : Rules → List Entity → Entity → Option ReadPair → Type 0
IsOldPair rules new entity found = IsOldPairBy rules (entity_in new (string_bytes entity.name)) entity found

-- of an entity of the new list, which has one where the old list lacks the entity
abbrev pub IsNewPairBy : Rules → Option Entity → Entity → Option ReadPair → Type 0
IsNewPairBy rules None entity None = ⊥
IsNewPairBy rules None entity (Some pair) = IsNamed (string_bytes entity.name) New pair × (pair.old ≡ Ok nothing) × IsReading rules (string_bytes entity.osd) None pair.new
IsNewPairBy rules (Some other) entity found = found ≡ None

abbrev pub IsNewPair : Rules → List Entity → Entity → Option ReadPair → Type 0
IsNewPair rules old entity found = IsNewPairBy rules (entity_in old (string_bytes entity.name)) entity found

-- the pairs of two lists: of the entities of the old list, then of those of the new list alone
pub record ArePairs (rules : Rules) (old new : List Entity) (pairs : List ReadPair) : Type 0 where
  pub of_old : List ReadPair
  pub of_new : List ReadPair
  pub are_old : AreFoundOf (IsOldPair rules new) old of_old
  pub are_new : AreFoundOf (IsNewPair rules old) new of_new
  pub whole : pairs ≡ of_old ++ of_new

-- what is printed of a pair, and whether it fails
abbrev pub IsReadPairTold : Comparison → ReadPair → List ℕ → Bool → Type 0
IsReadPairTold how pair text fails = AreTextsTold how pair.presence pair.name.now pair.old pair.new text fails

-- what is printed of some pairs, and whether the command fails
pub record ArePairsTold (how : Comparison) (pairs : List ReadPair) (text : List ℕ) (fails : Bool) : Type 0 where
  pub told : List ℕ
  pub each : AreAllTold (IsReadPairTold how) pairs told fails
  pub printed : text ≡ entities_by how.format told
