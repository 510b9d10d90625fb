-- Statement: contracts of public calls use it.
-- What is printed of two lists of entities, an old and a new one: whose rights change by a set of rules, and how (this project's
-- profile).
-- Every line ends with byte 10.
use Rattle.std.specs.Prelude.{ℕ, ◌≡◌, ◌&&◌, ◌||◌, List, [], ◌∷◌, ◌++◌, Bool, true, false, Option, Some, None, Result, Ok, Err, codes, string_bytes}
use Rattle.std.specs.Str.{bytes_eq}
use Rattle.rights_core.specs.Rights.{NetworkGrant, Rights}
use Rattle.serde_json.specs.Data.{Data, object, string, member, no_members}
use Rattle.verdict_text.specs.ShownName.{shown_name}
use Rattle.verdict_text.specs.EachTold.{AreAllTold}
use Rattle.verdict_text.specs.Named.{entity_in}
use Rattle.compare_text.specs.Relation.{is_wider, word_of}
use Rattle.compare_text.specs.Request.{indented_lines}
use Rattle.verdict_text.specs.Reading.{IsReading, Reading, fault_byte, fault_number, fault_text}
use Rattle.compare_text.specs.Addresses.{AnswersFrom}
use Rattle.compare_text.specs.Compared.{IsRelation, examples_document}
use Rattle.verdict_text.specs.Documents.{entities_by, fault_value, piece}
use Rattle.compare_text.specs.declared.comparison.Comparison.{Comparison}
use Rattle.verdict_text.specs.declared.format.Format.{Format}
use Rattle.verdict_text.specs.declared.format.Format.TheVariants.{Text, Json}
use Rattle.verdict_text.specs.declared.entity.Entity.{Entity}
use Rattle.compare_text.specs.declared.relation.Relation.{Relation}
use Rattle.compare_text.specs.declared.widening.AddressedExample.{AddressedExample}
use Rattle.verdict_text.specs.declared.reading.Rules.{Rules}
use Rattle.verdict_text.specs.declared.reading.TextFault.{TextFault}
use Rattle.compare_text.specs.declared.relation.Presence.{Presence}
use Rattle.compare_text.specs.declared.relation.Presence.TheVariants.{Both, New, Gone}

-- a line, and below it the examples, indented; without a word there is nothing
abbrev pub change_lines : List ℕ → Option (List ℕ) → List AddressedExample → List AddressedExample → List ℕ
change_lines name None gained lost = []
change_lines name (Some word) gained lost = shown_name name ++ (codes " " ++ (word ++ (codes "\n" ++ indented_lines gained lost)))

-- what became of the text of an entity that is not checked
abbrev pub became : Presence → List ℕ
became Both = codes "text changed"
became New = codes "new"
became Gone = codes "gone"

-- the line of an entity of which a text has no grants here: the number of the fault, and what became of the text
abbrev pub unjudged_line : List ℕ → Presence → TextFault → List ℕ
unjudged_line name presence fault =
    shown_name name ++ (codes " not checked: " ++ (fault_number fault ++ (codes ", " ++ (became presence ++ codes "\n"))))

-- the same as a piece of a document
abbrev pub change_document : List ℕ → List ℕ → List AddressedExample → List AddressedExample → Data
change_document name word gained lost =
    object
    (member (codes "change") (string word)
    (member (codes "entity") (string name) (member (codes "gained") (examples_document gained) (member (codes "lost") (examples_document lost) no_members))))

abbrev pub change_piece : List ℕ → Option (List ℕ) → List AddressedExample → List AddressedExample → List ℕ
change_piece name None gained lost = []
change_piece name (Some word) gained lost = piece (change_document name word gained lost)

abbrev pub change_by : Format → List ℕ → Option (List ℕ) → List AddressedExample → List AddressedExample → List ℕ
change_by Text name word gained lost = change_lines name word gained lost
change_by Json name word gained lost = change_piece name word gained lost

-- the whole fault
abbrev pub unjudged_document : List ℕ → Presence → TextFault → Data
unjudged_document name presence fault =
    object (member (codes "change") (string (became presence)) (member (codes "entity") (string name) (member (codes "fault") (fault_value (fault_text fault) (fault_byte fault)) no_members)))

abbrev pub unjudged_by : Format → List ℕ → Presence → TextFault → List ℕ
unjudged_by Text name presence fault = unjudged_line name presence fault
unjudged_by Json name presence fault = piece (unjudged_document name presence fault)

-- How the rights of an entity change. It fails where a check was asked for and the new grants allow what the old ones deny.
pub record IsChangeTold (how : Comparison) (presence : Presence) (name : List ℕ) (old new : List NetworkGrant) (text : List ℕ) (fails : Bool) : Type 0 where
  pub relation : Relation
  pub gained : List AddressedExample
  pub lost : List AddressedExample
  pub stands : IsRelation how.registry old new relation
  pub gains : AnswersFrom how.registry old new gained
  pub loses : AnswersFrom how.registry new old lost
  pub printed : text ≡ change_by how.format name (word_of presence relation) gained lost
  pub ends : fails ≡ (how.check && is_wider relation)

-- a text grants nothing, which fails
abbrev pub IsUnjudgedTold : Format → Presence → List ℕ → TextFault → List ℕ → Bool → Type 0
IsUnjudgedTold format presence name fault text fails = (text ≡ unjudged_by format name presence fault) × (fails ≡ true)

-- an entity with old grants and a new text that was read
abbrev pub IsNewTextTold : Comparison → Presence → List ℕ → List NetworkGrant → Reading → List ℕ → Bool → Type 0
IsNewTextTold how presence name old (Ok rights) text fails = IsChangeTold how presence name old rights.grants text fails
IsNewTextTold how presence name old (Err fault) text fails = IsUnjudgedTold how.format presence name fault text fails

-- an entity with two texts that were read, of which the old one's fault comes first
abbrev pub AreTextsTold : Comparison → Presence → List ℕ → Reading → Reading → List ℕ → Bool → Type 0
AreTextsTold how presence name (Ok rights) new text fails = IsNewTextTold how presence name rights.grants new text fails
AreTextsTold how presence name (Err fault) new text fails = IsUnjudgedTold how.format presence name fault text fails

-- what is printed of an entity with an old and a new text
abbrev pub IsPairTold : Rules → Comparison → List ℕ → List ℕ → List ℕ → List ℕ → Bool → Type 0
IsPairTold rules how name old new text fails =
    (old_read new_read : Reading) × IsReading rules old None old_read × IsReading rules new None new_read × AreTextsTold how Both name old_read new_read text fails

-- Nothing is printed of an entity whose texts are the same, byte for byte: every reader gives them the same rights.
abbrev pub IsBothTold : Bool → Rules → Comparison → List ℕ → List ℕ → List ℕ → List ℕ → Bool → Type 0
IsBothTold true rules how name old new text fails = (text ≡ []) × (fails ≡ false)
IsBothTold false rules how name old new text fails = IsPairTold rules how name old new text fails

-- the rights of an entity that a list does not have
abbrev pub nothing : Rights
nothing = record { grants = []; until = None }

-- an entity of the old list, by what the new list has under its name; one that is gone has no rights any more
abbrev pub IsOldToldBy : Rules → Comparison → Option Entity → Entity → List ℕ → Bool → Type 0
IsOldToldBy rules how None entity text fails =
    (read : Reading) × IsReading rules (string_bytes entity.osd) None read × AreTextsTold how Gone (string_bytes entity.name) read (Ok nothing) text fails
IsOldToldBy rules how (Some other) entity text fails =
    IsBothTold (bytes_eq (string_bytes entity.osd) (string_bytes other.osd)) rules how (string_bytes entity.name) (string_bytes entity.osd) (string_bytes other.osd) text fails

abbrev pub IsOldTold : Rules → Comparison → List Entity → Entity → List ℕ → Bool → Type 0
IsOldTold rules how new entity text fails = IsOldToldBy rules how (entity_in new (string_bytes entity.name)) entity text fails

-- an entity of the new list, by what the old list has under its name: a new one had no rights, and nothing more is
-- printed of one that the old list has
abbrev pub IsNewToldBy : Rules → Comparison → Option Entity → Entity → List ℕ → Bool → Type 0
IsNewToldBy rules how None entity text fails =
    (read : Reading) × IsReading rules (string_bytes entity.osd) None read × AreTextsTold how New (string_bytes entity.name) (Ok nothing) read text fails
IsNewToldBy rules how (Some other) entity text fails = (text ≡ []) × (fails ≡ false)

abbrev pub IsNewTold : Rules → Comparison → List Entity → Entity → List ℕ → Bool → Type 0
IsNewTold rules how old entity text fails = IsNewToldBy rules how (entity_in old (string_bytes entity.name)) entity text fails

-- what is printed of two lists, and whether it fails: the entities of the old list, then those of the new list alone
pub record AreListsTold (rules : Rules) (how : Comparison) (old new : List Entity) (text : List ℕ) (fails : Bool) : Type 0 where
  pub old_text : List ℕ
  pub new_text : List ℕ
  pub old_fails : Bool
  pub new_fails : Bool
  pub old_told : AreAllTold (IsOldTold rules how new) old old_text old_fails
  pub new_told : AreAllTold (IsNewTold rules how old) new new_text new_fails
  pub whole : text ≡ old_text ++ new_text
  pub ends : fails ≡ (old_fails || new_fails)

-- what is printed of two lists, and whether the command fails
pub record IsEntitiesAnswer (rules : Rules) (how : Comparison) (old new : List Entity) (text : List ℕ) (fails : Bool) : Type 0 where
  pub told : List ℕ
  pub lists : AreListsTold rules how old new told fails
  pub printed : text ≡ entities_by how.format told
