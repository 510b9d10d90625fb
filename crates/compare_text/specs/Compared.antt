-- Statement: contracts of public calls use it.
-- What is printed of two capability texts: which allows more, and an example for each grant that does (this project's
-- profile).
use Rattle.std.specs.Prelude.{ℕ, ◌≡◌, ◌&&◌, List, [], ◌∷◌, ◌++◌, Bool, true, false, None, Result, Ok, Err, codes, map}
use Rattle.grant_core.specs.Text.{printed_path}
use Rattle.compare_core.specs.declared.registry.Registry.{Registry}
use Rattle.rights_core.specs.Rights.{NetworkGrant}
use Rattle.serde_json.specs.Data.{Data, array, object, string, member, no_members}
use Rattle.serde_json.specs.View.{items_of}
use Rattle.verdict_text.specs.Documents.{fault_value, json_line}
use Rattle.compare_text.specs.Addresses.{AnswersFrom, WidensFrom}
use Rattle.compare_text.specs.Relation.{is_wider, relation_word}
use Rattle.compare_text.specs.Request.{example_lines}
use Rattle.compare_text.specs.RequestDocument.{addressed_document}
use Rattle.verdict_text.specs.declared.format.Format.{Format}
use Rattle.verdict_text.specs.declared.format.Format.TheVariants.{Text, Json}
use Rattle.compare_text.specs.declared.relation.Relation.{Relation}
use Rattle.compare_text.specs.declared.relation.Relation.TheVariants.{Same, Narrower, Wider, Different}
use Rattle.compare_text.specs.declared.comparison.Comparison.{Comparison}
use Rattle.compare_text.specs.declared.compare.Change.{Change}
use Rattle.compare_text.specs.declared.widening.AddressedExample.{AddressedExample}
use Rattle.verdict_text.specs.Reading.{IsReading, Reading, fault_byte, fault_text, refused_side}
use Rattle.verdict_text.specs.declared.reading.Rules.TheVariants.{Project}
use Rattle.verdict_text.specs.declared.reading.TextFault.{TextFault}

-- How new rights stand to old ones, over a class registry or all: by what only the new allow from some address, and what only
-- the old allow from some address.
abbrev pub IsRelation : Registry → List NetworkGrant → List NetworkGrant → Relation → Type 0
IsRelation registry old new Same = (¬ WidensFrom registry old new) × (¬ WidensFrom registry new old)
IsRelation registry old new Narrower = (¬ WidensFrom registry old new) × WidensFrom registry new old
IsRelation registry old new Wider = WidensFrom registry old new × (¬ WidensFrom registry new old)
IsRelation registry old new Different = WidensFrom registry old new × WidensFrom registry new old

abbrev pub is_any : List AddressedExample → Bool
is_any [] = false
is_any (found ∷ examples) = true

-- the examples of both ways
pub record IsChange (registry : Registry) (old new : List NetworkGrant) (change : Change) : Type 0 where
  pub gains : AnswersFrom registry old new change.gained.items
  pub loses : AnswersFrom registry new old change.lost.items

-- the first line is the relation, and each grant that by itself allows more has a line with its example
abbrev pub compared_text : Relation → List AddressedExample → List AddressedExample → List ℕ
compared_text relation gained lost = relation_word relation ++ (codes "\n" ++ example_lines gained lost)

-- an example's request, and the path of its grant
abbrev pub example_document : AddressedExample → Data
example_document found =
    object (member (codes "example") (addressed_document found) (member (codes "path") (string (printed_path found.example.path)) no_members))

abbrev pub examples_document : List AddressedExample → Data
examples_document examples = array (items_of (map example_document examples))

abbrev pub compared_document : Relation → List AddressedExample → List AddressedExample → Data
compared_document relation gained lost =
    object
    (member (codes "gained") (examples_document gained) (member (codes "lost") (examples_document lost) (member (codes "relation") (string (relation_word relation)) no_members)))

-- the same as a text or as a document
abbrev pub compared_by : Format → Relation → List AddressedExample → List AddressedExample → List ℕ
compared_by Text relation gained lost = compared_text relation gained lost
compared_by Json relation gained lost = json_line (compared_document relation gained lost)

-- The relation is printed, and an example for each grant that by itself allows more. It fails where a check was asked for and
-- the new grants allow what the old ones deny.
pub record IsCompared (how : Comparison) (old new : List NetworkGrant) (text : List ℕ) (fails : Bool) : Type 0 where
  pub relation : Relation
  pub gained : List AddressedExample
  pub lost : List AddressedExample
  pub stands : IsRelation how.registry old new relation
  pub gains : AnswersFrom how.registry old new gained
  pub loses : AnswersFrom how.registry new old lost
  pub printed : text ≡ compared_by how.format relation gained lost
  pub ends : fails ≡ (how.check && is_wider relation)

-- the fault of a side
abbrev pub side_document : List ℕ → TextFault → Data
side_document side fault =
    object (member (codes "fault") (fault_value (fault_text fault) (fault_byte fault)) (member (codes "side") (string side) no_members))

abbrev pub side_by : Format → List ℕ → TextFault → List ℕ
side_by Text side fault = refused_side side fault
side_by Json side fault = json_line (side_document side fault)

-- a side grants nothing, which fails
abbrev pub IsSideRefused : Format → List ℕ → TextFault → List ℕ → Bool → Type 0
IsSideRefused format side fault text fails = (text ≡ side_by format side fault) × (fails ≡ true)

-- a new text that was read, beside old grants
abbrev pub IsNewCompared : Comparison → List NetworkGrant → Reading → List ℕ → Bool → Type 0
IsNewCompared how old (Ok rights) text fails = IsCompared how old rights.grants text fails
IsNewCompared how old (Err fault) text fails = IsSideRefused how.format (codes "new") fault text fails

-- two texts that were read, of which the old one's fault comes first
abbrev pub AreCompared : Comparison → Reading → Reading → List ℕ → Bool → Type 0
AreCompared how (Ok rights) new text fails = IsNewCompared how rights.grants new text fails
AreCompared how (Err fault) new text fails = IsSideRefused how.format (codes "old") fault text fails

-- what is printed of two texts, and whether the command fails
abbrev pub IsCompareAnswer : Comparison → List ℕ → List ℕ → List ℕ → Bool → Type 0
IsCompareAnswer how old new text fails =
    (old_read new_read : Reading) × IsReading Project old None old_read × IsReading Project new None new_read × AreCompared how old_read new_read text fails
