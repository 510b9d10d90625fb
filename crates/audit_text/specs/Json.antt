-- Statement: contracts of public calls use it.
-- What entities reach, as a JSON document (this project's profile): a line without blanks, whose members are in the order of
-- their names. The cells of an entity are in the order of the pools.
use Rattle.std.specs.Prelude.{ℕ, ◌≡◌, ◌==◌, List, [], ◌∷◌, ◌++◌, Result, Ok, Err, codes, flat_map, map, string_bytes}
use Rattle.serde_json.specs.Data.{Data, array, object, string, member, no_members}
use Rattle.serde_json.specs.View.{items_of}
use Rattle.audit_core.specs.declared.cell.Cell.{Cell}
use Rattle.rights_core.specs.Rights.{Rights}
use Rattle.share_core.specs.declared.pools.Pool.{Pool}
use Rattle.verdict_text.specs.Documents.{fault_value, piece, without_comma}
use Rattle.verdict_text.specs.Reading.{fault_byte, fault_text}
use Rattle.verdict_text.specs.declared.entity.ReadEntity.{ReadEntity}
use Rattle.verdict_text.specs.declared.reading.Rules.{Rules}
use Rattle.verdict_text.specs.declared.reading.Rules.TheVariants as by
use Rattle.verdict_text.specs.declared.reading.TextFault.{TextFault}
use Rattle.audit_text.specs.Reached.{AreReached}
use Rattle.audit_text.specs.Words.{cell_word}
use Rattle.audit_text.specs.declared.reached.Reached.{Reached}

abbrev pub rules_word : Rules → List ℕ
rules_word by.Ceph = codes "ceph"
rules_word by.Project = codes "project"

abbrev pub cell_document : Cell → Data
cell_document cell = string (cell_word cell)

abbrev pub reached_document : Reached → Data
reached_document one =
    object (member (codes "cells") (array (items_of (map cell_document one.cells.items))) (member (codes "entity") (string (string_bytes one.entity.now.name)) no_members))

abbrev pub fault_document : TextFault → Data
fault_document fault = fault_value (fault_text fault) (fault_byte fault)

abbrev pub unread_document : List ℕ → TextFault → Data
unread_document name fault = object (member (codes "entity") (string name) (member (codes "fault") (fault_document fault) no_members))

abbrev pub pool_document : Pool → Data
pool_document pool = object (member (codes "pool") (string pool.name) no_members)

abbrev pub unread_piece : ReadEntity → Result Rights TextFault → List ℕ
unread_piece entity (Ok rights) = []
unread_piece entity (Err fault) = piece (unread_document (string_bytes entity.name) fault)

abbrev pub reached_pieces : List Reached → List ℕ
reached_pieces all = flat_map (λ one. piece (reached_document one)) all

abbrev pub unread_pieces : List ReadEntity → List ℕ
unread_pieces entities = flat_map (λ entity. unread_piece entity entity.osd.read) entities

abbrev pub pool_pieces : List Pool → List ℕ
pool_pieces pools = flat_map (λ pool. piece (pool_document pool)) pools

-- a member whose value is a list, from the pieces of its items
abbrev pub list_member : List ℕ → List ℕ → List ℕ
list_member name pieces = codes "\"" ++ (name ++ (codes "\":[" ++ (without_comma pieces ++ codes "],")))

abbrev pub entities_member : List Reached → List ℕ
entities_member all = list_member (codes "entities") (reached_pieces all)

abbrev pub unread_member : List ReadEntity → List ℕ
unread_member entities = list_member (codes "not_checked") (unread_pieces entities)

abbrev pub pools_member : List Pool → List ℕ
pools_member pools = list_member (codes "pools") (pool_pieces pools)

abbrev pub lists : List ReadEntity → List Pool → List Reached → List ℕ
lists entities pools all = entities_member all ++ (unread_member entities ++ pools_member pools)

abbrev pub rules_member : Rules → List ℕ
rules_member rules = codes "\"rules\":\"" ++ (rules_word rules ++ codes "\"")

abbrev pub document : Rules → List ReadEntity → List Pool → List Reached → List ℕ
document rules entities pools all = codes "{" ++ (lists entities pools all ++ (rules_member rules ++ codes "}\n"))

-- what is printed
abbrev pub IsJson : Rules → List ReadEntity → List Pool → List ℕ → Type 0
IsJson rules entities pools text = (all : List Reached) × AreReached entities pools all × (text ≡ document rules entities pools all)
