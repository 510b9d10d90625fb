-- What the examples of two rights say of both.
use Rattle.std.proofs.Common.{◌≡◌, ℕ, List, [], ◌∷◌, Bool, ◌&&◌, refl}
use Rattle.rights_core.specs.Rights.{NetworkGrant, has_networks}
use Rattle.compare_core.specs.declared.registry.Registry.{Registry}
use Rattle.compare_text.specs.Addresses.{AnswersFrom}
use Rattle.compare_text.specs.Compared.{IsChange, IsCompared, IsRelation, compared_by, is_any}
use Rattle.compare_text.specs.Entities.{IsChangeTold, change_by}
use Rattle.compare_text.specs.Relation.{is_wider, relation_of, word_of}
use Rattle.compare_text.specs.declared.compare.Change.{Change}
use Rattle.compare_text.specs.declared.comparison.Comparison.{Comparison}
use Rattle.compare_text.specs.declared.relation.Presence.{Presence}
use Rattle.compare_text.specs.declared.widening.AddressedExample.{AddressedExample}
use Rattle.compare_text.proofs.Addressed.{nothing_widens_from, some_widens}

stands : (registry : Registry) (old new : List NetworkGrant) (gained lost : List AddressedExample) → AnswersFrom registry old new gained → AnswersFrom registry new old lost → IsRelation registry old new (relation_of (is_any gained) (is_any lost))
stands registry old new [] [] gains loses = (nothing_widens_from registry _ old new gains, nothing_widens_from registry _ new old loses)
stands registry old new [] (e ∷ es) gains loses = (nothing_widens_from registry _ old new gains, some_widens registry _ new old e es loses)
stands registry old new (e ∷ es) [] gains loses = (some_widens registry _ old new e es gains, nothing_widens_from registry _ new old loses)
stands registry old new (e ∷ es) (d ∷ ds) gains loses = (some_widens registry _ old new e es gains, some_widens registry _ new old d ds loses)

pub compared_lines : (how : Comparison) (old new : List NetworkGrant) (change : Change) (text : List ℕ) (fails : Bool) → IsChange how.registry old new change
    → text ≡ compared_by how.format (relation_of (is_any change.gained.items) (is_any change.lost.items)) change.gained.items change.lost.items
    → fails ≡ (how.check && is_wider (relation_of (is_any change.gained.items) (is_any change.lost.items))) → IsCompared how old new text fails
compared_lines how old new change text fails is printed ends = record {
  relation = relation_of (is_any change.gained.items) (is_any change.lost.items);
  gained = change.gained.items;
  lost = change.lost.items;
  stands = stands how.registry old new change.gained.items change.lost.items is.gains is.loses;
  gains = is.gains;
  loses = is.loses;
  printed = printed;
  ends = ends;
}

pub change_told : (how : Comparison) (presence : Presence) (name : List ℕ) (old new : List NetworkGrant) (change : Change) (text : List ℕ) (fails : Bool) → IsChange how.registry old new change
    → text ≡ change_by how.format name (word_of presence (relation_of (is_any change.gained.items) (is_any change.lost.items))) change.gained.items change.lost.items
    → fails ≡ (how.check && is_wider (relation_of (is_any change.gained.items) (is_any change.lost.items))) → IsChangeTold how presence name old new text fails
change_told how presence name old new change text fails is printed ends = record {
  relation = relation_of (is_any change.gained.items) (is_any change.lost.items);
  gained = change.gained.items;
  lost = change.lost.items;
  stands = stands how.registry old new change.gained.items change.lost.items is.gains is.loses;
  gains = is.gains;
  loses = is.loses;
  printed = printed;
  ends = ends;
}
