-- Statement: contracts of public calls use it.
-- How new grants stand to old ones, and the words for it (this project's profile).
use Rattle.std.specs.Prelude.{ℕ, List, Bool, true, false, Option, Some, None, codes}
use Rattle.compare_text.specs.declared.relation.Presence.{Presence}
use Rattle.compare_text.specs.declared.relation.Presence.TheVariants.{Both, New, Gone}
use Rattle.compare_text.specs.declared.relation.Relation.{Relation}
use Rattle.compare_text.specs.declared.relation.Relation.TheVariants.{Same, Narrower, Wider, Different}

-- by whether the new grants allow what the old ones deny, and the other way round
abbrev pub relation_of : Bool → Bool → Relation
relation_of false false = Same
relation_of false true = Narrower
relation_of true false = Wider
relation_of true true = Different

abbrev pub relation_word : Relation → List ℕ
relation_word Same = codes "same"
relation_word Narrower = codes "narrower"
relation_word Wider = codes "wider"
relation_word Different = codes "different"

-- the new grants allow what the old ones deny
abbrev pub is_wider : Relation → Bool
is_wider Same = false
is_wider Narrower = false
is_wider Wider = true
is_wider Different = true

-- the word behind the name of an entity, which has none where both lists have it and its rights are the same
abbrev pub word_of : Presence → Relation → Option (List ℕ)
word_of Both Same = None
word_of Both Narrower = Some (relation_word Narrower)
word_of Both Wider = Some (relation_word Wider)
word_of Both Different = Some (relation_word Different)
word_of New relation = Some (codes "new")
word_of Gone relation = Some (codes "gone")
