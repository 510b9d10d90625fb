-- The test of the premises of recovery tells just where they hold.
use Rattle.std.proofs.Common.{ℕ, ◌≡◌, ◌≤◌, ◌<◌, ◌+◌, ◌-◌, true, not, nat_lt, List, [], length, take, slice_index_or, sym, ◌∙◌, ap, subst, arith, length-take, get_or-take}
use Rattle.std.specs.List.{list_any}
use Rattle.std.proofs.lemmas.Bool.{ltb-false, le-ltb, and_parts, and_from, not-true, not_from_false}
use Rattle.entry_core.specs.Log.{is_in}
use Rattle.group_model_whole.specs.ActingSets.{set_of}
use Rattle.group_model_whole.specs.Choice.{covers}
use Rattle.group_model_whole.specs.Group.{Group, last_set}
use Rattle.group_model_whole.specs.Recovering.{IsReady, HasUp}
use Rattle.group_model_whole.specs.Recovery.{greatest_base, is_ready}
use Rattle.group_model_whole.proofs.Choices.{Found, covers_at}
use Rattle.group_model_whole.proofs.RecoveryLists.{covers_all, list_any_in}

-- of all sets but the last, the one at place i is that of interval i + 1
earlier : (sets : List (List ℕ)) (i : ℕ) → i < length sets - 1 → slice_index_or (take (length sets - 1) sets) i [] ≡ set_of sets (i + 1)
earlier sets i short = (let back : i ≡ i + 1 - 1 = omega arith in (rw get_or-take) ∙ ap (λ v. slice_index_or sets v []) back)

earlier_many : (sets : List (List ℕ)) → length (take (length sets - 1) sets) ≡ length sets - 1
earlier_many sets = simp length-take (omega arith)

pub ready_from : (g : Group) → is_ready g ≡ true → IsReady g
ready_from g is =
    let parts = and_parts (not (nat_lt (length (last_set g.sets)) g.min_size)) (covers g.min_size (greatest_base g.up g.copies) (is_in g.up) 1 (take (length g.sets - 1) g.sets)) is in
    record {
      members = ltb-false (length (last_set g.sets)) g.min_size (not-true (nat_lt (length (last_set g.sets)) g.min_size) parts.0);
      intervals = λ j from upto below enough. (
          let many = earlier_many g.sets in
          let back : j - 1 + 1 ≡ j = omega arith in
          let read : slice_index_or (take (length g.sets - 1) g.sets) (j - 1) [] ≡ set_of g.sets j = earlier g.sets (j - 1) (omega arith) ∙ ap (set_of g.sets) back in
          let enough' : g.min_size ≤ length (slice_index_or (take (length g.sets - 1) g.sets) (j - 1) []) = subst (λ v. g.min_size ≤ length v) (sym read) enough in
          let f : Found (is_in g.up) (slice_index_or (take (length g.sets - 1) g.sets) (j - 1) []) =
          covers_at g.min_size (greatest_base g.up g.copies) (is_in g.up) 1 (take (length g.sets - 1) g.sets) parts.1 (j - 1) (omega arith) (omega arith) enough' in
          record { member = f.item; is_member = subst (λ v. is_in v f.item ≡ true) read f.is_item; is_up = f.passes });
    }

pub ready_to : (g : Group) → IsReady g → is_ready g ≡ true
ready_to g r =
    and_from (not (nat_lt (length (last_set g.sets)) g.min_size)) (covers g.min_size (greatest_base g.up g.copies) (is_in g.up) 1 (take (length g.sets - 1) g.sets))
    (not_from_false (nat_lt (length (last_set g.sets)) g.min_size) (le-ltb (length (last_set g.sets)) g.min_size r.members))
    (covers_all g.min_size (greatest_base g.up g.copies) (is_in g.up) 1 (take (length g.sets - 1) g.sets) at)
  where
    at : (i : ℕ) → i < length (take (length g.sets - 1) g.sets) → greatest_base g.up g.copies ≤ 1 + i → g.min_size ≤ length (slice_index_or (take (length g.sets - 1) g.sets) i []) →
        list_any (is_in g.up) (slice_index_or (take (length g.sets - 1) g.sets) i []) ≡ true
    at i below from enough =
        let many = earlier_many g.sets in
        let read : slice_index_or (take (length g.sets - 1) g.sets) i [] ≡ set_of g.sets (i + 1) = earlier g.sets i (omega arith) in
        let enough' : g.min_size ≤ length (set_of g.sets (i + 1)) = subst (λ v. g.min_size ≤ length v) read enough in
        let u : HasUp g.up (set_of g.sets (i + 1)) = r.intervals (i + 1) (omega arith) (omega arith) (omega arith) enough' in
        list_any_in (is_in g.up) (slice_index_or (take (length g.sets - 1) g.sets) i []) u.member (subst (λ v. is_in v u.member ≡ true) (sym read) u.is_member) u.is_up
