-- What was decided was submitted, each request once: so it is no longer than the list of requests.
use Rattle.std.proofs.Common.{ℕ, ◌≡◌, ◌≤◌, Bool, true, false, ◌==◌, List, [], ◌∷◌, ◌++◌, map, length, refl, sym, subst, arith, inl, inr, if◌then◌else◌}
use Rattle.std.specs.Prelude.{Some, nat_eq}
use Rattle.std.specs.List.{list_any, IsDistinct, AllByRecursion}
use Rattle.std.proofs.Math.ListN.{length-map}
use Rattle.std.proofs.lemmas.Cmp.{nat_eq_equiv}
use Rattle.std.proofs.lemmas.Map.Made.{length-le_from_is_member}
use Rattle.std.proofs.lemmas.Bool.{cases_eq, eq-eqb, ne_eqb, eqb-true, or_cases, or_left, or_right, both_ways}
use Rattle.entry_core.specs.Log.{is_in, ids, LegalFrom}
use Rattle.store_core.specs.Request.{Sealed}
use Rattle.store_core.specs.declared.entry.Entry.{Entry}
use Rattle.group_model_whole.specs.Asked.{IsAsked, InLog}
use Rattle.group_model_whole.specs.Group.{Group, submitted}
use Rattle.group_model_whole.specs.Reached.{IsReached}
use Rattle.group_model_whole.proofs.Audits.{ids-append_here}
use Rattle.group_model_whole.proofs.Groups.{audit_legal}
use Rattle.group_model_whole.proofs.Kept.{Kept}
use Rattle.group_model_whole.proofs.Reached.{reached_good, reached_kept}

-- the numbers of a legal log differ

ids-append_true : (xs ys : List Entry) (q : ℕ) → is_in (ids xs) q ≡ true → is_in (ids (xs ++ ys)) q ≡ true
ids-append_true [] ys q here = absurd (both_ways false refl here)
ids-append_true (x ∷ xs) ys q here = elim (or_cases (x.sealed.id == q) (is_in (ids xs) q) here) [
  | inl first ↦ or_left (x.sealed.id == q) (is_in (ids (xs ++ ys)) q) first
  | inr later ↦ or_right (x.sealed.id == q) (is_in (ids (xs ++ ys)) q) (ids-append_true xs ys q later)
]

apart : (before es : List Entry) (q : ℕ) → LegalFrom before es → is_in (ids before) q ≡ true → AllByRecursion (λ y. nat_eq q y ≡ false) (ids es)
apart before [] q legal here = tt
apart before (e ∷ es) q legal here = (
  ne_eqb q e.sealed.id (λ (same : q ≡ e.sealed.id). both_ways (is_in (ids before) q) (subst (λ v. is_in (ids before) v ≡ false) (sym same) legal.0) here),
  apart (before ++ e ∷ []) es q legal.2 (ids-append_true before (e ∷ []) q here),
)

differ : (before es : List Entry) → LegalFrom before es → IsDistinct nat_eq (ids es)
unfolding IsDistinct
differ before [] legal = tt
differ before (e ∷ es) legal = (apart (before ++ e ∷ []) es e.sealed.id legal.2 (ids-append_here before e []), differ (before ++ e ∷ []) es legal.2)

-- they are numbers of requests

abbrev numbers : List Sealed → List ℕ
numbers requests = map (λ r. r.id) requests

has_number : (requests : List Sealed) (id : ℕ) (s : Sealed) → submitted requests id ≡ Some s → list_any (nat_eq id) (numbers requests) ≡ true
has_number [] id s is = absurd (cc)
has_number (r ∷ requests) id s is = elim (cases_eq id r.id) [
  | inl same ↦ or_left (id == r.id) (list_any (nat_eq id) (map (λ r. r.id) requests)) (eq-eqb id r.id same)
  | inr other ↦ or_right (id == r.id) (list_any (nat_eq id) (map (λ r. r.id) requests)) (go (λ found. has_number requests id s found) (r.id == id) (ne_eqb r.id id (λ (same : r.id ≡ id). other (sym same))) is)
]
  where
    go : (submitted requests id ≡ Some s → list_any (nat_eq id) (map (λ r. r.id) requests) ≡ true) → (b : Bool) → b ≡ false → (if b then Some r else submitted requests id) ≡ Some s → list_any (nat_eq id) (map (λ r. r.id) requests) ≡ true
    go later true other found = absurd (cc)
    go later false other found = later found

have_numbers : (requests : List Sealed) (log : List Entry) → InLog (IsAsked requests) log → (q : ℕ) → list_any (nat_eq q) (ids log) ≡ true → list_any (nat_eq q) (numbers requests) ≡ true
have_numbers requests [] asked q here = absurd (both_ways false refl here)
have_numbers requests (e ∷ log) asked q here = elim (or_cases (q == e.sealed.id) (list_any (nat_eq q) (ids log)) here) [
  | inl first ↦ subst (λ v. list_any (nat_eq v) (numbers requests) ≡ true) (sym (eqb-true q e.sealed.id first)) (has_number requests e.sealed.id e.sealed asked.0)
  | inr later ↦ have_numbers requests log asked.1 q later
]

length-ids : (log : List Entry) → length (ids log) ≡ length log
length-ids [] = refl
length-ids (e ∷ log) = (let rest = length-ids log in omega arith)

pub decided_few : (g : Group) → IsReached g → length g.audit ≤ length g.requests
decided_few g r =
    let kept : Kept g = reached_kept g r in
    let le : length (ids g.audit) ≤ length (numbers g.requests) =
    length-le_from_is_member nat_eq_equiv (ids g.audit) (numbers g.requests) (differ [] g.audit (audit_legal g (reached_good g r))) (have_numbers g.requests g.audit kept.asked.audit) in
    omega (arith, le, length-ids g.audit, length-map g.requests (λ (s : Sealed). s.id))
