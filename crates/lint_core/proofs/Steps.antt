-- One grant more is looked at, from the last one to the first.
use Rattle.std.proofs.Common.{◌≡◌, ◌⊎◌, ℕ, zero, suc, ◌+◌, ◌<◌, List, [], ◌∷◌, ◌++◌, take, drop, length, get_or, refl, sym, ap, subst, ◌∙◌, Option, None, Some, arith, inr, inl}
use Rattle.std.specs.List.{remove, slice_get}
use Rattle.std.specs.Option.{MatchOption}
use Rattle.std.proofs.lemmas.Grind.{take_at_read}
use Rattle.std.proofs.lemmas.List.{append-nil, append_assoc, take_all}
use Rattle.std.proofs.Math.Seq.{drop-cons}
use Rattle.std.proofs.Math.Numerals.{add-one}
use Rattle.cap_grants.specs.declared.grant.Grant.{Grant}
use Rattle.grant_core.specs.Flat.{Table, flat}
use Rattle.lint_core.specs.Lint.{AllowsAll, AreKept, Covers, IsFirstCover, IsSublist, IsTidied}
use Rattle.lint_core.specs.declared.findings.Standing.{Standing}
use Rattle.lint_core.specs.Parts.{CanExpand, IsTidyFrom}
use Rattle.lint_core.proofs.Allowed.{all_of_itself, more, through}
use Rattle.lint_core.proofs.Sublists.{part}

-- the grant at a place stands before the rest
before : (grants : List Grant) (place : ℕ) (d : Grant) (rest : List Grant) → place < length grants → take (place + 1) grants ++ rest ≡ take place grants ++ (get_or grants place d ∷ rest)
before grants place d rest h = ap (λ front. front ++ rest) ((take_at_read grants place d h).1) ∙ append_assoc (take place grants) (get_or grants place d ∷ []) rest

passed_over : (kept : List Grant) (grant : Grant) (grants : List Grant) → IsSublist kept grants → IsSublist kept (grant ∷ grants)
passed_over [] grant grants h = tt
passed_over (first ∷ kept) grant grants h = inr h

pub behind_is : (grants : List Grant) (place : ℕ) (d : Grant) → place < length grants → drop place grants ≡ get_or grants place d ∷ drop (place + 1) grants
behind_is grants place d h = drop-cons grants place d h ∙ ap (λ n. get_or grants place d ∷ drop n grants) (sym (add-one place))

-- some grant of a list that has one
pub first_of_list : (grants : List Grant) (place : ℕ) → place < length grants → Grant
first_of_list [] place h = absurd (omega arith)
first_of_list (grant ∷ grants) place h = grant

-- the grants before a place and those that are kept behind it
pub front_expands : (table : Table) (grants kept : List Grant) (place : ℕ) → place < length grants → CanExpand table (take (place + 1) grants ++ kept) → CanExpand table (take place grants ++ kept)
front_expands table grants kept place h whole =
    let d : Grant = first_of_list grants place h in
    part table (take place grants) (get_or grants place d ∷ []) kept (subst (CanExpand table) (before grants place d kept h) whole)

drop_whole : (grants : List Grant) → drop (length grants) grants ≡ []
drop_whole [] = refl
drop_whole (grant ∷ grants) = drop_whole grants

-- one more is looked at, which goes or stays
chosen_by : (table : Table) (list grants kept next : List Grant) (place : ℕ) (d : Grant) → place < length grants → AreKept table list (take (place + 1) grants) (drop (place + 1) grants) kept
    → (AllowsAll (flat table (take place grants ++ kept)) (flat table list) × (next ≡ kept)) ⊎ ((¬ AllowsAll (flat table (take place grants ++ kept)) (flat table list)) × (next ≡ get_or grants place d ∷ kept))
    → AreKept table list (take place grants) (drop place grants) next
chosen_by table list grants kept next place d h chosen step =
    subst (λ behind. AreKept table list (take place grants) behind next) (sym (behind_is grants place d h))
    (kept, subst (λ front. AreKept table list front (drop (place + 1) grants) kept) ((take_at_read grants place d h).1) chosen, step)

-- nothing is looked at yet
pub tidy_end : (table : Table) (grants : List Grant) → CanExpand table grants → IsTidyFrom table grants (length grants) []
tidy_end table grants whole =
    let all : take (length grants) grants ++ [] ≡ grants = append-nil (take (length grants) grants) ∙ take_all (length grants) grants (omega arith) in
    record {
      expands = subst (CanExpand table) (sym all) whole;
      among = tt;
      same = subst (λ l. AllowsAll (flat table l) (flat table grants)) (sym all) (all_of_itself (flat table grants));
      no_more = subst (λ l. AllowsAll (flat table grants) (flat table l)) (sym all) (all_of_itself (flat table grants));
      chosen = subst (λ behind. AreKept table grants (take (length grants) grants) behind []) (sym (drop_whole grants)) refl;
      needed = λ k h. absurd (omega arith);
    }

-- a grant goes without which all is still allowed
pub tidy_without : (table : Table) (grants kept : List Grant) (place : ℕ) → place < length grants → IsTidyFrom table grants (place + 1) kept
    → AllowsAll (flat table (take place grants ++ kept)) (flat table grants) → IsTidyFrom table grants place kept
tidy_without table grants kept place h tidy all =
    let d : Grant = first_of_list grants place h in
    let front : List Grant = take place grants in
    let grant : Grant = get_or grants place d in
    record {
      expands = front_expands table grants kept place h tidy.expands;
      among = subst (IsSublist kept) (sym (behind_is grants place d h)) (passed_over kept grant (drop (place + 1) grants) tidy.among);
      same = all;
      no_more = through (flat table grants) (flat table (front ++ (grant ∷ kept))) (flat table (front ++ kept))
          (subst (λ l. AllowsAll (flat table grants) (flat table l)) (before grants place d kept h) tidy.no_more) (more table front (grant ∷ []) kept);
      chosen = chosen_by table grants grants kept kept place d h tidy.chosen (inl (all, refl));
      needed = λ k within whole. tidy.needed k within
          (subst (λ l. AllowsAll (flat table l) (flat table grants)) (sym (before grants place d (remove kept k) h))
          (through (flat table (front ++ (grant ∷ remove kept k))) (flat table (front ++ remove kept k)) (flat table grants) (more table front (grant ∷ []) (remove kept k)) whole));
    }

-- a grant stays without which less is allowed
pub tidy_with : (table : Table) (grants kept : List Grant) (place : ℕ) (d : Grant) → place < length grants → IsTidyFrom table grants (place + 1) kept
    → ¬ AllowsAll (flat table (take place grants ++ kept)) (flat table grants) → IsTidyFrom table grants place (get_or grants place d ∷ kept)
tidy_with table grants kept place d h tidy less =
    record {
      expands = subst (CanExpand table) (before grants place d kept h) tidy.expands;
      among = subst (IsSublist (grant ∷ kept)) (sym (behind_is grants place d h)) (inl (refl, tidy.among));
      same = subst (λ l. AllowsAll (flat table l) (flat table grants)) (before grants place d kept h) tidy.same;
      no_more = subst (λ l. AllowsAll (flat table grants) (flat table l)) (before grants place d kept h) tidy.no_more;
      chosen = chosen_by table grants grants kept (grant ∷ kept) place d h tidy.chosen (inr (less, refl));
      needed = each;
    }
  where
    grant : Grant
    grant = get_or grants place d

    each : (k : ℕ) → k < length (get_or grants place d ∷ kept) → ¬ AllowsAll (flat table (take place grants ++ remove (get_or grants place d ∷ kept) k)) (flat table grants)
    each zero within all = less all
    each (suc k) within all =
        tidy.needed k (omega arith) (subst (λ l. AllowsAll (flat table l) (flat table grants)) (sym (before grants place d (remove kept k) h)) all)

-- all are looked at
pub tidied_all : (table : Table) (grants kept list tidied : List Grant) → IsTidyFrom table grants 0 kept → grants ≡ list → tidied ≡ kept → IsTidied table list tidied
tidied_all table grants kept list tidied tidy same is =
    subst (λ l. IsTidied table l tidied) same (subst (IsTidied table grants) (sym is) (record {
      kept = tidy.among;
      same = (tidy.same, tidy.no_more);
      needed = λ place within redundant. tidy.needed place within (through (flat table (remove kept place)) (flat table kept) (flat table grants) redundant.0 tidy.same);
      first_stay = tidy.chosen;
    }))

-- one more is answered
pub each_more : (P : ℕ → Standing → Type 0) (all : List Standing) (next : Standing) → ((place : ℕ) (standing : Standing) → slice_get all place ≡ Some standing → P place standing) → P (length all) next
    → (place : ℕ) (standing : Standing) → slice_get (all ++ next ∷ []) place ≡ Some standing → P place standing
each_more P [] next so_far here zero standing at = subst (P 0) (some_same at) here
  where
    some_same : {X : Type 0} {a b : X} → Some a ≡ Some b → a ≡ b
    some_same e = cc
each_more P [] next so_far here (suc place) standing at = absurd (cc)
each_more P (first ∷ all) next so_far here zero standing at = so_far zero standing at
each_more P (first ∷ all) next so_far here (suc place) standing at =
    each_more (λ k. P (suc k)) all next (λ k other e. so_far (suc k) other e) here place standing at

-- what the look-up of a cover says
pub uncovered : (table : Table) (grants : List Grant) (place : ℕ) (found : Option ℕ)
    → MatchOption found ((other : ℕ) → other < length grants → ¬ Covers table grants place other) (IsFirstCover table grants place) → found ≡ None
    → (other : ℕ) → other < length grants → ¬ Covers table grants place other
uncovered table grants place None answer is = answer
uncovered table grants place (Some number) answer is = absurd (cc)

pub covered : (table : Table) (grants : List Grant) (place : ℕ) (found : Option ℕ) (number : ℕ)
    → MatchOption found ((other : ℕ) → other < length grants → ¬ Covers table grants place other) (IsFirstCover table grants place) → found ≡ Some number → IsFirstCover table grants place number
covered table grants place None number answer is = absurd (cc)
covered table grants place (Some other) number answer is = subst (IsFirstCover table grants place) (some_same is) answer
  where
    some_same : {X : Type 0} {a b : X} → Some a ≡ Some b → a ≡ b
    some_same e = cc
