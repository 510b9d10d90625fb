-- A list that can be expanded can be without some of its grants.
use Rattle.std.proofs.Common.{◌≡◌, ℕ, suc, ◌+◌, ◌-◌, ◌≤◌, List, [], ◌∷◌, ◌++◌, Bool, true, false, ◌&&◌, Option, None, Some, map, reverse, take, drop, length, cond, ltb, refl, sym, ap, subst, ◌∙◌, arith, length-append}
use Rattle.std.specs.List.{list_all, sum_by, remove}
use Rattle.std.specs.Option.{option_or}
use Rattle.std.proofs.lemmas.Bool.{ltb-false, le-ltb}
use Rattle.std.proofs.lemmas.List.{append-nil, length-drop, length-map, take_all}
use Rattle.std.proofs.lemmas.List.Edits.{split_between}
use Rattle.std.proofs.lemmas.List.Folds.{list_all-append}
use Rattle.std.proofs.lemmas.List.Sums.{sum_by-append, sum_by-cons}
use Rattle.std.proofs.Math.Numerals.{add-one}
use Rattle.cap_grants.specs.declared.grant.Grant.{Grant}
use Rattle.cap_grants.specs.declared.grant.Grant.TheVariants.{Allow, Profile}
use Rattle.cap_grants.specs.declared.grant.ProfileUse.{ProfileUse}
use Rattle.cap_grants.specs.Spellable.{is_spellable}
use Rattle.grant_core.specs.Flat.{Flat, Table, flat, numbered, parts_of, under}
use Rattle.grant_core.specs.Refusal.{first_fault, has_profile, list_fault}
use Rattle.grant_core.specs.declared.fault.ExpandFault.{ExpandFault}
use Rattle.grant_core.specs.declared.fault.ExpandFault.TheVariants.{TooLarge, UnknownProfile}
use Rattle.compare_core.proofs.Bools.{both, both_left, both_right}
use Rattle.lint_core.specs.Lint.{AllowsAll, IsRedundant, alone}
use Rattle.lint_core.proofs.Allowed.{more}
use Rattle.lint_core.specs.Parts.{CanExpand}

-- whether a grant uses no profile, or one of the table
is_known : Table → Grant → Bool
is_known table (Allow g) = true
is_known table (Profile used) = has_profile table used.name

nothing_first : (fault rest : Option ExpandFault) → option_or fault rest ≡ None → fault ≡ None
nothing_first None rest h = refl
nothing_first (Some fault) rest h = h

nothing_later : (fault rest : Option ExpandFault) → option_or fault rest ≡ None → rest ≡ None
nothing_later None rest h = h
nothing_later (Some fault) rest h = absurd (cc)

nothing_both : (fault rest : Option ExpandFault) → fault ≡ None → rest ≡ None → option_or fault rest ≡ None
nothing_both fault rest h k = ap (λ f. option_or f rest) h ∙ k

known_from : (b : Bool) (fault : ExpandFault) → cond b None (Some fault) ≡ None → b ≡ true
known_from true fault h = refl
known_from false fault h = absurd (cc)

all_known : (table : Table) (number : ℕ) (grants : List Grant) → first_fault (list_fault table) number grants ≡ None → list_all (is_known table) grants ≡ true
unfolding is_known
all_known table number [] h = refl
all_known table number (Allow g ∷ grants) h = all_known table (number + 1) grants h
all_known table number (Profile used ∷ grants) h =
    both (has_profile table used.name) _ (known_from (has_profile table used.name) _ (nothing_first _ _ h)) (all_known table (number + 1) grants (nothing_later _ _ h))

no_fault : (table : Table) (number : ℕ) (grants : List Grant) → list_all (is_known table) grants ≡ true → first_fault (list_fault table) number grants ≡ None
unfolding is_known
no_fault table number [] h = refl
no_fault table number (Allow g ∷ grants) h = no_fault table (number + 1) grants h
no_fault table number (Profile used ∷ grants) h =
    nothing_both _ _ (ap (λ known. cond known None (Some (UnknownProfile number))) (both_left (has_profile table used.name) _ h)) (no_fault table (number + 1) grants (both_right (has_profile table used.name) _ h))

-- a test that all grants pass, all but some pass
all_less : {X : Type 0} (test : X → Bool) (front middle behind : List X) → list_all test (front ++ (middle ++ behind)) ≡ true → list_all test (front ++ behind) ≡ true
all_less test front middle behind h =
    let first : (list_all test front && list_all test (middle ++ behind)) ≡ true = sym (list_all-append test front (middle ++ behind)) ∙ h in
    let later : (list_all test middle && list_all test behind) ≡ true = sym (list_all-append test middle behind) ∙ both_right (list_all test front) _ first in
    list_all-append test front behind ∙ both _ _ (both_left _ _ first) (both_right (list_all test middle) _ later)

-- how many grants a grant expands to
size : (ProfileUse → Flat) → Grant → ℕ
size parts (Allow g) = 1
size parts (Profile used) = length (parts used)

length_numbered : (parts : ProfileUse → Flat) (number : ℕ) (grants : List Grant) → length (numbered parts number grants) ≡ sum_by (size parts) grants
unfolding size
length_numbered parts number [] = refl
length_numbered parts number (Allow g ∷ grants) =
    let later = length_numbered parts (number + 1) grants in
    let step = sum_by-cons (size parts) (Allow g) grants in
    omega (arith, later, step)
length_numbered parts number (Profile used ∷ grants) =
    length-append (map (under number) (parts used)) (numbered parts (number + 1) grants)
    ∙ (simp length-map
    (ap (λ n. length (parts used) + n) (length_numbered parts (number + 1) grants)) ∙ sym (sum_by-cons (size parts) (Profile used) grants))

fewer : (table : Table) (front middle behind : List Grant) → length (flat table (front ++ behind)) ≤ length (flat table (front ++ (middle ++ behind)))
fewer table front middle behind =
    let each : Grant → ℕ = size (parts_of (reverse table)) in
    let few = length_numbered (parts_of (reverse table)) 1 (front ++ behind) ∙ sum_by-append each front behind in
    let many = length_numbered (parts_of (reverse table)) 1 (front ++ (middle ++ behind)) ∙ (sum_by-append each front (middle ++ behind) ∙ ap (λ n. sum_by each front + n) (sum_by-append each middle behind)) in
    omega (arith, few, many)

small_from : (n : ℕ) (fault : ExpandFault) → cond (ltb 256 n) (Some fault) None ≡ None → n ≤ 256
small_from n fault h = ltb-false 256 n (not_large (ltb 256 n) h)
  where
    not_large : (b : Bool) → cond b (Some fault) None ≡ None → b ≡ false
    not_large true k = absurd (cc)
    not_large false k = refl

-- a list can be expanded without some of its grants
pub part : (table : Table) (front middle behind : List Grant) → CanExpand table (front ++ (middle ++ behind)) → CanExpand table (front ++ behind)
part table front middle behind whole =
    let first : first_fault (list_fault table) 1 (front ++ (middle ++ behind)) ≡ None = nothing_first _ _ whole.accepted in
    let size_is : length (flat table (front ++ (middle ++ behind))) ≤ 256 = small_from _ _ (nothing_later (first_fault (list_fault table) 1 (front ++ (middle ++ behind))) _ whole.accepted) in
    let less = fewer table front middle behind in
    record {
      few = simp (length-append) (let all = whole.few in omega (arith, simp length-append at all));
      spellable = all_less is_spellable front middle behind whole.spellable;
      accepted = nothing_both _ _
          (no_fault table 1 (front ++ behind) (all_less (is_known table) front middle behind (all_known table 1 (front ++ (middle ++ behind)) first)))
          (ap (λ large. cond large (Some TooLarge) None) (le-ltb 256 (length (flat table (front ++ behind))) (omega arith)));
    }

-- a profile that alone can be expanded is one of the table
pub known_name : (table : Table) (used : ProfileUse) → CanExpand table (Profile used ∷ []) → has_profile table used.name ≡ true
unfolding is_known
known_name table used whole =
    both_left (has_profile table used.name) _ (all_known table 1 (Profile used ∷ []) (nothing_first _ _ whole.accepted))

pub split : (grants : List Grant) (place : ℕ) → grants ≡ take place grants ++ (alone grants place ++ drop (place + 1) grants)
split grants place = split_between grants place (place + 1) (omega arith)

-- the slice behind a place
pub removed : (grants : List Grant) (place : ℕ) → take place grants ++ take (length grants - (place + 1)) (drop (place + 1) grants) ≡ remove grants place
removed grants place =
    ap (λ rest. take place grants ++ rest)
    (take_all (length grants - (place + 1)) (drop (place + 1) grants) (simp length-drop (omega arith)) ∙ ap (λ n. drop n grants) (add-one place))

-- a list without the grant at a place
whole_again : (grants : List Grant) (place : ℕ) → grants ≡ take place grants ++ (alone grants place ++ drop (suc place) grants)
whole_again grants place = split grants place ∙ ap (λ n. take place grants ++ (alone grants place ++ drop n grants)) (add-one place)

pub without : (table : Table) (grants : List Grant) (place : ℕ) → CanExpand table grants
    → CanExpand table (take place grants ++ take (length grants - (place + 1)) (drop (place + 1) grants))
without table grants place whole =
    subst (CanExpand table) (sym (removed grants place))
    (part table (take place grants) (alone grants place) (drop (suc place) grants) (subst (CanExpand table) (whole_again grants place) whole))

-- the whole list allows all that it allows without a grant
pub redundant_by : (table : Table) (grants : List Grant) (place : ℕ) → AllowsAll (flat table (remove grants place)) (flat table grants) → IsRedundant table grants place
redundant_by table grants place all = (
  all,
  subst (λ l. AllowsAll (flat table l) (flat table (remove grants place))) (sym (whole_again grants place))
      (more table (take place grants) (alone grants place) (drop (suc place) grants)),
)

-- the grants around a place and the one there are the list
pub around : (grants : List Grant) (place : ℕ)
    → take place grants ++ (alone grants place ++ take (length grants - (place + 1)) (drop (place + 1) grants)) ≡ grants
around grants place =
    ap (λ rest. take place grants ++ (alone grants place ++ rest)) (take_all (length grants - (place + 1)) (drop (place + 1) grants) (simp length-drop (omega arith)))
    ∙ sym (split grants place)

-- one grant alone
pub only : (table : Table) (grants : List Grant) (place : ℕ) → CanExpand table grants → CanExpand table (alone grants place)
only table grants place whole =
    let behind : CanExpand table (alone grants place ++ drop (place + 1) grants) = part table [] (take place grants) (alone grants place ++ drop (place + 1) grants) (subst (CanExpand table) (split grants place) whole) in
    subst (CanExpand table) (append-nil (alone grants place))
    (part table (alone grants place) (drop (place + 1) grants) [] (subst (λ rest. CanExpand table (alone grants place ++ rest)) (sym (append-nil (drop (place + 1) grants))) behind))
