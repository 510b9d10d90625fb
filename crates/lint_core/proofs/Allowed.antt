-- What a list allows that has some grants of another one, and what compare_core says of it.
use Rattle.std.proofs.Common.{◌≡◌, ◌⊎◌, ℕ, suc, ◌+◌, List, [], ◌∷◌, ◌++◌, Bool, true, false, ◌&&◌, ◌||◌, Some, map, reverse, slice_get, refl, sym, ap, subst, ◌∙◌, inl, inr, IsTrue, ◌↔◌}
use Rattle.std.specs.List.{list_any, list_all}
use Rattle.std.proofs.lemmas.Bool.{false≢true}
use Rattle.std.proofs.lemmas.List.{append-nil}
use Rattle.std.proofs.lemmas.List.Folds.{list_any-append}
use Rattle.cap_grants.specs.declared.grant.AllowGrant.{AllowGrant}
use Rattle.cap_grants.specs.declared.grant.Grant.{Grant}
use Rattle.cap_grants.specs.declared.grant.Grant.TheVariants.{Allow, Profile}
use Rattle.cap_grants.specs.declared.grant.ProfileUse.{ProfileUse}
use Rattle.grant_core.specs.Flat.{Flat, Table, flat, numbered, parts_of, under}
use Rattle.request_types.specs.Target.{Target}
use Rattle.request_types.specs.declared.request.Needs.{Needs}
use Rattle.verdict_core.specs.Verdict.{covers, grants_allow, is_covered, is_usable}
use Rattle.compare_core.specs.Widening.{AnswersBy, Widens, WidensBy}
use Rattle.compare_core.specs.declared.registry.Registry.TheVariants.{Every}
use Rattle.compare_core.proofs.Bools.{all_also, any_at, both, both_left, both_right, either_first, not_both, some_pass, true_or_false}
use Rattle.compare_core.proofs.Gains.{allowed_among, nothing_widens}
use Rattle.lint_core.specs.Lint.{AllowsAll}

-- whether a grant expands to some grant that passes a test
some_of : (ProfileUse → Flat) → (AllowGrant → Bool) → Grant → Bool
some_of parts test (Allow g) = test g
some_of parts test (Profile used) = list_any (λ entry. test entry.1) (parts used)

any_under : (test : AllowGrant → Bool) (number : ℕ) (entries : Flat) → list_any (λ entry. test entry.1) (map (under number) entries) ≡ list_any (λ entry. test entry.1) entries
any_under test number [] = refl
any_under test number (entry ∷ entries) = ap (λ others. test entry.1 || others) (any_under test number entries)

-- some grant that a list expands to passes a test exactly if a grant of the list expands to one
any_numbered : (parts : ProfileUse → Flat) (test : AllowGrant → Bool) (number : ℕ) (grants : List Grant)
    → list_any (λ entry. test entry.1) (numbered parts number grants) ≡ list_any (some_of parts test) grants
unfolding some_of
any_numbered parts test number [] = refl
any_numbered parts test number (Allow g ∷ grants) = ap (λ others. test g || others) (any_numbered parts test (number + 1) grants)
any_numbered parts test number (Profile used ∷ grants) =
    list_any-append (λ entry. test entry.1) (map (under number) (parts used)) (numbered parts (number + 1) grants)
    ∙ (λ i. any_under test number (parts used) i || any_numbered parts test (number + 1) grants i)

-- some grant that a single use expands to passes a test exactly if one of its parts does
pub any_of_use : (parts : ProfileUse → Flat) (test : AllowGrant → Bool) (number : ℕ) (used : ProfileUse)
    → list_any (λ entry. test entry.1) (numbered parts number (Profile used ∷ [])) ≡ (list_any (λ entry. test entry.1) (parts used) || false)
unfolding some_of
any_of_use parts test number used = any_numbered parts test number (Profile used ∷ [])

or_more : (a m b : Bool) → (a || b) ≡ true → (a || (m || b)) ≡ true
or_more true m b h = refl
or_more false true b h = refl
or_more false false b h = h

-- more grants pass where some do
any_more : (table : Table) (test : AllowGrant → Bool) (front middle behind : List Grant)
    → list_any (λ entry. test entry.1) (flat table (front ++ behind)) ≡ true → list_any (λ entry. test entry.1) (flat table (front ++ (middle ++ behind))) ≡ true
any_more table test front middle behind h =
    let pass : Grant → Bool = some_of (parts_of (reverse table)) test in
    let few : (list_any pass front || list_any pass behind) ≡ true =
    sym (list_any-append pass front behind) ∙ (sym (any_numbered (parts_of (reverse table)) test 1 (front ++ behind)) ∙ h) in
    any_numbered (parts_of (reverse table)) test 1 (front ++ (middle ++ behind)) ∙ (list_any-append pass front (middle ++ behind)
    ∙ (ap (λ others. list_any pass front || others) (list_any-append pass middle behind) ∙ or_more (list_any pass front) (list_any pass middle) (list_any pass behind) few))

or_split : (a m b : Bool) → (a || (m || b)) ≡ true → ((a || b) ≡ true) ⊎ (m ≡ true)
or_split true m b h = inl refl
or_split false true b h = inr refl
or_split false false b h = inl h

-- where some grant passes, one of the grants around passes, or one between
any_split : (table : Table) (test : AllowGrant → Bool) (front middle behind : List Grant)
    → list_any (λ entry. test entry.1) (flat table (front ++ (middle ++ behind))) ≡ true
    → (list_any (λ entry. test entry.1) (flat table (front ++ behind)) ≡ true) ⊎ (list_any (λ entry. test entry.1) (flat table middle) ≡ true)
any_split table test front middle behind h =
    let pass : Grant → Bool = some_of (parts_of (reverse table)) test in
    let many : (list_any pass front || (list_any pass middle || list_any pass behind)) ≡ true =
    sym (ap (λ others. list_any pass front || others) (list_any-append pass middle behind)) ∙ (sym (list_any-append pass front (middle ++ behind))
    ∙ (sym (any_numbered (parts_of (reverse table)) test 1 (front ++ (middle ++ behind))) ∙ h)) in
    elim (or_split (list_any pass front) (list_any pass middle) (list_any pass behind) many) [
      | inl around ↦ inl (any_numbered (parts_of (reverse table)) test 1 (front ++ behind) ∙ (list_any-append pass front behind ∙ around))
      | inr between ↦ inr (any_numbered (parts_of (reverse table)) test 1 middle ∙ between)
    ]

-- a grant alone allows the request
passes : Target → Needs → AllowGrant → Bool
passes target needs g = is_usable g target needs && list_all (covers g.access) needs.calls

only_one : (b : Bool) → (b || false) ≡ true → b ≡ true
only_one true h = refl
only_one false h = h

passes_alone : (entry : List ℕ × AllowGrant) (target : Target) (needs : Needs) → grants_allow (entry ∷ []) target needs ≡ true → passes target needs entry.1 ≡ true
unfolding passes
passes_alone entry target needs h =
    both _ _ (only_one _ (both_left _ _ h))
    (all_also (is_covered (entry ∷ []) target needs) (covers entry.1.access) needs.calls
    (λ call covered. both_right (is_usable entry.1 target needs) _ (only_one _ covered)) (both_right (list_any (λ e. is_usable e.1 target needs) (entry ∷ [])) _ h))

allows_alone : (entry : List ℕ × AllowGrant) (target : Target) (needs : Needs) → passes target needs entry.1 ≡ true → grants_allow (entry ∷ []) target needs ≡ true
unfolding passes
allows_alone entry target needs h =
    let useful : is_usable entry.1 target needs ≡ true = both_left _ _ h in
    both _ _ (either_first _ _ useful)
    (all_also (covers entry.1.access) (is_covered (entry ∷ []) target needs) needs.calls
    (λ call covered. either_first _ _ (both _ _ useful covered)) (both_right (is_usable entry.1 target needs) _ h))

-- a list allows what some grant of it allows alone
some_allows : (grants : Flat) (target : Target) (needs : Needs) → list_any (λ entry. passes target needs entry.1) grants ≡ true → grants_allow grants target needs ≡ true
some_allows grants target needs h =
    let found = some_pass (λ (entry : List ℕ × AllowGrant). passes target needs entry.1) grants h in
    allowed_among grants found.0 found.1.0 target needs found.1.1.0 (allows_alone found.1.0 target needs found.1.1.1)

-- no grant widens anything alone
none_alone : (old new : Flat) → ((i : ℕ) (entry : List ℕ × AllowGrant) → slice_get new i ≡ Some entry → ¬ WidensBy Every old (entry ∷ [])) → AnswersBy Every old new []
none_alone old [] h = tt
none_alone old (entry ∷ new) h = (h 0 entry refl, none_alone old new (λ i e at. h (suc i) e at))

-- a list allows all that it allows without some of its grants
pub more : (table : Table) (front middle behind : List Grant) → AllowsAll (flat table (front ++ (middle ++ behind))) (flat table (front ++ behind))
more table front middle behind target needs asked h =
    let few : Flat = flat table (front ++ behind) in
    let many : Flat = flat table (front ++ (middle ++ behind)) in
    both _ _ (any_more table (λ g. is_usable g target needs) front middle behind (both_left _ _ h))
    (all_also (is_covered few target needs) (is_covered many target needs) needs.calls
    (λ call. any_more table (λ g. is_usable g target needs && covers g.access call) front middle behind) (both_right (list_any (λ entry. is_usable entry.1 target needs) few) _ h))

pub all_of_itself : (grants : Flat) → AllowsAll grants grants
all_of_itself grants target needs asked h = h

pub through : (grants others last : Flat) → AllowsAll grants others → AllowsAll others last → AllowsAll grants last
through grants others last all more target needs asked h = all target needs asked (more target needs asked h)

-- nothing is gained where all is allowed already, and nowhere else
pub all_from_silent : (grants others : Flat) → ¬ Widens grants others → AllowsAll grants others
all_from_silent grants others none target needs asked h =
    elim (true_or_false (grants_allow grants target needs)) [ inl allowed ↦ allowed | inr denied ↦ absurd (none (record { target = target; needs = needs }, (asked, h, denied))) ]

-- Of many grants few allow all that they do where they allow all that those between do: a test that one of many passes is passed by
-- one of the few or by one of those between.
pub enough_around : (few between many : Flat)
    → ((test : AllowGrant → Bool) → list_any (λ entry. test entry.1) many ≡ true → (list_any (λ entry. test entry.1) few ≡ true) ⊎ (list_any (λ entry. test entry.1) between ≡ true))
    → AllowsAll few between → AllowsAll few many
enough_around few between many split enough = all_from_silent few many (nothing_widens Every few many (none_alone few many silent))
  where
    silent : (i : ℕ) (entry : List ℕ × AllowGrant) → slice_get many i ≡ Some entry → ¬ WidensBy Every few (entry ∷ [])
    silent i entry at gained =
        let target : Target = gained.0.target in
        let needs : Needs = gained.0.needs in
        let passing : list_any (λ e. passes target needs e.1) many ≡ true =
        any_at (λ (e : List ℕ × AllowGrant). passes target needs e.1) many i entry at (passes_alone entry target needs gained.1.1) in
        elim (split (passes target needs) passing) [
          | inl around ↦ not_both (grants_allow few target needs) (some_allows few target needs around) gained.1.2
          | inr own ↦ not_both (grants_allow few target needs) (enough target needs gained.1.0 (some_allows between target needs own)) gained.1.2
        ]

-- a list without some grants allows all that it does where it allows all that these do
pub around_enough : (table : Table) (front middle behind : List Grant) → AllowsAll (flat table (front ++ behind)) (flat table middle)
    → AllowsAll (flat table (front ++ behind)) (flat table (front ++ (middle ++ behind)))
around_enough table front middle behind =
    enough_around (flat table (front ++ behind)) (flat table middle) (flat table (front ++ (middle ++ behind))) (λ test. any_split table test front middle behind)

pub silent_from_all : (grants others : Flat) → AllowsAll grants others → ¬ Widens grants others
silent_from_all grants others all gained =
    not_both (grants_allow grants gained.0.target gained.0.needs) (all gained.0.target gained.0.needs gained.1.0 gained.1.1) gained.1.2

pub along : (grants others rest whole : Flat) → rest ≡ grants → whole ≡ others → AllowsAll rest whole → AllowsAll grants others
along grants others rest whole p q all = subst (λ l. AllowsAll l others) p (subst (AllowsAll rest) q all)

-- what an answer says of equal lists
pub answer_yes : (grants others rest whole : Flat) (all : Bool) → (IsTrue all ↔ AllowsAll rest whole) → rest ≡ grants → whole ≡ others → all ≡ true → AllowsAll grants others
answer_yes grants others rest whole all answer p q said = along grants others rest whole p q (answer.0 said)

pub answer_no : (grants others rest whole : Flat) (all : Bool) → (IsTrue all ↔ AllowsAll rest whole) → rest ≡ grants → whole ≡ others → all ≡ false → ¬ AllowsAll grants others
answer_no grants others rest whole all answer p q said allowed =
    false≢true (sym said ∙ answer.1 (along rest whole grants others (sym p) (sym q) allowed))

-- a list allows all that some of its grants do
pub between : (table : Table) (front middle behind : List Grant) → AllowsAll (flat table (front ++ (middle ++ behind))) (flat table middle)
between table front middle behind =
    through (flat table (front ++ (middle ++ behind))) (flat table (middle ++ behind)) (flat table middle)
    (more table [] front (middle ++ behind))
    (subst (λ l. AllowsAll (flat table (middle ++ l)) (flat table middle)) (append-nil behind)
    (subst (λ l. AllowsAll (flat table (middle ++ (behind ++ []))) (flat table l)) (append-nil middle) (more table middle behind [])))

-- what an answer on some grants of a list says of the list
pub rest_answer : (table : Table) (front middle behind : List Grant) (rest own : Flat) (all : Bool) → (IsTrue all ↔ AllowsAll rest own)
    → rest ≡ flat table (front ++ behind) → own ≡ flat table middle → IsTrue all ↔ AllowsAll (flat table (front ++ behind)) (flat table (front ++ (middle ++ behind)))
rest_answer table front middle behind rest own all answer p q =
    let few : Flat = flat table (front ++ behind) in
    let many : Flat = flat table (front ++ (middle ++ behind)) in (
      λ yes. around_enough table front middle behind (along few (flat table middle) rest own p q (answer.0 yes)),
      λ enough. answer.1 (along rest own few (flat table middle) (sym p) (sym q) (through few many (flat table middle) enough (between table front middle behind))),
    )
