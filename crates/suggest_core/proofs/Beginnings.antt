-- What the names seen in a place have in common, and the tag that all pools seen share.
use Rattle.std.proofs.Common.{◌≡◌, ℕ, zero, suc, ◌<◌, arith, drop, get_or, List, [], ◌∷◌, ◌++◌, Bool, true, false, not, ◌&&◌, cond, eqb, nat_eq, nat_le, length, Option, Some, None, refl, sym, ap, subst, ◌∙◌, inl, inr, append-nil}
use Rattle.std.specs.List.{list_all, list_any, starts_with, Contains}
use Rattle.std.specs.Str.{bytes_eq}
use Rattle.std.proofs.lemmas.Bool.{false≢true, eqb-true}
use Rattle.cap_grants.specs.declared.grant.Tag.{Tag}
use Rattle.request_types.specs.Target.{Target}
use Rattle.verdict_core.specs.Verdict.{matches_prefix, matches_tag}
use Rattle.compare_core.proofs.Bools.{both_left}
use Rattle.compare_core.proofs.Fronts.{front_of_front, front_of_itself, has_front}
use Rattle.suggest_core.specs.declared.grain.Division.{Division}
use Rattle.suggest_core.specs.declared.grain.Division.TheVariants as by
use Rattle.suggest_core.specs.declared.seen.Seen.{Seen}
use Rattle.suggest_core.specs.Region.{common, common_in, prefix_of, shared_tag, tag_of, useful, with_name}
use Rattle.suggest_core.proofs.Members.{all_contains, contains_cases, contains_none}

-- ---- a common beginning is one of both names

common_rest : (a b : List ℕ) → (rest : List ℕ) × (a ≡ common a b ++ rest)
common_rest [] b = ([], refl)
common_rest (x ∷ a) [] = (x ∷ a, refl)
common_rest (x ∷ a) (y ∷ b) = go (eqb x y && nat_le x 127) (common_rest a b)
  where
    go : (t : Bool) → ((rest : List ℕ) × (a ≡ common a b ++ rest)) → (rest : List ℕ) × (x ∷ a ≡ cond t (x ∷ common a b) [] ++ rest)
    go true more = (more.0, ap (λ (l : List ℕ). x ∷ l) more.1)
    go false more = (x ∷ a, refl)

common_rest_too : (a b : List ℕ) → (rest : List ℕ) × (b ≡ common a b ++ rest)
common_rest_too [] b = (b, refl)
common_rest_too (x ∷ a) [] = ([], refl)
common_rest_too (x ∷ a) (y ∷ b) = go (eqb x y && nat_le x 127) refl (common_rest_too a b)
  where
    go : (t : Bool) → (eqb x y && nat_le x 127) ≡ t → ((rest : List ℕ) × (b ≡ common a b ++ rest)) → (rest : List ℕ) × (y ∷ b ≡ cond t (x ∷ common a b) [] ++ rest)
    go true h more =
        let same : x ≡ y = eqb-true x y (both_left (eqb x y) (nat_le x 127) h) in
        (more.0, λ i. sym same i ∷ more.1 i)
    go false h more = (y ∷ b, refl)

-- nothing more is in common where nothing is left
common_none : (a rest : List ℕ) → length rest ≡ 0 → common a rest ≡ []
common_none [] rest h = refl
common_none (x ∷ a) [] h = refl
common_none (x ∷ a) (y ∷ rest) h = absurd (omega (arith, h))

pub common_ends : (front a rest whole : List ℕ) → length rest ≡ 0 → front ++ common a rest ≡ whole → front ≡ whole
common_ends front a rest whole h all = sym (append-nil front) ∙ (ap (λ (l : List ℕ). front ++ l) (sym (common_none a rest h)) ∙ all)

common_left : (a b : List ℕ) → starts_with nat_eq a (common a b) ≡ true
common_left a b = let more = common_rest a b in has_front a (common a b) more.0 more.1

common_right : (a b : List ℕ) → starts_with nat_eq b (common a b) ≡ true
common_right a b = let more = common_rest_too a b in has_front b (common a b) more.0 more.1

fits_name : (front : Option (List ℕ)) (name : List ℕ) → starts_with nat_eq name (with_name front name) ≡ true
fits_name None name = common_left name name
fits_name (Some front) name = common_right front name

-- ---- a beginning of all names seen in a place is one of each

some_same : {X : Type 0} {a b : X} → Some a ≡ Some b → a ≡ b
some_same e = cc

-- it is a beginning of what was there before
kept : (there : Target → Bool) (seen : List Seen) (front found : List ℕ) → common_in there (Some front) seen ≡ Some found → starts_with nat_eq front found ≡ true
kept there [] front found is = subst (λ (f : List ℕ). starts_with nat_eq front f ≡ true) (some_same is) (front_of_itself front)
kept there (request ∷ seen) front found is = go (there request.target) is (kept there seen (common front request.target.object) found) (kept there seen front found)
  where
    go : (t : Bool) → common_in there (cond t (Some (common front request.target.object)) (Some front)) seen ≡ Some found
        → (common_in there (Some (common front request.target.object)) seen ≡ Some found → starts_with nat_eq (common front request.target.object) found ≡ true)
        → (common_in there (Some front) seen ≡ Some found → starts_with nat_eq front found ≡ true) → starts_with nat_eq front found ≡ true
    go true h shorter same = front_of_front front (common front request.target.object) found (common_left front request.target.object) (shorter h)
    go false h shorter same = same h

fits_each : (there : Target → Bool) (seen : List Seen) (front : Option (List ℕ)) (found : List ℕ) (request : Seen) → Contains seen request → there request.target ≡ true → common_in there front seen ≡ Some found
    → starts_with nat_eq request.target.object found ≡ true
fits_each there [] front found request h inside is = absurd (contains_none request h)
fits_each there (first ∷ seen) front found request h inside is =
    elim (contains_cases first request seen h) [
      | inl same ↦ here (subst (λ (r : Seen). there r.target ≡ true) (sym same) inside) same
      | inr later ↦ fits_each there seen (cond (there first.target) (Some (with_name front first.target.object)) front) found request later inside is
    ]
  where
    here : there first.target ≡ true → first ≡ request → starts_with nat_eq request.target.object found ≡ true
    here in_place same =
        let now : common_in there (Some (with_name front first.target.object)) seen ≡ Some found =
        subst (λ (t : Bool). common_in there (cond t (Some (with_name front first.target.object)) front) seen ≡ Some found) in_place is in
        subst (λ (r : Seen). starts_with nat_eq r.target.object found ≡ true) same
        (front_of_front first.target.object (with_name front first.target.object) found (fits_name front first.target.object) (kept there seen (with_name front first.target.object) found now))

-- a beginning that is not empty is one of no empty name
not_empty : (object front : List ℕ) → not (eqb (length front) 0) ≡ true → starts_with nat_eq object front ≡ true → matches_prefix (Some front) object ≡ true
not_empty [] [] h k = absurd (false≢true h)
not_empty [] (x ∷ front) h k = absurd (false≢true k)
not_empty (b ∷ bs) front h k = k

useful_fits : (there : Target → Bool) (seen : List Seen) (front : Option (List ℕ)) (object : List ℕ) → ((found : List ℕ) → front ≡ Some found → starts_with nat_eq object found ≡ true) → matches_prefix (useful there seen front) object ≡ true
useful_fits there seen None object fits = refl
useful_fits there seen (Some front) object fits = go (not (eqb (length front) 0)) (list_any (λ (request : Seen). there request.target && not (bytes_eq front request.target.object)) seen) refl
  where
    go : (filled more : Bool) → not (eqb (length front) 0) ≡ filled → matches_prefix (cond (filled && more) (Some front) None) object ≡ true
    go false more h = refl
    go true false h = refl
    go true true h = not_empty object front h (fits front refl)

-- the prefix of a place fits each request seen there
pub prefix_fits : (division : Division) (there : Target → Bool) (seen : List Seen) (request : Seen) → Contains seen request → there request.target ≡ true → matches_prefix (prefix_of division there seen) request.target.object ≡ true
prefix_fits by.Pool there seen request h inside = refl
prefix_fits by.Namespace there seen request h inside = refl
prefix_fits by.Prefix there seen request h inside = useful_fits there seen (common_in there None seen) request.target.object (λ found is. fits_each there seen None found request h inside is)

-- ---- the pools of all requests seen have the tag that they share

shared_fits : (tags : List Tag) (seen : List Seen) (request : Seen) → Contains seen request → matches_tag (shared_tag tags seen) request.target.tags ≡ true
shared_fits [] seen request h = refl
shared_fits (tag ∷ tags) seen request h = go (list_all (λ (r : Seen). matches_tag (Some tag) r.target.tags) seen) refl (shared_fits tags seen request h)
  where
    go : (all : Bool) → list_all (λ (r : Seen). matches_tag (Some tag) r.target.tags) seen ≡ all → matches_tag (shared_tag tags seen) request.target.tags ≡ true
        → matches_tag (cond all (Some tag) (shared_tag tags seen)) request.target.tags ≡ true
    go true all later = all_contains (λ (r : Seen). matches_tag (Some tag) r.target.tags) seen request all h
    go false all later = later

-- the first tag of the rest, and the rest behind it
pub shared_here : (tags : List Tag) (seen : List Seen) (i : ℕ) (tag : Tag) → i < length tags → tag ≡ get_or tags i tag → list_all (λ (r : Seen). matches_tag (Some tag) r.target.tags) seen ≡ true → shared_tag (drop i tags) seen ≡ Some tag
shared_here [] seen i tag within is all = absurd (omega (arith, within))
shared_here (first ∷ tags) seen zero tag within is all =
    ap (λ (t : Tag). cond (list_all (λ (r : Seen). matches_tag (Some t) r.target.tags) seen) (Some t) (shared_tag tags seen)) (sym is) ∙ ap (λ (b : Bool). cond b (Some tag) (shared_tag tags seen)) all
shared_here (first ∷ tags) seen (suc i) tag within is all = shared_here tags seen i tag (omega (arith, within)) is all

pub shared_later : (tags : List Tag) (seen : List Seen) (i : ℕ) (tag : Tag) → i < length tags → tag ≡ get_or tags i tag → list_all (λ (r : Seen). matches_tag (Some tag) r.target.tags) seen ≡ false → shared_tag (drop (suc i) tags) seen ≡ shared_tag (drop i tags) seen
shared_later [] seen i tag within is none = absurd (omega (arith, within))
shared_later (first ∷ tags) seen zero tag within is none =
    sym (ap (λ (t : Tag). cond (list_all (λ (r : Seen). matches_tag (Some t) r.target.tags) seen) (Some t) (shared_tag tags seen)) (sym is) ∙ ap (λ (b : Bool). cond b (Some tag) (shared_tag tags seen)) none)
shared_later (first ∷ tags) seen (suc i) tag within is none = shared_later tags seen i tag (omega (arith, within)) is none

pub tag_fits : (division : Division) (tags : List Tag) (seen : List Seen) (request : Seen) → Contains seen request → matches_tag (tag_of division tags seen) request.target.tags ≡ true
tag_fits by.Pool tags seen request h = shared_fits tags seen request h
tag_fits by.Namespace tags seen request h = shared_fits tags seen request h
tag_fits by.Prefix tags seen request h = refl
