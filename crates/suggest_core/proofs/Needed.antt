-- A whole suggestion is of its grain, allows what was seen, and needs each of its grants.
use Rattle.std.proofs.Common.{◌≡◌, ℕ, List, [], ◌∷◌, ◌++◌, length, Bool, true, false, not, ◌&&◌, ◌||◌, eqb, cond, ◌+◌, Some, None, refl, sym, ap, subst, ◌∙◌, inl, inr}
use Rattle.std.specs.List.{list_any, position, position_from, Contains}
use Rattle.std.proofs.lemmas.Iterator.Adapters.{position_from-zero}
use Rattle.std.specs.Str.{bytes_eq}
use Rattle.std.proofs.lemmas.Bool.{false≢true}
use Rattle.cap_grants.specs.declared.grant.AllowGrant.{AllowGrant}
use Rattle.cap_grants.specs.declared.grant.Access.{Access}
use Rattle.cap_grants.specs.declared.grant.Access.TheVariants.{Class}
use Rattle.request_types.specs.declared.request.ClassCall.{ClassCall}
use Rattle.verdict_core.specs.Verdict.{covers, grants_allow, is_covered, is_usable, matches}
use Rattle.compare_core.proofs.Bools.{both, both_left, both_right, fails, true_or_false}
use Rattle.suggest_core.specs.declared.grain.Grain.{Grain}
use Rattle.suggest_core.specs.declared.seen.Seen.{Seen}
use Rattle.suggest_core.specs.Grain.{IsOfGrain, access_for, is_class, moves, some_moving}
use Rattle.suggest_core.specs.Region.{grant_for, is_in, region_of}
use Rattle.suggest_core.specs.declared.region.Region.{Region}
use Rattle.suggest_core.specs.Suggestion.{AllowsSeen, EachIsNeeded, HasLongestPrefix, IsSuggested, asks_nothing, is_left_out}
use Rattle.suggest_core.specs.Parts.{AreApart, Comes, HasCalls, IsCallGrant, IsMovingGrant}
use Rattle.suggest_core.proofs.Members.{all_contains, all_from, any_contains, contains_beside, contains_between, contains_first, some_contains}
use Rattle.suggest_core.proofs.Regions.{in_own, longest_there, matched_region, matches_in, regions_from, same_bytes, usable_matches}
use Rattle.suggest_core.proofs.Serving.{allowed_by_flags, moving_there, usable_comes}
use Rattle.suggest_core.proofs.Steps.{apart_from}
use Rattle.suggest_core.proofs.Least.{is_least}

abbrev Entry : Type 0
Entry = List ℕ × AllowGrant

-- ---- of its grain

own_access : (region : Region) (access : Access) (grant : AllowGrant) → grant ≡ grant_for region access → grant ≡ grant_for region grant.access
own_access region access grant is = is ∙ ap (grant_for region) (sym (ap (λ (g : AllowGrant). g.access) is))

comes_from : (grain : Grain) (seen : List Seen) (grant : AllowGrant) → Comes grain seen grant → (request : Seen) × Contains seen request × (grant ≡ grant_for (region_of grain seen request.target) grant.access)
comes_from grain seen grant (inl comes) = (comes.request, comes.there, own_access _ _ grant comes.is)
comes_from grain seen grant (inr comes) = (comes.request, comes.there, own_access _ _ grant comes.is)

comes_moving : (grain : Grain) (seen : List Seen) (grant : AllowGrant) → Comes grain seen grant → is_class grant.access ≡ false → IsMovingGrant grain seen grant
comes_moving grain seen grant (inl comes) k = comes
comes_moving grain seen grant (inr comes) k = absurd (false≢true (sym k ∙ ap (λ (g : AllowGrant). is_class g.access) comes.is))

one_access : (grain : Grain) (seen : List Seen) (one other : AllowGrant) → IsMovingGrant grain seen one → IsMovingGrant grain seen other → one.pool ≡ other.pool → one.namespace ≡ other.namespace → one.access ≡ other.access
one_access grain seen one other first second pools namespaces =
    let here : Region = region_of grain seen first.request.target in
    let there : Region = region_of grain seen second.request.target in
    let same : here ≡ there = regions_from grain seen first.request.target second.request.target
    (sym (ap (λ (g : AllowGrant). g.pool) first.is) ∙ (pools ∙ ap (λ (g : AllowGrant). g.pool) second.is))
    (sym (ap (λ (g : AllowGrant). g.namespace) first.is) ∙ (namespaces ∙ ap (λ (g : AllowGrant). g.namespace) second.is)) in
    ap (λ (g : AllowGrant). g.access) first.is ∙ (ap (access_for seen) same ∙ sym (ap (λ (g : AllowGrant). g.access) second.is))

of_grain : (grain : Grain) (seen : List Seen) (entries : List Entry) → ((entry : Entry) → Contains entries entry → Comes grain seen entry.1) → IsOfGrain grain seen entries
of_grain grain seen entries comes = record {
  regions = λ entry h. comes_from grain seen entry.1 (comes entry h);
  one = λ entry other h k flags flags_too. one_access grain seen entry.1 other.1 (comes_moving grain seen entry.1 (comes entry h) flags) (comes_moving grain seen other.1 (comes other k) flags_too);
}

-- ---- what was seen is allowed

-- a request that asks for something, and does not read or write, has a call
has_call : (moving : Bool) (calls : List ClassCall) → moving ≡ false → (not moving && eqb (length calls) 0) ≡ false → (call : ClassCall) × Contains calls call
has_call true calls still h = absurd (false≢true (sym still))
has_call false [] still h = absurd (false≢true (sym h))
has_call false (call ∷ calls) still h = (call, contains_first call calls)

allows_seen : (grain : Grain) (seen : List Seen) (entries : List Entry) → HasCalls grain seen seen entries → ((request : Seen) → Contains seen request → asks_nothing request.needs ≡ false) → AllowsSeen seen entries
allows_seen grain seen entries has something request there = elim (true_or_false (moves request.needs)) [
  | inl moving ↦ allowed_by_flags grain seen entries request there moving (has.given request there moving)
  | inr still ↦
      let call = has_call (moves request.needs) request.needs.calls still (something request there) in
      let found = some_contains (λ (e : Entry). is_usable e.1 request.target request.needs && covers e.1.access call.0) entries (has.covered request there still call.0 call.1) in
      both _ _
      (any_contains (λ (e : Entry). is_usable e.1 request.target request.needs) entries found.0 found.1 (both_left _ _ found.2))
      (all_from (is_covered entries request.target request.needs) request.needs.calls (has.covered request there still))
]

-- ---- each grant is needed

usable_none : (entries : List Entry) (request : Seen) → ((entry : Entry) → Contains entries entry → is_usable entry.1 request.target request.needs ≡ true → ⊥) → grants_allow entries request.target request.needs ≡ false
usable_none entries request none = fails _
    (λ h. let found = some_contains (λ (e : Entry). is_usable e.1 request.target request.needs) entries (both_left _ _ h) in none found.0 found.1 found.2)

covered_none : (entries : List Entry) (request : Seen) (call : ClassCall) → Contains request.needs.calls call
    → ((entry : Entry) → Contains entries entry → is_usable entry.1 request.target request.needs ≡ true → covers entry.1.access call ≡ true → ⊥) → grants_allow entries request.target request.needs ≡ false
covered_none entries request call called none = fails _
    (λ h.
    let covered = all_contains (is_covered entries request.target request.needs) request.needs.calls call (both_right (list_any (λ (e : Entry). is_usable e.1 request.target request.needs) entries) _ h) called in
    let found = some_contains (λ (e : Entry). is_usable e.1 request.target request.needs && covers e.1.access call) entries covered in
    none found.0 found.1 (both_left _ _ found.2) (both_right (is_usable found.0.1 request.target request.needs) _ found.2))

-- a grant that is usable for a request of calls alone and covers a call that the region's flags do not cover is the grant of the call's method
same_call : (grain : Grain) (seen : List Seen) (grant other : AllowGrant) (comes : IsCallGrant grain seen grant) → Comes grain seen other → is_usable other comes.request.target comes.request.needs ≡ true
    → covers other.access comes.call ≡ true → other ≡ grant
same_call grain seen grant other comes (inl its) useful covered =
    let region : Region = region_of grain seen comes.request.target in
    let its_region : Region = region_of grain seen its.request.target in
    let same : region ≡ its_region = matched_region grain seen (access_for seen its_region) comes.request.target its.request.target
    (subst (λ g. matches g comes.request.target ≡ true) its.is (usable_matches other comes.request.target comes.request.needs useful)) in
    let covers_it : covers (access_for seen region) comes.call ≡ true =
    subst (λ (r : Region). covers (access_for seen r) comes.call ≡ true) (sym same) (subst (λ (g : AllowGrant). covers g.access comes.call ≡ true) its.is covered) in
    let moving : some_moving seen region (λ needs. true) ≡ true =
    moving_there seen region (λ needs. true) its.request its.there (subst (λ (r : Region). is_in r its.request.target ≡ true) (sym same) (in_own grain seen its.request its.there)) its.moving refl in
    absurd (false≢true (sym (comes.uncovered moving) ∙ covers_it))
same_call grain seen grant other comes (inr its) useful covered =
    let region : Region = region_of grain seen comes.request.target in
    let its_region : Region = region_of grain seen its.request.target in
    let same : region ≡ its_region = matched_region grain seen (Class its.call.class (Some its.call.method)) comes.request.target its.request.target
    (subst (λ g. matches g comes.request.target ≡ true) its.is (usable_matches other comes.request.target comes.request.needs useful)) in
    let covers_it : covers (Class its.call.class (Some its.call.method)) comes.call ≡ true = subst (λ (g : AllowGrant). covers g.access comes.call ≡ true) its.is covered in
    let class_is : its.call.class ≡ comes.call.class = same_bytes its.call.class comes.call.class (both_left _ _ covers_it) in
    let method_is : its.call.method ≡ comes.call.method = same_bytes its.call.method comes.call.method (both_right (bytes_eq its.call.class comes.call.class) _ covers_it) in
    its.is ∙ ((λ i. grant_for (sym same i) (Class (class_is i) (Some (method_is i)))) ∙ sym comes.is)

each_needed : (grain : Grain) (seen : List Seen) (entries : List Entry) → ((entry : Entry) → Contains entries entry → Comes grain seen entry.1) → AreApart entries → EachIsNeeded seen entries
each_needed grain seen entries comes apart front behind entry is = by (all entry (contains_between front behind entry))
  where
    all : (other : Entry) → Contains (front ++ entry ∷ behind) other → Comes grain seen other.1
    all other h = comes other (subst (λ (l : List Entry). Contains l other) (sym is) h)

    others : (other : Entry) → Contains (front ++ behind) other → other.1 ≡ entry.1 → ⊥
    others = apart_from front behind entry (subst AreApart is apart)

    by : Comes grain seen entry.1 → (request : Seen) × Contains seen request × (grants_allow (front ++ behind) request.target request.needs ≡ false)
    by (inl its) = (
      its.request,
      its.there,
      usable_none (front ++ behind) its.request
          (λ other h useful. others other h (usable_comes grain seen other.1 its.request (all other (contains_beside front behind entry other h)) its.moving useful ∙ sym its.is)),
    )
    by (inr its) = (
      its.request,
      its.there,
      covered_none (front ++ behind) its.request its.call its.called
          (λ other h useful covered. others other h (same_call grain seen entry.1 other.1 its (all other (contains_beside front behind entry other h)) useful covered)),
    )

-- ---- prefixes are the longest

longest : (grain : Grain) (seen : List Seen) (grant : AllowGrant) → Comes grain seen grant → HasLongestPrefix seen grant
longest grain seen grant comes prefix other is ascii each =
    let from = comes_from grain seen grant comes in
    let region : Region = region_of grain seen from.0.target in
    let its : region.prefix ≡ Some prefix = sym (ap (λ (g : AllowGrant). g.prefix) from.2) ∙ is in
    longest_there grain seen from.0.target prefix other its ascii
    (λ request there inside. each request there
    (subst (λ (g : AllowGrant). matches g request.target ≡ true) (sym from.2) (matches_in region grant.access request.target ∙ inside)))

-- where no request is left out, each asks for something
something : (allow_all : Bool) (seen : List Seen) → list_any (is_left_out allow_all) seen ≡ false → (request : Seen) → Contains seen request → asks_nothing request.needs ≡ false
something allow_all seen none request there = fails _
    (λ nothing. false≢true (sym none ∙ any_contains (is_left_out allow_all) seen request there (either (asks_nothing request.needs) _ nothing)))
  where
    either : (a b : Bool) → a ≡ true → (a || b) ≡ true
    either true b h = refl
    either false b h = absurd (false≢true h)

pub suggested : (grain : Grain) (allow_all : Bool) (seen : List Seen) (entries : List Entry) → list_any (is_left_out allow_all) seen ≡ false → HasCalls grain seen seen entries → IsSuggested grain seen entries
suggested grain allow_all seen entries none has = record {
  of_grain = of_grain grain seen entries has.comes;
  allows = allows_seen grain seen entries has (something allow_all seen none);
  least = is_least grain seen entries has.comes;
  needed = each_needed grain seen entries has.comes has.apart;
  longest = λ entry h. longest grain seen entry.1 (has.comes entry h);
  numbered = has.numbered;
}

none_passes : {X : Type 0} (p : X → Bool) (i : ℕ) (xs : List X) → position_from p i xs ≡ None → list_any p xs ≡ false
none_passes p i [] h = refl
none_passes p i (x ∷ xs) h = go (p x) (none_passes p (i + 1) xs) h
  where
    go : (b : Bool) → (position_from p (i + 1) xs ≡ None → list_any p xs ≡ false) → cond b (Some i) (position_from p (i + 1) xs) ≡ None → (b || list_any p xs) ≡ false
    go true rest k = absurd (cc)
    go false rest k = rest k

pub no_position : {X : Type 0} (p : X → Bool) (xs : List X) → position p xs ≡ None → list_any p xs ≡ false
no_position p xs h = none_passes p 0 xs (sym (position_from-zero p xs) ∙ h)
