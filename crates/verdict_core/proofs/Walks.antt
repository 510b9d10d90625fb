-- A walk along a chain misses no grant of it, and what is asked is given only in the chains that are walked.
use Rattle.std.proofs.Common.{◌≡◌, ℕ, suc, zero, ◌<◌, ◌≤◌, ◌⊎◌, inl, inr, List, [], ◌∷◌, ◌++◌, Bool, true, false, not, ◌&&◌, ◌||◌, cond, nat_eq, leb, Option, None, Some, length, length-append, get_or, take, drop, refl, sym, ap, subst, ◌∙◌, arith}
use Rattle.std.specs.Option.{IsSome, option_map, unwrap_or}
use Rattle.std.specs.List.{list_any, list_all, slice_get, starts_with}
use Rattle.std.specs.Str.{bytes_eq}
use Rattle.std.proofs.lemmas.Bool.{false≢true, and_parts, and_right, false_from_ne_true, cases_order, leb-true, le-leb}
use Rattle.std.proofs.lemmas.List.{take-append-le}
use Rattle.std.proofs.lemmas.Option.{slice_get_within}
use Rattle.std.proofs.lemmas.Slice.Eq.{bytes_eq-Decides, starts_is}
use Rattle.std.proofs.lemmas.Bool.Decides.{Decides-eqb}
use Rattle.cap_grants.specs.declared.grant.AllowGrant.{AllowGrant}
use Rattle.cap_grants.specs.declared.grant.Access.{Access}
use Rattle.cap_grants.specs.declared.grant.Access.TheVariants.{All, Flags, Class}
use Rattle.cap_grants.specs.declared.grant.Part.{Part}
use Rattle.cap_grants.specs.declared.grant.Part.TheVariants.{Any, Is}
use Rattle.cap_grants.specs.declared.grant.Tag.{Tag}
use Rattle.common_types.specs.declared.tags.AppTags.{AppTags}
use Rattle.verdict_core.specs.declared.kinds.IndexKey.{IndexKey}
use Rattle.verdict_core.specs.declared.kinds.IndexBy.{IndexBy}
use Rattle.verdict_core.specs.declared.kinds.IndexBy.TheVariants.{Nothing, ThePool, TheTag, TheClass}
use Rattle.request_types.specs.declared.request.Needs.{Needs}
use Rattle.request_types.specs.declared.request.ClassCall.{ClassCall}
use Rattle.request_types.specs.Target.{Target}
use Rattle.verdict_core.specs.Hash.{hash, folded}
use Rattle.verdict_core.specs.Kinds.{number_of_pairs, only_number, pair_hash, parts_hash, tag_hash, class_hash, named_hash, front_hash, chain_by, chain_in, chain_of, chains_of}
use Rattle.verdict_core.specs.Chains.{AreChained, NoneBefore, NoneOfKind, NoneOfPairs, NoneOfTags, gives}
use Rattle.verdict_core.specs.Verdict.{names, matches_namespace, matches_tag, matches_application, matches_pairs, matches_prefix, matches, can_read, can_write, is_usable, covers, is_covered}

-- ---- places and their chains

pub chain_at : (kinds : List IndexKey) (grants : List (List ℕ × AllowGrant)) (i : ℕ) (entry : List ℕ × AllowGrant) → slice_get grants i ≡ Some entry → (i < length grants) × (get_or (chains_of kinds grants) i 0 ≡ chain_of kinds entry.1)
chain_at kinds [] i entry at = absurd (cc)
chain_at kinds (g ∷ gs) zero entry at = let same : g ≡ entry = cc in (omega arith, ap (λ e. chain_of kinds e.1) same)
chain_at kinds (g ∷ gs) (suc i) entry at = let rest = chain_at kinds gs i entry at in (omega (arith, rest.0), rest.1)

pub length-chains_of : (kinds : List IndexKey) (grants : List (List ℕ × AllowGrant)) → length (chains_of kinds grants) ≡ length grants
length-chains_of kinds [] = refl
length-chains_of kinds (g ∷ gs) = ap suc (length-chains_of kinds gs)

-- the element that was read
pub got : (es : List (List ℕ × AllowGrant)) (i : ℕ) (e : List ℕ × AllowGrant) → i < length es → e ≡ get_or es i e → slice_get es i ≡ Some e
got [] i e h is = absurd (omega arith)
got (x ∷ xs) zero e h is = ap Some (sym is)
got (x ∷ xs) (suc i) e h is = got xs i e (omega arith) is

same_entry : (grants : List (List ℕ × AllowGrant)) (i j : ℕ) (a b : List ℕ × AllowGrant) → i ≡ j → slice_get grants i ≡ Some a → slice_get grants j ≡ Some b → a ≡ b
same_entry grants i j a b e x y = cc

-- ---- a walk

-- before the first place of a chain nothing is of the chain
pub none_first : (kinds : List IndexKey) (grants : List (List ℕ × AllowGrant)) (first next : List ℕ) (chain start : ℕ) (target : Target) (needs : Needs) (call : Option ClassCall) → chain < 257 → AreChained 0 (chains_of kinds grants) first next
    → start ≡ get_or first chain 0 → NoneBefore kinds start grants chain target needs call
none_first kinds grants first next chain start target needs call small c is i entry before at same =
    let here = chain_at kinds grants i entry at in
    absurd (c.first_is chain i small (omega arith) (omega arith) (omega (arith, here.0, length-chains_of kinds grants)) (here.1 ∙ same))

-- so it is between a place and the next one
pub none_next : (kinds : List IndexKey) (grants : List (List ℕ × AllowGrant)) (first next : List ℕ) (chain k later : ℕ) (entry : List ℕ × AllowGrant) (target : Target) (needs : Needs) (call : Option ClassCall) → AreChained 0 (chains_of kinds grants) first next
    → slice_get grants k ≡ Some entry → get_or (chains_of kinds grants) k 0 ≡ chain → gives entry.1 target needs call ≡ false → later ≡ get_or next k 0
    → NoneBefore kinds k grants chain target needs call → NoneBefore kinds later grants chain target needs call
none_next kinds grants first next chain k later entry target needs call c at_k same_k fails is none i found before at same =
    elim (cases_order i k) [
      | inl e ↦ ap (λ (x : List ℕ × AllowGrant). gives x.1 target needs call) (same_entry grants i k found entry e at at_k) ∙ fails
      | inr o ↦ elim o [
        | inl lower ↦ none i found lower at same
        | inr higher ↦
            let here = chain_at kinds grants i found at in
            let there = chain_at kinds grants k entry at_k in
            absurd (c.next_is k i (omega arith) (omega (arith, there.0, length-chains_of kinds grants)) higher (omega arith) (omega (arith, here.0, length-chains_of kinds grants)) (here.1 ∙ same ∙ sym same_k))
      ]
    ]

-- ---- which chains are walked

is_same : (a b : List ℕ) → bytes_eq a b ≡ true → a ≡ b
is_same a b h = (bytes_eq-Decides a b).0 h

some_by : (b : Bool) (x f : ℕ) → cond b (Some x) None ≡ Some f → (b ≡ true) × (x ≡ f)
some_by true x f h = (refl, cc)
some_by false x f h = absurd (cc)

-- a text that goes on has the same front
front_of_longer : (text rest : List ℕ) (n f : ℕ) → front_hash text n ≡ Some f → front_hash (text ++ rest) n ≡ Some f
front_of_longer text rest n f h =
    let parts = some_by (leb n (length text)) (hash (take n text)) f h in
    let inside : n ≤ length text = leb-true n (length text) parts.0 in
    let longer : leb n (length (text ++ rest)) ≡ true = le-leb n (length (text ++ rest)) (omega (arith, length-append text rest)) in
    ap (λ b. cond b (Some (hash (take n (text ++ rest)))) None) longer ∙ ap (λ bytes. Some (hash bytes)) (take-append-le n text rest inside) ∙ ap Some parts.1

with_front : (text front : List ℕ) → starts_with nat_eq text front ≡ true → text ≡ front ++ drop (length front) text
with_front text front = (starts_is Decides-eqb text front (starts_with nat_eq text front) refl).0

-- an object that a prefix fits has its front
front_same : (prefix : Option (List ℕ)) (object : List ℕ) (n f : ℕ) → matches_prefix prefix object ≡ true → front_hash (unwrap_or prefix []) n ≡ Some f → front_hash object n ≡ Some f
front_same None object n f fits h = front_of_longer [] object n f h
front_same (Some prefix) [] n f fits h = absurd (false≢true fits)
front_same (Some prefix) (b ∷ bs) n f fits h =
    ap (λ text. front_hash text n) (with_front (b ∷ bs) prefix fits) ∙ front_of_longer prefix (drop (length prefix) (b ∷ bs)) n f h

-- an application with a pair has this number
pub record HasPair (tags : List AppTags) (number : ℕ) : Type 0 where
  pub place : ℕ
  pub app : AppTags
  pub app_at : slice_get tags place ≡ Some app
  pub pair_place : ℕ
  pub pair : List ℕ × List ℕ
  pub pair_at : slice_get app.pairs pair_place ≡ Some pair
  pub is : number ≡ pair_hash app.application pair.0 pair.1

-- the class that is asked for has this number
abbrev pub IsOfClass : Option ClassCall → ℕ → Type 0
IsOfClass None number = ⊥
IsOfClass (Some call) number = number ≡ hash call.class

-- what the request names has this number
abbrev pub IsNamed : IndexBy → Target → Option ClassCall → ℕ → Type 0
IsNamed Nothing target call number = number ≡ 0
IsNamed ThePool target call number = number ≡ hash target.pool
IsNamed TheTag target call number = HasPair target.tags number
IsNamed TheClass target call number = IsOfClass call number

-- a chain in which a request looks for grants of a kind
pub record IsWalked (kind : IndexKey) (target : Target) (call : Option ClassCall) (chain : ℕ) : Type 0 where
  pub named : ℕ
  pub front : ℕ
  pub has_front : front_hash target.object kind.front ≡ Some front
  pub is_named : IsNamed kind.named target call named
  pub is : chain ≡ folded named front

-- one that passes, with its place
record Passes {X : Type 0} (p : X → Bool) (xs : List X) : Type 0 where
  place : ℕ
  it : X
  at : slice_get xs place ≡ Some it
  passes : p it ≡ true

passing : {X : Type 0} (p : X → Bool) (xs : List X) → list_any p xs ≡ true → Passes p xs
passing p [] h = absurd (false≢true h)
passing {X = X} p (x ∷ xs) h = first (p x) refl h (passing p xs)
  where
    first : (b : Bool) → p x ≡ b → (b || list_any p xs) ≡ true → (list_any p xs ≡ true → Passes p xs) → Passes p (x ∷ xs)
    first true e h later = record { place = 0; it = x; at = refl; passes = e }
    first false e h later = let rest = later h in record { place = suc rest.place; it = rest.it; at = rest.at; passes = rest.passes }

of_pool : (pool : Option (List ℕ)) (name : List ℕ) (number : ℕ) → names pool name ≡ true → option_map hash pool ≡ Some number → number ≡ hash name
of_pool None name number named is = absurd (cc)
of_pool (Some pool) name number named is = let same : hash pool ≡ number = cc in sym same ∙ ap hash (is_same pool name named)

of_app : (application : List ℕ) (key value : Part) (tags : List AppTags) (number place : ℕ) (app : AppTags) → slice_get tags place ≡ Some app
    → (bytes_eq application app.application && matches_pairs key value app.pairs) ≡ true → parts_hash application key value ≡ Some number → HasPair tags number
of_app application (Is key) (Is value) tags number place app at fits is =
    let both = and_parts (bytes_eq application app.application) (matches_pairs (Is key) (Is value) app.pairs) fits in
    let found = passing (λ (pair : List ℕ × List ℕ). bytes_eq key pair.0 && bytes_eq value pair.1) app.pairs both.1 in
    let parts = and_parts (bytes_eq key found.it.0) (bytes_eq value found.it.1) found.passes in
    let number_is : pair_hash application key value ≡ number = cc in
    record {
      place = place;
      app = app;
      app_at = at;
      pair_place = found.place;
      pair = found.it;
      pair_at = found.at;
      is = sym number_is ∙ ap (λ a. pair_hash a key value) (is_same application app.application both.0) ∙ ap (λ k. pair_hash app.application k value) (is_same key found.it.0 parts.0)
          ∙ ap (λ v. pair_hash app.application found.it.0 v) (is_same value found.it.1 parts.1);
    }
of_app application (Is key) Any tags number place app at fits is = absurd (cc)
of_app application Any value tags number place app at fits is = absurd (cc)

of_tag : (tag : Option Tag) (tags : List AppTags) (number : ℕ) → matches_tag tag tags ≡ true → tag_hash tag ≡ Some number → HasPair tags number
of_tag None tags number fits is = absurd (cc)
of_tag (Some tag) tags number fits is =
    let found = passing (matches_application tag) tags fits in
    of_app tag.application tag.key tag.value tags number found.place found.it found.at found.passes is

reads_nothing : (reads writes : Bool) → (not reads || false) ≡ true → (not writes || false) ≡ true → (reads || writes) ≡ true → ⊥
reads_nothing true writes r w h = false≢true r
reads_nothing false true r w h = false≢true w
reads_nothing false false r w h = false≢true h

abbrev IsCovered : Option ClassCall → Access → Type 0
IsCovered None access = Unit {0}
IsCovered (Some call) access = covers access call ≡ true

of_class : (access : Access) (reads writes : Bool) (call : Option ClassCall) (number : ℕ) → ((reads || writes ≡ true) ⊎ IsSome call)
    → (not reads || can_read access) ≡ true → (not writes || can_write access) ≡ true → IsCovered call access → class_hash access ≡ Some number → IsOfClass call number
of_class All reads writes call number asked r w covered is = absurd (cc)
of_class (Flags flags) reads writes call number asked r w covered is = absurd (cc)
of_class (Class class method) reads writes None number (inl some) r w covered is = absurd (reads_nothing reads writes r w some)
of_class (Class class method) reads writes None number (inr some) r w covered is = absurd (false≢true some)
of_class (Class class method) reads writes (Some call) number asked r w covered is =
    let same : hash class ≡ number = cc in
    sym same ∙ ap hash (is_same class call.class (and_parts _ _ covered).0)

usable_and_covered : (g : AllowGrant) (target : Target) (needs : Needs) (call : Option ClassCall) → gives g target needs call ≡ true → (is_usable g target needs ≡ true) × IsCovered call g.access
usable_and_covered g target needs None h = (h, tt)
usable_and_covered g target needs (Some call) h = and_parts (is_usable g target needs) (covers g.access call) h

-- what a grant names that gives what is asked, the request names
named_same : (named : IndexBy) (g : AllowGrant) (target : Target) (needs : Needs) (call : Option ClassCall) (number : ℕ) → ((needs.reads || needs.writes ≡ true) ⊎ IsSome call)
    → names g.pool target.pool ≡ true → matches_tag g.tag target.tags ≡ true → (not needs.reads || can_read g.access) ≡ true → (not needs.writes || can_write g.access) ≡ true → IsCovered call g.access
    → named_hash named g ≡ Some number → IsNamed named target call number
named_same Nothing g target needs call number asked pool tag r w covered is = let same : 0 ≡ number = cc in sym same
named_same ThePool g target needs call number asked pool tag r w covered is = of_pool g.pool target.pool number pool is
named_same TheTag g target needs call number asked pool tag r w covered is = of_tag g.tag target.tags number tag is
named_same TheClass g target needs call number asked pool tag r w covered is = of_class g.access needs.reads needs.writes call number asked r w covered is

record BothParts (named front : Option ℕ) (chain : ℕ) : Type 0 where
  number : ℕ
  first : ℕ
  named_is : named ≡ Some number
  front_is : front ≡ Some first
  is : chain ≡ folded number first

both_parts : (named front : Option ℕ) (chain : ℕ) → chain_by named front ≡ Some chain → BothParts named front chain
both_parts None front chain h = absurd (cc)
both_parts (Some number) None chain h = absurd (cc)
both_parts (Some number) (Some first) chain h = let same : folded number first ≡ chain = cc in record { number = number; first = first; named_is = refl; front_is = refl; is = sym same }

-- a grant of a kind that gives what is asked is in a chain that is walked
pub giver_walked : (kind : IndexKey) (g : AllowGrant) (target : Target) (needs : Needs) (call : Option ClassCall) (chain : ℕ) → ((needs.reads || needs.writes ≡ true) ⊎ IsSome call) → chain_in kind g ≡ Some chain → gives g target needs call ≡ true
    → IsWalked kind target call chain
unfolding chain_in
giver_walked kind g target needs call chain asked in_it h =
    let both = usable_and_covered g target needs call h in
    let writes = and_parts (matches g target && (not needs.reads || can_read g.access)) (not needs.writes || can_write g.access) both.0 in
    let reads = and_parts (matches g target) (not needs.reads || can_read g.access) writes.0 in
    let prefix = and_parts (names g.pool target.pool && matches_namespace g.namespace target.namespace && matches_tag g.tag target.tags) (matches_prefix g.prefix target.object) reads.0 in
    let tag = and_parts (names g.pool target.pool && matches_namespace g.namespace target.namespace) (matches_tag g.tag target.tags) prefix.0 in
    let pool = and_parts (names g.pool target.pool) (matches_namespace g.namespace target.namespace) tag.0 in
    let parts = both_parts (named_hash kind.named g) (front_hash (unwrap_or g.prefix []) kind.front) chain in_it in
    record {
      named = parts.number;
      front = parts.first;
      has_front = front_same g.prefix target.object kind.front parts.first prefix.1 parts.front_is;
      is_named = named_same kind.named g target needs call parts.number asked pool.0 tag.1 reads.1 writes.1 both.1 parts.named_is;
      is = parts.is;
    }

-- ---- a kind

-- no grant of a kind gives what is asked, where none does in the chains that are walked
pub none_of_kind : (kind : IndexKey) (kinds : List IndexKey) (grants : List (List ℕ × AllowGrant)) (target : Target) (needs : Needs) (call : Option ClassCall) → ((needs.reads || needs.writes ≡ true) ⊎ IsSome call)
    → ((chain : ℕ) → IsWalked kind target call chain → NoneBefore kinds (length grants) grants chain target needs call) → NoneOfKind kind kinds grants target needs call
none_of_kind kind kinds grants target needs call asked walked i entry at in_it =
    false_from_ne_true (gives entry.1 target needs call) (λ yes.
    let walk = giver_walked kind entry.1 target needs call (chain_of kinds entry.1) asked in_it yes in
    false≢true (sym (walked (chain_of kinds entry.1) walk i entry (chain_at kinds grants i entry at).0 at refl) ∙ yes))

same_number : (a b : ℕ) (x y : Option ℕ) → x ≡ Some a → y ≡ Some b → x ≡ y → a ≡ b
same_number a b x y p q e = cc

-- where the object is too short
pub none_of_short : (kind : IndexKey) (kinds : List IndexKey) (grants : List (List ℕ × AllowGrant)) (target : Target) (needs : Needs) (call : Option ClassCall) → ((needs.reads || needs.writes ≡ true) ⊎ IsSome call)
    → front_hash target.object kind.front ≡ None → NoneOfKind kind kinds grants target needs call
none_of_short kind kinds grants target needs call asked none =
    none_of_kind kind kinds grants target needs call asked (λ chain walk. let has = walk.has_front in absurd (cc))

never_asked : (named : IndexBy) (target : Target) (call : Option ClassCall) (number : ℕ) → named ≡ TheClass → call ≡ None → IsNamed named target call number → ⊥
never_asked named target call number by_class none h = subst (λ asked. IsOfClass asked number) none (subst (λ n. IsNamed n target call number) by_class h)

-- where no class is asked for
pub none_of_unasked : (kind : IndexKey) (kinds : List IndexKey) (grants : List (List ℕ × AllowGrant)) (target : Target) (needs : Needs) (call : Option ClassCall) → ((needs.reads || needs.writes ≡ true) ⊎ IsSome call)
    → kind.named ≡ TheClass → call ≡ None → NoneOfKind kind kinds grants target needs call
none_of_unasked kind kinds grants target needs call asked by_class none =
    none_of_kind kind kinds grants target needs call asked (λ chain walk. absurd (never_asked kind.named target call walk.named by_class none walk.is_named))

-- what the request names, by what it is
pub by_nothing : (named : IndexBy) (target : Target) (call : Option ClassCall) (number : ℕ) → named ≡ Nothing → IsNamed named target call number → number ≡ 0
by_nothing named target call number is h = subst (λ n. IsNamed n target call number) is h

pub by_pool : (named : IndexBy) (target : Target) (call : Option ClassCall) (number : ℕ) → named ≡ ThePool → IsNamed named target call number → number ≡ hash target.pool
by_pool named target call number is h = subst (λ n. IsNamed n target call number) is h

pub by_class : (named : IndexBy) (target : Target) (call : Option ClassCall) (asked : ClassCall) (number : ℕ) → named ≡ TheClass → call ≡ Some asked → IsNamed named target call number → number ≡ hash asked.class
by_class named target call asked number is some h = subst (λ o. IsOfClass o number) some (subst (λ n. IsNamed n target call number) is h)

-- where the chain of what is named was walked
pub none_of_named : (kind : IndexKey) (kinds : List IndexKey) (grants : List (List ℕ × AllowGrant)) (target : Target) (needs : Needs) (call : Option ClassCall) (named front : ℕ) → ((needs.reads || needs.writes ≡ true) ⊎ IsSome call)
    → front_hash target.object kind.front ≡ Some front → ((number : ℕ) → IsNamed kind.named target call number → number ≡ named) → NoneBefore kinds (length grants) grants (folded named front) target needs call → NoneOfKind kind kinds grants target needs call
none_of_named kind kinds grants target needs call named front asked has only none =
    none_of_kind kind kinds grants target needs call asked (λ chain walk.
    let fronts : walk.front ≡ front = same_number walk.front front (front_hash target.object kind.front) (front_hash target.object kind.front) walk.has_front has refl in
    let numbers : walk.named ≡ named = only walk.named walk.is_named in
    subst (λ k. NoneBefore kinds (length grants) grants k target needs call) (ap (λ n. folded n front) (sym numbers) ∙ ap (λ f. folded walk.named f) (sym fronts) ∙ sym walk.is) none)

-- where the chains of all pairs were walked
pub none_of_tags : (kind : IndexKey) (kinds : List IndexKey) (grants : List (List ℕ × AllowGrant)) (target : Target) (needs : Needs) (call : Option ClassCall) (front : ℕ) → ((needs.reads || needs.writes ≡ true) ⊎ IsSome call)
    → kind.named ≡ TheTag → front_hash target.object kind.front ≡ Some front → NoneOfTags (length target.tags) target.tags front kinds grants target needs call → NoneOfKind kind kinds grants target needs call
none_of_tags kind kinds grants target needs call front asked by_tag has none =
    none_of_kind kind kinds grants target needs call asked (λ chain walk.
    let fronts : walk.front ≡ front = same_number walk.front front (front_hash target.object kind.front) (front_hash target.object kind.front) walk.has_front has refl in
    let pair : HasPair target.tags walk.named = subst (λ n. IsNamed n target call walk.named) by_tag walk.is_named in
    subst (λ k. NoneBefore kinds (length grants) grants k target needs call) (ap (λ n. folded n front) (sym pair.is) ∙ ap (λ f. folded walk.named f) (sym fronts) ∙ sym walk.is)
    (none pair.place pair.app (slice_get_within target.tags pair.place pair.app pair.app_at) pair.app_at pair.pair_place pair.pair (slice_get_within pair.app.pairs pair.pair_place pair.pair pair.pair_at) pair.pair_at))

-- tags of one application with one pair have one chain
none_of_only_pair : (kinds : List IndexKey) (grants : List (List ℕ × AllowGrant)) (target : Target) (needs : Needs) (call : Option ClassCall) (application : List ℕ) (pairs : List (List ℕ × List ℕ)) (front number : ℕ)
    → number_of_pairs application pairs ≡ Some number → NoneBefore kinds (length grants) grants (folded number front) target needs call → NoneOfPairs (length pairs) pairs application front kinds grants target needs call
none_of_only_pair kinds grants target needs call application [] front number only none j pair below at = absurd (omega arith)
none_of_only_pair kinds grants target needs call application (found ∷ []) front number only none zero pair below at =
    let same : found ≡ pair = cc in
    let here : number ≡ pair_hash application found.0 found.1 = cc in
    subst (λ p. NoneBefore kinds (length grants) grants (folded (pair_hash application p.0 p.1) front) target needs call) same
    (subst (λ n. NoneBefore kinds (length grants) grants (folded n front) target needs call) here none)
none_of_only_pair kinds grants target needs call application (found ∷ []) front number only none (suc j) pair below at = absurd (omega arith)
none_of_only_pair kinds grants target needs call application (found ∷ other ∷ more) front number only none j pair below at = absurd (cc)

pub none_of_only_tag : (kinds : List IndexKey) (grants : List (List ℕ × AllowGrant)) (target : Target) (needs : Needs) (call : Option ClassCall) (tags : List AppTags) (front number : ℕ)
    → only_number tags ≡ Some number → NoneBefore kinds (length grants) grants (folded number front) target needs call → NoneOfTags (length tags) tags front kinds grants target needs call
none_of_only_tag kinds grants target needs call [] front number only none j app below at = absurd (omega arith)
none_of_only_tag kinds grants target needs call (found ∷ []) front number only none zero app below at =
    let same : found ≡ app = cc in
    subst (λ (a : AppTags). NoneOfPairs (length a.pairs) a.pairs a.application front kinds grants target needs call) same
    (none_of_only_pair kinds grants target needs call found.application found.pairs front number only none)
none_of_only_tag kinds grants target needs call (found ∷ []) front number only none (suc j) app below at = absurd (omega arith)
none_of_only_tag kinds grants target needs call (found ∷ other ∷ more) front number only none j app below at = absurd (cc)

-- ---- the kinds together

none_passes : (p : List ℕ × AllowGrant → Bool) (es : List (List ℕ × AllowGrant)) → ((i : ℕ) (e : List ℕ × AllowGrant) → slice_get es i ≡ Some e → p e ≡ false) → list_any p es ≡ false
none_passes p [] h = refl
none_passes p (e ∷ es) h = rw (h 0 e refl) (none_passes p es (λ i x at. h (suc i) x at))

-- the kind by which a grant is found
record FoundBy (kinds : List IndexKey) (g : AllowGrant) : Type 0 where
  place : ℕ
  kind : IndexKey
  at : slice_get kinds place ≡ Some kind
  in_it : chain_in kind g ≡ Some (chain_of kinds g)

found_by : (kinds : List IndexKey) (g : AllowGrant) → (chain_of kinds g ≡ 256) ⊎ FoundBy kinds g
found_by [] g = inl refl
found_by (kind ∷ kinds) g = first (chain_in kind g) refl (found_by kinds g)
  where
    later : (o : Option ℕ) → chain_in kind g ≡ o → o ≡ None → (chain_of kinds g ≡ 256) ⊎ FoundBy kinds g → (chain_of (kind ∷ kinds) g ≡ 256) ⊎ FoundBy (kind ∷ kinds) g
    later o e none (inl other) = inl (ap (λ x. unwrap_or x (chain_of kinds g)) (e ∙ none) ∙ other)
    later o e none (inr found) = inr (record { place = suc found.place; kind = found.kind; at = found.at; in_it = found.in_it ∙ ap Some (sym (ap (λ x. unwrap_or x (chain_of kinds g)) (e ∙ none))) })

    first : (o : Option ℕ) → chain_in kind g ≡ o → (chain_of kinds g ≡ 256) ⊎ FoundBy kinds g → (chain_of (kind ∷ kinds) g ≡ 256) ⊎ FoundBy (kind ∷ kinds) g
    first None e rest = later None e refl rest
    first (Some chain) e rest = inr (record { place = 0; kind = kind; at = refl; in_it = e ∙ ap Some (sym (ap (λ x. unwrap_or x (chain_of kinds g)) e)) })

-- if no grant that is found by a kind gives what is asked, and none of the others does, no grant does
pub none_gives : (kinds : List IndexKey) (grants : List (List ℕ × AllowGrant)) (target : Target) (needs : Needs) (call : Option ClassCall)
    → NoneBefore kinds (length grants) grants 256 target needs call → ((j : ℕ) (kind : IndexKey) → j < length kinds → slice_get kinds j ≡ Some kind → NoneOfKind kind kinds grants target needs call)
    → false ≡ list_any (λ entry. gives entry.1 target needs call) grants
none_gives kinds grants target needs call others each =
    sym (none_passes (λ entry. gives entry.1 target needs call) grants (λ i e at. fails i e at (found_by kinds e.1)))
  where
    fails : (i : ℕ) (e : List ℕ × AllowGrant) → slice_get grants i ≡ Some e → (chain_of kinds e.1 ≡ 256) ⊎ FoundBy kinds e.1 → gives e.1 target needs call ≡ false
    fails i e at (inl other) = others i e (chain_at kinds grants i e at).0 at other
    fails i e at (inr found) = each found.place found.kind (slice_get_within kinds found.place found.kind found.at) found.at i e at found.in_it

-- ---- a verdict by the calls alone

usable_where_covered : (grants : List (List ℕ × AllowGrant)) (target : Target) (needs : Needs) (call : ClassCall) → is_covered grants target needs call ≡ true → list_any (λ entry. is_usable entry.1 target needs) grants ≡ true
usable_where_covered [] target needs call h = h
usable_where_covered (e ∷ es) target needs call h = first (is_usable e.1 target needs) (covers e.1.access call) (is_covered es target needs call) (list_any (λ entry. is_usable entry.1 target needs) es) h (usable_where_covered es target needs call)
  where
    first : (u c rest all : Bool) → ((u && c) || rest) ≡ true → (rest ≡ true → all ≡ true) → (u || all) ≡ true
    first true c rest all h later = refl
    first false c rest all h later = later h

by_first : (grants : List (List ℕ × AllowGrant)) (target : Target) (needs : Needs) (call : ClassCall) (calls : List ClassCall) → (b : Bool) → list_all (is_covered grants target needs) (call ∷ calls) ≡ b
    → list_all (is_covered grants target needs) (call ∷ calls) ≡ (list_any (λ entry. is_usable entry.1 target needs) grants && list_all (is_covered grants target needs) (call ∷ calls))
by_first grants target needs call calls true all =
    let covered : is_covered grants target needs call ≡ true = (and_parts (is_covered grants target needs call) (list_all (is_covered grants target needs) calls) all).0 in
    rw (usable_where_covered grants target needs call covered) refl
by_first grants target needs call calls false all = all ∙ sym (and_right (list_any (λ entry. is_usable entry.1 target needs) grants) (list_all (is_covered grants target needs) (call ∷ calls)) all)

-- where there are calls, they decide
pub by_calls : (grants : List (List ℕ × AllowGrant)) (target : Target) (needs : Needs) (asked : List ClassCall) → (asked ≡ [] → ⊥)
    → list_all (is_covered grants target needs) asked ≡ (list_any (λ entry. is_usable entry.1 target needs) grants && list_all (is_covered grants target needs) asked)
by_calls grants target needs [] some = absurd (some refl)
by_calls grants target needs (call ∷ calls) some = by_first grants target needs call calls (list_all (is_covered grants target needs) (call ∷ calls)) refl
