-- No grant of a text is idle: some target is matched by it, and some request is given by its access.
use Rattle.std.proofs.Common.{◌≡◌, ◌≢◌, ◌≤◌, ℕ, ◌+◌, ◌-◌, ◌<◌, List, [], ◌∷◌, ◌++◌, Bool, true, false, not, ◌||◌, Option, None, Some, map, reverse, take, length, get_or, codes, cond, refl, sym, subst, ◌∙◌, arith}
use Rattle.std.specs.List.{AllPairs, list_any, list_all}
use Rattle.std.specs.Str.{bytes_eq}
use Rattle.std.proofs.lemmas.List.Elements.{All-nil, All-cons}
use Rattle.std.proofs.lemmas.List.Folds.{list_any-append}
use Rattle.cap_grants.specs.Spellable.{is_access}
use Rattle.cap_grants.specs.declared.grant.Access.{Access}
use Rattle.cap_grants.specs.declared.grant.Access.TheVariants.{All, Flags, Class}
use Rattle.cap_grants.specs.declared.grant.Flags.{Flags as FourFlags}
use Rattle.cap_grants.specs.declared.grant.AllowGrant.{AllowGrant}
use Rattle.cap_grants.specs.declared.grant.Grant.{Grant}
use Rattle.cap_grants.specs.declared.grant.Grant.TheVariants.{Allow, Profile}
use Rattle.cap_grants.specs.declared.grant.NsMatch.{NsMatch}
use Rattle.cap_grants.specs.declared.grant.NsMatch.TheVariants.{Exact, Prefix}
use Rattle.cap_grants.specs.declared.grant.Part.{Part}
use Rattle.cap_grants.specs.declared.grant.Part.TheVariants.{Any, Is}
use Rattle.cap_grants.specs.declared.grant.ProfileUse.{ProfileUse}
use Rattle.cap_grants.specs.declared.grant.Tag.{Tag}
use Rattle.cap_text.proofs.SpelledGrants.{text_is_spellable}
use Rattle.common_types.specs.declared.tags.AppTags.{AppTags}
use Rattle.grant_core.specs.BuiltIn.{built_in}
use Rattle.grant_core.specs.Flat.{Flat, filled_use, flat, parts_of, under}
use Rattle.grant_core.specs.Refusal.{has_profile}
use Rattle.request_types.specs.Target.{Target}
use Rattle.verdict_core.specs.Verdict.{can_read, can_write, covers, is_covered, is_usable, matches, matches_namespace, matches_pairs, matches_prefix, matches_tag, names}
use Rattle.request_types.specs.declared.request.ClassCall.{ClassCall}
use Rattle.request_types.specs.declared.request.Needs.{Needs}
use Rattle.compare_core.specs.Widening.{IsAskedBy, IsCallBy, asks_something}
use Rattle.compare_core.specs.declared.registry.Registry.TheVariants.{Every}
use Rattle.compare_core.proofs.Possible.{no_application, none_differ, one_application, one_differs}
use Rattle.map_core.specs.PossibleTags.{ArePossible}
use Rattle.compare_core.proofs.Bools.{all_also, both, both_left, either_first}
use Rattle.compare_core.proofs.Fronts.{front_of_itself, text_same}
use Rattle.lint_core.specs.Idle.{AreIdle, NoneIsIdle}
use Rattle.lint_core.specs.Lint.{alone}
use Rattle.lint_core.specs.Parts.{CanExpand}
use Rattle.lint_core.proofs.Allowed.{any_of_use}
use Rattle.lint_core.proofs.Places.{one_alone}
use Rattle.lint_core.proofs.Steps.{first_of_list}
use Rattle.lint_core.proofs.Sublists.{known_name, only}

-- ---- a target that a grant matches

pool_for : (wanted : Option (List ℕ)) → (pool : List ℕ) × (names wanted pool ≡ true)
pool_for None = ([], refl)
pool_for (Some pool) = (pool, text_same pool pool refl)

namespace_for : (wanted : Option NsMatch) → (namespace : List ℕ) × (matches_namespace wanted namespace ≡ true)
namespace_for None = ([], refl)
namespace_for (Some (Exact name)) = (name, text_same name name refl)
namespace_for (Some (Prefix front)) = (front, front_of_itself front)

filled : (b : ℕ) (bs : List ℕ) → b ∷ bs ≢ []
filled b bs e = absurd (cc)

object_for : (wanted : Option (List ℕ)) → (object : List ℕ) × (matches_prefix wanted object ≡ true) × (object ≢ [])
object_for None = (97 ∷ [], refl, filled 97 [])
object_for (Some []) = (97 ∷ [], refl, filled 97 [])
object_for (Some (b ∷ bs)) = (b ∷ bs, front_of_itself (b ∷ bs), filled b bs)

pairs_for : (key value : Part) → (pairs : List (List ℕ × List ℕ)) × (matches_pairs key value pairs ≡ true) × AllPairs (λ p q. p.0 ≢ q.0) pairs
pairs_for Any Any = ([], refl, none_differ (λ p q. p.0 ≢ q.0))
pairs_for Any (Is value) = (([], value) ∷ [], either_first _ _ (text_same value value refl), one_differs (λ p q. p.0 ≢ q.0) ([], value))
pairs_for (Is key) Any = ((key, []) ∷ [], either_first _ _ (both _ _ (text_same key key refl) refl), one_differs (λ p q. p.0 ≢ q.0) (key, []))
pairs_for (Is key) (Is value) = ((key, value) ∷ [], either_first _ _ (both _ _ (text_same key key refl) (text_same value value refl)), one_differs (λ p q. p.0 ≢ q.0) (key, value))

tags_for : (wanted : Option Tag) → (tags : List AppTags) × (matches_tag wanted tags ≡ true) × ArePossible tags
tags_for None = ([], refl, no_application)
tags_for (Some tag) =
    let pairs = pairs_for tag.key tag.value in
    let app : AppTags = record { application = tag.application; pairs = pairs.0 } in
    (app ∷ [], either_first _ _ (both _ _ (text_same tag.application tag.application refl) pairs.1), one_application app pairs.2)

target_for : (g : AllowGrant) → (target : Target) × (matches g target ≡ true) × ArePossible target.tags × (target.object ≢ [])
target_for g =
    let pool = pool_for g.pool in
    let tags = tags_for g.tag in
    let namespace = namespace_for g.namespace in
    let object = object_for g.prefix in
    (record { pool = pool.0; tags = tags.0; namespace = namespace.0; object = object.0 }, both _ _ (both _ _ (both _ _ pool.1 namespace.1) tags.1) object.1, tags.2, object.2)

-- ---- a request that an access gives

record Given (access : Access) : Type 0 where
  needs : Needs
  asked : IsAskedBy Every needs
  few : length needs.calls ≤ 16
  something : asks_something needs ≡ true
  reads : (not needs.reads || can_read access) ≡ true
  writes : (not needs.writes || can_write access) ≡ true
  calls : list_all (covers access) needs.calls ≡ true

a_read : Needs
a_read = record { reads = true; writes = false; calls = [] }

a_write : Needs
a_write = record { reads = false; writes = true; calls = [] }

a_call : ClassCall → Needs
a_call call = record { reads = false; writes = false; calls = call ∷ [] }

listed_call : Bool → Bool → ClassCall
listed_call reads writes = record { class = []; method = []; class_reads = reads; class_writes = writes; listed = true }

given_call : (access : Access) (call : ClassCall) → IsCallBy Every call → covers access call ≡ true → Given access
unfolding a_call
given_call access call asked covered =
    record { needs = a_call call; asked = All-cons (IsCallBy Every) call [] asked (All-nil (IsCallBy Every)); few = omega arith; something = refl; reads = refl; writes = refl; calls = both _ _ covered refl }

given_flags : (r w x y : Bool) → (r || (w || (x || y))) ≡ true → Given (Flags (record { read = r; write = w; class_read = x; class_write = y }))
unfolding a_read a_write listed_call
given_flags true w x y h = record { needs = a_read; asked = All-nil (IsCallBy Every); few = omega arith; something = refl; reads = refl; writes = refl; calls = refl }
given_flags false true x y h = record { needs = a_write; asked = All-nil (IsCallBy Every); few = omega arith; something = refl; reads = refl; writes = refl; calls = refl }
given_flags false false true y h = given_call (Flags (record { read = false; write = false; class_read = true; class_write = y })) (listed_call true false) refl refl
given_flags false false false true h = given_call (Flags (record { read = false; write = false; class_read = false; class_write = true })) (listed_call false true) refl refl
given_flags false false false false h = absurd (cc)

given : (access : Access) → is_access access ≡ true → Given access
unfolding a_read
given All h = record { needs = a_read; asked = All-nil (IsCallBy Every); few = omega arith; something = refl; reads = refl; writes = refl; calls = refl }
given (Flags flags) h = given_flags flags.read flags.write flags.class_read flags.class_write h
given (Class class method) h =
    let name = pool_for method in
    given_call (Class class method) (record { class = class; method = name.0; class_reads = true; class_writes = false; listed = false }) refl (both _ _ (text_same class class refl) name.1)

allow_gives : (entry : List ℕ × AllowGrant) → is_access entry.1.access ≡ true → ¬ AreIdle (entry ∷ [])
allow_gives entry h idle =
    let target = target_for entry.1 in
    let gives = given entry.1.access h in
    let useful : is_usable entry.1 target.0 gives.needs ≡ true = both _ _ (both _ _ target.1 gives.reads) gives.writes in
    idle target.0 gives.needs (record { tags = target.2; needs = record { calls = gives.asked; few = gives.few; something = gives.something }; listing = λ empty. absurd (target.3 empty) })
    (both _ _ (either_first _ _ useful)
    (all_also (covers entry.1.access) (is_covered (entry ∷ []) target.0 gives.needs) gives.needs.calls (λ call covered. either_first _ _ (both _ _ useful covered)) gives.calls))

-- ---- profiles

-- a grant of a profile where it is used
used_as : ProfileUse → FourFlags → AllowGrant
used_as used flags = record { access = Flags flags; pool = used.pool; namespace = used.namespace; prefix = None; tag = None }

place_of : ProfileUse → Target
place_of used = record { pool = (pool_for used.pool).0; tags = []; namespace = (namespace_for used.namespace).0; object = [] }

-- a profile's grant reads there
reads_there : (used : ProfileUse) (w x y : Bool) → is_usable (used_as used (record { read = true; write = w; class_read = x; class_write = y })) (place_of used) a_read ≡ true
unfolding used_as place_of a_read
reads_there used w x y = both _ _ (both _ _ (both _ _ (both _ _ (both _ _ (pool_for used.pool).1 (namespace_for used.namespace).1) refl) refl) refl) refl

or_right : (a b : Bool) → b ≡ true → (a || b) ≡ true
or_right true b h = refl
or_right false b h = h

-- one of four lists is taken, each of which passes
taken : (pass : Flat → Bool) (a b c d : Bool) (one two three four : Flat) → (a || (b || (c || (d || false)))) ≡ true
    → pass one ≡ true → pass two ≡ true → pass three ≡ true → pass four ≡ true → pass (cond d four (cond c three (cond b two (cond a one [])))) ≡ true
taken pass a b c true one two three four known h i j k = k
taken pass a b true false one two three four known h i j k = j
taken pass a true false false one two three four known h i j k = i
taken pass true false false false one two three four known h i j k = h
taken pass false false false false one two three four known h i j k = absurd (cc)

-- a grant that a profile expands to, with its number
part : ProfileUse → ℕ → Bool → Bool → Bool → List ℕ × AllowGrant
part used number w x y = (number ∷ [], used_as used (record { read = true; write = w; class_read = x; class_write = y }))

-- what the use in the profile rbd expands to
inner_parts : ProfileUse → Flat
inner_parts used = map (under 1) (parts_of (reverse (take 3 built_in)) (filled_use used (record { name = codes "rbd-read-only"; pool = None; namespace = None })))

passes : ProfileUse → Flat → Bool
passes used parts = list_any (λ entry. is_usable entry.1 (place_of used) a_read) parts

part_passes : (used : ProfileUse) (number : ℕ) (w x y : Bool) → passes used (part used number w x y ∷ []) ≡ true
unfolding part passes
part_passes used number w x y = either_first (is_usable (used_as used (record { read = true; write = w; class_read = x; class_write = y })) (place_of used) a_read) _ (reads_there used w x y)

last_passes : (used : ProfileUse) (front : Flat) → passes used (front ++ part used 2 true true true ∷ []) ≡ true
unfolding passes
last_passes used front =
    list_any-append (λ (entry : List ℕ × AllowGrant). is_usable entry.1 (place_of used) a_read) front (part used 2 true true true ∷ [])
    ∙ or_right (list_any (λ (entry : List ℕ × AllowGrant). is_usable entry.1 (place_of used) a_read) front) _ (part_passes used 2 true true true)

-- some grant of each profile reads
profile_reads : (used : ProfileUse) → has_profile built_in used.name ≡ true → list_any (λ entry. is_usable entry.1 (place_of used) a_read) (parts_of (reverse built_in) used) ≡ true
unfolding passes part used_as inner_parts
profile_reads used known =
    taken (passes used)
    (bytes_eq used.name (codes "read-only"))
    (bytes_eq used.name (codes "read-write"))
    (bytes_eq used.name (codes "rbd-read-only"))
    (bytes_eq used.name (codes "rbd"))
    (part used 1 false false false ∷ [])
    (part used 1 true false false ∷ [])
    (part used 1 false true false ∷ [])
    (inner_parts used ++ part used 2 true true true ∷ [])
    known
    (part_passes used 1 false false false)
    (part_passes used 1 true false false)
    (part_passes used 1 false true false)
    (last_passes used (inner_parts used))

use_gives : (used : ProfileUse) → has_profile built_in used.name ≡ true → ¬ AreIdle (flat built_in (Profile used ∷ []))
unfolding a_read place_of
use_gives used known idle =
    let useful : list_any (λ entry. is_usable entry.1 (place_of used) a_read) (flat built_in (Profile used ∷ [])) ≡ true =
    any_of_use (parts_of (reverse built_in)) (λ g. is_usable g (place_of used) a_read) 1 used ∙ either_first _ _ (profile_reads used known) in
    idle (place_of used) a_read (record { tags = no_application; needs = record { calls = All-nil (IsCallBy Every); few = omega arith; something = refl }; listing = λ empty. (refl, refl) }) (both _ _ useful refl)

-- ---- a grant of a list

one_gives : (grant : Grant) → CanExpand built_in (grant ∷ []) → ¬ AreIdle (flat built_in (grant ∷ []))
one_gives (Allow g) whole = allow_gives (1 ∷ [], g) (both_left _ _ (both_left _ _ whole.spellable))
one_gives (Profile used) whole = use_gives used (known_name built_in used whole)

pub none_is_idle : (text : List ℕ) (grants : List Grant) → NoneIsIdle text grants
none_is_idle text grants spelled accepted place within =
    let phrases = spelled.2 in
    let whole : CanExpand built_in grants = record { few = spelled.1; spellable = text_is_spellable text phrases.0 grants phrases.1 phrases.2; accepted = accepted } in
    let d : Grant = first_of_list grants place within in
    let is = one_alone grants place d within in
    subst (λ list. ¬ AreIdle (flat built_in list)) (sym is) (one_gives (get_or grants place d) (subst (CanExpand built_in) is (only built_in grants place whole)))
