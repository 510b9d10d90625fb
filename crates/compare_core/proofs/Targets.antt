-- Which targets no other beats.
use Rattle.std.proofs.Common.{◌≡◌, ◌≢◌, ℕ, List, [], ◌∷◌, Bool, true, false, ◌&&◌, ◌||◌, ◌==◌, Option, Some, None, slice_get, length, refl, sym, ap, ◌∙◌, nat_eq}
use Rattle.std.specs.List.{list_any, starts_with}
use Rattle.std.specs.Option.{option_map_or}
use Rattle.std.specs.Str.{bytes_eq}
use Rattle.std.proofs.lemmas.Bool.{false≢true}
use Rattle.cap_grants.specs.declared.grant.AllowGrant.{AllowGrant}
use Rattle.cap_grants.specs.declared.grant.NsMatch.{NsMatch}
use Rattle.cap_grants.specs.declared.grant.NsMatch.TheVariants.{Exact, Prefix}
use Rattle.cap_grants.specs.declared.grant.Part.{Part}
use Rattle.cap_grants.specs.declared.grant.Part.TheVariants.{Any, Is}
use Rattle.cap_grants.specs.declared.grant.Tag.{Tag}
use Rattle.common_types.specs.declared.tags.AppTags.{AppTags}
use Rattle.request_types.specs.Target.{Target}
use Rattle.verdict_core.specs.Verdict.{names, matches_namespace, matches_tag, matches_prefix, matches_part, matches_pairs, matches_application, matches}
use Rattle.compare_core.specs.declared.field.Field.{Field}
use Rattle.compare_core.specs.declared.field.Field.TheVariants as fields
use Rattle.compare_core.specs.Questions.{listing_at}
use Rattle.compare_core.specs.Fresh.{IsFresh, IsBest, IsBestObject, IsBestTarget, IsNameFor, leads_into, name_of, name_of_part, name_of_namespace, name_of_key, name_of_value, takes_pool, takes_namespace, takes_tags, takes_object, both_any, BestPairs}
use Rattle.compare_core.proofs.Bools.{both_left, both_right, both, either_first, any_also, none_at}
use Rattle.compare_core.proofs.Fronts.{same_text, text_same, front_of_front, front_of_itself, no_further}

abbrev pub Grants : Type 0
Grants = List (List ℕ × AllowGrant)

-- no name of the field leads on to a fresh one
fresh_at : (field : Field) (old : Grants) (base name : List ℕ) → IsFresh field old base name → (i : ℕ) (entry : List ℕ × AllowGrant) → slice_get old i ≡ Some entry
    → (text : List ℕ) → name_of field entry.1 ≡ Some text → leads_into base name text ≡ false
fresh_at field old base name fresh i entry at text is =
    sym (ap (λ o. option_map_or (leads_into base name) o false) is) ∙ none_at (λ e. option_map_or (leads_into base name) (name_of field e.1) false) old i entry fresh.2 at

-- so a front of a fresh name is one of the base
front_at : (field : Field) (old : Grants) (base name : List ℕ) → IsFresh field old base name → (i : ℕ) (entry : List ℕ × AllowGrant) → slice_get old i ≡ Some entry
    → (text : List ℕ) → name_of field entry.1 ≡ Some text → starts_with nat_eq name text ≡ true → starts_with nat_eq base text ≡ true
front_at field old base name fresh i entry at text is = no_further base name text (fresh_at field old base name fresh i entry at text is)

-- and none is the fresh name itself
pub differs_at : (field : Field) (old : Grants) (base name : List ℕ) → IsFresh field old base name → (i : ℕ) (entry : List ℕ × AllowGrant) → slice_get old i ≡ Some entry
    → (text : List ℕ) → name_of field entry.1 ≡ Some text → bytes_eq text name ≡ true → ⊥
differs_at field old base name fresh i entry at text is same =
    let e : text ≡ name = same_text text name same in
    let front : starts_with nat_eq name text ≡ true = ap (starts_with nat_eq name) e ∙ front_of_itself name in
    false≢true (sym fresh.1 ∙ (ap (starts_with nat_eq base) (sym e) ∙ front_at field old base name fresh i entry at text is front))

-- pools

pub named_pool : (g : AllowGrant) (old : Grants) (pool : List ℕ) → g.pool ≡ Some pool → IsBest takes_pool g old pool
named_pool g old pool is = (
  ap (λ o. names o pool) is ∙ text_same pool pool refl,
  λ i entry at h other k. moves entry.1.pool h other (same_text pool other (sym (ap (λ o. names o other) is) ∙ k)),
)
  where
    moves : (o : Option (List ℕ)) → names o pool ≡ true → (other : List ℕ) → pool ≡ other → names o other ≡ true
    moves o h other e = sym (ap (names o) e) ∙ h

pub fresh_pool : (g : AllowGrant) (old : Grants) (pool : List ℕ) → g.pool ≡ None → IsFresh fields.Pool old [] pool → IsBest takes_pool g old pool
fresh_pool g old pool is fresh =
    (ap (λ o. names o pool) is, λ i entry at h other k. moves i entry at entry.1.pool refl h other)
  where
    moves : (i : ℕ) (entry : List ℕ × AllowGrant) → slice_get old i ≡ Some entry → (o : Option (List ℕ)) → entry.1.pool ≡ o → names o pool ≡ true → (other : List ℕ) → names o other ≡ true
    moves i entry at None e h other = refl
    moves i entry at (Some text) e h other = absurd (differs_at fields.Pool old [] pool fresh i entry at text e h)

-- namespaces

pub exact_namespace : (g : AllowGrant) (old : Grants) (namespace : List ℕ) → g.namespace ≡ Some (Exact namespace) → IsBest takes_namespace g old namespace
exact_namespace g old namespace is = (
  ap (λ o. matches_namespace o namespace) is ∙ text_same namespace namespace refl,
  λ i entry at h other k. sym (ap (matches_namespace entry.1.namespace) (same_text namespace other (sym (ap (λ o. matches_namespace o other) is) ∙ k))) ∙ h,
)

-- a fresh continuation of what all namespaces of the grant begin with
fresh_from : (base : List ℕ) (g : AllowGrant) (old : Grants) (namespace : List ℕ) → matches_namespace g.namespace namespace ≡ true
    → ((other : List ℕ) → matches_namespace g.namespace other ≡ true → starts_with nat_eq other base ≡ true)
    → IsFresh fields.Namespace old base namespace → IsBest takes_namespace g old namespace
fresh_from base g old namespace mine begins fresh =
    (mine, λ i entry at h other k. moves i entry at entry.1.namespace refl h other (begins other k))
  where
    moves : (i : ℕ) (entry : List ℕ × AllowGrant) → slice_get old i ≡ Some entry → (o : Option NsMatch) → entry.1.namespace ≡ o → matches_namespace o namespace ≡ true
        → (other : List ℕ) → starts_with nat_eq other base ≡ true → matches_namespace o other ≡ true
    moves i entry at None e h other k = refl
    moves i entry at (Some (Exact text)) e h other k = absurd (differs_at fields.Namespace old base namespace fresh i entry at text (ap name_of_namespace e) h)
    moves i entry at (Some (Prefix text)) e h other k =
        front_of_front other base text k (front_at fields.Namespace old base namespace fresh i entry at text (ap name_of_namespace e) h)

pub prefixed_namespace : (g : AllowGrant) (old : Grants) (prefix namespace : List ℕ) → g.namespace ≡ Some (Prefix prefix) → IsFresh fields.Namespace old prefix namespace → IsBest takes_namespace g old namespace
prefixed_namespace g old prefix namespace is fresh =
    fresh_from prefix g old namespace (ap (λ o. matches_namespace o namespace) is ∙ fresh.0) (λ other k. sym (ap (λ o. matches_namespace o other) is) ∙ k) fresh

pub any_namespace : (g : AllowGrant) (old : Grants) (namespace : List ℕ) → g.namespace ≡ None → IsFresh fields.Namespace old [] namespace → IsBest takes_namespace g old namespace
any_namespace g old namespace is fresh = fresh_from [] g old namespace (ap (λ o. matches_namespace o namespace) is) (λ other k. begins other) fresh
  where
    begins : (other : List ℕ) → starts_with nat_eq other [] ≡ true
    begins other = refl

-- objects

begins_so : (prefix object : List ℕ) → matches_prefix (Some prefix) object ≡ true → starts_with nat_eq object prefix ≡ true
begins_so prefix [] h = absurd (false≢true h)
begins_so prefix (b ∷ bs) h = h

-- an object that is not a listing, and begins with the prefix
matches_so : (mine prefix object : List ℕ) → matches_prefix (Some mine) object ≡ true → starts_with nat_eq object prefix ≡ true → matches_prefix (Some prefix) object ≡ true
matches_so mine prefix [] h k = absurd (false≢true h)
matches_so mine prefix (b ∷ bs) h k = k

-- a grant's own prefix, where it is not empty
pub prefix_itself : (g : AllowGrant) (old : Grants) (prefix : List ℕ) → g.prefix ≡ Some prefix → (length prefix == 0) ≡ false → IsBest takes_object g old prefix
prefix_itself g old prefix is filled = (
  ap (λ o. matches_prefix o prefix) is ∙ itself prefix filled,
  λ i entry at h other k. moves entry.1.prefix h other (sym (ap (λ o. matches_prefix o other) is) ∙ k),
)
  where
    itself : (text : List ℕ) → (length text == 0) ≡ false → matches_prefix (Some text) text ≡ true
    itself [] e = absurd (false≢true (sym e))
    itself (b ∷ bs) e = front_of_itself (b ∷ bs)

    moves : (o : Option (List ℕ)) → matches_prefix o prefix ≡ true → (other : List ℕ) → matches_prefix (Some prefix) other ≡ true → matches_prefix o other ≡ true
    moves None h other k = refl
    moves (Some text) h other k = matches_so prefix text other k (front_of_front other prefix text (begins_so prefix other k) (begins_so text prefix h))

-- a fresh continuation of a grant's prefix, as where that is empty
pub prefix_continued : (g : AllowGrant) (old : Grants) (prefix object : List ℕ) → g.prefix ≡ Some prefix → IsFresh fields.Prefix old prefix object → IsBest takes_object g old object
prefix_continued g old prefix object is fresh = (
  ap (λ o. matches_prefix o object) is ∙ itself object fresh.0 fresh.1,
  λ i entry at h other k. moves i entry at entry.1.prefix refl h other (sym (ap (λ o. matches_prefix o other) is) ∙ k),
)
  where
    itself : (text : List ℕ) → starts_with nat_eq text prefix ≡ true → starts_with nat_eq prefix text ≡ false → matches_prefix (Some prefix) text ≡ true
    itself [] h k = absurd (false≢true (sym k))
    itself (b ∷ bs) h k = h

    moves : (i : ℕ) (entry : List ℕ × AllowGrant) → slice_get old i ≡ Some entry → (o : Option (List ℕ)) → entry.1.prefix ≡ o → matches_prefix o object ≡ true
        → (other : List ℕ) → matches_prefix (Some prefix) other ≡ true → matches_prefix o other ≡ true
    moves i entry at None e h other k = refl
    moves i entry at (Some text) e h other k =
        matches_so prefix text other k (front_of_front other prefix text (begins_so prefix other k) (front_at fields.Prefix old prefix object fresh i entry at text e (begins_so text object h)))

-- a name that a prefix matches is no listing's
pub of_prefix : (g : AllowGrant) (old : Grants) (prefix object : List ℕ) → g.prefix ≡ Some prefix → IsBest takes_object g old object → IsBestObject g old object
of_prefix g old prefix object is best = (
  best.0,
  λ empty. false≢true (ap (λ o. matches_prefix (Some prefix) o) (sym empty) ∙ (ap (λ o. matches_prefix o object) (sym is) ∙ best.0)),
  λ i entry at h other filled k. best.1 i entry at h other k,
)

-- a fresh name is as good as that of any object
pub fresh_object : (g : AllowGrant) (old : Grants) (object : List ℕ) → g.prefix ≡ None → IsFresh fields.Prefix old [] object → IsBestObject g old object
fresh_object g old object is fresh = (
  ap (λ o. matches_prefix o object) is,
  λ empty. false≢true (sym fresh.1 ∙ ap (starts_with nat_eq []) empty),
  λ i entry at h other filled k. moves i entry at entry.1.prefix refl h other filled,
)
  where
    begins : (text other : List ℕ) → starts_with nat_eq [] text ≡ true → other ≢ [] → matches_prefix (Some text) other ≡ true
    begins [] [] h filled = absurd (filled refl)
    begins [] (b ∷ bs) h filled = refl
    begins (x ∷ xs) other h filled = absurd (false≢true h)

    moves : (i : ℕ) (entry : List ℕ × AllowGrant) → slice_get old i ≡ Some entry → (o : Option (List ℕ)) → entry.1.prefix ≡ o → matches_prefix o object ≡ true
        → (other : List ℕ) → other ≢ [] → matches_prefix o other ≡ true
    moves i entry at None e h other filled = refl
    moves i entry at (Some text) e h other filled = begins text other (front_at fields.Prefix old [] object fresh i entry at text e (begins_so text object h)) filled

-- tags

asks_pair : Part → Part → List ℕ × List ℕ → Bool
asks_pair key value pair = matches_part key pair.0 && matches_part value pair.1

pub any_pairs : (key value : Part) (pairs : List (List ℕ × List ℕ)) → both_any key value ≡ true → matches_pairs key value pairs ≡ true
any_pairs Any Any pairs h = refl
any_pairs Any (Is v) pairs h = absurd (false≢true h)
any_pairs (Is k) value pairs h = absurd (false≢true h)

some_pair : (key value : Part) (pairs : List (List ℕ × List ℕ)) → both_any key value ≡ false → matches_pairs key value pairs ≡ list_any (asks_pair key value) pairs
unfolding asks_pair
some_pair Any Any pairs h = absurd (false≢true (sym h))
some_pair Any (Is v) pairs h = refl
some_pair (Is k) value pairs h = refl

alone_true : (b : Bool) → (b || false) ≡ true → b ≡ true
alone_true true h = refl
alone_true false h = h

-- without a tag, a pool without applications
pub no_tags : (g : AllowGrant) (old : Grants) → g.tag ≡ None → IsBest takes_tags g old []
no_tags g old is = (ap (λ o. matches_tag o []) is, λ i entry at h other k. moves entry.1.tag h other)
  where
    moves : (o : Option Tag) → matches_tag o [] ≡ true → (other : List AppTags) → matches_tag o other ≡ true
    moves None h other = refl
    moves (Some tag) h other = absurd (false≢true h)

pub tags_by : (g : AllowGrant) (old : Grants) (tag : Tag) (pairs : List (List ℕ × List ℕ)) → g.tag ≡ Some tag → BestPairs old tag pairs
    → IsBest takes_tags g old (record { application = tag.application; pairs = pairs } ∷ [])
tags_by g old tag pairs is best = (
  ap (λ o. matches_tag o (record { application = tag.application; pairs = pairs } ∷ [])) is ∙ either_first _ _ (both _ _ (text_same tag.application tag.application refl) best.mine),
  λ i entry at h other k. moves i entry at entry.1.tag refl h other (sym (ap (λ o. matches_tag o other) is) ∙ k),
)
  where
    moves : (i : ℕ) (entry : List ℕ × AllowGrant) → slice_get old i ≡ Some entry → (o : Option Tag) → entry.1.tag ≡ o → matches_tag o (record { application = tag.application; pairs = pairs } ∷ []) ≡ true
        → (other : List AppTags) → matches_tag (Some tag) other ≡ true → matches_tag o other ≡ true
    moves i entry at None e h other k = refl
    moves i entry at (Some theirs) e h other k =
        let here : (bytes_eq theirs.application tag.application && matches_pairs theirs.key theirs.value pairs) ≡ true = alone_true _ h in
        let named : theirs.application ≡ tag.application = same_text _ _ (both_left _ _ here) in
        any_also (matches_application tag) (matches_application theirs) other
        (λ j app at_app good. both _ _
        (ap (λ a. bytes_eq a app.application) named ∙ both_left _ _ good)
        (best.others i entry at theirs e (both_right (bytes_eq theirs.application tag.application) _ here) app.pairs (both_right (bytes_eq tag.application app.application) _ good)))
        k

-- where neither side is asked for, the application alone
pub no_pairs : (old : Grants) (tag : Tag) → both_any tag.key tag.value ≡ true → BestPairs old tag []
no_pairs old tag any = record {
  mine = any_pairs tag.key tag.value [] any;
  others = λ i entry at theirs e h more k. moves theirs.key theirs.value h more;
}
  where
    moves : (key value : Part) → matches_pairs key value [] ≡ true → (more : List (List ℕ × List ℕ)) → matches_pairs key value more ≡ true
    moves Any Any h more = refl
    moves Any (Is v) h more = absurd (false≢true h)
    moves (Is k) value h more = absurd (false≢true h)

-- a name for a side is one that it asks for
asked_name : (field : Field) (old : Grants) (part : Part) (name : List ℕ) → IsNameFor field old part name → matches_part part name ≡ true
asked_name field old Any name for = refl
asked_name field old (Is asked) name for = text_same asked name (sym for)

-- and another side that asks for it asks for no more
side_moves : (field : Field) (old : Grants) (part : Part) (name : List ℕ) → IsNameFor field old part name → (i : ℕ) (entry : List ℕ × AllowGrant) → slice_get old i ≡ Some entry
    → (theirs : Part) → name_of field entry.1 ≡ name_of_part theirs → matches_part theirs name ≡ true → (other : List ℕ) → matches_part part other ≡ true → matches_part theirs other ≡ true
side_moves field old part name for i entry at Any e h other k = refl
side_moves field old Any name for i entry at (Is text) e h other k = absurd (differs_at field old [] name for i entry at text e h)
side_moves field old (Is asked) name for i entry at (Is text) e h other k =
    text_same text other (same_text text name h ∙ (for ∙ same_text asked other k))

pub one_pair : (old : Grants) (tag : Tag) (key value : List ℕ) → both_any tag.key tag.value ≡ false
    → IsNameFor fields.Key old tag.key key → IsNameFor fields.Value old tag.value value → BestPairs old tag ((key, value) ∷ [])
unfolding asks_pair
one_pair old tag key value some for_key for_value = record {
  mine = some_pair tag.key tag.value ((key, value) ∷ []) some ∙ either_first _ _ (both _ _ (asked_name fields.Key old tag.key key for_key) (asked_name fields.Value old tag.value value for_value));
  others = λ i entry at theirs e h more k. moves i entry at theirs e (both_any theirs.key theirs.value) refl h more k;
}
  where
    moves : (i : ℕ) (entry : List ℕ × AllowGrant) → slice_get old i ≡ Some entry → (theirs : Tag) → entry.1.tag ≡ Some theirs → (b : Bool) → both_any theirs.key theirs.value ≡ b
        → matches_pairs theirs.key theirs.value ((key, value) ∷ []) ≡ true → (more : List (List ℕ × List ℕ)) → matches_pairs tag.key tag.value more ≡ true → matches_pairs theirs.key theirs.value more ≡ true
    moves i entry at theirs e true any h more k = any_pairs theirs.key theirs.value more any
    moves i entry at theirs e false one h more k =
        let here : (matches_part theirs.key key && matches_part theirs.value value) ≡ true = alone_true _ (sym (some_pair theirs.key theirs.value ((key, value) ∷ []) one) ∙ h) in
        some_pair theirs.key theirs.value more one
        ∙ any_also (asks_pair tag.key tag.value) (asks_pair theirs.key theirs.value) more
        (λ j pair at_pair good. both _ _
        (side_moves fields.Key old tag.key key for_key i entry at theirs.key (ap name_of_key e) (both_left _ _ here) pair.0 (both_left _ _ good))
        (side_moves fields.Value old tag.value value for_value i entry at theirs.value (ap name_of_value e) (both_right (matches_part theirs.key key) _ here) pair.1 (both_right (matches_part tag.key pair.0) _ good)))
        (sym (some_pair tag.key tag.value more some) ∙ k)

-- whole targets

-- a target is matched by its parts
matches_by : (g : AllowGrant) (t : Target) → names g.pool t.pool ≡ true → matches_namespace g.namespace t.namespace ≡ true → matches_tag g.tag t.tags ≡ true → matches_prefix g.prefix t.object ≡ true → matches g t ≡ true
matches_by g t pool namespace tags object = both _ _ (both _ _ (both _ _ pool namespace) tags) object

by_pool : (g : AllowGrant) (t : Target) → matches g t ≡ true → names g.pool t.pool ≡ true
by_pool g t h = both_left (names g.pool t.pool) _ (both_left (names g.pool t.pool && matches_namespace g.namespace t.namespace) _ (both_left (names g.pool t.pool && matches_namespace g.namespace t.namespace && matches_tag g.tag t.tags) _ h))

by_namespace : (g : AllowGrant) (t : Target) → matches g t ≡ true → matches_namespace g.namespace t.namespace ≡ true
by_namespace g t h = both_right (names g.pool t.pool) _ (both_left (names g.pool t.pool && matches_namespace g.namespace t.namespace) _ (both_left (names g.pool t.pool && matches_namespace g.namespace t.namespace && matches_tag g.tag t.tags) _ h))

by_tags : (g : AllowGrant) (t : Target) → matches g t ≡ true → matches_tag g.tag t.tags ≡ true
by_tags g t h = both_right (names g.pool t.pool && matches_namespace g.namespace t.namespace) _ (both_left (names g.pool t.pool && matches_namespace g.namespace t.namespace && matches_tag g.tag t.tags) _ h)

by_object : (g : AllowGrant) (t : Target) → matches g t ≡ true → matches_prefix g.prefix t.object ≡ true
by_object g t h = both_right (names g.pool t.pool && matches_namespace g.namespace t.namespace && matches_tag g.tag t.tags) _ h

-- the grant matches its best target
pub best_there : (g : AllowGrant) (old : Grants) (best : Target) → IsBestTarget g old best → matches g best ≡ true
best_there g old best is = matches_by g best is.pool.0 is.namespace.0 is.tags.0 is.object.0

-- and what matches that, matches each object of the grant
pub best_moves : (g : AllowGrant) (old : Grants) (best other : Target) → IsBestTarget g old best → other.object ≢ [] → matches g other ≡ true
    → (i : ℕ) (entry : List ℕ × AllowGrant) → slice_get old i ≡ Some entry → matches entry.1 best ≡ true → matches entry.1 other ≡ true
best_moves g old best other is filled k i entry at h =
    matches_by entry.1 other
    (is.pool.1 i entry at (by_pool entry.1 best h) other.pool (by_pool g other k))
    (is.namespace.1 i entry at (by_namespace entry.1 best h) other.namespace (by_namespace g other k))
    (is.tags.1 i entry at (by_tags entry.1 best h) other.tags (by_tags g other k))
    (is.object.2 i entry at (by_object entry.1 best h) other.object filled (by_object g other k))

-- where it matches some listing, it matches that of the best target
pub listing_there : (g : AllowGrant) (old : Grants) (best other : Target) → IsBestTarget g old best → other.object ≡ [] → matches g other ≡ true → matches g (listing_at best) ≡ true
listing_there g old best other is empty k =
    matches_by g (listing_at best) is.pool.0 is.namespace.0 is.tags.0 (ap (matches_prefix g.prefix) (sym empty) ∙ by_object g other k)

-- and what matches that, matches each listing of the grant
pub listing_moves : (g : AllowGrant) (old : Grants) (best other : Target) → IsBestTarget g old best → other.object ≡ [] → matches g other ≡ true
    → (i : ℕ) (entry : List ℕ × AllowGrant) → slice_get old i ≡ Some entry → matches entry.1 (listing_at best) ≡ true → matches entry.1 other ≡ true
listing_moves g old best other is empty k i entry at h =
    matches_by entry.1 other
    (is.pool.1 i entry at (by_pool entry.1 (listing_at best) h) other.pool (by_pool g other k))
    (is.namespace.1 i entry at (by_namespace entry.1 (listing_at best) h) other.namespace (by_namespace g other k))
    (is.tags.1 i entry at (by_tags entry.1 (listing_at best) h) other.tags (by_tags g other k))
    (ap (matches_prefix entry.1.prefix) empty ∙ by_object entry.1 (listing_at best) h)
