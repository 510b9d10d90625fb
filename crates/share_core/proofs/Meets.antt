-- Grants that meet match a common target, and no others do.
use Rattle.std.proofs.Common.{◌≡◌, ◌≢◌, ℕ, suc, List, [], ◌∷◌, ◌++◌, length, ◌==◌, Bool, true, false, not, ◌&&◌, ◌||◌, if◌then◌else◌, drop, Option, Some, None, slice_get, refl, sym, ap, ◌∙◌, subst, nat_eq, inl, inr, arith}
use Rattle.std.specs.Prelude.{codes}
use Rattle.std.specs.List.{starts_with, AllPairs}
use Rattle.std.specs.Str.{bytes_eq}
use Rattle.std.proofs.lemmas.Bool.{false≢true}
use Rattle.std.proofs.lemmas.Bool.Decides.{Decides-eqb}
use Rattle.std.proofs.lemmas.List.Elements.{All-nil, All-cons}
use Rattle.cap_grants.specs.declared.grant.AllowGrant.{AllowGrant}
use Rattle.cap_grants.specs.declared.grant.NsMatch.{NsMatch}
use Rattle.cap_grants.specs.declared.grant.NsMatch.TheVariants.{Exact, Prefix}
use Rattle.cap_grants.specs.declared.grant.Part.{Part}
use Rattle.cap_grants.specs.declared.grant.Part.TheVariants.{Any, Is}
use Rattle.cap_grants.specs.declared.grant.Tag.{Tag}
use Rattle.common_types.specs.declared.tags.AppTags.{AppTags}
use Rattle.request_types.specs.Target.{Target}
use Rattle.verdict_core.specs.Verdict.{names, matches, matches_namespace, matches_prefix, matches_part, matches_pairs, matches_application, matches_tag}
use Rattle.compare_core.specs.Fresh.{both_any}
use Rattle.compare_core.proofs.Bools.{both_left, both_right, both, either_first, true_or_false, fails, some_pass, any_at}
use Rattle.compare_core.proofs.Fronts.{same_text, text_same, with_front, has_front, front_of_itself}
use Rattle.compare_core.proofs.Asked.{all_slice_get}
use Rattle.compare_core.proofs.Targets.{any_pairs}
use Rattle.share_core.specs.Meeting.{are_alike, longer, pools_meet, common_pool, namespaces_meet, common_namespace, prefixes_meet, or_a, common_object, differ, same_key, clash, tags_meet, or_name, other_than, asked, own_tags, key_of, common_pairs, common_app, common_tags, meet, common}
use Rattle.share_core.specs.Sharing.{ArePossible}
use Rattle.share_core.proofs.Possible.{once, none_differ, one_differs, two_differ}

or_later : (a b : Bool) → b ≡ true → (a || b) ≡ true
or_later true b h = refl
or_later false b h = h

not_true : (b : Bool) → not b ≡ false → b ≡ true
not_true true h = refl
not_true false h = sym h

not_false : (b : Bool) → b ≡ false → not b ≡ true
not_false true h = sym h
not_false false h = refl

was_false : (b : Bool) → not b ≡ true → b ≡ false
was_false true h = sym h
was_false false h = refl

itself : (text : List ℕ) → bytes_eq text text ≡ true
itself text = text_same text text refl

turned : (a b : List ℕ) → bytes_eq a b ≡ true → bytes_eq b a ≡ true
turned a b h = text_same b a (sym (same_text a b h))

-- fronts

longer_left : (a b : List ℕ) → are_alike a b ≡ true → starts_with nat_eq (longer a b) a ≡ true
longer_left a b h = go (starts_with nat_eq a b) h
  where
    go : (s : Bool) → (s || starts_with nat_eq b a) ≡ true → starts_with nat_eq (if s then a else b) a ≡ true
    go true k = front_of_itself a
    go false k = k

longer_right : (a b : List ℕ) → starts_with nat_eq (longer a b) b ≡ true
longer_right a b = go (starts_with nat_eq a b) refl
  where
    go : (s : Bool) → starts_with nat_eq a b ≡ s → starts_with nat_eq (if s then a else b) b ≡ true
    go true e = e
    go false e = front_of_itself b

alike_behind : (a b : ℕ) (p q : List ℕ) → a ≡ b → are_alike p q ≡ true → are_alike (a ∷ p) (b ∷ q) ≡ true
alike_behind a b p q same h = elim (true_or_false (starts_with nat_eq p q)) [
  | inl first ↦ either_first _ _ (has_front (a ∷ p) (b ∷ q) (drop (length q) p) (ap (λ l. a ∷ l) (with_front p q first) ∙ ap (λ n. n ∷ (q ++ drop (length q) p)) same))
  | inr stops ↦ or_later _ _ (back (second (starts_with nat_eq p q) stops h))
]
  where
    second : (s : Bool) → s ≡ false → (s || starts_with nat_eq q p) ≡ true → starts_with nat_eq q p ≡ true
    second true e k = absurd (false≢true (sym e))
    second false e k = k

    back : starts_with nat_eq q p ≡ true → starts_with nat_eq (b ∷ q) (a ∷ p) ≡ true
    back k = has_front (b ∷ q) (a ∷ p) (drop (length p) q) (ap (λ l. b ∷ l) (with_front q p k) ∙ ap (λ n. n ∷ (p ++ drop (length p) q)) (sym same))

alike : (p q r s : List ℕ) → p ++ r ≡ q ++ s → are_alike p q ≡ true
alike [] q r s e = or_later (starts_with nat_eq [] q) (starts_with nat_eq q []) refl
alike (a ∷ p) [] r s e = either_first (starts_with nat_eq (a ∷ p) []) (starts_with nat_eq [] (a ∷ p)) refl
alike (a ∷ p) (b ∷ q) r s e = alike_behind a b p q (head_same e) (alike p q r s (tail_same e))
  where
    head_same : {x y : ℕ} {xs ys : List ℕ} → x ∷ xs ≡ y ∷ ys → x ≡ y
    head_same e = cc

    tail_same : {x y : ℕ} {xs ys : List ℕ} → x ∷ xs ≡ y ∷ ys → xs ≡ ys
    tail_same e = cc

-- two fronts of one text
fronts_alike : (text p q : List ℕ) → starts_with nat_eq text p ≡ true → starts_with nat_eq text q ≡ true → are_alike p q ≡ true
fronts_alike text p q h k = alike p q (drop (length p) text) (drop (length q) text) (sym (with_front text p h) ∙ with_front text q k)

-- pools

can_pool : (o p : Option (List ℕ)) → pools_meet o p ≡ true → (names o (common_pool o p) ≡ true) × (names p (common_pool o p) ≡ true)
can_pool None None h = (refl, refl)
can_pool None (Some q) h = (refl, itself q)
can_pool (Some p) None h = (itself p, refl)
can_pool (Some p) (Some q) h = (itself p, turned p q h)

pub must_pool : (o p : Option (List ℕ)) (x : List ℕ) → names o x ≡ true → names p x ≡ true → pools_meet o p ≡ true
must_pool None p x h k = refl
must_pool (Some p) None x h k = refl
must_pool (Some p) (Some q) x h k = text_same p q (same_text p x h ∙ sym (same_text q x k))

-- namespaces

pub can_namespace : (o p : Option NsMatch) → namespaces_meet o p ≡ true → (matches_namespace o (common_namespace o p) ≡ true) × (matches_namespace p (common_namespace o p) ≡ true)
can_namespace None None h = (refl, refl)
can_namespace None (Some (Exact q)) h = (refl, itself q)
can_namespace None (Some (Prefix q)) h = (refl, front_of_itself q)
can_namespace (Some (Exact p)) None h = (itself p, refl)
can_namespace (Some (Exact p)) (Some (Exact q)) h = (itself p, turned p q h)
can_namespace (Some (Exact p)) (Some (Prefix q)) h = (itself p, h)
can_namespace (Some (Prefix p)) None h = (front_of_itself p, refl)
can_namespace (Some (Prefix p)) (Some (Exact q)) h = (h, itself q)
can_namespace (Some (Prefix p)) (Some (Prefix q)) h = (longer_left p q h, longer_right p q)

pub must_namespace : (o p : Option NsMatch) (x : List ℕ) → matches_namespace o x ≡ true → matches_namespace p x ≡ true → namespaces_meet o p ≡ true
must_namespace None p x h k = refl
must_namespace (Some p) None x h k = refl
must_namespace (Some (Exact p)) (Some (Exact q)) x h k = text_same p q (same_text p x h ∙ sym (same_text q x k))
must_namespace (Some (Exact p)) (Some (Prefix q)) x h k = subst (λ t. starts_with nat_eq t q ≡ true) (sym (same_text p x h)) k
must_namespace (Some (Prefix p)) (Some (Exact q)) x h k = subst (λ t. starts_with nat_eq t p ≡ true) (sym (same_text q x k)) h
must_namespace (Some (Prefix p)) (Some (Prefix q)) x h k = fronts_alike x p q h k

-- objects

begins_so : (prefix object : List ℕ) → matches_prefix (Some prefix) object ≡ true → starts_with nat_eq object prefix ≡ true
begins_so prefix [] h = absurd (false≢true h)
begins_so prefix (b ∷ bs) h = h

not_nothing : (n : ℕ) → suc n ≡ 0 → ⊥
not_nothing n e = omega arith

not_empty : (b : ℕ) (bs : List ℕ) → (length (b ∷ bs) == 0) ≡ false
not_empty b bs = fails (length (b ∷ bs) == 0) (λ h. not_nothing (length bs) ((Decides-eqb (length (b ∷ bs)) 0).0 h))

filled : (text prefix : List ℕ) → starts_with nat_eq text prefix ≡ true → matches_prefix (Some prefix) (or_a text) ≡ true
filled [] [] h = refl
filled [] (b ∷ bs) h = absurd (false≢true h)
filled (b ∷ bs) prefix h = go (length (b ∷ bs) == 0) (not_empty b bs)
  where
    go : (e : Bool) → e ≡ false → matches_prefix (Some prefix) (if e then codes "a" else b ∷ bs) ≡ true
    go true e = absurd (false≢true (sym e))
    go false e = h

pub can_object : (o p : Option (List ℕ)) → prefixes_meet o p ≡ true → (matches_prefix o (common_object o p) ≡ true) × (matches_prefix p (common_object o p) ≡ true)
can_object None None h = (refl, refl)
can_object None (Some q) h = (refl, filled q q (front_of_itself q))
can_object (Some p) None h = (filled p p (front_of_itself p), refl)
can_object (Some p) (Some q) h = (filled (longer p q) p (longer_left p q h), filled (longer p q) q (longer_right p q))

pub must_object : (o p : Option (List ℕ)) (x : List ℕ) → matches_prefix o x ≡ true → matches_prefix p x ≡ true → prefixes_meet o p ≡ true
must_object None p x h k = refl
must_object (Some p) None x h k = refl
must_object (Some p) (Some q) x h k = fronts_alike x p q (begins_so p x h) (begins_so q x k)

-- the object that is found is no listing
is_filled : List ℕ → Bool
is_filled [] = false
is_filled (b ∷ bs) = true

or_a_filled : (text : List ℕ) → is_filled (or_a text) ≡ true
unfolding is_filled
or_a_filled [] = refl
or_a_filled (b ∷ bs) = go (length (b ∷ bs) == 0)
  where
    go : (e : Bool) → is_filled (if e then codes "a" else b ∷ bs) ≡ true
    go true = refl
    go false = refl

common_filled : (o p : Option (List ℕ)) → is_filled (common_object o p) ≡ true
unfolding is_filled
common_filled None None = refl
common_filled None (Some q) = or_a_filled q
common_filled (Some p) None = or_a_filled p
common_filled (Some p) (Some q) = or_a_filled (longer p q)

pub is_object : (o p : Option (List ℕ)) → common_object o p ≢ []
unfolding is_filled
is_object o p e = false≢true (sym (ap is_filled e) ∙ common_filled o p)

-- tags: pairs that match

fits : (k v : Part) (pairs : List (List ℕ × List ℕ)) (i : ℕ) (key value : List ℕ) → slice_get pairs i ≡ Some (key, value) → matches_part k key ≡ true → matches_part v value ≡ true → matches_pairs k v pairs ≡ true
fits Any Any pairs i key value at h j = refl
fits Any (Is w) pairs i key value at h j = any_at (λ pair. bytes_eq w pair.1) pairs i (key, value) at j
fits (Is w) v pairs i key value at h j = any_at (λ pair. bytes_eq w pair.0 && matches_part v pair.1) pairs i (key, value) at (both _ _ h j)

asked_first : (tag : Tag) (key value : List ℕ) (more : List (List ℕ × List ℕ)) → matches_part tag.key key ≡ true → matches_part tag.value value ≡ true
    → matches_pairs tag.key tag.value (asked tag key value ++ more) ≡ true
asked_first tag key value more h k = go (both_any tag.key tag.value) refl
  where
    go : (b : Bool) → both_any tag.key tag.value ≡ b → matches_pairs tag.key tag.value ((if b then [] else (key, value) ∷ []) ++ more) ≡ true
    go true e = any_pairs tag.key tag.value more e
    go false e = fits tag.key tag.value ((key, value) ∷ more) 0 key value refl h k

at_end : {X : Type 0} (xs : List X) (x : X) → slice_get (xs ++ x ∷ []) (length xs) ≡ Some x
at_end [] x = refl
at_end (y ∷ ys) x = at_end ys x

asked_last : (tag : Tag) (key value : List ℕ) (before : List (List ℕ × List ℕ)) → matches_part tag.key key ≡ true → matches_part tag.value value ≡ true
    → matches_pairs tag.key tag.value (before ++ asked tag key value) ≡ true
asked_last tag key value before h k = go (both_any tag.key tag.value) refl
  where
    go : (b : Bool) → both_any tag.key tag.value ≡ b → matches_pairs tag.key tag.value (before ++ (if b then [] else (key, value) ∷ [])) ≡ true
    go true e = any_pairs tag.key tag.value (before ++ []) e
    go false e = fits tag.key tag.value (before ++ (key, value) ∷ []) (length before) key value (at_end before (key, value)) h k

named : (part : Part) (other : List ℕ) → matches_part part (or_name part other) ≡ true
named Any other = refl
named (Is name) other = itself name

one_key : (p q : Part) (other : List ℕ) → same_key p q ≡ true → matches_part q (or_name p other) ≡ true
one_key Any q other h = absurd (false≢true h)
one_key (Is p) Any other h = refl
one_key (Is p) (Is q) other h = turned p q h

one_value : (p q : Part) (other : List ℕ) → differ p q ≡ false → matches_part q (or_name p (or_name q other)) ≡ true
one_value Any q other h = named q other
one_value (Is p) Any other h = refl
one_value (Is p) (Is q) other h = turned p q (not_true (bytes_eq p q) h)

mine_paired : (mine theirs : Tag) → matches_pairs mine.key mine.value (common_pairs mine theirs) ≡ true
mine_paired mine theirs = go (same_key mine.key theirs.key)
  where
    go : (s : Bool) → matches_pairs mine.key mine.value (
        if s then (key_of mine theirs, or_name mine.value (or_name theirs.value (codes "a"))) ∷ []
        else asked mine (key_of mine theirs) (or_name mine.value (codes "a")) ++ asked theirs (or_name theirs.key (other_than (key_of mine theirs))) (or_name theirs.value (codes "a"))
        ) ≡ true
    go true = fits mine.key mine.value _ 0 (key_of mine theirs) (or_name mine.value (or_name theirs.value (codes "a"))) refl (named mine.key _) (named mine.value _)
    go false = asked_first mine (key_of mine theirs) (or_name mine.value (codes "a")) _ (named mine.key _) (named mine.value _)

theirs_paired : (mine theirs : Tag) → (same_key mine.key theirs.key ≡ true → differ mine.value theirs.value ≡ false) → matches_pairs theirs.key theirs.value (common_pairs mine theirs) ≡ true
theirs_paired mine theirs agree = go (same_key mine.key theirs.key) refl
  where
    go : (s : Bool) → same_key mine.key theirs.key ≡ s → matches_pairs theirs.key theirs.value (
        if s then (key_of mine theirs, or_name mine.value (or_name theirs.value (codes "a"))) ∷ []
        else asked mine (key_of mine theirs) (or_name mine.value (codes "a")) ++ asked theirs (or_name theirs.key (other_than (key_of mine theirs))) (or_name theirs.value (codes "a"))
        ) ≡ true
    go true e =
        fits theirs.key theirs.value _ 0 (key_of mine theirs) (or_name mine.value (or_name theirs.value (codes "a"))) refl
        (one_key mine.key theirs.key _ e)
        (one_value mine.value theirs.value _ (agree e))
    go false e =
        asked_last theirs (or_name theirs.key (other_than (key_of mine theirs))) (or_name theirs.value (codes "a")) (asked mine (key_of mine theirs) (or_name mine.value (codes "a")))
        (named theirs.key _) (named theirs.value _)

-- tags: that they are possible

other_differs : (name : List ℕ) → name ≢ other_than name
other_differs name = go (bytes_eq name (codes "a")) refl
  where
    go : (b : Bool) → bytes_eq name (codes "a") ≡ b → name ≢ (if b then codes "b" else codes "a")
    go true e same = false≢true (text_same (codes "a") (codes "b") (sym (same_text name (codes "a") e) ∙ same))
    go false e same = false≢true (sym e ∙ text_same name (codes "a") same)

keys_differ : (p q : Part) → same_key p q ≡ false → or_name p (other_than (or_name q (codes "b"))) ≢ or_name q (other_than (or_name p (other_than (or_name q (codes "b")))))
keys_differ Any Any h e = other_differs (other_than (codes "b")) e
keys_differ Any (Is q) h e = other_differs q (sym e)
keys_differ (Is p) Any h e = other_differs p e
keys_differ (Is p) (Is q) h e = false≢true (sym h ∙ text_same p q e)

asked_possible : (tag : Tag) (key value : List ℕ) → AllPairs (λ (p q : List ℕ × List ℕ). p.0 ≢ q.0) (asked tag key value)
asked_possible tag key value = go (both_any tag.key tag.value)
  where
    go : (b : Bool) → AllPairs (λ (p q : List ℕ × List ℕ). p.0 ≢ q.0) (if b then [] else (key, value) ∷ [])
    go true = none_differ (λ (p q : List ℕ × List ℕ). p.0 ≢ q.0)
    go false = one_differs (λ (p q : List ℕ × List ℕ). p.0 ≢ q.0) (key, value)

both_asked : (mine theirs : Tag) (k v l w : List ℕ) → k ≢ l → AllPairs (λ (p q : List ℕ × List ℕ). p.0 ≢ q.0) (asked mine k v ++ asked theirs l w)
both_asked mine theirs k v l w other = go (both_any mine.key mine.value) (both_any theirs.key theirs.value)
  where
    go : (a b : Bool) → AllPairs (λ (p q : List ℕ × List ℕ). p.0 ≢ q.0) ((if a then [] else (k, v) ∷ []) ++ (if b then [] else (l, w) ∷ []))
    go true true = none_differ (λ (p q : List ℕ × List ℕ). p.0 ≢ q.0)
    go true false = one_differs (λ (p q : List ℕ × List ℕ). p.0 ≢ q.0) (l, w)
    go false true = one_differs (λ (p q : List ℕ × List ℕ). p.0 ≢ q.0) (k, v)
    go false false = two_differ (λ (p q : List ℕ × List ℕ). p.0 ≢ q.0) (k, v) (l, w) other

common_possible : (mine theirs : Tag) → AllPairs (λ (p q : List ℕ × List ℕ). p.0 ≢ q.0) (common_pairs mine theirs)
common_possible mine theirs = go (same_key mine.key theirs.key) refl
  where
    go : (s : Bool) → same_key mine.key theirs.key ≡ s → AllPairs (λ (p q : List ℕ × List ℕ). p.0 ≢ q.0) (
        if s then (key_of mine theirs, or_name mine.value (or_name theirs.value (codes "a"))) ∷ []
        else asked mine (key_of mine theirs) (or_name mine.value (codes "a")) ++ asked theirs (or_name theirs.key (other_than (key_of mine theirs))) (or_name theirs.value (codes "a"))
        )
    go true e = one_differs (λ (p q : List ℕ × List ℕ). p.0 ≢ q.0) (key_of mine theirs, or_name mine.value (or_name theirs.value (codes "a")))
    go false e = both_asked mine theirs _ _ _ _ (keys_differ mine.key theirs.key e)

abbrev OtherApp : AppTags → AppTags → Type 0
OtherApp a b = a.application ≢ b.application

abbrev KeysDiffer : AppTags → Type 0
KeysDiffer app = AllPairs (λ (p q : List ℕ × List ℕ). p.0 ≢ q.0) app.pairs

no_app : ArePossible []
no_app = (none_differ OtherApp, All-nil KeysDiffer)

one_app : (app : AppTags) → KeysDiffer app → ArePossible (app ∷ [])
one_app app h = (one_differs OtherApp app, All-cons KeysDiffer app [] h (All-nil KeysDiffer))

two_apps : (app other : AppTags) → app.application ≢ other.application → KeysDiffer app → KeysDiffer other → ArePossible (app ∷ other ∷ [])
two_apps app other differ h k = (two_differ OtherApp app other differ, All-cons KeysDiffer app (other ∷ []) h (All-cons KeysDiffer other [] k (All-nil KeysDiffer)))

-- tags: whole

own_matched : (tag : Tag) → matches_application tag (own_tags tag) ≡ true
own_matched tag = both _ _ (itself tag.application) (go (both_any tag.key tag.value) refl)
  where
    go : (b : Bool) → both_any tag.key tag.value ≡ b → matches_pairs tag.key tag.value (if b then [] else (or_name tag.key (codes "a"), or_name tag.value (codes "a")) ∷ []) ≡ true
    go true e = any_pairs tag.key tag.value [] e
    go false e = fits tag.key tag.value _ 0 (or_name tag.key (codes "a")) (or_name tag.value (codes "a")) refl (named tag.key _) (named tag.value _)

pub record CanTags (o p : Option Tag) (tags : List AppTags) : Type 0 where
  pub mine : matches_tag o tags ≡ true
  pub theirs : matches_tag p tags ≡ true
  pub possible : ArePossible tags

agree_so : (mine theirs : Tag) → bytes_eq mine.application theirs.application ≡ true → clash mine theirs ≡ false → same_key mine.key theirs.key ≡ true → differ mine.value theirs.value ≡ false
agree_so mine theirs app free key = fails _ (λ d. false≢true (sym free ∙ both _ _ (both _ _ app key) d))

can_tags : (o p : Option Tag) → tags_meet o p ≡ true → CanTags o p (common_tags o p)
can_tags None None h = record { mine = refl; theirs = refl; possible = no_app }
can_tags None (Some theirs) h = record { mine = refl; theirs = either_first _ _ (own_matched theirs); possible = one_app (own_tags theirs) (asked_possible theirs _ _) }
can_tags (Some mine) None h = record { mine = either_first _ _ (own_matched mine); theirs = refl; possible = one_app (own_tags mine) (asked_possible mine _ _) }
can_tags (Some mine) (Some theirs) h = go (bytes_eq mine.application theirs.application) refl
  where
    go : (b : Bool) → bytes_eq mine.application theirs.application ≡ b → CanTags (Some mine) (Some theirs) (if b then common_app mine theirs ∷ [] else own_tags mine ∷ own_tags theirs ∷ [])
    go true e = record {
      mine = either_first _ _ (both _ _ (itself mine.application) (mine_paired mine theirs));
      theirs = either_first _ _ (both _ _ (turned mine.application theirs.application e) (theirs_paired mine theirs (agree_so mine theirs e (was_false (clash mine theirs) h))));
      possible = one_app (common_app mine theirs) (common_possible mine theirs);
    }
    go false e = record {
      mine = either_first _ _ (own_matched mine);
      theirs = or_later _ _ (either_first _ _ (own_matched theirs));
      possible = two_apps (own_tags mine) (own_tags theirs) (λ same. false≢true (sym e ∙ text_same mine.application theirs.application same)) (asked_possible mine _ _) (asked_possible theirs _ _);
    }

-- one application has one value for a key
no_two_values : (pairs : List (List ℕ × List ℕ)) → AllPairs (λ (p q : List ℕ × List ℕ). p.0 ≢ q.0) pairs → (k l v w : Part) → matches_pairs k v pairs ≡ true → matches_pairs l w pairs ≡ true
    → same_key k l ≡ true → differ v w ≡ true → ⊥
no_two_values pairs h Any l v w a b s d = false≢true s
no_two_values pairs h (Is k) Any v w a b s d = false≢true s
no_two_values pairs h (Is k) (Is l) Any w a b s d = false≢true d
no_two_values pairs h (Is k) (Is l) (Is v) Any a b s d = false≢true d
no_two_values pairs h (Is k) (Is l) (Is v) (Is w) a b s d =
    let x = some_pass (λ (pair : List ℕ × List ℕ). bytes_eq k pair.0 && bytes_eq v pair.1) pairs a in
    let y = some_pass (λ (pair : List ℕ × List ℕ). bytes_eq l pair.0 && bytes_eq w pair.1) pairs b in
    let xk = same_text k x.1.0.0 (both_left (bytes_eq k x.1.0.0) _ x.1.1.1) in
    let yk = same_text l y.1.0.0 (both_left (bytes_eq l y.1.0.0) _ y.1.1.1) in
    let xv = same_text v x.1.0.1 (both_right (bytes_eq k x.1.0.0) _ x.1.1.1) in
    let yv = same_text w y.1.0.1 (both_right (bytes_eq l y.1.0.0) _ y.1.1.1) in
    let one = once (λ (pair : List ℕ × List ℕ). pair.0) pairs h x.0 y.0 x.1.0 y.1.0 x.1.1.0 y.1.1.0 (sym xk ∙ (same_text k l s ∙ yk)) in
    false≢true (sym (was_false (bytes_eq v w) d) ∙ text_same v w (xv ∙ (ap (λ (pair : List ℕ × List ℕ). pair.1) one ∙ sym yv)))

must_tags : (o p : Option Tag) (tags : List AppTags) → ArePossible tags → matches_tag o tags ≡ true → matches_tag p tags ≡ true → tags_meet o p ≡ true
must_tags None p tags possible h k = refl
must_tags (Some mine) None tags possible h k = refl
must_tags (Some mine) (Some theirs) tags possible h k = not_false (clash mine theirs) (fails (clash mine theirs) clashes)
  where
    clashes : clash mine theirs ≡ true → ⊥
    clashes c =
        let x = some_pass (matches_application mine) tags h in
        let y = some_pass (matches_application theirs) tags k in
        let first = both_left (bytes_eq mine.application theirs.application && same_key mine.key theirs.key) _ c in
        let app = same_text mine.application theirs.application (both_left (bytes_eq mine.application theirs.application) _ first) in
        let xa = same_text mine.application x.1.0.application (both_left (bytes_eq mine.application x.1.0.application) _ x.1.1.1) in
        let ya = same_text theirs.application y.1.0.application (both_left (bytes_eq theirs.application y.1.0.application) _ y.1.1.1) in
        let one : x.1.0 ≡ y.1.0 = once (λ (a : AppTags). a.application) tags possible.0 x.0 y.0 x.1.0 y.1.0 x.1.1.0 y.1.1.0 (sym xa ∙ (app ∙ ya)) in
        no_two_values y.1.0.pairs (all_slice_get KeysDiffer tags y.0 y.1.0 possible.1 y.1.1.0) mine.key theirs.key mine.value theirs.value
        (subst (λ (a : AppTags). matches_pairs mine.key mine.value a.pairs ≡ true) one (both_right (bytes_eq mine.application x.1.0.application) _ x.1.1.1))
        (both_right (bytes_eq theirs.application y.1.0.application) _ y.1.1.1)
        (both_right (bytes_eq mine.application theirs.application) _ first)
        (both_right (bytes_eq mine.application theirs.application && same_key mine.key theirs.key) _ c)

-- whole grants

pub record CanMeet (g h : AllowGrant) (target : Target) : Type 0 where
  pub mine : matches g target ≡ true
  pub theirs : matches h target ≡ true
  pub possible : ArePossible target.tags

pub can_meet : (g h : AllowGrant) → meet g h ≡ true → CanMeet g h (common g h)
can_meet g h m =
    let m3 = both_left (pools_meet g.pool h.pool && namespaces_meet g.namespace h.namespace && prefixes_meet g.prefix h.prefix) _ m in
    let m2 = both_left (pools_meet g.pool h.pool && namespaces_meet g.namespace h.namespace) _ m3 in
    let pool = can_pool g.pool h.pool (both_left (pools_meet g.pool h.pool) _ m2) in
    let namespace = can_namespace g.namespace h.namespace (both_right (pools_meet g.pool h.pool) _ m2) in
    let object = can_object g.prefix h.prefix (both_right (pools_meet g.pool h.pool && namespaces_meet g.namespace h.namespace) _ m3) in
    let tags = can_tags g.tag h.tag (both_right (pools_meet g.pool h.pool && namespaces_meet g.namespace h.namespace && prefixes_meet g.prefix h.prefix) _ m) in
    record {
      mine = both _ _ (both _ _ (both _ _ pool.0 namespace.0) tags.mine) object.0;
      theirs = both _ _ (both _ _ (both _ _ pool.1 namespace.1) tags.theirs) object.1;
      possible = tags.possible;
    }

pub must_meet : (g h : AllowGrant) (target : Target) → ArePossible target.tags → matches g target ≡ true → matches h target ≡ true → meet g h ≡ true
must_meet g h target possible a b =
    let a3 = both_left (names g.pool target.pool && matches_namespace g.namespace target.namespace && matches_tag g.tag target.tags) _ a in
    let a2 = both_left (names g.pool target.pool && matches_namespace g.namespace target.namespace) _ a3 in
    let b3 = both_left (names h.pool target.pool && matches_namespace h.namespace target.namespace && matches_tag h.tag target.tags) _ b in
    let b2 = both_left (names h.pool target.pool && matches_namespace h.namespace target.namespace) _ b3 in
    both _ _
    (both _ _
    (both _ _
    (must_pool g.pool h.pool target.pool (both_left (names g.pool target.pool) _ a2) (both_left (names h.pool target.pool) _ b2))
    (must_namespace g.namespace h.namespace target.namespace (both_right (names g.pool target.pool) _ a2) (both_right (names h.pool target.pool) _ b2)))
    (must_object g.prefix h.prefix target.object
    (both_right (names g.pool target.pool && matches_namespace g.namespace target.namespace && matches_tag g.tag target.tags) _ a)
    (both_right (names h.pool target.pool && matches_namespace h.namespace target.namespace && matches_tag h.tag target.tags) _ b)))
    (must_tags g.tag h.tag target.tags possible
    (both_right (names g.pool target.pool && matches_namespace g.namespace target.namespace) _ a3)
    (both_right (names h.pool target.pool && matches_namespace h.namespace target.namespace) _ b3))
