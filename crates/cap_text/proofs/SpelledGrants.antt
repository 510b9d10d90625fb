-- Whatever the grammar spells passes the test of what it can spell.
use Rattle.std.proofs.Common.{◌≡◌, ℕ, Bool, true, false, cond, not, List, [], ◌∷◌, ◌++◌, refl, sym, ap, subst, ◌∙◌, Some, None, inl, inr}
use Rattle.std.specs.Prelude.{◌&&◌, ◌||◌, ◌⊎◌, codes, is_none}
use Rattle.std.specs.Str.{bytes_eq}
use Rattle.std.specs.List.{list_all}
use Rattle.cap_text.specs.declared.token.Token.{Token}
use Rattle.cap_text.specs.declared.token.Token.TheVariants.{Comma, Semicolon, Equals, Star, Word, Quoted}
use Rattle.cap_grants.specs.declared.grant.Access.TheVariants.{All, Flags, Class}
use Rattle.cap_grants.specs.declared.grant.NsMatch.{NsMatch}
use Rattle.cap_grants.specs.declared.grant.NsMatch.TheVariants.{Exact, Prefix}
use Rattle.cap_grants.specs.declared.grant.Part.TheVariants.{Any, Is}
use Rattle.cap_grants.specs.declared.grant.AllowGrant.{AllowGrant}
use Rattle.cap_grants.specs.declared.grant.Grant.{Grant}
use Rattle.cap_grants.specs.declared.grant.Grant.TheVariants.{Allow, Profile}
use Rattle.common_types.specs.WordBytes.{is_word_byte}
use Rattle.cap_grants.specs.Bytes.{is_empty}
use Rattle.cap_text.specs.Reads.{IsText}
use Rattle.cap_text.specs.Grammar.{Phrase, Optional, Assigned, Behind, Value, before_star, matched, namespace_of, Namespace, part_of, TagPart, PoolClause, NamespaceClause, PrefixClause, TagClause, Method, where_set, AccessPhrase, MatchPhrase, GrantPhrase, Separated, Followed, Grants, CanBeSpelled}
use Rattle.cap_grants.specs.Spellable.{can_be_quoted, is_value, none_or, is_access, ends_in_star, is_namespace, is_part, is_tag, is_alone, is_scope, is_spellable}
use Rattle.cap_text.proofs.SpelledValues.{and_both, both_and, AllWritten, is_written, reads_written, word_can_be_quoted, word_is_value, quoted_is_value, star_cases, word_ends_in_no_star, front_can_be_quoted}

-- the tokens that such a part begins can be written, so the part passes the test, and the tokens behind it can be written
abbrev Keeps : {A : Type 0} → Phrase A → (A → Bool) → Type 0
Keeps {A} P test = (ts : List Token) (x : A) (rest : List Token) → AllWritten ts → P ts x rest → (test x ≡ true) × AllWritten rest

along : (ts us : List Token) → ts ≡ us → AllWritten ts → AllWritten us
along ts us e w = subst AllWritten e w

keeps_optional : {A : Type 0} (P : Phrase A) (test : A → Bool) → Keeps P test → Keeps (Optional P) (none_or test)
keeps_optional P test keeps ts None rest w h = (refl, along ts rest h w)
keeps_optional P test keeps ts (Some x) rest w h = keeps ts x rest w h

keeps_assigned : {A : Type 0} (P : Phrase A) (test : A → Bool) → Keeps P test → Keeps (Assigned P) test
keeps_assigned P test keeps ts x rest w (inl h) = keeps ts x rest w h
keeps_assigned P test keeps ts x rest w (inr (mid, e, h)) = keeps mid x rest (along ts (Equals ∷ mid) e w).1 h

keeps_behind : {A : Type 0} (word : List ℕ) (P : Phrase A) (test : A → Bool) → Keeps P test → Keeps (Behind word P) test
keeps_behind word P test keeps ts x rest w (mid, e, h) = keeps mid x rest (along ts (Word word ∷ mid) e w).1 h

value_keeps : Keeps Value is_value
value_keeps ts v rest w (inl e) = let u = along ts (Word v ∷ rest) e w in (word_is_value v u.0, u.1)
value_keeps ts v rest w (inr (some, e)) = let u = along ts (Quoted v ∷ rest) e w in (quoted_is_value v some u.0, u.1)

method_keeps : Keeps Method is_value
method_keeps ts v rest w (inl (other, e)) = let u = along ts (Word v ∷ rest) e w in (word_is_value v u.0, u.1)
method_keeps ts v rest w (inr (some, e)) = let u = along ts (Quoted v ∷ rest) e w in (quoted_is_value v some u.0, u.1)

along_namespace : (a b : NsMatch) → a ≡ b → is_namespace b ≡ true → is_namespace a ≡ true
along_namespace a b e h = ap is_namespace e ∙ h

exact_word : (w : List ℕ) → is_written (Word w) ≡ true → is_namespace (Exact w) ≡ true
exact_word w h =
    let bytes = and_both (not (is_empty w)) (list_all is_word_byte w) h in
    both_and (can_be_quoted w) (not (ends_in_star w)) (word_can_be_quoted w bytes.1) (ap not (word_ends_in_no_star w bytes.1))

prefix_word : (w : List ℕ) → is_written (Word w) ≡ true → is_namespace (Prefix w) ≡ true
prefix_word w h = word_can_be_quoted w (and_both (not (is_empty w)) (list_all is_word_byte w) h).1

quoted_namespace : (q : List ℕ) → can_be_quoted q ≡ true → is_namespace (namespace_of q) ≡ true
quoted_namespace q h = cases (star_cases q) where
  cases : ((before_star q ≡ None) × (ends_in_star q ≡ false)) ⊎ ((front : List ℕ) × (before_star q ≡ Some front) × (q ≡ front ++ 42 ∷ [])) → is_namespace (matched q (before_star q)) ≡ true
  cases (inl (e, s)) = rw e (both_and (can_be_quoted q) (not (ends_in_star q)) h (ap not s))
  cases (inr (front, e, s)) = rw e (front_can_be_quoted front (42 ∷ []) (ap can_be_quoted (sym s) ∙ h))

namespace_keeps : Keeps Namespace is_namespace
namespace_keeps ts ns rest w (inl (v, e, t, apart)) = let u = along ts (Word v ∷ rest) t w in (along_namespace ns (Exact v) e (exact_word v u.0), u.1)
namespace_keeps ts ns rest w (inr (inl (v, e, t))) = let u = along ts (Word v ∷ Star true ∷ rest) t w in (along_namespace ns (Prefix v) e (prefix_word v u.0), u.1.1)
namespace_keeps ts ns rest w (inr (inr (inl (behind, e, t)))) = let u = along ts (Star behind ∷ rest) t w in (along_namespace ns (Prefix []) e refl, u.1)
namespace_keeps ts ns rest w (inr (inr (inr (q, e, t)))) = let u = along ts (Quoted q ∷ rest) t w in (along_namespace ns (namespace_of q) e (quoted_namespace q u.0), u.1)

value_part : (v : List ℕ) → is_value v ≡ true → is_part (part_of v) ≡ true
value_part v h =
    elim (bytes_eq v (codes "*")) as (λ b. bytes_eq v (codes "*") ≡ b → is_part (cond b Any (Is v)) ≡ true) [
      | true ↦ λ e. refl
      | false ↦ λ e. both_and (is_value v) (not (bytes_eq v (codes "*"))) h (ap not e)
    ] refl

part_keeps : Keeps TagPart is_part
part_keeps ts part rest w (inl (behind, e, t)) = (ap is_part e, (along ts (Star behind ∷ rest) t w).1)
part_keeps ts part rest w (inr (v, e, h)) = let k = value_keeps ts v rest w h in (ap is_part e ∙ value_part v k.0, k.1)

tag_keeps : Keeps TagClause is_tag
tag_keeps ts tag rest w (a, b, c, e, app, key, value) =
    let x = value_keeps a tag.application b (along ts (Word (codes "tag") ∷ a) e w).1 app in
    let y = part_keeps b tag.key (Equals ∷ c) x.1 key in
    let z = part_keeps c tag.value rest y.1.1 value in
    (both_and (is_value tag.application) (is_part tag.key && is_part tag.value) x.0 (both_and (is_part tag.key) (is_part tag.value) y.0 z.0), z.1)

pool_keeps : Keeps (Optional PoolClause) (none_or is_value)
pool_keeps = keeps_optional PoolClause is_value (keeps_behind (codes "pool") (Assigned Value) is_value (keeps_assigned Value is_value value_keeps))

namespaces_keep : Keeps (Optional NamespaceClause) (none_or is_namespace)
namespaces_keep = keeps_optional NamespaceClause is_namespace (keeps_behind (codes "namespace") (Assigned Namespace) is_namespace (keeps_assigned Namespace is_namespace namespace_keeps))

prefix_keeps : Keeps (Optional PrefixClause) (none_or is_value)
prefix_keeps = keeps_optional PrefixClause is_value (keeps_behind (codes "object_prefix") Value is_value value_keeps)

-- ---- access

some_flag : (r w x k l : Bool) → (r || (w || (x || (k || l)))) ≡ true → (r || (w || ((x || k) || (x || l)))) ≡ true
some_flag true w x k l h = refl
some_flag false true x k l h = refl
some_flag false false true k l h = refl
some_flag false false false true l h = refl
some_flag false false false false l h = h

behind_set : (set : Bool) (word : List ℕ) (ts : List Token) → AllWritten (where_set set word ts) → AllWritten ts
behind_set true word ts w = w.1
behind_set false word ts w = w

access_keeps : Keeps AccessPhrase is_access
access_keeps ts All rest w (inl (behind, e)) = (refl, (along ts (Star behind ∷ rest) e w).1)
access_keeps ts All rest w (inr e) = (refl, (along ts (Word (codes "all") ∷ rest) e w).1)
access_keeps ts (Class class method) rest w (a, b, e, v, m) =
    let x = value_keeps a class b (along ts (Word (codes "class") ∷ a) e w).1 v in
    let y = keeps_optional Method is_value method_keeps b method rest x.1 m in
    (both_and (is_value class) (none_or is_value method) x.0 y.0, y.1)
access_keeps ts (Flags f) rest w (x, k, l, e, some, reads, writes) = (
  rw (reads, writes) (some_flag f.read f.write x k l some),
  behind_set l _ rest (behind_set k _ _ (behind_set (f.read || (f.write || x)) _ _ (along ts _ e w))),
)

-- ---- where a grant holds, and whole grants

abbrev is_match : AllowGrant → Bool
is_match g = is_scope g.pool g.namespace && (none_or is_value g.prefix && (none_or is_tag g.tag && is_alone g g.tag))

match_keeps : Keeps MatchPhrase is_match
match_keeps ts g rest w (inl (none, (a, b, pool, namespace, prefix))) =
    let x = pool_keeps ts g.pool a w pool in
    let y = namespaces_keep a g.namespace b x.1 namespace in
    let z = prefix_keeps b g.prefix rest y.1 prefix in
    let alone : (none_or is_tag g.tag && is_alone g g.tag) ≡ true = ap (λ t. none_or is_tag t && is_alone g t) none in
    (both_and (is_scope g.pool g.namespace) _ (both_and (none_or is_value g.pool) (none_or is_namespace g.namespace) x.0 y.0) (both_and (none_or is_value g.prefix) _ z.0 alone), z.1)
match_keeps ts g rest w (inr (no_pool, no_prefix, (tag, a, is, namespace, clause))) =
    let y = namespaces_keep ts g.namespace a w namespace in
    let z = tag_keeps a tag rest y.1 clause in
    let pool : none_or is_value g.pool ≡ true = ap (none_or is_value) no_pool in
    let prefix : none_or is_value g.prefix ≡ true = ap (none_or is_value) no_prefix in
    let apart : (is_none g.pool && is_none g.prefix) ≡ true = both_and (is_none g.pool) (is_none g.prefix) (ap is_none no_pool) (ap is_none no_prefix) in
    let alone : (none_or is_tag g.tag && is_alone g g.tag) ≡ true = ap (λ t. none_or is_tag t && is_alone g t) is ∙ both_and (is_tag tag) (is_none g.pool && is_none g.prefix) z.0 apart in
    (both_and (is_scope g.pool g.namespace) _ (both_and (none_or is_value g.pool) (none_or is_namespace g.namespace) pool y.0) (both_and (none_or is_value g.prefix) _ prefix alone), z.1)

pub grant_keeps : Keeps GrantPhrase is_spellable
grant_keeps ts (Allow g) rest w (a, b, e, inl (access, scope)) =
    let x = access_keeps a g.access b (along ts (Word (codes "allow") ∷ a) e w).1 access in
    let y = match_keeps b g rest x.1 scope in
    (both_and (is_access g.access) (is_match g) x.0 y.0, y.1)
grant_keeps ts (Allow g) rest w (a, b, e, inr (scope, access)) =
    let x = match_keeps a g b (along ts (Word (codes "allow") ∷ a) e w).1 scope in
    let y = access_keeps b g.access rest x.1 access in
    (both_and (is_access g.access) (is_match g) y.0 x.0, y.1)
grant_keeps ts (Profile used) rest w (a, b, c, e, name, pool, namespace) =
    let x = keeps_assigned Value is_value value_keeps a used.name b (along ts (Word (codes "profile") ∷ a) e w).1 name in
    let y = pool_keeps b used.pool c x.1 pool in
    let z = namespaces_keep c used.namespace rest y.1 namespace in
    (both_and (is_value used.name) (is_scope used.pool used.namespace) x.0 (both_and (none_or is_value used.pool) (none_or is_namespace used.namespace) y.0 z.0), z.1)

behind_separator : (ts rest : List Token) → Separated ts rest → AllWritten ts → AllWritten rest
behind_separator ts rest (inl e) w = (along ts (Comma ∷ rest) e w).1
behind_separator ts rest (inr e) w = (along ts (Semicolon ∷ rest) e w).1

pub followed_spellable : (ts : List Token) (gs : List Grant) → AllWritten ts → Followed GrantPhrase ts gs → list_all is_spellable gs ≡ true
followed_spellable ts [] w h = refl
followed_spellable ts (g ∷ gs) w (a, b, separated, phrase, more) =
    let x = grant_keeps a g b (behind_separator ts a separated w) phrase in
    both_and (is_spellable g) (list_all is_spellable gs) x.0 (followed_spellable b gs x.1 more)

pub grants_spellable : (ts : List Token) (gs : List Grant) → AllWritten ts → Grants GrantPhrase ts gs → list_all is_spellable gs ≡ true
grants_spellable ts [] w h = refl
grants_spellable ts (g ∷ gs) w (a, phrase, more) =
    let x = grant_keeps ts g a w phrase in
    both_and (is_spellable g) (list_all is_spellable gs) x.0 (followed_spellable a gs x.1 more)

-- whatever a text spells passes the test
pub text_is_spellable : (text : List ℕ) (ts : List Token) (gs : List Grant) → IsText text ts → Grants GrantPhrase ts gs → list_all is_spellable gs ≡ true
text_is_spellable text ts gs is_text spelled = grants_spellable ts gs (reads_written false text ts is_text.0 is_text.2) spelled

pub spelled_is_spellable : (gs : List Grant) → CanBeSpelled gs → list_all is_spellable gs ≡ true
spelled_is_spellable gs h = text_is_spellable h.0 h.1 gs h.2 h.3
