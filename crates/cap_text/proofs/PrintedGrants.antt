-- The printed form of a list that the grammar can spell is read as this list.
use Rattle.std.proofs.Common.{◌≡◌, ◌≤◌, ℕ, Bool, true, false, List, [], ◌∷◌, ◌++◌, refl, sym, ap, subst, ◌∙◌, inl, inr, append_assoc, Option, Some, None, length}
use Rattle.std.specs.Prelude.{◌&&◌, codes, is_none}
use Rattle.std.specs.List.{list_all, flat_map}
use Rattle.std.proofs.lemmas.List.{append-nil}
use Rattle.cap_text.specs.declared.token.Token.{Token}
use Rattle.cap_text.specs.declared.token.Token.TheVariants.{Comma, Word}
use Rattle.cap_grants.specs.declared.grant.Tag.{Tag}
use Rattle.cap_grants.specs.declared.grant.AllowGrant.{AllowGrant}
use Rattle.cap_grants.specs.declared.grant.ProfileUse.{ProfileUse}
use Rattle.cap_grants.specs.declared.grant.Grant.{Grant}
use Rattle.cap_grants.specs.declared.grant.Grant.TheVariants.{Allow, Profile}
use Rattle.cap_text.specs.Reads.{is_word, IsText}
use Rattle.cap_text.specs.Grammar.{MatchPhrase, GrantPhrase, Followed, Grants, CanBeSpelled, Spells}
use Rattle.cap_grants.specs.Spellable.{is_value, none_or, is_access, is_namespace, is_tag, is_scope, is_alone, is_allow, is_spellable}
use Rattle.cap_text.specs.Printed.{printed_value, printed_access, printed_pool, printed_namespaces, printed_prefix, printed_tag, printed_grant, printed}
use Rattle.cap_text.proofs.SpelledValues.{and_both, is_written}
use Rattle.cap_text.proofs.PrintedMarks.{Mark, text_of, tokens_of, Free, marks_read, spaced_free}
use Rattle.cap_text.proofs.PrintedPhrases.{Prints, value_written, pool_prints, prefix_prints, namespaces_print, tag_prints, access_prints}

-- the match of a grant
abbrev match_text : AllowGrant → List ℕ
match_text g = printed_pool g.pool ++ (printed_namespaces g.namespace ++ (printed_prefix g.prefix ++ printed_tag g.tag))

abbrev is_match : AllowGrant → Bool
is_match g = is_scope g.pool g.namespace && (none_or is_value g.prefix && (none_or is_tag g.tag && is_alone g g.tag))

none_of : {A : Type 0} (o : Option A) → is_none o ≡ true → o ≡ None
none_of None h = refl
none_of (Some x) h = absurd (let f : false ≡ true = h in cc)

-- a grant without a tag
plain_prints : (g : AllowGrant) (ms : List Mark) → g.tag ≡ None → is_match g ≡ true → Free ms → Prints (λ ts rest. MatchPhrase ts g rest) (match_text g) ms
plain_prints g ms none h free =
    let parts = and_both (is_scope g.pool g.namespace) _ h in
    let scope = and_both (none_or is_value g.pool) (none_or is_namespace g.namespace) parts.0 in
    let rest = and_both (none_or is_value g.prefix) _ parts.1 in
    let prefix = prefix_prints g.prefix ms rest.0 free in
    let namespace = namespaces_print g.namespace prefix.marks scope.1 prefix.free in
    let pool = pool_prints g.pool namespace.marks scope.0 namespace.free in
    let same = pool.same ∙ ap (λ x. printed_pool g.pool ++ x) (namespace.same ∙ ap (λ x. printed_namespaces g.namespace ++ x) prefix.same) in
    let ends : printed_prefix g.prefix ++ printed_tag g.tag ≡ printed_prefix g.prefix = ap (λ t. printed_prefix g.prefix ++ printed_tag t) none ∙ append-nil (printed_prefix g.prefix) in
    let P : List ℕ → Type 0 = λ x. text_of pool.marks ≡ (printed_pool g.pool ++ (printed_namespaces g.namespace ++ x)) ++ text_of ms in
    record {
      marks = pool.marks;
      same = subst P (sym ends) (same ∙ regroup (printed_pool g.pool) (printed_namespaces g.namespace) (printed_prefix g.prefix) (text_of ms));
      phrase = inl (none, (tokens_of namespace.marks, tokens_of prefix.marks, pool.phrase, namespace.phrase, prefix.phrase));
      free = pool.free;
    } where
      regroup : (a b c r : List ℕ) → a ++ (b ++ (c ++ r)) ≡ (a ++ (b ++ c)) ++ r
      regroup a b c r = simp append_assoc

-- a grant with a tag
tagged_prints : (g : AllowGrant) (tag : Tag) (ms : List Mark) → g.tag ≡ Some tag → is_match g ≡ true → Free ms → Prints (λ ts rest. MatchPhrase ts g rest) (match_text g) ms
tagged_prints g tag ms is h free =
    let parts = and_both (is_scope g.pool g.namespace) _ h in
    let scope = and_both (none_or is_value g.pool) (none_or is_namespace g.namespace) parts.0 in
    let rest = and_both (none_or is_value g.prefix) _ parts.1 in
    let tagged : (is_tag tag && (is_none g.pool && is_none g.prefix)) ≡ true = sym (ap (λ t. none_or is_tag t && is_alone g t) is) ∙ rest.1 in
    let both = and_both (is_tag tag) (is_none g.pool && is_none g.prefix) tagged in
    let alone = and_both (is_none g.pool) (is_none g.prefix) both.1 in
    let no_pool = none_of g.pool alone.0 in
    let no_prefix = none_of g.prefix alone.1 in
    let clause = tag_prints tag ms both.0 free in
    let namespace = namespaces_print g.namespace clause.marks scope.1 clause.free in
    let same : text_of namespace.marks ≡ (printed_namespaces g.namespace ++ printed_tag (Some tag)) ++ text_of ms = namespace.same ∙ ap (λ x. printed_namespaces g.namespace ++ x) clause.same ∙ sym (append_assoc (printed_namespaces g.namespace) (printed_tag (Some tag)) (text_of ms)) in
    let whole : match_text g ≡ printed_namespaces g.namespace ++ printed_tag (Some tag) =
    ap (λ x. printed_pool x ++ (printed_namespaces g.namespace ++ (printed_prefix g.prefix ++ printed_tag g.tag))) no_pool ∙ ap (λ x. printed_namespaces g.namespace ++ (printed_prefix x ++ printed_tag g.tag)) no_prefix ∙ ap (λ x. printed_namespaces g.namespace ++ printed_tag x) is in
    record {
      marks = namespace.marks;
      same = same ∙ ap (λ x. x ++ text_of ms) (sym whole);
      phrase = inr (no_pool, no_prefix, (tag, tokens_of clause.marks, is, namespace.phrase, clause.phrase));
      free = namespace.free;
    }

match_prints : (g : AllowGrant) (ms : List Mark) → is_match g ≡ true → Free ms → Prints (λ ts rest. MatchPhrase ts g rest) (match_text g) ms
match_prints g ms h free =
    elim g.tag as (λ o. g.tag ≡ o → Prints (λ ts rest. MatchPhrase ts g rest) (match_text g) ms) [
      | None ↦ λ e. plain_prints g ms e h free
      | Some tag ↦ λ e. tagged_prints g tag ms e h free
    ] refl

-- The word that a grant begins with, and the marks behind it.
record PrintsGrant (g : Grant) (ms : List Mark) : Type 0 where
  word : List ℕ
  marks : List Mark
  same : word ++ text_of marks ≡ printed_grant g ++ text_of ms
  phrase : GrantPhrase (Word word ∷ tokens_of marks) g (tokens_of ms)
  written : is_written (Word word) ≡ true
  free : Free marks

allow_prints : (g : AllowGrant) (ms : List Mark) → is_allow g ≡ true → Free ms → PrintsGrant (Allow g) ms
allow_prints g ms h free =
    let both = and_both (is_access g.access) (is_match g) h in
    let scope = match_prints g ms both.1 free in
    let access = access_prints g.access scope.marks both.0 scope.free in
    let text : text_of access.marks ≡ (32 ∷ (printed_access g.access ++ match_text g)) ++ text_of ms = access.same ∙ ap (λ x. 32 ∷ (printed_access g.access ++ x)) scope.same ∙ sym (append_assoc (32 ∷ printed_access g.access) (match_text g) (text_of ms)) in
    record {
      word = codes "allow";
      marks = access.marks;
      same = ap (λ x. codes "allow" ++ x) text;
      phrase = (tokens_of access.marks, tokens_of scope.marks, refl, inl (access.phrase, scope.phrase));
      written = refl;
      free = access.free;
    }

profile_prints : (used : ProfileUse) (ms : List Mark) → is_spellable (Profile used) ≡ true → Free ms → PrintsGrant (Profile used) ms
profile_prints used ms h free =
    let both = and_both (is_value used.name) (is_scope used.pool used.namespace) h in
    let scope = and_both (none_or is_value used.pool) (none_or is_namespace used.namespace) both.1 in
    let namespace = namespaces_print used.namespace ms scope.1 free in
    let pool = pool_prints used.pool namespace.marks scope.0 namespace.free in
    let name = value_written used.name both.0 in
    let text = ap (λ x. x ++ text_of pool.marks) name.bytes ∙ ap (λ x. printed_value used.name ++ x) (pool.same ∙ ap (λ x. printed_pool used.pool ++ x) namespace.same) ∙ regroup (printed_value used.name) (printed_pool used.pool) (printed_namespaces used.namespace) (text_of ms) in
    record {
      word = codes "profile";
      marks = (true, name.token) ∷ pool.marks;
      same = ap (λ x. codes "profile " ++ x) text;
      phrase = (name.token ∷ tokens_of pool.marks, tokens_of pool.marks, tokens_of namespace.marks, refl, inl (name.meets (tokens_of pool.marks)), pool.phrase, namespace.phrase);
      written = refl;
      free = spaced_free name.token pool.marks name.written name.calm (pool.free (is_word name.token));
    } where
      regroup : (a b c r : List ℕ) → a ++ (b ++ (c ++ r)) ≡ (a ++ (b ++ c)) ++ r
      regroup a b c r = simp append_assoc

grant_prints : (g : Grant) (ms : List Mark) → is_spellable g ≡ true → Free ms → PrintsGrant g ms
grant_prints (Allow g) ms h free = allow_prints g ms h free
grant_prints (Profile used) ms h free = profile_prints used ms h free

abbrev others_text : List Grant → List ℕ
others_text gs = flat_map (λ g. codes ", " ++ printed_grant g) gs

record PrintsOthers (gs : List Grant) : Type 0 where
  marks : List Mark
  same : text_of marks ≡ others_text gs
  phrase : Followed GrantPhrase (tokens_of marks) gs
  free : Free marks

others_print : (gs : List Grant) → list_all is_spellable gs ≡ true → PrintsOthers gs
others_print [] h = record { marks = []; same = refl; phrase = refl; free = λ behind. tt }
others_print (g ∷ gs) h =
    let both = and_both (is_spellable g) (list_all is_spellable gs) h in
    let others = others_print gs both.1 in
    let p = grant_prints g others.marks both.0 others.free in
    let text = p.same ∙ ap (λ x. printed_grant g ++ x) others.same in
    record {
      marks = (false, Comma) ∷ (true, Word p.word) ∷ p.marks;
      same = ap (λ x. codes ", " ++ x) text;
      phrase = (Word p.word ∷ tokens_of p.marks, tokens_of others.marks, inl refl, p.phrase, others.phrase);
      free = λ behind. (refl, tt, (p.written, refl, p.free true));
    }

-- the printed form of such a list is a text that spells it
pub printed_spells : (gs : List Grant) → list_all is_spellable gs ≡ true → (ts : List Token) × IsText (printed gs) ts × Grants GrantPhrase ts gs
printed_spells [] h = ([], ([], tt, refl), refl)
printed_spells (g ∷ gs) h =
    let both = and_both (is_spellable g) (list_all is_spellable gs) h in
    let others = others_print gs both.1 in
    let p = grant_prints g others.marks both.0 others.free in
    let marks : List Mark = (false, Word p.word) ∷ p.marks in
    let text : text_of marks ≡ printed (g ∷ gs) = p.same ∙ ap (λ x. printed_grant g ++ x) others.same in
    let P : List ℕ → Type 0 = λ x. IsText x (tokens_of marks) in
    (tokens_of marks, subst P text ([], tt, marks_read false marks (p.written, refl, p.free true)), (tokens_of others.marks, p.phrase, others.phrase))

pub spellable_is_spelled : (gs : List Grant) → list_all is_spellable gs ≡ true → CanBeSpelled gs
spellable_is_spelled gs h = let p = printed_spells gs h in (printed gs, p.0, p.1, p.2)

pub printed_back : (gs : List Grant) → length gs ≤ 64 → list_all is_spellable gs ≡ true → length (printed gs) ≤ 4096 → Spells (printed gs) gs
printed_back gs few h short = (short, few, printed_spells gs h)
