-- The printed form of each part of a grant is written by tokens that the grammar reads as this part.
use Rattle.std.proofs.Common.{◌≡◌, ◌≢◌, ℕ, Bool, true, false, cond, not, List, [], ◌∷◌, ◌++◌, refl, sym, ap, subst, ◌∙◌, inl, inr, append_assoc, Option, Some, None, length}
use Rattle.std.specs.Prelude.{◌&&◌, ◌||◌, ◌⊎◌, codes}
use Rattle.std.specs.Str.{bytes_eq}
use Rattle.std.specs.List.{list_all}
use Rattle.std.proofs.Math.Dec.{eqb-suc-zero}
use Rattle.cap_text.specs.declared.token.Token.{Token}
use Rattle.cap_text.specs.declared.token.Token.TheVariants.{Comma, Semicolon, Equals, Star, Word, Quoted}
use Rattle.cap_grants.specs.declared.grant.Access.{Access}
use Rattle.cap_grants.specs.declared.grant.Access.TheVariants.{All, Flags, Class}
use Rattle.cap_grants.specs.declared.grant.Flags.{Flags as FlagSet}
use Rattle.cap_grants.specs.declared.grant.NsMatch.{NsMatch}
use Rattle.cap_grants.specs.declared.grant.NsMatch.TheVariants.{Exact, Prefix}
use Rattle.cap_grants.specs.declared.grant.Part.{Part}
use Rattle.cap_grants.specs.declared.grant.Part.TheVariants.{Any, Is}
use Rattle.cap_grants.specs.declared.grant.Tag.{Tag}
use Rattle.common_types.specs.WordBytes.{is_word_byte}
use Rattle.cap_grants.specs.Bytes.{is_quotable, is_empty}
use Rattle.cap_text.specs.Reads.{is_word}
use Rattle.cap_text.specs.Words.{keyword_of}
use Rattle.cap_text.specs.Grammar.{Phrase, Optional, Value, matched, namespace_of, BeginsApart, Namespace, part_of, TagPart, PoolClause, NamespaceClause, PrefixClause, TagClause, begins_clause, Method, AccessPhrase}
use Rattle.cap_grants.specs.Spellable.{can_be_quoted, is_value, none_or, is_access, ends_in_star, is_namespace, is_part, is_tag}
use Rattle.cap_text.specs.Printed.{quoted, printed_value, printed_method, printed_namespace, printed_part, printed_option, printed_access, printed_pool, printed_namespaces, printed_prefix, printed_tag}
use Rattle.cap_text.proofs.SpelledValues.{and_both, both_and, or_cases, or_first, or_second, not_false, all_joined, is_written, star_behind, no_star_none}
use Rattle.cap_text.proofs.PrintedMarks.{Mark, bytes_of, text_of, tokens_of, Fits, Free, IsCalm, spaced_free, first_fits}

-- Marks that may stand behind anything, written as this text and then the further marks, which the grammar reads as this part.
pub record Prints (P : List Token → List Token → Type 0) (text : List ℕ) (ms : List Mark) : Type 0 where
  pub marks : List Mark
  pub same : text_of marks ≡ text ++ text_of ms
  pub phrase : P (tokens_of marks) (tokens_of ms)
  pub free : Free marks

some_bytes : (w : List ℕ) → not (is_empty w) ≡ true → w ≢ []
some_bytes [] h = λ e. let f : false ≡ true = h in cc
some_bytes (b ∷ bs) h = λ e. cc

-- ---- values

-- The token that such a text is written as. It is a word or quoted, and passes the test P.
pub record Written (P : Token → Type 0) (text : List ℕ) : Type 0 where
  pub token : Token
  pub bytes : bytes_of token ≡ text
  pub written : is_written token ≡ true
  pub calm : IsCalm token
  pub meets : P token

abbrev pub IsValueToken : List ℕ → Token → Type 0
IsValueToken v t = (rest : List Token) → Value (t ∷ rest) v rest

quoted_value : (v : List ℕ) → is_value v ≡ true → Written (IsValueToken v) (quoted v)
quoted_value v h =
    let both = and_both (not (is_empty v)) (can_be_quoted v) h in
    record { token = Quoted v; bytes = refl; written = both.1; calm = tt; meets = λ rest. inr (some_bytes v both.0, refl) }

pub value_written : (v : List ℕ) → is_value v ≡ true → Written (IsValueToken v) (printed_value v)
value_written v h =
    elim (list_all is_word_byte v) as (λ b. list_all is_word_byte v ≡ b → Written (IsValueToken v) (cond b v (quoted v))) [
      | true ↦ λ e. record { token = Word v; bytes = refl; written = both_and (not (is_empty v)) (list_all is_word_byte v) (and_both (not (is_empty v)) (can_be_quoted v) h).0 e; calm = tt; meets = λ rest. inl refl }
      | false ↦ λ e. quoted_value v h
    ] refl

-- no token has a word's letters behind it where the marks may stand anywhere
after_any : (t : Token) (ms : List Mark) → Free ms → Fits (is_word t) ms
after_any t ms free = free (is_word t)

along_bytes : (t : Token) (text rest : List ℕ) → bytes_of t ≡ text → bytes_of t ++ rest ≡ text ++ rest
along_bytes t text rest e = ap (λ x. x ++ rest) e

-- ---- clauses

optional_none : {A : Type 0} (P : Phrase A) (ms : List Mark) → Free ms → Prints (λ ts rest. Optional P ts None rest) [] ms
optional_none P ms free = record { marks = ms; same = refl; phrase = refl; free = free }

pub pool_prints : (pool : Option (List ℕ)) (ms : List Mark) → none_or is_value pool ≡ true → Free ms → Prints (λ ts rest. Optional PoolClause ts pool rest) (printed_pool pool) ms
pool_prints None ms h free = optional_none PoolClause ms free
pool_prints (Some v) ms h free =
    let w = value_written v h in
    let inner : Fits false ((false, w.token) ∷ ms) = first_fits w.token ms w.written w.calm (after_any w.token ms free) in
    let behind : List Mark = (false, Equals) ∷ (false, w.token) ∷ ms in
    record {
      marks = (true, Word (codes "pool")) ∷ behind;
      same = ap (λ x. codes " pool=" ++ x) (along_bytes w.token (printed_value v) (text_of ms) w.bytes);
      phrase = (Equals ∷ w.token ∷ tokens_of ms, refl, inr (w.token ∷ tokens_of ms, refl, w.meets (tokens_of ms)));
      free = spaced_free (Word (codes "pool")) behind refl tt (refl, tt, inner);
    }

pub prefix_prints : (prefix : Option (List ℕ)) (ms : List Mark) → none_or is_value prefix ≡ true → Free ms → Prints (λ ts rest. Optional PrefixClause ts prefix rest) (printed_prefix prefix) ms
prefix_prints None ms h free = optional_none PrefixClause ms free
prefix_prints (Some v) ms h free =
    let w = value_written v h in
    let inner : Free ((true, w.token) ∷ ms) = spaced_free w.token ms w.written w.calm (after_any w.token ms free) in
    record {
      marks = (true, Word (codes "object_prefix")) ∷ (true, w.token) ∷ ms;
      same = ap (λ x. codes " object_prefix " ++ x) (along_bytes w.token (printed_value v) (text_of ms) w.bytes);
      phrase = (w.token ∷ tokens_of ms, refl, w.meets (tokens_of ms));
      free = spaced_free (Word (codes "object_prefix")) ((true, w.token) ∷ ms) refl tt (inner true);
    }

-- ---- namespaces

-- no star stands directly behind a word where the marks may stand anywhere
begins_apart : (ms : List Mark) → Free ms → BeginsApart (tokens_of ms)
begins_apart [] free = tt
begins_apart ((space, Comma) ∷ ms) free = tt
begins_apart ((space, Semicolon) ∷ ms) free = tt
begins_apart ((space, Equals) ∷ ms) free = tt
begins_apart ((space, Star true) ∷ ms) free = let f : true ≡ false = (free false).1 in cc
begins_apart ((space, Star false) ∷ ms) free = tt
begins_apart ((space, Word w) ∷ ms) free = tt
begins_apart ((space, Quoted q) ∷ ms) free = tt

-- Marks that stand behind an equals, written as this text and then the further marks, which the grammar reads as this part.
pub record PrintsInside (P : List Token → List Token → Type 0) (text : List ℕ) (ms : List Mark) : Type 0 where
  pub marks : List Mark
  pub same : text_of marks ≡ text ++ text_of ms
  pub phrase : P (tokens_of marks) (tokens_of ms)
  pub fits : Fits false marks

abbrev IsNamespace : NsMatch → List Token → List Token → Type 0
IsNamespace ns ts rest = Namespace ts ns rest

quoted_inside : (ns : NsMatch) (q : List ℕ) (ms : List Mark) → can_be_quoted q ≡ true → ns ≡ namespace_of q → Free ms → PrintsInside (IsNamespace ns) (quoted q) ms
quoted_inside ns q ms h e free = record {
  marks = (false, Quoted q) ∷ ms;
  same = refl;
  phrase = inr (inr (inr (q, e, refl)));
  fits = (h, tt, free false);
}

exact_inside : (b : ℕ) (bs : List ℕ) (ms : List Mark) → is_namespace (Exact (b ∷ bs)) ≡ true → Free ms → PrintsInside (IsNamespace (Exact (b ∷ bs))) (printed_value (b ∷ bs)) ms
exact_inside b bs ms h free =
    let name = b ∷ bs in
    let both = and_both (can_be_quoted name) (not (ends_in_star name)) h in
    elim (list_all is_word_byte name) as (λ v. list_all is_word_byte name ≡ v → PrintsInside (IsNamespace (Exact name)) (cond v name (quoted name)) ms) [
      | true ↦ λ e. record { marks = (false, Word name) ∷ ms; same = refl; phrase = inl (name, refl, refl, begins_apart ms free); fits = (e, refl, free true) }
      | false ↦ λ e. quoted_inside (Exact name) name ms both.0 (sym (ap (matched name) (no_star_none name (not_false (ends_in_star name) both.1)))) free
    ] refl

star_can_be_quoted : (front : List ℕ) → can_be_quoted front ≡ true → can_be_quoted (front ++ codes "*") ≡ true
star_can_be_quoted front h = cases (or_cases (list_all (is_quotable 34) front) (list_all (is_quotable 39) front) h) where
  cases : (list_all (is_quotable 34) front ≡ true) ⊎ (list_all (is_quotable 39) front ≡ true) → can_be_quoted (front ++ codes "*") ≡ true
  cases (inl e) = or_first (list_all (is_quotable 34) (front ++ codes "*")) (list_all (is_quotable 39) (front ++ codes "*")) (all_joined (is_quotable 34) front (codes "*") e refl)
  cases (inr e) = or_second (list_all (is_quotable 34) (front ++ codes "*")) (list_all (is_quotable 39) (front ++ codes "*")) (all_joined (is_quotable 39) front (codes "*") e refl)

front_inside : (b : ℕ) (bs : List ℕ) (ms : List Mark) → can_be_quoted (b ∷ bs) ≡ true → Free ms
    → PrintsInside (IsNamespace (Prefix (b ∷ bs))) (cond (list_all is_word_byte (b ∷ bs)) ((b ∷ bs) ++ codes "*") (quoted ((b ∷ bs) ++ codes "*"))) ms
front_inside b bs ms h free =
    let front = b ∷ bs in
    elim (list_all is_word_byte front) as (λ v. list_all is_word_byte front ≡ v → PrintsInside (IsNamespace (Prefix front)) (cond v (front ++ codes "*") (quoted (front ++ codes "*"))) ms) [
      | true ↦ λ e. record { marks = (false, Word front) ∷ (false, Star true) ∷ ms; same = sym (append_assoc front (codes "*") (text_of ms)); phrase = inr (inl (front, refl, refl)); fits = (e, refl, (refl, refl, free false)) }
      | false ↦ λ e. quoted_inside (Prefix front) (front ++ codes "*") ms (star_can_be_quoted front h) (sym (ap (matched (front ++ codes "*")) (star_behind front))) free
    ] refl

namespace_inside : (ns : NsMatch) (ms : List Mark) → is_namespace ns ≡ true → Free ms → PrintsInside (IsNamespace ns) (printed_namespace ns) ms
unfolding printed_namespace
namespace_inside (Exact []) ms h free = quoted_inside (Exact []) [] ms refl refl free
namespace_inside (Exact (b ∷ bs)) ms h free =
    let P : Bool → Type 0 = λ v. PrintsInside (IsNamespace (Exact (b ∷ bs))) (cond v (codes "\"\"") (printed_value (b ∷ bs))) ms in
    subst P (sym (eqb-suc-zero (length bs))) (exact_inside b bs ms h free)
namespace_inside (Prefix []) ms h free = record { marks = (false, Star false) ∷ ms; same = refl; phrase = inr (inr (inl (false, refl, refl))); fits = (refl, refl, free false) }
namespace_inside (Prefix (b ∷ bs)) ms h free = front_inside b bs ms h free

pub namespaces_print : (ns : Option NsMatch) (ms : List Mark) → none_or is_namespace ns ≡ true → Free ms → Prints (λ ts rest. Optional NamespaceClause ts ns rest) (printed_namespaces ns) ms
namespaces_print None ms h free = optional_none NamespaceClause ms free
namespaces_print (Some ns) ms h free =
    let p = namespace_inside ns ms h free in
    record {
      marks = (true, Word (codes "namespace")) ∷ (false, Equals) ∷ p.marks;
      same = ap (λ x. codes " namespace=" ++ x) p.same;
      phrase = (Equals ∷ tokens_of p.marks, refl, inr (tokens_of p.marks, refl, p.phrase));
      free = spaced_free (Word (codes "namespace")) ((false, Equals) ∷ p.marks) refl tt (refl, tt, p.fits);
    }

-- ---- tags

abbrev pub IsPartToken : Part → Token → Type 0
IsPartToken part t = (rest : List Token) → TagPart (t ∷ rest) part rest

is_part_of : (v : List ℕ) → bytes_eq v (codes "*") ≡ false → Is v ≡ part_of v
is_part_of v e = let P : Bool → Type 0 = λ b. Is v ≡ cond b Any (Is v) in subst P (sym e) refl

part_written : (part : Part) → is_part part ≡ true → Written (IsPartToken part) (printed_part part)
part_written Any h = record { token = Star false; bytes = refl; written = refl; calm = refl; meets = λ rest. inl (false, refl, refl) }
part_written (Is v) h =
    let both = and_both (is_value v) (not (bytes_eq v (codes "*"))) h in
    let w = value_written v both.0 in
    record { token = w.token; bytes = w.bytes; written = w.written; calm = w.calm; meets = λ rest. inr (v, is_part_of v (not_false (bytes_eq v (codes "*")) both.1), w.meets rest) }

pub tag_prints : (tag : Tag) (ms : List Mark) → is_tag tag ≡ true → Free ms → Prints (λ ts rest. TagClause ts tag rest) (printed_tag (Some tag)) ms
tag_prints tag ms h free =
    let both = and_both (is_value tag.application) (is_part tag.key && is_part tag.value) h in
    let parts = and_both (is_part tag.key) (is_part tag.value) both.1 in
    let app = value_written tag.application both.0 in
    let key = part_written tag.key parts.0 in
    let value = part_written tag.value parts.1 in
    let rest = text_of ms in
    let last : List Mark = (false, Equals) ∷ (false, value.token) ∷ ms in
    let middle : List Mark = (true, key.token) ∷ last in
    let last_fits : Free last = λ behind. (refl, tt, first_fits value.token ms value.written value.calm (after_any value.token ms free)) in
    let middle_free : Free middle = spaced_free key.token last key.written key.calm (last_fits (is_word key.token)) in
    let app_free : Free ((true, app.token) ∷ middle) = spaced_free app.token middle app.written app.calm (middle_free (is_word app.token)) in
    let last_same : text_of last ≡ codes "=" ++ (printed_part tag.value ++ rest) = ap (λ x. 61 ∷ x) (along_bytes value.token (printed_part tag.value) rest value.bytes) in
    let middle_same : text_of middle ≡ codes " " ++ (printed_part tag.key ++ (codes "=" ++ (printed_part tag.value ++ rest))) = ap (λ x. 32 ∷ x) (along_bytes key.token (printed_part tag.key) (text_of last) key.bytes ∙ ap (λ x. printed_part tag.key ++ x) last_same) in
    let app_same = along_bytes app.token (printed_value tag.application) (text_of middle) app.bytes ∙ ap (λ x. printed_value tag.application ++ x) middle_same in
    let joined = regroup (printed_value tag.application) (codes " ") (printed_part tag.key) (codes "=") (printed_part tag.value) rest in
    record {
      marks = (true, Word (codes "tag")) ∷ (true, app.token) ∷ middle;
      same = ap (λ x. codes " tag " ++ x) (app_same ∙ joined);
      phrase = (app.token ∷ tokens_of middle, tokens_of middle, value.token ∷ tokens_of ms, refl, app.meets (tokens_of middle), key.meets (tokens_of last), value.meets (tokens_of ms));
      free = spaced_free (Word (codes "tag")) ((true, app.token) ∷ middle) refl tt (app_free true);
    } where
      regroup : (a b c d e r : List ℕ) → a ++ (b ++ (c ++ (d ++ (e ++ r)))) ≡ (a ++ (b ++ (c ++ (d ++ e)))) ++ r
      regroup a b c d e r = simp append_assoc

-- ---- access

abbrev pub IsMethodToken : List ℕ → Token → Type 0
IsMethodToken m t = (rest : List Token) → Method (t ∷ rest) m rest

method_written : (m : List ℕ) → is_value m ≡ true → Written (IsMethodToken m) (printed_method m)
unfolding printed_method
method_written m h =
    let both = and_both (not (is_empty m)) (can_be_quoted m) h in
    elim (begins_clause (keyword_of m)) as (λ v. begins_clause (keyword_of m) ≡ v → Written (IsMethodToken m) (cond v (quoted m) (printed_value m))) [
      | true ↦ λ e. record { token = Quoted m; bytes = refl; written = both.1; calm = tt; meets = λ rest. inr (some_bytes m both.0, refl) }
      | false ↦ λ e. other m h e
    ] refl where
      other : (m : List ℕ) → is_value m ≡ true → begins_clause (keyword_of m) ≡ false → Written (IsMethodToken m) (printed_value m)
      other m h plain =
          let both = and_both (not (is_empty m)) (can_be_quoted m) h in
          elim (list_all is_word_byte m) as (λ b. list_all is_word_byte m ≡ b → Written (IsMethodToken m) (cond b m (quoted m))) [
            | true ↦ λ e. record { token = Word m; bytes = refl; written = both_and (not (is_empty m)) (list_all is_word_byte m) both.0 e; calm = tt; meets = λ rest. inl (plain, refl) }
            | false ↦ λ e. record { token = Quoted m; bytes = refl; written = both.1; calm = tt; meets = λ rest. inr (some_bytes m both.0, refl) }
          ] refl

-- a method behind a space
method_prints : (method : Option (List ℕ)) (ms : List Mark) → none_or is_value method ≡ true → Free ms → Prints (λ ts rest. Optional Method ts method rest) (printed_option (λ name. codes " " ++ printed_method name) method) ms
method_prints None ms h free = optional_none Method ms free
method_prints (Some m) ms h free =
    let w = method_written m h in
    record {
      marks = (true, w.token) ∷ ms;
      same = ap (λ x. 32 ∷ x) (along_bytes w.token (printed_method m) (text_of ms) w.bytes);
      phrase = w.meets (tokens_of ms);
      free = spaced_free w.token ms w.written w.calm (after_any w.token ms free);
    }

-- one word of flags, behind a space, or two
one_word : (w : List ℕ) (ms : List Mark) → is_written (Word w) ≡ true → Free ms → Free ((true, Word w) ∷ ms)
one_word w ms written free = spaced_free (Word w) ms written tt (free true)

abbrev HasFlags : Bool → Bool → Bool → Bool → Type 0
HasFlags r w k l = (r || (w || (k || l))) ≡ true

abbrev flag_set : Bool → Bool → Bool → Bool → FlagSet
flag_set r w k l = record { read = r; write = w; class_read = k; class_write = l }

-- the letters, with x where both class flags are set, and a class word where one is
flags_print : (r w k l : Bool) (ms : List Mark) → HasFlags r w k l → Free ms → Prints (λ ts rest. AccessPhrase ts (Flags (flag_set r w k l)) rest) (32 ∷ printed_access (Flags (flag_set r w k l))) ms
flags_print true true true true ms h free = record { marks = (true, Word (codes "rwx")) ∷ ms; same = refl; phrase = (true, false, false, refl, refl, refl, refl); free = one_word (codes "rwx") ms refl free }
flags_print true false true true ms h free = record { marks = (true, Word (codes "rx")) ∷ ms; same = refl; phrase = (true, false, false, refl, refl, refl, refl); free = one_word (codes "rx") ms refl free }
flags_print false true true true ms h free = record { marks = (true, Word (codes "wx")) ∷ ms; same = refl; phrase = (true, false, false, refl, refl, refl, refl); free = one_word (codes "wx") ms refl free }
flags_print false false true true ms h free = record { marks = (true, Word (codes "x")) ∷ ms; same = refl; phrase = (true, false, false, refl, refl, refl, refl); free = one_word (codes "x") ms refl free }
flags_print true true false false ms h free = record { marks = (true, Word (codes "rw")) ∷ ms; same = refl; phrase = (false, false, false, refl, refl, refl, refl); free = one_word (codes "rw") ms refl free }
flags_print true false false false ms h free = record { marks = (true, Word (codes "r")) ∷ ms; same = refl; phrase = (false, false, false, refl, refl, refl, refl); free = one_word (codes "r") ms refl free }
flags_print false true false false ms h free = record { marks = (true, Word (codes "w")) ∷ ms; same = refl; phrase = (false, false, false, refl, refl, refl, refl); free = one_word (codes "w") ms refl free }
flags_print false false false false ms h free = absurd (let f : false ≡ true = h in cc)
flags_print true true true false ms h free = record { marks = (true, Word (codes "rw")) ∷ (true, Word (codes "class-read")) ∷ ms; same = refl; phrase = (false, true, false, refl, refl, refl, refl); free = one_word (codes "rw") ((true, Word (codes "class-read")) ∷ ms) refl (one_word (codes "class-read") ms refl free) }
flags_print true false true false ms h free = record { marks = (true, Word (codes "r")) ∷ (true, Word (codes "class-read")) ∷ ms; same = refl; phrase = (false, true, false, refl, refl, refl, refl); free = one_word (codes "r") ((true, Word (codes "class-read")) ∷ ms) refl (one_word (codes "class-read") ms refl free) }
flags_print false true true false ms h free = record { marks = (true, Word (codes "w")) ∷ (true, Word (codes "class-read")) ∷ ms; same = refl; phrase = (false, true, false, refl, refl, refl, refl); free = one_word (codes "w") ((true, Word (codes "class-read")) ∷ ms) refl (one_word (codes "class-read") ms refl free) }
flags_print false false true false ms h free = record { marks = (true, Word (codes "class-read")) ∷ ms; same = refl; phrase = (false, true, false, refl, refl, refl, refl); free = one_word (codes "class-read") ms refl free }
flags_print true true false true ms h free = record { marks = (true, Word (codes "rw")) ∷ (true, Word (codes "class-write")) ∷ ms; same = refl; phrase = (false, false, true, refl, refl, refl, refl); free = one_word (codes "rw") ((true, Word (codes "class-write")) ∷ ms) refl (one_word (codes "class-write") ms refl free) }
flags_print true false false true ms h free = record { marks = (true, Word (codes "r")) ∷ (true, Word (codes "class-write")) ∷ ms; same = refl; phrase = (false, false, true, refl, refl, refl, refl); free = one_word (codes "r") ((true, Word (codes "class-write")) ∷ ms) refl (one_word (codes "class-write") ms refl free) }
flags_print false true false true ms h free = record { marks = (true, Word (codes "w")) ∷ (true, Word (codes "class-write")) ∷ ms; same = refl; phrase = (false, false, true, refl, refl, refl, refl); free = one_word (codes "w") ((true, Word (codes "class-write")) ∷ ms) refl (one_word (codes "class-write") ms refl free) }
flags_print false false false true ms h free = record { marks = (true, Word (codes "class-write")) ∷ ms; same = refl; phrase = (false, false, true, refl, refl, refl, refl); free = one_word (codes "class-write") ms refl free }

-- an access behind a space
pub access_prints : (access : Access) (ms : List Mark) → is_access access ≡ true → Free ms → Prints (λ ts rest. AccessPhrase ts access rest) (32 ∷ printed_access access) ms
access_prints All ms h free = record { marks = (true, Star false) ∷ ms; same = refl; phrase = inl (false, refl); free = spaced_free (Star false) ms refl refl (free false) }
access_prints (Flags f) ms h free = flags_print f.read f.write f.class_read f.class_write ms h free
access_prints (Class class method) ms h free =
    let both = and_both (is_value class) (none_or is_value method) h in
    let w = value_written class both.0 in
    let p = method_prints method ms both.1 free in
    let tail : List ℕ = printed_option (λ name. codes " " ++ printed_method name) method in
    let inner : Free ((true, w.token) ∷ p.marks) = spaced_free w.token p.marks w.written w.calm (p.free (is_word w.token)) in
    record {
      marks = (true, Word (codes "class")) ∷ (true, w.token) ∷ p.marks;
      same = ap (λ x. codes " class " ++ x) (along_bytes w.token (printed_value class) (text_of p.marks) w.bytes ∙ ap (λ x. printed_value class ++ x) p.same ∙ sym (append_assoc (printed_value class) tail (text_of ms)));
      phrase = (w.token ∷ tokens_of p.marks, tokens_of p.marks, refl, w.meets (tokens_of p.marks), p.phrase);
      free = spaced_free (Word (codes "class")) ((true, w.token) ∷ p.marks) refl tt (inner true);
    }
