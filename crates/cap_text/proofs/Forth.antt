-- What the grammar takes is read.
use Rattle.std.proofs.Common.{◌≡◌, ℕ, Bool, true, false, List, [], ◌∷◌, ◌++◌, Option, Some, None, Result, Ok, Err, refl, sym, ap, subst, ◌∙◌, inl, inr, append_assoc}
use Rattle.std.specs.Prelude.{◌||◌, codes}
use Rattle.cap_text.specs.declared.token.Token.{Token}
use Rattle.cap_text.specs.declared.token.Token.TheVariants.{Comma, Semicolon, Equals, Star, Word, Quoted}
use Rattle.cap_grants.specs.declared.grant.Access.{Access}
use Rattle.cap_grants.specs.declared.grant.Access.TheVariants as accesses
use Rattle.cap_grants.specs.declared.grant.Flags.{Flags}
use Rattle.cap_grants.specs.declared.grant.NsMatch.{NsMatch}
use Rattle.cap_grants.specs.declared.grant.NsMatch.TheVariants.{Exact, Prefix}
use Rattle.cap_grants.specs.declared.grant.Part.{Part}
use Rattle.cap_grants.specs.declared.grant.Part.TheVariants.{Any}
use Rattle.cap_grants.specs.declared.grant.Tag.{Tag}
use Rattle.cap_grants.specs.declared.grant.AllowGrant.{AllowGrant}
use Rattle.cap_grants.specs.declared.grant.Grant.{Grant}
use Rattle.cap_grants.specs.declared.grant.Grant.TheVariants.{Allow, Profile}
use Rattle.cap_grants.specs.declared.fault_kind.FaultKind.{FaultKind}
use Rattle.cap_text.specs.declared.keyword.Keyword.{Keyword}
use Rattle.cap_text.specs.declared.keyword.Keyword.TheVariants as kw
use Rattle.cap_text.specs.declared.stage.ClauseSet.{ClauseSet}
use Rattle.cap_text.specs.Draft.{Head, Draft}
use Rattle.cap_text.specs.Draft as heads
use Rattle.cap_text.specs.declared.stage.ValueFor.{ValueFor}
use Rattle.cap_text.specs.declared.stage.ValueFor.TheVariants as slots
use Rattle.cap_text.specs.Stage.{Stage, State}
use Rattle.cap_text.specs.Stage as stages
use Rattle.cap_text.specs.Words.{letters, keyword_of}
use Rattle.cap_text.specs.Grammar.{Optional, Assigned, Behind, Value, Namespace, BeginsApart, namespace_of, part_of, TagPart, PoolClause, NamespaceClause, PrefixClause, TagClause, begins_clause, Method, where_set, flag_words, AccessPhrase, MatchPhrase, GrantPhrase, Separated, Followed, Grants}
use Rattle.cap_text.specs.Assembly.{no_more, after_pool, after_namespace, draft, fresh, with_access, after_access, wants_access, grant_of, ended}
use Rattle.cap_text.specs.Machine.{every, of_profile, accessed, flags, where_open, where_due, clause_word, behind_flags, class_read_word, letters_word, method_stage, method_word, filled, namespace_stage, tag_stage, start_word, step, after_grant, in_grant, advance, finish}
use Rattle.cap_text.proofs.Keywords.{letters_keyword}

-- ---- runs

infixl 10 ◌then◌
abbrev pub ◌then◌ : {A B : Type 0} → Result A FaultKind → (A → Result B FaultKind) → Result B FaultKind
(Ok x) then f = f x
(Err k) then f = Err k

abbrev pub run : State → List Token → Result State FaultKind
run s [] = Ok s
run s (t ∷ ts) = advance s t then (λ u. run u ts)

abbrev pub at_stage : List Grant → Stage → State
at_stage done p = record { done = done; stage = p }

-- what the tokens give from this stage on
abbrev pub reads : List Grant → Stage → List Token → Result (List Grant) FaultKind
reads done p ts = run (at_stage done p) ts then finish

-- the tokens lead from one stage to the other, before the rest
abbrev Go : List Grant → Stage → List Token → Stage → List Token → Type 0
Go done p ts q rest = reads done p ts ≡ reads done q rest

word_go : (done : List Grant) (p q : Stage) (w : List ℕ) (ts : List Token) → step p (Word w) ≡ Ok q → Go done p (Word w ∷ ts) q ts
word_go done p q w ts e = ap (λ r. (in_grant done r then λ u. run u ts) then finish) e

quoted_go : (done : List Grant) (p q : Stage) (w : List ℕ) (ts : List Token) → step p (Quoted w) ≡ Ok q → Go done p (Quoted w ∷ ts) q ts
quoted_go done p q w ts e = ap (λ r. (in_grant done r then λ u. run u ts) then finish) e

star_go : (done : List Grant) (p q : Stage) (b : Bool) (ts : List Token) → step p (Star b) ≡ Ok q → Go done p (Star b ∷ ts) q ts
star_go done p q b ts e = ap (λ r. (in_grant done r then λ u. run u ts) then finish) e

equals_go : (done : List Grant) (p q : Stage) (ts : List Token) → step p Equals ≡ Ok q → Go done p (Equals ∷ ts) q ts
equals_go done p q ts e = ap (λ r. (in_grant done r then λ u. run u ts) then finish) e

-- ---- what ends a part that may go on

-- the end of a grant, or a clause
abbrev IsPlain : List Token → Type 0
IsPlain [] = Unit {0}
IsPlain (Comma ∷ ts) = Unit {0}
IsPlain (Semicolon ∷ ts) = Unit {0}
IsPlain (Word w ∷ ts) = begins_clause (keyword_of w) ≡ true
IsPlain (t ∷ ts) = ⊥

abbrev IsEnd : List Token → Type 0
IsEnd [] = Unit {0}
IsEnd (Comma ∷ ts) = Unit {0}
IsEnd (Semicolon ∷ ts) = Unit {0}
IsEnd (t ∷ ts) = ⊥

end_plain : (ts : List Token) → IsEnd ts → IsPlain ts
end_plain [] h = tt
end_plain (Comma ∷ ts) h = tt
end_plain (Semicolon ∷ ts) h = tt
end_plain (t ∷ ts) h = absurd h

plain_along : (ts us : List Token) → ts ≡ us → IsPlain us → IsPlain ts
plain_along ts us e h = let P : List Token → Type 0 = λ x. IsPlain x in subst P (sym e) h

letters_plain : (f : Flags) (may : ClauseSet) (d : Draft) (k : Keyword) → begins_clause k ≡ true → letters_word f may d k ≡ behind_flags may d f k
letters_plain f may d kw.Pool h = refl
letters_plain f may d kw.Namespace h = refl
letters_plain f may d kw.ObjectPrefix h = refl
letters_plain f may d kw.Tag h = refl
letters_plain f may d kw.Network h = refl
letters_plain f may d k h = absurd cc

class_read_plain : (f : Flags) (may : ClauseSet) (d : Draft) (k : Keyword) → begins_clause k ≡ true → class_read_word f may d k ≡ behind_flags may d f k
class_read_plain f may d kw.Pool h = refl
class_read_plain f may d kw.Namespace h = refl
class_read_plain f may d kw.ObjectPrefix h = refl
class_read_plain f may d kw.Tag h = refl
class_read_plain f may d kw.Network h = refl
class_read_plain f may d k h = absurd cc

method_plain : (c : List ℕ) (may : ClauseSet) (d : Draft) (w : List ℕ) (k : Keyword) → begins_clause k ≡ true → method_word c may d w k ≡ clause_word (after_access may) (with_access d (accesses.Class c None)) k
method_plain c may d w kw.Pool h = refl
method_plain c may d w kw.Namespace h = refl
method_plain c may d w kw.ObjectPrefix h = refl
method_plain c may d w kw.Tag h = refl
method_plain c may d w kw.Network h = refl
method_plain c may d w k h = absurd cc

method_takes : (c : List ℕ) (may : ClauseSet) (d : Draft) (w : List ℕ) (k : Keyword) → begins_clause k ≡ false → method_word c may d w k ≡ Ok (method_stage c may d (Some w))
method_takes c may d w kw.Pool h = absurd cc
method_takes c may d w kw.Namespace h = absurd cc
method_takes c may d w kw.ObjectPrefix h = absurd cc
method_takes c may d w kw.Tag h = absurd cc
method_takes c may d w kw.Network h = absurd cc
method_takes c may d w k h = refl

module _ (done : List Grant) (may : ClauseSet) (d : Draft) where
  pub settle_letters : (f : Flags) (ts : List Token) → IsPlain ts → Go done (stages.Letters f may d) ts (accessed may d (accesses.Flags f)) ts
  unfolding step
  settle_letters f [] h = refl
  settle_letters f (Comma ∷ ts) h = refl
  settle_letters f (Semicolon ∷ ts) h = refl
  settle_letters f (Word w ∷ ts) h = ap (λ r. (in_grant done r then λ u. run u ts) then finish) (letters_plain f may d (keyword_of w) h)
  settle_letters f (t ∷ ts) h = absurd h

  pub settle_class_read : (f : Flags) (ts : List Token) → IsPlain ts → Go done (stages.ClassRead f may d) ts (accessed may d (accesses.Flags f)) ts
  unfolding step
  settle_class_read f [] h = refl
  settle_class_read f (Comma ∷ ts) h = refl
  settle_class_read f (Semicolon ∷ ts) h = refl
  settle_class_read f (Word w ∷ ts) h = ap (λ r. (in_grant done r then λ u. run u ts) then finish) (class_read_plain f may d (keyword_of w) h)
  settle_class_read f (t ∷ ts) h = absurd h

  pub settle_method : (c : List ℕ) (ts : List Token) → IsPlain ts → Go done (stages.Method c may d) ts (method_stage c may d None) ts
  unfolding step
  settle_method c [] h = refl
  settle_method c (Comma ∷ ts) h = refl
  settle_method c (Semicolon ∷ ts) h = refl
  settle_method c (Word w ∷ ts) h = ap (λ r. (in_grant done r then λ u. run u ts) then finish) (method_plain c may d w (keyword_of w) h)
  settle_method c (t ∷ ts) h = absurd h

  pub settle_namespace : (w : List ℕ) (ts : List Token) → BeginsApart ts → Go done (stages.NamespaceWord w may d) ts (namespace_stage may d (Exact w)) ts
  unfolding step
  settle_namespace w [] h = refl
  settle_namespace w (Comma ∷ ts) h = refl
  settle_namespace w (Semicolon ∷ ts) h = refl
  settle_namespace w (Equals ∷ ts) h = refl
  settle_namespace w (Star true ∷ ts) h = absurd h
  settle_namespace w (Star false ∷ ts) h = refl
  settle_namespace w (Word v ∷ ts) h = refl
  settle_namespace w (Quoted v ∷ ts) h = refl

-- ---- values

value_go : (done : List Grant) (p : Stage) (f : List ℕ → Stage) → ((w : List ℕ) → step p (Word w) ≡ Ok (f w)) → ((b : ℕ) (q : List ℕ) → step p (Quoted (b ∷ q)) ≡ Ok (f (b ∷ q))) → (ts : List Token) (v : List ℕ) (mid : List Token) → Value ts v mid → Go done p ts (f v) mid
value_go done p f hw hq ts v mid (inl e) = ap (reads done p) e ∙ word_go done p (f v) v mid (hw v)
value_go done p f hw hq ts [] mid (inr h) = absurd (h.0 refl)
value_go done p f hw hq ts (b ∷ v) mid (inr h) = ap (reads done p) h.1 ∙ quoted_go done p (f (b ∷ v)) (b ∷ v) mid (hq b v)

filled_go : (done : List Grant) (s : ValueFor) (may : ClauseSet) (d : Draft) (ts : List Token) (v : List ℕ) (mid : List Token) → Value ts v mid → Go done (stages.Value s may d) ts (filled s may d v) mid
unfolding step
filled_go done s may d = value_go done (stages.Value s may d) (filled s may d) (λ w. refl) (λ b q. refl)

assigned_go : (done : List Grant) (s : ValueFor) (may : ClauseSet) (d : Draft) (ts : List Token) (v : List ℕ) (mid : List Token) → Assigned Value ts v mid → Go done (stages.Assigned s may d) ts (filled s may d v) mid
unfolding step
assigned_go done s may d ts v mid (inl h) = value_go done (stages.Assigned s may d) (filled s may d) (λ w. refl) (λ b q. refl) ts v mid h
assigned_go done s may d ts v mid (inr (m, e, h)) = ap (reads done (stages.Assigned s may d)) e ∙ equals_go done (stages.Assigned s may d) (stages.Value s may d) m refl ∙ filled_go done s may d m v mid h

part_go : (done : List Grant) (p : Stage) (f : Part → Stage) → ((w : List ℕ) → step p (Word w) ≡ Ok (f (part_of w))) → ((b : ℕ) (q : List ℕ) → step p (Quoted (b ∷ q)) ≡ Ok (f (part_of (b ∷ q)))) → ((b : Bool) → step p (Star b) ≡ Ok (f Any)) → (ts : List Token) (v : Part) (mid : List Token) → TagPart ts v mid → Go done p ts (f v) mid
part_go done p f hw hq hs ts v mid (inl (b, x, e)) = ap (reads done p) e ∙ star_go done p (f Any) b mid (hs b) ∙ ap (λ y. reads done (f y) mid) (sym x)
part_go done p f hw hq hs ts v mid (inr (w, x, h)) = value_go done p (λ y. f (part_of y)) hw hq ts w mid h ∙ ap (λ y. reads done (f y) mid) (sym x)

namespace_go : (done : List Grant) (p : Stage) (may : ClauseSet) (d : Draft) → ((w : List ℕ) → step p (Word w) ≡ Ok (stages.NamespaceWord w may d)) → ((q : List ℕ) → step p (Quoted q) ≡ Ok (namespace_stage may d (namespace_of q))) → ((b : Bool) → step p (Star b) ≡ Ok (namespace_stage may d (Prefix []))) → (ts : List Token) (n : NsMatch) (mid : List Token) → Namespace ts n mid → Go done p ts (namespace_stage may d n) mid
unfolding step
namespace_go done p may d hw hq hs ts n mid (inl (w, x, e, apart)) =
    ap (reads done p) e ∙ word_go done p _ w mid (hw w) ∙ settle_namespace done may d w mid apart ∙ ap (λ y. reads done (namespace_stage may d y) mid) (sym x)
namespace_go done p may d hw hq hs ts n mid (inr (inl (w, x, e))) =
    ap (reads done p) e ∙ word_go done p _ w (Star true ∷ mid) (hw w) ∙ star_go done (stages.NamespaceWord w may d) (namespace_stage may d (Prefix w)) true mid refl ∙ ap (λ y. reads done (namespace_stage may d y) mid) (sym x)
namespace_go done p may d hw hq hs ts n mid (inr (inr (inl (b, x, e)))) = ap (reads done p) e ∙ star_go done p _ b mid (hs b) ∙ ap (λ y. reads done (namespace_stage may d y) mid) (sym x)
namespace_go done p may d hw hq hs ts n mid (inr (inr (inr (q, x, e)))) = ap (reads done p) e ∙ quoted_go done p _ q mid (hq q) ∙ ap (λ y. reads done (namespace_stage may d y) mid) (sym x)

assigned_namespace_go : (done : List Grant) (may : ClauseSet) (d : Draft) (ts : List Token) (n : NsMatch) (mid : List Token) → Assigned Namespace ts n mid → Go done (stages.Namespace may d) ts (namespace_stage may d n) mid
unfolding step
assigned_namespace_go done may d ts n mid (inl h) = namespace_go done (stages.Namespace may d) may d (λ w. refl) (λ q. refl) (λ b. refl) ts n mid h
assigned_namespace_go done may d ts n mid (inr (m, e, h)) =
    ap (reads done (stages.Namespace may d)) e ∙ equals_go done (stages.Namespace may d) (stages.NamespaceEquals may d) m refl ∙ namespace_go done (stages.NamespaceEquals may d) may d (λ w. refl) (λ q. refl) (λ b. refl) m n mid h

-- ---- clauses

module _ (done : List Grant) (may : ClauseSet) (d : Draft) (ts rest : List Token) where
  pub pool_go : (v : List ℕ) → may.pool ≡ true → PoolClause ts v rest → Go done (stages.Clauses may d) ts (filled slots.Pool may d v) rest
  unfolding step
  pool_go v can (m, e, h) =
      ap (reads done (stages.Clauses may d)) e ∙ word_go done (stages.Clauses may d) (stages.Assigned slots.Pool may d) (codes "pool") m (ap (λ b. where_open b (stages.Assigned slots.Pool may d)) can) ∙ assigned_go done slots.Pool may d m v rest h

  pub namespace_clause_go : (n : NsMatch) → may.namespace ≡ true → NamespaceClause ts n rest → Go done (stages.Clauses may d) ts (namespace_stage may d n) rest
  unfolding step
  namespace_clause_go n can (m, e, h) =
      ap (reads done (stages.Clauses may d)) e ∙ word_go done (stages.Clauses may d) (stages.Namespace may d) (codes "namespace") m (ap (λ b. where_open b (stages.Namespace may d)) can) ∙ assigned_namespace_go done may d m n rest h

  pub prefix_go : (v : List ℕ) → may.prefix ≡ true → PrefixClause ts v rest → Go done (stages.Clauses may d) ts (filled slots.Prefix may d v) rest
  unfolding step
  prefix_go v can (m, e, h) =
      ap (reads done (stages.Clauses may d)) e ∙ word_go done (stages.Clauses may d) (stages.Value slots.Prefix may d) (codes "object_prefix") m (ap (λ b. where_open b (stages.Value slots.Prefix may d)) can) ∙ filled_go done slots.Prefix may d m v rest h

  pub tag_go : (t : Tag) → may.tag ≡ true → TagClause ts t rest → Go done (stages.Clauses may d) ts (tag_stage t.application t.key d t.value) rest
  unfolding step
  tag_go t can (a, b, c, e, val, k, v) =
      ap (reads done (stages.Clauses may d)) e ∙ word_go done (stages.Clauses may d) (stages.Value slots.Application may d) (codes "tag") a (ap (λ x. where_open x (stages.Value slots.Application may d)) can)
      ∙ filled_go done slots.Application may d a t.application b val
      ∙ part_go done (stages.Key t.application d) (λ x. stages.KeyEquals t.application x d) (λ w. refl) (λ x q. refl) (λ x. refl) b t.key (Equals ∷ c) k
      ∙ equals_go done (stages.KeyEquals t.application t.key d) (stages.KeyValue t.application t.key d) c refl
      ∙ part_go done (stages.KeyValue t.application t.key d) (tag_stage t.application t.key d) (λ w. refl) (λ x q. refl) (λ x. refl) c t.value rest v

-- ---- accesses

or_true : (b : Bool) → (b || true) ≡ true
or_true true = refl
or_true false = refl

or_false : (b : Bool) → (b || false) ≡ b
or_false true = refl
or_false false = refl

module _ (done : List Grant) (may : ClauseSet) (d : Draft) (rest : List Token) (plain : IsPlain rest) where
  class_words_go : (f : Flags) (k l : Bool) → Go done (stages.Letters f may d) (where_set k (codes "class-read") (where_set l (codes "class-write") rest)) (accessed may d (accesses.Flags (flags f.read f.write (f.class_read || k) (f.class_write || l)))) rest
  unfolding step
  class_words_go f k l = cases k l where
    cases : (k l : Bool) → reads done (stages.Letters f may d) (where_set k (codes "class-read") (where_set l (codes "class-write") rest)) ≡ reads done (accessed may d (accesses.Flags (flags f.read f.write (f.class_read || k) (f.class_write || l)))) rest
    cases true true =
        word_go done (stages.Letters f may d) (stages.ClassRead (record f { class_read = true }) may d) (codes "class-read") (Word (codes "class-write") ∷ rest) refl
        ∙ word_go done (stages.ClassRead (record f { class_read = true }) may d) _ (codes "class-write") rest refl
        ∙ (λ i. reads done (accessed may d (accesses.Flags (flags f.read f.write (sym (or_true f.class_read) i) (sym (or_true f.class_write) i)))) rest)
    cases true false =
        word_go done (stages.Letters f may d) (stages.ClassRead (record f { class_read = true }) may d) (codes "class-read") rest refl
        ∙ settle_class_read done may d (record f { class_read = true }) rest plain
        ∙ (λ i. reads done (accessed may d (accesses.Flags (flags f.read f.write (sym (or_true f.class_read) i) (sym (or_false f.class_write) i)))) rest)
    cases false true =
        word_go done (stages.Letters f may d) _ (codes "class-write") rest refl
        ∙ (λ i. reads done (accessed may d (accesses.Flags (flags f.read f.write (sym (or_false f.class_read) i) (sym (or_true f.class_write) i)))) rest)
    cases false false =
        settle_letters done may d f rest plain
        ∙ (λ i. reads done (accessed may d (accesses.Flags (flags f.read f.write (sym (or_false f.class_read) i) (sym (or_false f.class_write) i)))) rest)

  letters_go : (r w x k l : Bool) → wants_access d.head ≡ true → (r || (w || x)) ≡ true
      → Go done (stages.Clauses may d) (Word (letters r w x) ∷ where_set k (codes "class-read") (where_set l (codes "class-write") rest)) (accessed may d (accesses.Flags (flags r w (x || k) (x || l)))) rest
  unfolding step
  letters_go r w x k l due some =
      word_go done (stages.Clauses may d) (stages.Letters (flags r w x x) may d) (letters r w x) (where_set k (codes "class-read") (where_set l (codes "class-write") rest)) (ap (clause_word may d) (letters_keyword r w x some) ∙ ap (λ b. where_due b (Ok (stages.Letters (flags r w x x) may d))) due)
      ∙ class_words_go (flags r w x x) k l

  flags_go : (r w x k l : Bool) → wants_access d.head ≡ true → (r || (w || (x || (k || l)))) ≡ true → Go done (stages.Clauses may d) (flag_words r w x k l rest) (accessed may d (accesses.Flags (flags r w (x || k) (x || l)))) rest
  unfolding step
  flags_go true w x k l due some = letters_go true w x k l due refl
  flags_go false true x k l due some = letters_go false true x k l due refl
  flags_go false false true k l due some = letters_go false false true k l due refl
  flags_go false false false true true due some =
      word_go done (stages.Clauses may d) (stages.ClassRead (flags false false true false) may d) (codes "class-read") (Word (codes "class-write") ∷ rest) (ap (λ b. where_due b (Ok (stages.ClassRead (flags false false true false) may d))) due)
      ∙ word_go done (stages.ClassRead (flags false false true false) may d) _ (codes "class-write") rest refl
  flags_go false false false true false due some =
      word_go done (stages.Clauses may d) (stages.ClassRead (flags false false true false) may d) (codes "class-read") rest (ap (λ b. where_due b (Ok (stages.ClassRead (flags false false true false) may d))) due)
      ∙ settle_class_read done may d (flags false false true false) rest plain
  flags_go false false false false true due some =
      word_go done (stages.Clauses may d) (accessed may d (accesses.Flags (flags false false false true))) (codes "class-write") rest (ap (λ b. where_due b (Ok (accessed may d (accesses.Flags (flags false false false true))))) due)
  flags_go false false false false false due some = absurd cc

  method_go : (c : List ℕ) (ts : List Token) (m : Option (List ℕ)) → Optional Method ts m rest → Go done (stages.Method c may d) ts (method_stage c may d m) rest
  unfolding step
  method_go c ts None e = ap (reads done (stages.Method c may d)) e ∙ settle_method done may d c rest plain
  method_go c ts (Some m) (inl h) = ap (reads done (stages.Method c may d)) h.1 ∙ word_go done (stages.Method c may d) (method_stage c may d (Some m)) m rest (method_takes c may d m (keyword_of m) h.0)
  method_go c ts (Some []) (inr h) = absurd (h.0 refl)
  method_go c ts (Some (b ∷ m)) (inr h) = ap (reads done (stages.Method c may d)) h.1 ∙ quoted_go done (stages.Method c may d) (method_stage c may d (Some (b ∷ m))) (b ∷ m) rest refl

  pub access_go : (ts : List Token) (a : Access) → wants_access d.head ≡ true → AccessPhrase ts a rest → Go done (stages.Clauses may d) ts (accessed may d a) rest
  unfolding step
  access_go ts accesses.All due (inl (b, e)) = ap (reads done (stages.Clauses may d)) e ∙ star_go done (stages.Clauses may d) (accessed may d accesses.All) b rest (ap (λ x. where_due x (Ok (accessed may d accesses.All))) due)
  access_go ts accesses.All due (inr e) = ap (reads done (stages.Clauses may d)) e ∙ word_go done (stages.Clauses may d) (accessed may d accesses.All) (codes "all") rest (ap (λ x. where_due x (Ok (accessed may d accesses.All))) due)
  access_go ts (accesses.Class c m) due (a, b, e, v, h) =
      ap (reads done (stages.Clauses may d)) e ∙ word_go done (stages.Clauses may d) (stages.Value slots.Class may d) (codes "class") a (ap (λ x. where_due x (Ok (stages.Value slots.Class may d))) due)
      ∙ filled_go done slots.Class may d a c b v ∙ method_go c b m h
  access_go ts (accesses.Flags f) due (x, k, l, e, some, cr, cw) =
      ap (reads done (stages.Clauses may d)) e ∙ flags_go f.read f.write x k l due some ∙ (λ i. reads done (accessed may d (accesses.Flags (flags f.read f.write (sym cr i) (sym cw i)))) rest)

-- ---- matches

module _ (done : List Grant) (h : Head) where
  pool_part : (ts : List Token) (x : Option (List ℕ)) (mid : List Token) (may : ClauseSet) → may.pool ≡ true → Optional PoolClause ts x mid
      → (after : ClauseSet) × (after.namespace ≡ may.namespace) × (after.prefix ≡ may.prefix) × Go done (stages.Clauses may (fresh h)) ts (stages.Clauses after (draft h x None None None)) mid
  pool_part ts None mid may can e = (may, refl, refl, ap (reads done (stages.Clauses may (fresh h))) e)
  pool_part ts (Some v) mid may can c = (after_pool may, refl, refl, pool_go done may (fresh h) ts mid v can c)

  namespace_part : (pool : Option (List ℕ)) (ts : List Token) (x : Option NsMatch) (mid : List Token) (may : ClauseSet) → may.namespace ≡ true → Optional NamespaceClause ts x mid
      → (after : ClauseSet) × (after.prefix ≡ may.prefix) × (after.tag ≡ may.tag) × Go done (stages.Clauses may (draft h pool None None None)) ts (stages.Clauses after (draft h pool x None None)) mid
  namespace_part pool ts None mid may can e = (may, refl, refl, ap (reads done (stages.Clauses may (draft h pool None None None))) e)
  namespace_part pool ts (Some n) mid may can c = (after_namespace may, refl, refl, namespace_clause_go done may (draft h pool None None None) ts mid n can c)

  prefix_part : (pool : Option (List ℕ)) (ns : Option NsMatch) (ts : List Token) (x : Option (List ℕ)) (mid : List Token) (may : ClauseSet) → may.prefix ≡ true → Optional PrefixClause ts x mid
      → (after : ClauseSet) × Go done (stages.Clauses may (draft h pool ns None None)) ts (stages.Clauses after (draft h pool ns x None)) mid
  prefix_part pool ns ts None mid may can e = (may, ap (reads done (stages.Clauses may (draft h pool ns None None))) e)
  prefix_part pool ns ts (Some v) mid may can c = (no_more, prefix_go done may (draft h pool ns None None) ts mid v can c)

  pub match_go : (ts : List Token) (g : AllowGrant) (rest : List Token) → MatchPhrase ts g rest → (after : ClauseSet) × Go done (stages.Clauses every (fresh h)) ts (stages.Clauses after (draft h g.pool g.namespace g.prefix g.tag)) rest
  match_go ts g rest (inl (none, (a, b, p, n, x))) =
      let first = pool_part ts g.pool a every refl p in
      let second = namespace_part g.pool a g.namespace b first.0 first.1 n in
      let third = prefix_part g.pool g.namespace b g.prefix rest second.0 (second.1 ∙ first.2) x in
      (third.0, first.3 ∙ second.3 ∙ third.1 ∙ (λ i. reads done (stages.Clauses third.0 (draft h g.pool g.namespace g.prefix (sym none i))) rest))
  match_go ts g rest (inr (no_pool, no_prefix, (t, a, is, n, x))) =
      let first = namespace_part None ts g.namespace a every refl n in
      (no_more, first.3 ∙ tag_go done first.0 (draft h None g.namespace None None) a rest t first.2 x ∙ (λ i. reads done (stages.Clauses no_more (draft h (sym no_pool i) g.namespace (sym no_prefix i) (sym is i))) rest))

behind_plain : {A : Type 0} → (word : List ℕ) (P : List Token → A → List Token → Type 0) → begins_clause (keyword_of word) ≡ true → (ts : List Token) (x : Option A) (mid : List Token) → Optional (Behind word P) ts x mid → IsPlain mid → IsPlain ts
behind_plain word P begins ts None mid e plain = plain_along ts mid e plain
behind_plain word P begins ts (Some x) mid (m, e, h) plain = plain_along ts (Word word ∷ m) e begins

match_plain : (ts : List Token) (g : AllowGrant) (rest : List Token) → MatchPhrase ts g rest → IsPlain rest → IsPlain ts
match_plain ts g rest (inl (none, (a, b, p, n, x))) plain =
    behind_plain (codes "pool") (Assigned Value) refl ts g.pool a p (behind_plain (codes "namespace") (Assigned Namespace) refl a g.namespace b n (behind_plain (codes "object_prefix") Value refl b g.prefix rest x plain))
match_plain ts g rest (inr (no_pool, no_prefix, (t, a, is, n, x))) plain =
    behind_plain (codes "namespace") (Assigned Namespace) refl ts g.namespace a n (plain_along a (Word (codes "tag") ∷ x.0) x.3 refl)

-- ---- grants

-- the tokens lead to the end of the grant
abbrev Reaches : List Grant → Stage → List Token → Grant → List Token → Type 0
Reaches done p ts g rest = (may : ClauseSet) × (d : Draft) × (grant_of d ≡ Ok g) × Go done p ts (stages.Clauses may d) rest

grant_go : (done : List Grant) (p : Stage) → ((w : List ℕ) → step p (Word w) ≡ start_word (keyword_of w)) → (ts : List Token) (g : Grant) (rest : List Token) → GrantPhrase ts g rest → IsEnd rest → Reaches done p ts g rest
unfolding step
grant_go done p starts ts (Allow g) rest (a, b, e, inl (acc, m)) end =
    let second = match_go done (heads.Allow (Some g.access)) b g rest m in (
      second.0,
      draft (heads.Allow (Some g.access)) g.pool g.namespace g.prefix g.tag,
      refl,
      ap (reads done p) e ∙ word_go done p (stages.Clauses every (fresh (heads.Allow None))) (codes "allow") a (starts (codes "allow")) ∙ access_go done every (fresh (heads.Allow None)) b (match_plain b g rest m (end_plain rest end)) a g.access refl acc ∙ second.1,
    )
grant_go done p starts ts (Allow g) rest (a, b, e, inr (m, acc)) end =
    let first = match_go done (heads.Allow None) a g b m in (
      after_access first.0,
      draft (heads.Allow (Some g.access)) g.pool g.namespace g.prefix g.tag,
      refl,
      ap (reads done p) e ∙ word_go done p (stages.Clauses every (fresh (heads.Allow None))) (codes "allow") a (starts (codes "allow")) ∙ first.1 ∙ access_go done first.0 (draft (heads.Allow None) g.pool g.namespace g.prefix g.tag) rest (end_plain rest end) b g.access refl acc,
    )
grant_go done p starts ts (Profile used) rest (a, b, c, e, val, pool, ns) end =
    let first = pool_part done (heads.Profile used.name) b used.pool c of_profile refl pool in
    let second = namespace_part done (heads.Profile used.name) used.pool c used.namespace rest first.0 first.1 ns in (
      second.0,
      draft (heads.Profile used.name) used.pool used.namespace None None,
      refl,
      ap (reads done p) e ∙ word_go done p (stages.Assigned slots.Profile of_profile (fresh (heads.Allow None))) (codes "profile") a (starts (codes "profile")) ∙ assigned_go done slots.Profile of_profile (fresh (heads.Allow None)) a used.name b val ∙ first.3 ∙ second.3,
    )

followed_end : (ts : List Token) (gs : List Grant) → Followed GrantPhrase ts gs → IsEnd ts
followed_end ts [] e = let P : List Token → Type 0 = λ x. IsEnd x in subst P (sym e) tt
followed_end ts (g ∷ gs) (a, b, inl e, one, others) = let P : List Token → Type 0 = λ x. IsEnd x in subst P (sym e) tt
followed_end ts (g ∷ gs) (a, b, inr e, one, others) = let P : List Token → Type 0 = λ x. IsEnd x in subst P (sym e) tt

abbrev all_of : List Grant → Result (List Grant) FaultKind
all_of gs = Ok gs

followed_go : (gs : List Grant) (done : List Grant) (may : ClauseSet) (d : Draft) (g : Grant) (ts : List Token) → grant_of d ≡ Ok g → Followed GrantPhrase ts gs → reads done (stages.Clauses may d) ts ≡ Ok (done ++ g ∷ gs)
unfolding step
followed_go [] done may d g ts whole e = ap (reads done (stages.Clauses may d)) e ∙ ap (ended done) whole
followed_go (k ∷ gs) done may d g ts whole (a, b, sep, one, others) =
    let next = grant_go (done ++ g ∷ []) stages.Separator (λ w. refl) a k b one (followed_end b gs others) in
    separator sep ∙ ap (λ r. (after_grant done r then λ u. run u a) then finish) whole ∙ next.3 ∙ followed_go gs (done ++ g ∷ []) next.0 next.1 k b next.2 others ∙ ap all_of (append_assoc done (g ∷ []) (k ∷ gs)) where
      separator : Separated ts a → reads done (stages.Clauses may d) ts ≡ ((after_grant done (grant_of d) then λ u. run u a) then finish)
      separator (inl e) = ap (reads done (stages.Clauses may d)) e
      separator (inr e) = ap (reads done (stages.Clauses may d)) e

-- what the grammar takes is read
pub complete : (ts : List Token) (gs : List Grant) → Grants GrantPhrase ts gs → reads [] stages.Start ts ≡ Ok gs
unfolding step
complete ts [] e = ap (reads [] stages.Start) e
complete ts (g ∷ gs) (a, one, others) =
    let first = grant_go [] stages.Start (λ w. refl) ts g a one (followed_end a gs others) in
    first.3 ∙ followed_go gs [] first.0 first.1 g a first.2 others
