-- What each stage leaves open, and that a token leads back from it.
use Rattle.std.proofs.Common.{◌≡◌, ◌≢◌, ℕ, Bool, true, false, List, [], ◌∷◌, Option, Some, None, Result, Ok, Err, refl, sym, ap, subst, ◌∙◌, inl, inr}
use Rattle.std.specs.Prelude.{◌⊎◌, ◌||◌, codes}
use Rattle.cap_text.specs.declared.token.Token.{Token}
use Rattle.cap_text.specs.declared.token.Token.TheVariants.{Comma, Semicolon, Equals, Star, Word, Quoted}
use Rattle.cap_grants.specs.declared.grant.Access.{Access}
use Rattle.cap_grants.specs.declared.grant.Access.TheVariants as accesses
use Rattle.cap_grants.specs.declared.grant.Flags.{Flags}
use Rattle.cap_grants.specs.declared.grant.NsMatch.{NsMatch}
use Rattle.cap_grants.specs.declared.grant.NsMatch.TheVariants.{Exact, Prefix}
use Rattle.cap_grants.specs.declared.grant.Part.{Part}
use Rattle.cap_grants.specs.declared.grant.Part.TheVariants.{Any}
use Rattle.cap_grants.specs.declared.grant.Tag.{Tag}
use Rattle.cap_grants.specs.declared.grant.Grant.{Grant}
use Rattle.cap_grants.specs.declared.grant.Grant.TheVariants.{Allow, Profile}
use Rattle.cap_grants.specs.declared.fault_kind.FaultKind.{FaultKind}
use Rattle.cap_grants.specs.declared.fault_kind.FaultKind.TheVariants.{UnknownWord, BadAccess, BadMatch}
use Rattle.cap_text.specs.declared.keyword.Keyword.{Keyword}
use Rattle.cap_text.specs.declared.keyword.Keyword.TheVariants as kw
use Rattle.cap_text.specs.declared.stage.ClauseSet.{ClauseSet}
use Rattle.cap_text.specs.Draft.{Head, Draft}
use Rattle.cap_text.specs.Draft as heads
use Rattle.cap_text.specs.declared.stage.ValueFor.{ValueFor}
use Rattle.cap_text.specs.declared.stage.ValueFor.TheVariants as slots
use Rattle.cap_text.specs.Stage.{Stage}
use Rattle.cap_text.specs.Stage as stages
use Rattle.cap_text.specs.Words.{letters, keyword_of}
use Rattle.cap_text.specs.Grammar.{Optional, Assigned, Value, Namespace, BeginsApart, namespace_of, part_of, TagPart, PoolClause, NamespaceClause, PrefixClause, TagClause, begins_clause, Method, where_set, AccessPhrase, MatchPhrase, GrantPhrase}
use Rattle.cap_text.specs.Assembly.{no_more, after_pool, after_namespace, draft, fresh, with_access, kept_if, after_access, wants_access, made, grant_with}
use Rattle.cap_text.specs.Machine.{every, of_profile, accessed, flags, access_word, where_open, where_due, clause_word, class_read_word, letters_word, method_stage, method_word, value_of, mapped, filled, value_step, namespace_step, part_at, tag_stage, start_word, step, close}
use Rattle.cap_text.proofs.Keywords.{keyword_is}

-- ---- what the grammar lets remain of a grant, stage by stage

-- behind the clauses: the access where it is due, and the end
abbrev pub CloseHead : Head → Draft → List Token → Grant → List Token → Type 0
CloseHead (heads.Allow None) d ts g rest = (a : Access) × AccessPhrase ts a rest × (g ≡ Allow (made d a))
CloseHead (heads.Allow (Some a)) d ts g rest = (ts ≡ rest) × (g ≡ Allow (made d a))
CloseHead (heads.Profile n) d ts g rest = (ts ≡ rest) × (g ≡ Profile (record { name = n; pool = d.pool; namespace = d.namespace }))

abbrev pub Closes : Draft → List Token → Grant → List Token → Type 0
Closes d ts g rest = CloseHead d.head d ts g rest

abbrev pub LeftLast : ClauseSet → Draft → List Token → Grant → List Token → Type 0
LeftLast may d ts g rest =
    Closes d ts g rest
    ⊎ (((may.prefix ≡ true) × ((v : List ℕ) × (mid : List Token) × PrefixClause ts v mid × Closes (record d { prefix = Some v }) mid g rest))
    ⊎ ((may.tag ≡ true) × ((t : Tag) × (mid : List Token) × TagClause ts t mid × Closes (record d { tag = Some t }) mid g rest)))

abbrev pub LeftNamespace : ClauseSet → Draft → List Token → Grant → List Token → Type 0
LeftNamespace may d ts g rest =
    LeftLast may d ts g rest ⊎ ((may.namespace ≡ true) × ((n : NsMatch) × (mid : List Token) × NamespaceClause ts n mid × LeftLast may (record d { namespace = Some n }) mid g rest))

abbrev pub LeftPool : ClauseSet → Draft → List Token → Grant → List Token → Type 0
LeftPool may d ts g rest =
    LeftNamespace may d ts g rest ⊎ ((may.pool ≡ true) × ((v : List ℕ) × (mid : List Token) × PoolClause ts v mid × LeftNamespace (after_pool may) (record d { pool = Some v }) mid g rest))

-- an access that comes first, and then the clauses
abbrev pub LeftAll : ClauseSet → Draft → List Token → Grant → List Token → Type 0
LeftAll may d ts g rest =
    LeftPool may d ts g rest ⊎ ((may.pool ≡ true) × (d.head ≡ heads.Allow None) × ((a : Access) × (mid : List Token) × AccessPhrase ts a mid × LeftPool may (with_access d a) mid g rest))

-- behind an access
abbrev pub LeftAfter : ClauseSet → Draft → Access → List Token → Grant → List Token → Type 0
LeftAfter may d a ts g rest = LeftAll (after_access may) (with_access d a) ts g rest

abbrev pub InMethod : List ℕ → ClauseSet → Draft → List Token → Grant → List Token → Type 0
InMethod c may d ts g rest = (m : Option (List ℕ)) × (mid : List Token) × Optional Method ts m mid × LeftAfter may d (accesses.Class c m) mid g rest

abbrev pub LeftTag : List ℕ → Part → Part → Draft → List Token → Grant → List Token → Type 0
LeftTag a k v d ts g rest = LeftAll no_more (record d { tag = Some (record { application = a; key = k; value = v }) }) ts g rest

abbrev pub InKey : List ℕ → Draft → List Token → Grant → List Token → Type 0
InKey a d ts g rest = (k v : Part) × (b c : List Token) × TagPart ts k (Equals ∷ b) × TagPart b v c × LeftTag a k v d c g rest

abbrev pub InFilled : ValueFor → ClauseSet → Draft → List ℕ → List Token → Grant → List Token → Type 0
InFilled slots.Profile may d v ts g rest = LeftAll may (record d { head = heads.Profile v }) ts g rest
InFilled slots.Class may d v ts g rest = InMethod v may d ts g rest
InFilled slots.Pool may d v ts g rest = LeftAll (after_pool may) (record d { pool = Some v }) ts g rest
InFilled slots.Prefix may d v ts g rest = LeftAll no_more (record d { prefix = Some v }) ts g rest
InFilled slots.Application may d v ts g rest = InKey v d ts g rest

abbrev pub LeftIn : ClauseSet → Draft → NsMatch → List Token → Grant → List Token → Type 0
LeftIn may d n ts g rest = LeftAll (after_namespace may) (record d { namespace = Some n }) ts g rest

abbrev pub LeftFlags : Flags → ClauseSet → Draft → Bool → Bool → List Token → Grant → List Token → Type 0
LeftFlags f may d k l ts g rest = LeftAfter may d (accesses.Flags (flags f.read f.write k l)) ts g rest

-- in this stage the tokens complete the grant, and rest follows it
abbrev pub InGrant : Stage → List Token → Grant → List Token → Type 0
InGrant stages.Start ts g rest = GrantPhrase ts g rest
InGrant stages.Separator ts g rest = GrantPhrase ts g rest
InGrant (stages.Clauses may d) ts g rest = LeftAll may d ts g rest
InGrant (stages.Letters f may d) ts g rest =
    (k l : Bool) × (mid : List Token) × (ts ≡ where_set k (codes "class-read") (where_set l (codes "class-write") mid)) × LeftFlags f may d (f.class_read || k) (f.class_write || l) mid g rest
InGrant (stages.ClassRead f may d) ts g rest = (l : Bool) × (mid : List Token) × (ts ≡ where_set l (codes "class-write") mid) × LeftFlags f may d f.class_read (f.class_write || l) mid g rest
InGrant (stages.Method c may d) ts g rest = InMethod c may d ts g rest
InGrant (stages.Assigned s may d) ts g rest = (v : List ℕ) × (mid : List Token) × Assigned Value ts v mid × InFilled s may d v mid g rest
InGrant (stages.Value s may d) ts g rest = (v : List ℕ) × (mid : List Token) × Value ts v mid × InFilled s may d v mid g rest
InGrant (stages.Namespace may d) ts g rest = (n : NsMatch) × (mid : List Token) × Assigned Namespace ts n mid × LeftIn may d n mid g rest
InGrant (stages.NamespaceEquals may d) ts g rest = (n : NsMatch) × (mid : List Token) × Namespace ts n mid × LeftIn may d n mid g rest
InGrant (stages.NamespaceWord w may d) ts g rest =
    (BeginsApart ts × LeftIn may d (Exact w) ts g rest) ⊎ ((mid : List Token) × (ts ≡ Star true ∷ mid) × LeftIn may d (Prefix w) mid g rest)
InGrant (stages.Key a d) ts g rest = InKey a d ts g rest
InGrant (stages.KeyEquals a k d) ts g rest = (v : Part) × (b c : List Token) × (ts ≡ Equals ∷ b) × TagPart b v c × LeftTag a k v d c g rest
InGrant (stages.KeyValue a k d) ts g rest = (v : Part) × (c : List Token) × TagPart ts v c × LeftTag a k v d c g rest

-- ---- what may no longer come

unset : {A : Type 0} → false ≡ true → A
unset e = absurd cc

module _ (may : ClauseSet) (d : Draft) (ts : List Token) (g : Grant) (rest : List Token) where
  pub closed : LeftAll no_more d ts g rest → Closes d ts g rest
  closed (inl (inl (inl (inl h)))) = h
  closed (inl (inl (inl (inr (inl h))))) = unset h.0
  closed (inl (inl (inl (inr (inr h))))) = unset h.0
  closed (inl (inl (inr h))) = unset h.0
  closed (inl (inr h)) = unset h.0
  closed (inr h) = unset h.0

  pub closed_namespace : LeftAll (after_namespace may) d ts g rest → LeftLast may d ts g rest
  closed_namespace (inl (inl (inl h))) = h
  closed_namespace (inl (inl (inr h))) = unset h.0
  closed_namespace (inl (inr h)) = unset h.0
  closed_namespace (inr h) = unset h.0

  pub closed_pool : LeftAll (after_pool may) d ts g rest → LeftNamespace (after_pool may) d ts g rest
  closed_pool (inl (inl h)) = h
  closed_pool (inl (inr h)) = unset h.0
  closed_pool (inr h) = unset h.0

  pub skip : Closes d ts g rest → LeftAll may d ts g rest
  skip h = inl (inl (inl (inl h)))

some_none : {A : Type 0} → (a : Access) → heads.Allow (Some a) ≡ heads.Allow None → A
some_none a e = absurd cc

pub access_back : (may : ClauseSet) (d : Draft) (ts : List Token) (a : Access) (mid : List Token) (g : Grant) (rest : List Token) → d.head ≡ heads.Allow None → AccessPhrase ts a mid → LeftAfter may d a mid g rest → LeftAll may d ts g rest
access_back may d ts a mid g rest due acc left = go may.pool refl left where
  first : LeftAll may (with_access d a) mid g rest → LeftPool may (with_access d a) mid g rest
  first (inl h) = h
  first (inr h) = some_none a h.1

  go : (b : Bool) → may.pool ≡ b → LeftAll (kept_if b may) (with_access d a) mid g rest → LeftAll may d ts g rest
  go true e left = inr (e, due, (a, mid, acc, first left))
  go false e left =
      let c = closed no_more (with_access d a) mid g rest left in
      let P : List Token → Type 0 = λ x. AccessPhrase ts a x in
      let Q : Head → Type 0 = λ h. CloseHead h d ts g rest in
      skip may d ts g rest (subst Q (sym due) (a, subst P c.0 acc, c.1))

-- ---- a token leads back

-- between two grants
abbrev pub is_start : Stage → Bool
is_start stages.Start = true
is_start stages.Separator = true
is_start p = false

-- what is left behind the token is left before it
abbrev pub Back : Stage → Token → List Token → Stage → Type 0
Back p t ts q = (is_start q ≡ false) × ((g : Grant) (rest : List Token) → InGrant q ts g rest → InGrant p (t ∷ ts) g rest)

abbrev okay : Stage → Result Stage FaultKind
okay x = Ok x

fail : {A : Type 0} → (k : FaultKind) (q : Stage) → Err k ≡ okay q → A
fail k q e = absurd cc

same_stage : (x q : Stage) → okay x ≡ okay q → x ≡ q
same_stage x q e = cc

back_along : (p : Stage) (t : Token) (ts : List Token) (x q : Stage) → x ≡ q → Back p t ts x → Back p t ts q
back_along p t ts x q e h = let P : Stage → Type 0 = λ y. Back p t ts y in subst P e h

back_to : (p : Stage) (t : Token) (ts : List Token) (x q : Stage) → okay x ≡ okay q → Back p t ts x → Back p t ts q
back_to p t ts x q e h = back_along p t ts x q (same_stage x q e) h

open_is : (b : Bool) (p q : Stage) → where_open b p ≡ okay q → (b ≡ true) × (p ≡ q)
open_is true p q e = (refl, same_stage p q e)
open_is false p q e = fail BadMatch q e

due_is : (b : Bool) (r : Result Stage FaultKind) (q : Stage) → where_due b r ≡ okay q → (b ≡ true) × (r ≡ okay q)
due_is true r q e = (refl, e)
due_is false r q e = fail UnknownWord q e

head_is : (h : Head) → wants_access h ≡ true → h ≡ heads.Allow None
head_is (heads.Allow None) e = refl
head_is (heads.Allow (Some a)) e = unset e
head_is (heads.Profile n) e = unset e

some_flag : (r w x k l : Bool) → (r || (w || x)) ≡ true → (r || (w || (x || (k || l)))) ≡ true
some_flag true w x k l e = refl
some_flag false true x k l e = refl
some_flag false false true k l e = refl
some_flag false false false k l e = unset e

is_word_first : (w v : List ℕ) (ts : List Token) → w ≡ v → Word w ∷ ts ≡ Word v ∷ ts
is_word_first w v ts e = ap (λ y. Word y ∷ ts) e

b_access : (may : ClauseSet) (d : Draft) (w : List ℕ) (k : Keyword) (ts : List Token) (q : Stage) → d.head ≡ heads.Allow None → keyword_of w ≡ k → access_word may d k ≡ Ok q → Back (stages.Clauses may d) (Word w) ts q
b_access may d w kw.All ts q due h e =
    back_to (stages.Clauses may d) (Word w) ts _ q e (refl, λ g rest left. access_back may d (Word w ∷ ts) accesses.All ts g rest due (inr (is_word_first w _ ts (keyword_is w kw.All h))) left)
b_access may d w kw.Class ts q due h e =
    back_to (stages.Clauses may d) (Word w) ts _ q e (
      refl,
      λ g rest (v, mid, val, (m, end, method, left)). access_back may d (Word w ∷ ts) (accesses.Class v m) end g rest due (ts, mid, is_word_first w _ ts (keyword_is w kw.Class h), val, method) left,
    )
b_access may d w (kw.Letters r y x) ts q due h e =
    let is = keyword_is w (kw.Letters r y x) h in
    back_to (stages.Clauses may d) (Word w) ts _ q e (
      refl,
      λ g rest (k, l, mid, eq, left).
          access_back may d (Word w ∷ ts) (accesses.Flags (flags r y (x || k) (x || l))) mid g rest due (
            x,
            k,
            l,
            is_word_first w _ ts is.0 ∙ ap (λ z. Word (letters r y x) ∷ z) eq ∙ ap (λ b. where_set b (letters r y x) (where_set k (codes "class-read") (where_set l (codes "class-write") mid))) (sym is.1),
            some_flag r y x k l is.1,
            refl,
            refl,
          ) left,
    )
b_access may d w kw.ClassRead ts q due h e =
    back_to (stages.Clauses may d) (Word w) ts _ q e (
      refl,
      λ g rest (l, mid, eq, left).
          access_back may d (Word w ∷ ts) (accesses.Flags (flags false false true l)) mid g rest due (
            false,
            true,
            l,
            is_word_first w _ ts (keyword_is w kw.ClassRead h) ∙ ap (λ z. Word (codes "class-read") ∷ z) eq,
            refl,
            refl,
            refl,
          ) left,
    )
b_access may d w kw.ClassWrite ts q due h e =
    back_to (stages.Clauses may d) (Word w) ts _ q e (
      refl,
      λ g rest left. access_back may d (Word w ∷ ts) (accesses.Flags (flags false false false true)) ts g rest due (false, false, true, is_word_first w _ ts (keyword_is w kw.ClassWrite h), refl, refl, refl) left,
    )
b_access may d w k ts q due h e = fail _ q e

b_clause : (may : ClauseSet) (d : Draft) (w : List ℕ) (k : Keyword) (ts : List Token) (q : Stage) → keyword_of w ≡ k → clause_word may d k ≡ Ok q → Back (stages.Clauses may d) (Word w) ts q
b_clause may d w kw.Pool ts q h e =
    let o = open_is may.pool (stages.Assigned slots.Pool may d) q e in
    back_along (stages.Clauses may d) (Word w) ts _ q o.1 (
      refl,
      λ g rest (v, mid, x, left). inl (inr (o.0, (v, mid, (ts, is_word_first w _ ts (keyword_is w kw.Pool h), x), closed_pool may (record d { pool = Some v }) mid g rest left))),
    )
b_clause may d w kw.Namespace ts q h e =
    let o = open_is may.namespace (stages.Namespace may d) q e in
    back_along (stages.Clauses may d) (Word w) ts _ q o.1 (
      refl,
      λ g rest (n, mid, x, left). inl (inl (inr (o.0, (n, mid, (ts, is_word_first w _ ts (keyword_is w kw.Namespace h), x), closed_namespace may (record d { namespace = Some n }) mid g rest left)))),
    )
b_clause may d w kw.ObjectPrefix ts q h e =
    let o = open_is may.prefix (stages.Value slots.Prefix may d) q e in
    back_along (stages.Clauses may d) (Word w) ts _ q o.1 (
      refl,
      λ g rest (v, mid, x, left). inl (inl (inl (inr (inl (o.0, (v, mid, (ts, is_word_first w _ ts (keyword_is w kw.ObjectPrefix h), x), closed may (record d { prefix = Some v }) mid g rest left)))))),
    )
b_clause may d w kw.Tag ts q h e =
    let o = open_is may.tag (stages.Value slots.Application may d) q e in
    back_along (stages.Clauses may d) (Word w) ts _ q o.1 (
      refl,
      λ g rest (a, mid, x, (k, v, b, c, y, z, left)).
          let t : Tag = record { application = a; key = k; value = v } in
          inl (inl (inl (inr (inr (o.0, (t, c, (ts, mid, b, is_word_first w _ ts (keyword_is w kw.Tag h), x, y, z), closed may (record d { tag = Some t }) c g rest left)))))),
    )
b_clause may d w kw.Network ts q h e = fail _ q e
b_clause may d w k ts q h e = let o = due_is (wants_access d.head) (access_word may d k) q e in b_access may d w k ts q (head_is d.head o.0) h o.1

or_true : (b : Bool) → (b || true) ≡ true
or_true true = refl
or_true false = refl

or_false : (b : Bool) → (b || false) ≡ b
or_false true = refl
or_false false = refl

-- the same flags, written otherwise
flags_along : (f : Flags) (may : ClauseSet) (d : Draft) (ts : List Token) (g : Grant) (rest : List Token) (k l x y : Bool) → k ≡ x → l ≡ y → LeftFlags f may d k l ts g rest → LeftFlags f may d x y ts g rest
flags_along f may d ts g rest k l x y e h left =
    let P : Bool → Type 0 = λ b. LeftFlags f may d b l ts g rest in
    let Q : Bool → Type 0 = λ b. LeftFlags f may d x b ts g rest in
    subst Q h (subst P e left)

b_class_read : (f : Flags) (may : ClauseSet) (d : Draft) (w : List ℕ) (k : Keyword) (ts : List Token) (q : Stage) → keyword_of w ≡ k → class_read_word f may d k ≡ Ok q → Back (stages.ClassRead f may d) (Word w) ts q
b_class_read f may d w kw.ClassWrite ts q h e =
    back_to (stages.ClassRead f may d) (Word w) ts _ q e (
      refl,
      λ g rest left. (true, ts, is_word_first w _ ts (keyword_is w kw.ClassWrite h), flags_along f may d ts g rest f.class_read true f.class_read (f.class_write || true) refl (sym (or_true f.class_write)) left),
    )
b_class_read f may d w k ts q h e =
    let b = b_clause (after_access may) (with_access d (accesses.Flags f)) w k ts q h e in
    (b.0, λ g rest left. (false, Word w ∷ ts, refl, flags_along f may d (Word w ∷ ts) g rest f.class_read f.class_write f.class_read (f.class_write || false) refl (sym (or_false f.class_write)) (b.1 g rest left)))

b_letters : (f : Flags) (may : ClauseSet) (d : Draft) (w : List ℕ) (k : Keyword) (ts : List Token) (q : Stage) → keyword_of w ≡ k → letters_word f may d k ≡ Ok q → Back (stages.Letters f may d) (Word w) ts q
b_letters f may d w kw.ClassRead ts q h e =
    back_to (stages.Letters f may d) (Word w) ts _ q e (
      refl,
      λ g rest (l, mid, eq, left).
          (true, l, mid, is_word_first w _ ts (keyword_is w kw.ClassRead h) ∙ ap (λ z. Word (codes "class-read") ∷ z) eq, flags_along f may d mid g rest true (f.class_write || l) (f.class_read || true) (f.class_write || l) (sym (or_true f.class_read)) refl left),
    )
b_letters f may d w k ts q h e =
    let b = b_class_read f may d w k ts q h e in (
      b.0,
      λ g rest left. let r = b.1 g rest left in (false, r.0, r.1, r.2, flags_along f may d r.1 g rest f.class_read (f.class_write || r.0) (f.class_read || false) (f.class_write || r.0) (sym (or_false f.class_read)) refl r.3),
    )

b_method : (c : List ℕ) (may : ClauseSet) (d : Draft) (w : List ℕ) (k : Keyword) (ts : List Token) (q : Stage) → keyword_of w ≡ k → method_word c may d w k ≡ Ok q → Back (stages.Method c may d) (Word w) ts q
b_method c may d w k ts q h e = cases k h e where
  clause : (k : Keyword) → keyword_of w ≡ k → clause_word (after_access may) (with_access d (accesses.Class c None)) k ≡ Ok q → Back (stages.Method c may d) (Word w) ts q
  clause k h e = let b = b_clause (after_access may) (with_access d (accesses.Class c None)) w k ts q h e in (b.0, λ g rest left. (None, Word w ∷ ts, refl, b.1 g rest left))

  taken : (k : Keyword) → keyword_of w ≡ k → begins_clause k ≡ false → okay (method_stage c may d (Some w)) ≡ Ok q → Back (stages.Method c may d) (Word w) ts q
  taken k h no_clause e = back_to (stages.Method c may d) (Word w) ts _ q e (refl, λ g rest left. (Some w, ts, inl (ap begins_clause h ∙ no_clause, refl), left))

  cases : (k : Keyword) → keyword_of w ≡ k → method_word c may d w k ≡ Ok q → Back (stages.Method c may d) (Word w) ts q
  cases kw.Pool h e = clause kw.Pool h e
  cases kw.Namespace h e = clause kw.Namespace h e
  cases kw.ObjectPrefix h e = clause kw.ObjectPrefix h e
  cases kw.Tag h e = clause kw.Tag h e
  cases kw.Network h e = clause kw.Network h e
  cases k h e = taken k h refl e

-- ---- values

not_nil : (b : ℕ) (v : List ℕ) → b ∷ v ≢ []
not_nil b v e = cc

mapped_is : {A : Type 0} → (f : A → Stage) (r : Result A FaultKind) (q : Stage) → mapped f r ≡ okay q → (x : A) × (r ≡ Ok x) × (f x ≡ q)
mapped_is f (Ok x) q e = (x, refl, same_stage (f x) q e)
mapped_is f (Err k) q e = fail k q e

abbrev valued : List ℕ → Result (List ℕ) FaultKind
valued v = Ok v

abbrev parted : Part → Result Part FaultKind
parted v = Ok v

abbrev no_value : FaultKind → Result (List ℕ) FaultKind
no_value k = Err k

value_back : (t : Token) (v : List ℕ) (ts : List Token) → value_of t ≡ valued v → Value (t ∷ ts) v ts
value_back (Word w) v ts e = let same : w ≡ v = cc in inl (is_word_first w v ts same)
value_back (Quoted (b ∷ q)) v ts e = let same : b ∷ q ≡ v = cc in (let P : List ℕ → Type 0 = λ x. Value (Quoted (b ∷ q) ∷ ts) x ts in subst P same (inr (not_nil b q, refl)))
value_back t v ts e = absurd cc

part_value : (t : Token) (r : Result (List ℕ) FaultKind) (p : Part) (ts : List Token) → value_of t ≡ r → mapped part_of r ≡ parted p → TagPart (t ∷ ts) p ts
part_value t (Ok v) p ts h e = let same : part_of v ≡ p = cc in inr (v, sym same, value_back t v ts h)
part_value t (Err k) p ts h e = absurd cc

part_back : (t : Token) (p : Part) (ts : List Token) → part_at t ≡ parted p → TagPart (t ∷ ts) p ts
part_back (Star b) p ts e = let same : Any ≡ p = cc in inl (b, sym same, refl)
part_back Comma p ts e = part_value Comma (value_of Comma) p ts refl e
part_back Semicolon p ts e = part_value Semicolon (value_of Semicolon) p ts refl e
part_back Equals p ts e = part_value Equals (value_of Equals) p ts refl e
part_back (Word w) p ts e = part_value (Word w) (value_of (Word w)) p ts refl e
part_back (Quoted q) p ts e = part_value (Quoted q) (value_of (Quoted q)) p ts refl e

filled_back : (s : ValueFor) (may : ClauseSet) (d : Draft) (v : List ℕ) → (is_start (filled s may d v) ≡ false) × ((ts : List Token) (g : Grant) (rest : List Token) → InGrant (filled s may d v) ts g rest → InFilled s may d v ts g rest)
filled_back slots.Profile may d v = (refl, λ ts g rest h. h)
filled_back slots.Class may d v = (refl, λ ts g rest h. h)
filled_back slots.Pool may d v = (refl, λ ts g rest h. h)
filled_back slots.Prefix may d v = (refl, λ ts g rest h. h)
filled_back slots.Application may d v = (refl, λ ts g rest h. h)

b_value : (s : ValueFor) (may : ClauseSet) (d : Draft) (t : Token) (ts : List Token) (q : Stage) → value_step s may d t ≡ Ok q → Back (stages.Value s may d) t ts q
b_value s may d t ts q e =
    let m = mapped_is (filled s may d) (value_of t) q e in
    let f = filled_back s may d m.0 in
    back_along (stages.Value s may d) t ts (filled s may d m.0) q m.2 (f.0, λ g rest h. (m.0, ts, value_back t m.0 ts m.1, f.1 ts g rest h))

b_assigned : (s : ValueFor) (may : ClauseSet) (d : Draft) (t : Token) (ts : List Token) (q : Stage) → value_step s may d t ≡ Ok q → Back (stages.Assigned s may d) t ts q
b_assigned s may d t ts q e = let b = b_value s may d t ts q e in (b.0, λ g rest h. let r = b.1 g rest h in (r.0, r.1, inl r.2, r.3))

b_namespace : (may : ClauseSet) (d : Draft) (t : Token) (ts : List Token) (q : Stage) → namespace_step may d t ≡ Ok q → Back (stages.NamespaceEquals may d) t ts q
b_namespace may d (Word w) ts q e = back_to (stages.NamespaceEquals may d) (Word w) ts _ q e (refl, λ g rest h. word g rest h) where
  word : (g : Grant) (rest : List Token) → InGrant (stages.NamespaceWord w may d) ts g rest → InGrant (stages.NamespaceEquals may d) (Word w ∷ ts) g rest
  word g rest (inl (apart, left)) = (Exact w, ts, inl (w, refl, refl, apart), left)
  word g rest (inr (mid, eq, left)) = (Prefix w, mid, inr (inl (w, refl, ap (λ y. Word w ∷ y) eq)), left)
b_namespace may d (Quoted x) ts q e = back_to (stages.NamespaceEquals may d) (Quoted x) ts _ q e (refl, λ g rest left. (namespace_of x, ts, inr (inr (inr (x, refl, refl))), left))
b_namespace may d (Star b) ts q e = back_to (stages.NamespaceEquals may d) (Star b) ts _ q e (refl, λ g rest left. (Prefix [], ts, inr (inr (inl (b, refl, refl))), left))
b_namespace may d t ts q e = fail _ q e

b_assigned_namespace : (may : ClauseSet) (d : Draft) (t : Token) (ts : List Token) (q : Stage) → namespace_step may d t ≡ Ok q → Back (stages.Namespace may d) t ts q
b_assigned_namespace may d t ts q e = let b = b_namespace may d t ts q e in (b.0, λ g rest h. let r = b.1 g rest h in (r.0, r.1, inl r.2, r.3))

-- ---- grants

-- the clauses of a match, and what closes the grant behind them
match_back : (h : Head) (a : Access) (ts : List Token) (g : Grant) (rest : List Token) → LeftPool every (fresh h) ts g rest
    → (pool : Option (List ℕ)) × (n : Option NsMatch) × (prefix : Option (List ℕ)) × (tag : Option Tag) × (mid : List Token)
    × MatchPhrase ts (record { access = a; pool = pool; namespace = n; prefix = prefix; tag = tag }) mid × Closes (draft h pool n prefix tag) mid g rest
match_back h a ts g rest (inl (inl (inl c))) = (None, None, None, None, ts, inl (refl, (ts, ts, refl, refl, refl)), c)
match_back h a ts g rest (inl (inl (inr (inl (o, (v, mid, x, c)))))) = (None, None, Some v, None, mid, inl (refl, (ts, ts, refl, refl, x)), c)
match_back h a ts g rest (inl (inl (inr (inr (o, (t, mid, x, c)))))) = (None, None, None, Some t, mid, inr (refl, refl, (t, ts, refl, refl, x)), c)
match_back h a ts g rest (inl (inr (o, (n, b, y, inl c)))) = (None, Some n, None, None, b, inl (refl, (ts, b, refl, y, refl)), c)
match_back h a ts g rest (inl (inr (o, (n, b, y, inr (inl (p, (v, mid, x, c))))))) = (None, Some n, Some v, None, mid, inl (refl, (ts, b, refl, y, x)), c)
match_back h a ts g rest (inl (inr (o, (n, b, y, inr (inr (p, (t, mid, x, c))))))) = (None, Some n, None, Some t, mid, inr (refl, refl, (t, b, refl, y, x)), c)
match_back h a ts g rest (inr (o, (u, b, z, inl (inl c)))) = (Some u, None, None, None, b, inl (refl, (b, b, z, refl, refl)), c)
match_back h a ts g rest (inr (o, (u, b, z, inl (inr (inl (p, (v, mid, x, c))))))) = (Some u, None, Some v, None, mid, inl (refl, (b, b, z, refl, x)), c)
match_back h a ts g rest (inr (o, (u, b, z, inl (inr (inr (p, c)))))) = unset p
match_back h a ts g rest (inr (o, (u, b, z, inr (s, (n, m, y, inl c))))) = (Some u, Some n, None, None, m, inl (refl, (b, m, z, y, refl)), c)
match_back h a ts g rest (inr (o, (u, b, z, inr (s, (n, m, y, inr (inl (p, (v, mid, x, c)))))))) = (Some u, Some n, Some v, None, mid, inl (refl, (b, m, z, y, x)), c)
match_back h a ts g rest (inr (o, (u, b, z, inr (s, (n, m, y, inr (inr (p, c))))))) = unset p

allow_back : (w : List ℕ) (ts : List Token) (g : Grant) (rest : List Token) → w ≡ codes "allow" → LeftAll every (fresh (heads.Allow None)) ts g rest → GrantPhrase (Word w ∷ ts) g rest
allow_back w ts g rest e (inl h) =
    let first = match_back (heads.Allow None) accesses.All ts g rest h in
    let P : Grant → Type 0 = λ x. GrantPhrase (Word w ∷ ts) x rest in
    subst P (sym first.6.2) (ts, first.4, is_word_first w _ ts e, inr (first.5, first.6.1))
allow_back w ts g rest e (inr (o, due, (a, mid, acc, h))) =
    let first = match_back (heads.Allow (Some a)) a mid g rest h in
    let P : Grant → Type 0 = λ x. GrantPhrase (Word w ∷ ts) x rest in
    let Q : List Token → Type 0 = λ x. MatchPhrase mid (record { access = a; pool = first.0; namespace = first.1; prefix = first.2; tag = first.3 }) x in
    subst P (sym first.6.1) (ts, mid, is_word_first w _ ts e, inl (acc, subst Q first.6.0 first.5))

profile_back : (w : List ℕ) (ts : List Token) (g : Grant) (rest : List Token) → w ≡ codes "profile" → InGrant (stages.Assigned slots.Profile of_profile (fresh (heads.Allow None))) ts g rest → GrantPhrase (Word w ∷ ts) g rest
profile_back w ts g rest e (v, mid, val, h) = goes h where
  made_use : Option (List ℕ) → Option NsMatch → Grant
  made_use pool n = Profile (record { name = v; pool = pool; namespace = n })

  whole : (pool : Option (List ℕ)) (n : Option NsMatch) (c end : List Token) → Optional PoolClause mid pool c → Optional NamespaceClause c n end → Closes (draft (heads.Profile v) pool n None None) end g rest → GrantPhrase (Word w ∷ ts) g rest
  whole pool n c end x y z =
      let P : Grant → Type 0 = λ k. GrantPhrase (Word w ∷ ts) k rest in
      let Q : List Token → Type 0 = λ k. Optional NamespaceClause c n k in
      subst P (sym z.1) (ts, mid, c, is_word_first w _ ts e, val, x, subst Q z.0 y)

  goes : LeftAll of_profile (fresh (heads.Profile v)) mid g rest → GrantPhrase (Word w ∷ ts) g rest
  goes (inl (inl (inl (inl c)))) = whole None None mid mid refl refl c
  goes (inl (inl (inl (inr (inl (p, c)))))) = unset p
  goes (inl (inl (inl (inr (inr (p, c)))))) = unset p
  goes (inl (inl (inr (o, (n, b, y, inl c))))) = whole None (Some n) mid b refl y c
  goes (inl (inl (inr (o, (n, b, y, inr (inl (p, c))))))) = unset p
  goes (inl (inl (inr (o, (n, b, y, inr (inr (p, c))))))) = unset p
  goes (inl (inr (o, (u, b, z, inl (inl c))))) = whole (Some u) None b b z refl c
  goes (inl (inr (o, (u, b, z, inl (inr (inl (p, c))))))) = unset p
  goes (inl (inr (o, (u, b, z, inl (inr (inr (p, c))))))) = unset p
  goes (inl (inr (o, (u, b, z, inr (s, (n, m, y, inl c)))))) = whole (Some u) (Some n) b m z y c
  goes (inl (inr (o, (u, b, z, inr (s, (n, m, y, inr (inl (p, c)))))))) = unset p
  goes (inl (inr (o, (u, b, z, inr (s, (n, m, y, inr (inr (p, c)))))))) = unset p
  goes (inr (o, due, h)) = absurd (let x : heads.Profile v ≡ heads.Allow None = due in cc)

b_start : (w : List ℕ) (k : Keyword) (ts : List Token) (q : Stage) → keyword_of w ≡ k → start_word k ≡ Ok q → Back stages.Separator (Word w) ts q
b_start w kw.Allow ts q h e = back_to stages.Separator (Word w) ts _ q e (refl, λ g rest left. allow_back w ts g rest (keyword_is w kw.Allow h) left)
b_start w kw.Profile ts q h e = back_to stages.Separator (Word w) ts _ q e (refl, λ g rest left. profile_back w ts g rest (keyword_is w kw.Profile h) left)
b_start w k ts q h e = fail _ q e

-- ---- every stage

pub back_in : (p : Stage) (t : Token) (ts : List Token) (q : Stage) → step p t ≡ Ok q → Back p t ts q
unfolding step
back_in stages.Start (Word w) ts q e = b_start w (keyword_of w) ts q refl e
back_in stages.Start t ts q e = fail _ q e
back_in stages.Separator (Word w) ts q e = b_start w (keyword_of w) ts q refl e
back_in stages.Separator t ts q e = fail _ q e
back_in (stages.Clauses may d) (Word w) ts q e = b_clause may d w (keyword_of w) ts q refl e
back_in (stages.Clauses may d) (Star b) ts q e =
    let o = due_is (wants_access d.head) (Ok (accessed may d accesses.All)) q e in
    back_to (stages.Clauses may d) (Star b) ts _ q o.1 (refl, λ g rest left. access_back may d (Star b ∷ ts) accesses.All ts g rest (head_is d.head o.0) (inl (b, refl)) left)
back_in (stages.Clauses may d) t ts q e = fail _ q (due_is (wants_access d.head) (Err BadAccess) q e).1
back_in (stages.Letters f may d) (Word w) ts q e = b_letters f may d w (keyword_of w) ts q refl e
back_in (stages.Letters f may d) t ts q e = fail _ q e
back_in (stages.ClassRead f may d) (Word w) ts q e = b_class_read f may d w (keyword_of w) ts q refl e
back_in (stages.ClassRead f may d) t ts q e = fail _ q e
back_in (stages.Method c may d) (Word w) ts q e = b_method c may d w (keyword_of w) ts q refl e
back_in (stages.Method c may d) (Quoted (b ∷ m)) ts q e = back_to (stages.Method c may d) (Quoted (b ∷ m)) ts _ q e (refl, λ g rest left. (Some (b ∷ m), ts, inr (not_nil b m, refl), left))
back_in (stages.Method c may d) t ts q e = fail _ q e
back_in (stages.Assigned s may d) Equals ts q e = back_to (stages.Assigned s may d) Equals ts _ q e (refl, λ g rest (v, mid, h, left). (v, mid, inr (ts, refl, h), left))
back_in (stages.Assigned s may d) t ts q e = b_assigned s may d t ts q e
back_in (stages.Value s may d) t ts q e = b_value s may d t ts q e
back_in (stages.Namespace may d) Equals ts q e = back_to (stages.Namespace may d) Equals ts _ q e (refl, λ g rest (v, mid, h, left). (v, mid, inr (ts, refl, h), left))
back_in (stages.Namespace may d) t ts q e = b_assigned_namespace may d t ts q e
back_in (stages.NamespaceEquals may d) t ts q e = b_namespace may d t ts q e
back_in (stages.NamespaceWord w may d) (Star true) ts q e = back_to (stages.NamespaceWord w may d) (Star true) ts _ q e (refl, λ g rest left. inr (ts, refl, left))
back_in (stages.NamespaceWord w may d) (Star false) ts q e =
    let d' : Draft = record d { namespace = Some (Exact w) } in
    let o = due_is (wants_access d.head) (Ok (accessed (after_namespace may) d' accesses.All)) q e in
    back_to (stages.NamespaceWord w may d) (Star false) ts _ q o.1 (refl, λ g rest left. inl (tt, access_back (after_namespace may) d' (Star false ∷ ts) accesses.All ts g rest (head_is d.head o.0) (inl (false, refl)) left))
back_in (stages.NamespaceWord w may d) (Word v) ts q e =
    let b = b_clause (after_namespace may) (record d { namespace = Some (Exact w) }) v (keyword_of v) ts q refl e in
    (b.0, λ g rest h. inl (tt, b.1 g rest h))
back_in (stages.NamespaceWord w may d) t ts q e = fail _ q (due_is (wants_access d.head) (Err BadAccess) q e).1
back_in (stages.Key a d) t ts q e =
    let m = mapped_is (λ k. stages.KeyEquals a k d) (part_at t) q e in
    back_along (stages.Key a d) t ts _ q m.2 (refl, λ g rest (v, b, c, eq, x, left). (m.0, v, b, c, (let P : List Token → Type 0 = λ y. TagPart (t ∷ ts) m.0 y in subst P eq (part_back t m.0 ts m.1)), x, left))
back_in (stages.KeyEquals a k d) Equals ts q e = back_to (stages.KeyEquals a k d) Equals ts _ q e (refl, λ g rest (v, c, x, left). (v, ts, c, refl, x, left))
back_in (stages.KeyEquals a k d) t ts q e = fail _ q e
back_in (stages.KeyValue a k d) t ts q e =
    let m = mapped_is (tag_stage a k d) (part_at t) q e in
    back_along (stages.KeyValue a k d) t ts _ q m.2 (refl, λ g rest left. (m.0, ts, part_back t m.0 ts m.1, left))

-- ---- the end of a grant

closes_of : (h : Head) (d : Draft) (g : Grant) (ts : List Token) → grant_with h d ≡ Ok g → CloseHead h d ts g ts
closes_of (heads.Allow None) d g ts e = absurd cc
closes_of (heads.Allow (Some a)) d g ts e = let same : Allow (made d a) ≡ g = cc in (refl, sym same)
closes_of (heads.Profile n) d g ts e = let same : Profile (record { name = n; pool = d.pool; namespace = d.namespace }) ≡ g = cc in (refl, sym same)

pub close_in : (p : Stage) (g : Grant) (ts : List Token) → BeginsApart ts → close p ≡ Ok g → InGrant p ts g ts
close_in (stages.Clauses may d) g ts apart e = skip may d ts g ts (closes_of d.head d g ts e)
close_in (stages.Letters f may d) g ts apart e =
    (false, false, ts, refl, flags_along f may d ts g ts f.class_read f.class_write (f.class_read || false) (f.class_write || false) (sym (or_false f.class_read)) (sym (or_false f.class_write)) (skip (after_access may) (with_access d (accesses.Flags f)) ts g ts (closes_of (heads.Allow (Some (accesses.Flags f))) d g ts e)))
close_in (stages.ClassRead f may d) g ts apart e =
    (false, ts, refl, flags_along f may d ts g ts f.class_read f.class_write f.class_read (f.class_write || false) refl (sym (or_false f.class_write)) (skip (after_access may) (with_access d (accesses.Flags f)) ts g ts (closes_of (heads.Allow (Some (accesses.Flags f))) d g ts e)))
close_in (stages.Method c may d) g ts apart e = (None, ts, refl, skip (after_access may) (with_access d (accesses.Class c None)) ts g ts (closes_of (heads.Allow (Some (accesses.Class c None))) d g ts e))
close_in (stages.NamespaceWord w may d) g ts apart e = inl (apart, skip (after_namespace may) (record d { namespace = Some (Exact w) }) ts g ts (closes_of d.head (record d { namespace = Some (Exact w) }) g ts e))
close_in p g ts apart e = absurd cc

-- ---- each stage can be completed

live_head : (h : Head) (d : Draft) → (ts : List Token) × (g : Grant) × CloseHead h d ts g []
live_head (heads.Allow None) d = (Star false ∷ [], Allow (made d accesses.All), (accesses.All, inl (false, refl), refl))
live_head (heads.Allow (Some a)) d = ([], Allow (made d a), (refl, refl))
live_head (heads.Profile n) d = ([], Profile (record { name = n; pool = d.pool; namespace = d.namespace }), (refl, refl))

live : (may : ClauseSet) (d : Draft) → (ts : List Token) × (g : Grant) × LeftAll may d ts g []
live may d = let l = live_head d.head d in (l.0, l.1, skip may d l.0 l.1 [] l.2)

live_key : (a : List ℕ) (d : Draft) → (ts : List Token) × (g : Grant) × InKey a d ts g []
live_key a d =
    let l = live no_more (record d { tag = Some (record { application = a; key = Any; value = Any }) }) in
    (Star false ∷ Equals ∷ Star false ∷ l.0, l.1, (Any, Any, Star false ∷ l.0, l.0, inl (false, refl, refl), inl (false, refl, refl), l.2))

live_method : (c : List ℕ) (may : ClauseSet) (d : Draft) → (ts : List Token) × (g : Grant) × InMethod c may d ts g []
live_method c may d = let l = live (after_access may) (with_access d (accesses.Class c None)) in (l.0, l.1, (None, l.0, refl, l.2))

live_filled : (s : ValueFor) (may : ClauseSet) (d : Draft) (v : List ℕ) → (ts : List Token) × (g : Grant) × InFilled s may d v ts g []
live_filled slots.Profile may d v = live may (record d { head = heads.Profile v })
live_filled slots.Class may d v = live_method v may d
live_filled slots.Pool may d v = live (after_pool may) (record d { pool = Some v })
live_filled slots.Prefix may d v = live no_more (record d { prefix = Some v })
live_filled slots.Application may d v = live_key v d

abbrev allow_all : Grant
allow_all = Allow (record { access = accesses.All; pool = None; namespace = None; prefix = None; tag = None })

live_grant : GrantPhrase (Word (codes "allow") ∷ Star false ∷ []) allow_all []
live_grant = (Star false ∷ [], [], refl, inl (inl (false, refl), inl (refl, ([], [], refl, refl, refl))))

pub live_in : (p : Stage) → (ts : List Token) × (g : Grant) × InGrant p ts g []
live_in stages.Start = (Word (codes "allow") ∷ Star false ∷ [], allow_all, live_grant)
live_in stages.Separator = (Word (codes "allow") ∷ Star false ∷ [], allow_all, live_grant)
live_in (stages.Clauses may d) = live may d
live_in (stages.Letters f may d) = let l = live (after_access may) (with_access d (accesses.Flags (flags f.read f.write (f.class_read || false) (f.class_write || false)))) in (l.0, l.1, (false, false, l.0, refl, l.2))
live_in (stages.ClassRead f may d) = let l = live (after_access may) (with_access d (accesses.Flags (flags f.read f.write f.class_read (f.class_write || false)))) in (l.0, l.1, (false, l.0, refl, l.2))
live_in (stages.Method c may d) = live_method c may d
live_in (stages.Assigned s may d) = let l = live_filled s may d (codes "a") in (Word (codes "a") ∷ l.0, l.1, (codes "a", l.0, inl (inl refl), l.2))
live_in (stages.Value s may d) = let l = live_filled s may d (codes "a") in (Word (codes "a") ∷ l.0, l.1, (codes "a", l.0, inl refl, l.2))
live_in (stages.Namespace may d) = let l = live (after_namespace may) (record d { namespace = Some (Prefix []) }) in (Star false ∷ l.0, l.1, (Prefix [], l.0, inl (inr (inr (inl (false, refl, refl)))), l.2))
live_in (stages.NamespaceEquals may d) = let l = live (after_namespace may) (record d { namespace = Some (Prefix []) }) in (Star false ∷ l.0, l.1, (Prefix [], l.0, inr (inr (inl (false, refl, refl))), l.2))
live_in (stages.NamespaceWord w may d) = let l = live (after_namespace may) (record d { namespace = Some (Prefix w) }) in (Star true ∷ l.0, l.1, inr (l.0, refl, l.2))
live_in (stages.Key a d) = live_key a d
live_in (stages.KeyEquals a k d) = let l = live no_more (record d { tag = Some (record { application = a; key = k; value = Any }) }) in (Equals ∷ Star false ∷ l.0, l.1, (Any, Star false ∷ l.0, l.0, refl, inl (false, refl, refl), l.2))
live_in (stages.KeyValue a k d) = let l = live no_more (record d { tag = Some (record { application = a; key = k; value = Any }) }) in (Star false ∷ l.0, l.1, (Any, l.0, inl (false, refl, refl), l.2))
