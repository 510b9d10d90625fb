-- Which fault it is.
use Rattle.std.proofs.Common.{◌≡◌, ◌≢◌, ℕ, Bool, true, false, List, [], ◌∷◌, Some, None, Result, Ok, Err, refl, sym, ap, ◌∙◌, inl, inr}
use Rattle.std.specs.Prelude.{◌⊎◌, codes}
use Rattle.cap_text.specs.declared.token.Token.{Token}
use Rattle.cap_text.specs.declared.token.Token.TheVariants.{Comma, Semicolon, Equals, Star, Word, Quoted}
use Rattle.cap_grants.specs.declared.grant.Access.TheVariants as accesses
use Rattle.cap_grants.specs.declared.grant.Flags.{Flags}
use Rattle.cap_grants.specs.declared.grant.NsMatch.TheVariants.{Exact}
use Rattle.cap_grants.specs.declared.grant.Part.{Part}
use Rattle.cap_grants.specs.declared.grant.Grant.{Grant}
use Rattle.cap_grants.specs.declared.fault_kind.FaultKind.{FaultKind}
use Rattle.cap_grants.specs.declared.fault_kind.FaultKind.TheVariants.{UnknownWord, BadAccess, BadMatch, BadWord, NetworkClause}
use Rattle.cap_text.specs.declared.keyword.Keyword.{Keyword}
use Rattle.cap_text.specs.declared.keyword.Keyword.TheVariants as kw
use Rattle.cap_text.specs.declared.stage.ClauseSet.{ClauseSet}
use Rattle.cap_text.specs.Draft.{Head, Draft}
use Rattle.cap_text.specs.Draft as heads
use Rattle.cap_text.specs.Stage.{Stage, State}
use Rattle.cap_text.specs.Stage as stages
use Rattle.cap_text.specs.Words.{keyword_of}
use Rattle.cap_text.specs.Grammar.{begins_clause}
use Rattle.cap_text.specs.Assembly.{after_namespace, with_access, after_access, wants_access, grant_with, ended}
use Rattle.cap_text.specs.Machine.{accessed, access_word, where_open, where_due, clause_word, clauses, class_read_word, letters_word, method_word, value_of, mapped, filled, namespace_step, part_at, tag_stage, start_word, step, close, after_grant, in_grant, advance, finish_at, finish}
use Rattle.cap_text.specs.Faults.{Next, AtEnd, AToken, MayFollow, AnyWordMayFollow, IsBadWord, keyword_at, IsKind}
use Rattle.cap_text.proofs.Forth.{at_stage, run}
use Rattle.cap_text.proofs.Runs.{whole, origin, may, may_not}

abbrev by_due : Bool → FaultKind
by_due true = BadAccess
by_due false = UnknownWord

abbrev clause_fault : Bool → Keyword → FaultKind
clause_fault due kw.Network = NetworkClause
clause_fault due kw.Pool = BadMatch
clause_fault due kw.Namespace = BadMatch
clause_fault due kw.ObjectPrefix = BadMatch
clause_fault due kw.Tag = BadMatch
clause_fault due k = by_due due

abbrev method_fault : Bool → Keyword → FaultKind
method_fault true k = BadWord
method_fault false k = clause_fault false k

abbrev pub is_empty_quote : Next → Bool
is_empty_quote (AToken (Quoted [])) = true
is_empty_quote n = false

-- the fault at a stage, by the keyword that stands there and whether an empty quoted text does
abbrev pub fault_at : Stage → Keyword → Bool → FaultKind
fault_at stages.Start k b = UnknownWord
fault_at stages.Separator k b = UnknownWord
fault_at (stages.Clauses may d) k b = clause_fault (wants_access d.head) k
fault_at (stages.Letters f may d) k b = clause_fault false k
fault_at (stages.ClassRead f may d) k b = clause_fault false k
fault_at (stages.Method c may d) k b = method_fault b k
fault_at (stages.NamespaceWord w may d) k b = clause_fault (wants_access d.head) k
fault_at (stages.KeyEquals a x d) k b = BadMatch
fault_at p k b = BadWord

abbrev pub fault_by : Stage → Next → FaultKind
fault_by p n = fault_at p (keyword_at n) (is_empty_quote n)

-- ---- what a step answers

abbrev bad : FaultKind → Result Stage FaultKind
bad k = Err k

err_is : (j k : FaultKind) → bad j ≡ bad k → k ≡ j
err_is j k e = cc

ok_not : {A : Type 0} → (p : Stage) (k : FaultKind) → Ok p ≡ bad k → A
ok_not p k e = absurd cc

start_fault : (x : Keyword) (k : FaultKind) → start_word x ≡ bad k → k ≡ UnknownWord
start_fault kw.Allow k e = ok_not _ k e
start_fault kw.Profile k e = ok_not _ k e
start_fault x k e = err_is _ k e

open_fault : (b : Bool) (p : Stage) (k : FaultKind) → where_open b p ≡ bad k → k ≡ BadMatch
open_fault true p k e = ok_not p k e
open_fault false p k e = err_is _ k e

due_fault : (b : Bool) (r : Result Stage FaultKind) (k : FaultKind) → (r ≡ bad k → k ≡ BadAccess) → where_due b r ≡ bad k → k ≡ by_due b
due_fault true r k f e = f e
due_fault false r k f e = err_is _ k e

access_fault : (may : ClauseSet) (d : Draft) (x : Keyword) (k : FaultKind) → access_word may d x ≡ bad k → k ≡ BadAccess
access_fault may d kw.All k e = ok_not _ k e
access_fault may d kw.Class k e = ok_not _ k e
access_fault may d (kw.Letters r w y) k e = ok_not _ k e
access_fault may d kw.ClassRead k e = ok_not _ k e
access_fault may d kw.ClassWrite k e = ok_not _ k e
access_fault may d x k e = err_is _ k e

c_fault : (may : ClauseSet) (d : Draft) (x : Keyword) (k : FaultKind) → clause_word may d x ≡ bad k → k ≡ clause_fault (wants_access d.head) x
c_fault may d kw.Pool k e = open_fault may.pool _ k e
c_fault may d kw.Namespace k e = open_fault may.namespace _ k e
c_fault may d kw.ObjectPrefix k e = open_fault may.prefix _ k e
c_fault may d kw.Tag k e = open_fault may.tag _ k e
c_fault may d kw.Network k e = err_is _ k e
c_fault may d x k e = due_fault (wants_access d.head) (access_word may d x) k (access_fault may d x k) e

class_read_fault : (f : Flags) (may : ClauseSet) (d : Draft) (x : Keyword) (k : FaultKind) → class_read_word f may d x ≡ bad k → k ≡ clause_fault false x
class_read_fault f may d kw.ClassWrite k e = ok_not _ k e
class_read_fault f may d x k e = c_fault (after_access may) (with_access d (accesses.Flags f)) x k e

letters_fault : (f : Flags) (may : ClauseSet) (d : Draft) (x : Keyword) (k : FaultKind) → letters_word f may d x ≡ bad k → k ≡ clause_fault false x
letters_fault f may d kw.ClassRead k e = ok_not _ k e
letters_fault f may d x k e = class_read_fault f may d x k e

method_word_fault : (c : List ℕ) (may : ClauseSet) (d : Draft) (w : List ℕ) (x : Keyword) (k : FaultKind) → method_word c may d w x ≡ bad k → k ≡ clause_fault false x
method_word_fault c may d w kw.Pool k e = c_fault (after_access may) (with_access d (accesses.Class c None)) kw.Pool k e
method_word_fault c may d w kw.Namespace k e = c_fault (after_access may) (with_access d (accesses.Class c None)) kw.Namespace k e
method_word_fault c may d w kw.ObjectPrefix k e = c_fault (after_access may) (with_access d (accesses.Class c None)) kw.ObjectPrefix k e
method_word_fault c may d w kw.Tag k e = c_fault (after_access may) (with_access d (accesses.Class c None)) kw.Tag k e
method_word_fault c may d w kw.Network k e = c_fault (after_access may) (with_access d (accesses.Class c None)) kw.Network k e
method_word_fault c may d w x k e = ok_not _ k e

clauses_fault : (may : ClauseSet) (d : Draft) (t : Token) (k : FaultKind) → clauses may d t ≡ bad k → k ≡ clause_fault (wants_access d.head) (keyword_at (AToken t))
clauses_fault may d (Word w) k e = c_fault may d (keyword_of w) k e
clauses_fault may d (Star b) k e = due_fault (wants_access d.head) _ k (λ x. ok_not _ k x) e
clauses_fault may d t k e = due_fault (wants_access d.head) (Err BadAccess) k (λ x. err_is _ k x) e

part_fault : (f : Part → Stage) (t : Token) (k : FaultKind) → mapped f (part_at t) ≡ bad k → k ≡ BadWord
part_fault f (Star b) k e = ok_not _ k e
part_fault f (Word w) k e = ok_not _ k e
part_fault f (Quoted (b ∷ q)) k e = ok_not _ k e
part_fault f t k e = err_is _ k e

value_fault : (f : List ℕ → Stage) (t : Token) (k : FaultKind) → mapped f (value_of t) ≡ bad k → k ≡ BadWord
value_fault f (Word w) k e = ok_not _ k e
value_fault f (Quoted (b ∷ q)) k e = ok_not _ k e
value_fault f t k e = err_is _ k e

namespace_fault : (may : ClauseSet) (d : Draft) (t : Token) (k : FaultKind) → namespace_step may d t ≡ bad k → k ≡ BadWord
namespace_fault may d (Word w) k e = ok_not _ k e
namespace_fault may d (Quoted q) k e = ok_not _ k e
namespace_fault may d (Star b) k e = ok_not _ k e
namespace_fault may d t k e = err_is _ k e

step_fault : (p : Stage) (t : Token) (k : FaultKind) → step p t ≡ bad k → k ≡ fault_by p (AToken t)
unfolding step
step_fault stages.Start (Word w) k e = start_fault (keyword_of w) k e
step_fault stages.Start t k e = err_is _ k e
step_fault stages.Separator (Word w) k e = start_fault (keyword_of w) k e
step_fault stages.Separator t k e = err_is _ k e
step_fault (stages.Clauses may d) t k e = clauses_fault may d t k e
step_fault (stages.Letters f may d) (Word w) k e = letters_fault f may d (keyword_of w) k e
step_fault (stages.Letters f may d) t k e = err_is _ k e
step_fault (stages.ClassRead f may d) (Word w) k e = class_read_fault f may d (keyword_of w) k e
step_fault (stages.ClassRead f may d) t k e = err_is _ k e
step_fault (stages.Method c may d) (Word w) k e = method_word_fault c may d w (keyword_of w) k e
step_fault (stages.Method c may d) (Quoted (b ∷ q)) k e = ok_not _ k e
step_fault (stages.Method c may d) t k e = err_is _ k e
step_fault (stages.Assigned s may d) Equals k e = ok_not _ k e
step_fault (stages.Assigned s may d) t k e = value_fault (filled s may d) t k e
step_fault (stages.Value s may d) t k e = value_fault (filled s may d) t k e
step_fault (stages.Namespace may d) Equals k e = ok_not _ k e
step_fault (stages.Namespace may d) t k e = namespace_fault may d t k e
step_fault (stages.NamespaceEquals may d) t k e = namespace_fault may d t k e
step_fault (stages.NamespaceWord w may d) (Star true) k e = ok_not _ k e
step_fault (stages.NamespaceWord w may d) t k e = clauses_fault (after_namespace may) (record d { namespace = Some (Exact w) }) t k e
step_fault (stages.Key a d) t k e = part_fault (λ x. stages.KeyEquals a x d) t k e
step_fault (stages.KeyEquals a x d) Equals k e = ok_not _ k e
step_fault (stages.KeyEquals a x d) t k e = err_is _ k e
step_fault (stages.KeyValue a x d) t k e = part_fault (tag_stage a x d) t k e

abbrev unmade : FaultKind → Result Grant FaultKind
unmade k = Err k

grant_fault : (h : Head) (d : Draft) (k : FaultKind) → grant_with h d ≡ unmade k → k ≡ by_due (wants_access h)
grant_fault (heads.Allow None) d k e = cc
grant_fault (heads.Allow (Some a)) d k e = absurd cc
grant_fault (heads.Profile n) d k e = absurd cc

close_fault : (p : Stage) (k : FaultKind) → close p ≡ unmade k → k ≡ fault_at p kw.Other false
close_fault (stages.Clauses may d) k e = grant_fault d.head d k e
close_fault (stages.Letters f may d) k e = grant_fault (heads.Allow (Some (accesses.Flags f))) d k e
close_fault (stages.ClassRead f may d) k e = grant_fault (heads.Allow (Some (accesses.Flags f))) d k e
close_fault (stages.Method c may d) k e = grant_fault (heads.Allow (Some (accesses.Class c None))) d k e
close_fault (stages.NamespaceWord w may d) k e = grant_fault d.head (record d { namespace = Some (Exact w) }) k e
close_fault p k e = cc

abbrev lost : FaultKind → Result State FaultKind
lost k = Err k

separator_fault : (done : List Grant) (p : Stage) (r : Result Grant FaultKind) (k : FaultKind) → close p ≡ r → after_grant done r ≡ lost k → k ≡ fault_at p kw.Other false
separator_fault done p (Ok g) k c e = absurd cc
separator_fault done p (Err j) k c e = let same : k ≡ j = (let x : lost j ≡ lost k = e in cc) in same ∙ close_fault p j c

inner_fault : (done : List Grant) (p : Stage) (t : Token) (r : Result Stage FaultKind) (k : FaultKind) → step p t ≡ r → in_grant done r ≡ lost k → k ≡ fault_by p (AToken t)
inner_fault done p t (Ok q) k c e = absurd cc
inner_fault done p t (Err j) k c e = let same : k ≡ j = (let x : lost j ≡ lost k = e in cc) in same ∙ step_fault p t j c

pub advance_fault : (u : State) (t : Token) (k : FaultKind) → advance u t ≡ Err k → k ≡ fault_by u.stage (AToken t)
advance_fault u Comma k e = separator_fault u.done u.stage (close u.stage) k refl e
advance_fault u Semicolon k e = separator_fault u.done u.stage (close u.stage) k refl e
advance_fault u Equals k e = inner_fault u.done u.stage Equals (step u.stage Equals) k refl e
advance_fault u (Star b) k e = inner_fault u.done u.stage (Star b) (step u.stage (Star b)) k refl e
advance_fault u (Word w) k e = inner_fault u.done u.stage (Word w) (step u.stage (Word w)) k refl e
advance_fault u (Quoted q) k e = inner_fault u.done u.stage (Quoted q) (step u.stage (Quoted q)) k refl e

abbrev unended : FaultKind → Result (List Grant) FaultKind
unended k = Err k

ended_fault : (done : List Grant) (p : Stage) (r : Result Grant FaultKind) (k : FaultKind) → close p ≡ r → ended done r ≡ unended k → k ≡ fault_at p kw.Other false
ended_fault done p (Ok g) k c e = absurd cc
ended_fault done p (Err j) k c e = let same : k ≡ j = (let x : unended j ≡ unended k = e in cc) in same ∙ close_fault p j c

finish_fault_at : (p : Stage) (done : List Grant) (k : FaultKind) → finish_at p done ≡ unended k → k ≡ fault_at p kw.Other false
finish_fault_at stages.Start done k e = absurd (let x : Ok done ≡ unended k = e in cc)
finish_fault_at stages.Separator done k e = cc
finish_fault_at (stages.Clauses may d) done k e = ended_fault done (stages.Clauses may d) _ k refl e
finish_fault_at (stages.Letters f may d) done k e = ended_fault done (stages.Letters f may d) _ k refl e
finish_fault_at (stages.ClassRead f may d) done k e = ended_fault done (stages.ClassRead f may d) _ k refl e
finish_fault_at (stages.Method c may d) done k e = ended_fault done (stages.Method c may d) _ k refl e
finish_fault_at (stages.NamespaceWord w may d) done k e = ended_fault done (stages.NamespaceWord w may d) _ k refl e
finish_fault_at p done k e = cc

pub finish_fault : (u : State) (k : FaultKind) → finish u ≡ Err k → k ≡ fault_by u.stage AtEnd
finish_fault u k e = finish_fault_at u.stage u.done k e

-- ---- what the definition says of it

clause_clause : (due : Bool) (x : Keyword) → x ≢ kw.Network → begins_clause x ≡ true → clause_fault due x ≡ BadMatch
clause_clause due kw.Network ne c = absurd (ne refl)
clause_clause due kw.Pool ne c = refl
clause_clause due kw.Namespace ne c = refl
clause_clause due kw.ObjectPrefix ne c = refl
clause_clause due kw.Tag ne c = refl
clause_clause due x ne c = absurd cc

clause_other : (due : Bool) (x : Keyword) → (begins_clause x ≡ true → ⊥) → clause_fault due x ≡ by_due due
clause_other due kw.Network n = absurd (n refl)
clause_other due kw.Pool n = absurd (n refl)
clause_other due kw.Namespace n = absurd (n refl)
clause_other due kw.ObjectPrefix n = absurd (n refl)
clause_other due kw.Tag n = absurd (n refl)
clause_other due x n = refl

abbrev QuotedMayFollow : List Token → Type 0
QuotedMayFollow p = MayFollow p (Quoted (codes "a"))

-- whether a bad word stands there: by an empty quoted text, or by any word
pub record Words (p : List Token) (n : Next) : Type 0 where
  pub from : IsBadWord p n → ((is_empty_quote n ≡ false) × AnyWordMayFollow p) ⊎ ((is_empty_quote n ≡ true) × QuotedMayFollow p)
  pub by_word : is_empty_quote n ≡ false → AnyWordMayFollow p → IsBadWord p n
  pub by_quote : is_empty_quote n ≡ true → QuotedMayFollow p → IsBadWord p n

unset : {A : Type 0} → false ≡ true → A
unset e = absurd cc

set : {A : Type 0} → true ≡ false → A
set e = absurd cc

pub words_at : (p : List Token) (t : Token) → Words p (AToken t)
words_at p Comma = record { from = λ h. inl (refl, h); by_word = λ e h. h; by_quote = λ e h. unset e }
words_at p Semicolon = record { from = λ h. inl (refl, h); by_word = λ e h. h; by_quote = λ e h. unset e }
words_at p Equals = record { from = λ h. inl (refl, h); by_word = λ e h. h; by_quote = λ e h. unset e }
words_at p (Star b) = record { from = λ h. inl (refl, h); by_word = λ e h. h; by_quote = λ e h. unset e }
words_at p (Word w) = record { from = λ h. inl (refl, h); by_word = λ e h. h; by_quote = λ e h. unset e }
words_at p (Quoted []) = record { from = λ h. inr (refl, h); by_word = λ e h. set e; by_quote = λ e h. h }
words_at p (Quoted (b ∷ q)) = record { from = λ h. inl (refl, h); by_word = λ e h. h; by_quote = λ e h. unset e }

pub words_end : (p : List Token) → Words p AtEnd
words_end p = record { from = λ h. inl (refl, h); by_word = λ e h. h; by_quote = λ e h. unset e }

module _ (p : List Token) (n : Next) (ws : Words p n) where
  no_bad : (AnyWordMayFollow p → ⊥) → (QuotedMayFollow p → ⊥) → IsBadWord p n → ⊥
  no_bad any quoted b = elim (ws.from b) [ inl h ↦ any h.1 | inr h ↦ quoted h.1 ]

  bad_kind : IsBadWord p n → IsKind p n BadWord
  bad_kind b = (λ _. refl, λ none. absurd (none b))

  value_kind : AnyWordMayFollow p → QuotedMayFollow p → IsKind p n BadWord
  value_kind any quoted = cases (is_empty_quote n) refl where
    cases : (b : Bool) → is_empty_quote n ≡ b → IsKind p n BadWord
    cases true e = bad_kind (ws.by_quote e quoted)
    cases false e = bad_kind (ws.by_word e any)

  grant_kind : (IsBadWord p n → ⊥) → MayFollow p (Word (codes "allow")) → (MayFollow p (Word (codes "all")) → ⊥) → (MayFollow p Equals → ⊥) → IsKind p n UnknownWord
  grant_kind bad allow all equals = (λ b. absurd (bad b), λ _. (λ m. refl, λ m. absurd (m (allow, all))))

  equals_kind : (IsBadWord p n → ⊥) → MayFollow p Equals → ((w : List ℕ) → MayFollow p (Word w) → ⊥) → IsKind p n BadMatch
  equals_kind bad equals words = (λ b. absurd (bad b), λ _. (λ m. absurd (words (codes "allow") m.0), λ _. (λ m. refl, λ q. absurd (q (equals, words)))))

  access_kind : (IsBadWord p n → ⊥) → (MayFollow p (Word (codes "allow")) → ⊥) → MayFollow p (Word (codes "all")) → (MayFollow p Equals → ⊥) → IsKind p n (clause_fault true (keyword_at n))
  access_kind bad allow all equals = (
    λ b. absurd (bad b),
    λ _. (
      λ m. absurd (allow m.0),
      λ _. (
        λ m. absurd (equals m.0),
        λ _. (
          λ e. ap (clause_fault true) e,
          λ e.
              (λ c. clause_clause true (keyword_at n) e c, λ c. (λ a. clause_other true (keyword_at n) c, λ a. absurd (a (all, allow)))),
        ),
      ),
    ),
  )

  clause_kind : (IsBadWord p n → ⊥) → (MayFollow p (Word (codes "allow")) → ⊥) → (MayFollow p (Word (codes "all")) → ⊥) → (MayFollow p Equals → ⊥) → IsKind p n (clause_fault false (keyword_at n))
  clause_kind bad allow all equals = (
    λ b. absurd (bad b),
    λ _. (
      λ m. absurd (allow m.0),
      λ _. (
        λ m. absurd (equals m.0),
        λ _. (
          λ e. ap (clause_fault false) e,
          λ e.
              (λ c. clause_clause false (keyword_at n) e c, λ c. (λ a. absurd (all a.0), λ a. clause_other false (keyword_at n) c)),
        ),
      ),
    ),
  )

  -- a method's stage takes both words
  taken_kind : (IsBadWord p n → ⊥) → MayFollow p (Word (codes "allow")) → MayFollow p (Word (codes "all")) → (MayFollow p Equals → ⊥) → IsKind p n (clause_fault false (keyword_at n))
  taken_kind bad allow all equals = (
    λ b. absurd (bad b),
    λ _. (
      λ m. absurd (m.1 all),
      λ _. (
        λ m. absurd (equals m.0),
        λ _. (
          λ e. ap (clause_fault false) e,
          λ e.
              (λ c. clause_clause false (keyword_at n) e c, λ c. (λ a. absurd (a.1 allow), λ a. clause_other false (keyword_at n) c)),
        ),
      ),
    ),
  )

  module _ (done : List Grant) (q : Stage) (e : run origin p ≡ whole (at_stage done q)) where
    no : (k : FaultKind) (t : Token) → advance (at_stage done q) t ≡ Err k → MayFollow p t → ⊥
    no k t f h = may_not p (at_stage done q) t k e f h

    yes_to : (u : Stage) (t : Token) → advance (at_stage done q) t ≡ whole (at_stage done u) → MayFollow p t
    yes_to u t f = may p (at_stage done q) (at_stage done u) t e f

    clauses_kind : (may : ClauseSet) (d : Draft) → ((w : List ℕ) → step q (Word w) ≡ clauses may d (Word w)) → step q (Quoted (codes "a")) ≡ clauses may d (Quoted (codes "a")) → step q Equals ≡ clauses may d Equals → (b : Bool) → wants_access d.head ≡ b → IsKind p n (clause_fault b (keyword_at n))
    clauses_kind may d hw hq he true due =
        access_kind
        (no_bad (λ any. no BadAccess (Word []) (ap (in_grant done) (hw [] ∙ ap (λ b. where_due b (bad BadAccess)) due)) (any [])) (no BadAccess (Quoted (codes "a")) (ap (in_grant done) (hq ∙ ap (λ b. where_due b (bad BadAccess)) due))))
        (no BadAccess (Word (codes "allow")) (ap (in_grant done) (hw (codes "allow") ∙ ap (λ b. where_due b (bad BadAccess)) due)))
        (yes_to (accessed may d accesses.All) (Word (codes "all")) (ap (in_grant done) (hw (codes "all") ∙ ap (λ b. where_due b (Ok (accessed may d accesses.All))) due)))
        (no BadAccess Equals (ap (in_grant done) (he ∙ ap (λ b. where_due b (bad BadAccess)) due)))
    clauses_kind may d hw hq he false due =
        clause_kind
        (no_bad (λ any. no UnknownWord (Word []) (ap (in_grant done) (hw [] ∙ ap (λ b. where_due b (bad BadAccess)) due)) (any [])) (no UnknownWord (Quoted (codes "a")) (ap (in_grant done) (hq ∙ ap (λ b. where_due b (bad BadAccess)) due))))
        (no UnknownWord (Word (codes "allow")) (ap (in_grant done) (hw (codes "allow") ∙ ap (λ b. where_due b (bad BadAccess)) due)))
        (no UnknownWord (Word (codes "all")) (ap (in_grant done) (hw (codes "all") ∙ ap (λ b. where_due b (Ok (accessed may d accesses.All))) due)))
        (no UnknownWord Equals (ap (in_grant done) (he ∙ ap (λ b. where_due b (bad BadAccess)) due)))

  pub kind_of : (done : List Grant) (q : Stage) → run origin p ≡ whole (at_stage done q) → IsKind p n (fault_by q n)
  unfolding step
  kind_of done stages.Start e =
      grant_kind (no_bad (λ any. no done stages.Start e UnknownWord (Word []) refl (any [])) (no done stages.Start e UnknownWord (Quoted (codes "a")) refl)) (yes_to done stages.Start e _ (Word (codes "allow")) refl) (no done stages.Start e UnknownWord (Word (codes "all")) refl) (no done stages.Start e UnknownWord Equals refl)
  kind_of done stages.Separator e =
      grant_kind (no_bad (λ any. no done stages.Separator e UnknownWord (Word []) refl (any [])) (no done stages.Separator e UnknownWord (Quoted (codes "a")) refl)) (yes_to done stages.Separator e _ (Word (codes "allow")) refl) (no done stages.Separator e UnknownWord (Word (codes "all")) refl) (no done stages.Separator e UnknownWord Equals refl)
  kind_of done (stages.Clauses may d) e = clauses_kind done (stages.Clauses may d) e may d (λ w. refl) refl refl (wants_access d.head) refl
  kind_of done (stages.NamespaceWord w may d) e = clauses_kind done (stages.NamespaceWord w may d) e (after_namespace may) (record d { namespace = Some (Exact w) }) (λ v. refl) refl refl (wants_access d.head) refl
  kind_of done (stages.Letters f may d) e =
      let q = stages.Letters f may d in
      clause_kind (no_bad (λ any. no done q e UnknownWord (Word []) refl (any [])) (no done q e UnknownWord (Quoted (codes "a")) refl)) (no done q e UnknownWord (Word (codes "allow")) refl) (no done q e UnknownWord (Word (codes "all")) refl) (no done q e UnknownWord Equals refl)
  kind_of done (stages.ClassRead f may d) e =
      let q = stages.ClassRead f may d in
      clause_kind (no_bad (λ any. no done q e UnknownWord (Word []) refl (any [])) (no done q e UnknownWord (Quoted (codes "a")) refl)) (no done q e UnknownWord (Word (codes "allow")) refl) (no done q e UnknownWord (Word (codes "all")) refl) (no done q e UnknownWord Equals refl)
  kind_of done (stages.Method c may d) e = cases (is_empty_quote n) refl where
    cases : (b : Bool) → is_empty_quote n ≡ b → IsKind p n (method_fault b (keyword_at n))
    cases true x = bad_kind (ws.by_quote x (yes_to done (stages.Method c may d) e _ (Quoted (codes "a")) refl))
    cases false x =
        taken_kind (λ b. elim (ws.from b) [ inl h ↦ no done (stages.Method c may d) e NetworkClause (Word (codes "network")) refl (h.1 (codes "network")) | inr h ↦ set (sym h.0 ∙ x) ]) (yes_to done (stages.Method c may d) e _ (Word (codes "allow")) refl) (yes_to done (stages.Method c may d) e _ (Word (codes "all")) refl) (no done (stages.Method c may d) e UnknownWord Equals refl)
  kind_of done (stages.KeyEquals a k d) e =
      let q = stages.KeyEquals a k d in
      equals_kind (no_bad (λ any. no done q e BadMatch (Word []) refl (any [])) (no done q e BadMatch (Quoted (codes "a")) refl)) (yes_to done q e _ Equals refl) (λ w. no done q e BadMatch (Word w) refl)
  kind_of done (stages.Assigned s may d) e = value_kind (λ w. yes_to done (stages.Assigned s may d) e _ (Word w) refl) (yes_to done (stages.Assigned s may d) e _ (Quoted (codes "a")) refl)
  kind_of done (stages.Value s may d) e = value_kind (λ w. yes_to done (stages.Value s may d) e _ (Word w) refl) (yes_to done (stages.Value s may d) e _ (Quoted (codes "a")) refl)
  kind_of done (stages.Namespace may d) e = value_kind (λ w. yes_to done (stages.Namespace may d) e _ (Word w) refl) (yes_to done (stages.Namespace may d) e _ (Quoted (codes "a")) refl)
  kind_of done (stages.NamespaceEquals may d) e = value_kind (λ w. yes_to done (stages.NamespaceEquals may d) e _ (Word w) refl) (yes_to done (stages.NamespaceEquals may d) e _ (Quoted (codes "a")) refl)
  kind_of done (stages.Key a d) e = value_kind (λ w. yes_to done (stages.Key a d) e _ (Word w) refl) (yes_to done (stages.Key a d) e _ (Quoted (codes "a")) refl)
  kind_of done (stages.KeyValue a k d) e = value_kind (λ w. yes_to done (stages.KeyValue a k d) e _ (Word w) refl) (yes_to done (stages.KeyValue a k d) e _ (Quoted (codes "a")) refl)
