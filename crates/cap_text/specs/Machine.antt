-- Statement: contracts of public calls use it.
-- The grammar, token by token.
use Rattle.std.specs.Prelude.{ℕ, Bool, true, false, List, [], ◌∷◌, ◌++◌, Option, Some, None, Result, Ok, Err}
use Rattle.cap_text.specs.declared.token.Token.{Token}
use Rattle.cap_text.specs.declared.token.Token.TheVariants.{Comma, Semicolon, Equals, Star, Word, Quoted}
use Rattle.cap_grants.specs.declared.grant.Access.{Access}
use Rattle.cap_grants.specs.declared.grant.Access.TheVariants as accesses
use Rattle.cap_grants.specs.declared.grant.Flags.{Flags}
use Rattle.cap_grants.specs.declared.grant.NsMatch.{NsMatch}
use Rattle.cap_grants.specs.declared.grant.NsMatch.TheVariants.{Exact, Prefix}
use Rattle.cap_grants.specs.declared.grant.Part.{Part}
use Rattle.cap_grants.specs.declared.grant.Part.TheVariants.{Any}
use Rattle.cap_grants.specs.declared.grant.Grant.{Grant}
use Rattle.cap_grants.specs.declared.fault_kind.FaultKind.{FaultKind}
use Rattle.cap_grants.specs.declared.fault_kind.FaultKind.TheVariants.{UnknownWord, BadAccess, BadMatch, BadWord, NetworkClause, OutOfMemory}
use Rattle.cap_text.specs.declared.fault.CapFault.{CapFault}
use Rattle.cap_text.specs.declared.keyword.Keyword.{Keyword}
use Rattle.cap_text.specs.declared.keyword.Keyword.TheVariants as kw
use Rattle.cap_text.specs.declared.stage.ClauseSet.{ClauseSet}
use Rattle.cap_text.specs.Draft.{Draft}
use Rattle.cap_text.specs.Draft as heads
use Rattle.cap_text.specs.declared.stage.ValueFor.{ValueFor}
use Rattle.cap_text.specs.declared.stage.ValueFor.TheVariants as slots
use Rattle.cap_text.specs.Stage.{Stage, State}
use Rattle.cap_text.specs.Stage as stages
use Rattle.cap_text.specs.Words.{keyword_of}
use Rattle.cap_text.specs.Assembly.{no_more, after_pool, after_namespace, fresh, with_access, after_access, wants_access, grant_of, ended}
use Rattle.cap_text.specs.Grammar.{namespace_of, part_of}

-- ---- clauses

abbrev pub every : ClauseSet
every = record { pool = true; namespace = true; prefix = true; tag = true }

abbrev pub of_profile : ClauseSet
of_profile = record { pool = true; namespace = true; prefix = false; tag = false }

-- ---- accesses

abbrev pub accessed : ClauseSet → Draft → Access → Stage
accessed may d a = stages.Clauses (after_access may) (with_access d a)

abbrev pub flags : Bool → Bool → Bool → Bool → Flags
flags r w k l = record { read = r; write = w; class_read = k; class_write = l }

abbrev pub access_word : ClauseSet → Draft → Keyword → Result Stage FaultKind
access_word may d kw.All = Ok (accessed may d accesses.All)
access_word may d kw.Class = Ok (stages.Value slots.Class may d)
access_word may d (kw.Letters r w x) = Ok (stages.Letters (flags r w x x) may d)
access_word may d kw.ClassRead = Ok (stages.ClassRead (flags false false true false) may d)
access_word may d kw.ClassWrite = Ok (accessed may d (accesses.Flags (flags false false false true)))
access_word may d k = Err BadAccess

abbrev pub where_open : Bool → Stage → Result Stage FaultKind
where_open true p = Ok p
where_open false p = Err BadMatch

abbrev pub where_due : Bool → Result Stage FaultKind → Result Stage FaultKind
where_due true r = r
where_due false r = Err UnknownWord

abbrev pub clause_word : ClauseSet → Draft → Keyword → Result Stage FaultKind
clause_word may d kw.Pool = where_open may.pool (stages.Assigned slots.Pool may d)
clause_word may d kw.Namespace = where_open may.namespace (stages.Namespace may d)
clause_word may d kw.ObjectPrefix = where_open may.prefix (stages.Value slots.Prefix may d)
clause_word may d kw.Tag = where_open may.tag (stages.Value slots.Application may d)
clause_word may d kw.Network = Err NetworkClause
clause_word may d k = where_due (wants_access d.head) (access_word may d k)

abbrev pub clauses : ClauseSet → Draft → Token → Result Stage FaultKind
clauses may d (Word w) = clause_word may d (keyword_of w)
clauses may d (Star b) = where_due (wants_access d.head) (Ok (accessed may d accesses.All))
clauses may d t = where_due (wants_access d.head) (Err BadAccess)

-- ---- behind an access

abbrev pub behind_flags : ClauseSet → Draft → Flags → Keyword → Result Stage FaultKind
behind_flags may d f k = clause_word (after_access may) (with_access d (accesses.Flags f)) k

abbrev pub class_read_word : Flags → ClauseSet → Draft → Keyword → Result Stage FaultKind
class_read_word f may d kw.ClassWrite = Ok (accessed may d (accesses.Flags (record f { class_write = true })))
class_read_word f may d k = behind_flags may d f k

abbrev pub letters_word : Flags → ClauseSet → Draft → Keyword → Result Stage FaultKind
letters_word f may d kw.ClassRead = Ok (stages.ClassRead (record f { class_read = true }) may d)
letters_word f may d k = class_read_word f may d k

abbrev pub letters_step : Flags → ClauseSet → Draft → Token → Result Stage FaultKind
letters_step f may d (Word w) = letters_word f may d (keyword_of w)
letters_step f may d t = Err UnknownWord

abbrev pub class_read_step : Flags → ClauseSet → Draft → Token → Result Stage FaultKind
class_read_step f may d (Word w) = class_read_word f may d (keyword_of w)
class_read_step f may d t = Err UnknownWord

abbrev pub method_stage : List ℕ → ClauseSet → Draft → Option (List ℕ) → Stage
method_stage c may d m = accessed may d (accesses.Class c m)

abbrev pub method_word : List ℕ → ClauseSet → Draft → List ℕ → Keyword → Result Stage FaultKind
method_word c may d w kw.Pool = clause_word (after_access may) (with_access d (accesses.Class c None)) kw.Pool
method_word c may d w kw.Namespace = clause_word (after_access may) (with_access d (accesses.Class c None)) kw.Namespace
method_word c may d w kw.ObjectPrefix = clause_word (after_access may) (with_access d (accesses.Class c None)) kw.ObjectPrefix
method_word c may d w kw.Tag = clause_word (after_access may) (with_access d (accesses.Class c None)) kw.Tag
method_word c may d w kw.Network = clause_word (after_access may) (with_access d (accesses.Class c None)) kw.Network
method_word c may d w k = Ok (method_stage c may d (Some w))

abbrev pub method_step : List ℕ → ClauseSet → Draft → Token → Result Stage FaultKind
method_step c may d (Word w) = method_word c may d w (keyword_of w)
method_step c may d (Quoted []) = Err BadWord
method_step c may d (Quoted (b ∷ q)) = Ok (method_stage c may d (Some (b ∷ q)))
method_step c may d t = Err UnknownWord

-- ---- values

-- a word, or a quoted text that is not empty
abbrev pub value_of : Token → Result (List ℕ) FaultKind
value_of (Word w) = Ok w
value_of (Quoted (b ∷ q)) = Ok (b ∷ q)
value_of t = Err BadWord

abbrev pub mapped : {A B : Type 0} → (A → B) → Result A FaultKind → Result B FaultKind
mapped f (Ok x) = Ok (f x)
mapped f (Err k) = Err k

abbrev pub filled : ValueFor → ClauseSet → Draft → List ℕ → Stage
filled slots.Profile may d v = stages.Clauses may (record d { head = heads.Profile v })
filled slots.Class may d v = stages.Method v may d
filled slots.Pool may d v = stages.Clauses (after_pool may) (record d { pool = Some v })
filled slots.Prefix may d v = stages.Clauses no_more (record d { prefix = Some v })
filled slots.Application may d v = stages.Key v d

abbrev pub value_step : ValueFor → ClauseSet → Draft → Token → Result Stage FaultKind
value_step s may d t = mapped (filled s may d) (value_of t)

abbrev pub namespace_stage : ClauseSet → Draft → NsMatch → Stage
namespace_stage may d ns = stages.Clauses (after_namespace may) (record d { namespace = Some ns })

abbrev pub namespace_step : ClauseSet → Draft → Token → Result Stage FaultKind
namespace_step may d (Word w) = Ok (stages.NamespaceWord w may d)
namespace_step may d (Quoted q) = Ok (namespace_stage may d (namespace_of q))
namespace_step may d (Star behind) = Ok (namespace_stage may d (Prefix []))
namespace_step may d t = Err BadWord

abbrev pub namespace_word_step : List ℕ → ClauseSet → Draft → Token → Result Stage FaultKind
namespace_word_step w may d (Star true) = Ok (namespace_stage may d (Prefix w))
namespace_word_step w may d t = clauses (after_namespace may) (record d { namespace = Some (Exact w) }) t

abbrev pub part_at : Token → Result Part FaultKind
part_at (Star behind) = Ok Any
part_at t = mapped part_of (value_of t)

abbrev pub key_step : List ℕ → Draft → Token → Result Stage FaultKind
key_step a d t = mapped (λ k. stages.KeyEquals a k d) (part_at t)

abbrev pub tag_stage : List ℕ → Part → Draft → Part → Stage
tag_stage a k d v = stages.Clauses no_more (record d { tag = Some (record { application = a; key = k; value = v }) })

abbrev pub key_value_step : List ℕ → Part → Draft → Token → Result Stage FaultKind
key_value_step a k d t = mapped (tag_stage a k d) (part_at t)

-- ---- grants

abbrev pub start_word : Keyword → Result Stage FaultKind
start_word kw.Allow = Ok (stages.Clauses every (fresh (heads.Allow None)))
start_word kw.Profile = Ok (stages.Assigned slots.Profile of_profile (fresh (heads.Allow None)))
start_word k = Err UnknownWord

abbrev pub start_step : Token → Result Stage FaultKind
start_step (Word w) = start_word (keyword_of w)
start_step t = Err UnknownWord

-- the stage behind a token other than a separator
unfoldable pub step : Stage → Token → Result Stage FaultKind
step stages.Start t = start_step t
step stages.Separator t = start_step t
step (stages.Clauses may d) t = clauses may d t
step (stages.Letters f may d) t = letters_step f may d t
step (stages.ClassRead f may d) t = class_read_step f may d t
step (stages.Method c may d) t = method_step c may d t
step (stages.Assigned s may d) Equals = Ok (stages.Value s may d)
step (stages.Assigned s may d) t = value_step s may d t
step (stages.Value s may d) t = value_step s may d t
step (stages.Namespace may d) Equals = Ok (stages.NamespaceEquals may d)
step (stages.Namespace may d) t = namespace_step may d t
step (stages.NamespaceEquals may d) t = namespace_step may d t
step (stages.NamespaceWord w may d) t = namespace_word_step w may d t
step (stages.Key a d) t = key_step a d t
step (stages.KeyEquals a k d) Equals = Ok (stages.KeyValue a k d)
step (stages.KeyEquals a k d) t = Err BadMatch
step (stages.KeyValue a k d) t = key_value_step a k d t

-- the grant that is whole here
abbrev pub close : Stage → Result Grant FaultKind
close stages.Start = Err UnknownWord
close stages.Separator = Err UnknownWord
close (stages.Clauses may d) = grant_of d
close (stages.Letters f may d) = grant_of (with_access d (accesses.Flags f))
close (stages.ClassRead f may d) = grant_of (with_access d (accesses.Flags f))
close (stages.Method c may d) = grant_of (with_access d (accesses.Class c None))
close (stages.NamespaceWord w may d) = grant_of (record d { namespace = Some (Exact w) })
close (stages.KeyEquals a k d) = Err BadMatch
close p = Err BadWord

-- ---- lists

abbrev pub after_grant : List Grant → Result Grant FaultKind → Result State FaultKind
after_grant done (Ok g) = Ok (record { done = done ++ g ∷ []; stage = stages.Separator })
after_grant done (Err k) = Err k

abbrev pub in_grant : List Grant → Result Stage FaultKind → Result State FaultKind
in_grant done (Ok p) = Ok (record { done = done; stage = p })
in_grant done (Err k) = Err k

abbrev pub advance : State → Token → Result State FaultKind
advance s Comma = after_grant s.done (close s.stage)
advance s Semicolon = after_grant s.done (close s.stage)
advance s t = in_grant s.done (step s.stage t)

abbrev pub finish_at : Stage → List Grant → Result (List Grant) FaultKind
finish_at stages.Start done = Ok done
finish_at p done = ended done (close p)

abbrev pub finish : State → Result (List Grant) FaultKind
finish s = finish_at s.stage s.done

abbrev pub placed : FaultKind → ℕ → CapFault
placed OutOfMemory at = record { kind = OutOfMemory; at = 0 }
placed k at = record { kind = k; at = at }
