-- Requests that are sealed by a pool that was read, and what becomes of them.
use Rattle.std.proofs.Common.{◌≡◌, ◌∙◌, ◌⊎◌, inl, inr, ℕ, ◌+◌, ◌%◌, ◌<◌, ◌≤◌, ◌&&◌, Bool, true, false, List, Option, Some, None, refl, sym, ap, subst, arith, add-zero}
use Rattle.std.specs.Prelude.{Result, Ok, Err, IfOk, IfErr, not, nat_lt}
use Rattle.std.specs.Option.{option_map}
use Rattle.place_core.specs.Placement.{group_of}
use Rattle.map_core.specs.State.{History}
use Rattle.map_core.specs.Refusal.{is_word}
use Rattle.map_core.specs.declared.pool.PoolView.{PoolView}
use Rattle.object_core.specs.Needs.{needs_fault}
use Rattle.object_core.specs.declared.needs.NeedsFault.{NeedsFault}
use Rattle.object_core.specs.declared.op.Op.{Op}
use Rattle.entry_core.specs.Locality.{Hashes}
use Rattle.store_core.specs.Request.{Sealed, Work, Vector, Listing}
use Rattle.world_front.specs.ControlPlane.{◌>>=◌, need, refuse_if, lower, error_of, id_of, Asker, is_object_name, is_namespace, sealed_of, vector_of}
use Rattle.world_front.specs.Stands.{next_in}
use Rattle.world_events.specs.declared.event.Ask.{Ask}
use Rattle.world_events.specs.declared.fault.WorldFault.{WorldFault as Fault}
use Rattle.world_events.specs.declared.fault.WorldFault.TheVariants.{NoSession, NoPool, BadObjectName, StaleTick, Needs as OfNeeds}
use Rattle.world_front.specs.declared.session.Session.{Session}
use Rattle.cluster.specs.declared.asking.NewRequest.{NewRequest}
use Rattle.cluster.specs.declared.asking.Submitted.{Submitted}
use Rattle.cluster.specs.declared.cluster.Cluster.{Cluster}
use Rattle.cluster.specs.declared.fault.ClusterFault.{ClusterFault}
use Rattle.cluster.specs.declared.fault.ClusterFault.TheVariants as faults
use Rattle.cluster.specs.declared.pass.OwnSession.{OwnSession}
use Rattle.cluster.specs.declared.pass.Pass.{Pass}
use Rattle.cluster.specs.Sessions.{own_session}
use Rattle.cluster.specs.Pools.{view_by, IsPoolOf, HasSeen, IsUnseen}
use Rattle.cluster.specs.Asking.{ask_by, session_by, asker_by, vector_by, request_by, piece_of, HasSubmitted, IsNotSubmitted, IsSubmitted, IsRefusedBy, SubmitFails}
use Rattle.cluster.specs.ToAsk.{IsToAsk, IsVectorSubmitted, IsVectorRefused}

-- ---- ready to be submitted

rem_below : (x n : ℕ) → 1 ≤ n → x % n < n
rem_below x n some = omega arith

module _ (start : History) (own : List OwnSession) (ask : Ask) (view : PoolView) (session : Session) (is : IsPoolOf start ask.pool view) (has : own_session own ask.session ≡ Some session) (room : session.next + 1 < 4294967296) where
  ready : (work : Work) (group : ℕ) → group < view.pg_num → Hashes view.pg_num ask.namespace group work → IsToAsk start own ask (sealed_of ask (record { session = session; view = view }) work group 0)
  ready work group below hashes = record {
    sealed = record { well = record { pool = is.there; hashes = hashes }; below = below };
    word = ap is_word is.named ∙ is.word;
    id = ap (id_of ask.session) (add-zero session.next) ∙ ap (λ (o : Option Session). id_of ask.session (next_in o)) (sym has);
    room = subst (λ (n : ℕ). n + 1 < 4294967296) (ap next_in (sym has)) room;
  }

  pub vector_ready : (object : List ℕ) (ops : List Op) → IsToAsk start own ask (vector_of ask (record { session = session; view = view }) object ops)
  vector_ready object ops = ready (Vector object ops) (group_of ask.namespace object view.pg_num) (hashed (is.limits.some_groups)) refl
    where
      hashed : 1 ≤ view.pg_num → group_of ask.namespace object view.pg_num < view.pg_num
      hashed some = rem_below _ view.pg_num some

  pub piece_ready : (group : ℕ) → group < view.pg_num → IsToAsk start own ask (piece_of ask (record { session = session; view = view }) group)
  piece_ready group below = ready Listing group below tt

-- ---- what may be asked

pub memory_refuses : (c : Cluster) (r : Result Sealed Fault) (p : Pass) → IsRefusedBy c r faults.OutOfMemory p p
memory_refuses c (Ok request) p = inl (refl, refl)
memory_refuses c (Err why) p = (inr refl, refl)

module _ (a : NewRequest) (asker : Asker) (object : List ℕ) (ops : List Op) where
  pub vector_named : (is_object_name object && is_namespace a.namespace) ≡ false → vector_by a asker object ops ≡ Err BadObjectName
  vector_named bad = ap (λ b. refuse_if (not b) BadObjectName >>= λ _. lower OfNeeds (needs_fault ops) >>= λ _. Ok (vector_of (ask_by a asker.view) asker object ops)) bad

  vector_goes : (is_object_name object && is_namespace a.namespace) ≡ true → vector_by a asker object ops ≡ (lower OfNeeds (needs_fault ops) >>= λ _. Ok (vector_of (ask_by a asker.view) asker object ops))
  vector_goes good = ap (λ b. refuse_if (not b) BadObjectName >>= λ _. lower OfNeeds (needs_fault ops) >>= λ _. Ok (vector_of (ask_by a asker.view) asker object ops)) good

  pub vector_made : (is_object_name object && is_namespace a.namespace) ≡ true → needs_fault ops ≡ None → vector_by a asker object ops ≡ Ok (vector_of (ask_by a asker.view) asker object ops)
  vector_made good none = vector_goes good ∙ ap (λ (o : Option NeedsFault). lower OfNeeds o >>= λ _. Ok (vector_of (ask_by a asker.view) asker object ops)) none

  pub vector_needs : (is_object_name object && is_namespace a.namespace) ≡ true → (why : Fault) → option_map OfNeeds (needs_fault ops) ≡ Some why → vector_by a asker object ops ≡ Err why
  vector_needs good why is = vector_goes good ∙ by (needs_fault ops) is
    where
      by : (o : Option NeedsFault) → option_map OfNeeds o ≡ Some why → (lower OfNeeds o >>= λ _. Ok (vector_of (ask_by a asker.view) asker object ops)) ≡ Err why
      by None e = absurd (cc)
      by (Some f) e = let same : OfNeeds f ≡ why = cc in ap (λ (x : Fault). Err x) same

-- ---- what became of a vector

pub ok_so : {X E : Type 0} → (P Q : X → Type 0) (r : Result X E) → ((x : X) → P x → Q x) → IfOk r P → IfOk r Q
ok_so P Q (Ok x) f h = f x h
ok_so P Q (Err e) f h = tt

pub err_so : {X E : Type 0} → (P Q : E → Type 0) (r : Result X E) → ((e : E) → P e → Q e) → IfErr r P → IfErr r Q
err_so P Q (Ok x) f h = tt
err_so P Q (Err e) f h = f e h

module _ (c : Cluster) (a : NewRequest) (view : PoolView) (object : List ℕ) (ops : List Op) (session : Session) (old new : Pass) (has : own_session old.sessions.items a.session ≡ Some session) (ask : Ask) (request : Sealed) (asks : ask ≡ ask_by a view)
    (seals : request ≡ vector_of ask (record { session = session; view = view }) object ops) (made : vector_by a (record { session = session; view = view }) object ops ≡ Ok (vector_of (ask_by a view) (record { session = session; view = view }) object ops)) where
  same_request : request ≡ vector_of (ask_by a view) (record { session = session; view = view }) object ops
  same_request = seals ∙ ap (λ (k : Ask). vector_of k (record { session = session; view = view }) object ops) asks

  pub vector_asked : (r : Result Submitted ClusterFault) → IfOk r (λ asked. HasSubmitted c ask request asked old new) → IfOk r (λ asked. IsVectorSubmitted c a view object ops asked old new)
  vector_asked r = ok_so (λ asked. HasSubmitted c ask request asked old new) (λ asked. IsVectorSubmitted c a view object ops asked old new) r (λ asked h. record {
    session = session;
    has = has;
    request = vector_of (ask_by a view) (record { session = session; view = view }) object ops;
    sealed = made;
    asks = subst (λ (s : Sealed). HasSubmitted c (ask_by a view) s asked old new) same_request (subst (λ (k : Ask). HasSubmitted c k request asked old new) asks h);
  })

  pub vector_refused : (r : Result Submitted ClusterFault) → IfErr r (λ fault. IsNotSubmitted c request fault old new) → IfErr r (λ fault. IsVectorRefused c a view object ops fault old new)
  vector_refused r = err_so (λ fault. IsNotSubmitted c request fault old new) (λ fault. IsVectorRefused c a view object ops fault old new) r (λ fault h. record {
    session = session;
    has = has;
    fails = subst (λ (s : Result Sealed Fault). IsRefusedBy c s fault old new) (sym made) (subst (λ (s : Sealed). IsNotSubmitted c s fault old new) same_request h);
  })

-- no request was made
pub vector_unmade : (c : Cluster) (a : NewRequest) (view : PoolView) (object : List ℕ) (ops : List Op) (session : Session) (p : Pass) (fault : ClusterFault) → own_session p.sessions.items a.session ≡ Some session
    → (is_object_name object && is_namespace a.namespace) ≡ true → (fault ≡ faults.OutOfMemory) ⊎ ((why : Fault) × (fault ≡ faults.World why) × (option_map OfNeeds (needs_fault ops) ≡ Some why)) → IsVectorRefused c a view object ops fault p p
vector_unmade c a view object ops session p fault has good (inl memory) = record {
  session = session;
  has = has;
  fails = subst (λ (f : ClusterFault). IsRefusedBy c (vector_by a (record { session = session; view = view }) object ops) f p p) (sym memory) (memory_refuses c (vector_by a (record { session = session; view = view }) object ops) p);
}
vector_unmade c a view object ops session p fault has good (inr e) = record {
  session = session;
  has = has;
  fails = subst (λ (s : Result Sealed Fault). IsRefusedBy c s fault p p) (sym (vector_needs a (record { session = session; view = view }) object ops good e.0 e.2)) (inl e.1, refl);
}

pub vector_unnamed : (c : Cluster) (a : NewRequest) (view : PoolView) (object : List ℕ) (ops : List Op) (session : Session) (p : Pass) → own_session p.sessions.items a.session ≡ Some session
    → (is_object_name object && is_namespace a.namespace) ≡ false → IsVectorRefused c a view object ops (faults.World BadObjectName) p p
vector_unnamed c a view object ops session p has bad = record {
  session = session;
  has = has;
  fails = subst (λ (s : Result Sealed Fault). IsRefusedBy c s (faults.World BadObjectName) p p) (sym (vector_named a (record { session = session; view = view }) object ops bad)) (inl refl, refl);
}

-- ---- by the map that was read

pub session_given : (own : List OwnSession) (a : NewRequest) (s : Session) → error_of (session_by own a) ≡ None → own_session own a.session ≡ Some s → session_by own a ≡ Ok s
session_given own a s fine has = to ∙ by (nat_lt a.tick s.tick) (sym (ap error_of to) ∙ fine)
  where
    to : session_by own a ≡ (refuse_if (nat_lt a.tick s.tick) StaleTick >>= λ _. Ok s)
    to = ap (λ (o : Option Session). need o NoSession >>= λ s. refuse_if (nat_lt a.tick s.tick) StaleTick >>= λ _. Ok s) has

    by : (b : Bool) → error_of (refuse_if b StaleTick >>= λ _. Ok s) ≡ None → (refuse_if b StaleTick >>= λ _. Ok s) ≡ Ok s
    by true e = absurd (cc)
    by false e = refl

module _ (start map : History) (own : List OwnSession) (a : NewRequest) (s : Session) (session : session_by own a ≡ Ok s) where
  to_pool : asker_by start map own a ≡ (need (view_by start map a.pool) NoPool >>= λ view. Ok (record { session = s; view = view }))
  to_pool = ap (λ (r : Result Session Fault). r >>= λ t. need (view_by start map a.pool) NoPool >>= λ view. Ok (record { session = t; view = view })) session

  pub asker_seen : (view : PoolView) → view_by start map a.pool ≡ Some view → asker_by start map own a ≡ Ok (record { session = s; view = view })
  asker_seen view is = to_pool ∙ ap (λ (o : Option PoolView). need o NoPool >>= λ view. Ok (record { session = s; view = view })) is

  pub asker_unseen : view_by start map a.pool ≡ None → asker_by start map own a ≡ Err NoPool
  asker_unseen none = to_pool ∙ ap (λ (o : Option PoolView). need o NoPool >>= λ view. Ok (record { session = s; view = view })) none

pub request_as : (start map : History) (own : List OwnSession) (a : NewRequest) (object : List ℕ) (ops : List Op) (asker : Asker) → asker_by start map own a ≡ Ok asker → request_by start map own a object ops ≡ vector_by a asker object ops
request_as start map own a object ops who is = ap (λ (r : Result Asker Fault). r >>= λ k. vector_by a k object ops) is

pub no_request : (start map : History) (own : List OwnSession) (a : NewRequest) (object : List ℕ) (ops : List Op) (fault : Fault) → asker_by start map own a ≡ Err fault → request_by start map own a object ops ≡ Err fault
no_request start map own a object ops fault is = ap (λ (r : Result Asker Fault). r >>= λ k. vector_by a k object ops) is

-- ---- a vector, by a reading and a turn

module _ (c : Cluster) (a : NewRequest) (object : List ℕ) (ops : List Op) (old : Pass) (fine : error_of (session_by old.sessions.items a) ≡ None) where
  pub submit_unseen : (new : Pass) (s : Session) (fault : ClusterFault) → own_session old.sessions.items a.session ≡ Some s → IsUnseen c.start a.pool fault old new → SubmitFails c a object ops fault old new
  submit_unseen new s fault has (inl u) = inr ((s, session_given old.sessions.items a s fine has), inl u)
  submit_unseen new s fault has (inr u) = inr ((s, session_given old.sessions.items a s fine has), inr (u.0, new, u.1, by u.2))
    where
      by : (fault ≡ faults.OutOfMemory) ⊎ ((fault ≡ faults.World NoPool) × (view_by c.start u.0 a.pool ≡ None)) → IsRefusedBy c (request_by c.start u.0 old.sessions.items a object ops) fault new new
      by (inl memory) = subst (λ (f : ClusterFault). IsRefusedBy c (request_by c.start u.0 old.sessions.items a object ops) f new new) (sym memory) (memory_refuses c (request_by c.start u.0 old.sessions.items a object ops) new)
      by (inr none) = subst (λ (r : Result Sealed Fault). IsRefusedBy c r fault new new)
          (sym (no_request c.start u.0 old.sessions.items a object ops NoPool (asker_unseen c.start u.0 old.sessions.items a s (session_given old.sessions.items a s fine has) none.1))) (inl none.0, refl)

  module _ (mid new : Pass) (view : PoolView) (seen : HasSeen c.start a.pool view old mid) where
    was : (s : Session) → own_session mid.sessions.items a.session ≡ Some s → own_session old.sessions.items a.session ≡ Some s
    was s has = ap (λ v. own_session v.items a.session) (sym seen.read.sessions) ∙ has

    as_vector : (s : Session) → own_session mid.sessions.items a.session ≡ Some s → request_by c.start seen.map old.sessions.items a object ops ≡ vector_by a (record { session = s; view = view }) object ops
    as_vector s has = request_as c.start seen.map old.sessions.items a object ops (record { session = s; view = view })
        (asker_seen c.start seen.map old.sessions.items a s (session_given old.sessions.items a s fine (was s has)) view seen.is)

    pub submitted_by : (r : Result Submitted ClusterFault) → IfOk r (λ asked. IsVectorSubmitted c a view object ops asked mid new) → IfOk r (λ asked. IsSubmitted c a object ops asked old new)
    submitted_by r = ok_so (λ asked. IsVectorSubmitted c a view object ops asked mid new) (λ asked. IsSubmitted c a object ops asked old new) r (λ asked v. record {
      map = seen.map;
      mid = mid;
      read = seen.read;
      request = v.request;
      sealed = as_vector v.session v.has ∙ v.sealed;
      asks = v.asks;
    })

    pub unsubmitted_by : (r : Result Submitted ClusterFault) → IfErr r (λ fault. IsVectorRefused c a view object ops fault mid new) → IfErr r (λ fault. SubmitFails c a object ops fault old new)
    unsubmitted_by r = err_so (λ fault. IsVectorRefused c a view object ops fault mid new) (λ fault. SubmitFails c a object ops fault old new) r
        (λ fault v. inr ((v.session, session_given old.sessions.items a v.session fine (was v.session v.has)), inr (seen.map, mid, seen.read, subst (λ (k : Result Sealed Fault). IsRefusedBy c k fault mid new) (sym (as_vector v.session v.has)) v.fails)))
