-- The pieces of a list, one after another.
use Rattle.std.proofs.Common.{◌≡◌, ◌∙◌, ◌⊎◌, inl, inr, ℕ, ◌+◌, ◌<◌, List, [], ◌∷◌, ◌++◌, true, false, Some, None, length, map, refl, sym, ap, subst, arith, add-zero}
use Rattle.std.specs.Prelude.{Result, Ok, Err, IfOk, IfErr, not}
use Rattle.std.specs.List.{range_with_len}
use Rattle.map_core.specs.State.{History}
use Rattle.map_core.specs.declared.pool.PoolView.{PoolView}
use Rattle.store_core.specs.Request.{Sealed}
use Rattle.world_front.specs.ControlPlane.{◌>>=◌, refuse_if, error_of, id_of, Asker, is_namespace, asks_more}
use Rattle.world_front.specs.Stands.{next_in}
use Rattle.world_events.specs.declared.event.Ask.{Ask}
use Rattle.world_events.specs.declared.fault.WorldFault.{WorldFault as Fault}
use Rattle.world_events.specs.declared.fault.WorldFault.TheVariants.{NoPool, BadObjectName}
use Rattle.world_front.specs.declared.session.Session.{Session}
use Rattle.cluster.specs.declared.asking.NewRequest.{NewRequest}
use Rattle.cluster.specs.declared.asking.Submitted.{Submitted}
use Rattle.cluster.specs.declared.cluster.Cluster.{Cluster}
use Rattle.cluster.specs.declared.fault.ClusterFault.{ClusterFault}
use Rattle.cluster.specs.declared.fault.ClusterFault.TheVariants as faults
use Rattle.cluster.specs.declared.pass.OwnSession.{OwnSession}
use Rattle.cluster.specs.declared.pass.Pass.{Pass}
use Rattle.cluster.specs.Sessions.{own_session, next_of}
use Rattle.cluster.specs.Pools.{view_by, HasSeen, IsUnseen}
use Rattle.cluster.specs.Asking.{ask_by, session_by, asker_by, pool_by, piece_of, own_place, numbered_from, HasSubmitted, IsNotSubmitted, IsPiece, IsNoPiece, ArePieces, IsCutShort, IsListed, IsUnlistedBy, ListFails}
use Rattle.cluster.proofs.OwnSessions.{place_stays, one_given}
use Rattle.cluster.proofs.Vectors.{ok_so, err_so, session_given, asker_seen, asker_unseen}

-- ---- one piece

module _ (c : Cluster) (ask : Ask) (view : PoolView) (group : ℕ) (session : Session) (old new : Pass) (has : own_session old.sessions.items ask.session ≡ Some session) (request : Sealed)
    (seals : request ≡ piece_of ask (record { session = session; view = view }) group) (r : Result Submitted ClusterFault) where
  pub piece_asked : IfOk r (λ asked. HasSubmitted c ask request asked old new) → IfOk r (λ asked. IsPiece c ask view group asked old new)
  piece_asked = ok_so (λ asked. HasSubmitted c ask request asked old new) (λ asked. IsPiece c ask view group asked old new) r (λ asked h. record {
    session = session;
    has = has;
    asks = subst (λ (s : Sealed). HasSubmitted c ask s asked old new) seals h;
  })

  pub piece_refused : IfErr r (λ fault. IsNotSubmitted c request fault old new) → IfErr r (λ fault. IsNoPiece c ask view group fault old new)
  piece_refused = err_so (λ fault. IsNotSubmitted c request fault old new) (λ fault. IsNoPiece c ask view group fault old new) r (λ fault h. (session, has, subst (λ (s : Sealed). IsNotSubmitted c s fault old new) seals h))

-- the session stands where it stood
pub place_after : (c : Cluster) (ask : Ask) (k : ℕ) (request : Sealed) (old new : Pass) (r : Result Submitted ClusterFault) → own_place old.sessions.items ask.session ≡ Some k → IfOk r (λ asked. HasSubmitted c ask request asked old new)
    → IfErr r (λ fault. IsNotSubmitted c request fault old new) → own_place new.sessions.items ask.session ≡ Some k
place_after c ask k request old new (Ok asked) place h f = subst (λ (l : List OwnSession). own_place l ask.session ≡ Some k) (sym h.sessions) (place_stays old.sessions.items ask.session k (asks_more ask 1) place)
place_after c ask k request old new (Err fault) place h (inl e) = subst (λ (p : Pass). own_place p.sessions.items ask.session ≡ Some k) (sym e.1) place
place_after c ask k request old new (Err fault) place h (inr e) = subst (λ v. own_place v.items ask.session ≡ Some k) (sym e.turns.sessions) place

-- ---- pieces

module _ (c : Cluster) (ask : Ask) (view : PoolView) where
  pub pieces_more : (n : ℕ) (xs : List Submitted) (x : Submitted) (m : ℕ) (old mid new : Pass) → n + length xs ≡ m → ArePieces c ask view n xs old mid → IsPiece c ask view m x mid new → ArePieces c ask view n (xs ++ x ∷ []) old new
  pieces_more n [] x m old mid new count h p =
      let same : m ≡ n = sym count ∙ add-zero n in
      (new, subst (λ (k : ℕ). IsPiece c ask view k x old new) same (subst (λ (q : Pass). IsPiece c ask view m x q new) h p), refl)
  pieces_more n (y ∷ ys) x m old mid new count h p = (h.0, h.1, pieces_more (n + 1) ys x m h.0 mid new (omega arith) h.2 p)

  pub cut_short : (xs : List Submitted) (n : ℕ) (fault : ClusterFault) (old at new : Pass) → length xs ≡ n → n < view.pg_num → ArePieces c ask view 0 xs old at → IsNoPiece c ask view n fault at new → IsCutShort c ask view fault old new
  cut_short xs n fault old at new count below pieces fails = record {
    before = xs;
    at = at;
    pieces = pieces;
    fewer = subst (λ (k : ℕ). k < view.pg_num) (sym count) below;
    fails = subst (λ (k : ℕ). IsNoPiece c ask view k fault at new) (sym count) fails;
  }

-- ---- what a list answers for its pieces

abbrev told_at : (session first : ℕ) → List ℕ → ℕ → Submitted
told_at session first pool n = record { id = id_of session (first + n); group = record { pool = pool; number = n } }

pieces_told : (c : Cluster) (ask : Ask) (view : PoolView) (first n : ℕ) (xs : List Submitted) (old new : Pass) → next_of old.sessions.items ask.session ≡ first + n → ArePieces c ask view n xs old new
    → xs ≡ map (told_at ask.session first view.pool) (range_with_len n (length xs))
pieces_told c ask view first n [] old new next h = refl
pieces_told c ask view first n (x ∷ xs) old new next h =
    let p = h.1 in
    let s : Session = p.session in
    let here : s.next + 0 ≡ first + n = add-zero s.next ∙ (sym (ap next_in p.has) ∙ next) in
    let is : x ≡ told_at ask.session first view.pool n = p.asks.told ∙ ap (λ (k : ℕ). record { id = id_of ask.session k; group = record { pool = view.pool; number = n } }) here in
    let later : next_of h.0.sessions.items ask.session ≡ next_of old.sessions.items ask.session + 1 =
    ap (λ (l : List OwnSession). next_of l ask.session) p.asks.sessions ∙ one_given old.sessions.items ask.session (asks_more ask 1) s p.has refl in
    let on : next_of h.0.sessions.items ask.session ≡ first + (n + 1) = omega arith in
    λ i. is i ∷ pieces_told c ask view first (n + 1) xs h.0 new on h.2 i

-- ---- by the map that was read

pub pool_as : (start map : History) (own : List OwnSession) (a : NewRequest) (who : Asker) → asker_by start map own a ≡ Ok who → is_namespace a.namespace ≡ true → pool_by start map own a ≡ Ok who.view
pool_as start map own a who is good =
    ap (λ (r : Result Asker Fault). r >>= λ k. refuse_if (not (is_namespace a.namespace)) BadObjectName >>= λ _. Ok k.view) is ∙ ap (λ b. refuse_if (not b) BadObjectName >>= λ _. Ok who.view) good

pub pool_unnamed : (start map : History) (own : List OwnSession) (a : NewRequest) (who : Asker) → asker_by start map own a ≡ Ok who → is_namespace a.namespace ≡ false → pool_by start map own a ≡ Err BadObjectName
pool_unnamed start map own a who is bad =
    ap (λ (r : Result Asker Fault). r >>= λ k. refuse_if (not (is_namespace a.namespace)) BadObjectName >>= λ _. Ok k.view) is ∙ ap (λ b. refuse_if (not b) BadObjectName >>= λ _. Ok who.view) bad

pub no_pool : (start map : History) (own : List OwnSession) (a : NewRequest) (fault : Fault) → asker_by start map own a ≡ Err fault → pool_by start map own a ≡ Err fault
no_pool start map own a fault is = ap (λ (r : Result Asker Fault). r >>= λ k. refuse_if (not (is_namespace a.namespace)) BadObjectName >>= λ _. Ok k.view) is

memory_unlists : (c : Cluster) (a : NewRequest) (r : Result PoolView Fault) (p : Pass) → IsUnlistedBy c a r faults.OutOfMemory p p
memory_unlists c a (Ok view) p = inl (refl, refl)
memory_unlists c a (Err why) p = (inr refl, refl)

-- ---- a list, by a reading and turns

module _ (c : Cluster) (a : NewRequest) (old : Pass) (fine : error_of (session_by old.sessions.items a) ≡ None) (s : Session) (has : own_session old.sessions.items a.session ≡ Some s) where
  given : session_by old.sessions.items a ≡ Ok s
  given = session_given old.sessions.items a s fine has

  pub list_unseen : (new : Pass) (fault : ClusterFault) → IsUnseen c.start a.pool fault old new → ListFails c a fault old new
  list_unseen new fault (inl u) = inr ((s, given), inl u)
  list_unseen new fault (inr u) = inr ((s, given), inr (u.0, new, u.1, by u.2))
    where
      by : (fault ≡ faults.OutOfMemory) ⊎ ((fault ≡ faults.World NoPool) × (view_by c.start u.0 a.pool ≡ None)) → IsUnlistedBy c a (pool_by c.start u.0 old.sessions.items a) fault new new
      by (inl memory) = subst (λ (f : ClusterFault). IsUnlistedBy c a (pool_by c.start u.0 old.sessions.items a) f new new) (sym memory) (memory_unlists c a (pool_by c.start u.0 old.sessions.items a) new)
      by (inr none) = subst (λ (r : Result PoolView Fault). IsUnlistedBy c a r fault new new) (sym (no_pool c.start u.0 old.sessions.items a NoPool (asker_unseen c.start u.0 old.sessions.items a s given none.1))) (inl none.0, refl)

  module _ (mid : Pass) (view : PoolView) (seen : HasSeen c.start a.pool view old mid) where
    asks : asker_by c.start seen.map old.sessions.items a ≡ Ok (record { session = s; view = view })
    asks = asker_seen c.start seen.map old.sessions.items a s given view seen.is

    pub list_unnamed : is_namespace a.namespace ≡ false → ListFails c a (faults.World BadObjectName) old mid
    list_unnamed bad = inr (
      (s, given),
      inr (
        seen.map,
        mid,
        seen.read,
        subst (λ (r : Result PoolView Fault). IsUnlistedBy c a r (faults.World BadObjectName) mid mid) (sym (pool_unnamed c.start seen.map old.sessions.items a (record { session = s; view = view }) asks bad)) (inl refl, refl),
      ),
    )

    module _ (new : Pass) (ask : Ask) (good : is_namespace a.namespace ≡ true) (is : ask ≡ ask_by a view) where
      pool : pool_by c.start seen.map old.sessions.items a ≡ Ok view
      pool = pool_as c.start seen.map old.sessions.items a (record { session = s; view = view }) asks good

      pub listed_by : (all : List Submitted) → ArePieces c ask view 0 all mid new × (length all ≡ view.pg_num) → IsListed c a all old new
      listed_by all h = record {
        map = seen.map;
        mid = mid;
        read = seen.read;
        view = view;
        is = pool;
        pieces = subst (λ (k : Ask). ArePieces c k view 0 all mid new) is h.0;
        every = h.1;
      }

      pub told_by : (all : List Submitted) → ArePieces c ask view 0 all mid new × (length all ≡ view.pg_num) → all ≡ numbered_from a.session (next_of old.sessions.items a.session) a.pool (length all)
      told_by all h =
          let next : next_of mid.sessions.items (ask_by a view).session ≡ next_of old.sessions.items a.session + 0 = ap (λ v. next_of v.items a.session) seen.read.sessions ∙ sym (add-zero (next_of old.sessions.items a.session)) in
          pieces_told c (ask_by a view) view (next_of old.sessions.items a.session) 0 all mid new next (subst (λ (k : Ask). ArePieces c k view 0 all mid new) is h.0)
          ∙ ap (λ (pool : List ℕ). numbered_from a.session (next_of old.sessions.items a.session) pool (length all)) seen.pool_is.named

      pub unlisted_by : (fault : ClusterFault) → IsCutShort c ask view fault mid new → ListFails c a fault old new
      unlisted_by fault h = inr ((s, given), inr (seen.map, mid, seen.read, subst (λ (r : Result PoolView Fault). IsUnlistedBy c a r fault mid new) (sym pool) (inr (subst (λ (k : Ask). IsCutShort c k view fault mid new) is h))))
