-- A pass is a pass after a reading of the map, and what the map says of a pool.
use Rattle.std.proofs.Common.{◌≡◌, ◌∙◌, ◌⊎◌, inl, inr, ℕ, ◌==◌, ◌||◌, List, [], ◌∷◌, ◌++◌, Bool, true, false, Option, Some, None, is_some, cond, refl, sym, ap, subst, arith}
use Rattle.std.specs.Prelude.{Result, Ok, Err, MatchOption, if◌then◌else◌, not, nat_lt}
use Rattle.std.specs.List.{find}
use Rattle.map_core.specs.State.{History, GoesOn}
use Rattle.map_core.specs.Map.{is_named, map_of, epoch_of, pool_in, view_at}
use Rattle.map_core.specs.Refusal.{has_pool, is_word, view_refusal}
use Rattle.map_core.specs.PoolLimits.{HasLimits}
use Rattle.map_core.specs.declared.pool.Pool.{Pool}
use Rattle.map_core.specs.declared.pool.PoolView.{PoolView}
use Rattle.map_core.specs.declared.fault.MapFault.{MapFault}
use Rattle.map_core.specs.declared.fault.MapFault.TheVariants as map_fault
use Rattle.map_core.proofs.Acceptance.{all_fail, not_false}
use Rattle.map_core.proofs.Kept.{views_are_of_pools}
use Rattle.world_events.specs.declared.fault.WorldFault.{WorldFault as Fault}
use Rattle.world_front.specs.ControlPlane.{need, error_of}
use Rattle.world_front.specs.Refusing.{fault_of_view as world_fault}
use Rattle.world_events.specs.declared.fault.WorldFault.TheVariants.{NoPool, OutOfMemory}
use Rattle.world_front.proofs.Bytes.{bytes_same}
use Rattle.world_front.proofs.Pools.{InMap, in_later}
use Rattle.world_front.proofs.Views.{view_refused}
use Rattle.cluster.specs.declared.cluster.Cluster.{Cluster}
use Rattle.cluster.specs.declared.fault.ClusterFault.TheVariants as faults
use Rattle.cluster.specs.declared.pass.Pass.{Pass}
use Rattle.published_map.specs.declared.published.Knowledge.{Knowledge}
use Rattle.published_map.specs.Answers.{SaysOf}
use Rattle.published_map.specs.Published.{Covers, GoesOnFrom, Sees, AnswersBy}
use Rattle.cluster.specs.Asks.{known_by, IsPassOf}
use Rattle.cluster.specs.Pools.{KnowsTheSame, view_by, IsPoolOf, HasSeen, IsUnseen}
use Rattle.cluster.specs.ToAsk.{fault_of_view, HasAnswered}
use Rattle.published_map.proofs.Grows.{goes_on_through}

-- ---- the pass

abbrev StartsAt : Cluster → Knowledge → Type 0
StartsAt c v = (map : History) → Covers map v → GoesOn map c.start

-- what was read goes on from the start
on_from : (c : Cluster) (v w : Knowledge) (map : History) → StartsAt c v → Sees map v w → GoesOn map c.start
on_from c v w map since sees = since map (sees.0, sees.1)

since_after : (c : Cluster) (v w : Knowledge) (map : History) → StartsAt c v → Sees map v w → StartsAt c w
since_after c v w map since sees m covers =
    let on : GoesOn m map = subst (GoesOnFrom m) sees.2 covers.0 in
    goes_on_through m map c.start on (on_from c v w map since sees)

since_read : {A : Type 0} → (c : Cluster) (P : History → A → Type 0) (answer : Option A) (v w : Knowledge) → StartsAt c v → AnswersBy P answer v w → StartsAt c w
since_read c P None v w since same = subst (StartsAt c) (sym same) since
since_read c P (Some a) v w since answers = since_after c v w answers.0 since answers.2

module _ (c : Cluster) (old new : Pass) (pass : IsPassOf c old) (seats : new.seats ≡ old.seats) (sessions : new.sessions ≡ old.sessions) {A : Type 0} (P : History → A → Type 0) (answer : Option A)
    (answers : AnswersBy P answer (known_by old) (known_by new)) where
  -- reader and knowledge change, and nothing else
  pub read_pass : IsPassOf c new
  read_pass =
      let is : IsPassOf c (record old { reader = new.reader }) = record {
        begun = pass.begun;
        seats = pass.seats;
        made = pass.made;
        since = since_read c P answer (known_by old) (known_by new) pass.since answers;
        asks = pass.asks;
      } in
      subst (IsPassOf c) (λ i. record { seats = sym seats i; reader = new.reader; sessions = sym sessions i }) is

-- ---- what the map says of a pool

pub has_answered : (c : Cluster) (pool : List ℕ) (old new : Pass) (answer : Option (Result PoolView MapFault)) → IsPassOf c old → new.seats ≡ old.seats → new.sessions ≡ old.sessions → AnswersBy (SaysOf pool) answer (known_by old) (known_by new)
    → MatchOption answer (KnowsTheSame old new) (λ a. HasAnswered c.start pool a old new)
has_answered c pool old new None pass seats sessions same = record { known = same; seats = seats; sessions = sessions }
has_answered c pool old new (Some a) pass seats sessions answers = record {
  map = answers.0;
  read = record { sees = answers.2; seats = seats; sessions = sessions };
  on = on_from c (known_by old) (known_by new) answers.0 pass.since answers.2;
  accepted = answers.1.0;
  refused = answers.1.1;
  found = answers.1.2;
}

-- ---- pools of the start

found_name : (name : List ℕ) (pools : List Pool) (x : Pool) → pool_in pools name ≡ Some x → x.name ≡ name
unfolding pool_in
found_name name pools x e = go pools e
  where
    go : (ps : List Pool) → find (is_named name) ps ≡ Some x → x.name ≡ name
    go [] e = absurd (cc)
    go (p ∷ ps) e = by (is_named name p) refl e (go ps)
      where
        by : (b : Bool) → is_named name p ≡ b → cond b (Some p) (find (is_named name) ps) ≡ Some x → (find (is_named name) ps ≡ Some x → x.name ≡ name) → x.name ≡ name
        by true is e rest = let same : p ≡ x = cc in ap (λ (q : Pool). q.name) (sym same) ∙ bytes_same p.name name is
        by false is e rest = rest e

-- a pool that is there has some number of groups
pub there_with : (h : History) (name : List ℕ) → has_pool (map_of h).pools name ≡ true → (groups : ℕ) × InMap h name groups
there_with h name has = go (pool_in (map_of h).pools name) refl has
  where
    go : (o : Option Pool) → pool_in (map_of h).pools name ≡ o → is_some o ≡ true → (groups : ℕ) × InMap h name groups
    go None e some = absurd (cc)
    go (Some p) e some = (p.pg_num, record { size = p.size; min_size = p.min_size; is = record { pool = p; found = e; named = found_name name (map_of h).pools p e; groups = refl; daemons = refl; needed = refl } })

-- it has one
one_count : (h : History) (name : List ℕ) (m n : ℕ) → InMap h name m → InMap h name n → m ≡ n
one_count h name m n a b =
    let both : Some a.is.pool ≡ Some b.is.pool = sym a.is.found ∙ b.is.found in
    let same : a.is.pool ≡ b.is.pool = cc in
    sym a.is.groups ∙ (ap (λ (p : Pool). p.pg_num) same ∙ b.is.groups)

in_on : (start map : History) (name : List ℕ) (groups : ℕ) → GoesOn map start → InMap start name groups → InMap map name groups
in_on start map name groups on h =
    let is : record start { commands = start.commands ++ on.1.0 } ≡ map = λ i. record { daemons = sym on.0 i; commands = sym on.1.1 i } in
    subst (λ (m : History). InMap m name groups) is (in_later start on.1.0 name groups h)

seen_word : (map : History) (pool : List ℕ) (epoch : ℕ) → view_refusal map pool epoch ≡ None → is_word pool ≡ true
seen_word map pool epoch none = not_false (is_word pool) (all_fail (
    (not (is_word pool), map_fault.BadName)
    ∷ (epoch == 0 || nat_lt (epoch_of map) epoch, map_fault.NoEpoch)
    ∷ (not (is_some (view_at map pool epoch)), map_fault.NoPool) ∷ []) none).0

pub pool_of_start : (start map : History) (pool : List ℕ) (view : PoolView) → GoesOn map start → has_pool (map_of start).pools pool ≡ true → view_refusal map pool (epoch_of map) ≡ None
    → view_at map pool (epoch_of map) ≡ Some view → HasLimits view.pg_num view.size view.min_size → IsPoolOf start pool view
pool_of_start start map pool view on has none seen limits =
    let t = there_with start pool has in
    let of_pools = views_are_of_pools map pool (epoch_of map) view seen in
    let now : InMap map pool view.pg_num = record { size = view.size; min_size = view.min_size; is = of_pools.1 } in
    let same : t.0 ≡ view.pg_num = one_count map pool t.0 view.pg_num (in_on start map pool t.0 on t.1) now in record {
      named = of_pools.0;
      word = seen_word map pool (epoch_of map) none;
      there = subst (λ (name : List ℕ). InMap start name view.pg_num) (sym of_pools.0) (subst (InMap start pool) same t.1);
      limits = limits;
    }

-- ---- what is seen of a pool

module _ (start : History) (pool : List ℕ) (old new : Pass) where
  pub pool_seen : (view : PoolView) → HasAnswered start pool (Ok view) old new → has_pool (map_of start).pools pool ≡ true → HasSeen start pool view old new
  pool_seen view a has = record {
    map = a.map;
    read = a.read;
    is = ap (λ b. if b then view_at a.map pool (epoch_of a.map) else None) has ∙ a.found.0;
    pool_is = pool_of_start start a.map pool view a.on has a.refused a.found.0 a.found.1;
  }

  pub pool_left_out : (view : PoolView) → HasAnswered start pool (Ok view) old new → has_pool (map_of start).pools pool ≡ false → IsUnseen start pool (faults.World NoPool) old new
  pool_left_out view a has = inr (a.map, a.read, inr (refl, ap (λ b. if b then view_at a.map pool (epoch_of a.map) else None) has))

  pub pool_refused : (fault : MapFault) → HasAnswered start pool (Err fault) old new → IsUnseen start pool (fault_of_view fault) old new
  pool_refused fault a = inr (a.map, a.read, by fault (view_refused a.map pool (epoch_of a.map) fault a.accepted (omega arith) a.refused))
    where
      none_by : (b : Bool) → view_at a.map pool (epoch_of a.map) ≡ None → (if b then view_at a.map pool (epoch_of a.map) else None) ≡ None
      none_by true none = none
      none_by false none = refl

      wanting : (o : Option PoolView) → o ≡ view_at a.map pool (epoch_of a.map) → error_of (need o NoPool) ≡ Some NoPool → view_by start a.map pool ≡ None
      wanting None is e = none_by (has_pool (map_of start).pools pool) (sym is)
      wanting (Some v) is e = absurd (cc)

      missing : (seen : Fault) → seen ≡ NoPool → (seen ≡ OutOfMemory) ⊎ (error_of (need (view_at a.map pool (epoch_of a.map)) NoPool) ≡ Some seen) → view_by start a.map pool ≡ None
      missing seen is (inl memory) = absurd (let both : NoPool ≡ OutOfMemory = sym is ∙ memory in cc)
      missing seen is (inr refused) = wanting (view_at a.map pool (epoch_of a.map)) refl (refused ∙ ap (λ (f : Fault). Some f) is)

      by : (f : MapFault) → (world_fault f ≡ OutOfMemory) ⊎ (error_of (need (view_at a.map pool (epoch_of a.map)) NoPool) ≡ Some (world_fault f)) → (fault_of_view f ≡ faults.OutOfMemory) ⊎ ((fault_of_view f ≡ faults.World NoPool) × (view_by start a.map pool ≡ None))
      by map_fault.OutOfMemory e = inl refl
      by map_fault.PoolExists e = inr (refl, missing NoPool refl e)
      by map_fault.NoPool e = inr (refl, missing NoPool refl e)
      by map_fault.NoApplication e = inr (refl, missing NoPool refl e)
      by map_fault.NoKey e = inr (refl, missing NoPool refl e)
      by map_fault.NoDaemon e = inr (refl, missing NoPool refl e)
      by map_fault.AlreadySo e = inr (refl, missing NoPool refl e)
      by map_fault.Limit e = inr (refl, missing NoPool refl e)
      by map_fault.BadName e = inr (refl, missing NoPool refl e)
      by map_fault.NoGroup e = inr (refl, missing NoPool refl e)
      by map_fault.NoEpoch e = inr (refl, missing NoPool refl e)
