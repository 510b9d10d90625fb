-- A group that the map has, it has after each event.
use Rattle.std.proofs.Common.{◌≡◌, ◌∙◌, ℕ, List, [], ◌∷◌, Bool, true, false, not, cond, Option, Some, None, is_some, refl, sym, ap}
use Rattle.std.specs.Prelude.{nat_le}
use Rattle.std.specs.List.{find}
use Rattle.std.specs.Option.{option_map, option_map_or}
use Rattle.store_core.specs.declared.sealed.GroupId.{GroupId}
use Rattle.map_core.specs.State.{History}
use Rattle.map_core.specs.Map.{is_named, map_of, pool_in}
use Rattle.map_core.specs.Refusal.{first_of, acting_refusal, groups_in, is_word}
use Rattle.map_core.specs.declared.fault.MapFault.{MapFault}
use Rattle.map_core.specs.declared.fault.MapFault.TheVariants as fault
use Rattle.map_core.specs.declared.pool.Pool.{Pool}
use Rattle.map_core.specs.declared.command.MapCommand.{MapCommand}
use Rattle.map_core.specs.Laws.{HasPool, later}
use Rattle.map_core.proofs.Kept.{pools_stay}
use Rattle.world_events.specs.declared.event.Event.{Event}
use Rattle.world_events.specs.declared.event.Event.TheVariants.{Auth, Map, Open, Renew, Close, Submit, List as ListNames, Deliver, Lose, Repeat, Kick}
use Rattle.world_events.specs.declared.fault.WorldFault.TheVariants.{Map as OfMap}
use Rattle.world_front.specs.ControlPlane.{ControlPlane, front_step, group_refusal}
use Rattle.world_front.proofs.Bytes.{bytes_same}

-- the pool that is found has the name
named_so : (name : List ℕ) (pools : List Pool) (p : Pool) → find (is_named name) pools ≡ Some p → p.name ≡ name
named_so name [] p h = absurd (cc)
named_so name (q ∷ qs) p h = go (is_named name q) refl h (λ k. named_so name qs p k)
  where
    go : (b : Bool) → is_named name q ≡ b → cond b (Some q) (find (is_named name) qs) ≡ Some p → (find (is_named name) qs ≡ Some p → p.name ≡ name) → p.name ≡ name
    go true e k rest = let same : q ≡ p = cc in ap (λ (r : Pool). r.name) (sym same) ∙ bytes_same q.name name e
    go false e k rest = rest k

-- the tests of a group, by the pool that is found
by_pool : List ℕ → Option Pool → ℕ → Option MapFault
by_pool name found group = first_of (
    (not (is_word name), fault.BadName)
    ∷ (not (is_some found), fault.NoPool)
    ∷ (nat_le (option_map_or (λ (p : Pool). p.pg_num) found 0) group, fault.NoGroup) ∷ [])

tested : (h : History) (name : List ℕ) (group : ℕ) → acting_refusal h name group ≡ by_pool name (pool_in (map_of h).pools name) group
unfolding by_pool groups_in
tested h name group = refl

nobody : (name : List ℕ) (group : ℕ) → by_pool name None group ≡ None → ⊥
unfolding by_pool
nobody name group none = go (not (is_word name)) (nat_le (option_map_or (λ (p : Pool). p.pg_num) None 0) group) none
  where
    go : (a c : Bool) → first_of ((a, fault.BadName) ∷ (true, fault.NoPool) ∷ (c, fault.NoGroup) ∷ []) ≡ None → ⊥
    go true c k = absurd (cc)
    go false c k = absurd (cc)

-- a pool with as many groups is as good
as_good : (name : List ℕ) (group : ℕ) (p q : Pool) → q.pg_num ≡ p.pg_num → by_pool name (Some p) group ≡ None → by_pool name (Some q) group ≡ None
unfolding by_pool
as_good name group p q same none =
    ap (λ n. first_of ((not (is_word name), fault.BadName) ∷ (false, fault.NoPool) ∷ (nat_le n group, fault.NoGroup) ∷ [])) same ∙ none

map_goes_on : (h : History) (c : MapCommand) (name : List ℕ) (group : ℕ) → acting_refusal h name group ≡ None → acting_refusal (later h (c ∷ [])) name group ≡ None
unfolding pool_in
map_goes_on h c name group none = go (pool_in (map_of h).pools name) refl (sym (tested h name group) ∙ none)
  where
    go : (found : Option Pool) → pool_in (map_of h).pools name ≡ found → by_pool name found group ≡ None → acting_refusal (later h (c ∷ [])) name group ≡ None
    go None e k = absurd (nobody name group k)
    go (Some p) e k =
        let had : HasPool h name p.pg_num p.size p.min_size = record { pool = p; found = e; named = named_so name (map_of h).pools p e; groups = refl; daemons = refl; needed = refl } in
        let has : HasPool (later h (c ∷ [])) name p.pg_num p.size p.min_size = pools_stay h (c ∷ []) name p.pg_num p.size p.min_size had in
        tested (later h (c ∷ [])) name group ∙ ap (λ o. by_pool name o group) has.found ∙ as_good name group p has.pool has.groups k

unmapped : (o : Option MapFault) → option_map OfMap o ≡ None → o ≡ None
unmapped None e = refl
unmapped (Some x) e = absurd (cc)

pub goes_on : (f : ControlPlane) (e : Event) (id : GroupId) → group_refusal f id ≡ None → group_refusal (front_step f e) id ≡ None
goes_on f (Map c) id none = ap (option_map OfMap) (map_goes_on f.history c id.pool id.number (unmapped (acting_refusal f.history id.pool id.number) none))
goes_on f (Auth command) id none = none
goes_on f (Open entity until) id none = none
goes_on f (Renew session until) id none = none
goes_on f (Close session) id none = none
goes_on f (Submit ask object ops) id none = none
goes_on f (ListNames ask) id none = none
goes_on f (Deliver group k) id none = none
goes_on f (Lose group k) id none = none
goes_on f (Repeat group k) id none = none
goes_on f (Kick group) id none = none
