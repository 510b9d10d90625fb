-- The groups after all parts of an event: each part reaches one group, and a move reaches each group once.
use Prim.Native.Nat.{zero, suc}
use Rattle.std.proofs.Common.{◌≡◌, ◌∙◌, ℕ, ◌+◌, ◌<◌, ◌==◌, ◌&&◌, List, [], ◌∷◌, ◌++◌, Bool, true, false, cond, if◌then◌else◌, Some, None, map, refl, sym, ap, subst, arith}
use Rattle.std.specs.List.{flat_map, range_with_len, find}
use Rattle.std.specs.Option.{option_or}
use Rattle.std.specs.Str.{bytes_eq}
use Rattle.map_core.specs.State.{MapState, History}
use Rattle.map_core.specs.Map.{is_named, map_of}
use Rattle.map_core.specs.Limits.{IsAccepted}
use Rattle.map_core.specs.declared.pool.Pool.{Pool}
use Rattle.map_core.specs.declared.command.MapCommand.{MapCommand}
use Rattle.map_core.specs.declared.command.MapCommand.TheVariants.{PoolCreate, AppEnable, AppSet, AppRm, OsdUp, OsdDown, OsdRestart}
use Rattle.map_core.proofs.Kept.{pools_differ}
use Rattle.store_core.specs.declared.sealed.GroupId.{GroupId}
use Rattle.group_model_whole.specs.Each.{Each}
use Rattle.group_model.specs.Group.{Group, group_step, refusal_of}
use Rattle.group_model.specs.Group as group
use Rattle.world_front.specs.Groups.{is_same_group, groups_of}
use Rattle.world_core.specs.World.{Part, part, group_at, at_group, map_parts, parts_of, created_by, refused_in, part_refusal, parts_refusal}
use Rattle.world_events.specs.declared.event.Event.TheVariants.{Map}
use Rattle.world_front.specs.ControlPlane.{ControlPlane}
use Rattle.world_core.specs.Moves.{stepped, stepped_by, moves_groups, move_of, all_moved, first_refusal}
use Rattle.world_front.proofs.Bytes.{number_same}
use Rattle.world_front.proofs.Merge.{group_refl}
use Rattle.world_core.proofs.Standing.{step_is}
use Rattle.world_core.proofs.Acting.{each_join}
use Rattle.world_front.proofs.Places.{numbered, true_not_false, group_turned, bytes_turned, NamedOnce}
use Rattle.world_core.proofs.Limits.{named_once}

-- ---- no two places are one

abbrev Apart : GroupId → List GroupId → Type 0
Apart id ids = Each (λ other. is_same_group id other ≡ false) ids

abbrev pub Distinct : List GroupId → Type 0
Distinct [] = Unit {0}
Distinct (id ∷ ids) = Apart id ids × Distinct ids

distinct_join : (xs ys : List GroupId) → Distinct xs → Distinct ys → Each (λ x. Apart x ys) xs → Distinct (xs ++ ys)
distinct_join [] ys d e apart = e
distinct_join (x ∷ xs) ys d e apart = (each_join (λ other. is_same_group x other ≡ false) xs ys d.0 apart.0, distinct_join xs ys d.1 e apart.1)

and_false : (a b : Bool) → b ≡ false → (a && b) ≡ false
and_false true b h = h
and_false false b h = refl

number_apart : (a b : ℕ) → a < b → (a == b) ≡ false
number_apart a b less = go (a == b) refl
  where
    go : (c : Bool) → (a == b) ≡ c → c ≡ false
    go false e = refl
    go true e = absurd (let same : a ≡ b = number_same a b e in omega arith)

numbers_apart : (pool : List ℕ) (a k n : ℕ) → a < k → Apart (numbered pool a) (map (numbered pool) (range_with_len k n))
numbers_apart pool a k zero less = tt
numbers_apart pool a k (suc n) less = (and_false (bytes_eq pool pool) (a == k) (number_apart a k less), numbers_apart pool a (k + 1) n (omega arith))

one_pool : (pool : List ℕ) (k n : ℕ) → Distinct (map (numbered pool) (range_with_len k n))
one_pool pool k zero = tt
one_pool pool k (suc n) = (numbers_apart pool k (k + 1) n (omega arith), one_pool pool (k + 1) n)

-- a place of another pool than these
other_numbers : (id : GroupId) (pool : List ℕ) (ns : List ℕ) → bytes_eq id.pool pool ≡ false → Apart id (map (numbered pool) ns)
other_numbers id pool [] apart = tt
other_numbers id pool (n ∷ ns) apart = (ap (λ b. b && (id.number == n)) apart, other_numbers id pool ns apart)

other_pools : (id : GroupId) (ps : List Pool) → find (is_named id.pool) ps ≡ None → Apart id (flat_map groups_of ps)
other_pools id [] none = tt
other_pools id (p ∷ ps) none = go (is_named id.pool p) refl none (λ k. other_pools id ps k)
  where
    go : (b : Bool) → is_named id.pool p ≡ b → cond b (Some p) (find (is_named id.pool) ps) ≡ None → (find (is_named id.pool) ps ≡ None → Apart id (flat_map groups_of ps)) → Apart id (groups_of p ++ flat_map groups_of ps)
    go true is one more = absurd (cc)
    go false is rest more =
        each_join (λ other. is_same_group id other ≡ false) (groups_of p) (flat_map groups_of ps) (other_numbers id p.name (range_with_len 0 p.pg_num) (bytes_turned p.name id.pool is)) (more rest)

all_other : (pool : List ℕ) (ns : List ℕ) (ps : List Pool) → find (is_named pool) ps ≡ None → Each (λ x. Apart x (flat_map groups_of ps)) (map (numbered pool) ns)
all_other pool [] ps none = tt
all_other pool (n ∷ ns) ps none = (other_pools (numbered pool n) ps none, all_other pool ns ps none)

pools_distinct : (ps : List Pool) → NamedOnce ps → Distinct (flat_map groups_of ps)
pools_distinct [] once = tt
pools_distinct (p ∷ ps) once =
    distinct_join (groups_of p) (flat_map groups_of ps) (one_pool p.name 0 p.pg_num) (pools_distinct ps once.1) (all_other p.name (range_with_len 0 p.pg_num) ps once.0)

pub places_distinct : (history : History) → IsAccepted history → Distinct (flat_map groups_of (map_of history).pools)
places_distinct history accepted = pools_distinct (map_of history).pools (named_once (map_of history).pools (pools_differ history accepted))

-- ---- a part of each place, and a group at each

abbrev parts_for : (GroupId → group.Event) → List Group → List Part
parts_for event groups = map (λ id. part id (event id)) (map (λ g. g.group) groups)

abbrev NotFor : Group → List Part → Type 0
NotFor g ps = Each (λ p. is_same_group p.id g.group ≡ false) ps

not_for : (event : GroupId → group.Event) (g : Group) (gs : List Group) → Apart g.group (map (λ h. h.group) gs) → NotFor g (parts_for event gs)
not_for event g [] apart = tt
not_for event g (h ∷ hs) apart = (group_turned h.group g.group ∙ apart.0, not_for event g hs apart.1)

past : (g : Group) (gs : List Group) (ps : List Part) → NotFor g ps → stepped ps (g ∷ gs) ≡ g ∷ stepped ps gs
past g gs [] not = refl
past g gs (p ∷ ps) not =
    ap (λ b. stepped ps (if b then group_step g p.event ∷ gs else g ∷ stepped_by gs p)) not.0 ∙ past g (stepped_by gs p) ps not.1

pub stepped_all : (event : GroupId → group.Event) (groups : List Group) → Distinct (map (λ g. g.group) groups) → stepped (parts_for event groups) groups ≡ all_moved event groups
stepped_all event [] d = refl
stepped_all event (g ∷ gs) d =
    let next : Group = group_step g (event g.group) in
    let keeps : next.group ≡ g.group = step_is g.group (event g.group) g refl in
    let P : GroupId → Type 0 = λ id. Apart id (map (λ h. h.group) gs) in
    ap (λ b. stepped (parts_for event gs) (if b then next ∷ gs else g ∷ at_group g.group (λ h. group_step h (event g.group)) gs)) (group_refl g.group)
    ∙ past next gs (parts_for event gs) (not_for event next gs (subst P (sym keeps) d.0))
    ∙ ap (λ l. next ∷ l) (stepped_all event gs d.1)

refusals_past : (g : Group) (gs : List Group) (ps : List Part) → NotFor g ps → parts_refusal (g ∷ gs) ps ≡ parts_refusal gs ps
refusals_past g gs [] not = refl
refusals_past g gs (p ∷ ps) not =
    ap (λ b. option_or (refused_in (if b then Some g else group_at p.id gs) p.event) (parts_refusal (g ∷ gs) ps)) not.0
    ∙ ap (option_or (part_refusal gs p)) (refusals_past g gs ps not.1)

pub refusals_all : (event : GroupId → group.Event) (groups : List Group) → Distinct (map (λ g. g.group) groups) → parts_refusal groups (parts_for event groups) ≡ first_refusal event groups
refusals_all event [] d = refl
refusals_all event (g ∷ gs) d =
    ap (λ b. option_or (refused_in (if b then Some g else group_at g.group gs) (event g.group)) (parts_refusal (g ∷ gs) (parts_for event gs))) (group_refl g.group)
    ∙ ap (option_or (refusal_of g (event g.group))) (refusals_past g gs (parts_for event gs) (not_for event g gs d.0) ∙ refusals_all event gs d.1)

-- ---- the parts of a command

pub moving_parts : (state : MapState) (c : MapCommand) → moves_groups c ≡ true → map_parts state c ≡ map (λ id. part id (move_of state c id)) (flat_map groups_of state.pools)
moving_parts state (OsdUp d) moves = refl
moving_parts state (OsdDown d) moves = refl
moving_parts state (OsdRestart d) moves = refl
moving_parts state (PoolCreate name pg_num size min_size) moves = absurd (true_not_false (sym moves))
moving_parts state (AppEnable pool app) moves = absurd (true_not_false (sym moves))
moving_parts state (AppSet pool app key value) moves = absurd (true_not_false (sym moves))
moving_parts state (AppRm pool app key) moves = absurd (true_not_false (sym moves))

pub none_created : (front : ControlPlane) (c : MapCommand) → moves_groups c ≡ true → created_by front (Map c) ≡ []
none_created front (OsdUp d) moves = refl
none_created front (OsdDown d) moves = refl
none_created front (OsdRestart d) moves = refl
none_created front (PoolCreate name pg_num size min_size) moves = absurd (true_not_false (sym moves))
none_created front (AppEnable pool app) moves = absurd (true_not_false (sym moves))
none_created front (AppSet pool app key value) moves = absurd (true_not_false (sym moves))
none_created front (AppRm pool app key) moves = absurd (true_not_false (sym moves))

-- the groups of a map, after a command on a daemon
pub stepped_moved : (front : ControlPlane) (c : MapCommand) (groups : List Group) → IsAccepted front.history → map (λ g. g.group) groups ≡ flat_map groups_of (map_of front.history).pools → moves_groups c ≡ true
    → stepped (parts_of front (Map c)) groups ≡ all_moved (move_of (map_of front.history) c) groups
stepped_moved front c groups accepted places moves =
    let event : GroupId → group.Event = move_of (map_of front.history) c in
    ap (λ ps. stepped ps groups) (moving_parts (map_of front.history) c moves ∙ ap (map (λ id. part id (event id))) (sym places))
    ∙ stepped_all event groups (subst Distinct (sym places) (places_distinct front.history accepted))

-- why groups refuse it
pub refusals_moved : (front : ControlPlane) (c : MapCommand) (groups : List Group) → IsAccepted front.history → map (λ g. g.group) groups ≡ flat_map groups_of (map_of front.history).pools → moves_groups c ≡ true
    → parts_refusal groups (parts_of front (Map c)) ≡ first_refusal (move_of (map_of front.history) c) groups
refusals_moved front c groups accepted places moves =
    let event : GroupId → group.Event = move_of (map_of front.history) c in
    ap (parts_refusal groups) (moving_parts (map_of front.history) c moves ∙ ap (map (λ id. part id (event id))) (sym places))
    ∙ refusals_all event groups (subst Distinct (sym places) (places_distinct front.history accepted))

-- ---- a command on the map decides nothing
