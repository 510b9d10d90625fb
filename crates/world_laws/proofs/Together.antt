-- Groups that ran apart, each under a lock of its own, make a world together.
use Prim.Native.Nat.{zero, suc}
use Rattle.std.proofs.Common.{◌≡◌, ◌∙◌, ℕ, ◌+◌, ◌*◌, ◌<◌, ◌≤◌, ◌==◌, ◌||◌, List, [], ◌∷◌, ◌++◌, Bool, true, false, not, cond, if◌then◌else◌, Option, Some, None, length, map, fold, refl, sym, ap, subst, arith, append-nil, append_assoc}
use Rattle.std.specs.Prelude.{slice_get}
use Rattle.std.specs.List.{filter, flat_map}
use Rattle.std.proofs.lemmas.List.Elements.{filter-append}
use Rattle.map_core.specs.State.{History}
use Rattle.map_core.specs.Map.{map_of}
use Rattle.map_core.specs.Limits.{IsAccepted}
use Rattle.map_core.specs.declared.pool.Pool.{Pool}
use Rattle.map_core.specs.declared.command.MapCommand.{MapCommand}
use Rattle.map_core.proofs.Kept.{pools_differ}
use Rattle.entry_core.specs.Locality.{group_for}
use Rattle.store_core.specs.Request.{Sealed}
use Rattle.store_core.specs.declared.entry.Entry.{Entry}
use Rattle.store_core.specs.declared.sealed.GroupId.{GroupId}
use Rattle.group_model_whole.specs.Each.{Each}
use Rattle.group_model_whole.specs.Asked.{IsAsked}
use Rattle.group_model.specs.Group.{Group, submitted, is_submitted}
use Rattle.world_front.specs.Groups.{is_same_group, is_for, groups_of}
use Rattle.world_front.specs.declared.session.Session.{Session}
use Rattle.world_front.specs.Stands.{next_at, IsGiven, IsSealedWell, FrontStands}
use Rattle.world_core.specs.Standing.{audit_in, audit_at}
use Rattle.world_front.specs.Merging.{part_of}
use Rattle.world_core.specs.World.{World, group_at}
use Rattle.world_core.specs.Sound.{IsSealedFor, FrontKept, Stands, GroupKept, IsSound}
use Rattle.world_events.specs.Submitting.{AreNew}
use Rattle.world_front.proofs.NewRequests.{new_joined}
use Rattle.world_core.specs.Parts.{requests_of, decided_of, front_of, FitTogether}
use Rattle.world_core.specs.declared.world.parts.WorldParts.{WorldParts}
use Rattle.world_front.proofs.Merge.{same_group, group_refl}
use Rattle.world_front.proofs.Bytes.{number_same}
use Rattle.world_core.proofs.Standing.{found_each, stands_asked}
use Rattle.world_core.proofs.Acting.{each_join, each_weaker, group_at_is, group_at_each}
use Rattle.world_front.proofs.Places.{places_once}
use Rattle.world_core.proofs.Limits.{named_once, few_submissions}
use Rattle.world_core.proofs.GroupsOf.{HasPlace, all_places, at_place}
use Rattle.world_core.proofs.Sounds.{ids_of}
use Rattle.world_laws.proofs.Apart.{Turn, Alone, alone_step, TakesTurns, StandsAlone, alone_through, alone_at_start, name_through, commands_of, history_through, creates_pool, places_stay, front_alone, kept_by, past_others, first_found, not_submitted, stands_among}

-- ---- a fact of each element, of lists in lists

pub each_with : {X : Type 0} (P Q R : X → Type 0) → ((x : X) → P x → Q x → R x) → (xs : List X) → Each P xs → Each Q xs → Each R xs
each_with P Q R f [] h k = tt
each_with P Q R f (x ∷ xs) h k = (f x h.0 k.0, each_with P Q R f xs h.1 k.1)

each_front : {X : Type 0} (P : X → Type 0) (xs ys : List X) → Each P (xs ++ ys) → Each P xs
each_front P [] ys h = tt
each_front P (x ∷ xs) ys h = (h.0, each_front P xs ys h.1)

each_back : {X : Type 0} (P : X → Type 0) (xs ys : List X) → Each P (xs ++ ys) → Each P ys
each_back P [] ys h = h
each_back P (x ∷ xs) ys h = each_back P xs ys h.1

each_mapped : {X Y : Type 0} (P : Y → Type 0) (f : X → Y) (xs : List X) → Each P (map f xs) → Each (λ x. P (f x)) xs
each_mapped P f [] h = tt
each_mapped P f (x ∷ xs) h = (h.0, each_mapped P f xs h.1)

pub each_joined : {X Y : Type 0} (P : Y → Type 0) (f : X → List Y) (xs : List X) → Each (λ x. Each P (f x)) xs → Each P (flat_map f xs)
each_joined P f [] h = tt
each_joined P f (x ∷ xs) h = each_join P (f x) (flat_map f xs) h.0 (each_joined P f xs h.1)

each_parted : {X Y : Type 0} (P : Y → Type 0) (f : X → List Y) (xs : List X) → Each P (flat_map f xs) → Each (λ x. Each P (f x)) xs
each_parted P f [] h = tt
each_parted P f (x ∷ xs) h = (each_front P (f x) (flat_map f xs) h, each_parted P f xs (each_back P (f x) (flat_map f xs) h))

-- ---- new ids: each request is found under its own

new_asked : (old rs : List Sealed) → AreNew old rs → Each (IsAsked (old ++ rs)) rs
new_asked old [] h = tt
new_asked old (r ∷ rs) h =
    let P : List Sealed → Type 0 = λ l. Each (IsAsked l) rs in
    (past_others old (r ∷ rs) r.id h.0 ∙ first_found r rs, subst P (append_assoc old (r ∷ []) rs) (new_asked (old ++ r ∷ []) rs h.1))

-- ---- the elements for one group, among those of all

-- elements of one group: all of them are for it, and none for another
all_for : {X : Type 0} (of : X → GroupId) (id : GroupId) (xs : List X) → Each (λ x. of x ≡ id) xs → filter (λ x. is_same_group id (of x)) xs ≡ xs
all_for of id [] h = refl
all_for of id (x ∷ xs) h =
    ap (λ b. cond b (x ∷ filter (λ y. is_same_group id (of y)) xs) (filter (λ y. is_same_group id (of y)) xs)) (ap (is_same_group id) h.0 ∙ group_refl id)
    ∙ ap (λ l. x ∷ l) (all_for of id xs h.1)

none_for : {X : Type 0} (of : X → GroupId) (id other : GroupId) (xs : List X) → is_same_group id other ≡ false → Each (λ x. of x ≡ other) xs → filter (λ x. is_same_group id (of x)) xs ≡ []
none_for of id other [] apart h = refl
none_for of id other (x ∷ xs) apart h =
    ap (λ b. cond b (x ∷ filter (λ y. is_same_group id (of y)) xs) (filter (λ y. is_same_group id (of y)) xs)) (ap (is_same_group id) h.0 ∙ apart)
    ∙ none_for of id other xs apart h.1

-- where no group is of that name
none_among : {X : Type 0} (of : X → GroupId) (f : Group → List X) (id : GroupId) (gs : List Group) → filter (is_same_group id) (ids_of gs) ≡ [] → Each (λ g. Each (λ x. of x ≡ g.group) (f g)) gs
    → filter (λ x. is_same_group id (of x)) (flat_map f gs) ≡ []
none_among of f id [] none own = refl
none_among of f id (g ∷ gs) none own = go (is_same_group id g.group) refl none (λ k. none_among of f id gs k own.1)
  where
    go : (b : Bool) → is_same_group id g.group ≡ b → cond b (g.group ∷ filter (is_same_group id) (ids_of gs)) (filter (is_same_group id) (ids_of gs)) ≡ []
        → (filter (is_same_group id) (ids_of gs) ≡ [] → filter (λ x. is_same_group id (of x)) (flat_map f gs) ≡ []) → filter (λ x. is_same_group id (of x)) (f g ++ flat_map f gs) ≡ []
    go true is none rest = absurd (cc)
    go false is none rest =
        filter-append (λ x. is_same_group id (of x)) (f g) (flat_map f gs)
        ∙ ap (λ l. l ++ filter (λ x. is_same_group id (of x)) (flat_map f gs)) (none_for of id g.group (f g) is own.0)
        ∙ rest none

-- where one is
one_among : {X : Type 0} (of : X → GroupId) (f : Group → List X) (id : GroupId) (gs : List Group) (g : Group) → group_at id gs ≡ Some g → filter (is_same_group id) (ids_of gs) ≡ id ∷ [] → Each (λ v. Each (λ x. of x ≡ v.group) (f v)) gs
    → filter (λ x. is_same_group id (of x)) (flat_map f gs) ≡ f g
one_among of f id [] g there one own = absurd (cc)
one_among of f id (v ∷ vs) g there one own = go (is_same_group id v.group) refl there one (λ k l. one_among of f id vs g k l own.1)
  where
    go : (b : Bool) → is_same_group id v.group ≡ b → (if b then Some v else group_at id vs) ≡ Some g → cond b (v.group ∷ filter (is_same_group id) (ids_of vs)) (filter (is_same_group id) (ids_of vs)) ≡ id ∷ []
        → (group_at id vs ≡ Some g → filter (is_same_group id) (ids_of vs) ≡ id ∷ [] → filter (λ x. is_same_group id (of x)) (flat_map f vs) ≡ f g) → filter (λ x. is_same_group id (of x)) (f v ++ flat_map f vs) ≡ f g
    go true is here one rest =
        let same : v ≡ g = cc in
        let id_is : id ≡ v.group = same_group id v.group is in
        let none : filter (is_same_group id) (ids_of vs) ≡ [] = cc in
        let mine : Each (λ x. of x ≡ id) (f v) = each_weaker (λ x. of x ≡ v.group) (λ x. of x ≡ id) (λ x e. e ∙ sym id_is) (f v) own.0 in
        filter-append (λ x. is_same_group id (of x)) (f v) (flat_map f vs)
        ∙ ap (λ l. l ++ filter (λ x. is_same_group id (of x)) (flat_map f vs)) (all_for of id (f v) mine)
        ∙ ap (λ l. f v ++ l) (none_among of f id vs none own.1)
        ∙ append-nil (f v)
        ∙ ap f same
    go false is more one rest =
        filter-append (λ x. is_same_group id (of x)) (f v) (flat_map f vs)
        ∙ ap (λ l. l ++ filter (λ x. is_same_group id (of x)) (flat_map f vs)) (none_for of id v.group (f v) is own.0)
        ∙ rest more one

not_there : (id : GroupId) (gs : List Group) → group_at id gs ≡ None → filter (is_same_group id) (ids_of gs) ≡ []
not_there id [] h = refl
not_there id (g ∷ gs) h = go (is_same_group id g.group) h (λ k. not_there id gs k)
  where
    go : (b : Bool) → (if b then Some g else group_at id gs) ≡ None → (group_at id gs ≡ None → filter (is_same_group id) (ids_of gs) ≡ []) → cond b (g.group ∷ filter (is_same_group id) (ids_of gs)) (filter (is_same_group id) (ids_of gs)) ≡ []
    go true e rest = absurd (cc)
    go false e rest = rest e

-- ---- groups of a map

-- groups that stand alone, one at each place of the map, of requests with new ids
pub record AreApart (h : History) (gs : List Group) : Type 0 where
  pub accepted : IsAccepted h
  pub places : map (λ g. g.group) gs ≡ flat_map groups_of (map_of h).pools
  pub alone : Each (λ g. StandsAlone (record { history = h; group = g })) gs
  pub new : AreNew [] (requests_of gs)

-- the name of a group that is there stands once among those of all
there_once : (h : History) (gs : List Group) → AreApart h gs → (id : GroupId) (g : Group) → group_at id gs ≡ Some g → filter (is_same_group id) (ids_of gs) ≡ id ∷ []
there_once h gs a id g there =
    let pools : List Pool = (map_of h).pools in
    let once = named_once pools (pools_differ h a.accepted) in
    let all : Each (HasPlace pools) (ids_of gs) = subst (Each (HasPlace pools)) (sym a.places) (all_places pools once) in
    let here : HasPlace pools g.group = group_at_each (λ v. HasPlace pools v.group) id gs g (each_mapped (HasPlace pools) (λ v. v.group) gs all) there in
    let place : HasPlace pools id = subst (HasPlace pools) (sym (group_at_is id gs g there)) here in
    ap (filter (is_same_group id)) a.places ∙ places_once id pools place.pool once place.found place.less

-- the requests for a group are its own
pub own_requests : (h : History) (gs : List Group) → AreApart h gs → (id : GroupId) (g : Group) → group_at id gs ≡ Some g → filter (is_for id) (requests_of gs) ≡ g.requests
own_requests h gs a id g there =
    one_among group_for (λ v. v.requests) id gs g there (there_once h gs a id g there)
    (each_weaker (λ v. StandsAlone (record { history = h; group = v })) (λ v. Each (λ s. group_for s ≡ v.group) v.requests) (λ v k. k.own) gs a.alone)

few_for : (h : History) (gs : List Group) → AreApart h gs → (id : GroupId) → length (filter (is_for id) (requests_of gs)) ≤ 16384
few_for h gs a id = go (group_at id gs) refl
  where
    own : Each (λ v. Each (λ s. group_for s ≡ v.group) v.requests) gs
    own = each_weaker (λ v. StandsAlone (record { history = h; group = v })) (λ v. Each (λ s. group_for s ≡ v.group) v.requests) (λ v k. k.own) gs a.alone

    go : (found : Option Group) → group_at id gs ≡ found → length (filter (is_for id) (requests_of gs)) ≤ 16384
    go None is = let e : length (filter (is_for id) (requests_of gs)) ≡ 0 = ap length (none_among group_for (λ v. v.requests) id gs (not_there id gs is) own) in omega arith
    go (Some g) is =
        let e : length (filter (is_for id) (requests_of gs)) ≡ length g.requests = ap length (own_requests h gs a id g is) in
        let few : length g.requests ≤ 16384 = (group_at_each (λ v. StandsAlone (record { history = h; group = v })) id gs g a.alone is).few in
        omega arith

-- each request is found among all
all_asked : (h : History) (gs : List Group) → AreApart h gs → Each (IsAsked (requests_of gs)) (requests_of gs)
all_asked h gs a = new_asked [] (requests_of gs) a.new

all_sealed : (h : History) (gs : List Group) → AreApart h gs → Each (IsSealedFor h) (requests_of gs)
all_sealed h gs a =
    each_joined (IsSealedFor h) (λ g. g.requests) gs
    (each_weaker (λ g. StandsAlone (record { history = h; group = g })) (λ g. Each (IsSealedFor h) g.requests) (λ g k. k.sealed) gs a.alone)

-- what made a group alone made it among all
all_stand : (h : History) (gs : List Group) → AreApart h gs → Each (Stands (requests_of gs)) gs
all_stand h gs a =
    each_with (λ g. StandsAlone (record { history = h; group = g })) (λ g. Each (IsAsked (requests_of gs)) g.requests) (Stands (requests_of gs))
    (λ g k asked. stands_among g.requests (requests_of gs) g (λ s is. found_each (IsAsked (requests_of gs)) g.requests s.id s asked is) k.stands) gs a.alone
    (each_parted (IsAsked (requests_of gs)) (λ g. g.requests) gs (all_asked h gs a))

-- what was decided, group by group
all_decided : (h : History) (gs : List Group) → AreApart h gs → Each (λ g. Each (λ e. IsAsked (requests_of gs) e.sealed × (group_for e.sealed ≡ g.group)) g.audit) gs
all_decided h gs a =
    each_weaker (Stands (requests_of gs)) (λ g. Each (λ e. IsAsked (requests_of gs) e.sealed × (group_for e.sealed ≡ g.group)) g.audit)
    (λ g k. stands_asked (requests_of gs) g k) gs (all_stand h gs a)

decided_asked : (h : History) (gs : List Group) → AreApart h gs → Each (λ e. IsAsked (requests_of gs) e.sealed) (decided_of gs)
decided_asked h gs a =
    each_joined (λ e. IsAsked (requests_of gs) e.sealed) (λ g. g.audit) gs
    (each_weaker (λ g. Each (λ e. IsAsked (requests_of gs) e.sealed × (group_for e.sealed ≡ g.group)) g.audit) (λ g. Each (λ e. IsAsked (requests_of gs) e.sealed) g.audit)
    (λ g k. each_weaker (λ e. IsAsked (requests_of gs) e.sealed × (group_for e.sealed ≡ g.group)) (λ e. IsAsked (requests_of gs) e.sealed) (λ e d. d.0) g.audit k) gs (all_decided h gs a))

decided_merged : (h : History) (gs : List Group) → AreApart h gs → (id : GroupId) → part_of id (decided_of gs) ≡ audit_at id gs
decided_merged h gs a id = go (group_at id gs) refl
  where
    own : Each (λ g. Each (λ e. group_for e.sealed ≡ g.group) g.audit) gs
    own =
        each_weaker (λ g. Each (λ e. IsAsked (requests_of gs) e.sealed × (group_for e.sealed ≡ g.group)) g.audit) (λ g. Each (λ e. group_for e.sealed ≡ g.group) g.audit)
        (λ g k. each_weaker (λ e. IsAsked (requests_of gs) e.sealed × (group_for e.sealed ≡ g.group)) (λ e. group_for e.sealed ≡ g.group) (λ e d. d.1) g.audit k) gs (all_decided h gs a)

    go : (found : Option Group) → group_at id gs ≡ found → part_of id (decided_of gs) ≡ audit_in found
    go None is = none_among (λ (e : Entry). group_for e.sealed) (λ g. g.audit) id gs (not_there id gs is) own
    go (Some g) is = one_among (λ (e : Entry). group_for e.sealed) (λ g. g.audit) id gs g is (there_once h gs a id g is) own

-- ---- the law

-- parts whose groups ran apart, with ids that the sessions gave, which gave no more
pub record RanApart (p : WorldParts) : Type 0 where
  pub apart : AreApart p.map p.groups.items
  pub given : Each (λ r. IsGiven p.sessions.items r.id) (requests_of p.groups.items)
  pub most : (n : ℕ) → next_at p.sessions.items n ≤ length (requests_of p.groups.items) + 1

front_kept : (p : WorldParts) → RanApart p → FrontKept (front_of p)
front_kept p r = record {
  accepted = r.apart.accepted;
  sealed = all_sealed p.map p.groups.items r.apart;
  few = few_for p.map p.groups.items r.apart;
}

front_stands : (p : WorldParts) → RanApart p → FrontStands (front_of p)
front_stands p r = record {
  given = r.given;
  most = r.most;
  asked = all_asked p.map p.groups.items r.apart;
  sealed = each_weaker (IsSealedFor p.map) (IsSealedWell p.map) (λ s k. k.well) (requests_of p.groups.items) (all_sealed p.map p.groups.items r.apart);
}

group_kept : (p : WorldParts) → RanApart p → (id : GroupId) (g : Group) → group_at id p.groups.items ≡ Some g → GroupKept (front_of p) id g
group_kept p r id g there =
    let gs : List Group = p.groups.items in
    let k : StandsAlone (record { history = p.map; group = g }) = group_at_each (λ v. StandsAlone (record { history = p.map; group = v })) id gs g r.apart.alone there in
    let same : id ≡ g.group = group_at_is id gs g there in
    let P : GroupId → Type 0 = λ i. GroupKept (front_alone p.map g.requests) i g in
    let kept : GroupKept (front_alone p.map g.requests) id g = subst P (sym same) k.kept in
    kept_by (front_alone p.map g.requests) (front_of p) id g kept refl (own_requests p.map gs r.apart id g there ∙ kept.requests)

-- groups that ran apart fit together
pub fit_together : (p : WorldParts) → RanApart p → FitTogether p
fit_together p r =
    let gs : List Group = p.groups.items in
    let few : length (requests_of gs) ≤ 33554432 = few_submissions (front_of p) (front_kept p r) in
    record {
      sound = record {
        stands = record { front = front_stands p r; groups = all_stand p.map gs r.apart; asked = decided_asked p.map gs r.apart; merged = decided_merged p.map gs r.apart };
        kept = record { front = front_kept p r; groups = group_kept p r };
        places = r.apart.places;
        new = r.apart.new;
      };
      few = omega arith;
    }

-- ---- how many numbers there are

-- the requests under other numbers than this
abbrev others : ℕ → List Sealed → List Sealed
others n rs = filter (λ r. not (r.id == n)) rs

no_more : (n : ℕ) (rs : List Sealed) → length (others n rs) ≤ length rs
no_more n [] = omega arith
no_more n (r ∷ rs) = go (r.id == n) (no_more n rs)
  where
    go : (b : Bool) → length (others n rs) ≤ length rs → length (cond (not b) (r ∷ others n rs) (others n rs)) ≤ length (r ∷ rs)
    go true rest = omega arith
    go false rest = omega arith

fewer : (n : ℕ) (rs : List Sealed) → is_submitted rs n ≡ true → length (others n rs) + 1 ≤ length rs
fewer n [] h = absurd (cc)
fewer n (r ∷ rs) h = go (r.id == n) h (λ k. fewer n rs k) (no_more n rs)
  where
    go : (b : Bool) → (b || is_submitted rs n) ≡ true → (is_submitted rs n ≡ true → length (others n rs) + 1 ≤ length rs) → length (others n rs) ≤ length rs → length (cond (not b) (r ∷ others n rs) (others n rs)) + 1 ≤ length (r ∷ rs)
    go true h rest most = omega arith
    go false h rest most = let e : length (others n rs) + 1 ≤ length rs = rest h in omega arith

still_there : (n m : ℕ) → (n ≡ m → ⊥) → (rs : List Sealed) → is_submitted rs m ≡ true → is_submitted (others n rs) m ≡ true
still_there n m apart [] h = h
still_there n m apart (r ∷ rs) h = go (r.id == n) refl (r.id == m) refl h (λ k. still_there n m apart rs k)
  where
    go : (b : Bool) → (r.id == n) ≡ b → (c : Bool) → (r.id == m) ≡ c → (c || is_submitted rs m) ≡ true → (is_submitted rs m ≡ true → is_submitted (others n rs) m ≡ true)
        → is_submitted (cond (not b) (r ∷ others n rs) (others n rs)) m ≡ true
    go true e true d h rest = absurd (apart (sym (number_same r.id n e) ∙ number_same r.id m d))
    go true e false d h rest = rest h
    go false e true d h rest = ap (λ b. b || is_submitted (others n rs) m) d
    go false e false d h rest = ap (λ b. b || is_submitted (others n rs) m) d ∙ rest h

-- requests that have each of a session's first numbers are as many
numbers_counted : (session n : ℕ) (rs : List Sealed) → ((k : ℕ) → 1 ≤ k → k ≤ n → is_submitted rs (session * 4294967296 + k) ≡ true) → n ≤ length rs
numbers_counted session zero rs all = omega arith
numbers_counted session (suc n) rs all =
    let rest : List Sealed = others (session * 4294967296 + suc n) rs in
    let less : n ≤ length rest =
    numbers_counted session n rest (λ k least most. still_there (session * 4294967296 + suc n) (session * 4294967296 + k) (differ k most) rs (all k least (omega arith))) in
    let one : length rest + 1 ≤ length rs = fewer (session * 4294967296 + suc n) rs (all (suc n) (omega arith) (omega arith)) in
    omega arith
  where
    differ : (k : ℕ) → k ≤ n → session * 4294967296 + suc n ≡ session * 4294967296 + k → ⊥
    differ k most same = omega arith

-- Sessions whose numbers all stand under requests gave no more numbers than there are requests. Sessions count from 1: what `next_at` tells at 0 is
-- that of the first
pub most_given : (sessions : List Session) (rs : List Sealed) → ((session k : ℕ) → 1 ≤ session → 1 ≤ k → k < next_at sessions session → is_submitted rs (session * 4294967296 + k) ≡ true) → (n : ℕ) → next_at sessions n ≤ length rs + 1
most_given sessions rs all = from_zero
  where
    go : (n next : ℕ) → ((k : ℕ) → 1 ≤ k → k < next → is_submitted rs (n * 4294967296 + k) ≡ true) → next ≤ length rs + 1
    go n zero h = omega arith
    go n (suc m) h = let most : m ≤ length rs = numbers_counted n m rs (λ k least less. h k least (omega arith)) in omega arith

    from_one : (n : ℕ) → 1 ≤ n → next_at sessions n ≤ length rs + 1
    from_one n least = go n (next_at sessions n) (λ k one less. all n k least one less)

    from_zero : (n : ℕ) → next_at sessions n ≤ length rs + 1
    from_zero zero = from_one 1 (omega arith)
    from_zero (suc n) = from_one (suc n) (omega arith)

-- what one group was asked, all were
pub asked_in_one : (gs : List Group) (place : ℕ) (g : Group) (n : ℕ) → slice_get gs place ≡ Some g → is_submitted g.requests n ≡ true → is_submitted (requests_of gs) n ≡ true
asked_in_one [] place g n there h = absurd (cc)
asked_in_one (x ∷ xs) zero g n there h = let same : x ≡ g = cc in any_front x.requests (requests_of xs) (ap (λ v. is_submitted v.requests n) same ∙ h)
  where
    any_front : (rs more : List Sealed) → is_submitted rs n ≡ true → is_submitted (rs ++ more) n ≡ true
    any_front [] more k = absurd (cc)
    any_front (r ∷ rs) more k = go (r.id == n) k (λ e. any_front rs more e)
      where
        go : (b : Bool) → (b || is_submitted rs n) ≡ true → (is_submitted rs n ≡ true → is_submitted (rs ++ more) n ≡ true) → (b || is_submitted (rs ++ more) n) ≡ true
        go true e rest = refl
        go false e rest = rest e
asked_in_one (x ∷ xs) (suc place) g n there h = any_back x.requests (requests_of xs) (asked_in_one xs place g n there h)
  where
    any_back : (rs more : List Sealed) → is_submitted more n ≡ true → is_submitted (rs ++ more) n ≡ true
    any_back [] more k = k
    any_back (r ∷ rs) more k = go (r.id == n) (any_back rs more k)
      where
        go : (b : Bool) → is_submitted (rs ++ more) n ≡ true → (b || is_submitted (rs ++ more) n) ≡ true
        go true e = refl
        go false e = e

-- ---- ids that are new over all

pub each_placed : (P : Group → Type 0) (gs : List Group) → ((place : ℕ) (g : Group) → slice_get gs place ≡ Some g → P g) → Each P gs
each_placed P [] h = tt
each_placed P (x ∷ xs) h = (h zero x refl, each_placed P xs (λ place g e. h (suc place) g e))

new_after : (old middle rs : List Sealed) → Each (λ r. submitted old r.id ≡ None) rs → AreNew middle rs → AreNew (old ++ middle) rs
new_after old middle [] apart h = tt
new_after old middle (r ∷ rs) apart h =
    (past_others old middle r.id apart.0 ∙ h.0, subst (λ l. AreNew l rs) (sym (append_assoc old middle (r ∷ []))) (new_after old (middle ++ r ∷ []) rs apart.1 h.1))

asked_there : (rs : List Sealed) (s : Sealed) → IsAsked rs s → is_submitted rs s.id ≡ true
asked_there [] s h = absurd (cc)
asked_there (r ∷ rs) s h = go (r.id == s.id) h (λ k. asked_there rs s k)
  where
    go : (b : Bool) → (if b then Some r else submitted rs s.id) ≡ Some s → (IsAsked rs s → is_submitted rs s.id ≡ true) → (b || is_submitted rs s.id) ≡ true
    go true e rest = refl
    go false e rest = rest e

-- no number stands in the requests of two places
abbrev pub NumbersApart : List Group → Type 0
NumbersApart gs = (place other : ℕ) (g v : Group) (n : ℕ) → slice_get gs place ≡ Some g → slice_get gs other ≡ Some v → is_submitted g.requests n ≡ true → is_submitted v.requests n ≡ true → place ≡ other

-- ids that are new in each group are new over all, where no number stands in two groups
pub new_together : (gs : List Group) → Each (λ g. AreNew [] g.requests) gs → NumbersApart gs → AreNew [] (requests_of gs)
new_together [] new apart = tt
new_together (g ∷ gs) new apart =
    new_joined [] g.requests (requests_of gs) new.0
    (subst (λ l. AreNew l (requests_of gs)) (append-nil g.requests)
    (new_after g.requests [] (requests_of gs) (each_joined (λ r. submitted g.requests r.id ≡ None) (λ v. v.requests) gs later_ones)
    (new_together gs new.1 (λ place other a b n here there p q. let e : suc place ≡ suc other = apart (suc place) (suc other) a b n here there p q in omega arith))))
  where
    free : (n : ℕ) → (is_submitted g.requests n ≡ true → ⊥) → (b : Bool) → is_submitted g.requests n ≡ b → submitted g.requests n ≡ None
    free n none true e = absurd (none e)
    free n none false e = not_submitted g.requests n e

    later_ones : Each (λ v. Each (λ r. submitted g.requests r.id ≡ None) v.requests) gs
    later_ones =
        each_with (λ v. (n : ℕ) → is_submitted v.requests n ≡ true → is_submitted g.requests n ≡ true → ⊥) (λ v. AreNew [] v.requests) (λ v. Each (λ r. submitted g.requests r.id ≡ None) v.requests)
        (λ v none fresh. each_weaker (IsAsked v.requests) (λ r. submitted g.requests r.id ≡ None) (λ r asked. free r.id (none r.id (asked_there v.requests r asked)) (is_submitted g.requests r.id) refl) v.requests (new_asked [] v.requests fresh))
        gs
        (each_placed (λ v. (n : ℕ) → is_submitted v.requests n ≡ true → is_submitted g.requests n ≡ true → ⊥) gs (λ place v here n p q. let e : zero ≡ suc place = apart zero (suc place) g v n refl here q p in omega arith))
        new.1

-- ---- from the beginning

each_after : {X Y : Type 0} (P : Y → Type 0) (f : X → Y) (xs : List X) → Each (λ x. P (f x)) xs → Each P (map f xs)
each_after P f [] h = tt
each_after P f (x ∷ xs) h = (h.0, each_after P f xs h.1)

-- all groups of a sound world without requests stand alone
pub all_alone_at_start : (w : World) → IsSound w → w.front.submissions ≡ [] → Each (λ g. StandsAlone (record { history = w.front.history; group = g })) w.groups
all_alone_at_start w sound empty =
    each_placed (λ g. StandsAlone (record { history = w.front.history; group = g })) w.groups (λ place g there. alone_at_start w sound empty g.group g (at_place w sound place g there))

-- a group as it was, and its turns since
abbrev pub TurnsOf : Type 0
TurnsOf = Group × List Turn

-- that group after these turns, from a history on
abbrev pub after_turns : History → TurnsOf → Group
after_turns h r = (fold alone_step (record { history = h; group = r.0 }) r.1).group

-- each took its turns, with the same commands among them
abbrev pub TookTurns : History → List MapCommand → List TurnsOf → Type 0
TookTurns h cs runs = Each (λ r. TakesTurns (record { history = h; group = r.0 }) r.1 × (commands_of r.1 ≡ cs)) runs

all_names : (h : History) (runs : List TurnsOf) → ids_of (map (after_turns h) runs) ≡ ids_of (map (λ (r : TurnsOf). r.0) runs)
all_names h [] = refl
all_names h (r ∷ rs) = ap (λ i. i ∷ ids_of (map (after_turns h) rs)) (name_through r.1 (record { history = h; group = r.0 })) ∙ ap (λ l. r.0.group ∷ l) (all_names h rs)

-- The groups of a sound world without requests, each of which took turns of its own with the same commands, of which none created a pool, are apart
-- by the history with those commands, where no number stands in two
pub apart_after : (w : World) (cs : List MapCommand) (runs : List TurnsOf) → IsSound w → w.front.submissions ≡ [] → map (λ (r : TurnsOf). r.0) runs ≡ w.groups → TookTurns w.front.history cs runs → Each (λ c. creates_pool c ≡ false) cs
    → IsAccepted (record w.front.history { commands = w.front.history.commands ++ cs }) → NumbersApart (map (after_turns w.front.history) runs)
    → AreApart (record w.front.history { commands = w.front.history.commands ++ cs }) (map (after_turns w.front.history) runs)
apart_after w cs runs sound empty are took none accepted numbers = record {
  accepted = accepted;
  places = all_names w.front.history runs ∙ ap ids_of are ∙ sound.places ∙ sym (places_stay w.front.history cs none);
  alone = all;
  new = new_together (map (after_turns w.front.history) runs)
      (each_weaker (λ g. StandsAlone (record { history = record w.front.history { commands = w.front.history.commands ++ cs }; group = g })) (λ g. AreNew [] g.requests) (λ g k. k.new) (map (after_turns w.front.history) runs) all) numbers;
}
  where
    begun : Each (λ (r : TurnsOf). StandsAlone (record { history = w.front.history; group = r.0 })) runs
    begun =
        each_mapped (λ g. StandsAlone (record { history = w.front.history; group = g })) (λ (r : TurnsOf). r.0) runs
        (subst (Each (λ g. StandsAlone (record { history = w.front.history; group = g }))) (sym are) (all_alone_at_start w sound empty))

    ended : (r : TurnsOf) → StandsAlone (record { history = w.front.history; group = r.0 }) → TakesTurns (record { history = w.front.history; group = r.0 }) r.1 × (commands_of r.1 ≡ cs)
        → StandsAlone (record { history = record w.front.history { commands = w.front.history.commands ++ cs }; group = after_turns w.front.history r })
    ended r k t =
        let a : Alone = record { history = w.front.history; group = r.0 } in
        let P : History → Type 0 = λ j. StandsAlone (record { history = j; group = after_turns w.front.history r }) in
        subst P (history_through r.1 a ∙ ap (λ l. record w.front.history { commands = w.front.history.commands ++ l }) t.1) (alone_through r.1 a k t.0)

    all : Each (λ g. StandsAlone (record { history = record w.front.history { commands = w.front.history.commands ++ cs }; group = g })) (map (after_turns w.front.history) runs)
    all =
        each_after (λ g. StandsAlone (record { history = record w.front.history { commands = w.front.history.commands ++ cs }; group = g })) (after_turns w.front.history) runs
        (each_with (λ (r : TurnsOf). StandsAlone (record { history = w.front.history; group = r.0 })) (λ (r : TurnsOf). TakesTurns (record { history = w.front.history; group = r.0 }) r.1 × (commands_of r.1 ≡ cs))
        (λ (r : TurnsOf). StandsAlone (record { history = record w.front.history { commands = w.front.history.commands ++ cs }; group = after_turns w.front.history r })) ended runs begun took)
