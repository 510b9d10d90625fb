-- Every request of a letter is allowed just where one grant reaches every one.
use Rattle.std.proofs.Common.{◌≡◌, ◌≢◌, ◌⊎◌, ◌==◌, ◌≤◌, ◌<◌, ◌+◌, ℕ, zero, suc, List, [], ◌∷◌, ◌++◌, length, drop, Bool, true, false, not, ◌&&◌, ◌||◌, Option, None, Some, slice_get, is_none, nat_eq, refl, sym, ap, ◌∙◌, subst, inl, inr, arith, lit≤}
use Rattle.std.specs.List.{list_any, list_all, All, starts_with}
use Rattle.std.specs.Str.{bytes_eq}
use Rattle.std.proofs.lemmas.Bool.{false≢true}
use Rattle.std.proofs.lemmas.Bool.Decides.{Decides-eqb}
use Rattle.std.proofs.lemmas.List.Elements.{All-nil, All-cons}
use Rattle.cap_grants.specs.declared.grant.Access.{Access}
use Rattle.cap_grants.specs.declared.grant.Access.TheVariants as accesses
use Rattle.cap_grants.specs.declared.grant.AllowGrant.{AllowGrant}
use Rattle.cap_grants.specs.declared.grant.NsMatch.{NsMatch}
use Rattle.cap_grants.specs.declared.grant.NsMatch.TheVariants.{Exact, Prefix}
use Rattle.compare_core.specs.Widening.{AreNeeded, IsCallBy}
use Rattle.compare_core.specs.declared.registry.Registry.TheVariants.{Every}
use Rattle.compare_core.proofs.Bools.{both_left, both_right, both, either_first, true_or_false, some_pass, any_at}
use Rattle.compare_core.proofs.Fronts.{same_text, with_front}
use Rattle.request_types.specs.Target.{Target}
use Rattle.request_types.specs.declared.request.ClassCall.{ClassCall}
use Rattle.request_types.specs.declared.request.Needs.{Needs}
use Rattle.verdict_core.specs.Verdict.{names, matches, matches_namespace, matches_prefix, can_read, can_write, covers, is_usable, is_covered, grants_allow}
use Rattle.share_core.specs.Pools.{is_for}
use Rattle.share_core.specs.Sharing.{a_read, a_write, a_call}
use Rattle.share_core.specs.declared.pools.Pool.{Pool}
use Rattle.share_core.specs.declared.touches.Touch.TheVariants as touches
use Rattle.share_core.proofs.OneGrants.{one_grant}
use Rattle.audit_core.specs.Reached.{IsInPool, IsListedCall, IsOf}
use Rattle.audit_core.specs.Giving.{takes_every_namespace, takes_every_object, covers_every, is_all, gives_every, takes_every, reaches_every, one_reaches_every, grants_reach_every}
use Rattle.audit_core.specs.declared.cell.Letter.{Letter}
use Rattle.audit_core.specs.declared.cell.Letter.TheVariants as letters
use Rattle.audit_core.proofs.Given.{Entry, or_later, or_second, asked_so, matched, pool_matched, namespace_matched, prefix_matched, taken_listing, read_allowed, write_allowed, call_allowed}

-- what takes all takes each

not_nothing : (n : ℕ) → suc n ≡ 0 → ⊥
not_nothing n e = omega arith

no_text : (text : List ℕ) → (length text == 0) ≡ true → text ≡ []
no_text [] h = refl
no_text (b ∷ bs) h = absurd (not_nothing (length bs) ((Decides-eqb (length (b ∷ bs)) 0).0 h))

each_namespace : (o : Option NsMatch) (x : List ℕ) → takes_every_namespace o ≡ true → matches_namespace o x ≡ true
each_namespace None x h = refl
each_namespace (Some (Exact name)) x h = absurd (false≢true h)
each_namespace (Some (Prefix prefix)) x h = rw (no_text prefix h) (empty_front x)
  where
    empty_front : (x : List ℕ) → starts_with nat_eq x [] ≡ true
    empty_front [] = refl
    empty_front (b ∷ bs) = refl

each_object : (o : Option (List ℕ)) (x : List ℕ) → x ≢ [] → takes_every_object o ≡ true → matches_prefix o x ≡ true
each_object None x some h = refl
each_object (Some prefix) [] some h = absurd (some refl)
each_object (Some prefix) (b ∷ bs) some h = rw (no_text prefix h) refl

each_listing : (o : Option (List ℕ)) → is_none o ≡ true → matches_prefix o [] ≡ true
each_listing None h = refl
each_listing (Some prefix) h = absurd (false≢true h)

-- a grant that reaches every request

record Reacher (grants : List Entry) (letter : Letter) (pool : Pool) : Type 0 where
  index : ℕ
  entry : Entry
  at : slice_get grants index ≡ Some entry
  pools : is_for entry.1 pool ≡ true
  gives : gives_every letter entry.1.access ≡ true
  namespaces : takes_every_namespace entry.1.namespace ≡ true
  objects : takes_every letter entry.1.prefix ≡ true

reacher : (letter : Letter) (pool : Pool) (grants : List Entry) → one_reaches_every letter pool grants ≡ true → Reacher grants letter pool
reacher letter pool grants h =
    let found = some_pass (λ (entry : Entry). reaches_every letter pool entry.1) grants h in
    let entry : Entry = found.1.0 in
    let rest = both_right (is_for entry.1 pool) _ found.1.1.1 in
    let last = both_right (gives_every letter entry.1.access) _ rest in
    record {
      index = found.0;
      entry = entry;
      at = found.1.1.0;
      pools = both_left (is_for entry.1 pool) _ found.1.1.1;
      gives = both_left (gives_every letter entry.1.access) _ rest;
      namespaces = both_left (takes_every_namespace entry.1.namespace) _ last;
      objects = both_right (takes_every_namespace entry.1.namespace) _ last;
    }

object_taken : {grants : List Entry} {letter : Letter} {pool : Pool} (r : Reacher grants letter pool) (target : Target) → IsInPool pool target → target.object ≢ []
    → takes_every_object r.entry.1.prefix ≡ true → matches r.entry.1 target ≡ true
object_taken {pool = pool} r target inside object takes =
    matched r.entry.1 pool target inside r.pools (each_namespace r.entry.1.namespace target.namespace r.namespaces) (each_object r.entry.1.prefix target.object object takes)

listed_all : (pool : Pool) (grants : List Entry) (target : Target) → one_reaches_every letters.Listing pool grants ≡ true → IsInPool pool target → target.object ≡ []
    → grants_allow grants target a_read ≡ true
listed_all pool grants target h inside empty =
    let r = reacher letters.Listing pool grants h in
    let m = matched r.entry.1 pool target inside r.pools (each_namespace r.entry.1.namespace target.namespace r.namespaces)
    (subst (λ name. matches_prefix r.entry.1.prefix name ≡ true) (sym empty) (each_listing r.entry.1.prefix r.objects)) in
    read_allowed grants target r.index r.entry r.at m r.gives

needed : (grants : List Entry) (target : Target) (needs is : Needs) → needs ≡ is → grants_allow grants target is ≡ true → grants_allow grants target needs ≡ true
needed grants target needs is e h = subst (λ n. grants_allow grants target n ≡ true) (sym e) h

-- an access of classes that covers every listed call
covers_each : (access : Access) (call : ClassCall) → covers_every access ≡ true → call.listed ≡ true → covers access call ≡ true
covers_each accesses.All call h listed = refl
covers_each (accesses.Class class method) call h listed = absurd (false≢true h)
covers_each (accesses.Flags flags) call h listed =
    both _ _ (both _ _ listed (or_later (not call.class_reads) _ (both_left flags.class_read _ h))) (or_later (not call.class_writes) _ (both_right flags.class_read _ h))

-- an access of all

all_reads : (access : Access) → is_all access ≡ true → can_read access ≡ true
all_reads accesses.All h = refl
all_reads (accesses.Class class method) h = absurd (false≢true h)
all_reads (accesses.Flags flags) h = absurd (false≢true h)

all_writes : (access : Access) → is_all access ≡ true → can_write access ≡ true
all_writes accesses.All h = refl
all_writes (accesses.Class class method) h = absurd (false≢true h)
all_writes (accesses.Flags flags) h = absurd (false≢true h)

all_covers : (access : Access) (call : ClassCall) → is_all access ≡ true → covers access call ≡ true
all_covers accesses.All call h = refl
all_covers (accesses.Class class method) call h = absurd (false≢true h)
all_covers (accesses.Flags flags) call h = absurd (false≢true h)

each_pass : {X : Type 0} (p : X → Bool) (xs : List X) → ((x : X) → p x ≡ true) → list_all p xs ≡ true
each_pass p [] h = refl
each_pass p (x ∷ xs) h = both (p x) (list_all p xs) (h x) (each_pass p xs h)

all_allowed : (grants : List Entry) (target : Target) (needs : Needs) (i : ℕ) (entry : Entry) → slice_get grants i ≡ Some entry → matches entry.1 target ≡ true
    → is_all entry.1.access ≡ true → grants_allow grants target needs ≡ true
all_allowed grants target needs i entry at m all =
    let useful : is_usable entry.1 target needs ≡ true = both _ _ (both _ _ m (or_later (not needs.reads) _ (all_reads entry.1.access all))) (or_later (not needs.writes) _ (all_writes entry.1.access all)) in
    both _ _
    (any_at (λ (entry : Entry). is_usable entry.1 target needs) grants i entry at useful)
    (each_pass (is_covered grants target needs) needs.calls
    (λ call. any_at (λ (entry : Entry). is_usable entry.1 target needs && covers entry.1.access call) grants i entry at (both _ _ useful (all_covers entry.1.access call all))))

or_first : (a b : Bool) → b ≡ false → (a || b) ≡ true → a ≡ true
or_first true b e h = refl
or_first false b e h = sym e ∙ h

-- a listing asks to read, and for nothing else
only_reads : (needs : Needs) → AreNeeded Every needs → needs.writes ≡ false → needs.calls ≡ [] → needs ≡ a_read
only_reads needs are w c =
    let last : (needs.writes || not (length needs.calls == 0)) ≡ false = subst (λ b. (b || not (length needs.calls == 0)) ≡ false) (sym w) (ap (λ (calls : List ClassCall). not (length calls == 0)) c) in
    let reads : needs.reads ≡ true = or_first needs.reads _ last are.something in
    plain needs.reads needs.writes needs.calls reads w c
  where
    plain : (r : Bool) (w : Bool) (calls : List ClassCall) → r ≡ true → w ≡ false → calls ≡ [] → record { reads = r; writes = w; calls = calls } ≡ a_read
    plain r w calls e f g = rw (e, f, g) refl

empty_or_not : (text : List ℕ) → (text ≡ []) ⊎ (text ≢ [])
empty_or_not [] = inl refl
empty_or_not (b ∷ bs) = inr (λ e. some e)
  where
    some : b ∷ bs ≡ [] → ⊥
    some e = cc

pub every_given : (letter : Letter) (pool : Pool) (grants : List Entry) → grants_reach_every letter pool grants ≡ true
    → (target : Target) (needs : Needs) → IsInPool pool target → IsOf letter target needs → grants_allow grants target needs ≡ true
every_given letters.Read pool grants h target needs inside (object, is) =
    let r = reacher letters.Read pool grants h in
    needed grants target needs a_read is (read_allowed grants target r.index r.entry r.at (object_taken r target inside object r.objects) r.gives)
every_given letters.Write pool grants h target needs inside (object, is) =
    let r = reacher letters.Write pool grants h in
    needed grants target needs a_write is (write_allowed grants target r.index r.entry r.at (object_taken r target inside object r.objects) r.gives)
every_given letters.Listing pool grants h target needs inside (object, is) = needed grants target needs a_read is (listed_all pool grants target h inside object)
every_given letters.Call pool grants h target needs inside (object, (call, listed, is)) =
    let r = reacher letters.Call pool grants h in
    needed grants target needs (a_call call) is
    (call_allowed grants target call r.index r.entry r.at (object_taken r target inside object r.objects) (covers_each r.entry.1.access call r.gives listed.0))
every_given letters.Any pool grants h target needs inside (plain, are) = elim (empty_or_not target.object) [
  | inl empty ↦ needed grants target needs a_read (only_reads needs are (plain empty).0 (plain empty).1) (listed_all pool grants target (both_right (one_reaches_every letters.Any pool grants) _ h) inside empty)
  | inr object ↦ (
      let r = reacher letters.Any pool grants (both_left (one_reaches_every letters.Any pool grants) _ h) in
      all_allowed grants target needs r.index r.entry r.at (object_taken r target inside object r.objects) r.gives
      )
]

-- a number that is not the first byte of any name of the grants

head : List ℕ → ℕ
head [] = 0
head (b ∷ bs) = b

namespace_head : Option NsMatch → ℕ
namespace_head None = 0
namespace_head (Some (Exact name)) = head name
namespace_head (Some (Prefix prefix)) = head prefix

prefix_head : Option (List ℕ) → ℕ
prefix_head None = 0
prefix_head (Some prefix) = head prefix

class_head : Access → ℕ
class_head accesses.All = 0
class_head (accesses.Flags flags) = 0
class_head (accesses.Class class method) = head class

heads : AllowGrant → ℕ
heads g = namespace_head g.namespace + (prefix_head g.prefix + class_head g.access)

all_heads : List Entry → ℕ
all_heads [] = 0
all_heads (entry ∷ entries) = heads entry.1 + all_heads entries

some_same : {X : Type 0} {a b : X} → Some a ≡ Some b → a ≡ b
some_same e = cc

heads_at : (grants : List Entry) (i : ℕ) (entry : Entry) → slice_get grants i ≡ Some entry → heads entry.1 ≤ all_heads grants
unfolding all_heads
heads_at [] i entry at = absurd (cc)
heads_at (e ∷ es) zero entry at = let same : heads e.1 ≡ heads entry.1 = ap (λ (e : Entry). heads e.1) (some_same at) in omega arith
heads_at (e ∷ es) (suc i) entry at = let later : heads entry.1 ≤ all_heads es = heads_at es i entry at in omega arith

first_same : {a b : ℕ} {xs ys : List ℕ} → a ∷ xs ≡ b ∷ ys → a ≡ b
first_same e = cc

-- what takes the new name takes every one

new_front : (n : ℕ) (prefix : List ℕ) → head prefix < n → starts_with nat_eq (n ∷ []) prefix ≡ true → (length prefix == 0) ≡ true
unfolding head
new_front n [] below h = refl
new_front n (c ∷ cs) below h = let same : n ≡ c = first_same (with_front (n ∷ []) (c ∷ cs) h) in absurd (omega arith)

new_text : (n : ℕ) (name : List ℕ) → head name < n → bytes_eq name (n ∷ []) ≡ true → ⊥
unfolding head
new_text n [] below h = let same : [] ≡ n ∷ [] = same_text [] (n ∷ []) h in cc
new_text n (c ∷ cs) below h = let same : c ≡ n = first_same (same_text (c ∷ cs) (n ∷ []) h) in omega arith

new_namespace : (n : ℕ) (o : Option NsMatch) → namespace_head o < n → matches_namespace o (n ∷ []) ≡ true → takes_every_namespace o ≡ true
unfolding namespace_head
new_namespace n None below h = refl
new_namespace n (Some (Exact name)) below h = absurd (new_text n name below h)
new_namespace n (Some (Prefix prefix)) below h = new_front n prefix below h

new_object : (n : ℕ) (o : Option (List ℕ)) → prefix_head o < n → matches_prefix o (n ∷ []) ≡ true → takes_every_object o ≡ true
unfolding prefix_head
new_object n None below h = refl
new_object n (Some prefix) below h = new_front n prefix below h

abbrev listed_call : ℕ → ClassCall
listed_call n = record { class = n ∷ []; method = []; class_reads = true; class_writes = true; listed = true }

abbrev other_call : ℕ → ClassCall
other_call n = record { class = n ∷ []; method = []; class_reads = true; class_writes = true; listed = false }

new_class : (n : ℕ) (access : Access) → class_head access < n → covers access (listed_call n) ≡ true → covers_every access ≡ true
unfolding class_head
new_class n accesses.All below h = refl
new_class n (accesses.Flags flags) below h = h
new_class n (accesses.Class class method) below h = absurd (new_text n class below (both_left (bytes_eq class (n ∷ [])) _ h))

new_other : (n : ℕ) (access : Access) → class_head access < n → covers access (other_call n) ≡ true → is_all access ≡ true
unfolding class_head
new_other n accesses.All below h = refl
new_other n (accesses.Flags flags) below h = absurd (false≢true h)
new_other n (accesses.Class class method) below h = absurd (new_text n class below (both_left (bytes_eq class (n ∷ [])) _ h))

-- a grant that takes a target of new names

abbrev new_target : Pool → ℕ → Target
new_target pool n = record { pool = pool.name; tags = pool.tags; namespace = n ∷ []; object = n ∷ [] }

abbrev new_listing : Pool → ℕ → Target
new_listing pool n = record { pool = pool.name; tags = pool.tags; namespace = n ∷ []; object = [] }

is_named : (n : ℕ) → n ∷ [] ≡ [] → ⊥
is_named n e = cc

namespace_new : (g : AllowGrant) (n : ℕ) (target : Target) → heads g < n → target.namespace ≡ n ∷ [] → matches g target ≡ true → takes_every_namespace g.namespace ≡ true
unfolding heads
namespace_new g n target below at m =
    new_namespace n g.namespace (omega arith) (subst (λ name. matches_namespace g.namespace name ≡ true) at (namespace_matched g target m))

object_new : (g : AllowGrant) (n : ℕ) (target : Target) → heads g < n → target.object ≡ n ∷ [] → matches g target ≡ true → takes_every_object g.prefix ≡ true
unfolding heads
object_new g n target below at m = new_object n g.prefix (omega arith) (subst (λ name. matches_prefix g.prefix name ≡ true) at (prefix_matched g target m))

class_below : (g : AllowGrant) (n : ℕ) → heads g < n → class_head g.access < n
unfolding heads
class_below g n below = omega arith

reached_all : (letter : Letter) (pool : Pool) (grants : List Entry) (i : ℕ) (entry : Entry) → slice_get grants i ≡ Some entry → is_for entry.1 pool ≡ true
    → gives_every letter entry.1.access ≡ true → takes_every_namespace entry.1.namespace ≡ true → takes_every letter entry.1.prefix ≡ true
    → one_reaches_every letter pool grants ≡ true
reached_all letter pool grants i entry at f g n o = any_at (λ (entry : Entry). reaches_every letter pool entry.1) grants i entry at (both _ _ f (both _ _ g (both _ _ n o)))

abbrev EveryHere : Letter → Pool → List Entry → Type 0
EveryHere letter pool grants = (target : Target) (needs : Needs) → IsInPool pool target → IsOf letter target needs → grants_allow grants target needs ≡ true

listings_reached : (pool : Pool) (grants : List Entry) (n : ℕ) → all_heads grants < n → grants_allow grants (new_listing pool n) a_read ≡ true → one_reaches_every letters.Listing pool grants ≡ true
listings_reached pool grants n below allowed =
    let target = new_listing pool n in
    let one = one_grant grants target touches.Read (a_read, refl, allowed) in
    let small = heads_at grants one.index one.entry one.at in
    reached_all letters.Listing pool grants one.index one.entry one.at (pool_matched one.entry.1 pool target (refl, refl) one.matched) one.given
    (namespace_new one.entry.1 n target (omega arith) refl one.matched) (taken_listing one.entry.1.prefix (prefix_matched one.entry.1 target one.matched))

-- the grant that covers a call and is usable
covering : (grants : List Entry) (target : Target) (needs : Needs) (call : ClassCall) → needs.calls ≡ call ∷ [] → grants_allow grants target needs ≡ true
    → (i : ℕ) × (entry : Entry) × (slice_get grants i ≡ Some entry) × (matches entry.1 target ≡ true) × (covers entry.1.access call ≡ true)
covering grants target needs call calls h =
    let all = both_right (list_any (λ (entry : Entry). is_usable entry.1 target needs) grants) _ h in
    let here : list_all (is_covered grants target needs) (call ∷ []) ≡ true = subst (λ calls. list_all (is_covered grants target needs) calls ≡ true) calls all in
    let found = some_pass (λ (entry : Entry). is_usable entry.1 target needs && covers entry.1.access call) grants (both_left (is_covered grants target needs call) _ here) in
    let entry : Entry = found.1.0 in
    let useful = both_left (is_usable entry.1 target needs) _ found.1.1.1 in (
      found.0,
      entry,
      found.1.1.0,
      both_left (matches entry.1 target) _ (both_left (matches entry.1 target && (not needs.reads || can_read entry.1.access)) _ useful),
      both_right (is_usable entry.1 target needs) _ found.1.1.1,
    )

abbrev everything : ℕ → Needs
everything n = record { reads = true; writes = true; calls = other_call n ∷ [] }

asks_everything : (n : ℕ) → AreNeeded Every (everything n)
asks_everything n = record { calls = All-cons (IsCallBy Every) (other_call n) [] refl (All-nil (IsCallBy Every)); few = lit≤ tt; something = refl }

abbrev new_of : List Entry → ℕ
new_of grants = suc (all_heads grants)

is_below : (grants : List Entry) → all_heads grants < new_of grants
is_below grants = omega arith

pub so_every : (letter : Letter) (pool : Pool) (grants : List Entry) → EveryHere letter pool grants → grants_reach_every letter pool grants ≡ true
so_every letters.Read pool grants every =
    let n = new_of grants in
    let target = new_target pool n in
    let one = one_grant grants target touches.Read (a_read, refl, every target a_read (refl, refl) (is_named n, refl)) in
    let small = heads_at grants one.index one.entry one.at in
    reached_all letters.Read pool grants one.index one.entry one.at (pool_matched one.entry.1 pool target (refl, refl) one.matched) one.given
    (namespace_new one.entry.1 n target (omega arith) refl one.matched) (object_new one.entry.1 n target (omega arith) refl one.matched)
so_every letters.Write pool grants every =
    let n = new_of grants in
    let target = new_target pool n in
    let one = one_grant grants target touches.Write (a_write, refl, every target a_write (refl, refl) (is_named n, refl)) in
    let small = heads_at grants one.index one.entry one.at in
    reached_all letters.Write pool grants one.index one.entry one.at (pool_matched one.entry.1 pool target (refl, refl) one.matched) one.given
    (namespace_new one.entry.1 n target (omega arith) refl one.matched) (object_new one.entry.1 n target (omega arith) refl one.matched)
so_every letters.Listing pool grants every =
    let n = new_of grants in
    listings_reached pool grants n (is_below grants) (every (new_listing pool n) a_read (refl, refl) (refl, refl))
so_every letters.Call pool grants every =
    let n = new_of grants in
    let target = new_target pool n in
    let call = listed_call n in
    let one = one_grant grants target (touches.Call call) (a_call call, refl, every target (a_call call) (refl, refl) (is_named n, (call, (refl, refl), refl))) in
    let small = heads_at grants one.index one.entry one.at in
    reached_all letters.Call pool grants one.index one.entry one.at (pool_matched one.entry.1 pool target (refl, refl) one.matched)
    (new_class n one.entry.1.access (class_below one.entry.1 n (omega arith)) one.given)
    (namespace_new one.entry.1 n target (omega arith) refl one.matched) (object_new one.entry.1 n target (omega arith) refl one.matched)
so_every letters.Any pool grants every =
    let n = new_of grants in
    let target = new_target pool n in
    let (i, entry, at, m, covered) = covering grants target (everything n) (other_call n) refl (every target (everything n) (refl, refl) (λ e. absurd (is_named n e), asks_everything n)) in
    let small = heads_at grants i entry at in
    let no_listing_more : IsOf letters.Any (new_listing pool n) a_read = (λ e. (refl, refl), record { calls = All-nil (IsCallBy Every); few = lit≤ tt; something = refl }) in
    both _ _
    (reached_all letters.Any pool grants i entry at (pool_matched entry.1 pool target (refl, refl) m) (new_other n entry.1.access (class_below entry.1 n (omega arith)) covered)
    (namespace_new entry.1 n target (omega arith) refl m) (object_new entry.1 n target (omega arith) refl m))
    (listings_reached pool grants n (is_below grants) (every (new_listing pool n) a_read (refl, refl) no_listing_more))

-- there is a request of each letter
pub record Asked (pool : Pool) (letter : Letter) : Type 0 where
  pub target : Target
  pub needs : Needs
  pub inside : IsInPool pool target
  pub is : IsOf letter target needs

pub some_asked : (pool : Pool) (letter : Letter) → Asked pool letter
some_asked pool letters.Read = record { target = new_target pool 1; needs = a_read; inside = (refl, refl); is = (is_named 1, refl) }
some_asked pool letters.Write = record { target = new_target pool 1; needs = a_write; inside = (refl, refl); is = (is_named 1, refl) }
some_asked pool letters.Listing = record { target = new_listing pool 1; needs = a_read; inside = (refl, refl); is = (refl, refl) }
some_asked pool letters.Call = record { target = new_target pool 1; needs = a_call (listed_call 1); inside = (refl, refl); is = (is_named 1, (listed_call 1, (refl, refl), refl)) }
some_asked pool letters.Any = record { target = new_target pool 1; needs = everything 1; inside = (refl, refl); is = (λ e. absurd (is_named 1 e), asks_everything 1) }
