-- Some request of a letter is allowed just where one grant reaches some.
use Rattle.std.proofs.Common.{◌≡◌, ◌≢◌, ◌==◌, ◌≤◌, ℕ, zero, suc, List, [], ◌∷◌, length, Bool, true, false, not, ◌&&◌, ◌||◌, Option, None, Some, slice_get, is_none, refl, sym, ap, ◌∙◌, subst, inl, inr, ◌⊎◌, arith, lit≤}
use Rattle.std.specs.Prelude.{codes}
use Rattle.std.specs.List.{list_any, All}
use Rattle.std.proofs.lemmas.Bool.{false≢true}
use Rattle.std.proofs.lemmas.List.Elements.{All-nil, All-cons, All-head}
use Rattle.cap_grants.specs.declared.grant.Access.{Access}
use Rattle.cap_grants.specs.declared.grant.Access.TheVariants as accesses
use Rattle.cap_grants.specs.declared.grant.AllowGrant.{AllowGrant}
use Rattle.cap_grants.specs.declared.grant.NsMatch.{NsMatch}
use Rattle.cap_grants.specs.declared.grant.NsMatch.TheVariants.{Exact, Prefix}
use Rattle.compare_core.specs.Widening.{AreNeeded, IsCallBy}
use Rattle.compare_core.specs.declared.registry.Registry.TheVariants.{Every}
use Rattle.compare_core.proofs.Bools.{both_left, both_right, both, either_first, true_or_false, some_pass, any_at}
use Rattle.compare_core.proofs.Fronts.{text_same}
use Rattle.request_types.specs.Target.{Target}
use Rattle.request_types.specs.declared.request.ClassCall.{ClassCall}
use Rattle.request_types.specs.declared.request.Needs.{Needs}
use Rattle.verdict_core.specs.Verdict.{names, matches, matches_namespace, matches_tag, matches_prefix, can_read, can_write, covers, grants_allow}
use Rattle.share_core.specs.Pools.{is_for}
use Rattle.share_core.specs.Meeting.{namespaces_meet, prefixes_meet, common_namespace, common_object, calls_reading, calls_writing}
use Rattle.share_core.specs.Sharing.{May, a_read, a_write, a_call, reads_so, writes_so}
use Rattle.share_core.specs.declared.pools.Pool.{Pool}
use Rattle.share_core.specs.declared.touches.Touch.{Touch}
use Rattle.share_core.specs.declared.touches.Touch.TheVariants as touches
use Rattle.share_core.proofs.Meets.{can_namespace, can_object, is_object}
use Rattle.share_core.proofs.OneGrants.{one_grant, may_by}
use Rattle.audit_core.specs.Reached.{IsInPool, IsListedCall, IsOf}
use Rattle.audit_core.specs.Giving.{covers_some, gives_some, takes_some, reaches_some, some_reaches}
use Rattle.audit_core.specs.declared.cell.Letter.{Letter}
use Rattle.audit_core.specs.declared.cell.Letter.TheVariants as letters

abbrev pub Entry : Type 0
Entry = List ℕ × AllowGrant

pub or_later : (a b : Bool) → b ≡ true → (a || b) ≡ true
or_later true b h = refl
or_later false b h = h

pub or_second : (a b : Bool) → a ≡ false → (a || b) ≡ true → b ≡ true
or_second true b e h = absurd (false≢true (sym e))
or_second false b e h = h

pub asked_so : (asked can : Bool) → asked ≡ true → (not asked || can) ≡ true → can ≡ true
asked_so true can e h = h
asked_so false can e h = absurd (false≢true e)

-- the four tests of a grant and a target

pub matched : (g : AllowGrant) (pool : Pool) (target : Target) → IsInPool pool target → is_for g pool ≡ true → matches_namespace g.namespace target.namespace ≡ true
    → matches_prefix g.prefix target.object ≡ true → matches g target ≡ true
matched g pool target (named, tagged) h n o =
    both _ _
    (both _ _
    (both _ _ (subst (λ name. names g.pool name ≡ true) (sym named) (both_left (names g.pool pool.name) _ h)) n)
    (subst (λ tags. matches_tag g.tag tags ≡ true) (sym tagged) (both_right (names g.pool pool.name) _ h))) o

abbrev first_two : AllowGrant → Target → Bool
first_two g target = names g.pool target.pool && matches_namespace g.namespace target.namespace

abbrev first_three : AllowGrant → Target → Bool
first_three g target = first_two g target && matches_tag g.tag target.tags

pub pool_matched : (g : AllowGrant) (pool : Pool) (target : Target) → IsInPool pool target → matches g target ≡ true → is_for g pool ≡ true
pool_matched g pool target (named, tagged) h =
    let third = both_left (first_three g target) _ h in
    let second = both_left (first_two g target) _ third in
    both _ _
    (subst (λ name. names g.pool name ≡ true) named (both_left (names g.pool target.pool) _ second))
    (subst (λ tags. matches_tag g.tag tags ≡ true) tagged (both_right (first_two g target) _ third))

pub namespace_matched : (g : AllowGrant) (target : Target) → matches g target ≡ true → matches_namespace g.namespace target.namespace ≡ true
namespace_matched g target h = both_right (names g.pool target.pool) _ (both_left (first_two g target) _ (both_left (first_three g target) _ h))

pub prefix_matched : (g : AllowGrant) (target : Target) → matches g target ≡ true → matches_prefix g.prefix target.object ≡ true
prefix_matched g target h = both_right (first_three g target) _ h

-- a target of an object, or the listing, that a grant takes

meets_none : (o : Option NsMatch) → namespaces_meet o None ≡ true
meets_none None = refl
meets_none (Some (Exact name)) = refl
meets_none (Some (Prefix prefix)) = refl

prefix_meets_none : (o : Option (List ℕ)) → prefixes_meet o None ≡ true
prefix_meets_none None = refl
prefix_meets_none (Some prefix) = refl

abbrev pub target_of : Pool → AllowGrant → Target
target_of pool g = record { pool = pool.name; tags = pool.tags; namespace = common_namespace g.namespace None; object = common_object g.prefix None }

abbrev pub listing_of : Pool → AllowGrant → Target
listing_of pool g = record { pool = pool.name; tags = pool.tags; namespace = common_namespace g.namespace None; object = [] }

target_matched : (pool : Pool) (g : AllowGrant) → is_for g pool ≡ true → matches g (target_of pool g) ≡ true
target_matched pool g h =
    matched g pool (target_of pool g) (refl, refl) h ((can_namespace g.namespace None (meets_none g.namespace)).0) ((can_object g.prefix None (prefix_meets_none g.prefix)).0)

takes_listing : (o : Option (List ℕ)) → is_none o ≡ true → matches_prefix o [] ≡ true
takes_listing None h = refl
takes_listing (Some prefix) h = absurd (false≢true h)

pub taken_listing : (o : Option (List ℕ)) → matches_prefix o [] ≡ true → is_none o ≡ true
taken_listing None h = refl
taken_listing (Some prefix) h = absurd (false≢true h)

listing_matched : (pool : Pool) (g : AllowGrant) → is_for g pool ≡ true → is_none g.prefix ≡ true → matches g (listing_of pool g) ≡ true
listing_matched pool g h none =
    matched g pool (listing_of pool g) (refl, refl) h ((can_namespace g.namespace None (meets_none g.namespace)).0) (takes_listing g.prefix none)

-- a call that an access covers, where it covers some

record CoveredCall (access : Access) : Type 0 where
  call : ClassCall
  listed : IsListedCall call
  covered : covers access call ≡ true

method_of : Option (List ℕ) → List ℕ
method_of None = []
method_of (Some method) = method

named_method : (method : Option (List ℕ)) → names method (method_of method) ≡ true
unfolding method_of
named_method None = refl
named_method (Some method) = text_same method method refl

covered_call : (access : Access) → covers_some access ≡ true → CoveredCall access
covered_call accesses.All h = record { call = record { class = []; method = []; class_reads = true; class_writes = false; listed = true }; listed = (refl, refl); covered = refl }
covered_call (accesses.Flags flags) h = elim (true_or_false flags.class_read) [
  | inl reads ↦ record { call = record { class = []; method = []; class_reads = true; class_writes = false; listed = true }; listed = (refl, refl); covered = both _ _ reads refl }
  | inr other ↦ record {
    call = record { class = []; method = []; class_reads = false; class_writes = true; listed = true };
    listed = (refl, refl);
    covered = or_second flags.class_read _ other h;
  }
]
covered_call (accesses.Class class method) h = record {
  call = record { class = class; method = method_of method; class_reads = true; class_writes = false; listed = true };
  listed = (refl, refl);
  covered = both _ _ (text_same class class refl) (named_method method);
}

-- a request of a letter that grants allow
pub record Allowed (grants : List Entry) (pool : Pool) (letter : Letter) : Type 0 where
  pub target : Target
  pub needs : Needs
  pub inside : IsInPool pool target
  pub is : IsOf letter target needs
  pub allowed : grants_allow grants target needs ≡ true

allowed_so : (grants : List Entry) (target : Target) (needs : Needs) (found : Needs) → found ≡ needs → grants_allow grants target found ≡ true → grants_allow grants target needs ≡ true
allowed_so grants target needs found is h = subst (λ n. grants_allow grants target n ≡ true) is h

pub read_allowed : (grants : List Entry) (target : Target) (i : ℕ) (entry : Entry) → slice_get grants i ≡ Some entry → matches entry.1 target ≡ true → can_read entry.1.access ≡ true
    → grants_allow grants target a_read ≡ true
read_allowed grants target i entry at m can =
    let found : May grants target touches.Read = may_by grants target touches.Read i entry at m can in
    allowed_so grants target a_read found.0 found.1 found.2

pub write_allowed : (grants : List Entry) (target : Target) (i : ℕ) (entry : Entry) → slice_get grants i ≡ Some entry → matches entry.1 target ≡ true → can_write entry.1.access ≡ true
    → grants_allow grants target a_write ≡ true
write_allowed grants target i entry at m can =
    let found : May grants target touches.Write = may_by grants target touches.Write i entry at m can in
    allowed_so grants target a_write found.0 found.1 found.2

pub call_allowed : (grants : List Entry) (target : Target) (call : ClassCall) (i : ℕ) (entry : Entry) → slice_get grants i ≡ Some entry → matches entry.1 target ≡ true
    → covers entry.1.access call ≡ true → grants_allow grants target (a_call call) ≡ true
call_allowed grants target call i entry at m can =
    let found : May grants target (touches.Call call) = may_by grants target (touches.Call call) i entry at m can in
    allowed_so grants target (a_call call) found.0 found.1 found.2

no_calls : AreNeeded Every a_read
no_calls = record { calls = All-nil (IsCallBy Every); few = lit≤ tt; something = refl }

no_calls_written : AreNeeded Every a_write
no_calls_written = record { calls = All-nil (IsCallBy Every); few = lit≤ tt; something = refl }

one_call : (call : ClassCall) → IsListedCall call → AreNeeded Every (a_call call)
one_call call listed = record { calls = All-cons (IsCallBy Every) call [] listed.1 (All-nil (IsCallBy Every)); few = lit≤ tt; something = refl }

by_entry : (letter : Letter) (pool : Pool) (grants : List Entry) (i : ℕ) (entry : Entry) → slice_get grants i ≡ Some entry → is_for entry.1 pool ≡ true
    → gives_some letter entry.1.access ≡ true → takes_some letter entry.1.prefix ≡ true → Allowed grants pool letter
by_entry letters.Read pool grants i entry at h g t = record {
  target = target_of pool entry.1;
  needs = a_read;
  inside = (refl, refl);
  is = (is_object entry.1.prefix None, refl);
  allowed = read_allowed grants _ i entry at (target_matched pool entry.1 h) g;
}
by_entry letters.Write pool grants i entry at h g t = record {
  target = target_of pool entry.1;
  needs = a_write;
  inside = (refl, refl);
  is = (is_object entry.1.prefix None, refl);
  allowed = write_allowed grants _ i entry at (target_matched pool entry.1 h) g;
}
by_entry letters.Listing pool grants i entry at h g t = record {
  target = listing_of pool entry.1;
  needs = a_read;
  inside = (refl, refl);
  is = (refl, refl);
  allowed = read_allowed grants _ i entry at (listing_matched pool entry.1 h t) g;
}
by_entry letters.Call pool grants i entry at h g t =
    let found = covered_call entry.1.access g in
    record {
      target = target_of pool entry.1;
      needs = a_call found.call;
      inside = (refl, refl);
      is = (is_object entry.1.prefix None, (found.call, found.listed, refl));
      allowed = call_allowed grants _ found.call i entry at (target_matched pool entry.1 h) found.covered;
    }
by_entry letters.Any pool grants i entry at h g t = elim (true_or_false (can_read entry.1.access)) [
  | inl reads ↦ record {
    target = target_of pool entry.1;
    needs = a_read;
    inside = (refl, refl);
    is = (λ e. absurd (is_object entry.1.prefix None e), no_calls);
    allowed = read_allowed grants _ i entry at (target_matched pool entry.1 h) reads;
  }
  | inr not_read ↦ (elim (true_or_false (can_write entry.1.access)) [
    | inl writes ↦ record {
      target = target_of pool entry.1;
      needs = a_write;
      inside = (refl, refl);
      is = (λ e. absurd (is_object entry.1.prefix None e), no_calls_written);
      allowed = write_allowed grants _ i entry at (target_matched pool entry.1 h) writes;
    }
    | inr not_written ↦ (
        let found = covered_call entry.1.access (or_second (can_write entry.1.access) _ not_written (or_second (can_read entry.1.access) _ not_read g)) in
        record {
          target = target_of pool entry.1;
          needs = a_call found.call;
          inside = (refl, refl);
          is = (λ e. absurd (is_object entry.1.prefix None e), one_call found.call found.listed);
          allowed = call_allowed grants _ found.call i entry at (target_matched pool entry.1 h) found.covered;
        }
        )
  ])
]

-- one grant that reaches some request allows one
pub some_given : (letter : Letter) (pool : Pool) (grants : List Entry) → some_reaches letter pool grants ≡ true → Allowed grants pool letter
some_given letter pool grants h =
    let found = some_pass (λ (entry : Entry). reaches_some letter pool entry.1) grants h in
    let entry : Entry = found.1.0 in
    let rest = both_right (is_for entry.1 pool) _ found.1.1.1 in
    by_entry letter pool grants found.0 entry found.1.1.0 (both_left (is_for entry.1 pool) _ found.1.1.1) (both_left (gives_some letter entry.1.access) _ rest)
    (both_right (gives_some letter entry.1.access) _ rest)

-- and whatever is allowed is allowed by such a grant

reached_by : (letter : Letter) (pool : Pool) (grants : List Entry) (i : ℕ) (entry : Entry) → slice_get grants i ≡ Some entry → is_for entry.1 pool ≡ true
    → gives_some letter entry.1.access ≡ true → takes_some letter entry.1.prefix ≡ true → some_reaches letter pool grants ≡ true
reached_by letter pool grants i entry at h g t = any_at (λ (entry : Entry). reaches_some letter pool entry.1) grants i entry at (both _ _ h (both _ _ g t))

covering_some : (access : Access) (call : ClassCall) → (call.class_reads || call.class_writes) ≡ true → covers access call ≡ true → covers_some access ≡ true
covering_some accesses.All call does h = refl
covering_some (accesses.Class class method) call does h = refl
covering_some (accesses.Flags flags) call does h =
    let front = both_left (call.listed && (not call.class_reads || flags.class_read)) _ h in
    elim (true_or_false call.class_reads) [
      | inl reads ↦ either_first flags.class_read _ (asked_so call.class_reads flags.class_read reads (both_right call.listed _ front))
      | inr other ↦ or_later flags.class_read _ (
          asked_so call.class_writes flags.class_write (or_second call.class_reads _ other does)
          (both_right (call.listed && (not call.class_reads || flags.class_read)) _ h)
          )
    ]

reading_some : (access : Access) → calls_reading access ≡ true → covers_some access ≡ true
reading_some accesses.All h = refl
reading_some (accesses.Class class method) h = refl
reading_some (accesses.Flags flags) h = either_first flags.class_read _ h

writing_some : (access : Access) → calls_writing access ≡ true → covers_some access ≡ true
writing_some accesses.All h = refl
writing_some (accesses.Class class method) h = refl
writing_some (accesses.Flags flags) h = or_later flags.class_read _ h

any_reading : (access : Access) → (can_read access || calls_reading access) ≡ true → gives_some letters.Any access ≡ true
any_reading access h = elim (true_or_false (can_read access)) [
  | inl reads ↦ either_first (can_read access) _ reads
  | inr other ↦ or_later (can_read access) _ (or_later (can_write access) _ (reading_some access (or_second (can_read access) _ other h)))
]

any_writing : (access : Access) → (can_write access || calls_writing access) ≡ true → gives_some letters.Any access ≡ true
any_writing access h = or_later (can_read access) _ (elim (true_or_false (can_write access)) [
  | inl writes ↦ either_first (can_write access) _ writes
  | inr other ↦ or_later (can_write access) _ (writing_some access (or_second (can_write access) _ other h))
])

-- a request reads or writes in some way

first_call : (needs : Needs) → needs.reads ≡ false → needs.writes ≡ false → AreNeeded Every needs → (reads_so needs ≡ true) ⊎ (writes_so needs ≡ true)
first_call needs r w are = go needs.calls are.calls (or_second needs.writes _ w (or_second needs.reads _ r are.something))
  where
    go : (calls : List ClassCall) → All (IsCallBy Every) calls → not (length calls == 0) ≡ true
        → ((needs.reads || list_any (λ (call : ClassCall). call.class_reads) calls) ≡ true) ⊎ ((needs.writes || list_any (λ (call : ClassCall). call.class_writes) calls) ≡ true)
    go [] all h = absurd (false≢true h)
    go (call ∷ calls) all h =
        let does : (call.class_reads || call.class_writes) ≡ true = All-head (IsCallBy Every) call calls all in
        elim (true_or_false call.class_reads) [
          | inl reads ↦ inl (or_later needs.reads _ (either_first call.class_reads _ reads))
          | inr other ↦ inr (or_later needs.writes _ (either_first call.class_writes _ (or_second call.class_reads _ other does)))
        ]

asks_so : (needs : Needs) → AreNeeded Every needs → (reads_so needs ≡ true) ⊎ (writes_so needs ≡ true)
asks_so needs are = elim (true_or_false needs.reads) [
  | inl reads ↦ inl (either_first needs.reads _ reads)
  | inr not_read ↦ (elim (true_or_false needs.writes) [ inl writes ↦ inr (either_first needs.writes _ writes) | inr not_written ↦ first_call needs not_read not_written are ])
]

pub so_given : (letter : Letter) (pool : Pool) (grants : List Entry) (target : Target) (needs : Needs) → IsInPool pool target → IsOf letter target needs
    → grants_allow grants target needs ≡ true → some_reaches letter pool grants ≡ true
so_given letters.Read pool grants target needs inside (object, is) h =
    let one = one_grant grants target touches.Read (needs, is, h) in
    reached_by letters.Read pool grants one.index one.entry one.at (pool_matched one.entry.1 pool target inside one.matched) one.given refl
so_given letters.Write pool grants target needs inside (object, is) h =
    let one = one_grant grants target touches.Write (needs, is, h) in
    reached_by letters.Write pool grants one.index one.entry one.at (pool_matched one.entry.1 pool target inside one.matched) one.given refl
so_given letters.Listing pool grants target needs inside (object, is) h =
    let one = one_grant grants target touches.Read (needs, is, h) in
    reached_by letters.Listing pool grants one.index one.entry one.at (pool_matched one.entry.1 pool target inside one.matched) one.given
    (taken_listing one.entry.1.prefix (subst (λ name. matches_prefix one.entry.1.prefix name ≡ true) object (prefix_matched one.entry.1 target one.matched)))
so_given letters.Call pool grants target needs inside (object, (call, listed, is)) h =
    let one = one_grant grants target (touches.Call call) (needs, is, h) in
    reached_by letters.Call pool grants one.index one.entry one.at (pool_matched one.entry.1 pool target inside one.matched)
    (covering_some one.entry.1.access call listed.1 one.given) refl
so_given letters.Any pool grants target needs inside (plain, are) h = elim (asks_so needs are) [
  | inl reads ↦ (
      let one = one_grant grants target touches.AnyRead (needs, reads, h) in
      reached_by letters.Any pool grants one.index one.entry one.at (pool_matched one.entry.1 pool target inside one.matched) (any_reading one.entry.1.access one.given) refl
      )
  | inr writes ↦ (
      let one = one_grant grants target touches.AnyWrite (needs, writes, h) in
      reached_by letters.Any pool grants one.index one.entry one.at (pool_matched one.entry.1 pool target inside one.matched) (any_writing one.entry.1.access one.given) refl
      )
]
