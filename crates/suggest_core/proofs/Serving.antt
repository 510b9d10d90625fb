-- The flags of a region serve each request seen there that reads or writes.
use Rattle.std.proofs.Common.{◌≡◌, ℕ, List, Bool, true, false, not, ◌&&◌, ◌||◌, cond, refl, sym, ap, subst, ◌∙◌, inl, inr}
use Rattle.std.specs.List.{list_any, Contains}
use Rattle.std.proofs.lemmas.Bool.{false≢true}
use Rattle.cap_grants.specs.declared.grant.AllowGrant.{AllowGrant}
use Rattle.cap_grants.specs.declared.grant.Access.{Access}
use Rattle.cap_grants.specs.declared.grant.Access.TheVariants.{All, Flags, Class}
use Rattle.cap_grants.specs.declared.grant.Flags.{Flags as FlagSet}
use Rattle.request_types.specs.Target.{Target}
use Rattle.request_types.specs.declared.request.Needs.{Needs}
use Rattle.request_types.specs.declared.request.ClassCall.{ClassCall}
use Rattle.verdict_core.specs.Verdict.{can_read, can_write, covers, grants_allow, is_covered, is_usable, matches}
use Rattle.compare_core.proofs.Bools.{both}
use Rattle.suggest_core.specs.declared.grain.Grain.{Grain}
use Rattle.suggest_core.specs.declared.seen.Seen.{Seen}
use Rattle.suggest_core.specs.Grain.{access_for, is_class, moves, some_moving}
use Rattle.suggest_core.specs.Region.{grant_for, is_in, region_of}
use Rattle.suggest_core.specs.declared.region.Region.{Region}
use Rattle.suggest_core.specs.Parts.{Comes, HasFlags, IsMovingGrant}
use Rattle.suggest_core.proofs.Members.{all_from, any_contains}
use Rattle.suggest_core.proofs.Regions.{in_own, matched_region, matches_own, usable_from, usable_matches, usable_reads, usable_writes}

pub implies_or : (a b : Bool) → (a ≡ true → b ≡ true) → (not a || b) ≡ true
implies_or true b h = h refl
implies_or false b h = refl

pub or_implies : (a b : Bool) → (not a || b) ≡ true → a ≡ true → b ≡ true
or_implies true b h k = h
or_implies false b h k = absurd (false≢true k)

-- an access gives what a request that reads or writes needs
pub record Serves (access : Access) (needs : Needs) : Type 0 where
  pub reads : (not needs.reads || can_read access) ≡ true
  pub writes : (not needs.writes || can_write access) ≡ true
  pub calls : (call : ClassCall) → Contains needs.calls call → covers access call ≡ true

-- some request seen moves in a region and passes
pub moving_there : (seen : List Seen) (region : Region) (test : Needs → Bool) (request : Seen) → Contains seen request → is_in region request.target ≡ true → moves request.needs ≡ true → test request.needs ≡ true
    → some_moving seen region test ≡ true
moving_there seen region test request there inside moving passes =
    any_contains (λ (request : Seen). (is_in region request.target && moves request.needs) && test request.needs) seen request there (both _ _ (both _ _ inside moving) passes)

reads_by : (all : Bool) (flags : FlagSet) (reads : Bool) → (reads ≡ true → flags.read ≡ true) → (not reads || can_read (cond all All (Flags flags))) ≡ true
reads_by true flags reads h = implies_or reads true (λ k. refl)
reads_by false flags reads h = implies_or reads flags.read h

writes_by : (all : Bool) (flags : FlagSet) (writes : Bool) → (writes ≡ true → flags.write ≡ true) → (not writes || can_write (cond all All (Flags flags))) ≡ true
writes_by true flags writes h = implies_or writes true (λ k. refl)
writes_by false flags writes h = implies_or writes flags.write h

covers_by : (all : Bool) (flags : FlagSet) (call : ClassCall) → (all ≡ false → call.listed ≡ true) → (call.class_reads ≡ true → flags.class_read ≡ true) → (call.class_writes ≡ true → flags.class_write ≡ true)
    → covers (cond all All (Flags flags)) call ≡ true
covers_by true flags call l r w = refl
covers_by false flags call l r w = both _ _ (both _ _ (l refl) (implies_or _ _ r)) (implies_or _ _ w)

not_false : (a : Bool) → (not a ≡ true → ⊥) → a ≡ true
not_false true h = refl
not_false false h = absurd (h refl)

pub serves : (grain : Grain) (seen : List Seen) (request : Seen) → Contains seen request → moves request.needs ≡ true → Serves (access_for seen (region_of grain seen request.target)) request.needs
serves grain seen request there moving =
    let region : Region = region_of grain seen request.target in
    let here : (test : Needs → Bool) → test request.needs ≡ true → some_moving seen region test ≡ true =
    λ test passes. moving_there seen region test request there (in_own grain seen request there) moving passes in
    let all : Bool = some_moving seen region (λ needs. list_any (λ (call : ClassCall). not call.listed) needs.calls) in
    let flags : FlagSet = record {
      read = some_moving seen region (λ needs. needs.reads);
      write = some_moving seen region (λ needs. needs.writes);
      class_read = some_moving seen region (λ needs. list_any (λ (call : ClassCall). call.class_reads) needs.calls);
      class_write = some_moving seen region (λ needs. list_any (λ (call : ClassCall). call.class_writes) needs.calls);
    } in
    record {
      reads = reads_by all flags request.needs.reads (here (λ needs. needs.reads));
      writes = writes_by all flags request.needs.writes (here (λ needs. needs.writes));
      calls = λ call called. covers_by all flags call
          (λ none. not_false call.listed (λ unlisted. false≢true (sym none ∙ here (λ needs. list_any (λ (call : ClassCall). not call.listed) needs.calls) (any_contains (λ (call : ClassCall). not call.listed) request.needs.calls call called unlisted))))
          (λ reads. here (λ needs. list_any (λ (call : ClassCall). call.class_reads) needs.calls) (any_contains (λ (call : ClassCall). call.class_reads) request.needs.calls call called reads))
          (λ writes. here (λ needs. list_any (λ (call : ClassCall). call.class_writes) needs.calls) (any_contains (λ (call : ClassCall). call.class_writes) request.needs.calls call called writes));
    }

-- a grant of a request's region whose access serves it is usable
pub usable_served : (grain : Grain) (seen : List Seen) (access : Access) (request : Seen) → Contains seen request → Serves access request.needs → is_usable (grant_for (region_of grain seen request.target) access) request.target request.needs ≡ true
usable_served grain seen access request there served = usable_from (grant_for (region_of grain seen request.target) access) request.target request.needs (matches_own grain seen access request there) served.reads served.writes

-- grants that have the flags of its region allow a request
pub allowed_by_flags : (grain : Grain) (seen : List Seen) (entries : List (List ℕ × AllowGrant)) (request : Seen) → Contains seen request → moves request.needs ≡ true → HasFlags grain seen entries request
    → grants_allow entries request.target request.needs ≡ true
allowed_by_flags grain seen entries request there moving has =
    let served = serves grain seen request there moving in
    let access : Access = access_for seen (region_of grain seen request.target) in
    let useful : is_usable has.0.1 request.target request.needs ≡ true =
    subst (λ g. is_usable g request.target request.needs ≡ true) (sym has.2) (usable_served grain seen access request there served) in
    let same : has.0.1.access ≡ access = ap (λ (g : AllowGrant). g.access) has.2 in
    both _ _
    (any_contains (λ (entry : List ℕ × AllowGrant). is_usable entry.1 request.target request.needs) entries has.0 has.1 useful)
    (all_from (is_covered entries request.target request.needs) request.needs.calls
    (λ call called. any_contains (λ (entry : List ℕ × AllowGrant). is_usable entry.1 request.target request.needs && covers entry.1.access call) entries has.0 has.1
    (both _ _ useful (subst (λ a. covers a call ≡ true) (sym same) (served.calls call called)))))

-- a grant of a method is not usable for a request that reads or writes
class_stays : (reads writes : Bool) → (not reads || false) ≡ true → (not writes || false) ≡ true → (reads || writes) ≡ true → ⊥
class_stays true writes r w m = false≢true r
class_stays false true r w m = false≢true w
class_stays false false r w m = false≢true m

is_class_by : (access : Access) (needs : Needs) → (not needs.reads || can_read access) ≡ true → (not needs.writes || can_write access) ≡ true → moves needs ≡ true → is_class access ≡ false
is_class_by All needs r w m = refl
is_class_by (Flags flags) needs r w m = refl
is_class_by (Class class method) needs r w m = absurd (class_stays needs.reads needs.writes r w m)

pub no_class : (g : AllowGrant) (target : Target) (needs : Needs) → is_usable g target needs ≡ true → moves needs ≡ true → is_class g.access ≡ false
no_class g target needs useful moving = is_class_by g.access needs (usable_reads g target needs useful) (usable_writes g target needs useful) moving

-- a grant of the suggestion that is usable for a request that reads or writes is that of the request's region
pub usable_is_moving : (grain : Grain) (seen : List Seen) (grant : AllowGrant) (request : Seen) → IsMovingGrant grain seen grant → is_usable grant request.target request.needs ≡ true
    → grant ≡ grant_for (region_of grain seen request.target) (access_for seen (region_of grain seen request.target))
usable_is_moving grain seen grant request comes useful =
    let matched : matches (grant_for (region_of grain seen comes.request.target) (access_for seen (region_of grain seen comes.request.target))) request.target ≡ true =
    subst (λ g. matches g request.target ≡ true) comes.is (usable_matches grant request.target request.needs useful) in
    comes.is ∙ ap (λ region. grant_for region (access_for seen region)) (sym (matched_region grain seen (access_for seen (region_of grain seen comes.request.target)) request.target comes.request.target matched))

pub usable_comes : (grain : Grain) (seen : List Seen) (grant : AllowGrant) (request : Seen) → Comes grain seen grant → moves request.needs ≡ true → is_usable grant request.target request.needs ≡ true
    → grant ≡ grant_for (region_of grain seen request.target) (access_for seen (region_of grain seen request.target))
usable_comes grain seen grant request (inl comes) moving useful = usable_is_moving grain seen grant request comes useful
usable_comes grain seen grant request (inr comes) moving useful =
    absurd (false≢true (sym (no_class grant request.target request.needs useful moving) ∙ ap (λ (g : AllowGrant). is_class g.access) comes.is))
