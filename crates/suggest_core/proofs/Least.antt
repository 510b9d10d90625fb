-- A text of the grain that allows all requests seen allows all that the suggestion allows.
use Rattle.std.proofs.Common.{◌≡◌, ℕ, List, Bool, true, false, not, ◌&&◌, ◌||◌, cond, Some, refl, sym, ap, subst, ◌∙◌, inl, inr}
use Rattle.std.specs.List.{list_any, Contains}
use Rattle.std.proofs.lemmas.Bool.{false≢true}
use Rattle.cap_grants.specs.declared.grant.AllowGrant.{AllowGrant}
use Rattle.cap_grants.specs.declared.grant.Access.{Access}
use Rattle.cap_grants.specs.declared.grant.Access.TheVariants.{All, Flags, Class}
use Rattle.cap_grants.specs.declared.grant.Flags.{Flags as FlagSet}
use Rattle.request_types.specs.Target.{Target}
use Rattle.request_types.specs.declared.request.Needs.{Needs}
use Rattle.request_types.specs.declared.request.ClassCall.{ClassCall}
use Rattle.verdict_core.specs.Verdict.{can_read, can_write, covers, is_covered, is_usable, matches}
use Rattle.compare_core.proofs.Bools.{both, both_left, both_right, negated}
use Rattle.suggest_core.specs.declared.grain.Grain.{Grain}
use Rattle.suggest_core.specs.declared.seen.Seen.{Seen}
use Rattle.suggest_core.specs.Grain.{IsOfGrain, access_for, is_class, moves, some_moving}
use Rattle.suggest_core.specs.Region.{grant_for, is_in, region_of}
use Rattle.suggest_core.specs.declared.region.Region.{Region}
use Rattle.suggest_core.specs.Suggestion.{AllowsSeen, IsLeast, IsSeenCall}
use Rattle.suggest_core.specs.Parts.{Comes, IsCallGrant, IsMovingGrant}
use Rattle.suggest_core.proofs.Members.{all_contains, all_from, any_contains, some_contains}
use Rattle.suggest_core.proofs.Regions.{matched_region, same_bytes, same_region, usable_from, usable_matches, usable_reads, usable_writes}
use Rattle.suggest_core.proofs.Serving.{Serves, implies_or, no_class, or_implies}

abbrev Entry : Type 0
Entry = List ℕ × AllowGrant

-- a grant of the text that is usable for a request is for the request's region
in_region : (grain : Grain) (seen : List Seen) (text : List Entry) (entry : Entry) (request : Seen) → IsOfGrain grain seen text → Contains text entry → is_usable entry.1 request.target request.needs ≡ true
    → entry.1 ≡ grant_for (region_of grain seen request.target) entry.1.access
in_region grain seen text entry request of_grain there useful =
    let from = of_grain.regions entry there in
    let matched : matches (grant_for (region_of grain seen from.0.target) entry.1.access) request.target ≡ true =
    subst (λ g. matches g request.target ≡ true) from.2 (usable_matches entry.1 request.target request.needs useful) in
    from.2 ∙ ap (λ region. grant_for region entry.1.access) (sym (matched_region grain seen entry.1.access request.target from.0.target matched))

-- two grants of the text that are usable for requests of one region that read or write give the same
same_access : (grain : Grain) (seen : List Seen) (text : List Entry) (entry other : Entry) (one two : Seen) → IsOfGrain grain seen text → Contains text entry → Contains text other
    → is_usable entry.1 one.target one.needs ≡ true → is_usable other.1 two.target two.needs ≡ true → moves one.needs ≡ true → moves two.needs ≡ true
    → region_of grain seen two.target ≡ region_of grain seen one.target → other.1.access ≡ entry.1.access
same_access grain seen text entry other one two of_grain there there_too useful useful_too moving moving_too same =
    let is : entry.1 ≡ grant_for (region_of grain seen one.target) entry.1.access = in_region grain seen text entry one of_grain there useful in
    let is_too : other.1 ≡ grant_for (region_of grain seen one.target) other.1.access =
    in_region grain seen text other two of_grain there_too useful_too ∙ ap (λ region. grant_for region other.1.access) same in
    of_grain.one other entry there_too there (no_class other.1 two.target two.needs useful_too moving_too) (no_class entry.1 one.target one.needs useful moving)
    (ap (λ (g : AllowGrant). g.pool) is_too ∙ sym (ap (λ (g : AllowGrant). g.pool) is))
    (ap (λ (g : AllowGrant). g.namespace) is_too ∙ sym (ap (λ (g : AllowGrant). g.namespace) is))

-- the text's access for a region serves each request seen there that reads or writes
serves_there : (grain : Grain) (seen : List Seen) (text : List Entry) (entry : Entry) (one two : Seen) → IsOfGrain grain seen text → AllowsSeen seen text → Contains text entry
    → is_usable entry.1 one.target one.needs ≡ true → moves one.needs ≡ true → Contains seen two → moves two.needs ≡ true → region_of grain seen two.target ≡ region_of grain seen one.target
    → Serves entry.1.access two.needs
serves_there grain seen text entry one two of_grain allows there useful moving seen_too moving_too same =
    let allowed = allows two seen_too in
    let found = some_contains (λ (e : Entry). is_usable e.1 two.target two.needs) text (both_left _ _ allowed) in
    let access_is : found.0.1.access ≡ entry.1.access = same_access grain seen text entry found.0 one two of_grain there found.1 useful found.2 moving moving_too same in
    record {
      reads = subst (λ (a : Access). (not two.needs.reads || can_read a) ≡ true) access_is (usable_reads found.0.1 two.target two.needs found.2);
      writes = subst (λ (a : Access). (not two.needs.writes || can_write a) ≡ true) access_is (usable_writes found.0.1 two.target two.needs found.2);
      calls = λ call called.
          let covered = all_contains (is_covered text two.target two.needs) two.needs.calls call (both_right (list_any (λ (e : Entry). is_usable e.1 two.target two.needs) text) _ allowed) called in
          let by = some_contains (λ (e : Entry). is_usable e.1 two.target two.needs && covers e.1.access call) text covered in
          let useful_by : is_usable by.0.1 two.target two.needs ≡ true = both_left _ _ by.2 in
          subst (λ a. covers a call ≡ true) (same_access grain seen text entry by.0 one two of_grain there by.1 useful useful_by moving moving_too same)
          (both_right (is_usable by.0.1 two.target two.needs) _ by.2);
    }

-- an access gives all that another one gives
record AtLeast (less more : Access) : Type 0 where
  reads : can_read less ≡ true → can_read more ≡ true
  writes : can_write less ≡ true → can_write more ≡ true
  calls : (call : ClassCall) → covers less call ≡ true → covers more call ≡ true

only_all : (access : Access) (call : ClassCall) → is_class access ≡ false → covers access call ≡ true → call.listed ≡ false → All ≡ access
only_all All call k c l = refl
only_all (Flags flags) call k c l = absurd (false≢true (sym l ∙ both_left _ _ (both_left (call.listed && (not call.class_reads || flags.class_read)) _ c)))
only_all (Class class method) call k c l = absurd (false≢true (sym k))

all_least : (access : Access) → All ≡ access → (less : Access) → AtLeast less access
all_least access is less = subst (λ more. AtLeast less more) is (record { reads = λ h. refl; writes = λ h. refl; calls = λ call h. refl })

-- flags are not more than an access that gives each of them where it is set
flags_least : (flags : FlagSet) (access : Access) → is_class access ≡ false → (flags.read ≡ true → can_read access ≡ true) → (flags.write ≡ true → can_write access ≡ true)
    → (flags.class_read ≡ true → (call : ClassCall) × (call.class_reads ≡ true) × (covers access call ≡ true)) → (flags.class_write ≡ true → (call : ClassCall) × (call.class_writes ≡ true) × (covers access call ≡ true))
    → AtLeast (Flags flags) access
flags_least flags All k r w cr cw = all_least All refl (Flags flags)
flags_least flags (Class class method) k r w cr cw = absurd (false≢true (sym k))
flags_least flags (Flags more) k r w cr cw = record {
  reads = r;
  writes = w;
  calls = λ call h.
      let first = both_left (call.listed && (not call.class_reads || flags.class_read)) _ h in
      both _ _
      (both _ _ (both_left call.listed _ first)
      (implies_or call.class_reads more.class_read (λ reads. by_read (cr (or_implies call.class_reads flags.class_read (both_right call.listed _ first) reads)))))
      (implies_or call.class_writes more.class_write (λ writes. by_write (cw (or_implies call.class_writes flags.class_write (both_right (call.listed && (not call.class_reads || flags.class_read)) _ h) writes))));
}
  where
    by_read : ((call : ClassCall) × (call.class_reads ≡ true) × (covers (Flags more) call ≡ true)) → more.class_read ≡ true
    by_read found = or_implies found.0.class_reads more.class_read (both_right found.0.listed _ (both_left (found.0.listed && (not found.0.class_reads || more.class_read)) _ found.2)) found.1

    by_write : ((call : ClassCall) × (call.class_writes ≡ true) × (covers (Flags more) call ≡ true)) → more.class_write ≡ true
    by_write found = or_implies found.0.class_writes more.class_write (both_right (found.0.listed && (not found.0.class_reads || more.class_read)) _ found.2) found.1

-- a request that moves in a region and passes
some_there : (seen : List Seen) (region : Region) (test : Needs → Bool) → some_moving seen region test ≡ true
    → (request : Seen) × Contains seen request × (is_in region request.target ≡ true) × (moves request.needs ≡ true) × (test request.needs ≡ true)
some_there seen region test h =
    let found = some_contains (λ (request : Seen). (is_in region request.target && moves request.needs) && test request.needs) seen h in
    let first = both_left (is_in region found.0.target && moves found.0.needs) _ found.2 in
    (found.0, found.1, both_left _ _ first, both_right (is_in region found.0.target) _ first, both_right (is_in region found.0.target && moves found.0.needs) _ found.2)

-- what the suggestion gives in a region is not more than an access that serves all requests seen there that read or write
access_least : (seen : List Seen) (region : Region) (access : Access) → is_class access ≡ false
    → ((request : Seen) → Contains seen request → is_in region request.target ≡ true → moves request.needs ≡ true → Serves access request.needs)
    → AtLeast (access_for seen region) access
access_least seen region access k serving = by (some_moving seen region (λ needs. list_any (λ (call : ClassCall). not call.listed) needs.calls)) refl
  where
    calling : (test : ClassCall → Bool) → some_moving seen region (λ needs. list_any test needs.calls) ≡ true → (call : ClassCall) × (test call ≡ true) × (covers access call ≡ true)
    calling test h =
        let there = some_there seen region (λ needs. list_any test needs.calls) h in
        let found = some_contains test there.0.needs.calls there.4 in
        (found.0, found.2, (serving there.0 there.1 there.2 there.3).calls found.0 found.1)

    reading : some_moving seen region (λ needs. needs.reads) ≡ true → can_read access ≡ true
    reading h =
        let there = some_there seen region (λ needs. needs.reads) h in
        or_implies there.0.needs.reads (can_read access) (serving there.0 there.1 there.2 there.3).reads there.4

    writing : some_moving seen region (λ needs. needs.writes) ≡ true → can_write access ≡ true
    writing h =
        let there = some_there seen region (λ needs. needs.writes) h in
        or_implies there.0.needs.writes (can_write access) (serving there.0 there.1 there.2 there.3).writes there.4

    by : (all : Bool) → some_moving seen region (λ needs. list_any (λ (call : ClassCall). not call.listed) needs.calls) ≡ all → AtLeast (access_for seen region) access
    by true h =
        let unlisted = calling (λ (call : ClassCall). not call.listed) h in
        all_least access (only_all access unlisted.0 k unlisted.2 (negated unlisted.0.listed unlisted.1)) (access_for seen region)
    by false h =
        let flags : FlagSet = record {
          read = some_moving seen region (λ needs. needs.reads);
          write = some_moving seen region (λ needs. needs.writes);
          class_read = some_moving seen region (λ needs. list_any (λ (call : ClassCall). call.class_reads) needs.calls);
          class_write = some_moving seen region (λ needs. list_any (λ (call : ClassCall). call.class_writes) needs.calls);
        } in
        subst (λ (all : Bool). AtLeast (cond all All (Flags flags)) access) (sym h)
        (flags_least flags access k reading writing (calling (λ (call : ClassCall). call.class_reads)) (calling (λ (call : ClassCall). call.class_writes)))

-- a grant of the text stands for one of the suggestion: it is usable and covers wherever that one does
record StandsIn (seen : List Seen) (text : List Entry) (grant : AllowGrant) : Type 0 where
  entry : Entry
  there : Contains text entry
  useful : (target : Target) (needs : Needs) → is_usable grant target needs ≡ true → is_usable entry.1 target needs ≡ true
  covering : (call : ClassCall) → ((known : ClassCall) → IsSeenCall seen known → known.class ≡ call.class → known.method ≡ call.method → known ≡ call)
      → covers grant.access call ≡ true → covers entry.1.access call ≡ true

moving_stands : (grain : Grain) (seen : List Seen) (text : List Entry) (grant : AllowGrant) → IsOfGrain grain seen text → AllowsSeen seen text → IsMovingGrant grain seen grant → StandsIn seen text grant
moving_stands grain seen text grant of_grain allows comes =
    let one : Seen = comes.request in
    let region : Region = region_of grain seen one.target in
    let found = some_contains (λ (e : Entry). is_usable e.1 one.target one.needs) text (both_left _ _ (allows one comes.there)) in
    let is : found.0.1 ≡ grant_for region found.0.1.access = in_region grain seen text found.0 one of_grain found.1 found.2 in
    let least : AtLeast (access_for seen region) found.0.1.access =
    access_least seen region found.0.1.access (no_class found.0.1 one.target one.needs found.2 comes.moving)
    (λ two there inside moving. serves_there grain seen text found.0 one two of_grain allows found.1 found.2 comes.moving there moving (same_region grain seen one.target two.target inside)) in
    record {
      entry = found.0;
      there = found.1;
      useful = λ target needs h.
          let mine : is_usable (grant_for region (access_for seen region)) target needs ≡ true = subst (λ g. is_usable g target needs ≡ true) comes.is h in
          subst (λ g. is_usable g target needs ≡ true) (sym is)
          (usable_from (grant_for region found.0.1.access) target needs (usable_matches (grant_for region (access_for seen region)) target needs mine)
          (implies_or needs.reads _ (λ reads. least.reads (or_implies needs.reads _ (usable_reads (grant_for region (access_for seen region)) target needs mine) reads)))
          (implies_or needs.writes _ (λ writes. least.writes (or_implies needs.writes _ (usable_writes (grant_for region (access_for seen region)) target needs mine) writes))));
      covering = λ call known h. least.calls call (subst (λ (g : AllowGrant). covers g.access call ≡ true) comes.is h);
    }

call_stands : (grain : Grain) (seen : List Seen) (text : List Entry) (grant : AllowGrant) → IsOfGrain grain seen text → AllowsSeen seen text → IsCallGrant grain seen grant → StandsIn seen text grant
call_stands grain seen text grant of_grain allows comes =
    let one : Seen = comes.request in
    let region : Region = region_of grain seen one.target in
    let method : Access = Class comes.call.class (Some comes.call.method) in
    let covered = all_contains (is_covered text one.target one.needs) one.needs.calls comes.call (both_right (list_any (λ (e : Entry). is_usable e.1 one.target one.needs) text) _ (allows one comes.there)) comes.called in
    let found = some_contains (λ (e : Entry). is_usable e.1 one.target one.needs && covers e.1.access comes.call) text covered in
    let is : found.0.1 ≡ grant_for region found.0.1.access = in_region grain seen text found.0 one of_grain found.1 (both_left _ _ found.2) in
    record {
      entry = found.0;
      there = found.1;
      useful = λ target needs h.
          let mine : is_usable (grant_for region method) target needs ≡ true = subst (λ g. is_usable g target needs ≡ true) comes.is h in
          subst (λ g. is_usable g target needs ≡ true) (sym is)
          (usable_from (grant_for region found.0.1.access) target needs (usable_matches (grant_for region method) target needs mine)
          (implies_or needs.reads _ (λ reads. absurd (false≢true (or_implies needs.reads _ (usable_reads (grant_for region method) target needs mine) reads))))
          (implies_or needs.writes _ (λ writes. absurd (false≢true (or_implies needs.writes _ (usable_writes (grant_for region method) target needs mine) writes)))));
      covering = λ call known h.
          let mine : covers method call ≡ true = subst (λ (g : AllowGrant). covers g.access call ≡ true) comes.is h in
          let same : comes.call ≡ call = known comes.call (one, comes.there, comes.called) (same_bytes comes.call.class call.class (both_left _ _ mine)) (same_bytes comes.call.method call.method (both_right _ _ mine)) in
          subst (λ call. covers found.0.1.access call ≡ true) same (both_right (is_usable found.0.1 one.target one.needs) _ found.2);
    }

stands : (grain : Grain) (seen : List Seen) (text : List Entry) (grant : AllowGrant) → IsOfGrain grain seen text → AllowsSeen seen text → Comes grain seen grant → StandsIn seen text grant
stands grain seen text grant of_grain allows (inl comes) = moving_stands grain seen text grant of_grain allows comes
stands grain seen text grant of_grain allows (inr comes) = call_stands grain seen text grant of_grain allows comes

pub is_least : (grain : Grain) (seen : List Seen) (entries : List Entry) → ((entry : Entry) → Contains entries entry → Comes grain seen entry.1) → IsLeast grain seen entries
is_least grain seen entries comes text of_grain allows target needs agrees allowed =
    let found = some_contains (λ (e : Entry). is_usable e.1 target needs) entries (both_left _ _ allowed) in
    let its = stands grain seen text found.0.1 of_grain allows (comes found.0 found.1) in
    both _ _
    (any_contains (λ (e : Entry). is_usable e.1 target needs) text its.entry its.there (its.useful target needs found.2))
    (all_from (is_covered text target needs) needs.calls
    (λ call called.
    let covered = all_contains (is_covered entries target needs) needs.calls call (both_right (list_any (λ (e : Entry). is_usable e.1 target needs) entries) _ allowed) called in
    let by = some_contains (λ (e : Entry). is_usable e.1 target needs && covers e.1.access call) entries covered in
    let other = stands grain seen text by.0.1 of_grain allows (comes by.0 by.1) in
    any_contains (λ (e : Entry). is_usable e.1 target needs && covers e.1.access call) text other.entry other.there
    (both _ _ (other.useful target needs (both_left _ _ by.2)) (other.covering call (λ known. agrees call known called) (both_right (is_usable by.0.1 target needs) _ by.2)))))
