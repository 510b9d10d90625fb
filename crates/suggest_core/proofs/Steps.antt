-- The steps of making a suggestion.
use Rattle.std.proofs.Common.{◌≡◌, ℕ, zero, suc, ◌+◌, List, [], ◌∷◌, ◌++◌, length, Bool, true, false, not, ◌&&◌, ◌||◌, Some, refl, sym, ap, subst, ◌∙◌, inl, inr, arith, Result, Ok, Err, OnOk}
use Rattle.std.specs.List.{list_any, Contains, slice_get}
use Rattle.std.proofs.lemmas.Bool.{false≢true}
use Rattle.std.proofs.lemmas.List.Elements.{Contains-append_left, Contains-push, Contains-push_cases}
use Rattle.cap_grants.specs.declared.grant.AllowGrant.{AllowGrant}
use Rattle.cap_grants.specs.declared.grant.Access.{Access}
use Rattle.cap_grants.specs.declared.grant.Access.TheVariants.{Class}
use Rattle.request_types.specs.Target.{Target}
use Rattle.request_types.specs.declared.request.Needs.{Needs}
use Rattle.request_types.specs.declared.request.ClassCall.{ClassCall}
use Rattle.verdict_core.specs.Verdict.{can_read, can_write, covers, grants_allow, is_covered, is_usable, matches}
use Rattle.compare_core.proofs.Bools.{both, both_left, both_right, fails}
use Rattle.suggest_core.specs.declared.grain.Grain.{Grain}
use Rattle.suggest_core.specs.declared.seen.Seen.{Seen}
use Rattle.suggest_core.specs.Grain.{access_for, moves, some_moving}
use Rattle.suggest_core.specs.Region.{grant_for, is_in, region_of}
use Rattle.suggest_core.specs.declared.region.Region.{Region}
use Rattle.suggest_core.specs.Suggestion.{AreNumbered}
use Rattle.suggest_core.specs.Parts.{AreApart, Comes, HasCalls, HasFlags, HasMoving, HasSome, IsMovingGrant}
use Rattle.suggest_core.proofs.Members.{any_contains, contains_between, contains_cases, contains_first, contains_later, contains_none, some_contains}
use Rattle.suggest_core.proofs.Regions.{itself, matches_own, same_region, usable_from}
use Rattle.suggest_core.proofs.Serving.{allowed_by_flags, usable_is_moving}

abbrev Entry : Type 0
Entry = List ℕ × AllowGrant

-- one more grant, which none of the others equals
pub apart_push : (entries : List Entry) (entry : Entry) → AreApart entries → ((other : Entry) → Contains entries other → other.1 ≡ entry.1 → ⊥) → AreApart (entries ++ entry ∷ [])
apart_push [] entry apart new = ((λ other h. absurd (contains_none other h)), tt)
apart_push (first ∷ entries) entry apart new = (
  (λ other h same.
      elim (Contains-push_cases entries entry other h) [
        | inl before ↦ apart.0 other before same
        | inr last ↦ new first (contains_first first entries) (sym same ∙ ap (λ (e : Entry). e.1) (sym last))
      ]),
  apart_push entries entry apart.1 (λ other h. new other (contains_later first other entries h)),
)

-- a grant differs from those before and behind it
pub apart_from : (front behind : List Entry) (entry : Entry) → AreApart (front ++ entry ∷ behind) → (other : Entry) → Contains (front ++ behind) other → other.1 ≡ entry.1 → ⊥
apart_from [] behind entry apart other h same = apart.0 other h same
apart_from (first ∷ front) behind entry apart other h same =
    elim (contains_cases first other (front ++ behind) h) [
      | inl is ↦ apart.0 entry (contains_between front behind entry) (sym same ∙ ap (λ (e : Entry). e.1) (sym is))
      | inr later ↦ apart_from front behind entry apart.1 other later same
    ]

-- one more grant, with the next number
numbered_from : (start : ℕ) (entries : List Entry) (entry : Entry)
    → ((place : ℕ) (e : Entry) → slice_get entries place ≡ Some e → e.0 ≡ (place + start) ∷ []) → entry.0 ≡ (length entries + start) ∷ []
    → (place : ℕ) (e : Entry) → slice_get (entries ++ entry ∷ []) place ≡ Some e → e.0 ≡ (place + start) ∷ []
numbered_from start [] entry numbered number zero e at = ap (λ (e : Entry). e.0) (sym (some_same at)) ∙ number
  where
    some_same : {X : Type 0} {a b : X} → Some a ≡ Some b → a ≡ b
    some_same e = cc
numbered_from start [] entry numbered number (suc place) e at = absurd (cc)
numbered_from start (first ∷ entries) entry numbered number zero e at = numbered zero e at
numbered_from start (first ∷ entries) entry numbered number (suc place) e at =
    numbered_from (suc start) entries entry (λ k x h. numbered (suc k) x h ∙ ap (λ n. n ∷ []) (omega arith)) (number ∙ ap (λ n. n ∷ []) (omega arith)) place e at ∙ ap (λ n. n ∷ []) (omega arith)

pub numbered_push : (entries : List Entry) (entry : Entry) → AreNumbered entries → entry.0 ≡ (length entries + 1) ∷ [] → AreNumbered (entries ++ entry ∷ [])
numbered_push entries entry numbered number = numbered_from 1 entries entry numbered number

-- ---- requests that read or write

flags_more : (grain : Grain) (seen : List Seen) (entries : List Entry) (entry : Entry) (request : Seen) → HasFlags grain seen entries request → HasFlags grain seen (entries ++ entry ∷ []) request
flags_more grain seen entries entry request has = (has.0, Contains-append_left entries (entry ∷ []) has.0 has.1, has.2)

pub moving_none : (grain : Grain) (seen : List Seen) → HasMoving grain seen [] []
moving_none grain seen = record {
  comes = λ entry h. absurd (contains_none entry h);
  apart = tt;
  numbered = λ place entry at. absurd (cc);
  given = λ request h. absurd (contains_none request h);
}

-- the next request does not read or write
pub moving_skip : (grain : Grain) (seen far : List Seen) (entries : List Entry) (next : Seen) → HasMoving grain seen far entries → moves next.needs ≡ false → HasMoving grain seen (far ++ next ∷ []) entries
moving_skip grain seen far entries next has still = record {
  comes = has.comes;
  apart = has.apart;
  numbered = has.numbered;
  given = λ request h moving.
      elim (Contains-push_cases far next request h) [
        | inl before ↦ has.given request before moving
        | inr last ↦ absurd (false≢true (sym still ∙ subst (λ (r : Seen). moves r.needs ≡ true) (sym last) moving))
      ];
}

-- the next request is allowed already
pub moving_allowed : (grain : Grain) (seen far : List Seen) (entries : List Entry) (next : Seen) → HasMoving grain seen far entries → moves next.needs ≡ true → grants_allow entries next.target next.needs ≡ true
    → HasMoving grain seen (far ++ next ∷ []) entries
moving_allowed grain seen far entries next has moves_on allowed =
    let found = some_contains (λ (entry : Entry). is_usable entry.1 next.target next.needs) entries (both_left _ _ allowed) in
    let here : HasFlags grain seen entries next = (found.0, found.1, usable_is_moving grain seen found.0.1 next (has.comes found.0 found.1) found.2) in
    record {
      comes = has.comes;
      apart = has.apart;
      numbered = has.numbered;
      given = λ request h moving.
          elim (Contains-push_cases far next request h) [
            | inl before ↦ has.given request before moving
            | inr last ↦ subst (HasFlags grain seen entries) last here
          ];
    }

-- the next request is denied, and its region's flags are added
pub moving_added : (grain : Grain) (seen far : List Seen) (entries : List Entry) (next : Seen) (entry : Entry) → HasMoving grain seen far entries → Contains seen next → moves next.needs ≡ true
    → grants_allow entries next.target next.needs ≡ false → entry.0 ≡ (length entries + 1) ∷ [] → entry.1 ≡ grant_for (region_of grain seen next.target) (access_for seen (region_of grain seen next.target))
    → HasMoving grain seen (far ++ next ∷ []) (entries ++ entry ∷ [])
moving_added grain seen far entries next entry has there moves_on denied number is = record {
  comes = λ other h.
      elim (Contains-push_cases entries entry other h) [
        | inl before ↦ has.comes other before
        | inr last ↦ subst (λ (e : Entry). IsMovingGrant grain seen e.1) last (record { request = next; there = there; moving = moves_on; is = is })
      ];
  apart = apart_push entries entry has.apart
      (λ other h same. false≢true (sym denied ∙ allowed_by_flags grain seen entries next there moves_on (other, h, same ∙ is)));
  numbered = numbered_push entries entry has.numbered number;
  given = λ request h moving.
      elim (Contains-push_cases far next request h) [
        | inl before ↦ flags_more grain seen entries entry request (has.given request before moving)
        | inr last ↦ subst (HasFlags grain seen (entries ++ entry ∷ [])) last (entry, Contains-push entries entry, is)
      ];
}

-- ---- requests of calls alone

pub calls_none : (grain : Grain) (seen : List Seen) (entries : List Entry) → HasMoving grain seen seen entries → HasCalls grain seen [] entries
calls_none grain seen entries has = record {
  comes = λ entry h. inl (has.comes entry h);
  apart = has.apart;
  numbered = has.numbered;
  given = has.given;
  covered = λ request h. absurd (contains_none request h);
}

pub some_none : (grain : Grain) (seen far : List Seen) (request : Seen) (entries : List Entry) → HasCalls grain seen far entries → HasSome grain seen far request [] entries
some_none grain seen far request entries has = record { before = has; also = λ call h. absurd (contains_none call h) }

-- a request that reads or writes adds no method
pub calls_skip : (grain : Grain) (seen far : List Seen) (entries : List Entry) (next : Seen) → HasCalls grain seen far entries → moves next.needs ≡ true → HasCalls grain seen (far ++ next ∷ []) entries
calls_skip grain seen far entries next has moving = record {
  comes = has.comes;
  apart = has.apart;
  numbered = has.numbered;
  given = has.given;
  covered = λ request h still.
      elim (Contains-push_cases far next request h) [
        | inl before ↦ has.covered request before still
        | inr last ↦ absurd (false≢true (sym (subst (λ (r : Seen). moves r.needs ≡ false) (sym last) still) ∙ moving))
      ];
}

-- all calls of the next request are covered
pub calls_next : (grain : Grain) (seen far : List Seen) (entries : List Entry) (next : Seen) → HasSome grain seen far next next.needs.calls entries → HasCalls grain seen (far ++ next ∷ []) entries
calls_next grain seen far entries next has = record {
  comes = has.before.comes;
  apart = has.before.apart;
  numbered = has.before.numbered;
  given = has.before.given;
  covered = λ request h still.
      elim (Contains-push_cases far next request h) [
        | inl before ↦ has.before.covered request before still
        | inr last ↦ subst (λ (r : Seen). (call : ClassCall) → Contains r.needs.calls call → is_covered entries r.target r.needs call ≡ true) last has.also
      ];
}

-- needs with one call, and no reads and writes
abbrev pub one_call : ClassCall → Needs
one_call call = record { reads = false; writes = false; calls = call ∷ [] }

neither : (reads writes : Bool) → (reads || writes) ≡ false → (reads ≡ false) × (writes ≡ false)
neither true writes h = absurd (false≢true (sym h))
neither false writes h = (refl, h)

-- whether a grant is usable goes by the reads and writes alone
same_use : (g : AllowGrant) (target : Target) (needs : Needs) (call : ClassCall) → moves needs ≡ false → is_usable g target needs ≡ is_usable g target (one_call call)
same_use g target needs call still =
    let no = neither needs.reads needs.writes still in
    λ i. (matches g target && (not (no.0 i) || can_read g.access)) && (not (no.1 i) || can_write g.access)

same_cover : (entries : List Entry) (target : Target) (needs : Needs) (call asked : ClassCall) → moves needs ≡ false → is_covered entries target needs asked ≡ is_covered entries target (one_call call) asked
same_cover [] target needs call asked still = refl
same_cover (entry ∷ entries) target needs call asked still =
    λ i. (same_use entry.1 target needs call still i && covers entry.1.access asked) || same_cover entries target needs call asked still i

-- grants allow the call alone just where it is covered
pub allowed_covers : (entries : List Entry) (request : Seen) (call : ClassCall) → moves request.needs ≡ false → grants_allow entries request.target (one_call call) ≡ true → is_covered entries request.target request.needs call ≡ true
allowed_covers entries request call still allowed =
    same_cover entries request.target request.needs call call still
    ∙ both_left _ _ (both_right (list_any (λ (entry : Entry). is_usable entry.1 request.target (one_call call)) entries) _ allowed)

pub covers_allowed : (entries : List Entry) (request : Seen) (call : ClassCall) → moves request.needs ≡ false → is_covered entries request.target request.needs call ≡ true → grants_allow entries request.target (one_call call) ≡ true
covers_allowed entries request call still covered =
    let alone : is_covered entries request.target (one_call call) call ≡ true = sym (same_cover entries request.target request.needs call call still) ∙ covered in
    let found = some_contains (λ (entry : Entry). is_usable entry.1 request.target (one_call call) && covers entry.1.access call) entries alone in
    both _ _
    (any_contains (λ (entry : Entry). is_usable entry.1 request.target (one_call call)) entries found.0 found.1 (both_left _ _ found.2))
    (both _ _ alone refl)

covered_more : (entries : List Entry) (entry : Entry) (target : Target) (needs : Needs) (call : ClassCall) → is_covered entries target needs call ≡ true → is_covered (entries ++ entry ∷ []) target needs call ≡ true
covered_more entries entry target needs call covered =
    let found = some_contains (λ (entry : Entry). is_usable entry.1 target needs && covers entry.1.access call) entries covered in
    any_contains (λ (entry : Entry). is_usable entry.1 target needs && covers entry.1.access call) (entries ++ entry ∷ []) found.0 (Contains-append_left entries (entry ∷ []) found.0 found.1) found.2

-- the next call is covered already
pub some_covered : (grain : Grain) (seen far : List Seen) (request : Seen) (calls : List ClassCall) (next : ClassCall) (entries : List Entry) → HasSome grain seen far request calls entries → moves request.needs ≡ false
    → grants_allow entries request.target (one_call next) ≡ true → HasSome grain seen far request (calls ++ next ∷ []) entries
some_covered grain seen far request calls next entries has still allowed = record {
  before = has.before;
  also = λ call h.
      elim (Contains-push_cases calls next call h) [
        | inl before ↦ has.also call before
        | inr last ↦ subst (λ call. is_covered entries request.target request.needs call ≡ true) last (allowed_covers entries request next still allowed)
      ];
}

-- the grant of a request's region covers what its access covers, where the request does not read or write
still_usable : (grain : Grain) (seen : List Seen) (access : Access) (request : Seen) → Contains seen request → moves request.needs ≡ false → is_usable (grant_for (region_of grain seen request.target) access) request.target request.needs ≡ true
still_usable grain seen access request known still =
    let no = neither request.needs.reads request.needs.writes still in
    usable_from (grant_for (region_of grain seen request.target) access) request.target request.needs (matches_own grain seen access request known)
    (ap (λ b. not b || can_read access) no.0) (ap (λ b. not b || can_write access) no.1)

pub covered_there : (grain : Grain) (seen : List Seen) (access : Access) (request : Seen) → Contains seen request → (call : ClassCall) (entries : List Entry) (entry : Entry) → moves request.needs ≡ false → Contains entries entry
    → entry.1 ≡ grant_for (region_of grain seen request.target) access → covers access call ≡ true → is_covered entries request.target request.needs call ≡ true
covered_there grain seen access request known call entries entry still there is covered =
    any_contains (λ (entry : Entry). is_usable entry.1 request.target request.needs && covers entry.1.access call) entries entry there
    (subst (λ (g : AllowGrant). (is_usable g request.target request.needs && covers g.access call) ≡ true) (sym is) (both _ _ (still_usable grain seen access request known still) covered))

-- the flags of the region do not cover a call that is not covered
uncovered_by : (grain : Grain) (seen far : List Seen) (request : Seen) → Contains seen request → (next : ClassCall) (entries : List Entry) → HasCalls grain seen far entries → moves request.needs ≡ false
    → grants_allow entries request.target (one_call next) ≡ false → some_moving seen (region_of grain seen request.target) (λ needs. true) ≡ true → covers (access_for seen (region_of grain seen request.target)) next ≡ false
uncovered_by grain seen far request known next entries has still denied some =
    let region : Region = region_of grain seen request.target in
    let found = some_contains (λ (other : Seen). (is_in region other.target && moves other.needs) && true) seen some in
    let inside = both_left _ _ (both_left (is_in region found.0.target && moves found.0.needs) _ found.2) in
    let moving = both_right (is_in region found.0.target) _ (both_left (is_in region found.0.target && moves found.0.needs) _ found.2) in
    let flags = has.given found.0 found.1 moving in
    let same : region_of grain seen found.0.target ≡ region = same_region grain seen request.target found.0.target inside in
    let is : flags.0.1 ≡ grant_for region (access_for seen region) = flags.2 ∙ ap (λ region. grant_for region (access_for seen region)) same in
    fails _ (λ covered. false≢true (sym denied ∙ covers_allowed entries request next still (covered_there grain seen (access_for seen region) request known next entries flags.0 still flags.1 is covered)))

-- the next call is denied, and a grant of its method is added
pub some_added : (grain : Grain) (seen far : List Seen) (request : Seen) (calls : List ClassCall) (next : ClassCall) (entries : List Entry) (entry : Entry) → HasSome grain seen far request calls entries
    → Contains seen request → Contains request.needs.calls next → moves request.needs ≡ false
    → grants_allow entries request.target (one_call next) ≡ false → entry.0 ≡ (length entries + 1) ∷ [] → entry.1 ≡ grant_for (region_of grain seen request.target) (Class next.class (Some next.method))
    → HasSome grain seen far request (calls ++ next ∷ []) (entries ++ entry ∷ [])
some_added grain seen far request calls next entries entry has there called still denied number is =
    let method : Access = Class next.class (Some next.method) in
    let covers_it : covers method next ≡ true = both _ _ (itself next.class) (itself next.method) in
    record {
      before = record {
        comes = λ other h.
            elim (Contains-push_cases entries entry other h) [
              | inl before ↦ has.before.comes other before
              | inr last ↦ subst (λ (e : Entry). Comes grain seen e.1) last
                  (inr (record { request = request; there = there; still = still; call = next; called = called; is = is; uncovered = uncovered_by grain seen far request there next entries has.before still denied }))
            ];
        apart = apart_push entries entry has.before.apart
            (λ other h same. false≢true (sym denied ∙ covers_allowed entries request next still (covered_there grain seen method request there next entries other still h (same ∙ is) covers_it)));
        numbered = numbered_push entries entry has.before.numbered number;
        given = λ other h moving. flags_more grain seen entries entry other (has.before.given other h moving);
        covered = λ other h quiet call asked. covered_more entries entry other.target other.needs call (has.before.covered other h quiet call asked);
      };
      also = λ call h.
          elim (Contains-push_cases calls next call h) [
            | inl before ↦ covered_more entries entry request.target request.needs call (has.also call before)
            | inr last ↦ subst (λ call. is_covered (entries ++ entry ∷ []) request.target request.needs call ≡ true) last
                (covered_there grain seen method request there next (entries ++ entry ∷ []) entry still (Contains-push entries entry) is covers_it)
          ];
    }

-- what follows where a call succeeds
pub on_ok_also : {T E : Type 0} {P Q : Type 0} (r : Result T E) → (P → Q) → OnOk r P → OnOk r Q
on_ok_also (Ok x) also h = also h
on_ok_also (Err e) also h = tt
