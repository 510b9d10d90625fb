-- Of a denied request each grant has a condition that it fails.
use Rattle.std.proofs.Common.{◌≡◌, ℕ, suc, ◌+◌, ◌<◌, List, [], ◌∷◌, ◌++◌, Bool, true, false, not, ◌&&◌, ◌||◌, cond, Option, None, Some, length, get_or, take, slice_get, map, refl, sym, ap, ◌∙◌}
use Rattle.std.specs.Option.{option_map, option_to_list}
use Rattle.std.specs.List.{list_all, cons_option, filter_map}
use Rattle.std.proofs.lemmas.Bool.{false≢true}
use Rattle.std.proofs.lemmas.Grind.{take_at_read}
use Rattle.std.proofs.lemmas.List.Elements.{filter_map-append}
use Rattle.std.proofs.lemmas.Map.Keys.{any_passes_from_place}
use Rattle.cap_grants.specs.declared.grant.AllowGrant.{AllowGrant}
use Rattle.cap_grants.specs.declared.grant.Access.{Access}
use Rattle.request_types.specs.Target.{Target}
use Rattle.verdict_core.specs.Ticket.{Ticket}
use Rattle.request_types.specs.declared.request.Needs.{Needs}
use Rattle.request_types.specs.declared.request.ClassCall.{ClassCall}
use Rattle.request_types.specs.declared.request.Condition.{Condition}
use Rattle.request_types.specs.declared.request.Condition.TheVariants as why
use Rattle.verdict_core.specs.Verdict.{names, matches_namespace, matches_tag, matches_prefix, can_read, can_write, grant_failure, first_failure, line_of, unless, uncovered_from, covers, is_covered, is_usable, is_expired, grants_allow, is_allowed, report_of}

-- the lines of the grants
abbrev pub lines_of : List (List ℕ × AllowGrant) → Bool → Target → Needs → List (List ℕ × Condition)
lines_of grants expired target needs = filter_map (line_of expired target needs) grants

pub lines_of-more : (es : List (List ℕ × AllowGrant)) (i : ℕ) (d : List ℕ × AllowGrant) (expired : Bool) (target : Target) (needs : Needs) → i < length es
    → lines_of (take (i + 1) es) expired target needs ≡ lines_of (take i es) expired target needs ++ option_to_list (line_of expired target needs (get_or es i d))
lines_of-more es i d expired target needs h =
    ap (λ l. lines_of l expired target needs) ((take_at_read es i d h).1) ∙ filter_map-append (line_of expired target needs) (take i es) (get_or es i d ∷ []) ∙ ap (λ l. lines_of (take i es) expired target needs ++ l) (one (line_of expired target needs (get_or es i d)))
  where
    one : (o : Option (List ℕ × Condition)) → cons_option o [] ≡ option_to_list o
    one None = refl
    one (Some x) = refl

-- no failure: the test held, and nothing came later
unless_none : (holds : Bool) (condition : Condition) (later : Option Condition) → unless holds condition later ≡ None → (holds ≡ true) × (later ≡ None)
unless_none true condition later h = (refl, h)
unless_none false condition later h = absurd (cc)

all_covered_by : (b : Bool) (number : ℕ) (access : Access) (calls : List ClassCall) → cond b (uncovered_from (number + 1) access calls) (Some (why.Call number)) ≡ None
    → (uncovered_from (number + 1) access calls ≡ None → list_all (covers access) calls ≡ true) → (b && list_all (covers access) calls) ≡ true
all_covered_by true number access calls e rest = rest e
all_covered_by false number access calls e rest = absurd (cc)

all_covered : (number : ℕ) (access : Access) (calls : List ClassCall) → uncovered_from number access calls ≡ None → list_all (covers access) calls ≡ true
all_covered number access [] h = refl
all_covered number access (call ∷ calls) h = all_covered_by (covers access call) number access calls h (all_covered (number + 1) access calls)

-- a grant that fails no condition is usable, and covers each call
pub blameless : (g : AllowGrant) (target : Target) (needs : Needs) → grant_failure g target needs ≡ None → (is_usable g target needs ≡ true) × (list_all (covers g.access) needs.calls ≡ true)
blameless g target needs h =
    let pool = unless_none (names g.pool target.pool) why.Pool _ h in
    let namespace = unless_none (matches_namespace g.namespace target.namespace) why.Namespace _ pool.1 in
    let tag = unless_none (matches_tag g.tag target.tags) why.Tag _ namespace.1 in
    let prefix = unless_none (matches_prefix g.prefix target.object) why.Prefix _ tag.1 in
    let reads = unless_none (not needs.reads || can_read g.access) why.Read _ prefix.1 in
    let writes = unless_none (not needs.writes || can_write g.access) why.Write (uncovered_from 1 g.access needs.calls) reads.1 in
    (rw (pool.0, namespace.0, tag.0, prefix.0, reads.0, writes.0), all_covered 1 g.access needs.calls writes.1)

-- each call that one usable grant covers is covered
covered_by : (grants : List (List ℕ × AllowGrant)) (target : Target) (needs : Needs) (i : ℕ) (entry : List ℕ × AllowGrant) → slice_get grants i ≡ Some entry → is_usable entry.1 target needs ≡ true
    → (calls : List ClassCall) → list_all (covers entry.1.access) calls ≡ true → list_all (is_covered grants target needs) calls ≡ true
covered_by grants target needs i entry at useful [] h = refl
covered_by grants target needs i entry at useful (call ∷ calls) h =
    let both = and_true (covers entry.1.access call) (list_all (covers entry.1.access) calls) h in
    rw (any_passes_from_place (λ e. is_usable e.1 target needs && covers e.1.access call) grants i entry at (rw (useful, both.0)))
    (covered_by grants target needs i entry at useful calls both.1)
  where
    and_true : (a b : Bool) → (a && b) ≡ true → (a ≡ true) × (b ≡ true)
    and_true true b e = (refl, e)
    and_true false b e = absurd (false≢true e)

-- where the grants deny a request, each grant fails a condition
blamed : (grants : List (List ℕ × AllowGrant)) (target : Target) (needs : Needs) → grants_allow grants target needs ≡ false
    → (i : ℕ) (entry : List ℕ × AllowGrant) → slice_get grants i ≡ Some entry → grant_failure entry.1 target needs ≡ None → ⊥
blamed grants target needs denied i entry at none =
    let free = blameless entry.1 target needs none in
    let some = any_passes_from_place (λ e. is_usable e.1 target needs) grants i entry at free.0 in
    let each = covered_by grants target needs i entry at free.0 needs.calls free.1 in
    false≢true (sym denied ∙ rw (some, each))

-- so it does where the ticket denies it
blamed_at : (expired : Bool) (grants : List (List ℕ × AllowGrant)) (target : Target) (needs : Needs) → (not expired && grants_allow grants target needs) ≡ false
    → (i : ℕ) (entry : List ℕ × AllowGrant) → slice_get grants i ≡ Some entry → first_failure expired entry.1 target needs ≡ None → ⊥
blamed_at true grants target needs denied i entry at none = absurd (cc)
blamed_at false grants target needs denied i entry at none = blamed grants target needs denied i entry at none

paths_by : (o : Option Condition) (path : List ℕ) (lines : List (List ℕ × Condition)) (paths : List (List ℕ)) → (o ≡ None → ⊥) → map (λ line. line.0) lines ≡ paths
    → map (λ line. line.0) (cons_option (option_map (λ condition. (path, condition)) o) lines) ≡ path ∷ paths
paths_by None path lines paths some rest = absurd (some refl)
paths_by (Some condition) path lines paths some rest = ap (λ l. path ∷ l) rest

-- so the report has the paths of all grants
paths_from : (es : List (List ℕ × AllowGrant)) (expired : Bool) (target : Target) (needs : Needs) → ((i : ℕ) (entry : List ℕ × AllowGrant) → slice_get es i ≡ Some entry → first_failure expired entry.1 target needs ≡ None → ⊥)
    → map (λ line. line.0) (lines_of es expired target needs) ≡ map (λ entry. entry.0) es
paths_from [] expired target needs h = refl
paths_from (e ∷ es) expired target needs h =
    paths_by (first_failure expired e.1 target needs) e.0 _ _ (h 0 e refl) (paths_from es expired target needs (λ i entry at none. h (suc i) entry at none))

pub paths-report_of : (ticket : Ticket) (target : Target) (needs : Needs) (tick : ℕ) → is_allowed ticket target needs tick ≡ false → map (λ line. line.0) (report_of ticket target needs tick) ≡ map (λ entry. entry.0) ticket.grants
paths-report_of ticket target needs tick denied =
    paths_from ticket.grants (is_expired ticket.until tick) target needs (blamed_at (is_expired ticket.until tick) ticket.grants target needs denied)

-- one more line, step by step
pub lines_of_step : (es : List (List ℕ × AllowGrant)) (i : ℕ) (entry : List ℕ × AllowGrant) (expired : Bool) (target : Target) (needs : Needs) (condition : Option Condition) (lines new : List (List ℕ × Condition))
    → i < length es → entry ≡ get_or es i entry → condition ≡ first_failure expired entry.1 target needs → lines ≡ lines_of (take i es) expired target needs
    → new ≡ lines ++ option_to_list (option_map (λ why. (entry.0, why)) condition) → new ≡ lines_of (take (i + 1) es) expired target needs
lines_of_step es i entry expired target needs condition lines new h at is so_far pushed =
    pushed ∙ (λ k. so_far k ++ option_to_list (option_map (λ why. (entry.0, why)) (is k)))
    ∙ ap (λ e. lines_of (take i es) expired target needs ++ option_to_list (line_of expired target needs e)) at ∙ sym (lines_of-more es i entry expired target needs h)
