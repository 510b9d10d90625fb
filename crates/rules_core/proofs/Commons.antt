-- Two lists of grants that allow a common request allow a common touch of those that are tried.
use Rattle.std.proofs.Common.{◌≡◌, ℕ, zero, suc, List, [], ◌∷◌, ◌++◌, Bool, true, false, not, ◌&&◌, ◌||◌, Option, None, Some, slice_get, length, codes, refl, sym, ap, subst, ◌∙◌, ◌⊎◌, inl, inr, lit<}
use Rattle.std.specs.List.{Contains, list_any, flat_map}
use Rattle.std.specs.Prelude.{◌==◌}
use Rattle.std.specs.Str.{bytes_eq}
use Rattle.std.proofs.lemmas.Bool.{false≢true}
use Rattle.std.proofs.lemmas.List.Elements.{Contains-append_left, Contains-append_right}
use Rattle.cap_grants.specs.declared.grant.AllowGrant.{AllowGrant}
use Rattle.cap_grants.specs.declared.grant.Access.{Access}
use Rattle.cap_grants.specs.declared.grant.Access.TheVariants.{All, Flags, Class}
use Rattle.cap_grants.specs.declared.grant.Flags.{Flags as FourFlags}
use Rattle.grant_core.specs.Flat.{Flat}
use Rattle.request_types.specs.Target.{Target}
use Rattle.request_types.specs.declared.request.ClassCall.{ClassCall}
use Rattle.request_types.specs.declared.request.Needs.{Needs}
use Rattle.verdict_core.specs.Verdict.{can_read, can_write, covers, grants_allow, is_covered, is_usable, matches, names}
use Rattle.compare_core.specs.Widening.{AreNeeded, IsCallBy, asks_something}
use Rattle.compare_core.specs.declared.registry.Registry.TheVariants.{Every}
use Rattle.compare_core.proofs.Asked.{all_slice_get}
use Rattle.compare_core.proofs.Bools.{all_at, both, both_left, both_right, some_pass, true_or_false}
use Rattle.compare_core.proofs.Fronts.{same_text, text_same}
use Rattle.share_core.specs.Sharing.{May}
use Rattle.share_core.specs.declared.touches.Touch.{Touch}
use Rattle.share_core.specs.declared.touches.Touch.TheVariants.{Read, Write, Call}
use Rattle.share_core.proofs.OneGrants.{may_by}
use Rattle.rules_core.specs.Touches.{call_that, class_touches, or_a, plain_touches, touches, touches_of}

abbrev Entry : Type 0
Entry = List ℕ × AllowGrant

-- ---- what a usable grant gives

matched_by : (g : AllowGrant) (target : Target) (needs : Needs) → is_usable g target needs ≡ true → matches g target ≡ true
matched_by g target needs h = both_left (matches g target) _ (both_left (matches g target && (not needs.reads || can_read g.access)) _ h)

asked_so : (asked can : Bool) → asked ≡ true → (not asked || can) ≡ true → can ≡ true
asked_so true can e h = h
asked_so false can e h = absurd (false≢true e)

reads_by : (g : AllowGrant) (target : Target) (needs : Needs) → needs.reads ≡ true → is_usable g target needs ≡ true → can_read g.access ≡ true
reads_by g target needs e h =
    asked_so needs.reads (can_read g.access) e (both_right (matches g target) _ (both_left (matches g target && (not needs.reads || can_read g.access)) _ h))

writes_by : (g : AllowGrant) (target : Target) (needs : Needs) → needs.writes ≡ true → is_usable g target needs ≡ true → can_write g.access ≡ true
writes_by g target needs e h = asked_so needs.writes (can_write g.access) e (both_right (matches g target && (not needs.reads || can_read g.access)) _ h)

usable_one : (grants : Flat) (target : Target) (needs : Needs) → grants_allow grants target needs ≡ true
    → (i : ℕ) × (entry : Entry) × (slice_get grants i ≡ Some entry) × (is_usable entry.1 target needs ≡ true)
usable_one grants target needs h =
    let found = some_pass (λ (entry : Entry). is_usable entry.1 target needs) grants (both_left _ _ h) in
    (found.0, found.1.0, found.1.1.0, found.1.1.1)

may_read : (grants : Flat) (target : Target) (needs : Needs) → needs.reads ≡ true → grants_allow grants target needs ≡ true → May grants target Read
may_read grants target needs e h =
    let (i, entry, at, useful) = usable_one grants target needs h in
    may_by grants target Read i entry at (matched_by entry.1 target needs useful) (reads_by entry.1 target needs e useful)

may_write : (grants : Flat) (target : Target) (needs : Needs) → needs.writes ≡ true → grants_allow grants target needs ≡ true → May grants target Write
may_write grants target needs e h =
    let (i, entry, at, useful) = usable_one grants target needs h in
    may_by grants target Write i entry at (matched_by entry.1 target needs useful) (writes_by entry.1 target needs e useful)

-- a grant that matches the target and covers the call
record Covering (grants : Flat) (target : Target) (call : ClassCall) : Type 0 where
  index : ℕ
  entry : Entry
  at : slice_get grants index ≡ Some entry
  matched : matches entry.1 target ≡ true
  covered : covers entry.1.access call ≡ true

covering : (grants : Flat) (target : Target) (needs : Needs) (i : ℕ) (call : ClassCall) → slice_get needs.calls i ≡ Some call → grants_allow grants target needs ≡ true → Covering grants target call
covering grants target needs i call at h =
    let is : is_covered grants target needs call ≡ true = all_at (is_covered grants target needs) needs.calls i call (both_right (list_any (λ (entry : Entry). is_usable entry.1 target needs) grants) _ h) at in
    let found = some_pass (λ (entry : Entry). is_usable entry.1 target needs && covers entry.1.access call) grants is in
    let g : AllowGrant = found.1.0.1 in
    let useful : is_usable g target needs ≡ true = both_left (is_usable g target needs) _ found.1.1.1 in
    record { index = found.0; entry = found.1.0; at = found.1.1.0; matched = matched_by g target needs useful; covered = both_right (is_usable g target needs) _ found.1.1.1 }

-- ---- a call that two accesses cover

-- the one thing that the call does: it writes where it does not read
kind : ClassCall → Bool
kind call = not call.class_reads

flags_by : (reads writes listed : Bool) (flags : FourFlags) → (reads || writes) ≡ true → (listed && (not reads || flags.class_read) && (not writes || flags.class_write)) ≡ true
    → (true && (not (not (not reads)) || flags.class_read) && (not (not reads) || flags.class_write)) ≡ true
flags_by true writes listed flags some h = both (flags.class_read) true (both_right listed _ (both_left (listed && (not true || flags.class_read)) _ h)) refl
flags_by false true listed flags some h = both_right (listed && (not false || flags.class_read)) _ h
flags_by false false listed flags some h = absurd (false≢true some)

flags_cover : (flags : FourFlags) (call : ClassCall) (class method : List ℕ) → (call.class_reads || call.class_writes) ≡ true → covers (Flags flags) call ≡ true
    → covers (Flags flags) (call_that (kind call) class method) ≡ true
unfolding kind
flags_cover flags call class method some h = flags_by call.class_reads call.class_writes call.listed flags some h

named_by : (method : Option (List ℕ)) → names method (or_a method) ≡ true
named_by None = refl
named_by (Some method) = text_same method method refl

own_call : (writes : Bool) (class : List ℕ) (method : Option (List ℕ)) → covers (Class class method) (call_that writes class (or_a method)) ≡ true
own_call writes class method = both _ _ (text_same class class refl) (named_by method)

-- a touch that both give, among those tried
record Common (x y : Access) (call : ClassCall) : Type 0 where
  class : List ℕ
  method : List ℕ
  among : Contains plain_touches (Call (call_that (kind call) class method)) ⊎ (Contains (class_touches x) (Call (call_that (kind call) class method)) ⊎ Contains (class_touches y) (Call (call_that (kind call) class method)))
  mine : covers x (call_that (kind call) class method) ≡ true
  theirs : covers y (call_that (kind call) class method) ≡ true

class_has : (writes : Bool) (class : List ℕ) (method : Option (List ℕ)) → Contains (class_touches (Class class method)) (Call (call_that writes class (or_a method)))
class_has false class method = (0, lit< tt, refl)
class_has true class method = (1, lit< tt, refl)

plain_has : (writes : Bool) → Contains plain_touches (Call (call_that writes (codes "a") (codes "a")))
plain_has false = (2, lit< tt, refl)
plain_has true = (3, lit< tt, refl)

plainly : (x y : Access) (call : ClassCall) → covers x (call_that (kind call) (codes "a") (codes "a")) ≡ true → covers y (call_that (kind call) (codes "a") (codes "a")) ≡ true → Common x y call
plainly x y call mine theirs = record { class = codes "a"; method = codes "a"; among = inl (plain_has (kind call)); mine = mine; theirs = theirs }

by_first : (class : List ℕ) (method : Option (List ℕ)) (y : Access) (call : ClassCall) → covers y (call_that (kind call) class (or_a method)) ≡ true → Common (Class class method) y call
by_first class method y call theirs = record { class = class; method = or_a method; among = inr (inl (class_has (kind call) class method)); mine = own_call (kind call) class method; theirs = theirs }

by_second : (x : Access) (class : List ℕ) (method : Option (List ℕ)) (call : ClassCall) → covers x (call_that (kind call) class (or_a method)) ≡ true → Common x (Class class method) call
by_second x class method call mine = record { class = class; method = or_a method; among = inr (inr (class_has (kind call) class method)); mine = mine; theirs = own_call (kind call) class method }

same_class : (a b : List ℕ) (x y : Bool) (named : List ℕ) → (bytes_eq a named && x) ≡ true → (bytes_eq b named && y) ≡ true → bytes_eq b a ≡ true
same_class a b x y named h k =
    let mine : a ≡ named = same_text a named (both_left _ _ h) in
    let theirs : b ≡ named = same_text b named (both_left _ _ k) in
    text_same b a (theirs ∙ sym mine)

same_method : (method : List ℕ) (other : Option (List ℕ)) (named : List ℕ) → bytes_eq method named ≡ true → names other named ≡ true → names other method ≡ true
same_method method None named h k = refl
same_method method (Some other) named h k = text_same other method (same_text other named k ∙ sym (same_text method named h))

by_classes : (class : List ℕ) (method : Option (List ℕ)) (class' : List ℕ) (method' : Option (List ℕ)) (call : ClassCall) → covers (Class class method) call ≡ true → covers (Class class' method') call ≡ true
    → Common (Class class method) (Class class' method') call
by_classes class None class' method' call h k =
    by_second (Class class None) class' method' call (both _ _ (same_class class' class _ _ call.class k h) refl)
by_classes class (Some method) class' method' call h k =
    by_first class (Some method) (Class class' method') call
    (both _ _ (same_class class class' _ _ call.class h k) (same_method method method' call.method (both_right (bytes_eq class call.class) _ h) (both_right (bytes_eq class' call.class) _ k)))

common : (x y : Access) (call : ClassCall) → (call.class_reads || call.class_writes) ≡ true → covers x call ≡ true → covers y call ≡ true → Common x y call
common All All call some h k = plainly All All call refl refl
common All (Flags flags) call some h k = plainly All (Flags flags) call refl (flags_cover flags call (codes "a") (codes "a") some k)
common All (Class class method) call some h k = by_second All class method call refl
common (Flags flags) All call some h k = plainly (Flags flags) All call (flags_cover flags call (codes "a") (codes "a") some h) refl
common (Flags flags) (Flags others) call some h k =
    plainly (Flags flags) (Flags others) call (flags_cover flags call (codes "a") (codes "a") some h) (flags_cover others call (codes "a") (codes "a") some k)
common (Flags flags) (Class class method) call some h k = by_second (Flags flags) class method call (flags_cover flags call class (or_a method) some h)
common (Class class method) All call some h k = by_first class method All call refl
common (Class class method) (Flags flags) call some h k = by_first class method (Flags flags) call (flags_cover flags call class (or_a method) some k)
common (Class class method) (Class class' method') call some h k = by_classes class method class' method' call h k

-- ---- among all that are tried

in_flat : {X Y : Type 0} (f : X → List Y) (xs : List X) (i : ℕ) (x : X) (y : Y) → slice_get xs i ≡ Some x → Contains (f x) y → Contains (flat_map f xs) y
in_flat f [] i x y at has = absurd (cc)
in_flat f (z ∷ zs) zero x y at has = Contains-append_left (f z) (flat_map f zs) y (subst (λ w. Contains (f w) y) (sym (at_once at)) has)
  where
    at_once : {X : Type 0} {a b : X} → Some a ≡ Some b → a ≡ b
    at_once e = cc
in_flat f (z ∷ zs) (suc i) x y at has = Contains-append_right (f z) (flat_map f zs) y (in_flat f zs i x y at has)

-- a touch of those that are tried, which both lists allow
pub record CommonTouch (ones others : Flat) (target : Target) : Type 0 where
  pub touch : Touch
  pub tried : Contains (touches ones others) touch
  pub mine : May ones target touch
  pub theirs : May others target touch

tried_of : (ones others : Flat) (i j : ℕ) (x y : Entry) (t : Touch) → slice_get ones i ≡ Some x → slice_get others j ≡ Some y
    → Contains plain_touches t ⊎ (Contains (class_touches x.1.access) t ⊎ Contains (class_touches y.1.access) t) → Contains (touches ones others) t
tried_of ones others i j x y t at bt (inl plain) = Contains-append_left plain_touches (touches_of ones ++ touches_of others) t plain
tried_of ones others i j x y t at bt (inr (inl mine)) =
    Contains-append_right plain_touches (touches_of ones ++ touches_of others) t
    (Contains-append_left (touches_of ones) (touches_of others) t (in_flat (λ (entry : Entry). class_touches entry.1.access) ones i x t at mine))
tried_of ones others i j x y t at bt (inr (inr theirs)) =
    Contains-append_right plain_touches (touches_of ones ++ touches_of others) t
    (Contains-append_right (touches_of ones) (touches_of others) t (in_flat (λ (entry : Entry). class_touches entry.1.access) others j y t bt theirs))

by_call : (ones others : Flat) (target : Target) (needs : Needs) (call : ClassCall) → slice_get needs.calls 0 ≡ Some call → (call.class_reads || call.class_writes) ≡ true
    → grants_allow ones target needs ≡ true → grants_allow others target needs ≡ true → CommonTouch ones others target
by_call ones others target needs call at some h k =
    let mine = covering ones target needs 0 call at h in
    let theirs = covering others target needs 0 call at k in
    let found = common mine.entry.1.access theirs.entry.1.access call some mine.covered theirs.covered in
    let touch : Touch = Call (call_that (kind call) found.class found.method) in
    record {
      touch = touch;
      tried = tried_of ones others mine.index theirs.index mine.entry theirs.entry touch mine.at theirs.at found.among;
      mine = may_by ones target touch mine.index mine.entry mine.at mine.matched found.mine;
      theirs = may_by others target touch theirs.index theirs.entry theirs.at theirs.matched found.theirs;
    }

plain_tried : (ones others : Flat) (t : Touch) → Contains plain_touches t → Contains (touches ones others) t
plain_tried ones others t has = Contains-append_left plain_touches (touches_of ones ++ touches_of others) t has

pub first_call : (needs : Needs) (calls : List ClassCall) → needs.calls ≡ calls → needs.reads ≡ false → needs.writes ≡ false → asks_something needs ≡ true → (call : ClassCall) × (slice_get needs.calls 0 ≡ Some call)
first_call needs [] is reads writes some =
    absurd (false≢true (sym (nothing needs.reads needs.writes reads writes) ∙ (ap (λ (l : List ClassCall). needs.reads || (needs.writes || not (length l == 0))) (sym is) ∙ some)))
  where
    nothing : (a b : Bool) → a ≡ false → b ≡ false → (a || (b || false)) ≡ false
    nothing true b p q = absurd (false≢true (sym p))
    nothing false true p q = absurd (false≢true (sym q))
    nothing false false p q = refl
first_call needs (call ∷ calls) is reads writes some = (call, ap (λ l. slice_get l 0) is)

pub common_touch : (ones others : Flat) (target : Target) (needs : Needs) → AreNeeded Every needs → grants_allow ones target needs ≡ true → grants_allow others target needs ≡ true
    → CommonTouch ones others target
common_touch ones others target needs needed h k = elim (true_or_false needs.reads) [
  | inl reads ↦ record { touch = Read; tried = plain_tried ones others Read (0, lit< tt, refl); mine = may_read ones target needs reads h; theirs = may_read others target needs reads k }
  | inr no_reads ↦ (
      elim (true_or_false needs.writes) [
        | inl writes ↦ record { touch = Write; tried = plain_tried ones others Write (1, lit< tt, refl); mine = may_write ones target needs writes h; theirs = may_write others target needs writes k }
        | inr no_writes ↦ (
            let found = first_call needs needs.calls refl no_reads no_writes needed.something in
            by_call ones others target needs found.0 found.1 (all_slice_get (IsCallBy Every) needs.calls 0 found.0 needed.calls found.1) h k
            )
      ]
      )
]
