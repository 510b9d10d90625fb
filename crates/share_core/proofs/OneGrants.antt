-- A touch is allowed by one grant alone.
use Rattle.std.proofs.Common.{◌≡◌, ℕ, zero, suc, List, [], ◌∷◌, Bool, true, false, not, ◌&&◌, ◌||◌, Option, None, Some, slice_get, refl, sym, ap, inl, inr}
use Rattle.std.specs.List.{list_any}
use Rattle.std.proofs.lemmas.Bool.{false≢true}
use Rattle.cap_grants.specs.declared.grant.AllowGrant.{AllowGrant}
use Rattle.cap_grants.specs.declared.grant.Access.{Access}
use Rattle.cap_grants.specs.declared.grant.Access.TheVariants.{All, Flags, Class}
use Rattle.request_types.specs.Target.{Target}
use Rattle.verdict_core.specs.Verdict.{matches, names, can_read, can_write, covers, is_usable, grants_allow, is_covered}
use Rattle.request_types.specs.declared.request.ClassCall.{ClassCall}
use Rattle.request_types.specs.declared.request.Needs.{Needs}
use Rattle.compare_core.proofs.Bools.{both_left, both_right, both, either_first, true_or_false, some_pass, any_at, all_at}
use Rattle.compare_core.proofs.Fronts.{text_same}
use Rattle.share_core.specs.declared.touches.Touch.{Touch}
use Rattle.share_core.specs.declared.touches.Touch.TheVariants.{Read, Write, Call, AnyRead, AnyWrite}
use Rattle.share_core.specs.Sharing.{May, a_read, a_write, a_call, reads_so, writes_so}
use Rattle.share_core.specs.Meeting.{gives, calls_reading, calls_writing}

abbrev Entry : Type 0
Entry = List ℕ × AllowGrant

or_later : (a b : Bool) → b ≡ true → (a || b) ≡ true
or_later true b h = refl
or_later false b h = h

or_second : (a b : Bool) → a ≡ false → (a || b) ≡ true → b ≡ true
or_second true b e h = absurd (false≢true (sym e))
or_second false b e h = h

-- one grant of the list matches the target, and gives the touch
pub record OneGrant (grants : List Entry) (target : Target) (touch : Touch) : Type 0 where
  pub index : ℕ
  pub entry : Entry
  pub at : slice_get grants index ≡ Some entry
  pub matched : matches entry.1 target ≡ true
  pub given : gives entry.1.access touch ≡ true

-- a grant that is usable
usable_one : (grants : List Entry) (target : Target) (needs : Needs) → grants_allow grants target needs ≡ true
    → (i : ℕ) × (entry : Entry) × (slice_get grants i ≡ Some entry) × (is_usable entry.1 target needs ≡ true)
usable_one grants target needs h =
    let found = some_pass (λ entry. is_usable entry.1 target needs) grants (both_left _ _ h) in
    (found.0, found.1.0, found.1.1.0, found.1.1.1)

matched_by : (g : AllowGrant) (target : Target) (needs : Needs) → is_usable g target needs ≡ true → matches g target ≡ true
matched_by g target needs h = both_left (matches g target) _ (both_left (matches g target && (not needs.reads || can_read g.access)) _ h)

asked_so : (asked can : Bool) → asked ≡ true → (not asked || can) ≡ true → can ≡ true
asked_so true can e h = h
asked_so false can e h = absurd (false≢true e)

reads_by : (g : AllowGrant) (target : Target) (needs : Needs) → needs.reads ≡ true → is_usable g target needs ≡ true → can_read g.access ≡ true
reads_by g target needs e h =
    asked_so needs.reads (can_read g.access) e (both_right (matches g target) _ (both_left (matches g target && (not needs.reads || can_read g.access)) _ h))

writes_by : (g : AllowGrant) (target : Target) (needs : Needs) → needs.writes ≡ true → is_usable g target needs ≡ true → can_write g.access ≡ true
writes_by g target needs e h = asked_so needs.writes (can_write g.access) e (both_right (matches g target && (not needs.reads || can_read g.access)) _ h)

-- a grant that is usable and covers a call
covering_one : (grants : List Entry) (target : Target) (needs : Needs) (call : ClassCall) → is_covered grants target needs call ≡ true
    → (i : ℕ) × (entry : Entry) × (slice_get grants i ≡ Some entry) × (matches entry.1 target ≡ true) × (covers entry.1.access call ≡ true)
covering_one grants target needs call covered =
    let found = some_pass (λ entry. is_usable entry.1 target needs && covers entry.1.access call) grants covered in
    let g = found.1.0.1 in
    let useful = both_left (is_usable g target needs) _ found.1.1.1 in
    (found.0, found.1.0, found.1.1.0, matched_by g target needs useful, both_right (is_usable g target needs) _ found.1.1.1)

covered_reading : (access : Access) (call : ClassCall) → call.class_reads ≡ true → covers access call ≡ true → calls_reading access ≡ true
covered_reading All call e h = refl
covered_reading (Class class method) call e h = refl
covered_reading (Flags flags) call e h =
    asked_so call.class_reads flags.class_read e
    (both_right call.listed _ (both_left (call.listed && (not call.class_reads || flags.class_read)) _ h))

covered_writing : (access : Access) (call : ClassCall) → call.class_writes ≡ true → covers access call ≡ true → calls_writing access ≡ true
covered_writing All call e h = refl
covered_writing (Class class method) call e h = refl
covered_writing (Flags flags) call e h =
    asked_so call.class_writes flags.class_write e (both_right (call.listed && (not call.class_reads || flags.class_read)) _ h)

-- the grants whose calls a request has cover each of them
each_covered : (grants : List Entry) (target : Target) (needs : Needs) (i : ℕ) (call : ClassCall) → grants_allow grants target needs ≡ true
    → slice_get needs.calls i ≡ Some call → is_covered grants target needs call ≡ true
each_covered grants target needs i call h at =
    all_at (is_covered grants target needs) needs.calls i call (both_right (list_any (λ entry. is_usable entry.1 target needs) grants) _ h) at

any_read : (grants : List Entry) (target : Target) (needs : Needs) → reads_so needs ≡ true → grants_allow grants target needs ≡ true → OneGrant grants target AnyRead
any_read grants target needs reads h = elim (true_or_false needs.reads) [
  | inl asked ↦ (
      let (i, entry, at, useful) = usable_one grants target needs h in
      record { index = i; entry = entry; at = at; matched = matched_by entry.1 target needs useful; given = either_first _ _ (reads_by entry.1 target needs asked useful) }
      )
  | inr not_asked ↦ (
      let found = some_pass (λ call. call.class_reads) needs.calls (or_second needs.reads _ not_asked reads) in
      let call : ClassCall = found.1.0 in
      let does : call.class_reads ≡ true = found.1.1.1 in
      let (i, entry, at, matched, covered) = covering_one grants target needs call (each_covered grants target needs found.0 call h found.1.1.0) in
      record { index = i; entry = entry; at = at; matched = matched; given = or_later (can_read entry.1.access) _ (covered_reading entry.1.access call does covered) }
      )
]

any_write : (grants : List Entry) (target : Target) (needs : Needs) → writes_so needs ≡ true → grants_allow grants target needs ≡ true → OneGrant grants target AnyWrite
any_write grants target needs writes h = elim (true_or_false needs.writes) [
  | inl asked ↦ (
      let (i, entry, at, useful) = usable_one grants target needs h in
      record { index = i; entry = entry; at = at; matched = matched_by entry.1 target needs useful; given = either_first _ _ (writes_by entry.1 target needs asked useful) }
      )
  | inr not_asked ↦ (
      let found = some_pass (λ call. call.class_writes) needs.calls (or_second needs.writes _ not_asked writes) in
      let call : ClassCall = found.1.0 in
      let does : call.class_writes ≡ true = found.1.1.1 in
      let (i, entry, at, matched, covered) = covering_one grants target needs call (each_covered grants target needs found.0 call h found.1.1.0) in
      record { index = i; entry = entry; at = at; matched = matched; given = or_later (can_write entry.1.access) _ (covered_writing entry.1.access call does covered) }
      )
]

pub one_grant : (grants : List Entry) (target : Target) (touch : Touch) → May grants target touch → OneGrant grants target touch
one_grant grants target Read (needs, is, h) =
    let (i, entry, at, useful) = usable_one grants target needs h in
    record { index = i; entry = entry; at = at; matched = matched_by entry.1 target needs useful; given = reads_by entry.1 target needs (ap (λ (n : Needs). n.reads) is) useful }
one_grant grants target Write (needs, is, h) =
    let (i, entry, at, useful) = usable_one grants target needs h in
    record { index = i; entry = entry; at = at; matched = matched_by entry.1 target needs useful; given = writes_by entry.1 target needs (ap (λ (n : Needs). n.writes) is) useful }
one_grant grants target (Call call) (needs, is, h) =
    let there : slice_get needs.calls 0 ≡ Some call = ap (λ (n : Needs). slice_get n.calls 0) is in
    let (i, entry, at, matched, covered) = covering_one grants target needs call (each_covered grants target needs 0 call h there) in
    record { index = i; entry = entry; at = at; matched = matched; given = covered }
one_grant grants target AnyRead (needs, is, h) = any_read grants target needs is h
one_grant grants target AnyWrite (needs, is, h) = any_write grants target needs is h

-- a request of one touch is allowed by a grant that gives it

read_by : (grants : List Entry) (target : Target) (index : ℕ) (entry : Entry) → slice_get grants index ≡ Some entry → matches entry.1 target ≡ true
    → can_read entry.1.access ≡ true → grants_allow grants target a_read ≡ true
read_by grants target index entry at m g = both _ _ (any_at (λ entry. is_usable entry.1 target a_read) grants index entry at (both _ _ (both _ _ m g) refl)) refl

write_by : (grants : List Entry) (target : Target) (index : ℕ) (entry : Entry) → slice_get grants index ≡ Some entry → matches entry.1 target ≡ true
    → can_write entry.1.access ≡ true → grants_allow grants target a_write ≡ true
write_by grants target index entry at m g = both _ _ (any_at (λ entry. is_usable entry.1 target a_write) grants index entry at (both _ _ (both _ _ m refl) g)) refl

call_by : (grants : List Entry) (target : Target) (call : ClassCall) (index : ℕ) (entry : Entry) → slice_get grants index ≡ Some entry → matches entry.1 target ≡ true
    → covers entry.1.access call ≡ true → grants_allow grants target (a_call call) ≡ true
call_by grants target call index entry at m g =
    let needs = a_call call in
    let useful : is_usable entry.1 target needs ≡ true = both _ _ (both _ _ m refl) refl in
    both _ _
    (any_at (λ entry. is_usable entry.1 target needs) grants index entry at useful)
    (both _ _ (any_at (λ entry. is_usable entry.1 target needs && covers entry.1.access call) grants index entry at (both _ _ useful g)) refl)

-- a call of a method that an access covers, if it covers such calls

method_name : Option (List ℕ) → List ℕ
method_name None = []
method_name (Some method) = method

named_method : (method : Option (List ℕ)) → names method (method_name method) ≡ true
unfolding method_name
named_method None = refl
named_method (Some method) = text_same method method refl

record Covered (access : Access) (does : ClassCall → Bool) : Type 0 where
  call : ClassCall
  done : does call ≡ true
  covered : covers access call ≡ true

reading_call : (access : Access) → calls_reading access ≡ true → Covered access (λ call. call.class_reads)
reading_call All h = record { call = record { class = []; method = []; class_reads = true; class_writes = false; listed = true }; done = refl; covered = refl }
reading_call (Flags flags) h =
    record { call = record { class = []; method = []; class_reads = true; class_writes = false; listed = true }; done = refl; covered = both _ _ h refl }
reading_call (Class class method) h = record {
  call = record { class = class; method = method_name method; class_reads = true; class_writes = false; listed = true };
  done = refl;
  covered = both _ _ (text_same class class refl) (named_method method);
}

writing_call : (access : Access) → calls_writing access ≡ true → Covered access (λ call. call.class_writes)
writing_call All h = record { call = record { class = []; method = []; class_reads = false; class_writes = true; listed = true }; done = refl; covered = refl }
writing_call (Flags flags) h =
    record { call = record { class = []; method = []; class_reads = false; class_writes = true; listed = true }; done = refl; covered = h }
writing_call (Class class method) h = record {
  call = record { class = class; method = method_name method; class_reads = false; class_writes = true; listed = true };
  done = refl;
  covered = both _ _ (text_same class class refl) (named_method method);
}

pub may_by : (grants : List Entry) (target : Target) (touch : Touch) (index : ℕ) (entry : Entry) → slice_get grants index ≡ Some entry → matches entry.1 target ≡ true
    → gives entry.1.access touch ≡ true → May grants target touch
may_by grants target Read index entry at m g = (a_read, refl, read_by grants target index entry at m g)
may_by grants target Write index entry at m g = (a_write, refl, write_by grants target index entry at m g)
may_by grants target (Call call) index entry at m g = (a_call call, refl, call_by grants target call index entry at m g)
may_by grants target AnyRead index entry at m g = elim (true_or_false (can_read entry.1.access)) [
  | inl reads ↦ (a_read, refl, read_by grants target index entry at m reads)
  | inr other ↦ (
      let found = reading_call entry.1.access (or_second (can_read entry.1.access) _ other g) in
      (a_call found.call, either_first found.call.class_reads false found.done, call_by grants target found.call index entry at m found.covered)
      )
]
may_by grants target AnyWrite index entry at m g = elim (true_or_false (can_write entry.1.access)) [
  | inl writes ↦ (a_write, refl, write_by grants target index entry at m writes)
  | inr other ↦ (
      let found = writing_call entry.1.access (or_second (can_write entry.1.access) _ other g) in
      (a_call found.call, either_first found.call.class_writes false found.done, call_by grants target found.call index entry at m found.covered)
      )
]

pub only_one : (entry other : Entry) (i : ℕ) → slice_get (entry ∷ []) i ≡ Some other → other ≡ entry
only_one entry other zero at = sym (some_same at)
  where
    some_same : {X : Type 0} {a b : X} → Some a ≡ Some b → a ≡ b
    some_same e = cc
only_one entry other (suc i) at = absurd (cc)
