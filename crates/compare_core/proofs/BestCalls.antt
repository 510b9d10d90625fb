-- Which calls no other beats.
use Rattle.std.proofs.Common.{◌≡◌, ℕ, List, [], ◌∷◌, Bool, true, false, not, ◌&&◌, ◌||◌, Option, Some, None, slice_get, refl, sym, ap, subst, ◌∙◌, lit<, Result, Ok, Err, IfOk}
use Rattle.std.specs.List.{All, Contains}
use Rattle.std.specs.Str.{bytes_eq}
use Rattle.std.proofs.lemmas.Bool.{false≢true}
use Rattle.std.proofs.lemmas.List.Elements.{All-nil, All-cons}
use Rattle.cap_grants.specs.declared.grant.Access.{Access}
use Rattle.cap_grants.specs.declared.grant.Access.TheVariants as accesses
use Rattle.cap_grants.specs.declared.grant.Flags.{Flags}
use Rattle.cap_grants.specs.declared.grant.AllowGrant.{AllowGrant}
use Rattle.verdict_core.specs.Verdict.{covers, names}
use Rattle.request_types.specs.declared.request.ClassCall.{ClassCall}
use Rattle.object_core.specs.Needs.{IsRegistered}
use Rattle.compare_core.specs.Calls.{AreCallsFor, IsOwnOrFresh, IsNameOfCall, covers_some, hardest}
use Rattle.compare_core.specs.Fresh.{name_of_class, name_of_method}
use Rattle.compare_core.specs.Widening.{IsCallBy}
use Rattle.compare_core.specs.declared.field.Field.TheVariants as fields
use Rattle.compare_core.specs.declared.registry.Registry.{Registry}
use Rattle.compare_core.specs.declared.registry.Registry.TheVariants.{Every, Own}
use Rattle.compare_core.proofs.Bools.{both_left, both_right, both}
use Rattle.compare_core.proofs.Fronts.{same_text, text_same}
use Rattle.compare_core.proofs.Targets.{differs_at}

abbrev Grants : Type 0
Grants = List (List ℕ × AllowGrant)

-- flags that allow no class methods cover no call
no_call : (reads writes listed may_read may_write : Bool) → (may_read || may_write) ≡ false → (reads || writes) ≡ true → (listed && (not reads || may_read) && (not writes || may_write)) ≡ true → ⊥
no_call reads writes listed true may_write none some covered = false≢true (sym none)
no_call reads writes listed false true none some covered = false≢true (sym none)
no_call reads writes false false false none some covered = false≢true covered
no_call true writes true false false none some covered = false≢true covered
no_call false true true false false none some covered = false≢true covered
no_call false false true false false none some covered = false≢true some

uncovered : (access : Access) (call : ClassCall) → covers_some access ≡ false → (call.class_reads || call.class_writes) ≡ true → covers access call ≡ true → ⊥
uncovered accesses.All call none some covered = false≢true (sym none)
uncovered (accesses.Flags flags) call none some covered = no_call call.class_reads call.class_writes call.listed flags.class_read flags.class_write none some covered
uncovered (accesses.Class class method) call none some covered = false≢true (sym none)

-- where a grant covers none, none is tried
pub no_calls : (g : AllowGrant) (old : Grants) → covers_some g.access ≡ false → AreCallsFor Every g old []
no_calls g old none = record {
  asked = All-nil (IsCallBy Every);
  whole = λ call may covered. absurd (uncovered g.access call none may covered);
}

-- the call of a grant may be asked
hardest_asked : (access : Access) (class method : List ℕ) → covers_some access ≡ true → IsCallBy Every (hardest access class method)
hardest_asked accesses.All class method some = refl
hardest_asked (accesses.Flags flags) class method some = some
hardest_asked (accesses.Class named only) class method some = refl

-- flags allow what they allow
own_flag : (b : Bool) → (not b || b) ≡ true
own_flag true = refl
own_flag false = refl

-- the grant's own name is one that it asks for
own_method : (old : Grants) (only : Option (List ℕ)) (method : List ℕ) → IsOwnOrFresh fields.Method only old method → names only method ≡ true
own_method old None method is = refl
own_method old (Some own) method is = text_same own method (sym is)

-- the grant covers its call
hardest_mine : (old : Grants) (access : Access) (class method : List ℕ) → IsOwnOrFresh fields.Class (name_of_class access) old class → IsOwnOrFresh fields.Method (name_of_method access) old method
    → covers access (hardest access class method) ≡ true
hardest_mine old accesses.All class method of_class of_method = refl
hardest_mine old (accesses.Flags flags) class method of_class of_method = both _ _ (own_flag flags.class_read) (own_flag flags.class_write)
hardest_mine old (accesses.Class named only) class method of_class of_method =
    both _ _ (text_same named class (sym of_class)) (own_method old only method of_method)

-- flags that allow all that some flags allow cover each call that those cover
wider_flag : (does mine theirs : Bool) → (not mine || theirs) ≡ true → (not does || mine) ≡ true → (not does || theirs) ≡ true
wider_flag false mine theirs wider allowed = refl
wider_flag true true theirs wider allowed = wider
wider_flag true false theirs wider allowed = absurd (false≢true allowed)

wider_flags : (mine theirs : Flags) (call : ClassCall) → ((not mine.class_read || theirs.class_read) && (not mine.class_write || theirs.class_write)) ≡ true
    → (call.listed && (not call.class_reads || mine.class_read) && (not call.class_writes || mine.class_write)) ≡ true
    → (call.listed && (not call.class_reads || theirs.class_read) && (not call.class_writes || theirs.class_write)) ≡ true
wider_flags mine theirs call wider covered =
    let first = both_left (call.listed && (not call.class_reads || mine.class_read)) _ covered in
    both _ _
    (both _ _ (both_left call.listed _ first)
    (wider_flag call.class_reads mine.class_read theirs.class_read (both_left (not mine.class_read || theirs.class_read) _ wider) (both_right call.listed _ first)))
    (wider_flag call.class_writes mine.class_write theirs.class_write (both_right (not mine.class_read || theirs.class_read) _ wider)
    (both_right (call.listed && (not call.class_reads || mine.class_read)) _ covered))

-- a grant of old that names a fresh class
fresh_class : (old : Grants) (class : List ℕ) → IsOwnOrFresh fields.Class None old class → (i : ℕ) (entry : List ℕ × AllowGrant) → slice_get old i ≡ Some entry
    → (named : List ℕ) → name_of_class entry.1.access ≡ Some named → bytes_eq named class ≡ true → ⊥
fresh_class old class fresh i entry at named is same = differs_at fields.Class old [] class fresh i entry at named is same

-- a method that a grant of old asks for is any, or the one that the grant asks for
same_method : (old : Grants) (only : Option (List ℕ)) (method : List ℕ) → IsOwnOrFresh fields.Method only old method → (i : ℕ) (entry : List ℕ × AllowGrant) → slice_get old i ≡ Some entry
    → (theirs : Option (List ℕ)) → name_of_method entry.1.access ≡ theirs → names theirs method ≡ true → (other : List ℕ) → names only other ≡ true → names theirs other ≡ true
same_method old only method is i entry at None e h other k = refl
same_method old None method is i entry at (Some text) e h other k = absurd (differs_at fields.Method old [] method is i entry at text e h)
same_method old (Some own) method is i entry at (Some text) e h other k =
    text_same text other (same_text text method h ∙ (is ∙ same_text own other k))

-- a grant of old that covers the call of a grant covers each call that the grant covers
hardest_others : (old : Grants) (mine : Access) (class method : List ℕ) → IsOwnOrFresh fields.Class (name_of_class mine) old class → IsOwnOrFresh fields.Method (name_of_method mine) old method
    → (call : ClassCall) → covers mine call ≡ true → (i : ℕ) (entry : List ℕ × AllowGrant) → slice_get old i ≡ Some entry
    → (theirs : Access) → entry.1.access ≡ theirs → covers theirs (hardest mine class method) ≡ true → covers theirs call ≡ true
hardest_others old mine class method of_class of_method call covered i entry at accesses.All e h = refl
hardest_others old accesses.All class method of_class of_method call covered i entry at (accesses.Flags theirs) e h = absurd (false≢true h)
hardest_others old (accesses.Class named only) class method of_class of_method call covered i entry at (accesses.Flags theirs) e h = absurd (false≢true h)
hardest_others old (accesses.Flags mine) class method of_class of_method call covered i entry at (accesses.Flags theirs) e h = wider_flags mine theirs call h covered
hardest_others old accesses.All class method of_class of_method call covered i entry at (accesses.Class named only) e h =
    absurd (fresh_class old class of_class i entry at named (ap name_of_class e) (both_left (bytes_eq named class) _ h))
hardest_others old (accesses.Flags mine) class method of_class of_method call covered i entry at (accesses.Class named only) e h =
    absurd (fresh_class old class of_class i entry at named (ap name_of_class e) (both_left (bytes_eq named class) _ h))
hardest_others old (accesses.Class own only) class method of_class of_method call covered i entry at (accesses.Class named theirs) e h =
    both _ _
    (text_same named call.class (same_text named class (both_left (bytes_eq named class) _ h) ∙ (of_class ∙ same_text own call.class (both_left (bytes_eq own call.class) _ covered))))
    (same_method old only method of_method i entry at theirs (ap name_of_method e) (both_right (bytes_eq named class) _ h) call.method (both_right (bytes_eq own call.class) _ covered))

-- one call stands for all that a grant covers
pub one_call : (g : AllowGrant) (old : Grants) (class method : List ℕ) (calls : List ClassCall) → covers_some g.access ≡ true → IsNameOfCall fields.Class g old class → IsNameOfCall fields.Method g old method
    → calls ≡ hardest g.access class method ∷ [] → AreCallsFor Every g old calls
one_call g old class method calls some of_class of_method is =
    subst (AreCallsFor Every g old) (sym is) (record {
      asked = All-cons (IsCallBy Every) (hardest g.access class method) [] (hardest_asked g.access class method some) (All-nil (IsCallBy Every));
      whole = λ call may covered. (
        hardest g.access class method,
        (
          hardest_mine old g.access class method of_class of_method,
          λ i entry at h. hardest_others old g.access class method of_class of_method call covered i entry at entry.1.access refl h,
        ),
        (0, lit< tt, refl),
      );
    })

-- of this project's own registry each call stands for itself
own_calls : (g : AllowGrant) (old : Grants) (calls : List ClassCall) → All IsRegistered calls → ((call : ClassCall) → IsRegistered call → Contains calls call) → AreCallsFor Own g old calls
own_calls g old calls asked whole = record {
  asked = asked;
  whole = λ call may covered. (call, (covered, λ i entry at h. h), whole call may);
}

-- where the registry is this project's own, its calls are those to try
pub own_calls_for : {E : Type 0} (of : Registry) (g : AllowGrant) (old : Grants) (calls : Result (List ClassCall) E) → of ≡ Own → IfOk calls (λ all. All IsRegistered all)
    → IfOk calls (λ all. (call : ClassCall) → IsRegistered call → Contains all call) → IfOk calls (λ all. AreCallsFor of g old all)
own_calls_for Every g old calls is known whole = absurd (cc)
own_calls_for Own g old (Ok all) is known whole = own_calls g old all known whole
own_calls_for Own g old (Err why) is known whole = tt
