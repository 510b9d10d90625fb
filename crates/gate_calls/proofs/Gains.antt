-- What an example of one grant says of all grants.
use Rattle.std.proofs.Common.{◌≡◌, ℕ, ◌<◌, ◌≤◌, get_or, length, subst, arith, suc, Bool, true, false, List, [], ◌∷◌, Option, Some, None, slice_get, refl, sym, ap, ◌∙◌, ◌⊎◌, inl, inr, if◌then◌else◌}
use Rattle.std.proofs.lemmas.Bool.{false≢true}
use Rattle.network_core.specs.declared.address.Address.{Address}
use Rattle.rights_core.specs.Rights.{NetworkGrant, Rights, grants_at, is_for}
use Rattle.verdict_core.specs.Verdict.{grants_allow}
use Rattle.compare_core.specs.Widening.{Request, request_of}
use Rattle.compare_core.specs.declared.registry.Registry.{Registry}
use Rattle.compare_core.specs.declared.registry.Registry.TheVariants.{Every}
use Rattle.compare_core.proofs.Gains.{allowed_among}
use Rattle.compare_text.specs.Addresses.{AnswersFrom, AreExamples, IsGainedAt, IsGainedFrom, WidensFrom}
use Rattle.compare_text.proofs.Addressed.{nothing_widens_from}
use Rattle.compare_text.specs.declared.widening.AddressedExample.{AddressedExample}

for_it : (entry : NetworkGrant) (new : List NetworkGrant) (a : Address) → is_for entry.network a ≡ true → grants_at (entry ∷ new) a ≡ (entry.path, entry.grant) ∷ grants_at new a
for_it entry new a e = ap (λ b. if b then (entry.path, entry.grant) ∷ grants_at new a else grants_at new a) e

not_for_it : (entry : NetworkGrant) (new : List NetworkGrant) (a : Address) → is_for entry.network a ≡ false → grants_at (entry ∷ new) a ≡ grants_at new a
not_for_it entry new a e = ap (λ b. if b then (entry.path, entry.grant) ∷ grants_at new a else grants_at new a) e

either : (b : Bool) → (b ≡ true) ⊎ (b ≡ false)
either true = inl refl
either false = inr refl

-- a grant is among those of each address that it is for
abbrev HasAt : List NetworkGrant → NetworkGrant → Type 0
HasAt new entry = (a : Address) → is_for entry.network a ≡ true → (j : ℕ) × (slice_get (grants_at new a) j ≡ Some (entry.path, entry.grant))

head_at : (entry : NetworkGrant) (new : List NetworkGrant) → HasAt (entry ∷ new) entry
head_at entry new a is = (0, ap (λ l. slice_get l 0) (for_it entry new a is))

later_at : (other entry : NetworkGrant) (new : List NetworkGrant) → HasAt new entry → HasAt (other ∷ new) entry
later_at other entry new has a is = go (either (is_for other.network a))
  where
    go : (is_for other.network a ≡ true) ⊎ (is_for other.network a ≡ false) → (j : ℕ) × (slice_get (grants_at (other ∷ new) a) j ≡ Some (entry.path, entry.grant))
    go (inl e) = (suc (has a is).0, ap (λ l. slice_get l (suc (has a is).0)) (for_it other new a e) ∙ (has a is).1)
    go (inr e) = ((has a is).0, ap (λ l. slice_get l (has a is).0) (not_for_it other new a e) ∙ (has a is).1)

-- what a grant by itself gains, rights that have it gain
raised : (registry : Registry) (old new : List NetworkGrant) (entry : NetworkGrant) (a : Address) (request : Request) → HasAt new entry → IsGainedFrom registry old (entry ∷ []) a request → IsGainedFrom registry old new a request
raised registry old new entry a request has gained = go (either (is_for entry.network a))
  where
    go : (is_for entry.network a ≡ true) ⊎ (is_for entry.network a ≡ false) → IsGainedFrom registry old new a request
    go (inl e) = (
      gained.0,
      (
        gained.1.0,
        allowed_among (grants_at new a) (has a e).0 (entry.path, entry.grant) request.target request.needs (has a e).1
            (sym (ap (λ l. grants_allow l request.target request.needs) (for_it entry [] a e)) ∙ gained.1.1),
        gained.1.2,
      ),
    )
    go (inr e) = absurd (false≢true (sym (ap (λ l. grants_allow l request.target request.needs) (not_for_it entry [] a e)) ∙ gained.1.1))

raised_at : (registry : Registry) (old new : List NetworkGrant) (entry : NetworkGrant) (from : Option Address) (request : Request) → HasAt new entry → IsGainedAt registry old (entry ∷ []) from request → IsGainedAt registry old new from request
raised_at registry old new entry (Some a) request has gained = raised registry old new entry a request has gained
raised_at registry old new entry None request has gained = λ a is. raised registry old new entry a request has (gained a is)

-- the first example is a gain of all grants
first_gain : (registry : Registry) (addressed : Bool) (old new all : List NetworkGrant) (found : AddressedExample) (examples : List AddressedExample) → ((entry : NetworkGrant) → HasAt new entry → HasAt all entry)
    → AreExamples registry addressed old new (found ∷ examples) → IsGainedAt registry old all found.from (request_of found.example)
first_gain registry addressed old [] all found examples among h = absurd h
first_gain registry addressed old (entry ∷ new) all found examples among h =
    elim h [
      | inl shown ↦ raised_at registry old all entry found.from (request_of found.example) (among entry (head_at entry new)) shown.0.gained
      | inr silent ↦ first_gain registry addressed old new all found examples (λ one has. among one (later_at entry one new has)) silent.1
    ]

pub is_gain : (registry : Registry) (addressed : Bool) (old new : List NetworkGrant) (found : AddressedExample) (examples : List AddressedExample) → AreExamples registry addressed old new (found ∷ examples) → IsGainedAt registry old new found.from (request_of found.example)
is_gain registry addressed old new found examples h = first_gain registry addressed old new new found examples (λ entry has. has) h

-- ---- what the examples of two rights say

none_gained : (old new : List NetworkGrant) (items : List AddressedExample) → length items < 1 → AnswersFrom Every old new items → ¬ WidensFrom Every old new
none_gained old new [] few are = nothing_widens_from Every _ old new are
none_gained old new (e ∷ es) few are = absurd (omega arith)

pub no_gain : (old new old' new' : Rights) (items slice : List AddressedExample) → old ≡ old' → new ≡ new' → slice ≡ items → length slice < 1 → AnswersFrom Every old.grants new.grants items
    → ¬ WidensFrom Every old'.grants new'.grants
no_gain old new old' new' items slice eo en es few are =
    subst (λ (r : Rights). ¬ WidensFrom Every r.grants new'.grants) eo
    (subst (λ (r : Rights). ¬ WidensFrom Every old.grants r.grants) en (none_gained old.grants new.grants items (subst (λ s. length s < 1) es few) are))

one_gained : (old new : List NetworkGrant) (items : List AddressedExample) (found : AddressedExample) → 1 ≤ length items → found ≡ get_or items 0 found → AnswersFrom Every old new items
    → IsGainedAt Every old new found.from (request_of found.example)
one_gained old new [] found some is are = absurd (omega arith)
one_gained old new (e ∷ es) found some is are = subst (λ (f : AddressedExample). IsGainedAt Every old new f.from (request_of f.example)) (sym is) (is_gain Every _ old new e es are)

pub a_gain : (old new old' new' : Rights) (items slice : List AddressedExample) (found : AddressedExample) → old ≡ old' → new ≡ new' → slice ≡ items → 1 ≤ length slice → found ≡ get_or slice 0 found
    → AnswersFrom Every old.grants new.grants items → IsGainedAt Every old'.grants new'.grants found.from (request_of found.example)
a_gain old new old' new' items slice found eo en es some is are =
    subst (λ (r : Rights). IsGainedAt Every r.grants new'.grants found.from (request_of found.example)) eo
    (subst (λ (r : Rights). IsGainedAt Every old.grants r.grants found.from (request_of found.example)) en
    (one_gained old.grants new.grants items found (subst (λ s. 1 ≤ length s) es some) (subst (λ s. found ≡ get_or s 0 found) es is) are))
