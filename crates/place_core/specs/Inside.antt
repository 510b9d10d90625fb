-- Refinement: only contracts inside the crate use it.
-- What the fields of an acting set stand for.
use Rattle.std.specs.Prelude.{◌≡◌, ℕ, ◌-◌, ◌≤◌, true, List, ◌++◌, length, take, replicate}
use Rattle.std.proofs.Common.{sym, ap, ◌∙◌, length-take, arith}
use Rattle.place_core.specs.Distinct.{is_distinct}
use Rattle.place_core.specs.declared.acting_sets.ActingSet.TheInside.{Inside}

abbrev pub members_of : Inside → List ℕ
members_of a = take a.len a.members

-- zeros follow the members, each of which stands once
pub record IsPadded (a : Inside) : Type 0 where
  pub long : length a.members ≡ 5
  pub few : a.len ≤ 5
  pub zeros : a.members ≡ take a.len a.members ++ replicate (5 - a.len) 0
  pub once : is_distinct (take a.len a.members) ≡ true

abbrev pub padded : List ℕ → Inside
padded members = record { members = members ++ replicate (5 - length members) 0; len = length members }

-- the fields follow from the members
pub padded_members : (a : Inside) → IsPadded a → padded (members_of a) ≡ a
padded_members a h =
    let long : length (take a.len a.members) ≡ a.len = omega (arith, h.few, h.long, length-take a.len a.members) in
    λ i. record { members = (ap (λ n. take a.len a.members ++ replicate (5 - n) 0) long ∙ sym h.zeros) i; len = long i }
