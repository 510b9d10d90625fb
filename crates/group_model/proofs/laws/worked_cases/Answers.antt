use Rattle.std.proofs.Common.{ℕ, ◌≡◌, true, false, ◌==◌, [], ◌∷◌, refl, inl, inr}
use Rattle.std.proofs.lemmas.Bool.{or_cases, or_left, both_ways}
use Rattle.entry_core.specs.Log.{is_in}
use Rattle.group_model.proofs.laws.worked_cases.Goals as goal

pair_up : (d : ℕ) → is_in (0 ∷ 1 ∷ []) d ≡ true → is_in (0 ∷ 1 ∷ []) d ≡ true
pair_up d is = is

single_up : (d : ℕ) → is_in (0 ∷ []) d ≡ true → is_in (0 ∷ 1 ∷ []) d ≡ true
single_up d is = elim (or_cases (0 == d) false is) [
  | inl here ↦ or_left (0 == d) (is_in (1 ∷ []) d) here
  | inr never ↦ absurd (both_ways false refl never)
]

nobody_up : (d : ℕ) → is_in [] d ≡ true → is_in (0 ∷ 1 ∷ []) d ≡ true
nobody_up d is = absurd (both_ways false refl is)

pub returns : goal.returns
returns c = record {
  lost_reply = λ group s. (refl, refl, refl, refl);
  late = λ group s. (refl, refl, refl, refl, refl);
  half_done = λ group s. (refl, refl, refl, refl);
  counted = λ group s. (refl, refl, refl, refl, refl, refl, refl, refl, refl);
  calm = λ group s. (
    (tt, (refl, (record { same = refl; live = pair_up }, (refl, (tt, (refl, tt)))))),
    (tt, (refl, (record { same = refl; live = single_up }, (refl, (tt, (refl, tt)))))),
    (tt, (refl, (record { same = refl; live = nobody_up }, (refl, (tt, (refl, tt)))))),
    refl,
    refl,
    refl,
    refl,
    refl,
    refl,
    refl,
    refl,
  );
  recovered = λ group s. (refl, refl, refl, refl, refl, refl);
}
