use Rattle.std.proofs.Common.{refl}
use Rattle.group_model.proofs.refinement.suffix_cases.Goals as goal

pub returns : goal.returns
returns c = record {
  all_there = λ group s. (refl, refl, refl, refl, refl);
  half_done = λ group s. (refl, refl, refl, refl, refl, refl, refl, refl);
  kicked = λ group s. (refl, refl, refl, refl);
  fitted = λ group s. (refl, refl, refl, refl);
}
