-- What samples of rights decide.
use Rattle.std.proofs.Common.{◌≡◌, ℕ, ◌≤◌, Bool, List, [], ◌∷◌, length, take, All, subst, sym}
use Rattle.std.proofs.lemmas.List.{take_all}
use Rattle.network_core.specs.declared.address.Address.{Address}
use Rattle.network_core.specs.Address.{IsAddress}
use Rattle.request_types.specs.declared.request.Needs.{Needs}
use Rattle.request_types.specs.Target.{Target}
use Rattle.rights_core.specs.Rights.{Rights}
use Rattle.rights_core.specs.Samples.{DecideFor}
use Rattle.rights_core.specs.Verdicts.{allowed_at}
use Rattle.rights_core.proofs.Sampled.{at_each}

-- what holds at all samples holds at all addresses
pub at_all_of : (inside rights : Rights) (target : Target) (needs : Needs) (tick : ℕ) (b : Bool) (samples slice : List Address) (i : ℕ)
    → inside ≡ rights → slice ≡ samples → DecideFor (inside ∷ []) samples → length slice ≤ i → All (λ a. allowed_at rights target needs tick a ≡ b) (take i slice)
    → (a : Address) → IsAddress a → allowed_at rights target needs tick a ≡ b
at_all_of inside rights target needs tick b samples slice i e same decide past so_far =
    at_each rights target needs tick b slice
    (subst (λ r. DecideFor (r ∷ []) slice) e (subst (λ s. DecideFor (inside ∷ []) s) (sym same) decide))
    (subst (λ s. All (λ a. allowed_at rights target needs tick a ≡ b) s) (take_all i slice past) so_far)
