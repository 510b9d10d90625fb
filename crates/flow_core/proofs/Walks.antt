-- Walks along steps, and how far they lead.
use Rattle.std.proofs.Common.{◌≡◌, ℕ, ◌+◌, ◌<◌, ◌≤◌, List, [], ◌∷◌, ◌++◌, length, refl, ap, subst, ◌∙◌, arith, length-append}
use Rattle.flow_core.specs.Chains.{AreSteps, IsChain, IsShortest}

-- the last place of a walk, or where it begins if it has none
abbrev pub last_of : ℕ → List ℕ → ℕ
last_of start [] = start
last_of start (place ∷ rest) = last_of place rest

pub last_of-append : (start : ℕ) (walk : List ℕ) (end : ℕ) → last_of start (walk ++ end ∷ []) ≡ end
last_of-append start [] end = refl
last_of-append start (place ∷ rest) end = last_of-append place rest end

-- a walk and one more step are a walk
pub one_more : (Step : ℕ → ℕ → Type 0) (start : ℕ) (walk : List ℕ) (next : ℕ) → AreSteps Step start walk → Step (last_of start walk) next → AreSteps Step start (walk ++ next ∷ [])
one_more Step start [] next steps step = (step, tt)
one_more Step start (place ∷ rest) next steps step = (steps.0, one_more Step place rest next steps.1 step)

pub chain_ends : (Step : ℕ → ℕ → Type 0) (start end : ℕ) (chain : List ℕ) → IsChain Step start end chain → last_of start chain ≡ end
chain_ends Step start end chain is = ap (last_of start) is.ends.1 ∙ last_of-append start is.ends.0 end

pub chain_longer : (Step : ℕ → ℕ → Type 0) (start end : ℕ) (walk : List ℕ) → AreSteps Step start walk → Step (last_of start walk) end → IsChain Step start end (walk ++ end ∷ [])
chain_longer Step start end walk steps step = record { ends = (walk, refl); steps = one_more Step start walk end steps step }

pub no_empty_chain : (Step : ℕ → ℕ → Type 0) (start end : ℕ) → IsChain Step start end [] → ⊥
no_empty_chain Step start end is = omega (arith, ap length is.ends.1, length-append is.ends.0 (end ∷ []))

-- where no step leads more than one further, a walk leads no further than it is long
reaches : (Step : ℕ → ℕ → Type 0) (far : ℕ → ℕ) (place : ℕ) (walk : List ℕ) → ((b c : ℕ) → 0 < far b → Step b c → (0 < far c) × (far c ≤ far b + 1)) → 0 < far place
    → AreSteps Step place walk → (0 < far (last_of place walk)) × (far (last_of place walk) ≤ far place + length walk)
reaches Step far place [] closed known steps = (known, omega arith)
reaches Step far place (next ∷ rest) closed known steps =
    let here : (0 < far next) × (far next ≤ far place + 1) = closed place next known steps.0 in
    let more : (0 < far (last_of next rest)) × (far (last_of next rest) ≤ far next + length rest) = reaches Step far next rest closed here.0 steps.1 in
    (more.0, omega arith)

pub chain_reaches : (Step : ℕ → ℕ → Type 0) (far : ℕ → ℕ) (start end : ℕ) (chain : List ℕ) → ((b c : ℕ) → 0 < far b → Step b c → (0 < far c) × (far c ≤ far b + 1))
    → ((c : ℕ) → Step start c → (0 < far c) × (far c ≤ 1)) → IsChain Step start end chain → (0 < far end) × (far end ≤ length chain)
chain_reaches Step far start end [] closed first is = absurd (no_empty_chain Step start end is)
chain_reaches Step far start end (next ∷ rest) closed first is =
    let here : (0 < far next) × (far next ≤ 1) = first next is.steps.0 in
    let more : (0 < far (last_of next rest)) × (far (last_of next rest) ≤ far next + length rest) = reaches Step far next rest closed here.0 is.steps.1 in
    let there : last_of next rest ≡ end = chain_ends Step start end (next ∷ rest) is in
    subst (λ place. (0 < far place) × (far place ≤ length (next ∷ rest))) there (more.0, omega arith)

-- What holds of steps of one kind holds of those of another that are the same steps.

steps_for : (Step Also : ℕ → ℕ → Type 0) → ((one other : ℕ) → Step one other → Also one other) → (place : ℕ) (walk : List ℕ) → AreSteps Step place walk → AreSteps Also place walk
steps_for Step Also also place [] steps = tt
steps_for Step Also also place (next ∷ rest) steps = (also place next steps.0, steps_for Step Also also next rest steps.1)

pub chain_for : (Step Also : ℕ → ℕ → Type 0) → ((one other : ℕ) → Step one other → Also one other) → (start end : ℕ) (chain : List ℕ) → IsChain Step start end chain → IsChain Also start end chain
chain_for Step Also also start end chain is = record { ends = is.ends; steps = steps_for Step Also also start chain is.steps }

pub shortest_for : (Step Also : ℕ → ℕ → Type 0) → ((one other : ℕ) → Step one other → Also one other) → ((one other : ℕ) → Also one other → Step one other) → (start end : ℕ) (chain : List ℕ)
    → IsShortest Step start end chain → IsShortest Also start end chain
shortest_for Step Also also back start end chain found = record {
  is = chain_for Step Also also start end chain found.is;
  shortest = λ other is. found.shortest other (chain_for Also Step back start end other is);
}
