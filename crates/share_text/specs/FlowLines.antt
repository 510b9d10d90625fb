-- Refinement: only contracts inside the crate use it.
-- What is printed of chains that were found.
use Rattle.std.specs.Prelude.{ℕ, ◌≡◌, ◌≢◌, ◌⊎◌, List, [], Bool, false, Some, length, slice_get, take, ◌-◌}
use Rattle.flow_core.specs.Chains.{AreFound}
use Rattle.flow_core.specs.declared.chains.Found.{Found}
use Rattle.share_text.specs.declared.detail.Detail.{Detail}
use Rattle.share_text.specs.Flows.{OfEach, flow_line}
use Rattle.share_text.specs.declared.tenants.Tenant.{Tenant}

-- those between are the places of the chain but the last one
abbrev pub IsChainTold : Detail → Bool → List Tenant → ℕ → ℕ → List ℕ → List ℕ → Bool → Type 0
IsChainTold detail check tenants writer reader chain text fails =
    ((writer ≢ reader) × (chain ≢ []) × (text ≡ flow_line detail tenants writer reader (take (length chain - 1) chain)) × (fails ≡ check))
    ⊎ (((writer ≡ reader) ⊎ (chain ≡ [])) × (text ≡ []) × (fails ≡ false))

-- what is reported of a chain that was found, by its index in the list
abbrev pub IsFoundTold : Detail → Bool → List Tenant → ℕ → List Found → ℕ → List ℕ → Bool → Type 0
IsFoundTold detail check tenants writer found index text fails =
    (one : Found) × (slice_get found index ≡ Some one) × IsChainTold detail check tenants writer one.end one.chain.items text fails

-- what is reported of the chains that were found from a tenant
abbrev pub AreChainsTold : Detail → Bool → List Tenant → ℕ → List Found → List ℕ → Bool → Type 0
AreChainsTold detail check tenants writer found text fails = OfEach (IsFoundTold detail check tenants writer found) (length found) text fails

-- what is reported of a tenant by the chains that the steps give
abbrev pub IsWriterTold : Detail → Bool → List Tenant → List (List ℕ) → ℕ → List ℕ → Bool → Type 0
IsWriterTold detail check tenants steps writer text fails = (found : List Found) × AreFound steps writer found × AreChainsTold detail check tenants writer found text fails
