-- Statement: contracts of public calls use it.
-- What is printed of where the data that an entity of a file writes may flow, through others who read it and write
-- (this project's profile). Every line ends with byte 10.
use Rattle.std.specs.Prelude.{ℕ, zero, suc, ◌+◌, ◌≡◌, ◌≢◌, ◌<◌, ◌⊎◌, ◌↔◌, ◌||◌, ◌==◌, List, [], ◌∷◌, ◌++◌, Bool, false, Option, Some, None, codes, decimal, flat_map, if◌then◌else◌, length, map, slice_get}
use Rattle.std.specs.List.{slice_index_or}
use Rattle.flow_core.specs.Chains.{IsChain, IsShortest, IsStep}
use Rattle.grant_core.specs.Flat.{Flat}
use Rattle.verdict_text.specs.ShownName.{shown_name}
use Rattle.share_text.specs.declared.holder.Holder.{Holder}
use Rattle.share_core.specs.declared.pools.Pool.{Pool}
use Rattle.share_text.specs.Kinds.{ShareWithin}
use Rattle.share_text.specs.Tenants.{AreTenants}
use Rattle.share_text.specs.declared.detail.Detail.{Detail}
use Rattle.share_text.specs.declared.detail.Detail.TheVariants.{Brief, Whole}
use Rattle.share_text.specs.declared.kind.Kind.TheVariants.{WritesReads}
use Rattle.share_text.specs.declared.tenants.Tenant.{Tenant}

-- A tenant goes by its place among the tenants. A place with no tenant has no name and no grants.

abbrev pub name_at : List Tenant → ℕ → List ℕ
name_at tenants place = slice_index_or (map (λ (tenant : Tenant). tenant.name.now) tenants) place []

abbrev pub grants_at : List Tenant → ℕ → Flat
grants_at tenants place = slice_index_or (map (λ (tenant : Tenant). tenant.ticket.now.grants) tenants) place []

-- the one tenant writes what the other reads, at some target; where pools are given, at one of theirs
abbrev pub WritesTo : Option (List Pool) → List Tenant → ℕ → ℕ → Type 0
WritesTo pools tenants writer reader =
    (writer < length tenants) × (reader < length tenants) × ShareWithin pools WritesReads (grants_at tenants writer) (grants_at tenants reader)

-- the lists have for each tenant the places of those that read what it writes
pub record AreReaders (pools : Option (List Pool)) (tenants : List Tenant) (steps : List (List ℕ)) : Type 0 where
  pub size : length steps ≡ length tenants
  pub each : (writer reader : ℕ) → IsStep steps writer reader ↔ WritesTo pools tenants writer reader

-- a step to a tenant
abbrev pub step_to : List Tenant → ℕ → List ℕ
step_to tenants place = codes " -> " ++ shown_name (name_at tenants place)

-- the first one of those between, and that others are left out
abbrev pub first_between : List Tenant → Option ℕ → List ℕ
first_between tenants None = codes " -> "
first_between tenants (Some place) = step_to tenants place ++ codes " .. "

-- those between, or the first of them alone
abbrev pub between_words : Detail → List Tenant → List ℕ → List ℕ
between_words Brief tenants between = first_between tenants (slice_get between 0)
between_words Whole tenants between = flat_map (step_to tenants) between ++ codes " -> "

-- the number of steps, where some are left out
abbrev pub steps_words : Detail → ℕ → List ℕ
steps_words Brief count = if count == 0 then [] else codes ", " ++ (decimal (count + 1) ++ codes " steps")
steps_words Whole count = []

-- who writes, those between, and who reads
abbrev pub flow_line : Detail → List Tenant → ℕ → ℕ → List ℕ → List ℕ
flow_line detail tenants writer reader between =
    shown_name (name_at tenants writer) ++ (between_words detail tenants between ++ (shown_name (name_at tenants reader) ++ (steps_words detail (length between) ++ codes "\n")))

-- what is reported of two different tenants: a line by a shortest chain from the one to the other, or nothing where no
-- chain exists; a check fails where there is a line
abbrev pub IsFlowTold : Detail → Option (List Pool) → Bool → List Tenant → ℕ → ℕ → List ℕ → Bool → Type 0
IsFlowTold detail pools check tenants writer reader text fails =
    ((between : List ℕ) × IsShortest (WritesTo pools tenants) writer reader (between ++ reader ∷ []) × (text ≡ flow_line detail tenants writer reader between)
    × (fails ≡ check))
    ⊎ (((chain : List ℕ) → ¬ IsChain (WritesTo pools tenants) writer reader chain) × (text ≡ []) × (fails ≡ false))

-- nothing is reported of a tenant and itself
abbrev pub IsPlaceTold : Detail → Option (List Pool) → Bool → List Tenant → ℕ → ℕ → List ℕ → Bool → Type 0
IsPlaceTold detail pools check tenants writer reader text fails =
    ((writer ≢ reader) × IsFlowTold detail pools check tenants writer reader text fails) ⊎ ((writer ≡ reader) × (text ≡ []) × (fails ≡ false))

-- what is reported of each place below a number, in turn; it fails where it fails for one
abbrev pub OfEach : (ℕ → List ℕ → Bool → Type 0) → ℕ → List ℕ → Bool → Type 0
OfEach IsTold zero text fails = (text ≡ []) × (fails ≡ false)
OfEach IsTold (suc place) text fails =
    (front rest : List ℕ) × (first later : Bool) × OfEach IsTold place front first × IsTold place rest later
    × (text ≡ front ++ rest) × (fails ≡ (first || later))

-- what is reported of some tenants: of each who writes with each who reads, in the file's order
abbrev pub AreReachesTold : Detail → Option (List Pool) → Bool → List Tenant → List ℕ → Bool → Type 0
AreReachesTold detail pools check tenants text fails =
    OfEach (λ writer. OfEach (IsPlaceTold detail pools check tenants writer) (length tenants)) (length tenants) text fails

-- what is printed of some entities, and whether the command fails
abbrev pub AreFlowsTold : Detail → Option (List Pool) → Bool → List Holder → List ℕ → Bool → Type 0
AreFlowsTold detail pools check entities text fails = (tenants : List Tenant) × AreTenants entities tenants × AreReachesTold detail pools check tenants text fails
