-- Statement: contracts of public calls use it.
-- What is printed of two that write the same, and of whom neither reads what the other writes (this project's profile).
-- Every line ends with byte 10.
use Rattle.std.specs.Prelude.{ℕ, ◌≡◌, ◌⊎◌, List, [], Bool, false, Option, Some, codes}
use Rattle.verdict_text.specs.Documents.{list_by}
use Rattle.share_text.specs.declared.holder.Holder.{Holder}
use Rattle.share_core.specs.declared.pools.Pool.{Pool}
use Rattle.share_text.specs.Kinds.{ShareWithin}
use Rattle.share_text.specs.Tenants.{AreTenants, InTurn, IsToldBy}
use Rattle.share_text.specs.declared.kind.Kind.TheVariants.{WritesWrites, WritesReads, ReadsWrites}
use Rattle.share_text.specs.declared.tenants.Strictness.{Strictness}
use Rattle.share_text.specs.declared.tenants.Tenant.{Tenant}

-- both write something, and neither reads what the other writes
abbrev pub OnlyWrite : Option (List Pool) → Tenant → Tenant → Type 0
OnlyWrite pools one other =
    ShareWithin pools WritesWrites one.ticket.now.grants other.ticket.now.grants × (¬ ShareWithin pools WritesReads one.ticket.now.grants other.ticket.now.grants)
    × (¬ ShareWithin pools ReadsWrites one.ticket.now.grants other.ticket.now.grants)

-- what is reported of two tenants: a target that both write, or nothing
abbrev pub IsWritersTold : Option (List Pool) → Strictness → Tenant → Tenant → List ℕ → Bool → Type 0
IsWritersTold pools strictness one other text fails =
    (OnlyWrite pools one other × IsToldBy pools strictness (Some WritesWrites) one other text fails) ⊎ ((¬ OnlyWrite pools one other) × (text ≡ []) × (fails ≡ false))

-- of a tenant with each of those behind it
abbrev pub IsWriterToldWith : Option (List Pool) → Strictness → Tenant → List Tenant → List ℕ → Bool → Type 0
IsWriterToldWith pools strictness one others text fails = InTurn (λ other behind. IsWritersTold pools strictness one other) others text fails

-- what is printed of some entities, and whether the command fails: each pair once, in the file's order
abbrev pub AreWritersTold : Option (List Pool) → Strictness → List Holder → List ℕ → Bool → Type 0
AreWritersTold pools strictness entities text fails =
    (tenants : List Tenant) × AreTenants entities tenants × (told : List ℕ) × InTurn (IsWriterToldWith pools strictness) tenants told fails
    × (text ≡ list_by (codes "writers") strictness.format told)
