-- Statement: contracts of public calls use it.
-- A suggested text in the form that Ceph reads.
use Rattle.std.specs.Prelude.{ℕ, ◌≡◌, List, [], ◌∷◌, ◌++◌, All, Bool, true, Vec, codes, flat_map}
use Rattle.std.specs.declared.alloc.Global.{Global}
use Rattle.cap_grants.specs.declared.grant.AllowGrant.{AllowGrant}
use Rattle.ceph_text.specs.Printed.{printed_ceph}
use Rattle.compare_core.specs.declared.registry.Registry.TheVariants.{Every}
use Rattle.compare_text.specs.declared.comparison.Comparison.{Comparison}
use Rattle.network_core.specs.declared.address.Address.{Address}
use Rattle.network_core.specs.Address.{IsAddress}
use Rattle.rights_core.specs.Rights.{Rights}
use Rattle.rights_core.specs.Verdicts.{allowed_at}
use Rattle.suggest_core.specs.Outcome.{IsOutcome}
use Rattle.verdict_text.specs.declared.format.Format.TheVariants as format
use Rattle.suggest_core.specs.declared.grain.Grain.{Grain}
use Rattle.suggest_core.specs.declared.seen.Seen.{Seen}
use Rattle.suggest_core.specs.declared.suggesting.Suggestion.TheVariants.{Text}

abbrev pub grant_piece : AllowGrant → List ℕ
grant_piece grant = codes ", " ++ printed_ceph grant

abbrev pub other_piece : List ℕ × AllowGrant → List ℕ
other_piece entry = grant_piece entry.1

-- commas between the grants
abbrev pub grants_text : List (List ℕ × AllowGrant) → List ℕ
grants_text [] = []
grants_text (entry ∷ entries) = printed_ceph entry.1 ++ flat_map other_piece entries

-- the text of a suggestion for all requests
abbrev pub IsSuggestedText : Grain → Bool → List Seen → List ℕ → Type 0
IsSuggestedText grain allow_all seen text = (grants : Vec (List ℕ × AllowGrant) Global) × IsOutcome grain allow_all seen (Text grants) × (text ≡ grants_text grants.items)

-- a request is allowed from every address
abbrev pub Allows : Rights → Seen → Type 0
Allows rights request = (a : Address) → IsAddress a → allowed_at rights request.target request.needs 0 a ≡ true

abbrev pub AllowsEach : Rights → List Seen → Type 0
AllowsEach rights seen = All (Allows rights) seen

-- over every class registry, where a gain fails
abbrev pub checked : Comparison
checked = record { registry = Every; check = true; format = format.Text }
