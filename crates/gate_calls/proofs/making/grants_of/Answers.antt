use Rattle.std.proofs.Common.{◌≡◌, false, ◌∙◌}
use Rattle.network_core.specs.declared.address.Address.TheVariants.{V4}
use Rattle.rights_core.specs.Rights.{has_networks}
use Rattle.gate_calls.proofs.Plain.{whole}
use Rattle.gate_calls.proofs.making.grants_of.Goals as goal

pub returns-in_ok-indexed : goal.returns-in_ok-indexed
returns-in_ok-indexed c =
    let none : has_networks c.args.rights.grants ≡ false = cc in
    let same : c.in_ok-indexed.field-0 ≡ c.into_ticket.result = c.in_ok-indexed.ensures in
    whole c.args.rights c.in_ok-indexed.field-0 (V4 0) none (same ∙ c.into_ticket.ensures (V4 0))
