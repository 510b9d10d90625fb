-- A user's ticket is a function of its osd text.
use Rattle.std.proofs.Common.{◌≡◌, ◌∙◌, Some, None, sym, ap}
use Rattle.cap_text.proofs.ReadTexts.{reads_the_grammar}
use Rattle.grant_core.specs.Flat.{flat}
use Rattle.world_front.specs.Tickets.{grants_or_none, grants_of, TicketsAreRead}

pub tickets_are_read : TicketsAreRead
tickets_are_read table None until ticket h = h
tickets_are_read table (Some text) until ticket h =
    let grants : ticket.grants ≡ grants_of table (Some text) = h.0.2 ∙ ap (λ r. flat table (grants_or_none r)) (sym (reads_the_grammar text h.0.0 h.0.1)) in
    λ i. record { grants = grants i; until = h.1 i }
