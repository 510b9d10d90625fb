-- Statement: contracts of public calls use it.
-- What a user's osd text expands to, as a function.
use Rattle.std.specs.Prelude.{◌≡◌, ℕ, List, [], Option, Some, None, Ok, Err}
use Rattle.cap_text.specs.ReadText.{Read, read_text}
use Rattle.cap_grants.specs.declared.grant.Grant.{Grant}
use Rattle.grant_core.specs.Flat.{Table, Flat, flat}
use Rattle.verdict_core.specs.Ticket.{Ticket}
use Rattle.auth_db.specs.Texts.{IsTicket}

abbrev pub grants_or_none : Read → List Grant
grants_or_none (Ok grants) = grants
grants_or_none (Err fault) = []

-- the grants of an osd text with the profiles of a table, and none without a text
abbrev pub grants_of : Table → Option (List ℕ) → Flat
grants_of table None = []
grants_of table (Some text) = flat table (grants_or_none (read_text text))

-- the ticket of an osd text, until the end that was asked for
abbrev pub ticket_of : Table → Option (List ℕ) → Option ℕ → Ticket
ticket_of table osd until = record { grants = grants_of table osd; until = until }

-- what the users give as a ticket is this function of the osd text
abbrev pub TicketsAreRead : Type 0
TicketsAreRead = (table : Table) (osd : Option (List ℕ)) (until : Option ℕ) (ticket : Ticket) → IsTicket table osd until ticket → ticket ≡ ticket_of table osd until
