use Rattle.std.proofs.Common.{◌≡◌, ◌++◌, drop, map}
use Rattle.share_text.proofs.retags.index_of_tickets.Given as goal

-- what is added, and the rest, are all
abbrev pub invariant-loop-ticket : goal.invariant-loop-ticket
invariant-loop-ticket l = l.index ++ map (λ ticket. ticket.grants) (drop l.ticket-index l.tickets) ≡ map (λ ticket. ticket.grants) l.tickets
