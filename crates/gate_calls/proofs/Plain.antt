-- Rights whose grants have no network.
use Rattle.std.proofs.Common.{◌≡◌, ℕ, Bool, true, false, Option, None, Some, refl, sym, ap, List, [], ◌∷◌, inl, inr}
use Rattle.std.specs.List.{filter_map}
use Rattle.cap_grants.specs.declared.grant.AllowGrant.{AllowGrant}
use Rattle.network_core.specs.declared.address.Address.{Address}
use Rattle.network_core.specs.declared.network.Network.{Network}
use Rattle.request_types.specs.declared.request.Needs.{Needs}
use Rattle.request_types.specs.Target.{Target}
use Rattle.rights_core.specs.Reports.{line, report_from}
use Rattle.rights_core.specs.Rights.{NetworkGrant, Rights, grants_at, has_networks, ticket_at, with_networks}
use Rattle.rights_core.specs.declared.judging.Everywhere.TheVariants as everywhere
use Rattle.rights_core.proofs.Given.{every_address, no_networks}
use Rattle.rights_core.proofs.Sampled.{at_all}
use Rattle.verdict_core.specs.Ticket.{Ticket}
use Rattle.verdict_core.specs.Verdict.{is_allowed, is_expired, line_of, report_of}
use Rattle.gate_calls.specs.Answers.{IsAnswerAt, IsOrigin, IsOriginFor, verdict}
use Rattle.gate_calls.specs.declared.answering.Origin.{Origin}
use Rattle.gate_calls.specs.declared.answering.Origin.TheVariants.{Anywhere}

-- the rights of a ticket, at every address
abbrev pub plain : Ticket → Rights
plain ticket = record { grants = with_networks ticket.grants []; until = ticket.until }

pub same_there : (ticket : Ticket) (a : Address) → ticket ≡ ticket_at (plain ticket) a
same_there ticket a = every_address (plain ticket) ticket [] refl (no_networks ticket.grants) a

pub plain_answers : (ticket : Ticket) (target : Target) (needs : Needs) (tick : ℕ) (b : Bool) → b ≡ is_allowed ticket target needs tick → IsAnswerAt (plain ticket) target needs tick Anywhere (verdict b)
plain_answers ticket target needs tick true e = (everywhere.Allowed, at_all (plain ticket) target needs tick true ticket (same_there ticket) (sym e), refl)
plain_answers ticket target needs tick false e = (everywhere.Denied, at_all (plain ticket) target needs tick false ticket (same_there ticket) (sym e), refl)

-- grants without networks are those of any address
again : (path : List ℕ) (n : Option Network) (grant : AllowGrant) (es : List NetworkGrant) (a : Address)
    → with_networks (grants_at es a) [] ≡ es → has_networks (record { path = path; network = n; grant = grant } ∷ es) ≡ false
    → with_networks (grants_at (record { path = path; network = n; grant = grant } ∷ es) a) [] ≡ record { path = path; network = n; grant = grant } ∷ es
again path None grant es a rest h = ap (λ gs. record { path = path; network = None; grant = grant } ∷ gs) rest
again path (Some n) grant es a rest h = absurd (cc)

later : (n : Option Network) (path : List ℕ) (grant : AllowGrant) (es : List NetworkGrant) → has_networks (record { path = path; network = n; grant = grant } ∷ es) ≡ false → has_networks es ≡ false
later None path grant es h = h
later (Some n) path grant es h = absurd (cc)

pub grants_again : (es : List NetworkGrant) (a : Address) → has_networks es ≡ false → with_networks (grants_at es a) [] ≡ es
grants_again [] a h = refl
grants_again (e ∷ es) a h = again e.path e.network e.grant es a (grants_again es a (later e.network e.path e.grant es h)) h

-- a ticket that is that of every address is the whole of the rights
pub whole : (rights : Rights) (ticket : Ticket) (a : Address) → has_networks rights.grants ≡ false → ticket ≡ ticket_at rights a → plain ticket ≡ rights
whole rights ticket a none e = rw e (ap (λ gs. record { grants = gs; until = rights.until }) (grants_again rights.grants a none))

-- ---- reports

same_line : (expired : Bool) (target : Target) (needs : Needs) (g : List ℕ × AllowGrant) → line expired target needs None (record { path = g.0; network = None; grant = g.1 }) ≡ line_of expired target needs g
same_line true target needs g = refl
same_line false target needs g = refl

same_lines : (expired : Bool) (target : Target) (needs : Needs) (gs : List (List ℕ × AllowGrant)) → filter_map (line expired target needs None) (with_networks gs []) ≡ filter_map (line_of expired target needs) gs
same_lines expired target needs [] = refl
same_lines expired target needs (g ∷ gs) = rw (same_line expired target needs g, same_lines expired target needs gs) refl

pub same_report : (ticket : Ticket) (target : Target) (needs : Needs) (tick : ℕ) → report_from (plain ticket) target needs tick None ≡ report_of ticket target needs tick
same_report ticket target needs tick = same_lines (is_expired ticket.until tick) target needs ticket.grants

-- ---- where a request comes from

pub origin_plain : (rights : Rights) (ticket : Ticket) (from : List ℕ) → plain ticket ≡ rights → IsOriginFor rights from Anywhere
origin_plain rights ticket from e = inl (rw (← e) (no_networks ticket.grants), refl)

pub origin_limited : (rights : Rights) (from : List ℕ) (origin : Origin) → has_networks rights.grants ≡ true → IsOrigin from origin → IsOriginFor rights from origin
origin_limited rights from origin has is = inr (has, is)
