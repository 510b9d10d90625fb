-- Refinement: only contracts inside the crate use it.
-- What a grant gives of a pool by itself: something, or all.
use Rattle.std.specs.Prelude.{ℕ, List, ◌==◌, length, Bool, true, false, not, ◌&&◌, ◌||◌, Option, None, Some, is_none, if◌then◌else◌}
use Rattle.std.specs.List.{list_any, list_all}
use Rattle.cap_grants.specs.declared.grant.Access.{Access}
use Rattle.cap_grants.specs.declared.grant.Access.TheVariants as accesses
use Rattle.cap_grants.specs.declared.grant.AllowGrant.{AllowGrant}
use Rattle.cap_grants.specs.declared.grant.NsMatch.{NsMatch}
use Rattle.cap_grants.specs.declared.grant.NsMatch.TheVariants.{Exact, Prefix}
use Rattle.share_core.specs.Pools.{is_for}
use Rattle.share_core.specs.declared.pools.Pool.{Pool}
use Rattle.verdict_core.specs.Ticket.{Ticket}
use Rattle.verdict_core.specs.Verdict.{can_read, can_write, is_expired}
use Rattle.audit_core.specs.declared.cell.Cell.{Cell}
use Rattle.audit_core.specs.declared.cell.Extent.{Extent}
use Rattle.audit_core.specs.declared.cell.Extent.TheVariants.{Nothing, Part, Whole}
use Rattle.audit_core.specs.declared.cell.Letter.{Letter}
use Rattle.audit_core.specs.declared.cell.Letter.TheVariants as letters

abbrev pub takes_every_namespace : Option NsMatch → Bool
takes_every_namespace None = true
takes_every_namespace (Some (Exact name)) = false
takes_every_namespace (Some (Prefix prefix)) = length prefix == 0

abbrev pub takes_every_object : Option (List ℕ) → Bool
takes_every_object None = true
takes_every_object (Some prefix) = length prefix == 0

-- an access covers some call of a listed class that reads, writes or both, or every such call

abbrev pub covers_some : Access → Bool
covers_some accesses.All = true
covers_some (accesses.Flags flags) = flags.class_read || flags.class_write
covers_some (accesses.Class class method) = true

abbrev pub covers_every : Access → Bool
covers_every accesses.All = true
covers_every (accesses.Flags flags) = flags.class_read && flags.class_write
covers_every (accesses.Class class method) = false

abbrev pub is_all : Access → Bool
is_all accesses.All = true
is_all (accesses.Flags flags) = false
is_all (accesses.Class class method) = false

-- an access gives some request of a letter, or every one, at a target that its grant matches

abbrev pub gives_some : Letter → Access → Bool
gives_some letters.Read access = can_read access
gives_some letters.Write access = can_write access
gives_some letters.Listing access = can_read access
gives_some letters.Call access = covers_some access
gives_some letters.Any access = can_read access || (can_write access || covers_some access)

abbrev pub gives_every : Letter → Access → Bool
gives_every letters.Read access = can_read access
gives_every letters.Write access = can_write access
gives_every letters.Listing access = can_read access
gives_every letters.Call access = covers_every access
gives_every letters.Any access = is_all access

-- a prefix takes some target of a letter: a listing has no prefix
abbrev pub takes_some : Letter → Option (List ℕ) → Bool
takes_some letters.Read prefix = true
takes_some letters.Write prefix = true
takes_some letters.Listing prefix = is_none prefix
takes_some letters.Call prefix = true
takes_some letters.Any prefix = true

-- a prefix takes every target of a letter; of any request every object, since listings are looked at by themselves
abbrev pub takes_every : Letter → Option (List ℕ) → Bool
takes_every letters.Read prefix = takes_every_object prefix
takes_every letters.Write prefix = takes_every_object prefix
takes_every letters.Listing prefix = is_none prefix
takes_every letters.Call prefix = takes_every_object prefix
takes_every letters.Any prefix = takes_every_object prefix

abbrev pub reaches_some : Letter → Pool → AllowGrant → Bool
reaches_some letter pool g = is_for g pool && (gives_some letter g.access && takes_some letter g.prefix)

abbrev pub reaches_every : Letter → Pool → AllowGrant → Bool
reaches_every letter pool g = is_for g pool && (gives_every letter g.access && (takes_every_namespace g.namespace && takes_every letter g.prefix))

abbrev pub some_reaches : Letter → Pool → List (List ℕ × AllowGrant) → Bool
some_reaches letter pool grants = list_any (λ entry. reaches_some letter pool entry.1) grants

abbrev pub one_reaches_every : Letter → Pool → List (List ℕ × AllowGrant) → Bool
one_reaches_every letter pool grants = list_any (λ entry. reaches_every letter pool entry.1) grants

-- all requests are those of all objects, and the listings
abbrev pub grants_reach_every : Letter → Pool → List (List ℕ × AllowGrant) → Bool
grants_reach_every letters.Read pool grants = one_reaches_every letters.Read pool grants
grants_reach_every letters.Write pool grants = one_reaches_every letters.Write pool grants
grants_reach_every letters.Listing pool grants = one_reaches_every letters.Listing pool grants
grants_reach_every letters.Call pool grants = one_reaches_every letters.Call pool grants
grants_reach_every letters.Any pool grants = one_reaches_every letters.Any pool grants && one_reaches_every letters.Listing pool grants

-- a ticket that is not expired

abbrev pub ticket_some : ℕ → Letter → Pool → Ticket → Bool
ticket_some tick letter pool ticket = not (is_expired ticket.until tick) && some_reaches letter pool ticket.grants

abbrev pub ticket_every : ℕ → Letter → Pool → Ticket → Bool
ticket_every tick letter pool ticket = not (is_expired ticket.until tick) && grants_reach_every letter pool ticket.grants

-- some ticket gives some request, and each ticket every request
abbrev pub extent : ℕ → Letter → Pool → List Ticket → Extent
extent tick letter pool tickets =
    if list_all (ticket_every tick letter pool) tickets then Whole
    else (if list_any (ticket_some tick letter pool) tickets then Part else Nothing)

abbrev pub cell : ℕ → Pool → List Ticket → Cell
cell tick pool tickets = record {
  read = extent tick letters.Read pool tickets;
  write = extent tick letters.Write pool tickets;
  list = extent tick letters.Listing pool tickets;
  call = extent tick letters.Call pool tickets;
  any = extent tick letters.Any pool tickets;
}
