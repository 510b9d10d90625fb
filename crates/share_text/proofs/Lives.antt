-- The tickets that are made of rights.
use Rattle.std.proofs.Common.{◌≡◌, ◌↔◌, ℕ, ◌+◌, ◌<◌, List, [], ◌∷◌, ◌++◌, Bool, Option, Result, Ok, Err, false, IsTrue, get_or, length, map, take, sym, ap, subst, ◌∙◌, All}
use Rattle.std.proofs.lemmas.List.{map-append, take_more}
use Rattle.network_core.specs.declared.address.Address.{Address}
use Rattle.network_core.specs.declared.address.Address.TheVariants.{V4}
use Rattle.rights_core.specs.Rights.{Rights, has_networks, live_grants, ticket_at}
use Rattle.verdict_core.specs.Ticket.{Ticket}
use Rattle.share_text.specs.declared.holder.Holder.{Holder}
use Rattle.verdict_text.specs.declared.reading.TextFault.{TextFault}
use Rattle.share_text.specs.Everywhere.{ReadsAndWritesAll}
use Rattle.share_text.specs.Live.{IsLive, IsLiveOf}
use Rattle.share_text.specs.declared.tenants.Live.{Live}
use Rattle.share_text.proofs.Given.{bare_live}

-- the ticket of rights without networks has the grants that some address has
pub bare_ticket : (rights : Rights) (ticket : Ticket) → has_networks rights.grants ≡ false → ((a : Address) → ticket ≡ ticket_at rights a) → ticket.grants ≡ live_grants rights.grants
bare_ticket rights ticket bare same = ap (λ (t : Ticket). t.grants) (same (V4 0)) ∙ bare_live rights.grants (V4 0) bare

ok_same : (r : Result Rights TextFault) (x y : Rights) → r ≡ Ok x → r ≡ Ok y → x ≡ y
ok_same r x y is same = cc

abbrev Reaches : Bool → Rights → Type 0
Reaches everywhere rights = IsTrue everywhere ↔ ReadsAndWritesAll (live_grants rights.grants)

pub live_read : (entity : Holder) (rights : Rights) (ticket : Option Ticket) (everywhere : Bool) → entity.read.now ≡ Ok rights → IsLive rights.grants ticket
    → (IsTrue everywhere ↔ ReadsAndWritesAll (live_grants rights.grants)) → IsLiveOf entity ticket everywhere
live_read entity rights ticket everywhere is live reaches other same =
    subst (λ (r : Rights). IsLive r.grants ticket × Reaches everywhere r) (ok_same entity.read.now rights other is same) (live, reaches)

pub live_unread : (entity : Holder) (fault : TextFault) (ticket : Option Ticket) (everywhere : Bool) → entity.read.now ≡ Err fault → IsLiveOf entity ticket everywhere
live_unread entity fault ticket everywhere is other same = absurd (cc)

abbrev IsLiveSo : Live → Type 0
IsLiveSo live = IsLiveOf live.entity live.ticket live.everywhere

pub live_at : (lives : List Live) (i : ℕ) (live : Live) → i < length lives → live ≡ get_or lives i live
    → All (λ (live : Live). IsLiveOf live.entity live.ticket live.everywhere) lives → IsLiveOf live.entity live.ticket live.everywhere
live_at lives i live inside at all = subst IsLiveSo (sym at) (all i live inside)

-- one more entity
pub one_more_live : (entities : List Holder) (i : ℕ) (entity : Holder) (old new : List Live) (live : Live) → i < length entities → entity ≡ get_or entities i entity → live.entity ≡ entity
    → new ≡ old ++ live ∷ [] → map (λ (l : Live). l.entity) old ≡ take i entities → map (λ (l : Live). l.entity) new ≡ take (i + 1) entities
one_more_live entities i entity old new live inside at is same before =
    ap (map (λ (l : Live). l.entity)) same ∙ map-append (λ (l : Live). l.entity) old (live ∷ []) ∙ ap (λ l. l ++ live.entity ∷ []) before
    ∙ ap (λ e. take i entities ++ e ∷ []) (is ∙ at) ∙ sym (take_more entities i entity inside)
