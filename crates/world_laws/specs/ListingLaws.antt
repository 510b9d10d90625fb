-- Statement: contracts of public calls use it.
-- What the listings of a world tell.
use Rattle.std.specs.Prelude.{◌≡◌, ℕ, ◌+◌, ◌<◌, ◌≤◌, ◌==◌, List, [], ◌∷◌, ◌++◌, true, false, if◌then◌else◌, None, Some, Ok, is_some, map}
use Rattle.std.specs.List.{flat_map, range_with_len}
use Rattle.grant_core.specs.Flat.{Table}
use Rattle.verdict_core.specs.Verdict.{report_of}
use Rattle.store_core.specs.Request.{Sealed, Listing, target_of, needs_for}
use Rattle.store_core.specs.Deciding.{store_of, is_allowed_sealed, names_in as names_decided}
use Rattle.entry_core.specs.Log.{is_in, ids}
use Rattle.store_core.specs.declared.entry.Entry.{Entry}
use Rattle.store_core.specs.declared.reply.Reply.{Reply}
use Rattle.store_core.specs.declared.reply.Reply.TheVariants.{Denied, Names}
use Rattle.group_model_whole.specs.Each.{Each}
use Rattle.group_model.specs.Group.{submitted}
use Rattle.world_events.specs.declared.event.Event.{Event}
use Rattle.world_front.specs.ControlPlane.{ControlPlane, list_at}
use Rattle.world_front.specs.declared.session.ListRange.{ListRange}
use Rattle.world_core.specs.World.{World, world_after}
use Rattle.world_core.specs.Standing.{HasNumbers}
use Rattle.world_front.specs.Groups.{group_count}
use Rattle.world_core.specs.Answers.{answer_at}
use Rattle.world_core.specs.Holds.{AreAccepted}
use Rattle.world_core.specs.Listing.{sorted, listing_of, listing_at}
use Rattle.world_laws.specs.Pieces.{objects_of, IsPiece}

-- ---- the pieces

-- the pieces of a list: under consecutive numbers one request for each group of one pool, all of one namespace, with one ticket and tick
pub record HasPieces (f : ControlPlane) (p : ListRange) : Type 0 where
  pub pool : List ℕ
  pub namespace : List ℕ
  pub pieces : ℕ → Sealed  -- by the group's number
  pub some : 1 ≤ p.count
  pub groups : group_count f.history pool ≡ p.count
  pub submitted_as : (i : ℕ) → i < p.count → submitted f.submissions (p.first + i) ≡ Some (pieces i)
  pub are : (i : ℕ) → i < p.count → IsPiece pool namespace p.count i (pieces i)
  pub listing : (i : ℕ) → i < p.count → (pieces i).work ≡ Listing
  pub ticket : (i : ℕ) → i < p.count → (pieces i).ticket ≡ (pieces 0).ticket
  pub tick : (i : ℕ) → i < p.count → (pieces i).tick ≡ (pieces 0).tick
  pub allowed : (i : ℕ) → i < p.count → is_allowed_sealed (pieces i) ≡ is_allowed_sealed (pieces 0)

-- whatever happens, each list of the front has its pieces; ids must have room for the numbers of all requests
abbrev pub ListsHavePieces : Type 0
ListsHavePieces = (table : Table) (daemons : ℕ) (events : List Event) → HasNumbers (world_after table daemons events) → Each (HasPieces (world_after table daemons events).front) (world_after table daemons events).front.lists

-- ---- what they are answered

-- the entries before that of a request
abbrev pub before_of : ℕ → List Entry → List Entry
before_of id [] = []
before_of id (e ∷ es) = if e.sealed.id == id then [] else e ∷ before_of id es

-- the names of a piece, where it stands in the audit
abbrev pub names_at : List Entry → Sealed → ℕ → List (List ℕ)
names_at audit s id = names_decided (store_of (before_of id audit)) s

-- the reply to a request that its ticket does not allow
abbrev pub denial : Sealed → Reply
denial s = Denied (report_of s.ticket (target_of s) (needs_for s.work) s.tick)

abbrev pub IsComplete : World → ListRange → Type 0
IsComplete w p = (i : ℕ) → i < p.count → is_some (answer_at w (p.first + i)) ≡ true

-- none of these entries, each after those before it, changes which objects the pool and namespace have
abbrev pub KeepsObjects : List ℕ → List ℕ → List Entry → List Entry → Type 0
KeepsObjects pool namespace before [] = Unit {0}
KeepsObjects pool namespace before (e ∷ es) = (objects_of (store_of (before ++ e ∷ [])) pool namespace ≡ objects_of (store_of before) pool namespace) × KeepsObjects pool namespace (before ++ e ∷ []) es

-- The entries of all pieces stand within a stretch of the audit, which changes no objects of theirs
pub record IsUnchanged (audit : List Entry) (p : ListRange) (pool namespace : List ℕ) : Type 0 where
  pub before : List Entry
  pub stretch : List Entry
  pub behind : List Entry
  pub whole : before ++ (stretch ++ behind) ≡ audit
  pub within : (i : ℕ) → i < p.count → is_in (ids stretch) (p.first + i) ≡ true
  pub keeps : KeepsObjects pool namespace before stretch

-- How a list is answered. A piece is answered with the names at its place in the audit, or with its denial. The list is
-- nothing until each piece was answered. Then it is the denial, or the sorted names of all pieces. Where nothing
-- between the pieces changes which objects exist, these are exactly the names of these objects
pub record IsListing (w : World) (p : ListRange) : Type 0 where
  pub has : HasPieces w.front p
  pub named : (i : ℕ) (reply : Reply) → i < p.count → answer_at w (p.first + i) ≡ Some reply → is_allowed_sealed (has.pieces i) ≡ true → reply ≡ Names (names_at w.audit (has.pieces i) (p.first + i))
  pub denied : (i : ℕ) (reply : Reply) → i < p.count → answer_at w (p.first + i) ≡ Some reply → is_allowed_sealed (has.pieces i) ≡ false → reply ≡ denial (has.pieces i)
  pub waits : (i : ℕ) → i < p.count → answer_at w (p.first + i) ≡ None → listing_of (answer_at w) p ≡ None
  pub lists : IsComplete w p → is_allowed_sealed (has.pieces 0) ≡ true
      → listing_of (answer_at w) p ≡ Some (Names (sorted (flat_map (λ i. names_at w.audit (has.pieces i) (p.first + i)) (range_with_len 0 p.count))))
  pub denies : IsComplete w p → is_allowed_sealed (has.pieces 0) ≡ false → listing_of (answer_at w) p ≡ Some (denial (has.pieces 0))
  pub whole : IsComplete w p → is_allowed_sealed (has.pieces 0) ≡ true → (u : IsUnchanged w.audit p has.pool has.namespace)
      → listing_of (answer_at w) p ≡ Some (Names (map (λ n. n.name) (objects_of (store_of u.before) has.pool has.namespace)))

-- the list that is found under a number
pub record IsListedAs (w : World) (first : ℕ) (p : ListRange) : Type 0 where
  pub begins : p.first ≡ first
  pub told : listing_at w first ≡ Ok (listing_of (answer_at w) p)
  pub is : IsListing w p

-- whatever happens
abbrev pub ListingsAreTold : Type 0
ListingsAreTold = (table : Table) (daemons : ℕ) (events : List Event) (first : ℕ) (p : ListRange) → HasNumbers (world_after table daemons events) → list_at (world_after table daemons events).front first ≡ Some p → IsListedAs (world_after table daemons events) first p

-- where each event was accepted
abbrev pub AcceptedListings : Type 0
AcceptedListings = (table : Table) (daemons : ℕ) (events : List Event) (first : ℕ) (p : ListRange) → AreAccepted table daemons events → list_at (world_after table daemons events).front first ≡ Some p → IsListedAs (world_after table daemons events) first p
