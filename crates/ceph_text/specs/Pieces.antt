-- Refinement: only contracts inside the crate use it.
-- What borrowed parts of a text stand for.
use Rattle.std.specs.Prelude.{◌≡◌, ℕ, Bool, true, false, List, Option, Some, None, option_map}
use Rattle.cap_grants.specs.declared.grant.Access.{Access}
use Rattle.cap_grants.specs.declared.grant.Access.TheVariants as access
use Rattle.cap_grants.specs.declared.grant.NsMatch.{NsMatch}
use Rattle.cap_grants.specs.declared.grant.NsMatch.TheVariants as matches
use Rattle.cap_grants.specs.declared.grant.Part.{Part}
use Rattle.cap_grants.specs.declared.grant.Part.TheVariants as parts
use Rattle.cap_grants.specs.declared.grant.Tag.{Tag}
use Rattle.ceph_text.specs.declared.pieces.NsPiece.{NsPiece}
use Rattle.ceph_text.specs.declared.pieces.NsPiece.TheVariants.{Exact, Prefix}
use Rattle.ceph_text.specs.declared.pieces.PartPiece.{PartPiece}
use Rattle.ceph_text.specs.declared.pieces.PartPiece.TheVariants.{Any, Is}
use Rattle.ceph_text.specs.declared.pieces.TagPiece.{TagPiece}
use Rattle.ceph_text.specs.declared.pieces.AccessPiece.{AccessPiece}
use Rattle.ceph_text.specs.declared.pieces.AccessPiece.TheVariants.{All, Flags, Class}
use Rattle.ceph_text.specs.declared.pieces.Place.{Place}
use Rattle.ceph_text.specs.declared.pieces.GrantPiece.{GrantPiece}
use Rattle.ceph_text.specs.declared.pieces.GrantPiece.TheVariants.{Allow, Profile}
use Rattle.ceph_text.specs.declared.pieces.CephPiece.{CephPiece}
use Rattle.ceph_text.specs.declared.grant.CephGrant.{CephGrant}
use Rattle.cap_grants.specs.declared.grant.Grant.{Grant}
use Rattle.cap_grants.specs.declared.grant.Grant.TheVariants as grants
use Rattle.ceph_text.specs.Grammar.{Where, allow, first_grant, next_grant}
use Rattle.ceph_text.specs.Readers.{Reader}

-- What a function found, seen by view, is what the reader gives.
abbrev pub Reads : {X A : Type 0} → (X → A) → Option X → Option A → Type 0
Reads view None given = given ≡ None
Reads view (Some x) given = given ≡ Some (view x)

abbrev pub ns_of : NsPiece → NsMatch
ns_of (Exact text) = matches.Exact text.now
ns_of (Prefix text) = matches.Prefix text.now

abbrev pub part_of : PartPiece → Part
part_of Any = parts.Any
part_of (Is text) = parts.Is text.now

abbrev pub tag_of : TagPiece → Tag
tag_of t = record { application = t.application.now; key = part_of t.key; value = part_of t.value }

abbrev pub access_of : AccessPiece → Access
access_of All = access.All
access_of (Flags flags) = access.Flags flags
access_of (Class name method) = access.Class name.now (option_map (λ m. m.now) method)

abbrev pub where_of : Place → Where
where_of p = record {
  pool = option_map (λ name. name.now) p.pool;
  namespace = option_map ns_of p.namespace;
  prefix = option_map (λ name. name.now) p.prefix;
  tag = option_map tag_of p.tag;
}

abbrev pub grant_of : GrantPiece → Grant
grant_of (Allow access place) = (allow (access_of access) (where_of place) None).grant
grant_of (Profile name pool namespace) = grants.Profile (record { name = name.now; pool = option_map (λ n. n.now) pool; namespace = option_map ns_of namespace })

abbrev pub ceph_of : CephPiece → CephGrant
ceph_of piece = record { grant = grant_of piece.grant; network = option_map (λ n. n.now) piece.network }

abbrev pub reader_at : Bool → Reader CephGrant
reader_at true = first_grant
reader_at false = next_grant
