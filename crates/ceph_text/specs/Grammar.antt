-- Statement: contracts of public calls use it.
-- The grammar of a grant in Ceph 16.2.15, measured at the compiled parser of Debian's OSD: `OSDCap.cc`.
use Rattle.std.specs.Prelude.{ℕ, ◌-◌, Bool, true, false, not, ◌||◌, ◌&&◌, ◌==◌, nat_le, nat_lt, List, [], ◌∷◌, ◌++◌, length, take, slice_index, codes, Option, Some, None, if◌then◌else◌}
use Rattle.std.specs.Str.{bytes_eq}
use Rattle.common_types.specs.WordBytes.{is_word_byte}
use Rattle.cap_grants.specs.declared.grant.Access.{Access}
use Rattle.cap_grants.specs.declared.grant.Access.TheVariants.{All, Flags, Class}
use Rattle.cap_grants.specs.declared.grant.NsMatch.{NsMatch}
use Rattle.cap_grants.specs.declared.grant.NsMatch.TheVariants.{Exact, Prefix}
use Rattle.cap_grants.specs.declared.grant.Part.{Part}
use Rattle.cap_grants.specs.declared.grant.Part.TheVariants.{Any, Is}
use Rattle.cap_grants.specs.declared.grant.Tag.{Tag}
use Rattle.cap_grants.specs.declared.grant.Grant.{Grant}
use Rattle.cap_grants.specs.declared.grant.Grant.TheVariants.{Allow, Profile}
use Rattle.ceph_text.specs.declared.grant.CephGrant.{CephGrant}
use Rattle.ceph_text.specs.Readers.{Reader, give, refuse, ◌>>=◌, ◌>>◌, ◌</>◌, optional, present, word, many, some}

-- S: a byte of 9 to 13 or a blank; B: a tab or a blank
abbrev pub is_space : ℕ → Bool
is_space b = (nat_le 9 b && nat_le b 13) || b == 32

abbrev pub is_blank : ℕ → Bool
is_blank b = b == 9 || b == 32

-- any byte but NUL and the quote
abbrev pub is_inside : ℕ → ℕ → Bool
is_inside quote b = not (b == quote || b == 0)

-- one of [./0-9:A-Fa-f\[\]]
abbrev pub is_network_byte : ℕ → Bool
is_network_byte b = (nat_le 46 b && nat_le b 58) || ((nat_le 65 b && nat_le b 70) || ((nat_le 97 b && nat_le b 102) || (b == 91 || b == 93)))

-- S*, S+ and B*
abbrev pub spaces : Reader (List ℕ)
spaces = many is_space

abbrev pub space : Reader (List ℕ)
space = some is_space

abbrev pub blanks : Reader (List ℕ)
blanks = many is_blank

unfoldable pub quoted : ℕ → Reader (List ℕ)
quoted quote = do
  word (quote ∷ [])
  text ← many (is_inside quote)
  word (quote ∷ [])
  give text

-- a name in double or single quotes, where it may be empty, or a bare one
unfoldable pub estr : Reader (List ℕ)
estr = quoted 34 </> quoted 39 </> some is_word_byte

unfoldable pub str : Reader (List ℕ)
str = do
  text ← estr
  if length text == 0 then refuse else give text

-- a word of its own, behind S+
unfoldable pub keyword : List ℕ → Reader (Unit {0})
keyword bytes = space >> word bytes

-- "=" with nothing beside it, or S+
unfoldable pub assigned : Reader (Unit {0})
assigned = word (codes "=") </> (space >> give tt)

unfoldable pub pool : Reader (List ℕ)
pool = keyword (codes "pool") >> assigned >> str

abbrev pub has_star : List ℕ → Bool
has_star text = nat_lt 0 (length text) && slice_index text (length text - 1) == 42

-- a star behind the text, or else one at its end, makes it a prefix
abbrev pub namespaces : List ℕ → Bool → NsMatch
namespaces text true = Prefix text
namespaces text false = if has_star text then Prefix (take (length text - 1) text) else Exact text

unfoldable pub ns : Reader NsMatch
ns = do
  keyword (codes "namespace")
  assigned
  text ← estr
  star ← present (word (codes "*"))
  give (namespaces text star)

unfoldable pub prefix : Reader (List ℕ)
prefix = keyword (codes "object_prefix") >> space >> str

-- "all" is the star, also as the front of a longer word
-- a star between quotes is the star, too
abbrev pub part_of : List ℕ → Part
part_of text = if bytes_eq text (codes "*") then Any else Is text

unfoldable pub part : Reader Part
part = (word (codes "*") >> give Any) </> (word (codes "all") >> give Any) </> (str >>= λ text. give (part_of text))

unfoldable pub tag : Reader Tag
tag = do
  keyword (codes "tag")
  space
  application ← str
  space
  key ← part
  spaces
  word (codes "=")
  spaces
  value ← part
  give (record { application = application; key = key; value = value })

-- where a grant holds
pub record Where : Type 0 where
  pub pool : Option (List ℕ)
  pub namespace : Option NsMatch
  pub prefix : Option (List ℕ)
  pub tag : Option Tag

unfoldable pub tagged : Reader Where
tagged = tag >>= λ t. give (record { pool = None; namespace = None; prefix = None; tag = Some t })

unfoldable pub ns_tagged : Reader Where
ns_tagged = do
  n ← ns
  t ← tag
  give (record { pool = None; namespace = Some n; prefix = None; tag = Some t })

unfoldable pub with_ns : Reader Where
with_ns = do
  p ← optional pool
  n ← ns
  o ← optional prefix
  give (record { pool = p; namespace = Some n; prefix = o; tag = None })

unfoldable pub without_ns : Reader Where
without_ns = do
  p ← optional pool
  o ← optional prefix
  give (record { pool = p; namespace = None; prefix = o; tag = None })

unfoldable pub untagged : Reader Where
untagged = with_ns </> without_ns

unfoldable pub place : Reader Where
place = tagged </> ns_tagged </> untagged

unfoldable pub everything : Reader Access
everything = (keyword (codes "*") </> keyword (codes "all")) >> give All

-- which of r, w and x
unfoldable pub letters : Reader (Bool × Bool × Bool)
letters = do
  space
  r ← present (word (codes "r"))
  w ← present (word (codes "w"))
  x ← present (word (codes "x"))
  if r || (w || x) then give (r, w, x) else refuse

-- x is class-read and class-write
abbrev pub flags_of : Option (Bool × Bool × Bool) → Bool → Bool → Reader Access
flags_of (Some l) reads writes = give (Flags (record { read = l.0; write = l.1; class_read = l.2 || reads; class_write = l.2 || writes }))
flags_of None reads writes = if reads || writes then give (Flags (record { read = false; write = false; class_read = reads; class_write = writes })) else refuse

unfoldable pub flags : Reader Access
flags = do
  l ← optional letters
  reads ← present (keyword (codes "class-read"))
  writes ← present (keyword (codes "class-write"))
  flags_of l reads writes

unfoldable pub method : Reader (List ℕ)
method = space >> str

-- any word behind the class is its method
unfoldable pub class : Reader Access
class = do
  keyword (codes "class")
  space
  name ← str
  called ← optional method
  give (Class name called)

unfoldable pub spec : Reader Access
spec = everything </> flags </> class

unfoldable pub network : Reader (List ℕ)
network = keyword (codes "network") >> space >> some is_network_byte

abbrev pub allow : Access → Where → Option (List ℕ) → CephGrant
allow a m n = record { grant = Allow (record { access = a; pool = m.pool; namespace = m.namespace; prefix = m.prefix; tag = m.tag }); network = n }

unfoldable pub spec_first : Reader CephGrant
spec_first = do
  word (codes "allow")
  a ← spec
  m ← place
  n ← optional network
  give (allow a m n)

unfoldable pub match_first : Reader CephGrant
match_first = do
  word (codes "allow")
  m ← place
  a ← spec
  n ← optional network
  give (allow a m n)

unfoldable pub profile : Reader CephGrant
profile = do
  word (codes "profile")
  assigned
  name ← str
  p ← optional pool
  n ← optional ns
  w ← optional network
  give (record { grant = Profile (record { name = name; pool = p; namespace = n }); network = w })

unfoldable pub form : Reader CephGrant
form = spec_first </> match_first </> profile

unfoldable pub grant : Reader CephGrant
grant = do
  blanks
  g ← form
  blanks
  give g

unfoldable pub separator : Reader (Unit {0})
separator = word (codes ",") </> word (codes ";")

-- a grant behind its separator
unfoldable pub next_grant : Reader CephGrant
next_grant = blanks >> separator >> blanks >> grant

unfoldable pub first_grant : Reader CephGrant
first_grant = spaces >> grant
