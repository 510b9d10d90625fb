-- Statement: contracts of public calls use it.
-- When a request is allowed, and why it is not.
-- Sources: Ceph User Management, "Authorization capabilities", for what a grant asks for and gives;
-- reports, and what a tag's any stands for, are this project's profile.
use Rattle.std.specs.Prelude.{ℕ, ◌+◌, List, [], ◌∷◌, Bool, true, false, not, ◌&&◌, ◌||◌, if◌then◌else◌, Option, None, Some, nat_eq, nat_le}
use Rattle.std.specs.Option.{option_map_or, option_map}
use Rattle.std.specs.List.{list_any, list_all, filter_map, starts_with}
use Rattle.std.specs.Str.{bytes_eq}
use Rattle.cap_grants.specs.declared.grant.AllowGrant.{AllowGrant}
use Rattle.cap_grants.specs.declared.grant.Access.{Access}
use Rattle.cap_grants.specs.declared.grant.Access.TheVariants.{All, Flags, Class}
use Rattle.cap_grants.specs.declared.grant.NsMatch.{NsMatch}
use Rattle.cap_grants.specs.declared.grant.NsMatch.TheVariants.{Exact, Prefix}
use Rattle.cap_grants.specs.declared.grant.Part.{Part}
use Rattle.cap_grants.specs.declared.grant.Part.TheVariants.{Any, Is}
use Rattle.cap_grants.specs.declared.grant.Tag.{Tag}
use Rattle.common_types.specs.declared.tags.AppTags.{AppTags}
use Rattle.request_types.specs.declared.request.Needs.{Needs}
use Rattle.request_types.specs.declared.request.ClassCall.{ClassCall}
use Rattle.request_types.specs.declared.request.Condition.{Condition}
use Rattle.request_types.specs.declared.request.Condition.TheVariants as why
use Rattle.request_types.specs.Target.{Target}
use Rattle.verdict_core.specs.Ticket.{Ticket}

-- no name, or this one
abbrev pub names : Option (List ℕ) → List ℕ → Bool
names wanted name = option_map_or (λ n. bytes_eq n name) wanted true

-- no namespace, the exact one, or a prefix of it
abbrev pub matches_namespace : Option NsMatch → List ℕ → Bool
matches_namespace None namespace = true
matches_namespace (Some (Exact name)) namespace = bytes_eq name namespace
matches_namespace (Some (Prefix prefix)) namespace = starts_with nat_eq namespace prefix

abbrev pub matches_part : Part → List ℕ → Bool
matches_part Any text = true
matches_part (Is name) text = bytes_eq name text

-- both parts are any, so that no pair is needed, or some pair agrees in key and value
abbrev pub matches_pairs : Part → Part → List (List ℕ × List ℕ) → Bool
matches_pairs Any Any pairs = true
matches_pairs Any (Is value) pairs = list_any (λ pair. bytes_eq value pair.1) pairs
matches_pairs (Is key) value pairs = list_any (λ pair. bytes_eq key pair.0 && matches_part value pair.1) pairs

abbrev pub matches_application : Tag → AppTags → Bool
matches_application tag app = bytes_eq tag.application app.application && matches_pairs tag.key tag.value app.pairs

-- no tag, or the pool has the application with such a pair
abbrev pub matches_tag : Option Tag → List AppTags → Bool
matches_tag None tags = true
matches_tag (Some tag) tags = list_any (matches_application tag) tags

-- no prefix, or one of an object's name, which is not empty
abbrev pub matches_prefix : Option (List ℕ) → List ℕ → Bool
matches_prefix None object = true
matches_prefix (Some prefix) [] = false
matches_prefix (Some prefix) (b ∷ bs) = starts_with nat_eq (b ∷ bs) prefix

-- whether a grant speaks of a target
abbrev pub matches : AllowGrant → Target → Bool
matches g target = names g.pool target.pool && matches_namespace g.namespace target.namespace && matches_tag g.tag target.tags && matches_prefix g.prefix target.object

abbrev pub can_read : Access → Bool
can_read All = true
can_read (Flags flags) = flags.read
can_read (Class class method) = false

abbrev pub can_write : Access → Bool
can_write All = true
can_write (Flags flags) = flags.write
can_write (Class class method) = false

-- whether a grant speaks of the target, and reads and writes as far as the request does
abbrev pub is_usable : AllowGrant → Target → Needs → Bool
is_usable g target needs = matches g target && (not needs.reads || can_read g.access) && (not needs.writes || can_write g.access)

-- Whether an access covers a call. Flags cover only classes on the default list.
abbrev pub covers : Access → ClassCall → Bool
covers All call = true
covers (Class class method) call = bytes_eq class call.class && names method call.method
covers (Flags flags) call = call.listed && (not call.class_reads || flags.class_read) && (not call.class_writes || flags.class_write)

-- whether some usable grant covers a call
abbrev pub is_covered : List (List ℕ × AllowGrant) → Target → Needs → ClassCall → Bool
is_covered grants target needs call = list_any (λ entry. is_usable entry.1 target needs && covers entry.1.access call) grants

-- what a list of grants allows: some grant is usable, and each call is covered by some usable grant
abbrev pub grants_allow : List (List ℕ × AllowGrant) → Target → Needs → Bool
grants_allow grants target needs = list_any (λ entry. is_usable entry.1 target needs) grants && list_all (is_covered grants target needs) needs.calls

-- whether a ticket with this end is expired: it ends, and the tick is not before that
abbrev pub is_expired : Option ℕ → ℕ → Bool
is_expired None tick = false
is_expired (Some until) tick = nat_le until tick

-- the ticket is not expired, and its grants allow the request
abbrev pub is_allowed : Ticket → Target → Needs → ℕ → Bool
is_allowed ticket target needs tick = not (is_expired ticket.until tick) && grants_allow ticket.grants target needs

-- the first call that an access does not cover, by its number
abbrev pub uncovered_from : ℕ → Access → List ClassCall → Option Condition
uncovered_from number access [] = None
uncovered_from number access (call ∷ calls) = if covers access call then uncovered_from (number + 1) access calls else Some (why.Call number)

-- this condition, where the test fails, or else what comes later
abbrev pub unless : Bool → Condition → Option Condition → Option Condition
unless holds condition later = if holds then later else Some condition

-- the first condition of a grant that a request fails
abbrev pub grant_failure : AllowGrant → Target → Needs → Option Condition
grant_failure g target needs =
    unless (names g.pool target.pool) why.Pool
    (unless (matches_namespace g.namespace target.namespace) why.Namespace
    (unless (matches_tag g.tag target.tags) why.Tag
    (unless (matches_prefix g.prefix target.object) why.Prefix
    (unless (not needs.reads || can_read g.access) why.Read
    (unless (not needs.writes || can_write g.access) why.Write
    (uncovered_from 1 g.access needs.calls))))))

-- the same of a grant of a ticket, which may be expired
abbrev pub first_failure : Bool → AllowGrant → Target → Needs → Option Condition
first_failure expired g target needs = unless (not expired) why.Expired (grant_failure g target needs)

-- a grant's path with the first condition that the request fails
abbrev pub line_of : Bool → Target → Needs → List ℕ × AllowGrant → Option (List ℕ × Condition)
line_of expired target needs entry = option_map (λ condition. (entry.0, condition)) (first_failure expired entry.1 target needs)

-- each grant's path with the first condition that the request fails
abbrev pub report_of : Ticket → Target → Needs → ℕ → List (List ℕ × Condition)
report_of ticket target needs tick = filter_map (line_of (is_expired ticket.until tick) target needs) ticket.grants
