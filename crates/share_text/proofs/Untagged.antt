-- Grants for pools of any tags.
use Rattle.std.proofs.Common.{◌≡◌, ℕ, suc, List, [], ◌∷◌, ◌++◌, Bool, true, false, ◌&&◌, Option, None, Some, Result, Ok, Err, IfOk, length, map, slice_get, refl, sym, ap, ◌∙◌, subst, inl, inr}
use Rattle.std.specs.Prelude.{codes}
use Rattle.std.specs.Option.{option_map}
use Rattle.std.proofs.lemmas.Bool.{false≢true}
use Rattle.std.proofs.lemmas.Option.{slice_get-map}
use Rattle.cap_grants.specs.declared.grant.Access.TheVariants.{All}
use Rattle.cap_grants.specs.declared.grant.AllowGrant.{AllowGrant}
use Rattle.cap_grants.specs.declared.grant.Tag.{Tag}
use Rattle.compare_core.proofs.Bools.{both_left, both_right, both}
use Rattle.grant_core.specs.Flat.{Flat}
use Rattle.request_types.specs.Target.{Target}
use Rattle.rights_core.specs.Rights.{NetworkGrant, live_grants}
use Rattle.verdict_core.specs.Verdict.{matches, matches_namespace, matches_prefix, matches_tag, names}
use Rattle.share_core.specs.Meeting.{common, common_tags, gives, meet}
use Rattle.share_core.specs.Near.{AreApart}
use Rattle.share_core.specs.Sharing.{ArePossible, May, Share, ShareIn}
use Rattle.share_core.specs.declared.pools.Pool.{Pool}
use Rattle.share_core.specs.declared.touches.Touch.{Touch}
use Rattle.share_core.proofs.Meets.{can_meet}
use Rattle.share_core.proofs.OneGrants.{may_by, one_grant}
use Rattle.verdict_text.specs.Documents.{list_by}
use Rattle.verdict_text.specs.declared.format.Format.{Format}
use Rattle.verdict_text.specs.declared.format.Format.TheVariants.{Text, Json}
use Rattle.share_text.specs.Kinds.{IsSharedWithin, ShareWithin, is_written, one_touch, other_touch}
use Rattle.share_text.specs.Retags.{IsRetagOf, IsRetagOfTexts, IsRetagTold, IsRetagToldAfter, RetagsAreOfTwoTargets, retag_by, untagged, untagged_entry}
use Rattle.share_text.specs.Tenants.{IsPairTold, IsStrongest, IsToldBy, pair_by}
use Rattle.share_text.specs.Untagged.{marked, plain_of}
use Rattle.share_text.specs.declared.kind.Kind.{Kind}
use Rattle.share_text.specs.declared.kind.Kind.TheVariants.{WritesWrites, WritesReads, ReadsWrites, ReadsReads}
use Rattle.share_text.specs.declared.tenants.Strictness.{Strictness}
use Rattle.share_text.specs.declared.tenants.Tenant.{Tenant}
use Rattle.share_text.proofs.NearTold.{AreSilent, no_share}

abbrev Entry : Type 0
Entry = List ℕ × AllowGrant

-- ---- two targets

-- a grant matches a target by its parts

parts_so : (g : AllowGrant) (target : Target) → names g.pool target.pool ≡ true → matches_namespace g.namespace target.namespace ≡ true → matches_tag g.tag target.tags ≡ true
    → matches_prefix g.prefix target.object ≡ true → matches g target ≡ true
parts_so g target pool namespace tag prefix = both _ _ (both _ _ (both _ _ pool namespace) tag) prefix

of_pool : (g : AllowGrant) (target : Target) → matches g target ≡ true → names g.pool target.pool ≡ true
of_pool g target h =
    both_left (names g.pool target.pool) _ (both_left (names g.pool target.pool && matches_namespace g.namespace target.namespace) _
    (both_left (names g.pool target.pool && matches_namespace g.namespace target.namespace && matches_tag g.tag target.tags) _ h))

of_namespace : (g : AllowGrant) (target : Target) → matches g target ≡ true → matches_namespace g.namespace target.namespace ≡ true
of_namespace g target h =
    both_right (names g.pool target.pool) _ (both_left (names g.pool target.pool && matches_namespace g.namespace target.namespace) _
    (both_left (names g.pool target.pool && matches_namespace g.namespace target.namespace && matches_tag g.tag target.tags) _ h))

of_tag : (g : AllowGrant) (target : Target) → matches g target ≡ true → matches_tag g.tag target.tags ≡ true
of_tag g target h =
    both_right (names g.pool target.pool && matches_namespace g.namespace target.namespace) _
    (both_left (names g.pool target.pool && matches_namespace g.namespace target.namespace && matches_tag g.tag target.tags) _ h)

of_prefix : (g : AllowGrant) (target : Target) → matches g target ≡ true → matches_prefix g.prefix target.object ≡ true
of_prefix g target h = both_right (names g.pool target.pool && matches_namespace g.namespace target.namespace && matches_tag g.tag target.tags) _ h

-- tags that a grant asks for, and a pool can have

abbrev tagged : Option Tag → AllowGrant
tagged tag = record { access = All; pool = None; namespace = None; prefix = None; tag = tag }

meets_untagged : (tag : Option Tag) → meet (tagged tag) (tagged None) ≡ true
meets_untagged None = refl
meets_untagged (Some tag) = refl

record Tags (tag : Option Tag) : Type 0 where
  pub met : matches_tag tag (common_tags tag None) ≡ true
  pub possible : ArePossible (common_tags tag None)

tags_for : (tag : Option Tag) → Tags tag
tags_for tag =
    let can = can_meet (tagged tag) (tagged None) (meets_untagged tag) in
    record { met = of_tag (tagged tag) (common (tagged tag) (tagged None)) can.mine; possible = can.possible }

-- the entry behind one without tags
record Behind (grants : Flat) (index : ℕ) (entry : Entry) : Type 0 where
  pub own : Entry
  pub at : slice_get grants index ≡ Some own
  pub is : entry ≡ untagged_entry own

some_of : (found : Option Entry) (entry : Entry) → option_map untagged_entry found ≡ Some entry → (own : Entry) × (found ≡ Some own) × (entry ≡ untagged_entry own)
some_of None entry e = absurd (cc)
some_of (Some own) entry e = (own, refl, same e)
  where
    same : {a b : Entry} → Some a ≡ Some b → b ≡ a
    same k = cc

behind : (grants : Flat) (index : ℕ) (entry : Entry) → slice_get (untagged grants) index ≡ Some entry → Behind grants index entry
behind grants index entry at =
    let found = some_of (slice_get grants index) entry (sym (slice_get-map untagged_entry grants index) ∙ at) in
    record { own = found.0; at = found.1; is = found.2 }

-- with the tags that its grant asks for, a target that a grant matches without them
abbrev retarget : Target → Option Tag → Target
retarget target tag = record { pool = target.pool; tags = common_tags tag None; namespace = target.namespace; object = target.object }

may_retagged : (grants : Flat) (target : Target) (touch : Touch) → May (untagged grants) target touch → (tag : Option Tag) × May grants (retarget target tag) touch × ArePossible (retarget target tag).tags
may_retagged grants target touch may =
    let one = one_grant (untagged grants) target touch may in
    let from = behind grants one.index one.entry one.at in
    let g = from.own.1 in
    let matched : matches (untagged_entry from.own).1 target ≡ true = subst (λ (e : Entry). matches e.1 target ≡ true) from.is one.matched in
    let given = subst (λ (e : Entry). gives e.1.access touch ≡ true) from.is one.given in
    let tags = tags_for g.tag in (
      g.tag,
      may_by grants (retarget target g.tag) touch one.index from.own from.at
          (parts_so g (retarget target g.tag) (of_pool (untagged_entry from.own).1 target matched) (of_namespace (untagged_entry from.own).1 target matched) tags.met
          (of_prefix (untagged_entry from.own).1 target matched)) given,
      tags.possible,
    )

-- a target that a grant matches, with any other tags
may_untagged : (grants : Flat) (target later : Target) (touch : Touch) → later.pool ≡ target.pool → later.namespace ≡ target.namespace → later.object ≡ target.object → May grants later touch
    → May (untagged grants) target touch
may_untagged grants target later touch pool namespace object may =
    let one = one_grant grants later touch may in
    let g = one.entry.1 in
    may_by (untagged grants) target touch one.index (untagged_entry one.entry) (slice_get-map untagged_entry grants one.index ∙ ap (option_map untagged_entry) one.at)
    (parts_so (untagged_entry one.entry).1 target (subst (λ n. names g.pool n ≡ true) pool (of_pool g later one.matched))
    (subst (λ n. matches_namespace g.namespace n ≡ true) namespace (of_namespace g later one.matched)) refl (subst (λ n. matches_prefix g.prefix n ≡ true) object (of_prefix g later one.matched)))
    one.given

-- what two share, they share by their grants for pools of any tags too

share_in_untagged : (pools : List Pool) (ones others : Flat) (one other : Touch) → ShareIn pools ones one others other → ShareIn pools (untagged ones) one (untagged others) other
share_in_untagged [] ones others one other share = share
share_in_untagged (pool ∷ pools) ones others one other (inl (target, (name, tags, mine, theirs))) =
    inl (target, (name, tags, may_untagged ones target target one refl refl refl mine, may_untagged others target target other refl refl refl theirs))
share_in_untagged (pool ∷ pools) ones others one other (inr later) = inr (share_in_untagged pools ones others one other later)

share_untagged : (pools : Option (List Pool)) (kind : Kind) (ones others : Flat) → ShareWithin pools kind ones others → ShareWithin pools kind (untagged ones) (untagged others)
share_untagged None kind ones others (target, (possible, mine, theirs)) =
    (target, (possible, may_untagged ones target target (one_touch kind) refl refl refl mine, may_untagged others target target (other_touch kind) refl refl refl theirs))
share_untagged (Some pools) kind ones others share = share_in_untagged pools ones others (one_touch kind) (other_touch kind) share

-- nothing is reported of two that share nothing whatever the tags
pub apart_retags : (pools : Option (List Pool)) (format : Format) (one : Tenant) (all : List Tenant)
    → AreSilent (IsRetagTold pools format one) (untagged one.ticket.now.grants) (plain_of all) all
apart_retags pools format one all q other theirs at is apart =
    let same : theirs ≡ untagged other.ticket.now.grants =
    at_once (sym is ∙ (slice_get-map (λ (tenant : Tenant). untagged tenant.ticket.now.grants) all q ∙ ap (option_map (λ (tenant : Tenant). untagged tenant.ticket.now.grants)) at)) in
    let after : (kind : Kind) → ¬ ShareWithin pools kind (untagged one.ticket.now.grants) (untagged other.ticket.now.grants) =
    λ kind. no_share pools kind (untagged one.ticket.now.grants) (untagged other.ticket.now.grants) (subst (AreApart (untagged one.ticket.now.grants)) same apart) in
    let present : (kind : Kind) → ¬ ShareWithin pools kind one.ticket.now.grants other.ticket.now.grants =
    λ kind share. after kind (share_untagged pools kind one.ticket.now.grants other.ticket.now.grants share) in (
      None,
      (present WritesWrites, present WritesReads, present ReadsWrites, λ reads. present ReadsReads),
      (None, (after WritesWrites, after WritesReads, after ReadsWrites, λ reads. after ReadsReads), (refl, refl)),
    )
  where
    at_once : {a b : Flat} → Some a ≡ Some b → a ≡ b
    at_once e = cc

pub length_plain : (all : List Tenant) → length (plain_of all) ≡ length all
length_plain [] = refl
length_plain (x ∷ xs) = ap suc (length_plain xs)

-- ---- what is printed of them

marked_line : (format : Format) (kind : Kind) (one other : List ℕ) (target : Target) → marked format true (pair_by format kind one other target) ≡ retag_by format kind one other target
marked_line Text kind one other target = refl
marked_line Json kind one other target = refl

marked_nothing : (format : Format) → marked format false [] ≡ []
marked_nothing Text = refl
marked_nothing Json = refl

always_written : (pools : Option (List Pool)) (ones others : Flat) (kind : Kind) → IsStrongest pools false ones others (Some kind) → is_written kind ≡ true
always_written pools ones others WritesWrites h = refl
always_written pools ones others WritesReads h = refl
always_written pools ones others ReadsWrites h = refl
always_written pools ones others ReadsReads h = absurd (false≢true h.3)

-- what is reported of two by these grants and names, behind the mark
pub after_marked : (pools : Option (List Pool)) (format : Format) (how : Strictness) (ones others : Flat) (one other : List ℕ) (mine theirs : Tenant) (told text : List ℕ) (fails some : Bool)
    → how ≡ record { reads = false; check = true; format = format } → mine.name.now ≡ one → theirs.name.now ≡ other → mine.ticket.now.grants ≡ untagged ones → theirs.ticket.now.grants ≡ untagged others
    → IsPairTold pools how mine theirs told fails → text ≡ marked format fails told → some ≡ fails → IsRetagToldAfter None pools format ones others one other text some
after_marked pools format how ones others one other mine theirs told text fails some is named also_named grants also_grants pair marked_so ends =
    go (subst (λ (h : Strictness). IsPairTold pools h mine theirs told fails) is pair)
  where
    by : (found : Option Kind) → IsStrongest pools false mine.ticket.now.grants theirs.ticket.now.grants found
        → IsToldBy pools (record { reads = false; check = true; format = format }) found mine theirs told fails
        → IsRetagToldAfter None pools format ones others one other text some
    by None strongest (empty, passes) = (
      None,
      subst (λ g. IsStrongest pools false g (untagged others) None) grants (subst (λ g. IsStrongest pools false mine.ticket.now.grants g None) also_grants strongest),
      (marked_so ∙ (ap (λ b. marked format b told) passes ∙ (ap (marked format false) empty ∙ marked_nothing format)), ends ∙ passes),
    )
    by (Some kind) strongest (target, shared, line, passes) =
        let written = always_written pools mine.ticket.now.grants theirs.ticket.now.grants kind strongest in
        let fail : fails ≡ true = passes ∙ ap (λ b. true && b) written in (
          Some kind,
          subst (λ g. IsStrongest pools false g (untagged others) (Some kind)) grants (subst (λ g. IsStrongest pools false mine.ticket.now.grants g (Some kind)) also_grants strongest),
          (
            target,
            subst (λ g. IsSharedWithin pools kind g (untagged others) target) grants (subst (λ g. IsSharedWithin pools kind mine.ticket.now.grants g target) also_grants shared),
            marked_so
                ∙ (ap (λ b. marked format b told) fail
                ∙ (ap (marked format true) (line ∙ (ap (λ n. pair_by format kind n theirs.name.now target) named ∙ ap (λ n. pair_by format kind one n target) also_named))
                ∙ marked_line format kind one other target)),
            ends ∙ fail,
          ),
        )

    go : IsPairTold pools (record { reads = false; check = true; format = format }) mine theirs told fails → IsRetagToldAfter None pools format ones others one other text some
    go (found, strongest, by_kind) = by found strongest by_kind

-- what is printed of two texts, by the tickets of their rights
pub of_texts : (format : Format) (ones others : List NetworkGrant) (one other : Flat) (told text : List ℕ) (some : Bool)
    → one ≡ live_grants ones → other ≡ live_grants others → IsRetagOf None format one other (codes "first") (codes "second") told some
    → text ≡ list_by (codes "retags") format told → IsRetagOfTexts format ones others text some
of_texts format ones others one other told text some grants also_grants pair printed = (
  told,
  subst (λ g. IsRetagOf None format g (live_grants others) (codes "first") (codes "second") told some) grants
      (subst (λ g. IsRetagOf None format one g (codes "first") (codes "second") told some) also_grants pair),
  printed,
)

pub retags_are_of_two : RetagsAreOfTwoTargets
retags_are_of_two ones others one other = (
  λ share.
      let target = share.0 in
      let mine = may_retagged ones target one share.1.1 in
      let theirs = may_retagged others target other share.1.2 in (
        retarget target mine.0,
        retarget target theirs.0,
        record { pool = refl; namespace = refl; object = refl; possible = mine.2; later_possible = theirs.2; may = mine.1; others_may = theirs.1 },
      ),
  λ found.
      let target = found.0 in
      let is = found.2 in (
        target,
        (is.possible, may_untagged ones target target one refl refl refl is.may, may_untagged others target found.1 other is.pool is.namespace is.object is.others_may),
      ),
)

-- two facts on the value of a call's result
pub ok_both : {T E : Type 0} {P Q S : T → Type 0} (r : Result T E) → ((x : T) → P x → Q x → S x) → IfOk r P → IfOk r Q → IfOk r S
ok_both (Ok x) also h k = also x h k
ok_both (Err e) also h k = tt
