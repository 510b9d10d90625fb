-- Grants whose pools do not meet share nothing.
use Rattle.std.proofs.Common.{◌≡◌, ℕ, List, Bool, true, false, ◌&&◌, Option, None, Some, slice_get, refl, sym, ◌∙◌}
use Rattle.std.specs.List.{list_any}
use Rattle.std.proofs.lemmas.Bool.{false≢true}
use Rattle.cap_grants.specs.declared.grant.AllowGrant.{AllowGrant}
use Rattle.compare_core.proofs.Bools.{both_left, both_right, any_at, some_pass}
use Rattle.compare_core.proofs.Fronts.{same_text, text_same}
use Rattle.share_core.specs.declared.pools.Pool.{Pool}
use Rattle.share_core.specs.declared.touches.Touch.{Touch}
use Rattle.share_core.specs.Meeting.{gives, namespaces_meet, pools_meet, prefixes_meet, meet, reach, tags_meet}
use Rattle.share_core.specs.Near.{AreApart}
use Rattle.share_core.specs.Sharing.{Share, ShareIn}
use Rattle.share_core.proofs.InPools.{pools_meet_in}
use Rattle.share_core.proofs.Shares.{reached_by}

abbrev Entry : Type 0
Entry = List ℕ × AllowGrant

-- whether a grant of the ones and one of the others have pools that meet
abbrev pub some_meet : List Entry → List Entry → Bool
some_meet ones others = list_any (λ mine. list_any (λ theirs. pools_meet mine.1.pool theirs.1.pool) others) ones

-- two grants that reach are for pools that meet
reach_meet : (one other : Touch) (g h : AllowGrant) → reach one other g h ≡ true → pools_meet g.pool h.pool ≡ true
reach_meet one other g h r =
    let m = both_right (gives g.access one && gives h.access other) _ r in
    let m3 = both_left (pools_meet g.pool h.pool && namespaces_meet g.namespace h.namespace && prefixes_meet g.prefix h.prefix) _ m in
    let m2 = both_left (pools_meet g.pool h.pool && namespaces_meet g.namespace h.namespace) _ m3 in
    both_left (pools_meet g.pool h.pool) _ m2

some_meet_at : (ones others : List Entry) (i j : ℕ) (mine theirs : Entry) → slice_get ones i ≡ Some mine → slice_get others j ≡ Some theirs
    → pools_meet mine.1.pool theirs.1.pool ≡ true → some_meet ones others ≡ true
some_meet_at ones others i j mine theirs at bt m =
    any_at (λ mine. list_any (λ theirs. pools_meet mine.1.pool theirs.1.pool) others) ones i mine at (any_at (λ theirs. pools_meet mine.1.pool theirs.1.pool) others j theirs bt m)

share_meets : (ones others : List Entry) (one other : Touch) → Share ones one others other → some_meet ones others ≡ true
share_meets ones others one other share =
    let r = reached_by ones others one other share in
    some_meet_at ones others r.i r.j r.mine r.theirs r.at r.bt (reach_meet one other r.mine.1 r.theirs.1 r.reached)

share_in_meets : (pools : List Pool) (ones others : List Entry) (one other : Touch) → ShareIn pools ones one others other → some_meet ones others ≡ true
share_in_meets pools ones others one other share =
    let r = pools_meet_in pools ones others one other share in
    some_meet_at ones others r.i r.j r.mine r.theirs r.at r.bt r.meets

-- pools meet whichever stands first
turned : (o p : Option (List ℕ)) → pools_meet o p ≡ true → pools_meet p o ≡ true
turned None None h = refl
turned None (Some q) h = refl
turned (Some p) None h = refl
turned (Some p) (Some q) h = text_same q p (sym (same_text p q h))

turned_lists : (ones others : List Entry) → some_meet others ones ≡ true → some_meet ones others ≡ true
turned_lists ones others h =
    let theirs = some_pass (λ mine. list_any (λ theirs. pools_meet mine.1.pool theirs.1.pool) ones) others h in
    let mine = some_pass (λ mine. pools_meet theirs.1.0.1.pool mine.1.pool) ones theirs.1.1.1 in
    some_meet_at ones others mine.0 theirs.0 mine.1.0 theirs.1.0 mine.1.1.0 theirs.1.1.0 (turned theirs.1.0.1.pool mine.1.0.1.pool mine.1.1.1)

pub apart : (ones others : List Entry) → some_meet ones others ≡ false → AreApart ones others
apart ones others none = record {
  anywhere = λ one other. (
    λ share. false≢true (sym none ∙ share_meets ones others one other share),
    λ share. false≢true (sym none ∙ turned_lists ones others (share_meets others ones other one share)),
  );
  in_pools = λ pools one other. (
    λ share. false≢true (sym none ∙ share_in_meets pools ones others one other share),
    λ share. false≢true (sym none ∙ turned_lists ones others (share_in_meets pools others ones other one share)),
  );
}
