-- What two tickets share, by their grants.
use Rattle.std.proofs.Common.{◌≡◌, ◌↔◌, ◌<◌, ℕ, suc, ◌+◌, drop, length, get_or, List, [], ◌∷◌, ◌++◌, map, Bool, true, false, ◌&&◌, ◌||◌, if◌then◌else◌, Some, None, slice_get, refl, sym, ap, ◌∙◌, subst, inl, inr, All, append_assoc, arith}
use Rattle.std.specs.List.{list_any, filter_map, cons_option}
use Rattle.std.proofs.Math.Seq.{drop-cons}
use Rattle.std.proofs.lemmas.Bool.{false≢true}
use Rattle.std.proofs.lemmas.List.Elements.{All-nil, All-cons, All-append, filter_map-append}
use Rattle.std.proofs.lemmas.List.Folds.{list_any-append}
use Rattle.cap_grants.specs.declared.grant.AllowGrant.{AllowGrant}
use Rattle.compare_core.proofs.Bools.{both_left, both_right, both, fails, some_pass, any_at}
use Rattle.share_core.specs.declared.touches.Touch.{Touch}
use Rattle.share_core.specs.declared.reaching.Shared.{Shared}
use Rattle.share_core.specs.Sharing.{IsShared, IsSharedObject, Share, pairs, IsExampleOf, PairShares, Answers}
use Rattle.share_core.specs.Meeting.{gives, common, reach, shared_by, example_of}
use Rattle.share_core.proofs.Meets.{can_meet, must_meet, is_object}
use Rattle.share_core.proofs.OneGrants.{one_grant, may_by, only_one}

abbrev Entry : Type 0
Entry = List ℕ × AllowGrant

-- two grants that reach, one of each list, share at their common target
pub shared_at : (ones others : List Entry) (one other : Touch) (i j : ℕ) (mine theirs : Entry) → slice_get ones i ≡ Some mine → slice_get others j ≡ Some theirs
    → reach one other mine.1 theirs.1 ≡ true → IsShared ones one others other (common mine.1 theirs.1)
shared_at ones others one other i j mine theirs at bt h =
    let first = both_left (gives mine.1.access one && gives theirs.1.access other) _ h in
    let target = can_meet mine.1 theirs.1 (both_right (gives mine.1.access one && gives theirs.1.access other) _ h) in (
      target.possible,
      may_by ones (common mine.1 theirs.1) one i mine at target.mine (both_left (gives mine.1.access one) _ first),
      may_by others (common mine.1 theirs.1) other j theirs bt target.theirs (both_right (gives mine.1.access one) _ first),
    )

-- whatever is shared is shared by two grants that reach
pub record Reached (ones : List Entry) (one : Touch) (others : List Entry) (other : Touch) : Type 0 where
  pub i : ℕ
  pub j : ℕ
  pub mine : Entry
  pub theirs : Entry
  pub at : slice_get ones i ≡ Some mine
  pub bt : slice_get others j ≡ Some theirs
  pub reached : reach one other mine.1 theirs.1 ≡ true

pub reached_by : (ones others : List Entry) (one other : Touch) → Share ones one others other → Reached ones one others other
reached_by ones others one other share =
    let mine = one_grant ones share.0 one share.1.1 in
    let theirs = one_grant others share.0 other share.1.2 in
    record {
      i = mine.index;
      j = theirs.index;
      mine = mine.entry;
      theirs = theirs.entry;
      at = mine.at;
      bt = theirs.at;
      reached = both _ _ (both _ _ mine.given theirs.given) (must_meet mine.entry.1 theirs.entry.1 share.0 share.1.0 mine.matched theirs.matched);
    }

pub share_so : (ones others : List Entry) (one other : Touch) → list_any (λ mine. list_any (λ theirs. reach one other mine.1 theirs.1) others) ones ≡ true → Share ones one others other
share_so ones others one other h =
    let mine = some_pass (λ mine. list_any (λ theirs. reach one other mine.1 theirs.1) others) ones h in
    let theirs = some_pass (λ theirs. reach one other mine.1.0.1 theirs.1) others mine.1.1.1 in
    (common mine.1.0.1 theirs.1.0.1, shared_at ones others one other mine.0 theirs.0 mine.1.0 theirs.1.0 mine.1.1.0 theirs.1.1.0 theirs.1.1.1)

pub so_share : (ones others : List Entry) (one other : Touch) → Share ones one others other → list_any (λ mine. list_any (λ theirs. reach one other mine.1 theirs.1) others) ones ≡ true
so_share ones others one other share =
    let r = reached_by ones others one other share in
    any_at (λ mine. list_any (λ theirs. reach one other mine.1 theirs.1) others) ones r.i r.mine r.at (any_at (λ theirs. reach one other r.mine.1 theirs.1) others r.j r.theirs r.bt r.reached)

-- one pair

abbrev reaches : Touch → Touch → Entry × Entry → Bool
reaches one other pair = reach one other pair.0.1 pair.1.1

pair_reaches : (one other : Touch) (pair : Entry × Entry) → PairShares one other pair → reaches one other pair ≡ true
pair_reaches one other pair share =
    let r = reached_by (pair.0 ∷ []) (pair.1 ∷ []) one other share in
    ap (λ (e : Entry). reach one other e.1 pair.1.1) (sym (only_one pair.0 r.mine r.i r.at))
    ∙ (ap (λ (e : Entry). reach one other r.mine.1 e.1) (sym (only_one pair.1 r.theirs r.j r.bt)) ∙ r.reached)

is_example : (one other : Touch) (pair : Entry × Entry) → reaches one other pair ≡ true → IsExampleOf one other pair (shared_by pair)
is_example one other pair h =
    (refl, refl, shared_at (pair.0 ∷ []) (pair.1 ∷ []) one other 0 0 pair.0 pair.1 refl refl h, is_object pair.0.1.prefix pair.1.1.prefix)

-- all pairs

skipped : (one other : Touch) (pair : Entry × Entry) (rest : List (Entry × Entry)) (examples : List Shared) → (¬ PairShares one other pair) → Answers one other rest examples → Answers one other (pair ∷ rest) examples
skipped one other pair rest [] h k = (h, k)
skipped one other pair rest (example ∷ examples) h k = inr (h, k)

pub answers_of : (one other : Touch) (all : List (Entry × Entry)) → Answers one other all (filter_map (example_of one other) all)
answers_of one other [] = tt
answers_of one other (pair ∷ rest) = go (reaches one other pair) refl (answers_of one other rest)
  where
    go : (b : Bool) → reaches one other pair ≡ b → Answers one other rest (filter_map (example_of one other) rest)
        → Answers one other (pair ∷ rest) (cons_option (if b then Some (shared_by pair) else None) (filter_map (example_of one other) rest))
    go true e more = inl (is_example one other pair e, more)
    go false e more = skipped one other pair rest (filter_map (example_of one other) rest) (λ share. false≢true (sym e ∙ pair_reaches one other pair share)) more

-- each is shared by the whole tickets too

abbrev AllShared : List Entry → Touch → List Entry → Touch → List Shared → Type 0
AllShared ones one others other examples = All (λ (example : Shared). IsSharedObject ones one others other example.target) examples

shared_with : (ones others : List Entry) (one other : Touch) (mine : Entry) (i : ℕ) → slice_get ones i ≡ Some mine → (some : List Entry)
    → ((j : ℕ) (theirs : Entry) → slice_get some j ≡ Some theirs → (k : ℕ) × (slice_get others k ≡ Some theirs))
    → AllShared ones one others other (filter_map (example_of one other) (map (λ theirs. (mine, theirs)) some))
shared_with ones others one other mine i at [] among = All-nil (λ (example : Shared). IsSharedObject ones one others other example.target)
shared_with ones others one other mine i at (theirs ∷ some) among =
    go (reach one other mine.1 theirs.1) refl (shared_with ones others one other mine i at some (λ j entry bt. among (suc j) entry bt)) (among 0 theirs refl)
  where
    go : (b : Bool) → reach one other mine.1 theirs.1 ≡ b → AllShared ones one others other (filter_map (example_of one other) (map (λ theirs. (mine, theirs)) some))
        → (k : ℕ) × (slice_get others k ≡ Some theirs)
        → AllShared ones one others other (cons_option (if b then Some (shared_by (mine, theirs)) else None) (filter_map (example_of one other) (map (λ theirs. (mine, theirs)) some)))
    go true e rest here =
        All-cons (λ (example : Shared). IsSharedObject ones one others other example.target) (shared_by (mine, theirs)) _ (shared_at ones others one other i here.0 mine theirs at here.1 e, is_object mine.1.prefix theirs.1.prefix) rest
    go false e rest here = rest

some_shared : (ones others : List Entry) (one other : Touch) (some : List Entry) → ((i : ℕ) (mine : Entry) → slice_get some i ≡ Some mine → (k : ℕ) × (slice_get ones k ≡ Some mine))
    → AllShared ones one others other (filter_map (example_of one other) (pairs some others))
some_shared ones others one other [] among = All-nil (λ (example : Shared). IsSharedObject ones one others other example.target)
some_shared ones others one other (mine ∷ some) among =
    let here = among 0 mine refl in
    subst (AllShared ones one others other) (sym (filter_map-append (example_of one other) (map (λ theirs. (mine, theirs)) others) (pairs some others)))
    (All-append (λ (example : Shared). IsSharedObject ones one others other example.target) _ _
    (shared_with ones others one other mine here.0 here.1 others (λ j theirs bt. (j, bt)))
    (some_shared ones others one other some (λ i entry at. among (suc i) entry at)))

pub all_shared : (ones others : List Entry) (one other : Touch) → All (λ (example : Shared). IsSharedObject ones one others other example.target) (filter_map (example_of one other) (pairs ones others))
all_shared ones others one other = some_shared ones others one other ones (λ i entry at. (i, at))

-- no examples, just where nothing is shared

none_of : (one other : Touch) (all : List (Entry × Entry)) → filter_map (example_of one other) all ≡ [] → list_any (reaches one other) all ≡ false
none_of one other [] h = refl
none_of one other (pair ∷ rest) h = go (reaches one other pair) h (none_of one other rest)
  where
    go : (b : Bool) → cons_option (if b then Some (shared_by pair) else None) (filter_map (example_of one other) rest) ≡ []
        → (filter_map (example_of one other) rest ≡ [] → list_any (reaches one other) rest ≡ false) → (b || list_any (reaches one other) rest) ≡ false
    go true k more = absurd (cc)
    go false k more = more k

of_none : (one other : Touch) (all : List (Entry × Entry)) → list_any (reaches one other) all ≡ false → filter_map (example_of one other) all ≡ []
of_none one other [] h = refl
of_none one other (pair ∷ rest) h = go (reaches one other pair) h (of_none one other rest)
  where
    go : (b : Bool) → (b || list_any (reaches one other) rest) ≡ false → (list_any (reaches one other) rest ≡ false → filter_map (example_of one other) rest ≡ [])
        → cons_option (if b then Some (shared_by pair) else None) (filter_map (example_of one other) rest) ≡ []
    go true k more = absurd (false≢true (sym k))
    go false k more = more k

any_with : (one other : Touch) (mine : Entry) (others : List Entry) → list_any (reaches one other) (map (λ theirs. (mine, theirs)) others) ≡ list_any (λ theirs. reach one other mine.1 theirs.1) others
any_with one other mine [] = refl
any_with one other mine (theirs ∷ others) = ap (λ b. reach one other mine.1 theirs.1 || b) (any_with one other mine others)

any_pair : (one other : Touch) (ones others : List Entry) → list_any (reaches one other) (pairs ones others) ≡ list_any (λ mine. list_any (λ theirs. reach one other mine.1 theirs.1) others) ones
any_pair one other [] others = refl
any_pair one other (mine ∷ ones) others =
    list_any-append (reaches one other) (map (λ theirs. (mine, theirs)) others) (pairs ones others)
    ∙ (ap (λ b. b || list_any (reaches one other) (pairs ones others)) (any_with one other mine others)
    ∙ ap (λ b. list_any (λ theirs. reach one other mine.1 theirs.1) others || b) (any_pair one other ones others))

pub no_example : (ones others : List Entry) (one other : Touch) → (filter_map (example_of one other) (pairs ones others) ≡ []) ↔ ¬ Share ones one others other
no_example ones others one other = (
  λ none share. false≢true (sym (none_of one other (pairs ones others) none) ∙ (any_pair one other ones others ∙ so_share ones others one other share)),
  λ apart. of_none one other (pairs ones others) (fails _ (λ h. apart (share_so ones others one other (sym (any_pair one other ones others) ∙ h)))),
)

-- one more grant of the ones
pub one_more : (one other : Touch) (ones others : List Entry) (i : ℕ) (mine : Entry) (before : List Shared) (whole : List Shared) → i < length ones → mine ≡ get_or ones i mine
    → before ++ filter_map (example_of one other) (pairs (drop i ones) others) ≡ whole
    → (before ++ filter_map (example_of one other) (map (λ theirs. (mine, theirs)) others)) ++ filter_map (example_of one other) (pairs (drop (i + 1) ones) others) ≡ whole
one_more one other ones others i mine before whole inside is h =
    let next : i + 1 ≡ suc i = omega arith in
    ap (λ n. (before ++ filter_map (example_of one other) (map (λ theirs. (mine, theirs)) others)) ++ filter_map (example_of one other) (pairs (drop n ones) others)) next
    ∙ (append_assoc before (filter_map (example_of one other) (map (λ theirs. (mine, theirs)) others)) (filter_map (example_of one other) (pairs (drop (suc i) ones) others))
    ∙ (ap (λ l. before ++ l) (sym (filter_map-append (example_of one other) (map (λ theirs. (mine, theirs)) others) (pairs (drop (suc i) ones) others)))
    ∙ (ap (λ l. before ++ filter_map (example_of one other) (pairs l others)) (sym (drop-cons ones i mine inside ∙ ap (λ e. e ∷ drop (suc i) ones) (sym is))) ∙ h)))

-- the same of equal grants
pub here_too : (one other : Touch) (ones theirs ours yours : List Entry) (examples : List Shared) → examples ≡ filter_map (example_of one other) (pairs ones theirs) → ones ≡ ours → theirs ≡ yours
    → examples ≡ filter_map (example_of one other) (pairs ours yours)
here_too one other ones theirs ours yours examples is same also =
    is ∙ (ap (λ l. filter_map (example_of one other) (pairs l theirs)) same ∙ ap (λ l. filter_map (example_of one other) (pairs ours l)) also)
