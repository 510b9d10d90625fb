-- What is reported of the near ones alone is what is reported of all.
use Rattle.std.proofs.Common.{◌≡◌, ◌<◌, ◌≤◌, ℕ, zero, suc, ◌+◌, ◌-◌, List, [], ◌∷◌, ◌++◌, Bool, true, false, ◌&&◌, ◌||◌, ◌⊎◌, Option, None, Some, drop, get_or, length, slice_get, slice_index, slice_index_or, leb, refl, sym, ap, subst, ◌∙◌, inl, inr, append_assoc, arith}
use Rattle.std.specs.Prelude.{All, AllPairs, Contains}
use Rattle.std.specs.Option.{option_map}
use Rattle.std.proofs.lemmas.Bool.{leb-true, leb-false}
use Rattle.std.proofs.lemmas.List.{drop_all, drop_more}
use Rattle.std.proofs.lemmas.List.Kept.{AllPairs-from_increasing}
use Rattle.std.proofs.lemmas.Option.{slice_get-get_or, slice_get-map}
use Rattle.compare_core.proofs.Bools.{true_or_false}
use Rattle.grant_core.specs.Flat.{Flat}
use Rattle.share_core.specs.Near.{AreApart, AreNear}
use Rattle.share_core.specs.declared.pools.Pool.{Pool}
use Rattle.share_text.specs.Behind.{grants_of}
use Rattle.share_text.specs.Kinds.{ShareWithin, one_touch, other_touch}
use Rattle.share_text.specs.Tenants.{InTurn, IsPairTold, IsPairToldBy, IsToldUnless, is_left_out}
use Rattle.share_text.specs.Writers.{IsWritersTold}
use Rattle.share_text.specs.declared.detail.Detail.{Detail}
use Rattle.share_text.specs.declared.kind.Kind.{Kind}
use Rattle.share_text.specs.declared.kind.Kind.TheVariants.{WritesWrites, WritesReads, ReadsWrites, ReadsReads}
use Rattle.share_text.specs.declared.tenants.Strictness.{Strictness}
use Rattle.share_text.specs.declared.tenants.Tenant.{Tenant}

-- nothing is reported of two who share nothing

pub no_share : (pools : Option (List Pool)) (kind : Kind) (ones others : Flat) → AreApart ones others → ¬ ShareWithin pools kind ones others
no_share None kind ones others apart = (apart.anywhere (one_touch kind) (other_touch kind)).0
no_share (Some pools) kind ones others apart = (apart.in_pools pools (one_touch kind) (other_touch kind)).0

pub apart_told : (pools : Option (List Pool)) (strictness : Strictness) (one other : Tenant) → AreApart one.ticket.now.grants other.ticket.now.grants → IsPairTold pools strictness one other [] false
apart_told pools strictness one other apart =
    let none : (kind : Kind) → ¬ ShareWithin pools kind one.ticket.now.grants other.ticket.now.grants = λ kind. no_share pools kind one.ticket.now.grants other.ticket.now.grants apart in
    (None, (none WritesWrites, none WritesReads, none ReadsWrites, λ reads. none ReadsReads), (refl, refl))

-- Places in order, from one place on: before the first, between any two and behind the last, all tickets are apart.
abbrev pub NearFrom : Flat → List Flat → ℕ → List ℕ → Type 0
NearFrom grants tickets from [] = (q : ℕ) (other : Flat) → slice_get tickets q ≡ Some other → from ≤ q → AreApart grants other
NearFrom grants tickets from (p ∷ ps) =
    (from ≤ p) × (p < length tickets) × ((q : ℕ) (other : Flat) → slice_get tickets q ≡ Some other → from ≤ q → q < p → AreApart grants other)
    × NearFrom grants tickets (p + 1) ps

abbrev Listed : Flat → List Flat → ℕ → List ℕ → Type 0
Listed grants tickets from places = (q : ℕ) (other : Flat) → slice_get tickets q ≡ Some other → from ≤ q → Contains places q ⊎ AreApart grants other

abbrev Rising : List ℕ → Type 0
Rising places = AllPairs (λ x y. x < y) places

nowhere : (q : ℕ) → Contains [] q → ⊥
nowhere q (k, low, is) = omega (arith, low)

first_below : (p q : ℕ) (ps : List ℕ) → Rising (p ∷ ps) → Contains (p ∷ ps) q → p ≤ q
first_below p q ps rising (zero, low, is) = omega (arith, is)
first_below p q ps rising (suc j, low, is) =
    let later : p < slice_index_or ps j q = rising 0 (suc j) q (omega arith) low in
    omega (arith, later, is)

behind_first : (p q : ℕ) (ps : List ℕ) → p + 1 ≤ q → Contains (p ∷ ps) q → Contains ps q
behind_first p q ps past (zero, low, is) = absurd (omega (arith, past, is))
behind_first p q ps past (suc j, low, is) =
    let inside : j < length ps = omega (arith, low) in
    (j, inside, is)

rest_rises : (p : ℕ) (ps : List ℕ) → Rising (p ∷ ps) → Rising ps
rest_rises p ps rising i j d before inside =
    let further : suc i < suc j = omega (arith, before) in
    let within : suc j < length (p ∷ ps) = omega (arith, inside) in
    rising (suc i) (suc j) d further within

steps : (grants : Flat) (tickets : List Flat) (from : ℕ) (places : List ℕ) → Rising places → All (λ place. from ≤ place) places → All (λ place. place < length tickets) places
    → Listed grants tickets from places → NearFrom grants tickets from places
steps grants tickets from [] rising low high listed = λ q other at past. elim (listed q other at past) [
  | inl has ↦ absurd (nowhere q has)
  | inr apart ↦ apart
]
steps grants tickets from (p ∷ ps) rising low high listed =
    let first : 0 < length (p ∷ ps) = omega arith in (
      low 0 p first,
      high 0 p first,
      λ q other at past before. elim (listed q other at past) [
        | inl has ↦ absurd (let later = first_below p q ps rising has in omega (arith, later, before))
        | inr apart ↦ apart
      ],
      steps grants tickets (p + 1) ps (rest_rises p ps rising)
          (λ j d inside.
          let within : suc j < length (p ∷ ps) = omega (arith, inside) in
          let later : p < slice_index_or ps j d = rising 0 (suc j) d (omega arith) within in
          omega (arith, later))
          (λ j d inside.
          let within : suc j < length (p ∷ ps) = omega (arith, inside) in
          high (suc j) d within)
          (λ q other at past. elim (listed q other at (let least = low 0 p first in omega (arith, least, past))) [
            | inl has ↦ inl (behind_first p q ps past has)
            | inr apart ↦ inr apart
          ]),
    )

pub near_from : (grants : Flat) (tickets : List Flat) (from : ℕ) (places : List ℕ) → AreNear grants tickets from places → NearFrom grants tickets from places
near_from grants tickets from places near =
    steps grants tickets from places (AllPairs-from_increasing places near.rising) (λ k d low. (near.inside k d low).0) (λ k d low. (near.inside k d low).1) near.others

-- what is reported so far, followed by what is reported of the rest, is what is reported of the whole
abbrev pub ToldUpTo : (Tenant → List Tenant → List ℕ → Bool → Type 0) → List Tenant → List Tenant → ℕ → List ℕ → Bool → Type 0
ToldUpTo IsTold whole all k text fails = (rest : List ℕ) (later : Bool) → InTurn IsTold (drop k all) rest later → InTurn IsTold whole (text ++ rest) (fails || later)

or_assoc : (a b c : Bool) → ((a || b) || c) ≡ (a || (b || c))
or_assoc true b c = refl
or_assoc false b c = refl

or_false : (a : Bool) → (a || false) ≡ a
or_false true = refl
or_false false = refl

append_nil : {X : Type 0} (xs : List X) → xs ++ [] ≡ xs
append_nil [] = refl
append_nil (x ∷ xs) = ap (λ rest. x ∷ rest) (append_nil xs)

pub one_more : (IsTold : Tenant → List Tenant → List ℕ → Bool → Type 0) (whole all : List Tenant) (p : ℕ) (one : Tenant) (old new front : List ℕ) (fails ends first : Bool)
    → drop p all ≡ one ∷ drop (p + 1) all → IsTold one (drop (p + 1) all) front first → new ≡ old ++ front → ends ≡ (fails || first)
    → ToldUpTo IsTold whole all p old fails → ToldUpTo IsTold whole all (p + 1) new ends
one_more IsTold whole all p one old new front fails ends first at is text same so_far rest later told =
    let here : InTurn IsTold (drop p all) (front ++ rest) (first || later) =
    subst (λ l. InTurn IsTold l (front ++ rest) (first || later)) (sym at) (front, rest, first, later, is, told, refl, refl) in
    subst (λ t. InTurn IsTold whole t (ends || later)) (sym (ap (λ t. t ++ rest) text ∙ append_assoc old front rest))
    (subst (λ f. InTurn IsTold whole (old ++ (front ++ rest)) f) (sym (ap (λ f. f || later) same ∙ or_assoc fails first later)) (so_far (front ++ rest) (first || later) here))

pub some_at : {X : Type 0} (xs : List X) (p : ℕ) → p < length xs → (x : X) × (slice_get xs p ≡ Some x) × (drop p xs ≡ x ∷ drop (p + 1) xs)
some_at [] p inside = absurd (omega (arith, inside))
some_at (x ∷ xs) p inside =
    let found = get_or (x ∷ xs) p x in
    (found, slice_get-get_or (x ∷ xs) p x inside, drop_more (x ∷ xs) p x inside)

-- nothing is reported of those between
skipped : (IsTold : Tenant → List Tenant → List ℕ → Bool → Type 0) (whole all : List Tenant) (k n : ℕ) (text : List ℕ) (fails : Bool) → k + n ≤ length all
    → ((q : ℕ) (other : Tenant) → slice_get all q ≡ Some other → k ≤ q → q < k + n → IsTold other (drop (q + 1) all) [] false)
    → ToldUpTo IsTold whole all k text fails → ToldUpTo IsTold whole all (k + n) text fails
skipped IsTold whole all k zero text fails inside silent so_far =
    let same : k ≡ k + 0 = omega arith in
    subst (λ m. ToldUpTo IsTold whole all m text fails) same so_far
skipped IsTold whole all k (suc n) text fails inside silent so_far =
    let low : k + n < length all = omega (arith, inside) in
    let less : k + n ≤ length all = omega (arith, inside) in
    let (other, is, at) = some_at all (k + n) low in
    let here : k ≤ k + n = omega arith in
    let before : k + n < k + suc n = omega arith in
    let next : (k + n) + 1 ≡ k + suc n = omega arith in
    let earlier = skipped IsTold whole all k n text fails less (λ q tenant got past below. silent q tenant got past (omega (arith, below))) so_far in
    subst (λ m. ToldUpTo IsTold whole all m text fails) next
    (one_more IsTold whole all (k + n) other text text [] fails fails false at (silent (k + n) other is here before) (sym (append_nil text)) (sym (or_false fails)) earlier)

grants_at : (all : List Tenant) (q : ℕ) (other : Tenant) → slice_get all q ≡ Some other → slice_get (grants_of all) q ≡ Some other.ticket.now.grants
grants_at all q other at = slice_get-map (λ (tenant : Tenant). tenant.ticket.now.grants) all q ∙ ap (option_map (λ (tenant : Tenant). tenant.ticket.now.grants)) at

pub length_grants : (all : List Tenant) → length (grants_of all) ≡ length all
length_grants [] = refl
length_grants (x ∷ xs) = ap suc (length_grants xs)

grants_with : (all : List Tenant) (q : ℕ) (other : Tenant) (grants : Flat) → slice_get all q ≡ Some other → slice_get (grants_of all) q ≡ Some grants → other.ticket.now.grants ≡ grants
grants_with all q other grants at is = same (sym (grants_at all q other at) ∙ is)
  where
    same : {a b : Flat} → Some a ≡ Some b → a ≡ b
    same e = cc

-- of those that are apart nothing is reported
abbrev pub AreSilent : (Tenant → List ℕ → Bool → Type 0) → Flat → List Flat → List Tenant → Type 0
AreSilent IsTold grants tickets all =
    (q : ℕ) (other : Tenant) (theirs : Flat) → slice_get all q ≡ Some other → slice_get tickets q ≡ Some theirs → AreApart grants theirs → IsTold other [] false

some_there : {X Y : Type 0} (xs : List X) (ys : List Y) (q : ℕ) (x : X) → length ys ≡ length xs → slice_get xs q ≡ Some x → (y : Y) × (slice_get ys q ≡ Some y)
some_there [] [] q x size at = absurd (cc)
some_there [] (y ∷ ys) q x size at = absurd (cc)
some_there (x ∷ xs) [] q z size at = absurd (omega (arith, size))
some_there (x ∷ xs) (y ∷ ys) zero z size at = (y, refl)
some_there (x ∷ xs) (y ∷ ys) (suc q) z size at =
    let less : length ys ≡ length xs = omega (arith, size) in
    some_there xs ys q z less at

abbrev Of : (Tenant → List ℕ → Bool → Type 0) → Tenant → List Tenant → List ℕ → Bool → Type 0
Of IsTold other behind text fails = IsTold other text fails

skip_to : (IsTold : Tenant → List ℕ → Bool → Type 0) (grants : Flat) (tickets : List Flat) (whole all : List Tenant) (k p : ℕ) (text : List ℕ) (fails : Bool)
    → length tickets ≡ length all → AreSilent IsTold grants tickets all → k ≤ p → p ≤ length all
    → ((q : ℕ) (other : Flat) → slice_get tickets q ≡ Some other → k ≤ q → q < p → AreApart grants other)
    → ToldUpTo (Of IsTold) whole all k text fails → ToldUpTo (Of IsTold) whole all p text fails
skip_to IsTold grants tickets whole all k p text fails size silent past inside apart so_far =
    let same : k + (p - k) ≡ p = omega (arith, past) in
    let within : k + (p - k) ≤ length all = omega (arith, past, inside) in
    subst (λ m. ToldUpTo (Of IsTold) whole all m text fails) same
    (skipped (Of IsTold) whole all k (p - k) text fails within
    (λ q other at low high.
    let theirs = some_there all tickets q other size at in
    silent q other theirs.0 at theirs.1 (apart q theirs.0 theirs.1 low (omega (arith, past, high)))) so_far)

-- what is reported of those before a place; the near ones from there on are left
pub record NearTold (IsTold : Tenant → List ℕ → Bool → Type 0) (grants : Flat) (tickets : List Flat) (whole all : List Tenant) (near : List ℕ) (text : List ℕ) (fails : Bool) : Type 0 where
  pub place : ℕ
  pub steps : NearFrom grants tickets place near
  pub told : ToldUpTo (Of IsTold) whole all place text fails

pub first_near : (IsTold : Tenant → List ℕ → Bool → Type 0) (grants : Flat) (tickets : List Flat) (all : List Tenant) (from : ℕ) (near text : List ℕ) (fails : Bool) → text ≡ [] → fails ≡ false
    → AreNear grants tickets from near → NearTold IsTold grants tickets (drop from all) all near text fails
first_near IsTold grants tickets all from near text fails empty passes are =
    subst (λ t. NearTold IsTold grants tickets (drop from all) all near t fails) (sym empty)
    (subst (λ f. NearTold IsTold grants tickets (drop from all) all near [] f) (sym passes)
    (record { place = from; steps = near_from grants tickets from near are; told = λ rest later told. told }))

one_near : (IsTold : Tenant → List ℕ → Bool → Type 0) (grants : Flat) (tickets : List Flat) (whole all : List Tenant) (p : ℕ) (ps : List ℕ) (other : Tenant) (old new front : List ℕ)
    (fails ends first : Bool) → length tickets ≡ length all → AreSilent IsTold grants tickets all → other ≡ get_or all p other → IsTold other front first → new ≡ old ++ front → ends ≡ (fails || first)
    → NearTold IsTold grants tickets whole all (p ∷ ps) old fails → NearTold IsTold grants tickets whole all ps new ends
one_near IsTold grants tickets whole all p ps other old new front fails ends first size silent is told text same before =
    let inside : p < length all = subst (λ n. p < n) size before.steps.1 in
    let up_to : p ≤ length all = omega (arith, inside) in
    record {
      place = p + 1;
      steps = before.steps.3;
      told = one_more (Of IsTold) whole all p other old new front fails ends first (drop_more all p other inside ∙ ap (λ t. t ∷ drop (p + 1) all) (sym is)) told text same
          (skip_to IsTold grants tickets whole all before.place p old fails size silent before.steps.0 up_to before.steps.2 before.told);
    }

pub next_near : (IsTold : Tenant → List ℕ → Bool → Type 0) (grants : Flat) (tickets : List Flat) (whole all : List Tenant) (near : List ℕ) (i : ℕ) (other : Tenant) (old new front : List ℕ)
    (fails ends first : Bool) → length tickets ≡ length all → AreSilent IsTold grants tickets all → i < length near → other ≡ get_or all (slice_index near i) other → IsTold other front first
    → new ≡ old ++ front → ends ≡ (fails || first) → NearTold IsTold grants tickets whole all (drop i near) old fails → NearTold IsTold grants tickets whole all (drop (i + 1) near) new ends
next_near IsTold grants tickets whole all near i other old new front fails ends first size silent inside is told text same before =
    one_near IsTold grants tickets whole all (slice_index near i) (drop (i + 1) near) other old new front fails ends first size silent is told text same
    (subst (λ l. NearTold IsTold grants tickets whole all l old fails) (drop_more near i 0 inside) before)

none_near : (IsTold : Tenant → List ℕ → Bool → Type 0) (grants : Flat) (tickets : List Flat) (whole all : List Tenant) (text : List ℕ) (fails : Bool) → length tickets ≡ length all
    → AreSilent IsTold grants tickets all → NearTold IsTold grants tickets whole all [] text fails → InTurn (Of IsTold) whole text fails
none_near IsTold grants tickets whole all text fails size silent before = elim (true_or_false (leb before.place (length all))) [
  | inl inside ↦ (
      let low = leb-true before.place (length all) inside in
      let least : length all ≤ length all = omega arith in
      ended (length all) least
      (skip_to IsTold grants tickets whole all before.place (length all) text fails size silent low least (λ q other at past below. before.steps q other at past) before.told)
      )
  | inr past ↦ (
      let high = leb-false before.place (length all) past in
      let over : length all ≤ before.place = omega (arith, high) in
      ended before.place over before.told
      )
]
  where
    ended : (k : ℕ) → length all ≤ k → ToldUpTo (Of IsTold) whole all k text fails → InTurn (Of IsTold) whole text fails
    ended k over told =
        subst (λ t. InTurn (Of IsTold) whole t fails) (append_nil text)
        (subst (λ f. InTurn (Of IsTold) whole (text ++ []) f) (or_false fails)
        (told [] false (subst (λ l. InTurn (Of IsTold) l [] false) (sym (drop_all k all over)) (refl, refl))))

pub last_near : (IsTold : Tenant → List ℕ → Bool → Type 0) (grants : Flat) (tickets : List Flat) (whole all : List Tenant) (near : List ℕ) (i : ℕ) (text : List ℕ) (fails : Bool)
    → length tickets ≡ length all → AreSilent IsTold grants tickets all → length near ≤ i → NearTold IsTold grants tickets whole all (drop i near) text fails → InTurn (Of IsTold) whole text fails
last_near IsTold grants tickets whole all near i text fails size silent past before =
    none_near IsTold grants tickets whole all text fails size silent (subst (λ l. NearTold IsTold grants tickets whole all l text fails) (drop_all i near past) before)

apart_left_out : (left_out : Bool) (pools : Option (List Pool)) (strictness : Strictness) (one other : Tenant) → AreApart one.ticket.now.grants other.ticket.now.grants
    → IsToldUnless left_out pools strictness one other [] false
apart_left_out false pools strictness one other apart = apart_told pools strictness one other apart
apart_left_out true pools strictness one other apart =
    let none : (kind : Kind) → ¬ ShareWithin pools kind one.ticket.now.grants other.ticket.now.grants = λ kind. no_share pools kind one.ticket.now.grants other.ticket.now.grants apart in
    (refl, None, (none WritesWrites, none WritesReads, none ReadsWrites, λ reads. none ReadsReads), sym (and_false strictness.check))
  where
    and_false : (a : Bool) → (a && false) ≡ false
    and_false true = refl
    and_false false = refl

-- nothing is reported of a pair that is apart
pub apart_silent : (detail : Detail) (pools : Option (List Pool)) (strictness : Strictness) (one : Tenant) (all : List Tenant)
    → AreSilent (IsPairToldBy detail pools strictness one) one.ticket.now.grants (grants_of all) all
apart_silent detail pools strictness one all q other theirs at is apart =
    apart_left_out (is_left_out detail one other) pools strictness one other (subst (AreApart one.ticket.now.grants) (sym (grants_with all q other theirs at is)) apart)

-- nor of two that are apart and write the same
pub apart_writers : (pools : Option (List Pool)) (strictness : Strictness) (one : Tenant) (all : List Tenant)
    → AreSilent (IsWritersTold pools strictness one) one.ticket.now.grants (grants_of all) all
apart_writers pools strictness one all q other theirs at is apart =
    let none : ¬ ShareWithin pools WritesWrites one.ticket.now.grants other.ticket.now.grants =
    no_share pools WritesWrites one.ticket.now.grants other.ticket.now.grants (subst (AreApart one.ticket.now.grants) (sym (grants_with all q other theirs at is)) apart) in
    inr (λ only. none only.0, refl, refl)
