-- Whose turns the list of each group has, at the end of a cluster.
use Rattle.std.proofs.Common.{◌≡◌, ◌≢◌, ℕ, zero, suc, ◌+◌, ◌-◌, ◌*◌, ◌/◌, ◌<◌, ◌≤◌, ◌⊎◌, inl, inr, ⊎_elim, eqb, true, false, Bool, cond, ne_eqb, List, [], ◌∷◌, ◌++◌, map, length, get_or, refl, sym, ap, ◌∙◌, subst, suc-mul, arith}
use Rattle.std.specs.Prelude.{All, Some, slice_get}
use Rattle.std.proofs.Math.Nat.{mul-div-le, le-div_iff_mul-le}
use Rattle.std.proofs.lemmas.List.{append_assoc, append-nil, length-map}
use Rattle.std.proofs.lemmas.Option.{slice_get_within, get_or_from_slice_get}
use Rattle.turn_lock.specs.declared.rule.Made.{Made}
use Rattle.turn_lock.specs.declared.rule.Joined.{Joined}
use Rattle.turn_lock.specs.Turns.{StartsWith, made_by, state_after, last_word, leaver, entries_by, EachFits}
use Rattle.turn_lock.specs.Seats.{Locked, Seated, lock_of, first_of, seat_lock, seat_number, mine_of, HasItsOwn}
use Rattle.turn_lock.specs.Turned.{Closes}
use Rattle.turn_lock.proofs.Lists.{starts_through, starts_whole, made_by_starts}
use Rattle.group_model_whole.specs.Each.{Each}
use Rattle.group_model.specs.Group.{Group}
use Rattle.cluster_locks.specs.declared.groups.GroupEntry.{GroupEntry}
use Rattle.cluster_locks.specs.declared.groups.LockedGroup.{LockedGroup}
use Rattle.cluster.specs.declared.cluster.Cluster.{Cluster}
use Rattle.cluster.specs.declared.cluster.Seats.{Seats}
use Rattle.cluster.specs.declared.cluster.Ended.{Ended}
use Rattle.cluster.specs.declared.pass.Pass.{Pass}
use Rattle.cluster_locks.specs.Groups.{group_after, entry_fits, group_in}
use Rattle.cluster_locks.specs.Places.{InStep, Beside, TakesIn, share_of}
use Rattle.cluster.specs.Passes.{Gathers, Closed, AreMonitorOf, group_count, firsts_of}
use Rattle.cluster_locks.specs.Shares.{pass_share, monitor_share}
use Rattle.cluster.specs.GroupMoves.{happened, happened_at}
use Rattle.cluster.specs.Asks.{IsPassOf, seats_of}
use Rattle.cluster_locks.proofs.FreshRows.{beside_long, in_step_long}

-- ---- elements by their places

pub at_mapped : {X Y : Type 0} → (f : X → Y) (xs : List X) (k : ℕ) (y : Y) → slice_get (map f xs) k ≡ Some y → (x : X) × (slice_get xs k ≡ Some x) × (f x ≡ y)
at_mapped f [] k y h = absurd (cc)
at_mapped f (x ∷ xs) zero y h = let same : f x ≡ y = cc in (x, refl, same)
at_mapped f (x ∷ xs) (suc k) y h = at_mapped f xs k y h

pub mapped_at : {X Y : Type 0} → (f : X → Y) (xs : List X) (k : ℕ) (x : X) → slice_get xs k ≡ Some x → slice_get (map f xs) k ≡ Some (f x)
mapped_at f [] k x h = absurd (cc)
mapped_at f (y ∷ ys) zero x h = let same : y ≡ x = cc in ap (λ z. Some (f z)) same
mapped_at f (y ∷ ys) (suc k) x h = mapped_at f ys k x h

-- what stands at a place of a list that is as long under some f
pub mapped_beside : {X Y Z : Type 0} → (f : X → Z) (g : Y → Z) (xs : List X) (ys : List Y) (k : ℕ) (y : Y) → map f xs ≡ map g ys → slice_get ys k ≡ Some y → (x : X) × (slice_get xs k ≡ Some x)
mapped_beside f g xs ys k y same there =
    let t = at_mapped f xs k (g y) (ap (λ l. slice_get l k) same ∙ mapped_at g ys k y there) in (t.0, t.1)

-- what stands at two places, under f
mapped_or : {X Y : Type 0} → (f : X → List Y) (xs : List X) (k : ℕ) (x : X) → slice_get xs k ≡ Some x → get_or (map f xs) k [] ≡ f x
mapped_or f [] k x h = absurd (cc)
mapped_or f (y ∷ ys) zero x h = let same : y ≡ x = cc in ap f same
mapped_or f (y ∷ ys) (suc k) x h = mapped_or f ys k x h

pub all_at : {X : Type 0} → (P : X → Type 0) (xs : List X) (k : ℕ) (x : X) → All P xs → slice_get xs k ≡ Some x → P x
all_at P xs k x h there = subst P (get_or_from_slice_get xs k x x there) (h k x (slice_get_within xs k x there))

pub each_at : {X : Type 0} → (P : X → Type 0) (xs : List X) → ((k : ℕ) (x : X) → slice_get xs k ≡ Some x → P x) → Each P xs
each_at P [] h = tt
each_at P (x ∷ xs) h = (h zero x refl, each_at P xs (λ k y there. h (suc k) y there))

beside_at : {X Y : Type 0} → (P : X → Y → Type 0) (xs : List X) (ys : List Y) (k : ℕ) (x : X) → Beside P xs ys → slice_get xs k ≡ Some x → (y : Y) × (slice_get ys k ≡ Some y) × P x y
beside_at P [] ys k x h there = absurd (cc)
beside_at P (u ∷ us) [] k x h there = absurd h
beside_at P (u ∷ us) (v ∷ vs) zero x h there = let same : u ≡ x = cc in (v, refl, subst (λ z. P z v) same h.0)
beside_at P (u ∷ us) (v ∷ vs) (suc k) x h there = beside_at P us vs k x h.1 there

beside_back : {X Y : Type 0} → (P : X → Y → Type 0) (xs : List X) (ys : List Y) (k : ℕ) (y : Y) → Beside P xs ys → slice_get ys k ≡ Some y → (x : X) × (slice_get xs k ≡ Some x) × P x y
beside_back P [] [] k y h there = absurd (cc)
beside_back P [] (v ∷ vs) k y h there = absurd h
beside_back P (u ∷ us) [] k y h there = absurd h
beside_back P (u ∷ us) (v ∷ vs) zero y h there = let same : v ≡ y = cc in (u, refl, subst (λ z. P u z) same h.0)
beside_back P (u ∷ us) (v ∷ vs) (suc k) y h there = beside_back P us vs k y h.1 there

step_at : {X Y Z : Type 0} → (P : X → Y → Z → Type 0) (xs : List X) (ys : List Y) (zs : List Z) (k : ℕ) (x : X) → InStep P xs ys zs → slice_get xs k ≡ Some x
    → (y : Y) × (z : Z) × (slice_get ys k ≡ Some y) × (slice_get zs k ≡ Some z) × P x y z
step_at P [] ys zs k x h there = absurd (cc)
step_at P (u ∷ us) [] zs k x h there = absurd h
step_at P (u ∷ us) (v ∷ vs) [] k x h there = absurd h
step_at P (u ∷ us) (v ∷ vs) (w ∷ ws) zero x h there = let same : u ≡ x = cc in (v, w, refl, refl, subst (λ z. P z v w) same h.0)
step_at P (u ∷ us) (v ∷ vs) (w ∷ ws) (suc k) x h there = step_at P us vs ws k x h.1 there

-- ---- shares

whole_share : (all n q : ℕ) → (n + 1) * q ≤ all → (all - n * q) + n * q ≡ all
whole_share all n q h = omega arith

-- the passes and the monitor have all numbers of a lock
all_numbers : (n : ℕ) → monitor_share n + n * pass_share n ≡ last_word
all_numbers n = whole_share last_word n (last_word / (n + 1)) (mul-div-le last_word (n + 1))

-- each pass has one at least
some_numbers : (n : ℕ) → n < last_word → 1 ≤ pass_share n
some_numbers n few = (le-div_iff_mul-le {k = n + 1} {x = 1} {y = last_word} (omega arith)).1 (omega arith)

-- ---- a seat takes in others of its lock, one after another

module _ {E : Type 0} where
  abbrev pub TookIn : Seated E → List (Seated E) → Seated E → Type 0
  TookIn old [] new = new ≡ old
  TookIn old (x ∷ xs) new = (next : Seated E) × TakesIn old x next × TookIn next xs new

  -- a seat with this share, to which none was joined
  abbrev pub IsPlain : ℕ → Seated E → Type 0
  IsPlain share x = (x.share ≡ share) × (x.joined ≡ [])

  abbrev leaver_of : Seated E → Joined E
  leaver_of x = leaver x.number x.mine

  took_number : (old : Seated E) (xs : List (Seated E)) (new : Seated E) → TookIn old xs new → new.number ≡ old.number
  took_number old [] new h = ap seat_number h
  took_number old (x ∷ xs) new h = took_number h.0 xs new h.2 ∙ h.1.same.1

  took_mine : (old : Seated E) (xs : List (Seated E)) (new : Seated E) → TookIn old xs new → new.mine ≡ old.mine
  took_mine old [] new h = ap mine_of h
  took_mine old (x ∷ xs) new h = took_mine h.0 xs new h.2 ∙ h.1.own

  took_seen : (old : Seated E) (xs : List (Seated E)) (new : Seated E) → TookIn old xs new → StartsWith new.seen old.seen
  took_seen old [] new h = subst (λ (s : Seated E). StartsWith s.seen old.seen) (sym h) (starts_whole old.seen)
  took_seen old (x ∷ xs) new h = starts_through new.seen h.0.seen old.seen (took_seen h.0 xs new h.2) h.1.before

  took_heard : (old : Seated E) (xs : List (Seated E)) (new : Seated E) → TookIn old xs new → (a : ℕ) (x : Seated E) → slice_get xs a ≡ Some x → StartsWith new.seen x.seen
  took_heard old [] new h a x there = absurd (cc)
  took_heard old (y ∷ ys) new h zero x there =
      let same : y ≡ x = cc in subst (λ (s : Seated E). StartsWith new.seen s.seen) same (starts_through new.seen h.0.seen y.seen (took_seen h.0 ys new h.2) h.1.heard)
  took_heard old (y ∷ ys) new h (suc a) x there = took_heard h.0 ys new h.2 a x there

  took_share : (share : ℕ) (old : Seated E) (xs : List (Seated E)) (new : Seated E) → Each (IsPlain share) xs → TookIn old xs new → new.share ≡ old.share + length xs * share
  took_share share old [] new plain h = let e : new.share ≡ old.share = ap share_of h in omega arith
  took_share share old (x ∷ xs) new plain h =
      let rest : new.share ≡ h.0.share + length xs * share = took_share share h.0 xs new plain.1 h.2 in
      let one : h.0.share ≡ old.share + x.share = h.1.share in
      let is : x.share ≡ share = plain.0.0 in
      let more : suc (length xs) * share ≡ length xs * share + share = suc-mul (length xs) share in
      omega arith

  -- each of them is kept as one that left
  took_joined : (share : ℕ) (old : Seated E) (xs : List (Seated E)) (new : Seated E) → 1 ≤ share → Each (IsPlain share) xs → TookIn old xs new → new.joined ≡ old.joined ++ map leaver_of xs
  took_joined share old [] new least plain h = ap (λ (s : Seated E). s.joined) h ∙ sym (append-nil old.joined)
  took_joined share old (x ∷ xs) new least plain h =
      let is : x.share ≡ share = plain.0.0 in
      let some : eqb x.share 0 ≡ false = ne_eqb x.share 0 (λ none. absurd (omega arith)) in
      let one : h.0.joined ≡ old.joined ++ leaver_of x ∷ [] =
      h.1.joined ∙ (ap (λ b. cond b old.joined (old.joined ++ (x.joined ++ leaver_of x ∷ []))) some ∙ ap (λ l. old.joined ++ (l ++ leaver_of x ∷ [])) plain.0.1) in
      took_joined share h.0 xs new least plain.1 h.2 ∙ (ap (λ l. l ++ map leaver_of xs) one ∙ append_assoc old.joined (leaver_of x ∷ []) (map leaver_of xs))

  -- what stands under a number is what one of them made
  entries_left : (by : ℕ) (xs : List (Seated E)) → (entries_by by (map leaver_of xs) ≡ []) ⊎ ((a : ℕ) × (x : Seated E) × (slice_get xs a ≡ Some x) × (entries_by by (map leaver_of xs) ≡ x.mine))
  entries_left by [] = inl refl
  entries_left by (x ∷ xs) = go (eqb x.number by) (entries_left by xs)
    where
      go : (b : Bool) → (entries_by by (map leaver_of xs) ≡ []) ⊎ ((a : ℕ) × (y : Seated E) × (slice_get xs a ≡ Some y) × (entries_by by (map leaver_of xs) ≡ y.mine))
          → (cond b x.mine (entries_by by (map leaver_of xs)) ≡ []) ⊎ ((a : ℕ) × (y : Seated E) × (slice_get (x ∷ xs) a ≡ Some y) × (cond b x.mine (entries_by by (map leaver_of xs)) ≡ y.mine))
      go true r = inr (zero, x, refl, refl)
      go false r = ⊎_elim (λ none. inl none) (λ t. inr (suc t.0, t.1, t.2, t.3)) r

-- ---- a lock that was closed by such a seat

module _ {S E : Type 0} (after : S → E → S) (fits : S → E → Type 0) (first value : S) (s : Seated E) (xs : List (Seated E)) (last : Seated E) (took : TookIn s xs last) (closes : Closes after fits first value last) where
  own_made : made_by s.number closes.list ≡ s.mine
  own_made = ap (λ n. made_by n closes.list) (sym (took_number s xs last took)) ∙ (closes.own ∙ took_mine s xs last took)

  others_made : (n : ℕ) → length xs ≡ n → n < last_word → s.share ≡ monitor_share n → s.joined ≡ [] → Each (IsPlain (pass_share n)) xs → (by : ℕ) → by ≢ s.number → made_by by closes.list ≡ entries_by by (map leaver_of xs)
  others_made n long few share alone plain by other =
      let all : last.share ≡ last_word = took_share (pass_share n) s xs last plain took ∙ ((λ i. share i + long i * pass_share n) ∙ all_numbers n) in
      let joined : last.joined ≡ map leaver_of xs = took_joined (pass_share n) s xs last (some_numbers n few) plain took ∙ ap (λ l. l ++ map leaver_of xs) alone in
      closes.others all by (λ is. other (is ∙ took_number s xs last took)) ∙ ap (entries_by by) joined

  heard_made : (a : ℕ) (x : Seated E) → slice_get xs a ≡ Some x → HasItsOwn x → StartsWith (made_by x.number closes.list) x.mine
  heard_made a x there own =
      subst (λ (l : List E). StartsWith (made_by x.number closes.list) l) own
      (made_by_starts x.number closes.list x.seen (starts_through closes.list last.seen x.seen closes.begins (took_heard s xs last took a x there)))

-- ---- the seats of passes at one place

-- at the place k each has the seat beside it
abbrev AreAt : ℕ → List Seats → List (Seated GroupEntry) → Type 0
AreAt k ps xs = Beside (λ (p : Seats) (x : Seated GroupEntry). slice_get p.groups.items k ≡ Some x) ps xs

record GatheredAt (k : ℕ) (s : Seated GroupEntry) (ps : List Seats) (new : Seats) : Type 0 where
  others : List (Seated GroupEntry)
  are : AreAt k ps others
  last : Seated GroupEntry
  there : slice_get new.groups.items k ≡ Some last
  took : TookIn s others last

gathered_at : (k : ℕ) (s : Seated GroupEntry) (old : Seats) (ps : List Seats) (new : Seats) → Gathers old ps new → slice_get old.groups.items k ≡ Some s → GatheredAt k s ps new
gathered_at k s old [] new h at = record { others = []; are = tt; last = s; there = ap (λ (z : Seats). slice_get z.groups.items k) h ∙ at; took = refl }
gathered_at k s old (p ∷ ps) new h at =
    let one = step_at (TakesIn {E = GroupEntry}) old.groups.items p.groups.items h.0.groups.items k s h.1.0 at in
    let rest : GatheredAt k one.1 ps new = gathered_at k one.1 h.0 ps new h.2 one.3 in
    record { others = one.0 ∷ rest.others; are = (one.2, rest.are); last = rest.last; there = rest.there; took = (one.1, one.4, rest.took) }

-- ---- the list of one group

-- what the seat at a place made
abbrev pub mine_at : Seats → ℕ → List GroupEntry
mine_at seats k = get_or (map mine_of seats.groups.items) k []

happened_so : (seats : Seats) (k : ℕ) (x : Seated GroupEntry) → slice_get seats.groups.items k ≡ Some x → (es : List GroupEntry) → es ≡ x.mine → happened es ≡ happened_at seats k
happened_so seats k x there es is = ap happened (is ∙ sym (mapped_or mine_of seats.groups.items k x there))

-- The group at the place k is at the end the fold of a list of turns, each of which fits. Of that list the monitor made what it knows; each other
-- number has no turn in it, or those that a pass made; and what each pass made is in it
pub record MadeAt (monitor : Seats) (passes : List Pass) (ended : Ended) (k : ℕ) (first : Group) : Type 0 where
  pub list : List (Made GroupEntry)
  pub number : ℕ
  pub is : slice_get (map group_in ended.groups.items) k ≡ Some (state_after group_after first list)
  pub fit : EachFits group_after entry_fits first list
  pub own : happened (made_by number list) ≡ happened_at monitor k
  pub others : (by : ℕ) → by ≢ number → (made_by by list ≡ []) ⊎ ((a : ℕ) × (p : Pass) × (slice_get passes a ≡ Some p) × (happened (made_by by list) ≡ happened_at p.seats k))
  pub kept : (a : ℕ) (p : Pass) → slice_get passes a ≡ Some p → (by : ℕ) × (more : List GroupEntry) × (made_by by list ≡ mine_at p.seats k ++ more)

-- there are as many groups as at first, and so is each
pub record AreMade (c : Cluster) (monitor : Seats) (passes : List Pass) (ended : Ended) : Type 0 where
  pub count : length ended.groups.items ≡ group_count c
  pub each : (k : ℕ) (first : Group) → slice_get (firsts_of c) k ≡ Some first → MadeAt monitor passes ended k first

module _ (c : Cluster) (monitor : Seats) (passes : List Pass) (ended : Ended) (own : AreMonitorOf c monitor) (are : All (IsPassOf c) passes) (whole : length passes ≡ c.passes) (few : c.passes < 18446744073709551615)
    (closed : Closed c monitor (map seats_of passes) ended) where
  -- the seat of a pass, of those at a place
  seat_at : (k a : ℕ) (xs : List (Seated GroupEntry)) (x : Seated GroupEntry) → AreAt k (map seats_of passes) xs → slice_get xs a ≡ Some x → (p : Pass) × (slice_get passes a ≡ Some p) × (slice_get p.seats.groups.items k ≡ Some x)
  seat_at k a xs x h there =
      let b = beside_back (λ (p : Seats) (x : Seated GroupEntry). slice_get p.groups.items k ≡ Some x) (map seats_of passes) xs a x h there in
      let q = at_mapped seats_of passes a b.0 b.1 in
      (q.0, q.1, ap (λ (z : Seats). slice_get z.groups.items k) q.2 ∙ b.2)

  plain_at : (k : ℕ) (xs : List (Seated GroupEntry)) → AreAt k (map seats_of passes) xs → Each (IsPlain (pass_share c.passes)) xs
  plain_at k xs h = each_at (IsPlain (pass_share c.passes)) xs
      (λ a x there. let s = seat_at k a xs x h there in let p : IsPassOf c s.0 = all_at (IsPassOf c) passes a s.0 are s.1 in
      (all_at (λ (y : Seated GroupEntry). y.share ≡ pass_share c.passes) s.0.seats.groups.items k x p.seats.1.0 s.2, all_at (λ (y : Seated GroupEntry). y.joined ≡ []) s.0.seats.groups.items k x p.seats.2.0 s.2))

  -- what was made under a number, where it is what one of these seats made, or nothing
  one_of : (k : ℕ) (xs : List (Seated GroupEntry)) → AreAt k (map seats_of passes) xs → (es fs : List GroupEntry) → es ≡ fs → (fs ≡ []) ⊎ ((a : ℕ) × (x : Seated GroupEntry) × (slice_get xs a ≡ Some x) × (fs ≡ x.mine))
      → (es ≡ []) ⊎ ((a : ℕ) × (p : Pass) × (slice_get passes a ≡ Some p) × (happened es ≡ happened_at p.seats k))
  one_of k xs seats es fs is (inl none) = inl (is ∙ none)
  one_of k xs seats es fs is (inr t) = let p = seat_at k t.0 xs t.1 seats t.2 in inr (t.0, p.0, p.1, happened_so p.0.seats k t.1 p.2 es (is ∙ t.3))

  -- one place, whose lock, seats and value are known
  module _ (k : ℕ) (first : Group) (s : Seated GroupEntry) (at : slice_get monitor.groups.items k ≡ Some s) (xs : List (Seated GroupEntry)) (seats : AreAt k (map seats_of passes) xs) (last : Seated GroupEntry) (took : TookIn s xs last)
      (value : LockedGroup) (there : slice_get ended.groups.items k ≡ Some value) (closes : Closes group_after entry_fits first (group_in value) last) where
    others_at : (by : ℕ) → by ≢ s.number → (made_by by closes.list ≡ []) ⊎ ((a : ℕ) × (p : Pass) × (slice_get passes a ≡ Some p) × (happened (made_by by closes.list) ≡ happened_at p.seats k))
    others_at by other =
        let long : length xs ≡ c.passes = beside_long (λ (p : Seats) (x : Seated GroupEntry). slice_get p.groups.items k ≡ Some x) (map seats_of passes) xs seats ∙ (length-map passes seats_of ∙ whole) in
        let share : s.share ≡ monitor_share c.passes = all_at (λ (y : Seated GroupEntry). y.share ≡ monitor_share c.passes) monitor.groups.items k s own.1.0 at in
        let alone : s.joined ≡ [] = all_at (λ (y : Seated GroupEntry). y.joined ≡ []) monitor.groups.items k s own.2.0 at in
        let is : made_by by closes.list ≡ entries_by by (map leaver_of xs) = others_made group_after entry_fits first (group_in value) s xs last took closes c.passes long few share alone (plain_at k xs seats) by other in
        one_of k xs seats (made_by by closes.list) (entries_by by (map leaver_of xs)) is (entries_left by xs)

    kept_at : (a : ℕ) (p : Pass) → slice_get passes a ≡ Some p → (by : ℕ) × (more : List GroupEntry) × (made_by by closes.list ≡ mine_at p.seats k ++ more)
    kept_at a p here =
        let b = beside_at (λ (p : Seats) (x : Seated GroupEntry). slice_get p.groups.items k ≡ Some x) (map seats_of passes) xs a p.seats seats (mapped_at seats_of passes a p here) in
        let has : HasItsOwn b.0 = all_at HasItsOwn p.seats.groups.items k b.0 (all_at (IsPassOf c) passes a p are here).made b.2 in
        let starts = heard_made group_after entry_fits first (group_in value) s xs last took closes a b.0 b.1 has in
        (b.0.number, starts.0, starts.1 ∙ ap (λ l. l ++ starts.0) (sym (mapped_or mine_of p.seats.groups.items k b.0 b.2)))

    made_so : MadeAt monitor passes ended k first
    made_so = record {
      list = closes.list;
      number = s.number;
      is = mapped_at group_in ended.groups.items k value there ∙ ap (λ (g : Group). Some g) closes.stands;
      fit = closes.fit;
      own = happened_so monitor k s at (made_by s.number closes.list) (own_made group_after entry_fits first (group_in value) s xs last took closes);
      others = others_at;
      kept = kept_at;
    }

  made_at : (k : ℕ) (first : Group) → slice_get (firsts_of c) k ≡ Some first → MadeAt monitor passes ended k first
  made_at k first at =
      let l = at_mapped first_of c.groups.items k first at in
      let s = mapped_beside seat_lock lock_of monitor.groups.items c.groups.items k l.0 own.0.0 l.1 in
      let g : GatheredAt k s.0 (map seats_of passes) closed.0 = gathered_at k s.0 monitor (map seats_of passes) closed.0 closed.1 s.1 in
      let e = step_at (λ (l : Locked Group) (s : Seated GroupEntry) (x : LockedGroup). Closes group_after entry_fits l.first (group_in x) s) c.groups.items closed.0.groups.items ended.groups.items k l.0 closed.2 l.1 in
      let both : Some e.0 ≡ Some g.last = sym e.2 ∙ g.there in
      let same : e.0 ≡ g.last = cc in
      let closes : Closes group_after entry_fits first (group_in e.1) g.last =
      subst (λ (f : Group). Closes group_after entry_fits f (group_in e.1) g.last) l.2 (subst (λ (z : Seated GroupEntry). Closes group_after entry_fits l.0.first (group_in e.1) z) same e.4) in
      made_so k first s.0 s.1 g.others g.are g.last g.took e.1 e.3 closes

  pub are_made : AreMade c monitor passes ended
  are_made = record { count = (in_step_long (λ (l : Locked Group) (s : Seated GroupEntry) (x : LockedGroup). Closes group_after entry_fits l.first (group_in x) s) c.groups.items closed.0.groups.items ended.groups.items closed.2).1; each = made_at }
