-- What the seats have of the lock's numbers, and what those made that are no more.
use Rattle.std.proofs.Common.{◌≡◌, ◌≢◌, ℕ, zero, suc, cond, eq-eqb, ne_eqb, ◌+◌, ◌-◌, ◌*◌, ◌/◌, ◌<◌, ◌≤◌, ◌⊎◌, List, [], ◌∷◌, ◌++◌, length, set, sym, refl, ap, ◌∙◌, subst, ⊎_elim, inl, inr, arith, min, length-set, mul-le-mul_right, suc-mul}
use mathlib.Core.Logic.{dite}
use mathlib.Core.Option.{some, some-injective, some-ne-none}
use native.Mathlib.Decide.{ℕ_discrete, dec_le}
use lib.ListN.{get_elem?}
use Rattle.std.specs.Prelude.{All}
use Rattle.std.proofs.Math.Nat.{min-le_left, mul-div-le}
use Rattle.std.proofs.lemmas.List.Elements.{All-append}
use Rattle.atomic_table.proofs.Lists.{at_set, set_here, set_else, at_longer}
use Rattle.turn_lock.specs.declared.rule.Made.{Made}
use Rattle.turn_lock.specs.declared.rule.Joined.{Joined}
use Rattle.turn_lock.specs.declared.rule.View.{View}
use Rattle.turn_lock.specs.declared.rule.Stage.{Stage}
use Rattle.turn_lock.specs.declared.rule.Stage.TheVariants.{Spent, Away, Waiting, Turn}
use Rattle.turn_lock.specs.Turns.{made_by, last_word, Has, leaver, entries_by, HasMadeAll}
use Rattle.turn_lock.specs.Turning.{total, total_share, pending, entry_count, IsWithinShare, IsSpent, AreJoined, IsToldOf, Shares, joined_view, spent_view}

no_entries : {X : Type 0} → (xs : List X) → length xs ≡ 0 → xs ≡ []
no_entries [] is = refl
no_entries (x ∷ xs) is = absurd (omega arith)

spent_or_live : (st : Stage) → (st ≡ Spent) ⊎ (st ≢ Spent)
spent_or_live Spent = inl refl
spent_or_live Away = inr (λ is. cc)
spent_or_live (Waiting t) = inr (λ is. cc)
spent_or_live (Turn t) = inr (λ is. cc)

-- numbers that are shared evenly: one more part is left, and the parts and the rest are still all numbers
pub one_part_more : (all seats parts left : ℕ) → suc parts < seats → left + parts * (all / seats) ≡ all → (all / seats ≤ left) × (left - all / seats + suc parts * (all / seats) ≡ all)
one_part_more all seats parts left few is =
    let most : suc (suc parts) * (all / seats) ≤ seats * (all / seats) = mul-le-mul_right (all / seats) few in
    let within = mul-div-le all seats in
    let one = suc-mul parts (all / seats) in
    let two = suc-mul (suc parts) (all / seats) in
    let part : ℕ = all / seats in
    let enough : part ≤ left = omega arith in
    (enough, omega arith)

all_one : {X : Type 0} → (P : X → Type 0) → (x : X) → P x → All P (x ∷ [])
all_one P x p zero d h = p
all_one P x p (suc k) d h = absurd (omega arith)

-- a list with one element more
pub all_after : {X : Type 0} → (P : X → Type 0) → (xs ys : List X) → (x : X) → ys ≡ xs ++ x ∷ [] → All P xs → P x → All P ys
all_after P xs ys x is all p = subst (All P) (sym is) (All-append P xs (x ∷ []) all (all_one P x p))

module _ {E : Type 0} where
  pub total-set : (of : View E → ℕ) (views : List (View E)) (i : ℕ) (v w : View E) → get_elem? views i ≡ some v → total of (set views i w) + of v ≡ total of views + of w
  total-set of [] i v w e = absurd (some-ne-none v (sym e))
  total-set of (x ∷ xs) zero v w e = let same : of x ≡ of v = ap of (some-injective x v e) in omega arith
  total-set of (x ∷ xs) (suc i) v w e = let r = total-set of xs i v w e in omega arith

  pub total-append : (of : View E → ℕ) (views : List (View E)) (w : View E) → total of (views ++ w ∷ []) ≡ total of views + of w
  total-append of [] w = omega arith
  total-append of (x ∷ xs) w = let r = total-append of xs w in omega arith

  part_of_total : (of : View E → ℕ) (views : List (View E)) (i : ℕ) (v : View E) → get_elem? views i ≡ some v → of v ≤ total of views
  part_of_total of [] i v e = absurd (some-ne-none v (sym e))
  part_of_total of (x ∷ xs) zero v e = let same : of x ≡ of v = ap of (some-injective x v e) in omega arith
  part_of_total of (x ∷ xs) (suc i) v e = let r = part_of_total of xs i v e in omega arith

  -- where one seat has all, another has nothing
  other_none : (views : List (View E)) (i j : ℕ) (v w : View E) → get_elem? views i ≡ some v → get_elem? views j ≡ some w → j ≢ i → v.share ≡ total_share views → w.share ≡ 0
  other_none views i j v w at at' apart all =
      let one = total-set (λ x. x.share) views i v spent_view at in
      let two = part_of_total (λ x. x.share) (set views i spent_view) j w (set_else views i j spent_view apart ∙ at') in
      omega arith

  pub share_same : (views : List (View E)) (id : ℕ) (v w : View E) → get_elem? views id ≡ some v → w.share ≡ v.share → total_share views ≡ last_word → total_share (set views id w) ≡ last_word
  share_same views id v w at same whole = let t = total-set (λ x. x.share) views id v w at in omega arith

  -- ---- seats that are no more

  apart_of_live : (views : List (View E)) (id j : ℕ) (v : View E) → get_elem? views id ≡ some v → v.stage ≢ Spent → IsSpent views j → j ≢ id
  apart_of_live views id j v at live (u, there, spent) is =
      live (ap (λ (x : View E). x.stage) (some-injective v u (sym at ∙ ap (get_elem? views) (sym is) ∙ there)) ∙ spent)

  -- what a step leaves: of each seat that is no more the entries are the same, and one that is tells of it as before
  pub record Follows (log log' : List (Made E)) (views views' : List (View E)) : Type 0 where
    pub spent : (j : ℕ) → IsSpent views j → (made_by j log' ≡ made_by j log) × IsSpent views' j
    pub told : (j : ℕ) → IsSpent views j → IsToldOf log views j → IsToldOf log' views' j

  joined_follow : (log log' : List (Made E)) (views views' : List (View E)) → Follows log log' views views' → (xs : List (Joined E)) → AreJoined log views xs → AreJoined log' views' xs
  joined_follow log log' views views' f [] h = tt
  joined_follow log log' views views' f (x ∷ xs) h = let s = f.spent x.by h.1 in (s.0 ∙ h.0, s.1, joined_follow log log' views views' f xs h.2)

  pub shares_follow : (log log' : List (Made E)) (views views' : List (View E)) → Follows log log' views views' → (j : ℕ) (d : View E) → get_elem? views j ≡ some d → Shares log views j d → Shares log' views' j d
  shares_follow log log' views views' f j d at h = (h.0, joined_follow log log' views views' f d.joined h.1, λ spent. f.told j (d, at, spent) (h.2 spent))

  set_follows : (log log' : List (Made E)) (views : List (View E)) (id : ℕ) (v w : View E) → get_elem? views id ≡ some v → id < length views → v.stage ≢ Spent → w.stage ≢ Spent → w.joined ≡ v.joined
      → ((j : ℕ) → j ≢ id → made_by j log' ≡ made_by j log) → Follows log log' views (set views id w)
  set_follows log log' views id v w at below live live' same others = record {
    spent = λ j s. let apart = apart_of_live views id j v at live s in (others j apart, (s.0, set_else views id j w apart ∙ s.1, s.2));
    told = λ j s. ⊎_elim
        (λ none. inl (others j (apart_of_live views id j v at live s) ∙ none))
        (λ t. dite (ℕ_discrete t.0 id)
        (λ is. let was : v ≡ t.1 = some-injective v t.1 (sym at ∙ ap (get_elem? views) (sym is) ∙ t.2) in
        inr (id, w, set_here views id w below, live', subst (Has j) (ap (λ (x : View E). x.joined) (sym was) ∙ sym same) t.4))
        (λ other. inr (t.0, t.1, set_else views id t.0 w other ∙ t.2, t.3, t.4)));
  }

  -- a step of a seat that stays, which made at most an entry of its own
  pub seat_shares : (log log' : List (Made E)) (views : List (View E)) (id : ℕ) (v w : View E) → get_elem? views id ≡ some v → id < length views → v.stage ≢ Spent → w.stage ≢ Spent → w.joined ≡ v.joined → IsWithinShare w
      → ((j : ℕ) → j ≢ id → made_by j log' ≡ made_by j log) → ((j : ℕ) (d : View E) → get_elem? views j ≡ some d → Shares log views j d)
      → (j : ℕ) (d : View E) → get_elem? (set views id w) j ≡ some d → Shares log' (set views id w) j d
  seat_shares log log' views id v w at below live live' same within others all j d e =
      let f = set_follows log log' views id v w at below live live' same others in
      ⊎_elim
      (λ (t : (j ≡ id) × (w ≡ d)). subst (λ (x : ℕ × View E). Shares log' (set views id w) x.0 x.1) (λ i. (sym t.0 i, t.1 i))
      (within, subst (AreJoined log' (set views id w)) (sym same) (joined_follow log log' views (set views id w) f v.joined (all id v at).1), λ spent. absurd (live' spent)))
      (λ (t : (j ≢ id) × (get_elem? views j ≡ some d)). shares_follow log log' views (set views id w) f j d t.1 (all j d t.1))
      (at_set views id j w d e)

  -- a new seat behind the others
  pub append_follows : (log : List (Made E)) (views : List (View E)) (more : View E) → Follows log log views (views ++ more ∷ [])
  append_follows log views more = record {
    spent = λ j s. (refl, (s.0, at_longer views (more ∷ []) j s.0 s.1, s.2));
    told = λ j s. ⊎_elim (λ none. inl none) (λ t. inr (t.0, t.1, at_longer views (more ∷ []) t.0 t.1 t.2, t.3, t.4));
  }

  -- ---- a join

  has_front : (j : ℕ) (xs ys : List (Joined E)) → Has j xs → Has j (xs ++ ys)
  has_front j [] ys h = absurd h
  has_front j (x ∷ xs) ys (inl is) = inl is
  has_front j (x ∷ xs) ys (inr h) = inr (has_front j xs ys h)

  has_back : (j : ℕ) (xs ys : List (Joined E)) → Has j ys → Has j (xs ++ ys)
  has_back j [] ys h = h
  has_back j (x ∷ xs) ys h = inr (has_back j xs ys h)

  count-append : (xs ys : List (Joined E)) → entry_count (xs ++ ys) ≡ entry_count xs + entry_count ys
  count-append [] ys = omega arith
  count-append (x ∷ xs) ys = let r = count-append xs ys in omega arith

  joined_both : (log : List (Made E)) (views : List (View E)) (xs ys : List (Joined E)) → AreJoined log views xs → AreJoined log views ys → AreJoined log views (xs ++ ys)
  joined_both log views [] ys a b = b
  joined_both log views (x ∷ xs) ys a b = (a.0, a.1, joined_both log views xs ys a.2 b)

  -- of seats that made no entries each made none
  none_made : (log : List (Made E)) (views : List (View E)) (xs : List (Joined E)) (j : ℕ) → AreJoined log views xs → entry_count xs ≡ 0 → Has j xs → made_by j log ≡ []
  none_made log views [] j a none h = absurd h
  none_made log views (x ∷ xs) j a none (inl is) = ap (λ k. made_by k log) (sym is) ∙ (a.0 ∙ no_entries x.entries (omega arith))
  none_made log views (x ∷ xs) j a none (inr h) = none_made log views xs j a.2 (omega arith) h

  module _ (by : ℕ) (v w : View E) where
    abbrev more : List (Joined E)
    more = w.joined ++ leaver by w.mine ∷ []

    abbrev both : View E
    both = joined_view by v w

    without : w.share ≡ 0 → both.joined ≡ v.joined
    without is = ap (λ b. cond b v.joined (v.joined ++ more)) (eq-eqb w.share 0 is)

    with_more : w.share ≢ 0 → both.joined ≡ v.joined ++ more
    with_more any = ap (λ b. cond b v.joined (v.joined ++ more)) (ne_eqb w.share 0 any)

    has_old : (j : ℕ) → Has j v.joined → Has j both.joined
    has_old j h = dite (ℕ_discrete w.share 0) (λ is. subst (Has j) (sym (without is)) h) (λ any. subst (Has j) (sym (with_more any)) (has_front j v.joined more h))

    has_new : (j : ℕ) → w.share ≢ 0 → Has j more → Has j both.joined
    has_new j any h = subst (Has j) (sym (with_more any)) (has_back j v.joined more h)

    within_both : v.stage ≡ Away → w.stage ≡ Away → IsWithinShare v → IsWithinShare w → IsWithinShare both
    within_both away away' p q =
        let least : min (v.draws + w.draws) last_word ≤ v.draws + w.draws = min-le_left (v.draws + w.draws) last_word in
        let rests : pending v.stage ≡ 0 = ap pending away in
        let rests' : pending w.stage ≡ 0 = ap pending away' in
        let count : entry_count more ≡ entry_count w.joined + length w.mine = let c = count-append w.joined (leaver by w.mine ∷ []) in omega arith in
        dite (ℕ_discrete w.share 0)
        (λ is. let c : entry_count both.joined ≡ entry_count v.joined = ap entry_count (without is) in omega arith)
        (λ any. let c : entry_count both.joined ≡ entry_count v.joined + entry_count more = ap entry_count (with_more any) ∙ count-append v.joined more in omega arith)

  away_lives : (v : View E) → v.stage ≡ Away → v.stage ≢ Spent
  away_lives v away spent = let is : Away ≡ Spent = sym away ∙ spent in cc

  module _ (log : List (Made E)) (views : List (View E)) (id other : ℕ) (v w : View E) (at : get_elem? views id ≡ some v) (was : get_elem? views other ≡ some w) (below : id < length views) (below' : other < length views) (apart : other ≢ id)
      (away : v.stage ≡ Away) (away' : w.stage ≡ Away) (own : made_by other log ≡ w.mine) (all : (j : ℕ) (d : View E) → get_elem? views j ≡ some d → Shares log views j d) where
    abbrev later : List (View E)
    later = set (set views id (joined_view other v w)) other spent_view

    one_here : get_elem? later id ≡ some (joined_view other v w)
    one_here = set_else (set views id (joined_view other v w)) other id spent_view (λ is. apart (sym is)) ∙ set_here views id (joined_view other v w) below

    other_here : get_elem? later other ≡ some spent_view
    other_here = set_here (set views id (joined_view other v w)) other spent_view (let n = length-set views id (joined_view other v w) in omega arith)

    elsewhere : (j : ℕ) → j ≢ id → j ≢ other → get_elem? later j ≡ get_elem? views j
    elsewhere j ne ne' = set_else (set views id (joined_view other v w)) other j spent_view ne' ∙ set_else views id j (joined_view other v w) ne

    lives : (joined_view other v w).stage ≢ Spent
    lives = away_lives v away

    join_follows : Follows log log views later
    join_follows = record {
      spent = λ j s. (refl, (s.0, elsewhere j (apart_of_live views id j v at (away_lives v away) s) (apart_of_live views other j w was (away_lives w away') s) ∙ s.1, s.2));
      told = λ j s. ⊎_elim (λ none. inl none)
          (λ t. dite (ℕ_discrete t.0 id)
          (λ is. let same : v ≡ t.1 = some-injective v t.1 (sym at ∙ ap (get_elem? views) (sym is) ∙ t.2) in
          inr (id, joined_view other v w, one_here, lives, has_old other v w j (subst (Has j) (ap (λ (x : View E). x.joined) (sym same)) t.4)))
          (λ ne. dite (ℕ_discrete t.0 other)
          (λ is. let same : w ≡ t.1 = some-injective w t.1 (sym was ∙ ap (get_elem? views) (sym is) ∙ t.2) in
          let has : Has j w.joined = subst (Has j) (ap (λ (x : View E). x.joined) (sym same)) t.4 in
          dite (ℕ_discrete w.share 0)
          (λ none. let within = (all other w was).0 in inl (none_made log views w.joined j (all other w was).1 (omega arith) has))
          (λ any. inr (id, joined_view other v w, one_here, lives, has_new other v w j any (has_front j w.joined (leaver other w.mine ∷ []) has))))
          (λ ne'. inr (t.0, t.1, elsewhere t.0 ne ne' ∙ t.2, t.3, t.4))));
    }

    other_told : IsToldOf log later other
    other_told = dite (ℕ_discrete w.share 0)
        (λ none. let within = (all other w was).0 in inl (own ∙ no_entries w.mine (omega arith)))
        (λ any. inr (id, joined_view other v w, one_here, lives, has_new other v w other any (has_back other w.joined (leaver other w.mine ∷ []) (inl refl))))

    joined_joined : AreJoined log later (joined_view other v w).joined
    joined_joined =
        let olds = joined_follow log log views later join_follows v.joined (all id v at).1 in
        let news = joined_follow log log views later join_follows w.joined (all other w was).1 in
        dite (ℕ_discrete w.share 0)
        (λ is. subst (AreJoined log later) (sym (without other v w is)) olds)
        (λ any. subst (AreJoined log later) (sym (with_more other v w any))
        (joined_both log later v.joined (w.joined ++ leaver other w.mine ∷ []) olds (joined_both log later w.joined (leaver other w.mine ∷ []) news (own, (spent_view, other_here, refl), tt))))

    pub join_shares : (j : ℕ) (d : View E) → get_elem? later j ≡ some d → Shares log later j d
    join_shares j d e = ⊎_elim
        (λ (t : (j ≡ other) × (spent_view ≡ d)). subst (λ (x : ℕ × View E). Shares log later x.0 x.1) (λ i. (sym t.0 i, t.1 i)) (omega arith, tt, λ _. other_told))
        (λ (t : (j ≢ other) × (get_elem? (set views id (joined_view other v w)) j ≡ some d)). ⊎_elim
        (λ (u : (j ≡ id) × (joined_view other v w ≡ d)). subst (λ (x : ℕ × View E). Shares log later x.0 x.1) (λ i. (sym u.0 i, u.1 i))
        (within_both other v w away away' (all id v at).0 (all other w was).0, joined_joined, λ spent. absurd (lives spent)))
        (λ (u : (j ≢ id) × (get_elem? views j ≡ some d)). shares_follow log log views later join_follows j d u.1 (all j d u.1))
        (at_set views id j (joined_view other v w) d t.1))
        (at_set (set views id (joined_view other v w)) other j spent_view d e)

  -- ---- a seat that has all numbers

  -- whether a seat is among those that were joined
  entries_found : (log : List (Made E)) (views : List (View E)) (xs : List (Joined E)) (by : ℕ) → AreJoined log views xs → (made_by by log ≡ entries_by by xs) ⊎ ((entries_by by xs ≡ []) × (Has by xs → ⊥))
  entries_found log views [] by a = inr (refl, λ h. h)
  entries_found log views (x ∷ xs) by a = dite (ℕ_discrete x.by by)
      (λ is. inl (ap (λ k. made_by k log) (sym is) ∙ (a.0 ∙ sym (ap (λ b. cond b x.entries (entries_by by xs)) (eq-eqb x.by by is)))))
      (λ ne. let skip : entries_by by (x ∷ xs) ≡ entries_by by xs = ap (λ b. cond b x.entries (entries_by by xs)) (ne_eqb x.by by ne) in
      ⊎_elim (λ found. inl (found ∙ sym skip)) (λ (t : (entries_by by xs ≡ []) × (Has by xs → ⊥)). inr (skip ∙ t.0, ⊎_elim (λ is. ne is) t.1)) (entries_found log views xs by a.2))

  some_view : (views : List (View E)) (j : ℕ) → j < length views → (d : View E) × (get_elem? views j ≡ some d)
  some_view [] j h = absurd (omega arith)
  some_view (x ∷ xs) zero h = (x, refl)
  some_view (x ∷ xs) (suc j) h = some_view xs j (omega arith)

  module _ (log : List (Made E)) (views : List (View E)) (id : ℕ) (v : View E) (at : get_elem? views id ≡ some v) (all : v.share ≡ total_share views)
      (shares : (j : ℕ) (d : View E) → get_elem? views j ≡ some d → Shares log views j d) (lives : (j : ℕ) (d : View E) → get_elem? views j ≡ some d → d.stage ≢ Spent → made_by j log ≡ d.mine)
      (strangers : (j : ℕ) → length views ≤ j → made_by j log ≡ []) (by : ℕ) (apart : by ≢ id) (hidden : Has by v.joined → ⊥) where
    -- one that is no more
    spent_none : IsToldOf log views by → made_by by log ≡ []
    spent_none = ⊎_elim (λ none. none) (λ t. dite (ℕ_discrete t.0 id)
        (λ is. let same : v ≡ t.1 = some-injective v t.1 (sym at ∙ ap (get_elem? views) (sym is) ∙ t.2) in absurd (hidden (subst (Has by) (ap (λ (x : View E). x.joined) (sym same)) t.4)))
        (λ ne. let nothing = other_none views id t.0 v t.1 at t.2 ne all in let s = shares t.0 t.1 t.2 in let within = s.0 in none_made log views t.1.joined by s.1 (omega arith) t.4))

    none_of_others : made_by by log ≡ []
    none_of_others = dite (dec_le (length views) by) (λ far. strangers by far)
        (λ near. let d = some_view views by (omega arith) in let s = shares by d.0 d.1 in
        ⊎_elim (λ spent. spent_none (s.2 spent))
        (λ live. let nothing = other_none views id by v d.0 at d.1 apart all in let within = s.0 in lives by d.0 d.1 live ∙ no_entries d.0.mine (omega arith))
        (spent_or_live d.0.stage))

  pub has_made_all : (log : List (Made E)) (views : List (View E)) (id : ℕ) (v : View E) → get_elem? views id ≡ some v → v.share ≡ total_share views → ((j : ℕ) (d : View E) → get_elem? views j ≡ some d → Shares log views j d)
      → ((j : ℕ) (d : View E) → get_elem? views j ≡ some d → d.stage ≢ Spent → made_by j log ≡ d.mine) → ((j : ℕ) → length views ≤ j → made_by j log ≡ []) → HasMadeAll log id v.joined
  has_made_all log views id v at all shares lives strangers by apart = ⊎_elim (λ found. found)
      (λ (t : (entries_by by v.joined ≡ []) × (Has by v.joined → ⊥)). none_of_others log views id v at all shares lives strangers by apart t.1 ∙ sym t.0)
      (entries_found log views v.joined by (shares id v at).1)
