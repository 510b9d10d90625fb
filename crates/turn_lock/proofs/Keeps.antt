-- Each step keeps the rule of the lock.
use Rattle.std.proofs.Common.{◌≡◌, ◌≢◌, ℕ, zero, suc, eqb, cond, eq-eqb, ne_eqb, ◌+◌, ◌-◌, ◌%◌, ◌^◌, ◌<◌, ◌≤◌, ◌⊎◌, Bool, true, false, List, [], ◌∷◌, ◌++◌, length, get_or, set, sym, refl, ap, ◌∙◌, subst, ⊎_elim, inl, inr, arith, Option, Some, length-set, length-append, get_or-set_other, get_or-set_same}
use mathlib.Core.Logic.{dite}
use mathlib.Core.Option.{none, some, some-injective, some-ne-none}
use Rattle.std.specs.Prelude.{nat_le}
use Rattle.std.proofs.lemmas.Bool.Decides.{nat_tests}
use mathlib.Core.Option as maybe
use native.Mathlib.Decide.{ℕ_discrete}
use lib.ListN.{get_elem?}
use Rattle.std.proofs.Math.Nat.{mod-eq_of_lt}
use Rattle.std.proofs.lemmas.List.{append-nil}
use Rattle.atomic_table.specs.Table.{State, Me, step, keeps, takes, gives, put_back, Allows, Splits, Joins, opening}
use Rattle.atomic_table.proofs.Lists.{at_set, set_here, set_again}
use Rattle.turn_lock.specs.declared.rule.Made.{Made}
use Rattle.turn_lock.specs.declared.rule.View.{View}
use Rattle.turn_lock.specs.declared.rule.Stage.{Stage}
use Rattle.turn_lock.specs.declared.rule.Stage.TheVariants.{Spent, Away, Waiting, Turn}
use Rattle.turn_lock.specs.Turns.{StartsWith, longer, made, made_by, state_after, last_word, HasMadeAll, EachFits}
use Rattle.turn_lock.specs.Turning.{total_draws, HasSeen, Knows, Turning, Shares, pending, Ruled, first_view, kept_view, given_view, joined_view, spent_view, settled_view, drew, called, settled, looked}
use Rattle.turn_lock.proofs.Lists.{starts_whole, starts_none, starts_more, shorter_begins, made_by_starts, made_by-own, made_by-other, cut_last, nothing_cut}
use Rattle.turn_lock.proofs.Shares.{total-set, total-append, share_same, shares_follow, seat_shares, append_follows, join_shares, has_made_all}

module _ {E : Type 0} where
  seats_stay : (K : ℕ → View E → Type 0) (vs : List (View E)) (me : ℕ) (w : View E) → K me w → ((j : ℕ) (d : View E) → j ≢ me → get_elem? vs j ≡ some d → K j d)
      → (j : ℕ) (d : View E) → get_elem? (set vs me w) j ≡ some d → K j d
  seats_stay K vs me w mine others j d e = ⊎_elim (λ (t : (j ≡ me) × (w ≡ d)). subst (λ (x : ℕ × View E). K x.0 x.1) (λ i. (sym t.0 i, t.1 i)) mine)
      (λ (t : (j ≢ me) × (get_elem? vs j ≡ some d)). others j d t.0 t.1) (at_set vs me j w d e)

  -- where a seat has a view, it is below their number
  seat_below : (vs : List (View E)) (i : ℕ) (v : View E) → get_elem? vs i ≡ some v → i < length vs
  seat_below [] i v e = absurd (some-ne-none v (sym e))
  seat_below (x ∷ xs) zero v e = omega arith
  seat_below (x ∷ xs) (suc i) v e = let r = seat_below xs i v e in omega arith

  has_more : (log : List (Made E)) (by seat : ℕ) (e : E) (v : View E) → by ≢ seat → HasSeen log seat v → HasSeen (log ++ made by e ∷ []) seat v
  has_more log by seat e v other h = (starts_more log v.seen _ h.0, starts_more log v.told _ h.1, made_by-other seat by log e other ∙ h.2)

  module _ (log : List (Made E)) (owner : ℕ → ℕ) (serving next : ℕ) (seat : ℕ) (v : View E) where
    known : (busy : Bool) (st : Stage) → v.stage ≡ st → Knows log owner busy serving next seat v v.stage → Knows log owner busy serving next seat v st
    known busy st is k = subst (λ (z : Stage). Knows log owner busy serving next seat v z) is k

    -- the others, when a seat takes the value
    others_found : (st : Stage) (me : ℕ) → seat ≢ me → owner serving ≡ me → Knows log owner false serving next seat v st → Knows log owner true serving next seat v st
    others_found Spent me apart own k = tt
    others_found Away me apart own k = k
    others_found (Waiting t) me apart own k = (k.0, k.1, k.2, k.3, λ is. absurd (apart (sym k.3 ∙ (ap owner is ∙ own))))
    others_found (Turn t) me apart own k = let free : false ≡ true = k.5 in cc

    -- the others, when the next is called
    others_called : (st : Stage) (me : ℕ) (e : E) → seat ≢ me → owner serving ≡ me → Knows log owner true serving next seat v st → Knows (log ++ made me e ∷ []) owner false (serving + 1) next seat v st
    others_called Spent me e apart own k = tt
    others_called Away me e apart own k = has_more log me seat e v (λ is. apart (sym is)) k
    others_called (Waiting t) me e apart own k =
        let ne : t ≢ serving = λ is. apart (sym k.3 ∙ (ap owner is ∙ own)) in
        (has_more log me seat e v (λ is. apart (sym is)) k.0, omega arith, k.2, k.3, λ _. refl)
    others_called (Turn t) me e apart own k = absurd (apart (sym k.4 ∙ (ap owner k.2 ∙ own)))

    -- the others, when a ticket is drawn
    others_drawn : (busy : Bool) (st : Stage) (me : ℕ) → Knows log owner busy serving next seat v st → Knows log (λ n. cond (eqb n next) me (owner n)) busy serving (next + 1) seat v st
    others_drawn busy Spent me k = tt
    others_drawn busy Away me k = k
    others_drawn busy (Waiting t) me k = (k.0, k.1, omega arith, ap (λ b. cond b me (owner t)) (ne_eqb t next (λ is. omega arith)) ∙ k.3, k.4)
    others_drawn busy (Turn t) me k = (k.0, k.1, k.2, omega arith, ap (λ b. cond b me (owner t)) (ne_eqb t next (λ is. omega arith)) ∙ k.4, k.5)

  -- what a seat that is there has made
  made_own : (log : List (Made E)) (owner : ℕ → ℕ) (busy : Bool) (serving next seat : ℕ) (v : View E) (st : Stage) → st ≢ Spent → Knows log owner busy serving next seat v st → made_by seat log ≡ v.mine
  made_own log owner busy serving next seat v Spent live k = absurd (live refl)
  made_own log owner busy serving next seat v Away live k = k.2
  made_own log owner busy serving next seat v (Waiting t) live k = k.0.2
  made_own log owner busy serving next seat v (Turn t) live k = k.0.2

  live_in : (v : View E) (st : Stage) → v.stage ≡ st → st ≢ Spent → v.stage ≢ Spent
  live_in v st is live spent = live (sym is ∙ spent)

not_true : (b : Bool) → (b ≡ true → ⊥) → b ≡ false
not_true true h = absurd (h refl)
not_true false h = refl

at_end : {A : Type 0} → (l : List A) (a b : A) (j : ℕ) → get_elem? (l ++ a ∷ []) j ≡ some b → (get_elem? l j ≡ some b) ⊎ ((j ≡ length l) × (a ≡ b))
at_end [] a b zero e = inr (refl, some-injective a b e)
at_end [] a b (suc j) e = absurd (some-ne-none b (sym e))
at_end (x ∷ xs) a b zero e = inl e
at_end (x ∷ xs) a b (suc j) e = ⊎_elim (λ t. inl t) (λ t. inr (ap suc t.0, t.1)) (at_end xs a b j e)

longer_cases : {X : Type 0} → (log a b : List X) → StartsWith log a → StartsWith log b → (c : Bool) → nat_le (length b) (length a) ≡ c
    → StartsWith log (cond c a b) × StartsWith (cond c a b) a × StartsWith (cond c a b) b
longer_cases log a b p q true is = let le : length b ≤ length a = grind (arith, nat_tests) in (p, starts_whole a, shorter_begins log a b p q le)
longer_cases log a b p q false is = let le : length a ≤ length b = grind (arith, nat_tests) in (q, shorter_begins log b a q p le, starts_whole b)

longer_starts : {X : Type 0} → (log a b : List X) → StartsWith log a → StartsWith log b → StartsWith log (longer a b) × StartsWith (longer a b) a × StartsWith (longer a b) b
longer_starts log a b p q = longer_cases log a b p q (nat_le (length b) (length a)) refl

abbrev put_off : {A : Type 0} → List A → List A
put_off [] = []
put_off (x ∷ xs) = xs

-- a list with one entry more, which is one of the state that it finds
one_fits : {S E : Type 0} → (after : S → E → S) (fits : S → E → Type 0) (first : S) (log : List (Made E)) (m : Made E) → EachFits after fits first log → fits (state_after after first log) m.entry → EachFits after fits first (log ++ m ∷ [])
one_fits {S} {E} after fits first log m each here before rest n is = ⊎_elim
    (λ (t : (more : List (Made E)) × (log ≡ before ++ n ∷ more)). each before t.0 n t.1)
    (λ (t : (log ≡ before) × (m ≡ n)). subst (λ (x : List (Made E) × Made E). fits (state_after after first x.0) x.1.entry) (λ i. (t.0 i, t.1 i)) here)
    (cut_last log before rest m n is)

module _ {T S E : Type 0} (state : T → S) (after : S → E → S) (fits : S → E → Type 0) (first : S) where
  abbrev St : Type 0
  St = State (Option T) (View E)

  abbrev M : Type 0
  M = Me (Option T) (View E)

  abbrev Homes : Type 0
  Homes = List (maybe.Option (Option T))

  abbrev Rule : St → Type 0
  Rule = Ruled state after fits first

  abbrev Turning' : ℕ → ℕ → Homes → List (View E) → Type 0
  Turning' = Turning state after fits first

  -- a step that sets `serving`
  serving_set : (s : St) (n : ℕ) (hs : Homes) (vs : List (View E)) → length s.words ≡ 2 → Turning' n (get_or s.words 1 0) hs vs → Rule record { words = set s.words 0 n; homes = hs; views = vs }
  serving_set s n hs vs wide r =
      let a : get_or (set s.words 0 n) 0 0 ≡ n = get_or-set_same s.words 0 n 0 (omega arith) in
      let b : get_or (set s.words 0 n) 1 0 ≡ get_or s.words 1 0 = get_or-set_other s.words 0 1 n 0 (λ e. omega arith) in
      (length-set s.words 0 n ∙ wide, subst (λ (z : ℕ × ℕ). Turning' z.0 z.1 hs vs) (λ i. (sym a i, sym b i)) r)

  -- a step that sets `next`
  next_set : (s : St) (n : ℕ) (hs : Homes) (vs : List (View E)) → length s.words ≡ 2 → Turning' (get_or s.words 0 0) n hs vs → Rule record { words = set s.words 1 n; homes = hs; views = vs }
  next_set s n hs vs wide r =
      let a : get_or (set s.words 1 n) 1 0 ≡ n = get_or-set_same s.words 1 n 0 (omega arith) in
      let b : get_or (set s.words 1 n) 0 0 ≡ get_or s.words 0 0 = get_or-set_other s.words 1 0 n 0 (λ e. omega arith) in
      (length-set s.words 1 n ∙ wide, subst (λ (z : ℕ × ℕ). Turning' z.0 z.1 hs vs) (λ i. (sym b i, sym a i)) r)

  -- a step that changes no word
  loaded : (s : St) (hs : Homes) (vs : List (View E)) → length s.words ≡ 2 → Turning' (get_or s.words 0 0) (get_or s.words 1 0) hs vs → Rule record { words = set s.words 0 (get_or s.words 0 0); homes = hs; views = vs }
  loaded s hs vs wide r = serving_set s (get_or s.words 0 0) hs vs wide r

  room_same : (n : ℕ) (vs : List (View E)) (id : ℕ) (v w : View E) → get_elem? vs id ≡ some v → w.draws ≡ v.draws → total_draws vs + n ≤ last_word → total_draws (set vs id w) + n ≤ last_word
  room_same n vs id v w at same room = let t = total-set (λ x. x.draws) vs id v w at in omega arith

  -- the entries of all seats but this one, where it has all numbers
  all_made : (serving next : ℕ) (homes : Homes) (views : List (View E)) (r : Turning' serving next homes views) (id : ℕ) (v : View E) → get_elem? views id ≡ some v → v.share ≡ last_word → HasMadeAll r.log id v.joined
  all_made serving next homes views r id v at all =
      has_made_all r.log views id v at (all ∙ sym r.whole) r.shares (λ j d there live. made_own r.log r.owner r.busy serving next j d d.stage live (r.each_seat j d there)) r.strangers

  pub looks : (slots id : ℕ) (me : M) (t : ℕ) (firsts : List S) (by : ℕ) → by ≡ id → firsts ≡ first ∷ [] → me.0.stage ≡ Waiting t → me.1 ≡ []
      → Allows Rule slots id me 0 (λ n. n) (looked state after fits firsts by t (step slots 0 0 0 none) me)
  looks slots id me t firsts by same_seat start waits bare s rule deep at small =
      let wide = rule.0 in
      let r = rule.1 in
      let serving : ℕ = get_or s.words 0 0 in
      let next : ℕ = get_or s.words 1 0 in
      let k = known r.log r.owner serving next id me.0 r.busy (Waiting t) waits (r.each_seat id me.0 at) in
      dite (ℕ_discrete serving t)
      (λ hit.
      let free : r.busy ≡ false = k.4 (sym hit) in
      let home = r.home free in
      let x : T = home.0 in
      let w : View E = record me.0 { seen = r.log; stage = Turn t } in
      let own : r.owner serving ≡ id = ap r.owner hit ∙ k.3 in
      let below : serving < next = omega arith in (
        w,
        takes 0 (Some x),
        home.1,
        loaded s (set s.homes 0 none) (set s.views id w) wide record {
          log = r.log;
          owner = r.owner;
          busy = true;
          room = room_same next s.views id me.0 w at refl r.room;
          order = r.order;
          within = λ _. below;
          home = λ (h : true ≡ false). cc;
          each_seat = seats_stay (λ j d. Knows r.log r.owner true serving next j d d.stage) s.views id w
              ((starts_whole r.log, k.0.1, k.0.2), refl, sym hit, k.2, k.3, refl)
              (λ j d other here. others_found r.log r.owner serving next j d d.stage id other own (subst (λ b. Knows r.log r.owner b serving next j d d.stage) free (r.each_seat j d here)));
          strangers = λ j far. r.strangers j (subst (λ (z : ℕ). z ≤ j) (length-set s.views id w) far);
          fit = r.fit;
          whole = share_same s.views id me.0 w at refl r.whole;
          shares = seat_shares r.log r.log s.views id me.0 w at (seat_below s.views id me.0 at) (live_in me.0 (Waiting t) waits (λ (is : Waiting t ≡ Spent). cc)) (λ (is : Turn t ≡ Spent). cc) refl
              (let within = (r.shares id me.0 at).0 in let one : pending me.0.stage ≡ 1 = ap pending waits in omega arith) (λ j other. refl) r.shares;
        },
        (
          (λ _. record {
            value = x;
            log = r.log;
            begins = k.0.0;
            own = ap (λ b. made_by b r.log) same_seat ∙ k.0.2;
            fit = λ f is. let same : first ≡ f = cc in subst (λ (z : S). EachFits after fits z r.log) same r.fit;
            others = λ all. subst (λ (b : ℕ). HasMadeAll r.log b me.0.joined) (sym same_seat) (all_made serving next s.homes s.views r id me.0 at all);
            seat = ap (λ (l : List (ℕ × Option T)). (w, (0, Some x) ∷ l)) bare;
            stands = λ f is. let same : first ≡ f = cc in home.2 ∙ ap (λ (z : S). state_after after z r.log) same;
          }),
          λ miss. absurd (miss hit),
        ),
      ))
      (λ miss. (
        me.0,
        keeps,
        tt,
        loaded s s.homes (set s.views id me.0) wide (subst (λ vs. Turning' serving next s.homes vs) (sym (set_again s.views id me.0 at)) r),
        ((λ is. absurd (miss is)), λ _. refl),
      ))

  pub draws_one : (slots id : ℕ) (me : M) → me.0.stage ≡ Away → 0 < me.0.draws → Allows Rule slots id me 1 (λ n. (n + 1) % 2 ^ 64) (drew (step slots 1 1 0 none) me)
  draws_one slots id me away some_left s rule deep at small =
      let wide = rule.0 in
      let r = rule.1 in
      let serving : ℕ = get_or s.words 0 0 in
      let next : ℕ = get_or s.words 1 0 in
      let k = known r.log r.owner serving next id me.0 r.busy Away away (r.each_seat id me.0 at) in
      let w : View E = record me.0 { draws = me.0.draws - 1; stage = Waiting next } in
      let owner' : ℕ → ℕ = λ n. cond (eqb n next) id (r.owner n) in
      let total = total-set (λ x. x.draws) s.views id me.0 w at in
      let room = r.room in
      let low : next + 1 < 18446744073709551616 = omega arith in
      let up : (next + 1) % 2 ^ 64 ≡ next + 1 = mod-eq_of_lt low in (
        w,
        keeps,
        tt,
        next_set s ((next + 1) % 2 ^ 64) s.homes (set s.views id w) wide (subst (λ (z : ℕ). Turning' serving z s.homes (set s.views id w)) (sym up) record {
          log = r.log;
          owner = owner';
          busy = r.busy;
          room = omega arith;
          order = let o = r.order in omega arith;
          within = λ out. let b = r.within out in omega arith;
          home = r.home;
          each_seat = seats_stay (λ j d. Knows r.log owner' r.busy serving (next + 1) j d d.stage) s.views id w
              (k, r.order, omega arith, ap (λ b. cond b id (r.owner next)) (eq-eqb next next refl), λ is. not_true r.busy (λ out. let b = r.within out in omega arith))
              (λ j d other here. others_drawn r.log r.owner serving next j d r.busy d.stage id (r.each_seat j d here));
          strangers = λ j far. r.strangers j (subst (λ (z : ℕ). z ≤ j) (length-set s.views id w) far);
          fit = r.fit;
          whole = share_same s.views id me.0 w at refl r.whole;
          shares = seat_shares r.log r.log s.views id me.0 w at (seat_below s.views id me.0 at) (live_in me.0 Away away (λ (is : Away ≡ Spent). cc)) (λ (is : Waiting next ≡ Spent). cc) refl
              (let within = (r.shares id me.0 at).0 in let none : pending me.0.stage ≡ 0 = ap pending away in omega arith) (λ j other. refl) r.shares;
        }),
        refl,
      )

  pub calls : (slots id : ℕ) (me : M) (t : ℕ) (e : E) (adds : List E) (by : ℕ) (y : T) → slots ≡ 1 → by ≡ id → adds ≡ e ∷ [] → me.0.stage ≡ Turn t → me.1 ≡ (0, Some y) ∷ []
      → state y ≡ state_after after first (me.0.seen ++ made id e ∷ []) → fits (state_after after first me.0.seen) e
      → Allows Rule slots id me 0 (λ n. (n + 1) % 2 ^ 64) (called by adds (step slots 0 1 0 none) me)
  calls slots id me t e adds by y one same adds_it turn carried stands fit s rule deep at small =
      let wide = rule.0 in
      let r = rule.1 in
      let serving : ℕ = get_or s.words 0 0 in
      let next : ℕ = get_or s.words 1 0 in
      let k = known r.log r.owner serving next id me.0 r.busy (Turn t) turn (r.each_seat id me.0 at) in
      let log' : List (Made E) = r.log ++ made id e ∷ [] in
      let w : View E = record me.0 { seen = me.0.seen ++ made id e ∷ []; mine = me.0.mine ++ e ∷ []; stage = Away } in
      let is : t ≡ serving = k.2 in
      let own : r.owner serving ≡ id = ap r.owner (sym is) ∙ k.4 in
      let below : serving < next = let l = k.3 in omega arith in
      let room = r.room in
      let low : serving + 1 < 18446744073709551616 = omega arith in
      let up : (serving + 1) % 2 ^ 64 ≡ serving + 1 = mod-eq_of_lt low in
      let whole : r.log ≡ me.0.seen = k.1 in
      let held : HasSeen r.log id me.0 = k.0 in
      let homes' : Homes = set s.homes 0 (some (Some y)) in (
        w,
        gives,
        tt,
        subst (λ (c : List (ℕ × Option T)). Rule record { words = set s.words 0 ((serving + 1) % 2 ^ 64); homes = put_back s.homes c; views = set s.views id w }) (sym carried)
            (serving_set s ((serving + 1) % 2 ^ 64) homes' (set s.views id w) wide (subst (λ (z : ℕ). Turning' z next homes' (set s.views id w)) (sym up) record {
              log = log';
              owner = r.owner;
              busy = false;
              room = room_same next s.views id me.0 w at refl r.room;
              order = omega arith;
              within = λ (h : false ≡ true). cc;
              home = λ _. (y, set_here s.homes 0 (some (Some y)) (omega arith), stands ∙ ap (λ l. state_after after first (l ++ made id e ∷ [])) (sym whole));
              each_seat = seats_stay (λ j d. Knows log' r.owner false (serving + 1) next j d d.stage) s.views id w
                  (([], ap (λ l. l ++ made id e ∷ []) whole ∙ sym (append-nil (me.0.seen ++ made id e ∷ []))), starts_more r.log me.0.told _ held.1, made_by-own id r.log e ∙ ap (λ l. l ++ e ∷ []) held.2)
                  (λ j d other here. others_called r.log r.owner serving next j d d.stage id e other own (subst (λ b. Knows r.log r.owner b serving next j d d.stage) k.5 (r.each_seat j d here)));
              strangers = λ j far. let inside = seat_below s.views id me.0 at in let far' : length s.views ≤ j = subst (λ (z : ℕ). z ≤ j) (length-set s.views id w) far in
                  made_by-other j id r.log e (λ h. omega arith) ∙ r.strangers j far';
              fit = one_fits after fits first r.log (made id e) r.fit (subst (λ l. fits (state_after after first l) e) (sym whole) fit);
              whole = share_same s.views id me.0 w at refl r.whole;
              shares = seat_shares r.log log' s.views id me.0 w at (seat_below s.views id me.0 at) (live_in me.0 (Turn t) turn (λ (is : Turn t ≡ Spent). cc)) (λ (is : Away ≡ Spent). cc) refl
                  (let within = (r.shares id me.0 at).0 in let one : pending me.0.stage ≡ 1 = ap pending turn in let more = length-append me.0.mine (e ∷ []) in omega arith)
                  (λ j other. made_by-other j id r.log e (λ is. other (sym is))) r.shares;
            })),
        λ f given. let chosen : e ≡ f = cc in (
          ap (λ (x : ℕ × E × List (ℕ × Option T)). (record me.0 { seen = me.0.seen ++ made x.0 x.1 ∷ []; mine = me.0.mine ++ x.1 ∷ []; stage = Away }, put_off x.2)) (λ i. (sym same i, chosen i, carried i)),
          ap (λ b. made_by b w.seen) same ∙ (made_by-own id me.0.seen e ∙ ap (λ l. l ++ e ∷ []) (ap (made_by id) (sym whole) ∙ held.2)),
        ),
      )

  pub settles : (slots id : ℕ) (me : M) (by : ℕ) → by ≡ id → me.0.stage ≡ Away → Allows Rule slots id me 0 (λ n. n) (settled by (step slots 0 0 0 none) me)
  settles slots id me by same away s rule deep at small =
      let wide = rule.0 in
      let r = rule.1 in
      let serving : ℕ = get_or s.words 0 0 in
      let next : ℕ = get_or s.words 1 0 in
      let k = known r.log r.owner serving next id me.0 r.busy Away away (r.each_seat id me.0 at) in
      let w : View E = settled_view me.0 in
      let l = longer_starts r.log me.0.seen me.0.told k.0 k.1 in (
        w,
        keeps,
        tt,
        loaded s s.homes (set s.views id w) wide record {
          log = r.log;
          owner = r.owner;
          busy = r.busy;
          room = room_same next s.views id me.0 w at refl r.room;
          order = r.order;
          within = r.within;
          home = r.home;
          each_seat = seats_stay (λ j d. Knows r.log r.owner r.busy serving next j d d.stage) s.views id w
              (subst (λ (z : Stage). Knows r.log r.owner r.busy serving next id w z) (sym away) (l.0, starts_none r.log, k.2)) (λ j d other here. r.each_seat j d here);
          strangers = λ j far. r.strangers j (subst (λ (z : ℕ). z ≤ j) (length-set s.views id w) far);
          fit = r.fit;
          whole = share_same s.views id me.0 w at refl r.whole;
          shares = seat_shares r.log r.log s.views id me.0 w at (seat_below s.views id me.0 at) (live_in me.0 Away away (λ (is : Away ≡ Spent). cc)) (live_in me.0 Away away (λ (is : Away ≡ Spent). cc)) refl
              (r.shares id me.0 at).0 (λ j other. refl) r.shares;
        },
        (refl, l.1, l.2, subst (λ (b : ℕ). StartsWith me.0.mine (made_by b w.seen)) (sym same) (subst (λ (xs : List E). StartsWith xs (made_by id w.seen)) k.2 (made_by_starts id r.log w.seen l.0))),
      )

  pub splits : (id : ℕ) (v : View E) (part : ℕ) → v.stage ≡ Away → part ≤ v.draws → Splits Rule id v (kept_view part v) (given_view part v)
  splits id v part away enough s rule at =
      let r = rule.1 in
      let serving : ℕ = get_or s.words 0 0 in
      let next : ℕ = get_or s.words 1 0 in
      let k = known r.log r.owner serving next id v r.busy Away away (r.each_seat id v at) in
      let left : View E = kept_view part v in
      let right : View E = given_view part v in
      let one = total-set (λ x. x.draws) s.views id v left at in
      let two = total-append (λ x. x.draws) (set s.views id left) right in
      let mine = total-set (λ x. x.share) s.views id v left at in
      let given = total-append (λ x. x.share) (set s.views id left) right in
      let room = r.room in
      let whole = r.whole in
      let within = (r.shares id v at).0 in
      let long : length (set s.views id left) ≡ length s.views = length-set s.views id left in (
        rule.0,
        record {
          log = r.log;
          owner = r.owner;
          busy = r.busy;
          room = omega arith;
          order = r.order;
          within = r.within;
          home = r.home;
          each_seat = λ j d here. ⊎_elim
              (seats_stay (λ i x. Knows r.log r.owner r.busy serving next i x x.stage) s.views id left
              (subst (λ (z : Stage). Knows r.log r.owner r.busy serving next id left z) (sym away) k) (λ i x other was. r.each_seat i x was) j d)
              (λ (t : (j ≡ length (set s.views id left)) × (right ≡ d)).
              let none_made : made_by j r.log ≡ [] = r.strangers j (let e = t.0 in omega arith) in
              subst (λ (x : View E). Knows r.log r.owner r.busy serving next j x x.stage) t.1 (k.0, starts_none r.log, none_made))
              (at_end (set s.views id left) right d j here);
          strangers = λ j far. r.strangers j (let n = length-append (set s.views id left) (right ∷ []) in omega arith);
          fit = r.fit;
          whole = omega arith;
          shares = λ j d here. ⊎_elim
              (λ (was : get_elem? (set s.views id left) j ≡ some d). shares_follow r.log r.log (set s.views id left) (set s.views id left ++ right ∷ []) (append_follows r.log (set s.views id left) right) j d was
              (seat_shares r.log r.log s.views id v left at (seat_below s.views id v at) (live_in v Away away (λ (is : Away ≡ Spent). cc)) (live_in v Away away (λ (is : Away ≡ Spent). cc)) refl
              (omega arith) (λ i other. refl) r.shares j d was))
              (λ (t : (j ≡ length (set s.views id left)) × (right ≡ d)). subst (λ (x : View E). Shares r.log (set s.views id left ++ right ∷ []) j x) t.1 (omega arith, tt, λ (is : Away ≡ Spent). cc))
              (at_end (set s.views id left) right d j here);
        },
      )

  joins_other : (id : ℕ) (v : View E) (other : ℕ) (w : View E) → v.stage ≡ Away → w.stage ≡ Away → Joins Rule id v other w (joined_view other v w) spent_view
  joins_other id v other w away away' s rule at apart there =
      let r = rule.1 in
      let serving : ℕ = get_or s.words 0 0 in
      let next : ℕ = get_or s.words 1 0 in
      let both : View E = joined_view other v w in
      let was : get_elem? s.views other ≡ some w = ⊎_elim (λ (t : (other ≡ id) × (both ≡ w)). absurd (apart t.0)) (λ (t : (other ≢ id) × (get_elem? s.views other ≡ some w)). t.1) (at_set s.views id other both w there) in
      let k = known r.log r.owner serving next id v r.busy Away away (r.each_seat id v at) in
      let k' = known r.log r.owner serving next other w r.busy Away away' (r.each_seat other w was) in
      let one = total-set (λ x. x.draws) s.views id v both at in
      let two = total-set (λ x. x.draws) (set s.views id both) other w spent_view there in
      let taken = total-set (λ x. x.share) s.views id v both at in
      let left = total-set (λ x. x.share) (set s.views id both) other w spent_view there in
      let whole = r.whole in
      let room = r.room in
      let long : length (set (set s.views id both) other spent_view) ≡ length s.views = length-set (set s.views id both) other spent_view ∙ length-set s.views id both in (
        rule.0,
        record {
          log = r.log;
          owner = r.owner;
          busy = r.busy;
          room = omega arith;
          order = r.order;
          within = r.within;
          home = r.home;
          each_seat = seats_stay (λ i x. Knows r.log r.owner r.busy serving next i x x.stage) (set s.views id both) other spent_view tt
              (λ j d _ here. seats_stay (λ i x. Knows r.log r.owner r.busy serving next i x x.stage) s.views id both
              (subst (λ (z : Stage). Knows r.log r.owner r.busy serving next id both z) (sym away) (k.0, k'.0, k.2)) (λ i x o h. r.each_seat i x h) j d here);
          strangers = λ j far. r.strangers j (omega arith);
          fit = r.fit;
          whole = omega arith;
          shares = join_shares r.log s.views id other v w at was (seat_below s.views id v at) (seat_below s.views other w was) apart away away' k'.2 r.shares;
        },
      )

  pub joins : (id : ℕ) (v : View E) (other : ℕ) (w : View E) (by : ℕ) → by ≡ other → v.stage ≡ Away → w.stage ≡ Away → Joins Rule id v other w (joined_view by v w) spent_view
  joins id v other w by same = subst (λ (b : ℕ). v.stage ≡ Away → w.stage ≡ Away → Joins Rule id v other w (joined_view b v w) spent_view) (sym same) (joins_other id v other w)

  first_knows : (views : List (View E)) (j : ℕ) (v : View E) → views ≡ first_view ∷ [] → get_elem? views j ≡ some v → Knows [] (λ _. 0) false 0 0 j v v.stage
  first_knows views zero v is e = let same : first_view ≡ v = some-injective first_view v (ap (λ l. get_elem? l 0) (sym is) ∙ e) in
      subst (λ (x : View E). Knows [] (λ _. 0) false 0 0 0 x x.stage) same (starts_none [], starts_none [], refl)
  first_knows views (suc j) v is e = absurd (some-ne-none v (sym (ap (λ l. get_elem? l (suc j)) (sym is) ∙ e)))

  first_shares : (views : List (View E)) (j : ℕ) (v : View E) → views ≡ first_view ∷ [] → get_elem? views j ≡ some v → Shares [] views j v
  first_shares views zero v is e = let same : first_view ≡ v = some-injective first_view v (ap (λ l. get_elem? l 0) (sym is) ∙ e) in
      subst (λ (x : View E). Shares [] views 0 x) same (omega arith, tt, λ (spent : Away ≡ Spent). cc)
  first_shares views (suc j) v is e = absurd (some-ne-none v (sym (ap (λ l. get_elem? l (suc j)) (sym is) ∙ e)))

  pub begins : (x : T) → state x ≡ first → Rule (opening (0 ∷ 0 ∷ []) (Some x ∷ []) first_view)
  begins x is = (
    refl,
    record {
      log = [];
      owner = λ _. 0;
      busy = false;
      room = omega arith;
      order = omega arith;
      within = λ (h : false ≡ true). cc;
      home = λ _. (x, refl, is);
      each_seat = λ j v e. first_knows (first_view ∷ []) j v refl e;
      strangers = λ _ _. refl;
      fit = λ before rest m is. absurd (nothing_cut before rest m is);
      whole = refl;
      shares = λ j v e. first_shares (first_view ∷ []) j v refl e;
    },
  )
