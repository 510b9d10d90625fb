-- The daemons in rising order, and lists of their copies.
use Rattle.std.proofs.Common.{ℕ, zero, suc, ◌≡◌, ◌<◌, ◌+◌, Bool, true, false, List, [], ◌∷◌, ◌++◌, map, length, take, drop, get_or, refl, sym, ◌∙◌, ap, arith, if◌then◌else◌}
use Rattle.std.specs.Prelude.{slice_set}
use Rattle.group_model_whole.specs.ActingSets.{daemons}
use Rattle.group_model_whole.specs.Steps.{restarted}
use Rattle.group_model_whole.specs.Choice.{best, own_offer}
use Rattle.group_model_whole.specs.Types.{Daemon}
use Rattle.group_model_whole.specs.Furthest.{furthest}
use Rattle.group_model_whole.proofs.Groups.{Counts, daemons_count}

pub map-push : {X Y : Type 0} (f : X → Y) (xs : List X) (x : X) → map f (xs ++ x ∷ []) ≡ map f xs ++ f x ∷ []
map-push f [] x = refl
map-push f (y ∷ xs) x = ap (λ l. f y ∷ l) (map-push f xs x)

take_counts : (k n m : ℕ) (xs : List ℕ) → Counts k xs → n < length xs → m ≡ n + 1 → take m xs ≡ take n xs ++ (k + n) ∷ []
take_counts k n m [] c lt is = absurd (omega arith)
take_counts k zero m (x ∷ xs) c lt is = (let one : m ≡ suc 0 = omega arith in let same : x ≡ k + 0 = omega (arith, c.0) in ap (λ v. take v (x ∷ xs)) one ∙ ap (λ v. v ∷ []) same)
take_counts k (suc n) zero (x ∷ xs) c lt is = absurd (omega arith)
take_counts k (suc n) (suc m) (x ∷ xs) c lt is =
    let rest = take_counts (k + 1) n m xs c.1 (omega arith) (omega arith) in
    let same : k + 1 + n ≡ k + suc n = omega arith in
    ap (λ l. x ∷ l) (rest ∙ ap (λ v. take n xs ++ v ∷ []) same)

pub next_daemon : (n : ℕ) → n < 16 → take (n + 1) daemons ≡ take n daemons ++ n ∷ []
next_daemon n lt = (let same : 0 + n ≡ n = omega arith in take_counts 0 n (n + 1) daemons daemons_count lt refl ∙ ap (λ v. take n daemons ++ v ∷ []) same)

-- a restart takes nothing from what is furthest on

map-offers : (f : Daemon → Daemon) → ((c : Daemon) → own_offer (f c) ≡ own_offer c) → (cs : List Daemon) → map own_offer (map f cs) ≡ map own_offer cs
map-offers f same [] = refl
map-offers f same (c ∷ cs) = ap (λ l. own_offer (f c) ∷ l) (map-offers f same cs) ∙ ap (λ v. v ∷ map own_offer cs) (same c)

pub furthest-map : (f : Daemon → Daemon) → ((c : Daemon) → own_offer (f c) ≡ own_offer c) → (cs : List Daemon) → furthest (map f cs) ≡ furthest cs
furthest-map f same [] = refl
furthest-map f same (c ∷ cs) = ap (λ l. (best (own_offer (f c)) l).log) (map-offers f same cs) ∙ ap (λ v. (best v (map own_offer cs)).log) (same c)

pub restarted_if : (b : Bool) (c : Daemon) → own_offer (if b then restarted c else c) ≡ own_offer c
restarted_if true c = refl
restarted_if false c = refl

-- a list whose first elements were changed, and one more

pub sweep_next : {X : Type 0} (f : X → X) (xs : List X) (i j : ℕ) (e : X) → i < length xs → j ≡ i + 1 →
    slice_set (map f (take i xs) ++ drop i xs) i (f (get_or (map f (take i xs) ++ drop i xs) i e)) ≡ map f (take j xs) ++ drop j xs
sweep_next f [] i j e lt is = absurd (omega arith)
sweep_next f (x ∷ xs) zero j e lt is = (let one : suc 0 ≡ j = omega arith in ap (λ v. map f (take v (x ∷ xs)) ++ drop v (x ∷ xs)) one)
sweep_next f (x ∷ xs) (suc i) zero e lt is = absurd (omega arith)
sweep_next f (x ∷ xs) (suc i) (suc j) e lt is = ap (λ l. f x ∷ l) (sweep_next f xs i j e (omega arith) (omega arith))

pub set_same : {X : Type 0} (xs : List X) (i : ℕ) (e : X) → slice_set xs i (get_or xs i e) ≡ xs
set_same [] i e = refl
set_same (x ∷ xs) zero e = refl
set_same (x ∷ xs) (suc i) e = ap (λ l. x ∷ l) (set_same xs i e)

-- the element was changed, or is as the change leaves it
pub swept : {X : Type 0} (f : X → X) (xs cur next : List X) (i : ℕ) (e : X) → i < length xs → cur ≡ map f (take i xs) ++ drop i xs → next ≡ slice_set cur i (f (get_or cur i e)) → next ≡ map f (take (i + 1) xs) ++ drop (i + 1) xs
swept f xs cur next i e lt is new = new ∙ ap (λ l. slice_set l i (f (get_or l i e))) is ∙ sweep_next f xs i (i + 1) e lt refl

pub swept_past : {X : Type 0} (f : X → X) (xs cur next : List X) (i : ℕ) (e : X) → i < length xs → cur ≡ map f (take i xs) ++ drop i xs → next ≡ cur → f (get_or cur i e) ≡ get_or cur i e → next ≡ map f (take (i + 1) xs) ++ drop (i + 1) xs
swept_past f xs cur next i e lt is new stays = swept f xs cur next i e lt is (new ∙ sym (ap (λ v. slice_set cur i v) stays ∙ set_same cur i e))
