-- A step that only adds to the published map keeps its rule.
use Rattle.std.proofs.Common.{◌≡◌, ◌≢◌, ℕ, List, [], ◌∷◌, ◌++◌, fold, set, refl, sym, ap, ◌∙◌, subst, ⊎_elim}
use Rattle.std.specs.Prelude.{Result, Ok, Err, MatchResult, OnOk, Option, Some, None}
use mathlib.Core.Option.{some}
use lib.ListN.{get_elem?}
use Rattle.std.proofs.lemmas.List.{append_assoc, append-nil}
use Rattle.left_right.specs.Register.{Admits, TurnsAt, Forks, Merges}
use Rattle.atomic_table.proofs.Lists.{at_set, at_snoc}
use Rattle.map_core.specs.State.{History, GoesOn}
use Rattle.map_core.specs.declared.command.MapCommand.{MapCommand}
use Rattle.published_map.specs.declared.published.PublishedMap.{PublishedMap}
use Rattle.published_map.specs.declared.published.Knowledge.{Knowledge}
use Rattle.published_map.specs.Published.{with_command, with_commands, GoesOnFrom, Covers, CoversAll, Sees, nothing_known, informed}

abbrev Held : PublishedMap → List Knowledge → Type 0
Held p = CoversAll p.map

pub goes_on_through : (x y z : History) → GoesOn x y → GoesOn y z → GoesOn x z
goes_on_through x y z p q = (p.0 ∙ q.0, (q.1.0 ++ p.1.0, p.1.1 ∙ (ap (λ l. l ++ p.1.0) q.1.1 ∙ append_assoc z.commands q.1.0 p.1.0)))

pub goes_on_itself : (x : History) → GoesOn x x
goes_on_itself x = (refl, ([], sym (append-nil x.commands)))

pub from_through : (x y : History) (o : Option History) → GoesOn x y → GoesOnFrom y o → GoesOnFrom x o
from_through x y None p q = tt
from_through x y (Some z) p q = goes_on_through x y z p q

put : (map : History) (views : List Knowledge) (seat : ℕ) (w : Knowledge) → CoversAll map views → Covers map w → CoversAll map (set views seat w)
put map views seat w h covers j u e = ⊎_elim (λ (t : (j ≡ seat) × (w ≡ u)). subst (Covers map) t.1 covers) (λ (t : (j ≢ seat) × (get_elem? views j ≡ some u)). h j u t.1) (at_set views seat j w u e)

pub admits : Admits Held nothing_known
admits x views h seat v at = ⊎_elim (h seat v) (λ (e : nothing_known ≡ v). subst (Covers x.map) e (tt, tt)) (at_snoc views nothing_known v seat at)

pub grows : (seat : ℕ) (v : Knowledge) (x y : PublishedMap) → GoesOn y.map x.map → TurnsAt Held seat v x y (λ v x y w. Sees y.map v w)
grows seat v x y up views h at = let w : Knowledge = record { seen = Some y.map; told = None } in let here = h seat v at in (
  w,
  put y.map views seat w (λ j u e. let k = h j u e in (from_through _ _ u.seen up k.0, from_through _ _ u.told up k.1)) (goes_on_itself _, tt),
  (from_through _ _ v.seen up here.0, from_through _ _ v.told up here.1, refl, refl),
)

pub forks : (seat : ℕ) (v : Knowledge) → Forks Held seat v v v
forks seat v x views h at j u e = ⊎_elim (put x.map views seat v h (h seat v at) j u) (λ (same : v ≡ u). subst (Covers x.map) same (h seat v at)) (at_snoc (set views seat v) v u j e)

pub merges : (seat : ℕ) (v : Knowledge) (other : ℕ) (w : Knowledge) → Merges Held seat v other w (informed v w) nothing_known
merges seat v other w x views h at apart there =
    let a = h seat v at in
    let b = ⊎_elim (λ (t : (other ≡ seat) × (informed v w ≡ w)). absurd (apart t.0)) (λ (t : (other ≢ seat) × (get_elem? views other ≡ some w)). h other w t.1) (at_set views seat other (informed v w) w there) in
    put x.map (set views seat (informed v w)) other nothing_known (put x.map views seat (informed v w) h (a.0, b.0)) (tt, tt)

pub fold_adds : (x : History) (ys : List MapCommand) → fold with_command x ys ≡ with_commands x ys
fold_adds x [] = λ i. record x { commands = sym (append-nil x.commands) i }
fold_adds x (y ∷ ys) = fold_adds (with_command x y) ys ∙ λ i. record x { commands = append_assoc x.commands (y ∷ []) ys i }

pub fold_goes_on : (x : History) (ys : List MapCommand) → GoesOn (fold with_command x ys) x
fold_goes_on x ys = subst (λ z. GoesOn z x) (sym (fold_adds x ys)) (refl, (ys, refl))

pub ok_adds : {X Y : Type 0} → (P Q : Type 0) (r : Result X Y) (x z : History) (ys : List MapCommand) → MatchResult r (λ _. (z ≡ fold with_command x ys) × P) (λ _. Q) → OnOk r (z ≡ with_commands x ys)
ok_adds P Q (Ok _) x z ys h = h.0 ∙ fold_adds x ys
ok_adds P Q (Err _) x z ys h = tt

-- a map that goes on from the one that was read covers what was known before
pub covers_on : (x y : History) (v w : Knowledge) → GoesOn x y → Sees y v w → Covers x v
covers_on x y v w up p = (from_through x y v.seen up p.0, from_through x y v.told up p.1)

-- at first there is one view, which knows nothing
pub begins : (map : History) → CoversAll map (nothing_known ∷ [])
begins map seat v at = ⊎_elim (λ (k : get_elem? {A = Knowledge} [] seat ≡ some v). absurd (cc)) (λ (e : nothing_known ≡ v). subst (Covers map) e (tt, tt)) (at_snoc [] nothing_known v seat at)

with_none : (x : History) → with_commands x [] ≡ x
with_none x = λ i. record x { commands = append-nil x.commands i }

-- a publication where nothing waits
pub nothing_more : (x y m : History) (ys : List MapCommand) → x ≡ m → ys ≡ [] → y ≡ with_commands x ys → y ≡ m
nothing_more x y m ys e none is = is ∙ (ap (λ (l : List MapCommand). with_commands x l) none ∙ (with_none x ∙ e))
