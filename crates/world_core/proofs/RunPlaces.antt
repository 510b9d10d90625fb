-- Runs of groups by their places tell the same entries after each event, and those that it decided.
use Prim.Native.Nat.{zero, suc}
use Rattle.std.proofs.lemmas.Option.{slice_get_read}
use Rattle.std.proofs.Common.{◌+◌, get_or, ◌≡◌, ◌∙◌, ℕ, ◌<◌, ◌≤◌, ◌-◌, List, [], ◌∷◌, ◌++◌, Bool, true, false, if◌then◌else◌, Some, refl, sym, ap, subst, arith, append-nil, length, take, drop, length-drop, length-append}
use Rattle.std.specs.Prelude.{nat_lt, slice_get, slice_set}
use Rattle.std.proofs.lemmas.List.{take-append-le, drop-append-le, drop_all, length-set, take_more}
use Rattle.std.proofs.lemmas.Grind.{flat_map-append}
use Rattle.std.proofs.lemmas.Bool.{ltb-true, lt-ltb}
use Rattle.store_core.specs.declared.entry.Entry.{Entry}
use Rattle.group_model_whole.specs.Each.{Each}
use Rattle.group_model_whole.specs.History.{Begins}
use Rattle.group_model.specs.Group.{Group}
use Rattle.world_core.specs.Standing.{audit_in}
use Rattle.world_core.specs.declared.audit.Run.{Run}
use Rattle.world_core.specs.Inside.{run_entries, entries_told}
use Rattle.world_core.specs.Sound.{FitsAt}
use Rattle.world_core.specs.Applying.{runs_from}
use Rattle.world_core.proofs.Acting.{each_join, each_weaker}
use Rattle.world_core.proofs.Runs.{all_of_it, same_begins}

-- ---- longer lists

abbrev pub audit_at_place : List Group → ℕ → List Entry
audit_at_place gs place = audit_in (slice_get gs place)

-- no fewer groups, and what was decided in each begins what is decided there now
pub record Longer (gs hs : List Group) : Type 0 where
  pub all : length gs ≤ length hs
  pub begins : (place : ℕ) → Begins (audit_at_place gs place) (audit_at_place hs place)

fits_on : (gs hs : List Group) (run : Run) → Longer gs hs → FitsAt gs run → FitsAt hs run
fits_on gs hs run more f =
    let b = more.begins run.group in
    let all : length gs ≤ length hs = more.all in
    record {
      there = let t : run.group < length gs = f.there in omega arith;
      forward = f.forward;
      within = let w : run.upto ≤ length (audit_at_place gs run.group) = f.within in omega (arith, length-append (audit_at_place gs run.group) b.rest, ap length b.whole);
    }

tells_on : (gs hs : List Group) (run : Run) → Longer gs hs → FitsAt gs run → run_entries hs run ≡ run_entries gs run
tells_on gs hs run more f =
    let b = more.begins run.group in
    let xs : List Entry = audit_at_place gs run.group in
    let low : run.from ≤ run.upto = f.forward in
    let high : run.upto ≤ length xs = f.within in
    let here : run.from ≤ length xs = omega arith in
    ap (λ l. take (run.upto - run.from) (drop run.from l)) (sym b.whole)
    ∙ ap (take (run.upto - run.from)) (drop-append-le run.from xs b.rest here)
    ∙ take-append-le (run.upto - run.from) (drop run.from xs) b.rest (omega (arith, length-drop run.from xs))

pub fit_on : (gs hs : List Group) (runs : List Run) → Longer gs hs → Each (FitsAt gs) runs → Each (FitsAt hs) runs
fit_on gs hs runs more f = each_weaker (FitsAt gs) (FitsAt hs) (λ r k. fits_on gs hs r more k) runs f

pub told_on : (gs hs : List Group) (runs : List Run) → Longer gs hs → Each (FitsAt gs) runs → entries_told hs runs ≡ entries_told gs runs
told_on gs hs [] more f = refl
told_on gs hs (r ∷ rs) more f = λ i. tells_on gs hs r more f.0 i ++ told_on gs hs rs more f.1 i

-- ---- one group changes

pub set_longer : (gs : List Group) (place : ℕ) (old new : Group) → slice_get gs place ≡ Some old → Begins old.audit new.audit → Longer gs (slice_set gs place new)
set_longer gs place old new there more = record { all = let e : length (slice_set gs place new) ≡ length gs = length-set gs place new in omega arith; begins = go gs place there }
  where
    go : (xs : List Group) (place : ℕ) → slice_get xs place ≡ Some old → (k : ℕ) → Begins (audit_at_place xs k) (audit_at_place (slice_set xs place new) k)
    go [] place h k = absurd (cc)
    go (x ∷ xs) zero h zero = let same : x ≡ old = cc in subst (λ v. Begins v.audit new.audit) (sym same) more
    go (x ∷ xs) zero h (suc k) = same_begins (audit_at_place xs k) (audit_at_place xs k) refl
    go (x ∷ xs) (suc place) h zero = same_begins x.audit x.audit refl
    go (x ∷ xs) (suc place) h (suc k) = go xs place h k

pub set_there : (gs : List Group) (place : ℕ) (old new : Group) → slice_get gs place ≡ Some old → slice_get (slice_set gs place new) place ≡ Some new
set_there [] place old new h = absurd (cc)
set_there (x ∷ xs) zero old new h = refl
set_there (x ∷ xs) (suc place) old new h = set_there xs place old new h

there_low : (gs : List Group) (place : ℕ) (g : Group) → slice_get gs place ≡ Some g → place < length gs
there_low [] place g h = absurd (cc)
there_low (x ∷ xs) zero g h = omega arith
there_low (x ∷ xs) (suc place) g h = let r : place < length xs = there_low xs place g h in omega arith

-- runs that fit, and tell these entries
pub record News (hs : List Group) (runs : List Run) (entries : List Entry) : Type 0 where
  pub fit : Each (FitsAt hs) runs
  pub tell : entries_told hs runs ≡ entries

-- the run of what a group decided from a count on
pub new_run : (hs : List Group) (place from : ℕ) (g : Group) → slice_get hs place ≡ Some g → News hs (runs_from place from (length g.audit)) (drop from g.audit)
new_run hs place from g there = go (nat_lt from (length g.audit)) refl
  where
    new : List Entry
    new = g.audit

    one : Run
    one = record { group = place; from = from; upto = length g.audit }

    go : (b : Bool) → nat_lt from (length g.audit) ≡ b → (let l : List Run = record { group = place; from = from; upto = length g.audit } ∷ [] in News hs (if b then l else []) (drop from g.audit))
    go true more =
        let h : from < length g.audit = ltb-true from (length g.audit) more in
        let is : audit_at_place hs place ≡ g.audit = ap audit_in there in
        let low : place < length hs = there_low hs place g there in
        record {
          fit = (record { there = low; forward = omega arith; within = let e : length (audit_at_place hs place) ≡ length g.audit = ap length is in omega arith }, tt);
          tell = append-nil (take (length g.audit - from) (drop from (audit_at_place hs place)))
              ∙ ap (λ l. take (length g.audit - from) (drop from l)) is
              ∙ all_of_it from g.audit (omega arith);
        }
    go false none =
        let h : length g.audit ≤ from = not_less in
        record { fit = tt; tell = sym (drop_all from g.audit h) }
      where
        not_less : length g.audit ≤ from
        not_less = not_more (λ k. let t : true ≡ false = sym (lt-ltb from (length g.audit) k) ∙ none in absurd (cc))
          where
            not_more : (from < length g.audit → ⊥) → length g.audit ≤ from
            not_more f = omega (arith, f)

-- the runs after a change of one group
pub changed_runs : (gs : List Group) (runs : List Run) (place : ℕ) (old new : Group) → slice_get gs place ≡ Some old → Begins old.audit new.audit → Each (FitsAt gs) runs
    → News (slice_set gs place new) (runs ++ runs_from place (length old.audit) (length new.audit)) (entries_told gs runs ++ drop (length old.audit) new.audit)
changed_runs gs runs place old new there more fit =
    let longer : Longer gs (slice_set gs place new) = set_longer gs place old new there more in
    let news = new_run (slice_set gs place new) place (length old.audit) new (set_there gs place old new there) in
    record {
      fit = each_join (FitsAt (slice_set gs place new)) runs (runs_from place (length old.audit) (length new.audit)) (fit_on gs (slice_set gs place new) runs longer fit) news.fit;
      tell = flat_map-append (run_entries (slice_set gs place new)) runs (runs_from place (length old.audit) (length new.audit))
          ∙ ap (λ l. l ++ entries_told (slice_set gs place new) (runs_from place (length old.audit) (length new.audit))) (told_on gs (slice_set gs place new) runs longer fit)
          ∙ ap (λ l. entries_told gs runs ++ l) news.tell;
    }

-- ---- one run more

each_get : (P : Run → Type 0) (runs : List Run) (i : ℕ) (d : Run) → Each P runs → i < length runs → P (get_or runs i d)
each_get P [] i d all low = absurd (omega arith)
each_get P (r ∷ rs) zero d all low = all.0
each_get P (r ∷ rs) (suc i) d all low = each_get P rs i d all.1 (omega arith)

pub told_next : (gs : List Group) (runs : List Run) (i : ℕ) (d : Run) (g : Group) (es all : List Entry) → Each (FitsAt gs) runs → i < length runs → g ≡ get_or gs (get_or runs i d).group g → es ≡ g.audit
    → all ≡ entries_told gs (take i runs) → all ++ take ((get_or runs i d).upto - (get_or runs i d).from) (drop (get_or runs i d).from es) ≡ entries_told gs (take (i + 1) runs)
told_next gs runs i d g es all fit low here is are =
    let r : Run = get_or runs i d in
    let f : FitsAt gs r = each_get (FitsAt gs) runs i d fit low in
    let there : slice_get gs r.group ≡ Some g = slice_get_read gs (length gs) r.group g refl f.there here in
    ap (λ l. l ++ take (r.upto - r.from) (drop r.from es)) are
    ∙ ap (λ l. entries_told gs (take i runs) ++ take (r.upto - r.from) (drop r.from l)) (is ∙ sym (ap audit_in there))
    ∙ ap (λ l. entries_told gs (take i runs) ++ l) (sym (append-nil (run_entries gs r)))
    ∙ sym (flat_map-append (run_entries gs) (take i runs) (r ∷ []))
    ∙ ap (entries_told gs) (sym (take_more runs i d low))
