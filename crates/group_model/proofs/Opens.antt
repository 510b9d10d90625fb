-- All but the last entry of a log is decided.
use Rattle.std.proofs.Common.{ℕ, ◌≡◌, length, sym, ◌∙◌, ap, subst}
use Rattle.std.specs.Prelude.{Some}
use Rattle.group_model_whole.specs.Types.{Daemon}
use Rattle.group_model_whole.specs.Group.{Group as WholeGroup}
use Rattle.group_model_whole.specs.History.{Begins, History, IsSound, IsSettled, but_last}
use Rattle.group_model_whole.specs.Open.{Fits as WholeFits, HasHistory as HasWholeHistory}
use Rattle.group_model_whole.proofs.Opens.{has_history as whole_has_history}
use Rattle.group_model.specs.Refinement.{GroupKeeps}
use Rattle.group_model.specs.Standing.{SameCopy, StandsFor}
use Rattle.group_model.specs.Types.{Copy}
use Rattle.group_model.specs.Group.{Group, Event, group_step}
use Rattle.group_model.specs.Reached.{IsReached}
use Rattle.group_model.proofs.Keeping.{promises_kept}
use Rattle.group_model.proofs.Lists.{Beside, beside}
use Rattle.group_model.specs.Open.{Fits, HasHistory}
use Rattle.group_model.specs.Laws.{OneEntryIsOpen}
use Rattle.group_model.proofs.Twins.{Twin, twin_of, lock_stands, reached_holds}

-- the history of the group for which it stands is its own

fits_same : (g : Group) (w : WholeGroup) (p : ℕ → ℕ) (h : History) (d : ℕ) (c : Copy) (v : Daemon) → w.sets ≡ g.sets → SameCopy c v → WholeFits w p h d v → Fits g p h d c
fits_same g w p h d c v sets s f = record {
  promised = f.promised ∙ s.promise;
  held = sym (ap (λ n. h.held d n) s.base) ∙ f.held ∙ ap (λ l. Some (length l)) s.log;
  within = subst (λ n. Begins c.log (h.grown n)) s.base (subst (λ l. Begins l (h.grown v.base)) s.log f.within);
  but_one = subst (λ l. IsSettled l h c.base (but_last c.log)) sets (subst (λ n. IsSettled w.sets h n (but_last c.log)) s.base (subst (λ l. IsSettled w.sets h v.base (but_last l)) s.log f.but_one));
}

history_same : (g : Group) (w : WholeGroup) → StandsFor g w → HasWholeHistory w → HasHistory g
history_same g w s has = record {
  promise = has.promise;
  history = has.history;
  sound = subst (λ l. IsSound has.promise g.min_size l has.history) s.sets (subst (λ n. IsSound has.promise n w.sets has.history) s.min_size has.sound);
  fits = λ d c is. (let b : Beside SameCopy c w.copies d = beside SameCopy g.copies w.copies d c s.copies is in
      fits_same g w has.promise has.history d c b.item s.sets b.agrees (has.fits d b.item b.is));
}

keeps_all : (g : Group) → IsReached g → (e : Event) → GroupKeeps g (group_step g e)
keeps_all g r e = subst (λ (v : Group). GroupKeeps v (group_step v e)) r.is (promises_kept r.group r.min_size r.daemons r.acting r.up r.events e)

pub one_open : (g : Group) → IsReached g → OneEntryIsOpen g
one_open g r =
    let t : Twin g = twin_of g r in
    record {
      history = history_same g t.whole (lock_stands g t.whole t.lock) (whole_has_history t.whole t.lock.good);
      decided = λ d copy is. (reached_holds g r).open_last d copy is;
      keeps = λ e d before after is is'. ((keeps_all g r e).copies d before after is is').log;
    }
