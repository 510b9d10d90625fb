-- Fitting a part of the chosen log to the log that a member had gives the chosen log.
use Rattle.std.proofs.Common.{ℕ, ◌≡◌, ◌≤◌, ◌-◌, List, [], ◌++◌, length, take, drop, sym, ◌∙◌, ap, subst, arith, inl, inr, ◌⊎◌, append-nil}
use Rattle.std.specs.Prelude.{Some}
use Rattle.std.proofs.lemmas.List.{length-take-le, length-drop, take-append-drop}
use Rattle.std.proofs.Math.Seq.{take-length}
use Rattle.entry_core.specs.Log.{Legal}
use Rattle.store_core.specs.Request.{Sealed}
use Rattle.store_core.specs.declared.entry.Entry.{Entry}
use Rattle.group_model_whole.specs.History.{Begins, History, IsSound, but_last}
use Rattle.group_model_whole.proofs.Fronts.{settled_begins}
use Rattle.entry_core.specs.Fitting.{fitted}
use Rattle.entry_core.specs.FittingLaws.{SameNext, NearlyBegins}
use Rattle.entry_core.proofs.Fitting.{fit_gives_the_log}
use Rattle.group_model.proofs.Agreeing.{Past, IsPart}
use Rattle.group_model.proofs.Pasts.{past_settled}

-- all but the last entry of it begins the log that the interval chose
pub past_begins_chosen : (p : ℕ → ℕ) (z : ℕ) (sets : List (List ℕ)) (h : History) (m n : ℕ) (theirs log : List Entry) → IsSound p z sets h → Past p h m n theirs → h.chosen n ≡ Some log → Begins (but_last theirs) log
past_begins_chosen p z sets h m n theirs log sound past chosen = settled_begins p z sets h sound past.at n (but_last theirs) log (past_settled p z sets h m n theirs sound past) past.below chosen

pub nearly : (mine log : List Entry) (start : ℕ) (part : List Sealed) → Begins (but_last mine) log → IsPart mine log start part →
    ((front last behind : List Entry) → front ++ last ≡ mine → front ++ behind ≡ log → SameNext last behind) → NearlyBegins mine log start
nearly mine log start part begins is next =
    let which : (start ≤ length mine - 1) ⊎ (length mine ≤ start) = grind arith in
    elim which [
      | inl early ↦ record {
        front = but_last mine;
        last = drop (length mine - 1) mine;
        behind = begins.rest;
        mine_is = take-append-drop (length mine - 1) mine;
        other_is = begins.whole;
        one = omega (arith, length-drop (length mine - 1) mine);
        within = omega (arith, length-take-le (length mine - 1) mine (omega arith));
        same = next (but_last mine) (drop (length mine - 1) mine) begins.rest (take-append-drop (length mine - 1) mine) begins.whole;
      }
      | inr whole ↦ (
          let all : start ≡ length mine = omega (arith, is.within) in
          let first : take start mine ≡ mine = ap (λ k. take k mine) all ∙ take-length mine in
          let front : take start log ≡ mine = sym is.same ∙ first in
          record {
            front = mine;
            last = [];
            behind = drop start log;
            mine_is = append-nil mine;
            other_is = subst (λ l. l ++ drop start log ≡ log) front (take-append-drop start log);
            one = omega arith;
            within = is.within;
            same = tt;
          })
    ]

-- so `fit` answers true at an Install, and gives the log that the whole one would have brought
pub install_fits : (p : ℕ → ℕ) (z : ℕ) (sets : List (List ℕ)) (h : History) (m n start : ℕ) (theirs log : List Entry) (part : List Sealed) → IsSound p z sets h → Past p h m n theirs → h.chosen n ≡ Some log → IsPart theirs log start part → Legal theirs → Legal log →
    ((front last behind : List Entry) → front ++ last ≡ theirs → front ++ behind ≡ log → SameNext last behind) → fitted theirs start part ≡ Some log
install_fits p z sets h m n start theirs log part sound past chosen is legal legal' next =
    subst (λ v. fitted theirs start v ≡ Some log) (sym is.part_is)
    (fit_gives_the_log theirs log start legal legal' (nearly theirs log start part (past_begins_chosen p z sets h m n theirs log sound past chosen) is next))
