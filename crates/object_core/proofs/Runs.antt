-- Runs in part.
use Rattle.std.proofs.Common.{◌≡◌, ℕ, List, [], ◌∷◌, ◌++◌, Option, Result, Ok, Err, suc, ◌+◌, ◌<◌, ◌≤◌, length, get_or, drop, drop-cons, refl, sym, ap, ◌∙◌, arith, zero, Bool, true, false, ◌&&◌}
use Rattle.std.specs.List.{list_all}
use Rattle.std.proofs.lemmas.List.{drop_all}
use Rattle.object_core.specs.Content.{Content}
use Rattle.object_core.specs.Effect.{Effect, effect_of, go_on, run_from, with_output}
use Rattle.object_core.specs.Needs.{only_looks}
use Rattle.object_core.specs.ToldSteps.{StaysAs}
use Rattle.object_core.specs.Operations.{Run}
use Rattle.object_core.specs.declared.op.Op.{Op}
use Rattle.object_core.specs.declared.outcome.Change.{Change}

-- a run after these outputs
abbrev pub with_outputs : List (List ℕ) → Run → Run
with_outputs [] run = run
with_outputs (output ∷ outputs) run = with_output output (with_outputs outputs run)

with_outputs-push : (outputs : List (List ℕ)) (output : List ℕ) (run : Run) → with_outputs (outputs ++ output ∷ []) run ≡ with_outputs outputs (with_output output run)
with_outputs-push [] output run = refl
with_outputs-push (o ∷ os) output run = ap (with_output o) (with_outputs-push os output run)

with_outputs-failed : (outputs : List (List ℕ)) (fault : ℕ × ℕ) → with_outputs outputs (Err fault) ≡ Err fault
with_outputs-failed [] fault = refl
with_outputs-failed (o ∷ os) fault = ap (with_output o) (with_outputs-failed os fault)

with_outputs-done : (outputs : List (List ℕ)) (object : Option Content) → with_outputs outputs (Ok ([], object)) ≡ Ok (outputs, object)
with_outputs-done [] object = refl
with_outputs-done (o ∷ os) object = ap (with_output o) (with_outputs-done os object)

-- the operation at a place, and those after it
module _ (ops : List Op) (i : ℕ) (op : Op) (current : Option Content) (outputs : List (List ℕ)) (total : Run)
    (h : i < length ops) (at : op ≡ get_or ops i op) (so_far : with_outputs outputs (run_from (1 + i) current (drop i ops)) ≡ total) where
  rest_is : drop i ops ≡ op ∷ drop (suc i) ops
  rest_is = drop-cons ops i op h ∙ ap (λ o. o ∷ drop (suc i) ops) (sym at)

  opened : (effect : Effect) → effect ≡ effect_of current op → with_outputs outputs (go_on (1 + i) effect (λ next. run_from (1 + i + 1) next (drop (suc i) ops))) ≡ total
  opened effect e =
      ap (λ x. with_outputs outputs (go_on (1 + i) x (λ next. run_from (1 + i + 1) next (drop (suc i) ops)))) e
      ∙ ap (λ l. with_outputs outputs (run_from (1 + i) current l)) (sym rest_is) ∙ so_far

  pub run_fails : (number : ℕ) → Err number ≡ effect_of current op → Err (i + 1, number) ≡ total
  run_fails number e =
      let place : i + 1 ≡ 1 + i = omega arith in
      ap (λ p. Err (p, number)) place ∙ sym (with_outputs-failed outputs (1 + i, number)) ∙ opened (Err number) e

  pub run_goes_on : (output : List ℕ) (next : Option Content) → Ok (output, next) ≡ effect_of current op → with_outputs (outputs ++ output ∷ []) (run_from (1 + (i + 1)) next (drop (i + 1) ops)) ≡ total
  run_goes_on output next e =
      let place : 1 + (i + 1) ≡ 1 + i + 1 = omega arith in
      let more : i + 1 ≡ suc i = omega arith in
      (λ k. with_outputs (outputs ++ output ∷ []) (run_from (place k) next (drop (more k) ops))) ∙ with_outputs-push outputs output (run_from (1 + i + 1) next (drop (suc i) ops)) ∙ opened (Ok (output, next)) e

-- all operations ran
pub run_ends : (ops : List Op) (i : ℕ) (current : Option Content) (outputs : List (List ℕ)) (total : Run) → length ops ≤ i → with_outputs outputs (run_from (1 + i) current (drop i ops)) ≡ total → Ok (outputs, current) ≡ total
run_ends ops i current outputs total h so_far = sym (with_outputs-done outputs current) ∙ ap (λ l. with_outputs outputs (run_from (1 + i) current l)) (sym (drop_all i ops h)) ∙ so_far

and_true : (a b : Bool) → (a && b) ≡ true → (a ≡ true) × (b ≡ true)
and_true true b e = (refl, e)
and_true false b e = absurd (cc)

-- each of the operations only looks
pub looks_at : (ops : List Op) (i : ℕ) (op : Op) → i < length ops → op ≡ get_or ops i op → list_all only_looks ops ≡ true → only_looks op ≡ true
looks_at [] i op h at all = absurd (omega arith)
looks_at (o ∷ os) zero op h at all = ap only_looks at ∙ (and_true (only_looks o) (list_all only_looks os) all).0
looks_at (o ∷ os) (suc i) op h at all = looks_at os i op (omega arith) at (and_true (only_looks o) (list_all only_looks os) all).1

-- a step that stays as it was, at what it gave
pub next_is : (change next : Change) (output : List ℕ) (step : Result (List ℕ × Change) ℕ) → step ≡ Ok (output, next) → StaysAs change step → next ≡ change
next_is change next output step e h = let at : StaysAs change (Ok (output, next)) = rw e at h in at
