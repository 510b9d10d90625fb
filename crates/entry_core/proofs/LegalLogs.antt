-- Legal logs, their fronts, and logs that requests are decided behind.
use Rattle.std.proofs.Common.{◌≡◌, ℕ, suc, ◌<◌, List, [], ◌∷◌, ◌++◌, Bool, true, false, ◌&&◌, not, length, get_or, take, drop, refl, sym, ap, ◌∙◌, subst, append-nil, append_assoc}
use Rattle.std.proofs.lemmas.List.{take-append-drop}
use Rattle.std.proofs.Math.Seq.{drop-cons}
use Rattle.store_core.specs.Request.{Sealed}
use Rattle.entry_core.specs.Log.{Legal, LegalFrom, decide, ids, is_in}
use Rattle.entry_core.specs.Fitting.{requests_of, are_new, decided_behind}
use Rattle.store_core.specs.declared.entry.Entry.{Entry}

pub legal_front : (before front rest : List Entry) → LegalFrom before (front ++ rest) → LegalFrom before front
legal_front before [] rest legal = tt
legal_front before (e ∷ front) rest legal = (legal.0, legal.1, legal_front (before ++ e ∷ []) front rest legal.2)

pub legal_rest : (before front rest : List Entry) → LegalFrom before (front ++ rest) → LegalFrom (before ++ front) rest
legal_rest before [] rest legal = subst (λ l. LegalFrom l rest) (sym (append-nil before)) legal
legal_rest before (e ∷ front) rest legal = subst (λ l. LegalFrom l rest) (append_assoc before (e ∷ []) front) (legal_rest (before ++ e ∷ []) front rest legal.2)

-- one more entry, decided on them under a new number
pub legal_push : (before log : List Entry) (e : Entry) → LegalFrom before log → is_in (ids (before ++ log)) e.sealed.id ≡ false → e ≡ decide (before ++ log) e.sealed → LegalFrom before (log ++ e ∷ [])
legal_push before [] e legal new decided =
    (subst (λ l. is_in (ids l) e.sealed.id ≡ false) (append-nil before) new, decided ∙ ap (λ l. decide l e.sealed) (append-nil before), tt)
legal_push before (f ∷ log) e legal new decided =
    let same : before ++ f ∷ log ≡ (before ++ f ∷ []) ++ log = sym (append_assoc before (f ∷ []) log) in
    (legal.0, legal.1, legal_push (before ++ f ∷ []) log e legal.2 (subst (λ l. is_in (ids l) e.sealed.id ≡ false) same new) (decided ∙ ap (λ l. decide l e.sealed) same))

-- an entry of a legal log is new to those before it, and decided on them
pub record StandsAt (front : List Entry) (e : Entry) : Type 0 where
  pub new : is_in (ids front) e.sealed.id ≡ false
  pub decided : e ≡ decide front e.sealed

pub legal_at : (es : List Entry) (i : ℕ) (e : Entry) → Legal es → i < length es → e ≡ get_or es i e → StandsAt (take i es) e
legal_at es i e legal within is =
    let parts : take i es ++ get_or es i e ∷ drop (suc i) es ≡ es = ap (λ l. take i es ++ l) (sym (drop-cons es i e within)) ∙ take-append-drop i es in
    let rest : LegalFrom (take i es) (get_or es i e ∷ drop (suc i) es) = legal_rest [] (take i es) _ (subst Legal (sym parts) legal) in
    record {
      new = ap (λ (x : Entry). is_in (ids (take i es)) x.sealed.id) is ∙ rest.0;
      decided = is ∙ rest.1 ∙ ap (λ (x : Entry). decide (take i es) x.sealed) (sym is);
    }

pub ids-push : (log : List Entry) (e : Entry) → ids (log ++ e ∷ []) ≡ ids log ++ e.sealed.id ∷ []
ids-push [] e = refl
ids-push (f ∷ log) e = ap (λ l. f.sealed.id ∷ l) (ids-push log e)

-- what follows in a legal log is what its requests are decided to
pub behind_again : (log es : List Entry) → LegalFrom log es → decided_behind log (requests_of es) ≡ log ++ es
behind_again log [] legal = sym (append-nil log)
behind_again log (e ∷ es) legal =
    ap (λ (f : Entry). decided_behind (log ++ f ∷ []) (requests_of es)) (sym legal.1) ∙ behind_again (log ++ e ∷ []) es legal.2 ∙ append_assoc log (e ∷ []) es

both_hold : (a b : Bool) → a ≡ false → b ≡ true → (not a && b) ≡ true
both_hold a b p q = (λ i. not (p i) && b) ∙ q

pub new_again : (log es : List Entry) → LegalFrom log es → are_new (ids log) (requests_of es) ≡ true
new_again log [] legal = refl
new_again log (e ∷ es) legal =
    both_hold _ _ legal.0 (ap (λ l. are_new l (requests_of es)) (sym (ids-push log e)) ∙ new_again (log ++ e ∷ []) es legal.2)

pub first_new : (a b : Bool) → (not a && b) ≡ true → a ≡ false
first_new true b h = cc
first_new false b h = refl

pub rest_new : (a b : Bool) → (not a && b) ≡ true → b ≡ true
rest_new true b h = absurd (cc)
rest_new false b h = h

-- requests under new numbers that are decided behind a legal log make a legal log
pub legal_behind : (log : List Entry) (part : List Sealed) → Legal log → are_new (ids log) part ≡ true → Legal (decided_behind log part)
legal_behind log [] legal new = legal
legal_behind log (s ∷ part) legal new =
    let fresh : is_in (ids log) s.id ≡ false = first_new (is_in (ids log) s.id) _ new in
    let rest : are_new (ids log ++ s.id ∷ []) part ≡ true = rest_new (is_in (ids log) s.id) _ new in
    legal_behind (log ++ decide log s ∷ []) part (legal_push [] log (decide log s) legal fresh refl)
    (ap (λ l. are_new l part) (ids-push log (decide log s)) ∙ rest)
