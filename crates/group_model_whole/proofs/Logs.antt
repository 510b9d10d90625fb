-- Legal logs.
use Rattle.std.proofs.Common.{ℕ, ◌≡◌, Bool, true, false, ◌==◌, ◌||◌, List, [], ◌∷◌, ◌++◌, append_assoc, refl, sym, ap, ◌∙◌, subst, if◌then◌else◌}
use Rattle.std.specs.Prelude.{Some, None}
use Rattle.std.proofs.lemmas.List.{append-nil}
use Rattle.entry_core.specs.Log.{Legal, LegalFrom, decide, decide-sealed, find, is_in, ids}
use Rattle.store_core.specs.Request.{Sealed}
use Rattle.store_core.specs.declared.entry.Entry.{Entry}

-- a number that is not found is not there
pub absent : (log : List Entry) (id : ℕ) → find log id ≡ None → is_in (ids log) id ≡ false
absent [] id none = refl
absent (e ∷ log) id none = go (e.sealed.id == id) none (absent log id)
  where
    go : (b : Bool) → (if b then Some e else find log id) ≡ None → (find log id ≡ None → is_in (ids log) id ≡ false) → (b || is_in (ids log) id) ≡ false
    go true bad rest = cc
    go false none rest = rest none

-- one more entry that is decided on them
pub LegalFrom-push : (before log : List Entry) (s : Sealed) → LegalFrom before log → is_in (ids (before ++ log)) s.id ≡ false → LegalFrom before (log ++ decide (before ++ log) s ∷ [])
LegalFrom-push before [] s legal new =
    let e : Entry = decide (before ++ []) s in
    let same : e.sealed ≡ s = decide-sealed (before ++ []) s in
    let absent_here : is_in (ids before) s.id ≡ false = subst (λ v. is_in (ids v) s.id ≡ false) (append-nil before) new in
    (subst (λ (v : Sealed). is_in (ids before) v.id ≡ false) (sym same) absent_here, ap (λ v. decide v s) (append-nil before) ∙ ap (λ v. decide before v) (sym same), tt)
LegalFrom-push before (e ∷ log) s legal new =
    let same : (before ++ e ∷ []) ++ log ≡ before ++ e ∷ log = append_assoc before (e ∷ []) log in
    let later = LegalFrom-push (before ++ e ∷ []) log s legal.2 (rw same new) in
    (legal.0, legal.1, subst (λ l. LegalFrom (before ++ e ∷ []) (log ++ decide l s ∷ [])) same later)

pub Legal-push : (log : List Entry) (s : Sealed) → Legal log → is_in (ids log) s.id ≡ false → Legal (log ++ decide log s ∷ [])
Legal-push log s legal new = LegalFrom-push [] log s legal new

pub LegalFrom-front : (before front rest : List Entry) → LegalFrom before (front ++ rest) → LegalFrom before front
LegalFrom-front before [] rest legal = tt
LegalFrom-front before (e ∷ front) rest legal = (legal.0, legal.1, LegalFrom-front (before ++ e ∷ []) front rest legal.2)

-- an entry of a legal log is what is decided on those before it
pub LegalFrom-at : (before front : List Entry) (e : Entry) (rest : List Entry) → LegalFrom before (front ++ e ∷ rest) → e ≡ decide (before ++ front) e.sealed
LegalFrom-at before [] e rest legal = legal.1 ∙ ap (λ v. decide v e.sealed) (sym (append-nil before))
LegalFrom-at before (f ∷ front) e rest legal =
    let same : (before ++ f ∷ []) ++ front ≡ before ++ f ∷ front = append_assoc before (f ∷ []) front in
    LegalFrom-at (before ++ f ∷ []) front e rest legal.2 ∙ ap (λ v. decide v e.sealed) same
