-- Legal logs of requests that were asked: where they begin with the same numbers, they begin with the same entries.
use Rattle.std.proofs.Common.{ℕ, suc, ◌≡◌, ◌≤◌, Bool, true, false, ◌==◌, List, [], ◌∷◌, ◌++◌, map, length, take, drop, refl, sym, ◌∙◌, ap, subst, arith, if◌then◌else◌}
use Rattle.std.specs.Prelude.{Some, slice_get}
use Rattle.std.proofs.lemmas.Bool.{eqb-true}
use Rattle.std.proofs.lemmas.List.{take-append-drop}
use Rattle.entry_core.specs.Log.{Legal, LegalFrom, decide, ids}
use Rattle.store_core.specs.Request.{Sealed}
use Rattle.entry_core.specs.Fitting.{requests_of, part_of}
use Rattle.entry_core.specs.FittingLaws.{SameNext}
use Rattle.store_core.specs.declared.entry.Entry.{Entry}
use Rattle.group_model_whole.specs.Group.{submitted}
use Rattle.group_model_whole.specs.Asked.{IsAsked, InLog}
use Rattle.group_model_whole.specs.History.{Begins}
use Rattle.group_model_whole.proofs.Eaches.{Each-get}
use Rattle.group_model_whole.proofs.Logs.{LegalFrom-at, LegalFrom-front}
use Rattle.group_messages.specs.Beginnings.{common}
use Rattle.group_model.proofs.Lists.{Each-front, Each-rest, get-split}

pub legal_of : (xs ys : List Entry) → Begins xs ys → Legal ys → Legal xs
legal_of xs ys b legal = LegalFrom-front [] xs b.rest (subst Legal (sym b.whole) legal)

pub asked_of : (P : Sealed → Type 0) (xs ys : List Entry) → Begins xs ys → InLog P ys → InLog P xs
asked_of P xs ys b asked = Each-front (λ e. P e.sealed) xs b.rest (subst (λ l. InLog P l) (sym b.whole) asked)

-- one number, one request
pub one_request : (requests : List Sealed) (s t : Sealed) → IsAsked requests s → IsAsked requests t → s.id ≡ t.id → s ≡ t
one_request requests s t asked asked' same =
    let other : submitted requests s.id ≡ Some t = subst (λ v. submitted requests v ≡ Some t) (sym same) asked' in
    cc

-- equal requests behind equal entries are equal entries
same_entry : (requests : List Sealed) (front : List Entry) (e f : Entry) → e ≡ decide front e.sealed → f ≡ decide front f.sealed → IsAsked requests e.sealed → IsAsked requests f.sealed → e.sealed.id ≡ f.sealed.id → e ≡ f
same_entry requests front e f decided decided' asked asked' same = decided ∙ ap (decide front) (one_request requests e.sealed f.sealed asked asked' same) ∙ sym decided'

pub same_next : (requests : List Sealed) (mine log : List Entry) → InLog (IsAsked requests) mine → InLog (IsAsked requests) log → (front last behind : List Entry) → front ++ last ≡ mine → front ++ behind ≡ log → SameNext last behind
same_next requests mine log asked asked' front last behind is is' =
    go last behind
    (Each-rest (λ e. IsAsked requests e.sealed) front last (subst (λ l. InLog (IsAsked requests) l) (sym is) asked))
    (Each-rest (λ e. IsAsked requests e.sealed) front behind (subst (λ l. InLog (IsAsked requests) l) (sym is') asked'))
  where
    go : (last behind : List Entry) → InLog (IsAsked requests) last → InLog (IsAsked requests) behind → SameNext last behind
    go [] behind a b = tt
    go (e ∷ es) [] a b = tt
    go (e ∷ es) (f ∷ fs) a b = λ same. one_request requests e.sealed f.sealed a.0 b.0 same

-- entries at one place, behind equal entries
pub same_at : (requests : List Sealed) (xs ys : List Entry) (k : ℕ) (e f : Entry) → Legal xs → Legal ys → InLog (IsAsked requests) xs → InLog (IsAsked requests) ys →
    slice_get xs k ≡ Some e → slice_get ys k ≡ Some f → take k xs ≡ take k ys → e.sealed.id ≡ f.sealed.id → e ≡ f
same_at requests xs ys k e f legal legal' asked asked' is is' fronts same =
    let decided : e ≡ decide (take k xs) e.sealed = LegalFrom-at [] (take k xs) e (drop (suc k) xs) (subst Legal (sym (get-split xs k e is)) legal) in
    let decided' : f ≡ decide (take k ys) f.sealed = LegalFrom-at [] (take k ys) f (drop (suc k) ys) (subst Legal (sym (get-split ys k f is')) legal') in
    same_entry requests (take k ys) e f (subst (λ l. e ≡ decide l e.sealed) fronts decided) decided'
    (Each-get (λ (v : Entry). IsAsked requests v.sealed) xs k e asked is)
    (Each-get (λ (v : Entry). IsAsked requests v.sealed) ys k f asked' is')
    same

same_leading_from : (requests : List Sealed) (before xs ys : List Entry) → LegalFrom before xs → LegalFrom before ys → InLog (IsAsked requests) xs → InLog (IsAsked requests) ys → take (common (ids xs) (ids ys)) xs ≡ take (common (ids xs) (ids ys)) ys
same_leading_from requests before [] ys legal legal' asked asked' = refl
same_leading_from requests before (x ∷ xs) [] legal legal' asked asked' = refl
same_leading_from requests before (x ∷ xs) (y ∷ ys) legal legal' asked asked' =
    go (x.sealed.id == y.sealed.id) refl (λ one. same_leading_from requests (before ++ y ∷ []) xs ys (subst (λ v. LegalFrom (before ++ v ∷ []) xs) one legal.2) legal'.2 asked.1 asked'.1)
  where
    go : (b : Bool) → (x.sealed.id == y.sealed.id) ≡ b → (x ≡ y → take (common (ids xs) (ids ys)) xs ≡ take (common (ids xs) (ids ys)) ys) → take (if b then suc (common (ids xs) (ids ys)) else 0) (x ∷ xs) ≡ take (if b then suc (common (ids xs) (ids ys)) else 0) (y ∷ ys)
    go false e rest = refl
    go true e rest =
        let one : x ≡ y = same_entry requests before x y legal.1 legal'.1 asked.0 asked'.0 (eqb-true x.sealed.id y.sealed.id e) in
        let more = rest one in
        (λ i. one i ∷ more i)

-- as many entries as leading numbers are the same
pub same_leading : (requests : List Sealed) (xs ys : List Entry) → Legal xs → Legal ys → InLog (IsAsked requests) xs → InLog (IsAsked requests) ys → take (common (ids xs) (ids ys)) xs ≡ take (common (ids xs) (ids ys)) ys
same_leading requests xs ys legal legal' asked asked' = same_leading_from requests [] xs ys legal legal' asked asked'

pub common_within : (xs ys : List Entry) → (common (ids xs) (ids ys) ≤ length xs) × (common (ids xs) (ids ys) ≤ length ys)
common_within [] ys = (omega arith, omega arith)
common_within (x ∷ xs) [] = (omega arith, omega arith)
common_within (x ∷ xs) (y ∷ ys) = go (x.sealed.id == y.sealed.id) (common_within xs ys)
  where
    go : (b : Bool) → (common (ids xs) (ids ys) ≤ length xs) × (common (ids xs) (ids ys) ≤ length ys) → ((if b then suc (common (ids xs) (ids ys)) else 0) ≤ length (x ∷ xs)) × ((if b then suc (common (ids xs) (ids ys)) else 0) ≤ length (y ∷ ys))
    go true rest = (omega (arith, rest.0), omega (arith, rest.1))
    go false rest = (omega arith, omega arith)

-- the numbers of the requests of a log, told in two pieces

ids-requests : (log : List Entry) → map (λ (s : Sealed). s.id) (requests_of log) ≡ ids log
ids-requests [] = refl
ids-requests (e ∷ log) = ap (λ l. e.sealed.id ∷ l) (ids-requests log)

ids-append : (xs ys : List Entry) → ids (xs ++ ys) ≡ ids xs ++ ids ys
ids-append [] ys = refl
ids-append (x ∷ xs) ys = ap (λ l. x.sealed.id ∷ l) (ids-append xs ys)

pub ids_in_pieces : (log : List Entry) (k : ℕ) → ids (take k log) ++ map (λ (s : Sealed). s.id) (part_of log k) ≡ ids log
ids_in_pieces log k = ap (λ l. ids (take k log) ++ l) (ids-requests (drop k log)) ∙ sym (ids-append (take k log) (drop k log)) ∙ ap ids (take-append-drop k log)
