-- Entries that are decided in an interval or before it.
use Rattle.std.proofs.Common.{ℕ, ◌≡◌, ◌≤◌, ◌<◌, ◌-◌, List, [], ◌∷◌, length, take, refl, sym, ◌∙◌, ap, subst, arith, inl, inr}
use Rattle.std.specs.Prelude.{Some}
use Rattle.std.proofs.lemmas.List.{length-take-le}
use Rattle.std.proofs.Math.Seq.{take-append_seam}
use Rattle.store_core.specs.declared.entry.Entry.{Entry}
use Rattle.group_model_whole.specs.History.{Begins, History, IsDecided, IsSound, but_last, IsSettled}
use Rattle.group_model_whole.proofs.Prefixes.{Begins-trans, Begins-take, Begins-compare, Begins-nil, Begins-length}
use Rattle.group_model_whole.proofs.Histories.{decided_begins_chosen}

pub but_last-begins : {xs ys : List Entry} → Begins xs ys → Begins (but_last xs) (but_last ys)
but_last-begins {xs} {ys} b =
    let first = length-take-le (length xs - 1) xs (omega arith) in
    let second = length-take-le (length ys - 1) ys (omega arith) in
    let le = Begins-length b in
    Begins-compare (Begins-trans (Begins-take (length xs - 1) xs) b) (Begins-take (length ys - 1) ys) (omega arith)

Begins-none : {xs : List Entry} → Begins xs [] → xs ≡ []
Begins-none {xs} b = go xs (Begins-length b)
  where
    go : (l : List Entry) → length l ≤ 0 → l ≡ []
    go [] le = refl
    go (x ∷ l) le = absurd (omega arith)

pub IsDecided-fewer : (sets : List (List ℕ)) (h : History) (n k k' : ℕ) → k' ≤ k → IsDecided sets h n k → IsDecided sets h n k'
IsDecided-fewer sets h n k k' le d = record { log = d.log; begun = d.begun; later = d.later; by_all = λ m is. (let held = d.by_all m is in record { most = held.most; is = held.is; enough = omega (arith, held.enough) }) }

pub IsSettled-shorter : (sets : List (List ℕ)) (h : History) (n : ℕ) (xs es : List Entry) → Begins xs es → IsSettled sets h n es → IsSettled sets h n xs
IsSettled-shorter sets h n xs es b ok = elim ok [
  | inl none ↦ inl (Begins-none (subst (λ l. Begins xs l) none b))
  | inr f ↦ inr (record { at = f.at; upto = f.upto; begins = Begins-trans b f.begins; decided = IsDecided-fewer sets h f.at (length es) (length xs) (Begins-length b) f.decided })
]

pub IsSettled-later : (sets : List (List ℕ)) (h : History) (n n' : ℕ) (es : List Entry) → n ≤ n' → IsSettled sets h n es → IsSettled sets h n' es
IsSettled-later sets h n n' es le ok = elim ok [
  | inl none ↦ inl none
  | inr f ↦ inr (record { at = f.at; upto = omega (arith, f.upto); begins = f.begins; decided = f.decided })
]

-- such entries begin each log that is chosen later
pub settled_begins : (p : ℕ → ℕ) (z : ℕ) (sets : List (List ℕ)) (h : History) → IsSound p z sets h → (j n : ℕ) (es log : List Entry) → IsSettled sets h j es → j < n → h.chosen n ≡ Some log → Begins es log
settled_begins p z sets h sound j n es log ok before is = elim ok [
  | inl none ↦ subst (λ l. Begins l log) (sym none) (Begins-nil log)
  | inr f ↦ (
      let same : take (length es) (h.grown f.at) ≡ es = ap (λ l. take (length es) l) (sym f.begins.whole) ∙ take-append_seam es f.begins.rest in
      subst (λ l. Begins l log) same (decided_begins_chosen p z sets h sound f.at n (length es) log f.decided (omega (arith, f.upto)) is))
]
