-- What is decided in one interval begins the log of each later one.
use Rattle.std.proofs.Common.{ℕ, zero, suc, ◌≡◌, ◌≤◌, ◌<◌, List, length, take, Some, arith, inl, inr, ◌⊎◌}
use Rattle.store_core.specs.declared.entry.Entry.{Entry}
use Rattle.group_model_whole.specs.History.{Begins, History, IsDecided, IsOpened, IsSound}
use Rattle.group_model_whole.proofs.Prefixes.{Begins-trans, take-begins}

module _ (promise : ℕ → ℕ) (min_size : ℕ) (sets : List (List ℕ)) (h : History) (sound : IsSound promise min_size sets h) where
  -- at the basis: the witness holds no more of that interval's log than the chosen log has
  at_basis : (j n k : ℕ) (log : List Entry) → (o : IsOpened promise min_size sets h n (h.basis n) log) → (d : IsDecided sets h j k) →
      h.basis n ≤ j → j < n → Begins (take k (h.grown j)) log
  at_basis j n k log o d from_basis before =
      let opened_j = sound.opened j d.log d.later d.begun in
      let w = o.witness j d.later from_basis before opened_j.members in
      let held = d.by_all w.member w.is_member in
      let bound = w.most held.most held.is in
      let fits : k ≤ length log = omega (arith, held.enough, bound.1) in
      rw bound.0 (take-begins k o.within fits)

  kept_below : (fuel j n k : ℕ) (log : List Entry) → n ≤ fuel → IsDecided sets h j k → j < n → h.chosen n ≡ Some log → Begins (take k (h.grown j)) log
  kept_below zero j n k log small d before is = absurd (omega arith)
  kept_below (suc fuel) j n k log small d before is =
      let o : IsOpened promise min_size sets h n (h.basis n) log = sound.opened n log (omega arith) is in
      let where_is : (j < h.basis n) ⊎ (h.basis n ≤ j) = grind arith in
      elim where_is [
        | inl lower ↦ Begins-trans (kept_below fuel j (h.basis n) k o.source (omega (arith, o.below)) d lower o.source_is) o.begins
        | inr above ↦ at_basis j n k log o d above before
      ]

  -- what is decided begins every log that is chosen in a later interval
  pub decided_begins_chosen : (j n k : ℕ) (log : List Entry) → IsDecided sets h j k → j < n → h.chosen n ≡ Some log → Begins (take k (h.grown j)) log
  decided_begins_chosen j n k log d before is = kept_below n j n k log (omega arith) d before is

  pub decided_begins_grown : (j n k : ℕ) (log : List Entry) → IsDecided sets h j k → j < n → h.chosen n ≡ Some log → Begins (take k (h.grown j)) (h.grown n)
  decided_begins_grown j n k log d before is = Begins-trans (decided_begins_chosen j n k log d before is) (sound.grows n log is)
