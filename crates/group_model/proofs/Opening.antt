-- What was decided at the chosen copy's base or before begins the log that is about to be chosen.
use Rattle.std.proofs.Common.{ℕ, ◌≡◌, ◌≤◌, ◌<◌, List, length, take, sym, ◌∙◌, ap, subst, arith, inl, inr, ◌⊎◌}
use Rattle.std.proofs.Math.Seq.{take-append_seam}
use Rattle.store_core.specs.declared.entry.Entry.{Entry}
use Rattle.group_model_whole.specs.History.{Begins, History, IsSound, IsOpened, IsDecided, IsFront, but_last, IsSettled}
use Rattle.group_model_whole.proofs.Prefixes.{Begins-trans, Begins-nil, take-begins}
use Rattle.group_model_whole.proofs.Histories.{decided_begins_chosen}
use Rattle.group_model.proofs.Agreeing.{Past}
use Rattle.group_model.proofs.Pasts.{past_settled}

at_basis : (p : ℕ → ℕ) (z : ℕ) (sets : List (List ℕ)) (h : History) → IsSound p z sets h → (j n basis k : ℕ) (log : List Entry) → IsOpened p z sets h n basis log → IsDecided sets h j k → j ≡ basis → Begins (take k (h.grown j)) log
at_basis p z sets h sound j n basis k log o d same =
    let opened = sound.opened j d.log d.later d.begun in
    let w = o.witness j d.later (omega (arith, same)) (omega (arith, same, o.below)) opened.members in
    let held = d.by_all w.member w.is_member in
    let bound = w.most held.most held.is in
    subst (λ v. Begins (take k (h.grown v)) log) (sym same) (take-begins k o.within (omega (arith, held.enough, bound.1)))

pub settled_begins_opened : (p : ℕ → ℕ) (z : ℕ) (sets : List (List ℕ)) (h : History) → IsSound p z sets h → (j n basis : ℕ) (es log : List Entry) → IsOpened p z sets h n basis log → IsSettled sets h j es → j ≤ basis → Begins es log
settled_begins_opened p z sets h sound j n basis es log o ok upto = elim ok [
  | inl none ↦ subst (λ l. Begins l log) (sym none) (Begins-nil log)
  | inr f ↦ subst (λ l. Begins l log) (ap (λ l. take (length es) l) (sym f.begins.whole) ∙ take-append_seam es f.begins.rest) (go f)
]
  where
    go : (f : IsFront sets h j es) → Begins (take (length es) (h.grown f.at)) log
    go f =
        let which : (f.at < basis) ⊎ (basis ≤ f.at) = grind arith in
        elim which [
          | inl lower ↦ Begins-trans (decided_begins_chosen p z sets h sound f.at basis (length es) o.source f.decided lower o.source_is) o.begins
          | inr above ↦ at_basis p z sets h sound f.at n basis (length es) log o f.decided (omega (arith, f.upto))
        ]

-- all but the last entry of the primary's own log begins the log that it is about to choose
pub past_begins_opened : (p : ℕ → ℕ) (z : ℕ) (sets : List (List ℕ)) (h : History) (m n basis : ℕ) (mine log : List Entry) → IsSound p z sets h → (past : Past p h m n mine) → past.at ≤ basis → IsOpened p z sets h n basis log → Begins (but_last mine) log
past_begins_opened p z sets h m n basis mine log sound past upto o = settled_begins_opened p z sets h sound past.at n basis (but_last mine) log o (past_settled p z sets h m n mine sound past) upto
