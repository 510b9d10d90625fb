-- The log that a daemon had when it promised an interval: it is one log, and stays.
use Rattle.std.proofs.Common.{ℕ, ◌≡◌, ◌≤◌, ◌<◌, ◌-◌, List, length, take, refl, sym, ◌∙◌, ap, subst, arith, inl, inr, ◌⊎◌}
use Rattle.std.specs.Prelude.{Option, Some, None}
use Rattle.std.proofs.lemmas.Bool.{cases_eq}
use Rattle.std.proofs.lemmas.List.{length-take-le}
use Rattle.std.proofs.Math.Seq.{take-append_seam}
use Rattle.store_core.specs.declared.entry.Entry.{Entry}
use Rattle.group_model_whole.specs.Types.{Daemon}
use Rattle.group_model_whole.specs.History.{Begins, History, IsFront, IsSound, but_last, IsSettled}
use Rattle.group_model_whole.proofs.Prefixes.{Begins-trans, Begins-same, Begins-compare, Begins-nil, Begins-take}
use Rattle.group_model_whole.proofs.Histories.{decided_begins_chosen}
use Rattle.group_model_whole.proofs.Fronts.{but_last-begins, IsSettled-shorter}
use Rattle.group_model_whole.proofs.Invariant.{StateOk, Extends}
use Rattle.group_model.proofs.Agreeing.{Past}

-- it is one log
pub past_unique : (p : ℕ → ℕ) (h : History) (m n : ℕ) (xs ys : List Entry) → Past p h m n xs → Past p h m n ys → xs ≡ ys
past_unique p h m n xs ys a b =
    let low = b.most a.at (length xs) a.below a.held in
    let high = a.most b.at (length ys) b.below b.held in
    let same : a.at ≡ b.at = omega arith in
    let held : h.held m b.at ≡ Some (length xs) = subst (λ v. h.held m v ≡ Some (length xs)) same a.held in
    let held' = b.held in
    let long : length xs ≡ length ys = cc in
    Begins-same (subst (λ v. Begins xs (h.grown v)) same a.within) b.within long

-- a copy that promised the interval and did not install it has it still
pub past_of_state : (p : ℕ → ℕ) (z : ℕ) (sets : List (List ℕ)) (h : History) (d n : ℕ) (c : Daemon) → StateOk z sets p h d c → n ≤ c.promise → c.base < n → Past p h d n c.log
past_of_state p z sets h d n c state moved below = record {
  moved = omega (arith, state.promised);
  at = c.base;
  below = below;
  held = state.held;
  within = state.within;
  most = λ j k early held. state.held_below j k held;
}

module _ (sets : List (List ℕ)) (d : ℕ) (p : ℕ → ℕ) (h : History) (p' : ℕ → ℕ) (h' : History) (to : Extends sets d p h p' h') where
  frozen_at : (m j : ℕ) → j < p m → h'.held m j ≡ h.held m j
  frozen_at m j early = elim (cases_eq m d) [
    | inl same ↦ subst (λ v. h'.held v j ≡ h.held v j) (sym same) (to.frozen j (subst (λ v. j < p v) same early))
    | inr other ↦ (to.others m other).1 j
  ]

  pub Past-stays : (m n : ℕ) (log : List Entry) → Past p h m n log → Past p' h' m n log
  Past-stays m n log past = record {
    moved = omega (arith, past.moved, to.promises m);
    at = past.at;
    below = past.below;
    held = frozen_at m past.at (omega (arith, past.moved, past.below)) ∙ past.held;
    within = Begins-trans past.within (to.grows past.at);
    most = λ j k early held. past.most j k early (sym (frozen_at m j (omega (arith, past.moved))) ∙ held);
  }

  -- what was not chosen now was not chosen before
  pub unchosen_before : (n : ℕ) → h'.chosen n ≡ None → h.chosen n ≡ None
  unchosen_before n none = go (h.chosen n) refl
    where
      go : (found : Option (List Entry)) → h.chosen n ≡ found → h.chosen n ≡ None
      go None is = is
      go (Some log) is = (let now = (to.chosen n log is).0 in absurd (cc))

-- all but the last entry of it was decided
pub past_settled : (p : ℕ → ℕ) (z : ℕ) (sets : List (List ℕ)) (h : History) (m n : ℕ) (log : List Entry) → IsSound p z sets h → (past : Past p h m n log) → IsSettled sets h past.at (but_last log)
past_settled p z sets h m n log sound past = IsSettled-shorter sets h past.at (but_last log) (but_last (h.grown past.at)) (but_last-begins past.within) (sound.but_one past.at)

-- of two decided lists one begins the other
begins_of : (p : ℕ → ℕ) (z : ℕ) (sets : List (List ℕ)) (h : History) → IsSound p z sets h → (i j : ℕ) (es fs : List Entry) → IsFront sets h i es → IsFront sets h j fs → (Begins es fs) ⊎ (Begins fs es)
begins_of p z sets h sound i j es fs a b =
    let which : (a.at < b.at) ⊎ (b.at < a.at ⊎ a.at ≡ b.at) = grind arith in
    elim which [
      | inl lower ↦ compare (Begins-trans (early a b lower) (sound.grows b.at b.decided.log b.decided.begun)) b.begins
      | inr more ↦ (elim more [
        | inl upper ↦ compare a.begins (Begins-trans (early b a upper) (sound.grows a.at a.decided.log a.decided.begun))
        | inr same ↦ compare (subst (λ v. Begins es (h.grown v)) same a.begins) b.begins
      ])
    ]
  where
    compare : {whole : List Entry} {xs ys : List Entry} → Begins xs whole → Begins ys whole → (Begins xs ys) ⊎ (Begins ys xs)
    compare {whole} {xs} {ys} x y =
        let which : (length xs ≤ length ys) ⊎ (length ys ≤ length xs) = grind arith in
        elim which [ inl le ↦ inl (Begins-compare x y le) | inr le ↦ inr (Begins-compare y x le) ]

    early : {k l : ℕ} {xs ys : List Entry} (x : IsFront sets h k xs) (y : IsFront sets h l ys) → x.at < y.at → Begins xs y.decided.log
    early {k} {l} {xs} {ys} x y lower =
        let is : take (length xs) (h.grown x.at) ≡ xs = ap (λ l. take (length xs) l) (sym x.begins.whole) ∙ take-append_seam xs x.begins.rest in
        subst (λ l. Begins l y.decided.log) is (decided_begins_chosen p z sets h sound x.at y.at (length xs) y.decided.log x.decided lower y.decided.begun)

pub settled_compare : (p : ℕ → ℕ) (z : ℕ) (sets : List (List ℕ)) (h : History) → IsSound p z sets h → (i j : ℕ) (es fs : List Entry) → IsSettled sets h i es → IsSettled sets h j fs → (Begins es fs) ⊎ (Begins fs es)
settled_compare p z sets h sound i j es fs a b = elim a [
  | inl none ↦ inl (subst (λ l. Begins l fs) (sym none) (Begins-nil fs))
  | inr x ↦ (elim b [
    | inl none ↦ inr (subst (λ l. Begins l es) (sym none) (Begins-nil es))
    | inr y ↦ begins_of p z sets h sound i j es fs x y
  ])
]

-- two such logs are the same up to the last entry of the shorter
pub pasts_agree : (p : ℕ → ℕ) (z : ℕ) (sets : List (List ℕ)) (h : History) → IsSound p z sets h → (m m' n n' k : ℕ) (xs ys : List Entry) → Past p h m n xs → Past p h m' n' ys → k ≤ length xs - 1 → k ≤ length ys - 1 → take k xs ≡ take k ys
pasts_agree p z sets h sound m m' n n' k xs ys a b fits fits' =
    elim (settled_compare p z sets h sound a.at b.at (but_last xs) (but_last ys) (past_settled p z sets h m n xs sound a) (past_settled p z sets h m' n' ys sound b)) [
      | inl front ↦ Begins-same (Begins-trans (cut xs fits) front) (cut ys fits') (long xs (omega arith) ∙ sym (long ys (omega arith)))
      | inr front ↦ Begins-same (cut xs fits) (Begins-trans (cut ys fits') front) (long xs (omega arith) ∙ sym (long ys (omega arith)))
    ]
  where
    long : (l : List Entry) → k ≤ length l → length (take k l) ≡ k
    long l le = length-take-le k l le

    cut : (l : List Entry) → k ≤ length l - 1 → Begins (take k l) (but_last l)
    cut l le = Begins-compare (Begins-take k l) (Begins-take (length l - 1) l) (omega (arith, length-take-le k l (omega arith), length-take-le (length l - 1) l (omega arith)))
