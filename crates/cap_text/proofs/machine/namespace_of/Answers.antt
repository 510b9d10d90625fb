use Rattle.std.proofs.Common.{◌≡◌, ◌-◌, ℕ, suc, ap, sym, ◌∙◌, List, length, get_or, Ok, subst}
use Rattle.cap_text.proofs.Stars.{is_exact, is_prefix, no_star_end, no_text, empty_of, some_of}
use Rattle.cap_text.proofs.machine.namespace_of.Goals.{then-is_empty-via-then-is_empty, then-is_empty-via-else-is_empty+then-bytes-ne42}
use Rattle.cap_text.proofs.machine.namespace_of.Goals as goal

pub returns-then-is_empty : goal.returns-then-is_empty
returns-then-is_empty c =
    let text = c.args.text.now in
    let name-is : text ≡ c.in_ok-name_of.field-0 = cc (c.in_ok-name_of.ensures) in
    let bytes = c.as_bytes-bytes.ensures.value in
    elim c.then-is_empty.branch [
      | then-is_empty-via-then-is_empty w ↦ ap Ok (is_exact text _ (no_text text (sym (ap length bytes) ∙ empty_of _ _ c.is_empty.ensures w.if-is_empty.true)) name-is)
      | then-is_empty-via-else-is_empty+then-bytes-ne42 w ↦ ap Ok (is_exact text _ (let P : List ℕ → Type 0 = λ b. (length b ≡ suc (length b - 1)) × ((get_or b (length b - 1) 0 ≡ 42) → ⊥) in let f : P text = subst P bytes (some_of _ _ c.is_empty.ensures w.if-is_empty.false, w.if-bytes-ne42.true) in no_star_end text (length text - 1) f.0 f.1) name-is)
    ]

pub returns : goal.returns
returns c =
    let text = c.args.text.now in
    let name-is : c.split_at.result.0.now ≡ c.in_ok-name_of-2.field-0 = cc (c.in_ok-name_of-2.ensures) in
    let bytes = c.as_bytes-bytes.ensures.value in
    let P : List ℕ → Type 0 = λ b. (length b ≡ suc (length b - 1)) × (get_or b (length b - 1) 0 ≡ 42) in
    let f : P text = subst P bytes (some_of _ _ c.is_empty.ensures c.if-is_empty.false, c.if-bytes-ne42.false) in
    ap Ok (is_prefix text _ (length text - 1) f.0 f.1 (sym c.split_at.ensures.front ∙ name-is))
