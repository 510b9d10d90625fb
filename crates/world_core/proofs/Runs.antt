-- Runs of entries.
use Rattle.std.proofs.Common.{◌≡◌, ◌∙◌, ℕ, ◌≤◌, ◌-◌, List, sym, ap, append-nil, length, take, drop, length-drop, []}
use Rattle.std.proofs.Math.Seq.{take-length}
use Rattle.store_core.specs.declared.entry.Entry.{Entry}
use Rattle.group_model_whole.specs.History.{Begins}

pub same_begins : (xs ys : List Entry) → xs ≡ ys → Begins xs ys
same_begins xs ys e = record { rest = []; whole = append-nil xs ∙ e }

pub all_of_it : (n : ℕ) (xs : List Entry) → n ≤ length xs → take (length xs - n) (drop n xs) ≡ drop n xs
all_of_it n xs h =
    let long : length (drop n xs) ≡ length xs - n = length-drop n xs in
    ap (λ k. take k (drop n xs)) (sym long) ∙ take-length (drop n xs)
