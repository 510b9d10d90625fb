-- Lists that begin others.
use Rattle.std.proofs.Common.{ℕ, ◌≡◌, ◌≤◌, List, [], ◌∷◌, ◌++◌, length, take, drop, refl, sym, ◌∙◌, ap, arith, append_assoc, length-append}
use Rattle.std.proofs.lemmas.List.{take-append-le, take-append-drop, append-nil}
use Rattle.std.proofs.Math.Seq.{take-append_seam}
use Rattle.store_core.specs.declared.entry.Entry.{Entry}
use Rattle.group_model_whole.specs.History.{Begins}

pub Begins-refl : (xs : List Entry) → Begins xs xs
Begins-refl xs = record { rest = []; whole = append-nil xs }

pub Begins-nil : (xs : List Entry) → Begins [] xs
Begins-nil xs = record { rest = xs; whole = refl }

pub Begins-trans : {xs ys zs : List Entry} → Begins xs ys → Begins ys zs → Begins xs zs
Begins-trans {xs} a b = record { rest = a.rest ++ b.rest; whole = sym (append_assoc xs a.rest b.rest) ∙ ap (λ l. l ++ b.rest) a.whole ∙ b.whole }

pub Begins-take : (k : ℕ) (xs : List Entry) → Begins (take k xs) xs
Begins-take k xs = record { rest = drop k xs; whole = take-append-drop k xs }

pub Begins-push : (xs : List Entry) (x : Entry) → Begins xs (xs ++ x ∷ [])
Begins-push xs x = record { rest = x ∷ []; whole = refl }

-- k entries of the longer list, where the shorter has as many
pub take-begins : (k : ℕ) {xs ys : List Entry} → Begins xs ys → k ≤ length xs → Begins (take k ys) xs
take-begins k {xs} {ys} b fits =
    let same : take k ys ≡ take k xs = ap (λ l. take k l) (sym b.whole) ∙ take-append-le k xs b.rest fits in
    rw same (Begins-take k xs)

-- two beginnings of one list
pub Begins-compare : {xs ys zs : List Entry} → Begins xs zs → Begins ys zs → length xs ≤ length ys → Begins xs ys
Begins-compare {xs} {ys} {zs} a b shorter =
    let first : take (length xs) zs ≡ xs = ap (λ l. take (length xs) l) (sym a.whole) ∙ take-append_seam xs a.rest in
    rw first at (take-begins (length xs) b shorter)

pub Begins-length : {xs ys : List Entry} → Begins xs ys → length xs ≤ length ys
Begins-length {xs} b = omega (arith, length-append xs b.rest, ap length b.whole)

-- two beginnings of one list that are as long are one
pub Begins-same : {xs ys zs : List Entry} → Begins xs zs → Begins ys zs → length xs ≡ length ys → xs ≡ ys
Begins-same {xs} {ys} {zs} a b long =
    let first : take (length xs) zs ≡ xs = ap (λ l. take (length xs) l) (sym a.whole) ∙ take-append_seam xs a.rest in
    let second : take (length ys) zs ≡ ys = ap (λ l. take (length ys) l) (sym b.whole) ∙ take-append_seam ys b.rest in
    sym first ∙ ap (λ k. take k zs) long ∙ second
