-- Bytes laid over others, in place.
use Rattle.std.proofs.Common.{◌≡◌, ℕ, ◌+◌, ◌-◌, ◌<◌, ◌≤◌, List, ◌++◌, length, take, drop, replicate, max, sym, ap, ◌∙◌, arith, ⊎_elim, append_assoc}
use Rattle.std.proofs.lemmas.List.{append-nil, take_all, drop_all, drop-drop, take-append-le, take-replicate}
use Rattle.std.proofs.lemmas.Bool.{cases_lt}
use Rattle.std.proofs.Math.Seq.{take-append-add}
use Rattle.object_core.specs.Bytes.{resized, overwritten}
use Rattle.object_core.proofs.Lengths.{length-resized, length-overwritten}

-- a write to the part from one place to another
pub laid : (bytes more part : List ℕ) (offset end : ℕ) → end ≡ offset + length more → part ≡ more
    → take offset bytes ++ (part ++ drop (end - offset) (drop offset bytes)) ≡ take offset bytes ++ more ++ drop (offset + length more) bytes
laid bytes more part offset end e same =
    let n : offset + (end - offset) ≡ offset + length more = omega arith in
    sym (append_assoc (take offset bytes) part _) ∙ (λ k. take offset bytes ++ same k ++ drop (end - offset) (drop offset bytes)) ∙ ap (λ l. take offset bytes ++ more ++ l) (drop-drop (end - offset) offset bytes ∙ ap (λ m. drop m bytes) n)

-- a slice's bytes, written back to their vector
pub written_back : (items new : List ℕ) (n : ℕ) → n ≡ length items → length new ≡ length items → take n (new ++ drop (length new) items) ≡ new
written_back items new n e same =
    let within : n ≤ length new = omega arith in
    let all : length new ≤ n = omega arith in
    take-append-le n new _ within ∙ take_all n new all

-- nothing is added where there are enough
no_zeros : (bytes : List ℕ) (offset : ℕ) → offset ≤ length bytes → take offset bytes ≡ resized offset bytes
no_zeros bytes offset h =
    let none : offset - length bytes ≡ 0 = omega arith in
    sym (append-nil (take offset bytes)) ∙ ap (λ n. take offset bytes ++ replicate n 0) (sym none)

-- cutting what was extended
take-resized_few : (bytes : List ℕ) (offset size : ℕ) → length bytes ≤ size → offset ≤ length bytes → take offset (bytes ++ replicate (size - length bytes) 0) ≡ resized offset bytes
take-resized_few bytes offset size h few = take-append-le offset bytes _ few ∙ no_zeros bytes offset few

take-resized_many : (bytes : List ℕ) (offset size : ℕ) → length bytes ≤ size → offset ≤ size → length bytes ≤ offset → take offset (bytes ++ replicate (size - length bytes) 0) ≡ resized offset bytes
take-resized_many bytes offset size h le many =
    let split : offset ≡ length bytes + (offset - length bytes) = omega arith in
    let less : offset - length bytes ≤ size - length bytes = omega arith in
    ap (λ n. take n (bytes ++ replicate (size - length bytes) 0)) split ∙ take-append-add bytes (replicate (size - length bytes) 0) (offset - length bytes)
    ∙ ap (λ l. bytes ++ l) (take-replicate (offset - length bytes) (size - length bytes) 0 less) ∙ ap (λ l. l ++ replicate (offset - length bytes) 0) (sym (take_all offset bytes many))

take-resized : (bytes : List ℕ) (offset size : ℕ) → length bytes ≤ size → offset ≤ size → take offset (resized size bytes) ≡ resized offset bytes
take-resized bytes offset size h le =
    ap (λ l. take offset (l ++ replicate (size - length bytes) 0)) (take_all size bytes h)
    ∙ ⊎_elim (λ few. take-resized_few bytes offset size h (weaker few)) (λ many. take-resized_many bytes offset size h le many) (cases_lt offset (length bytes))
  where
    weaker : offset < length bytes → offset ≤ length bytes
    weaker few = omega arith

-- what lies past the end, where only zeros were added before it
drop-resized : (bytes : List ℕ) (end size : ℕ) → length bytes ≤ size → end ≤ size → (end < size → size ≡ length bytes) → drop end (resized size bytes) ≡ drop end bytes
drop-resized bytes end size h le just =
    ⊎_elim (λ less. ap (λ l. drop end l) (same (just less))) (λ all. drop_all end (resized size bytes) (past all) ∙ sym (drop_all end bytes (short all))) (cases_lt end size)
  where
    same : size ≡ length bytes → resized size bytes ≡ bytes
    same e =
        let none : size - length bytes ≡ 0 = omega arith in
        ap (λ n. take size bytes ++ replicate n 0) none ∙ append-nil (take size bytes) ∙ take_all size bytes h

    past : size ≤ end → length (resized size bytes) ≤ end
    past all = omega (arith, length-resized size bytes)

    short : size ≤ end → length bytes ≤ end
    short all = omega arith

-- the bytes are made as long as they must be, and the others are laid over them
pub overwritten_in : (old items new more : List ℕ) (offset size n : ℕ) → size ≡ max (length old) (offset + length more) → items ≡ resized size old → n ≡ length items
    → new ≡ take offset items ++ more ++ drop (offset + length more) items → take n (new ++ drop (length new) items) ≡ overwritten old offset more
overwritten_in old items new more offset size n s made e laid_over =
    let long : length old ≤ size = omega arith in
    let room : offset + length more ≤ size = omega arith in
    let start : offset ≤ size = omega arith in
    let just : offset + length more < size → size ≡ length old = λ (less : offset + length more < size). omega arith in
    let same : new ≡ overwritten old offset more = laid_over ∙ ap (λ l. take offset l ++ more ++ drop (offset + length more) l) made
    ∙ ap (λ l. l ++ more ++ drop (offset + length more) (resized size old)) (take-resized old offset size long start)
    ∙ ap (λ l. resized offset old ++ more ++ l) (drop-resized old (offset + length more) size long room just) in
    let many : length items ≡ size = ap length made ∙ length-resized size old in
    let lengths : length new ≡ length items = omega (arith, ap length same, length-overwritten old offset more) in
    written_back items new n e lengths ∙ same
