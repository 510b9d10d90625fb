-- What is reported of all readers, where only those that were found are reported.
use Rattle.std.proofs.Common.{◌≡◌, ℕ, zero, suc, ◌-◌, ◌<◌, ◌≤◌, ◌⊎◌, List, [], ◌∷◌, ◌++◌, Bool, true, false, ◌||◌, Option, Some, append-nil, get_or, slice_get, take, length, map, refl, sym, ap, subst, ◌∙◌, inl, inr, arith, length-append}
use Rattle.std.proofs.Math.Seq.{take-append_seam}
use Rattle.std.proofs.lemmas.Bool.{cases_eq, cases_lt}
use Rattle.std.proofs.lemmas.Grind.{get_or_default_zero}
use Rattle.std.proofs.lemmas.List.{get_or-map, length-map}
use Rattle.std.proofs.lemmas.Map.Keys.{below_from_sorted, sorted_from_strictly_increasing}
use Rattle.std.proofs.lemmas.Option.{get_or_from_slice_get, slice_get-get_or, slice_get_within}
use Rattle.flow_core.specs.Chains.{AreFound, AreSteps, IsChain, IsShortest, IsStep, end_of}
use Rattle.flow_core.specs.declared.chains.Found.{Found}
use Rattle.flow_core.proofs.Walks.{chain_for, no_empty_chain, shortest_for}
use Rattle.share_core.specs.declared.pools.Pool.{Pool}
use Rattle.share_text.specs.FlowLines.{IsChainTold, IsFoundTold, IsWriterTold}
use Rattle.share_text.specs.Flows.{AreReaders, AreReachesTold, IsFlowTold, IsPlaceTold, OfEach, WritesTo, flow_line}
use Rattle.share_text.specs.declared.detail.Detail.{Detail}
use Rattle.share_text.specs.declared.tenants.Tenant.{Tenant}
use Rattle.share_text.proofs.Reaching.{each_for}

-- all but the last place of a chain
front_of : (chain front : List ℕ) (end : ℕ) → chain ≡ front ++ end ∷ [] → take (length chain - 1) chain ≡ front
front_of chain front end is =
    let long : length chain - 1 ≡ length front = omega (arith, ap length is, length-append front (end ∷ [])) in
    ap (λ n. take n chain) long ∙ (ap (take (length front)) is ∙ take-append_seam front (end ∷ []))

nothing_told : (detail : Detail) (pools : Option (List Pool)) (check : Bool) (tenants : List Tenant) (writer reader : ℕ) (text : List ℕ) (fails : Bool) → (writer ≡ reader) ⊎ (writer ≡ reader → ⊥)
    → ((chain : List ℕ) → ¬ IsChain (WritesTo pools tenants) writer reader chain) → text ≡ [] → fails ≡ false → IsPlaceTold detail pools check tenants writer reader text fails
nothing_told detail pools check tenants writer reader text fails (inl same) apart empty ends = inr (same, empty, ends)
nothing_told detail pools check tenants writer reader text fails (inr other) apart empty ends = inl (other, inr (apart, empty, ends))

line_told : (detail : Detail) (pools : Option (List Pool)) (check : Bool) (tenants : List Tenant) (writer reader : ℕ) (chain : List ℕ) (text : List ℕ) (fails : Bool) → (chain ≡ [] → ⊥)
    → IsShortest (WritesTo pools tenants) writer reader chain → text ≡ flow_line detail tenants writer reader (take (length chain - 1) chain) → fails ≡ check
    → IsFlowTold detail pools check tenants writer reader text fails
line_told detail pools check tenants writer reader [] text fails some found is ends = absurd (some refl)
line_told detail pools check tenants writer reader (place ∷ rest) text fails some found is ends =
    let front = found.is.ends.0 in
    let whole : place ∷ rest ≡ front ++ reader ∷ [] = found.is.ends.1 in
    inl (front, subst (IsShortest (WritesTo pools tenants) writer reader) whole found, is ∙ ap (flow_line detail tenants writer reader) (front_of (place ∷ rest) front reader whole), ends)

place_told : (detail : Detail) (pools : Option (List Pool)) (check : Bool) (tenants : List Tenant) (writer reader : ℕ) (chain : List ℕ) (text : List ℕ) (fails : Bool)
    → IsShortest (WritesTo pools tenants) writer reader chain → IsChainTold detail check tenants writer reader chain text fails → IsPlaceTold detail pools check tenants writer reader text fails
place_told detail pools check tenants writer reader chain text fails found (inl (other, some, is, ends)) =
    inl (other, line_told detail pools check tenants writer reader chain text fails some found is ends)
place_told detail pools check tenants writer reader chain text fails found (inr (inl same, empty, ends)) = inr (same, empty, ends)
place_told detail pools check tenants writer reader chain text fails found (inr (inr none, empty, ends)) =
    absurd (no_empty_chain (WritesTo pools tenants) writer reader (subst (IsChain (WritesTo pools tenants) writer reader) none found.is))

-- a place of which nothing is reported adds nothing

or_false : (fails : Bool) → fails ≡ (fails || false)
or_false true = refl
or_false false = refl

one_silent : (IsTold : ℕ → List ℕ → Bool → Type 0) (n : ℕ) (text : List ℕ) (fails : Bool) → IsTold n [] false → OfEach IsTold n text fails → OfEach IsTold (suc n) text fails
one_silent IsTold n text fails silent before = (text, [], fails, false, before, silent, sym (append-nil text), or_false fails)

-- Of the `count` places at which chains were found, exactly the first `m` are below `n`.
record AreBelow (place_of : ℕ → ℕ) (count m n : ℕ) : Type 0 where
  pub within : m ≤ count
  pub below : (k : ℕ) → k < m → place_of k < n
  pub above : (k : ℕ) → m ≤ k → k < count → n ≤ place_of k

abbrev Rise : (ℕ → ℕ) → ℕ → Type 0
Rise place_of count = (i j : ℕ) → i < j → j < count → place_of i < place_of j

none_below : (place_of : ℕ → ℕ) (count n : ℕ) → AreBelow place_of count 0 (suc n) → AreBelow place_of count 0 n
none_below place_of count n are = record {
  within = omega arith;
  below = λ k inside. absurd (omega arith);
  above = λ k from inside. omega (arith, are.above k from inside);
}

above_last : (place_of : ℕ → ℕ) (count m n k : ℕ) → AreBelow place_of count (suc m) (suc n) → n ≤ place_of m → m ≤ k → k < count → (k ≡ m) ⊎ (k ≡ m → ⊥) → n ≤ place_of k
above_last place_of count m n k are at from inside (inl same) = omega (arith, ap place_of same)
above_last place_of count m n k are at from inside (inr other) = let past : suc m ≤ k = omega arith in omega (arith, are.above k past inside)

-- the last of those below is the last place below
last_off : (place_of : ℕ → ℕ) (count m n : ℕ) → Rise place_of count → n ≤ place_of m → AreBelow place_of count (suc m) (suc n) → AreBelow place_of count m n
last_off place_of count m n rise at are = record {
  within = omega (arith, are.within);
  below = λ k inside. omega (arith, rise k m inside (omega (arith, are.within)), are.below m (omega arith));
  above = λ k from inside. above_last place_of count m n k are at from inside (cases_eq k m);
}

below_last : (place_of : ℕ → ℕ) (count m n k : ℕ) → Rise place_of count → place_of m < n → suc m ≤ count → k < suc m → (k ≡ m) ⊎ (k ≡ m → ⊥) → place_of k < n
below_last place_of count m n k rise below within inside (inl same) = omega (arith, ap place_of same)
below_last place_of count m n k rise below within inside (inr other) = let before : k < m = omega arith in omega (arith, rise k m before (omega arith))

-- nothing was found at the last place below
none_at : (place_of : ℕ → ℕ) (count m n : ℕ) → Rise place_of count → place_of m < n → AreBelow place_of count (suc m) (suc n) → AreBelow place_of count (suc m) n
none_at place_of count m n rise below are = record {
  within = are.within;
  below = λ k inside. below_last place_of count m n k rise below are.within inside (cases_eq k m);
  above = λ k from inside. omega (arith, are.above k from inside);
}

elsewhere : (place_of : ℕ → ℕ) (count m n k : ℕ) → AreBelow place_of count m n → AreBelow place_of count m (suc n) → k < count → (k < m) ⊎ (m ≤ k) → place_of k ≡ n → ⊥
elsewhere place_of count m n k one other inside (inl before) same = let low : place_of k < n = one.below k before in omega arith
elsewhere place_of count m n k one other inside (inr past) same = let high : suc n ≤ place_of k = other.above k past inside in omega arith

-- what is reported of those that were found is what is reported at their places, and nothing is reported at others
record AreSpread (IsTold FoundTold : ℕ → List ℕ → Bool → Type 0) (place_of : ℕ → ℕ) (count : ℕ) : Type 0 where
  pub rise : Rise place_of count
  pub told : (k : ℕ) (text : List ℕ) (fails : Bool) → k < count → FoundTold k text fails → IsTold (place_of k) text fails
  pub silent : (place : ℕ) → ((k : ℕ) → k < count → place_of k ≡ place → ⊥) → IsTold place [] false

-- what is reported of the places below is that of the places before the last one, then that of the last one
told_to_last : (IsTold FoundTold : ℕ → List ℕ → Bool → Type 0) (place_of : ℕ → ℕ) (count n m : ℕ) (text : List ℕ) (fails : Bool) → AreSpread IsTold FoundTold place_of count
    → ((k : ℕ) (text : List ℕ) (fails : Bool) → AreBelow place_of count k n → OfEach FoundTold k text fails → OfEach IsTold n text fails)
    → AreBelow place_of count (suc m) (suc n) → (place_of m < n) ⊎ (n ≤ place_of m) → OfEach FoundTold (suc m) text fails → OfEach IsTold (suc n) text fails
told_to_last IsTold FoundTold place_of count n m text fails spread before are (inl below) all =
    let low : AreBelow place_of count (suc m) n = none_at place_of count m n spread.rise below are in
    one_silent IsTold n text fails (spread.silent n (λ k inside. elsewhere place_of count (suc m) n k low are inside (cases_lt k (suc m)))) (before (suc m) text fails low all)
told_to_last IsTold FoundTold place_of count n m text fails spread before are (inr at) (front, rest, first, later, earlier, here, is, ends) =
    let same : place_of m ≡ n = omega (arith, are.below m (omega arith)) in (
      front,
      rest,
      first,
      later,
      before m front first (last_off place_of count m n spread.rise at are) earlier,
      subst (λ place. IsTold place rest later) same (spread.told m rest later (omega (arith, are.within)) here),
      is,
      ends,
    )

all_told : (IsTold FoundTold : ℕ → List ℕ → Bool → Type 0) (place_of : ℕ → ℕ) (count n m : ℕ) (text : List ℕ) (fails : Bool) → AreSpread IsTold FoundTold place_of count
    → AreBelow place_of count m n → OfEach FoundTold m text fails → OfEach IsTold n text fails
all_told IsTold FoundTold place_of count zero zero text fails spread are told = told
all_told IsTold FoundTold place_of count zero (suc m) text fails spread are told = let none : place_of 0 < 0 = are.below 0 (omega arith) in absurd (omega arith)
all_told IsTold FoundTold place_of count (suc n) zero text fails spread are told =
    let before : AreBelow place_of count 0 n = none_below place_of count n are in
    one_silent IsTold n text fails (spread.silent n (λ k inside. elsewhere place_of count 0 n k before are inside (inr (omega arith))))
    (all_told IsTold FoundTold place_of count n zero text fails spread before told)
all_told IsTold FoundTold place_of count (suc n) (suc m) text fails spread are told =
    told_to_last IsTold FoundTold place_of count n m text fails spread (λ k t f below. all_told IsTold FoundTold place_of count n k t f spread below) are (cases_lt (place_of m) n) told

-- a chain ends at a place to which there is a step
last_step : (Step : ℕ → ℕ → Type 0) (start : ℕ) (walk : List ℕ) (end : ℕ) → AreSteps Step start (walk ++ end ∷ []) → (before : ℕ) × Step before end
last_step Step start [] end steps = (start, steps.0)
last_step Step start (place ∷ rest) end steps = last_step Step place rest end steps.1

end_exists : (pools : Option (List Pool)) (tenants : List Tenant) (start end : ℕ) (chain : List ℕ) → IsChain (WritesTo pools tenants) start end chain → end < length tenants
end_exists pools tenants start end chain is =
    let last : (before : ℕ) × WritesTo pools tenants before end = last_step (WritesTo pools tenants) start is.ends.0 end (subst (AreSteps (WritesTo pools tenants) start) is.ends.1 is.steps) in
    last.1.1

-- where the chains that were found end
abbrev end_at : List Found → ℕ → ℕ
end_at found k = get_or (map end_of found) k 0

end_is : (found : List Found) (k : ℕ) (one : Found) → slice_get found k ≡ Some one → end_at found k ≡ one.end
end_is found k one at = get_or-map end_of found k one 0 (slice_get_within found k one at) ∙ ap end_of (get_or_from_slice_get found k one one at)

-- what was found, by what the one tenant writes and the other reads
record AreFoundFor (pools : Option (List Pool)) (tenants : List Tenant) (writer : ℕ) (found : List Found) : Type 0 where
  pub rise : Rise (end_at found) (length found)
  pub shortest : (k : ℕ) (one : Found) → slice_get found k ≡ Some one → IsShortest (WritesTo pools tenants) writer one.end one.chain.items
  pub others : (place : ℕ) → ((k : ℕ) → k < length found → end_at found k ≡ place → ⊥) → (chain : List ℕ) → ¬ IsChain (WritesTo pools tenants) writer place chain

found_for : (pools : Option (List Pool)) (tenants : List Tenant) (steps : List (List ℕ)) (writer : ℕ) (found : List Found) → AreReaders pools tenants steps → AreFound steps writer found
    → AreFoundFor pools tenants writer found
found_for pools tenants steps writer found readers are = record {
  rise = λ i j before inside. below_from_sorted (map end_of found) i j 0 (sorted_from_strictly_increasing (map end_of found) are.rising) before (omega (arith, length-map found end_of));
  shortest = λ k one at.
      shortest_for (IsStep steps) (WritesTo pools tenants) (λ one other. (readers.each one other).0) (λ one other. (readers.each one other).1) writer one.end one.chain.items
      (subst (λ (one : Found). IsShortest (IsStep steps) writer one.end one.chain.items) (get_or_from_slice_get found k one one at) (are.shortest k one (slice_get_within found k one at)));
  others = λ place none chain is.
      are.others place
      (λ h. none h.0 (omega (arith, h.1, length-map found end_of)) (sym (get_or_default_zero (map end_of found) h.0 place h.1) ∙ h.2))
      chain (chain_for (WritesTo pools tenants) (IsStep steps) (λ one other. (readers.each one other).1) writer place chain is);
}

found_told : (detail : Detail) (pools : Option (List Pool)) (check : Bool) (tenants : List Tenant) (writer : ℕ) (found : List Found) (k : ℕ) (text : List ℕ) (fails : Bool) → AreFoundFor pools tenants writer found
    → IsFoundTold detail check tenants writer found k text fails → IsPlaceTold detail pools check tenants writer (end_at found k) text fails
found_told detail pools check tenants writer found k text fails are (one, at, told) =
    subst (λ place. IsPlaceTold detail pools check tenants writer place text fails) (sym (end_is found k one at))
    (place_told detail pools check tenants writer one.end one.chain.items text fails (are.shortest k one at) told)

there : (found : List Found) (k : ℕ) → k < length found → (one : Found) × (slice_get found k ≡ Some one)
there [] k inside = absurd (omega arith)
there (one ∷ rest) k inside = (get_or (one ∷ rest) k one, slice_get-get_or (one ∷ rest) k one inside)

end_below : (pools : Option (List Pool)) (tenants : List Tenant) (writer : ℕ) (found : List Found) (k : ℕ) → AreFoundFor pools tenants writer found
    → (one : Found) × (slice_get found k ≡ Some one) → end_at found k < length tenants
end_below pools tenants writer found k are (one, at) =
    subst (λ place. place < length tenants) (sym (end_is found k one at)) (end_exists pools tenants writer one.end one.chain.items (are.shortest k one at).is)

writer_told : (detail : Detail) (pools : Option (List Pool)) (check : Bool) (tenants : List Tenant) (steps : List (List ℕ)) (writer : ℕ) (text : List ℕ) (fails : Bool)
    → AreReaders pools tenants steps → IsWriterTold detail check tenants steps writer text fails → OfEach (IsPlaceTold detail pools check tenants writer) (length tenants) text fails
writer_told detail pools check tenants steps writer text fails readers (found, are, told) =
    let all : AreFoundFor pools tenants writer found = found_for pools tenants steps writer found readers are in
    all_told (IsPlaceTold detail pools check tenants writer) (IsFoundTold detail check tenants writer found) (end_at found) (length found) (length tenants) (length found) text fails
    (record {
      rise = all.rise;
      told = λ k t f inside here. found_told detail pools check tenants writer found k t f all here;
      silent = λ place none. nothing_told detail pools check tenants writer place [] false (cases_eq writer place) (all.others place none) refl refl;
    })
    (record {
      within = omega arith;
      below = λ k inside. end_below pools tenants writer found k all (there found k inside);
      above = λ k from inside. absurd (omega arith);
    })
    told

pub writers_told : (detail : Detail) (pools : Option (List Pool)) (check : Bool) (tenants : List Tenant) (steps : List (List ℕ)) (text : List ℕ) (fails : Bool)
    → AreReaders pools tenants steps → OfEach (IsWriterTold detail check tenants steps) (length steps) text fails → AreReachesTold detail pools check tenants text fails
writers_told detail pools check tenants steps text fails readers told =
    subst (λ n. OfEach (λ writer. OfEach (IsPlaceTold detail pools check tenants writer) (length tenants)) n text fails) readers.size
    (each_for (IsWriterTold detail check tenants steps) (λ writer. OfEach (IsPlaceTold detail pools check tenants writer) (length tenants)) (length steps)
    (λ writer t f below here. writer_told detail pools check tenants steps writer t f readers here) text fails told)

pub slices_told : {X : Type 0} (f : X → List ℕ) (detail : Detail) (pools : Option (List Pool)) (check : Bool) (tenants one two : List Tenant) (steps three : List X) (text : List ℕ) (fails : Bool)
    → one ≡ tenants → two ≡ tenants → three ≡ steps → AreReaders pools one (map f steps) → OfEach (IsWriterTold detail check two (map f three)) (length three) text fails
    → AreReachesTold detail pools check tenants text fails
slices_told f detail pools check tenants one two steps three text fails same also are readers told =
    let all : OfEach (IsWriterTold detail check tenants (map f steps)) (length steps) text fails =
    subst (λ t. OfEach (IsWriterTold detail check t (map f steps)) (length steps) text fails) also
    (subst (λ s. OfEach (IsWriterTold detail check two (map f s)) (length s) text fails) are told) in
    writers_told detail pools check tenants (map f steps) text fails (subst (λ t. AreReaders pools t (map f steps)) same readers)
    (subst (λ n. OfEach (IsWriterTold detail check tenants (map f steps)) n text fails) (sym (length-map steps f)) all)
