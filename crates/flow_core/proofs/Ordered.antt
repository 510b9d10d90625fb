-- What was found, once it is put in order.
use Rattle.std.proofs.Common.{Result, Ok, Err, append-nil, ◌≡◌, ℕ, ◌<◌, ◌≤◌, List, [], ◌∷◌, ◌++◌, length, get_or, map, refl, sym, ap, subst, ◌∙◌, arith, nat_eq, Some, is_some}
use Rattle.std.specs.List.{Contains, IsDistinct}
use Rattle.std.specs.List.Sorted.{IsPermutation, IsSorted, IsStrictlyIncreasing}
use Rattle.std.specs.Map.{keys_of, lookup}
use Rattle.std.specs.Result.{IfOk}
use Rattle.std.specs.Prelude.{Vec}
use Rattle.std.specs.declared.alloc.Global.{Global}
use Rattle.std.specs.Ordering.{nat_cmp}
use Rattle.std.proofs.lemmas.List.Sorted.{Contains-permutation, IsNonDecreasingBy-from_sort, IsPermutation-map, IsPermutation-sym}
use Rattle.std.proofs.lemmas.Bool.{ne_eqb}
use Rattle.std.proofs.lemmas.Cmp.{nat_eq_equiv}
use Rattle.std.proofs.lemmas.List.{get_or-map, length-map}
use Rattle.std.proofs.lemmas.Map.Views.{lookup-from_Contains}
use Rattle.std.proofs.lemmas.Map.Keys.{IsDistinct-IsPermutation, IsDistinct-from_apart, IsStrictlyIncreasing-from_distinct, below_from_sorted, sorted_from_strictly_increasing}
use Rattle.flow_core.specs.declared.chains.Found.{Found}
use Rattle.flow_core.specs.Chains.{AreFound, IsShortest, IsStep, end_of}
use Rattle.flow_core.specs.Searching.{Entries, entry_of}
use Rattle.flow_core.proofs.Entries.{chain_at, found_listed, items_or_none, known_at, places_of}
use Rattle.flow_core.proofs.Searches.{IsSearchedWith, reached, shortest_at}

ends_of_entries : (listed : List Found) → places_of (map entry_of listed) ≡ map end_of listed
ends_of_entries [] = refl
ends_of_entries (one ∷ rest) = ap (λ l. one.end ∷ l) (ends_of_entries rest)

-- the ends are the places, in another order
ends_of_places : (found : Entries) (listed : List Found) → IsPermutation found (map entry_of listed) → IsPermutation (places_of found) (map end_of listed)
ends_of_places found listed same = subst (IsPermutation (places_of found)) (ends_of_entries listed) (IsPermutation-map (λ e. e.0) found (map entry_of listed) same)

-- numbers that rise differ
apart_rising : (xs : List ℕ) → IsStrictlyIncreasing xs → IsDistinct nat_eq xs
apart_rising xs rising =
    IsDistinct-from_apart nat_eq xs (λ i j d before inside.
    let below : get_or xs i d < get_or xs j d = below_from_sorted xs i j d (sorted_from_strictly_increasing xs rising) before inside in
    ne_eqb (get_or xs i d) (get_or xs j d) (λ same. omega arith))

-- places that are sorted and differ rise
pub rising_sorted : (found : Entries) (listed : List Found) → map entry_of listed ++ [] ≡ found → IsSorted nat_cmp (keys_of found) → IsDistinct nat_eq (keys_of found)
    → IsStrictlyIncreasing (map end_of listed)
rising_sorted found listed all sorted apart =
    subst IsStrictlyIncreasing (sym (ap places_of (sym (append-nil (map entry_of listed)) ∙ all)) ∙ ends_of_entries listed)
    (IsStrictlyIncreasing-from_distinct (keys_of found) (IsNonDecreasingBy-from_sort (λ n. n) (keys_of found) sorted) apart)

places_apart : (found : Entries) (listed : List Found) → IsPermutation found (map entry_of listed) → IsStrictlyIncreasing (map end_of listed) → IsDistinct nat_eq (places_of found)
places_apart found listed same rising =
    IsDistinct-IsPermutation nat_eq nat_eq_equiv.symm (map end_of listed) (places_of found) (IsPermutation-sym (places_of found) (map end_of listed) (ends_of_places found listed same))
    (apart_rising (map end_of listed) rising)

-- each that is listed is an entry
entry_listed : (found : Entries) (listed : List Found) (k : ℕ) (d : Found) → IsPermutation found (map entry_of listed) → k < length listed → Contains found (entry_of (get_or listed k d))
entry_listed found listed k d same inside =
    let one = get_or listed k d in
    Contains-permutation (map entry_of listed) found (entry_of one) (IsPermutation-sym found (map entry_of listed) same)
    (k, omega (arith, length-map listed entry_of), get_or-map entry_of listed k d (entry_of one) inside)

-- each that is listed has a shortest chain
listed_shortest : (steps : List (List ℕ)) (start : ℕ) (found : Entries) (next : ℕ) (one : Found) → length (places_of found) ≤ next → IsSearchedWith steps start found next
    → IsDistinct nat_eq (places_of found) → Contains found (entry_of one) → IsShortest (IsStep steps) start one.end one.chain.items
listed_shortest steps start found next one past is apart inside =
    let here : lookup (nat_eq one.end) found ≡ Some one.chain = lookup-from_Contains nat_eq_equiv one.end one.chain found apart inside in
    subst (IsShortest (IsStep steps) start one.end) (ap items_or_none here)
    (shortest_at steps start (chain_at found) (places_of found) next one.end past is (known_at found one.end is.known (ap is_some here)))

-- the queue is gone through, and what was found is listed in order
pub all_found : (steps : List (List ℕ)) (start : ℕ) (found : Entries) (next : ℕ) (listed : List Found) → length (places_of found) ≤ next → IsSearchedWith steps start found next
    → IsStrictlyIncreasing (map end_of listed) → IsPermutation found (map entry_of listed) → AreFound steps start listed
all_found steps start found next listed past is rising same = record {
  rising = rising;
  shortest = λ k d inside.
      listed_shortest steps start found next (get_or listed k d) past is (places_apart found listed same rising) (entry_listed found listed k d same inside);
  others = λ end absent chain chains_to.
      absent (Contains-permutation (places_of found) (map end_of listed) end (ends_of_places found listed same)
      (found_listed found end (reached steps start (chain_at found) (places_of found) next end chain past is chains_to).0));
}

pub answer_found : {E : Type 0} (steps : List (List ℕ)) (start : ℕ) (found : Entries) (next : ℕ) (result : Result (Vec Found Global) E) → length (places_of found) ≤ next
    → IsSearchedWith steps start found next → IfOk result (λ listed. IsStrictlyIncreasing (map end_of listed.items)) → IfOk result (λ listed. IsPermutation found (map entry_of listed.items))
    → IfOk result (λ listed. AreFound steps start listed.items)
answer_found steps start found next (Ok listed) past is rising same = all_found steps start found next listed.items past is rising same
answer_found steps start found next (Err error) past is rising same = tt
