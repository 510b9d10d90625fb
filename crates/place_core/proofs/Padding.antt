-- Members that zeros follow.
use Rattle.std.proofs.Common.{◌≡◌, ℕ, ◌+◌, ◌-◌, ◌<◌, ◌==◌, suc, false, List, ◌∷◌, ◌++◌, [], length, take, set, get_or, replicate, sym, ap, ◌∙◌, arith, append_assoc, length-take}
use Rattle.std.proofs.Math.Seq.{set-append_seam}
use Rattle.std.proofs.lemmas.List.{take_more, take_more_set, length-set}
use Rattle.std.specs.List.{list_any}
use Rattle.place_core.specs.declared.acting_sets.ActingSet.TheInside.{Inside}
use Rattle.place_core.specs.Distinct.{is_distinct}
use Rattle.place_core.specs.Inside.{members_of, IsPadded}
use Rattle.place_core.proofs.Distinct.{distinct_push}

-- one member more
pub padded_more : (members padded : List ℕ) (place : ℕ) → place < length members → place < 5 → padded ≡ take place members ++ replicate (5 - place) 0
    → set padded place (get_or members place 0) ≡ take (place + 1) members ++ replicate (5 - (place + 1)) 0
padded_more members padded place inside room so_far =
    let front : length (take place members) ≡ place = omega (arith, length-take place members) in
    let tail : 5 - place ≡ suc (5 - (place + 1)) = omega arith in
    let x = get_or members place 0 in
    let rest = replicate (5 - (place + 1)) 0 in
    ap (λ l. set l place x) (so_far ∙ ap (λ n. take place members ++ replicate n 0) tail)
    ∙ ap (λ n. set (take place members ++ 0 ∷ rest) n x) (sym front)
    ∙ set-append_seam (take place members) 0 rest x
    ∙ sym (append_assoc (take place members) (x ∷ []) rest)
    ∙ ap (λ l. l ++ rest) (sym (take_more members place 0 inside))

-- one member more at the end
pub padded_push : (a : Inside) (daemon : ℕ) → IsPadded a → length (members_of a) < 5 → list_any (λ d. d == daemon) (members_of a) ≡ false → IsPadded (record { members = set a.members a.len daemon; len = a.len + 1 })
padded_push a daemon h room new =
    let front : length (take a.len a.members) ≡ a.len = omega (arith, h.few, h.long, length-take a.len a.members) in
    let few : a.len < 5 = omega (arith, front, room) in
    let tail : 5 - a.len ≡ suc (5 - (a.len + 1)) = omega (arith, few) in
    let rest : List ℕ = replicate (5 - (a.len + 1)) 0 in
    let taken : take (a.len + 1) (set a.members a.len daemon) ≡ take a.len a.members ++ daemon ∷ [] = take_more_set a.members a.len daemon (omega (arith, few, h.long)) in
    let whole : set a.members a.len daemon ≡ (take a.len a.members ++ daemon ∷ []) ++ rest =
    ap (λ l. set l a.len daemon) (h.zeros ∙ ap (λ n. take a.len a.members ++ replicate n 0) tail)
    ∙ ap (λ n. set (take a.len a.members ++ 0 ∷ rest) n daemon) (sym front)
    ∙ set-append_seam (take a.len a.members) 0 rest daemon
    ∙ sym (append_assoc (take a.len a.members) (daemon ∷ []) rest) in
    record {
      long = length-set a.members a.len daemon ∙ h.long;
      few = omega (arith, few);
      zeros = whole ∙ ap (λ l. l ++ rest) (sym taken);
      once = ap is_distinct taken ∙ distinct_push (take a.len a.members) daemon h.once new;
    }
