use Rattle.std.proofs.Common.{rules, ◌≡◌, ◌+◌, ◌<◌, ◌≤◌, ◌^◌, ◌↔◌, List, [], ◌∷◌, ◌++◌, ℕ, Bool, true, false, cond, min, IsTrue, length, fold, sym, ap, ◌∙◌, refl, arith, subst}
use Rattle.std.proofs.lemmas.Bool.Decides.{nat_tests}
use Rattle.std.proofs.Math.Nat.{min-le_right}
use Rattle.turn_lock.specs.declared.rule.Made.{Made}
use Rattle.tests_clusters.specs.declared.locks.Tally.{Tally}
use Rattle.tests_clusters.specs.declared.locks.Change.{Change}
use Rattle.tests_clusters.specs.declared.locks.Change.TheVariants.{Added, Idle, Looked}
use Rattle.turn_lock.specs.Turns.{entries, made, state_after}
use Rattle.tests_clusters.proofs.locks.add_idle_look.Goals as goal

abbrev last : ℕ
last = 18446744073709551615

abbrev changed : Tally → Change → Tally
changed t c = record { number = elim c [ Added k ↦ t.number + k | Idle ↦ t.number | Looked ↦ t.number ]; turns = min (t.turns + 1) last }

abbrev zero_tally : Tally
zero_tally = record { number = 0; turns = 0 }

-- below the last number the turns are counted
one_more : (n : ℕ) → n ≤ last → min (n + 1) last < last → min (n + 1) last ≡ n + 1
one_more n le lt = grind (arith, nat_tests)

counts : (t : Tally) (cs : List Change) → t.turns ≤ last → (fold changed t cs).turns < last → (fold changed t cs).turns ≡ t.turns + length cs
counts t [] le lt = omega arith
counts t (c ∷ cs) le lt =
    let rest = counts (changed t c) cs (min-le_right (t.turns + 1) last) lt in
    let one = one_more t.turns le (omega arith) in
    omega arith

one_change : (cs : List Change) → (fold changed zero_tally cs).turns ≡ 1 → (fold changed zero_tally cs).number ≡ 5 → cs ≡ Added 5 ∷ []
one_change [] turns number = absurd (omega arith)
one_change (Added k ∷ []) turns number = let is : k ≡ 5 = omega arith in ap (λ n. Added n ∷ []) is
one_change (Idle ∷ []) turns number = absurd (omega arith)
one_change (Looked ∷ []) turns number = absurd (omega arith)
one_change (c ∷ d ∷ cs) turns number = let n = counts zero_tally (c ∷ d ∷ cs) (omega arith) (omega arith) in absurd (omega arith)

entries-append : (xs ys : List (Made Change)) → entries (xs ++ ys) ≡ entries xs ++ entries ys
entries-append [] ys = refl
entries-append (x ∷ xs) ys = ap (λ l. x.entry ∷ l) (entries-append xs ys)

none_left : (cs : List Change) → length cs ≡ 0 → cs ≡ []
none_left [] is = refl
none_left (c ∷ cs) is = absurd (omega arith)

refused : (did : Bool) (k : ℕ) (found : Tally) → found.number ≡ 5 → (IsTrue did ↔ (found.number + last < 2 ^ 64)) → cond did (Added k) Idle ≡ Idle
refused true k found five told = let fits : found.number + last < 2 ^ 64 = told.0 refl in absurd (omega arith)
refused false k found five told = refl

-- what one seat found says which list it has seen
row : (zero one two : List (Made Change)) (n n' k : ℕ) (did : Bool) (found found' : Tally)
    → one ≡ zero ++ made n (cond did (Added k) Idle) ∷ []
    → found ≡ state_after changed zero_tally zero → found.number ≡ 5 → found.turns ≡ 1 → (IsTrue did ↔ (found.number + last < 2 ^ 64))
    → found' ≡ state_after changed zero_tally (one ++ two) → found'.turns ≡ 2
    → entries ((one ++ two) ++ made n' Looked ∷ []) ≡ Added 5 ∷ Idle ∷ Looked ∷ []
row zero one two n n' k did found found' one_is found_is number turns told found_is' turns' =
    let first : entries zero ≡ Added 5 ∷ [] = one_change (entries zero) (ap (λ (t : Tally). t.turns) (sym found_is) ∙ turns) (ap (λ (t : Tally). t.number) (sym found_is) ∙ number) in
    let second : entries one ≡ Added 5 ∷ Idle ∷ [] = ap entries one_is ∙ (entries-append zero (made n (cond did (Added k) Idle) ∷ []) ∙ (ap (λ l. l ++ cond did (Added k) Idle ∷ []) first ∙ ap (λ c. Added 5 ∷ c ∷ []) (refused did k found number told))) in
    let both : entries (one ++ two) ≡ Added 5 ∷ Idle ∷ entries two = entries-append one two ∙ ap (λ l. l ++ entries two) second in
    let turns_are : (fold changed zero_tally (Added 5 ∷ Idle ∷ entries two)).turns ≡ 2 = ap (λ l. (fold changed zero_tally l).turns) (sym both) ∙ (ap (λ (t : Tally). t.turns) (sym found_is') ∙ turns') in
    let count = counts zero_tally (Added 5 ∷ Idle ∷ entries two) (omega arith) (omega arith) in
    let none : entries two ≡ [] = none_left (entries two) (omega arith) in
    entries-append (one ++ two) (made n' Looked ∷ []) ∙ ap (λ l. l ++ Looked ∷ []) (both ∙ ap (λ l. Added 5 ∷ Idle ∷ l) none)

pub returns-clause-list : goal.returns-clause-list
returns-clause-list g c =
    let once = c.turn.ensures.turned in
    let then = c.turn-found.ensures.turned in
    let zero : List (Made Change) = c.args.one.now.seen ++ once.between in
    let all : List (Made Change) = c.turn.new.seat.seen ++ then.between in
    ap entries then.seen_is ∙ row zero c.turn.new.seat.seen then.between _ _ last c.turn.result.0 c.turn.result.1 c.turn-found.result once.seen_is
    (once.told.0 ∙ ap (λ (t : Tally). state_after changed t zero) c.requires.first) (search rules) (search rules)
    (subst (λ (t : Tally). IsTrue c.turn.result.0 ↔ (t.number + last < 2 ^ 64)) (sym once.told.0) once.told.1)
    (then.told ∙ ap (λ (t : Tally). state_after changed t all) c.requires.first) (search rules)
