-- What is printed of each item of a list, one after another.
use Rattle.std.proofs.Common.{◌≡◌, ℕ, ◌+◌, ◌<◌, ◌≤◌, List, [], ◌∷◌, ◌++◌, Bool, true, false, ◌||◌, get_or, take, length, refl, sym, ap, subst, ◌∙◌, append_assoc}
use Rattle.std.proofs.lemmas.Grind.{take_at_read}
use Rattle.std.proofs.lemmas.List.{take_all}
use Rattle.verdict_text.specs.EachTold.{AreAllTold}

append_nil : (text : List ℕ) → text ++ [] ≡ text
append_nil [] = refl
append_nil (b ∷ bs) = ap (λ rest. b ∷ rest) (append_nil bs)

or_false : (a : Bool) → a ≡ (a || false)
or_false true = refl
or_false false = refl

or_assoc : (a b c : Bool) → ((a || b) || c) ≡ (a || (b || c))
or_assoc true b c = refl
or_assoc false b c = refl

told_step : {X : Type 0} (IsTold : X → List ℕ → Bool → Type 0) (items : List X) (item : X) (text front : List ℕ) (fails first : Bool)
    → AreAllTold IsTold items text fails → IsTold item front first → AreAllTold IsTold (items ++ item ∷ []) (text ++ front) (fails || first)
told_step IsTold [] item text front fails first so_far is = (
  front,
  [],
  first,
  false,
  is,
  (refl, refl),
  ap (λ t. t ++ front) so_far.0 ∙ sym (append_nil front),
  ap (λ f. f || first) so_far.1 ∙ or_false first,
)
told_step IsTold (e ∷ es) item text front fails first (head, rest, one, later, is_head, is_rest, parts, ends) is = (
  head,
  rest ++ front,
  one,
  later || first,
  is_head,
  told_step IsTold es item rest front later first is_rest is,
  ap (λ t. t ++ front) parts ∙ append_assoc head rest front,
  ap (λ f. f || first) ends ∙ or_assoc one later first,
)

-- one more item
pub next_told : {X : Type 0} (IsTold : X → List ℕ → Bool → Type 0) (items : List X) (i : ℕ) (item : X) (old new front : List ℕ) (fails ends first : Bool)
    → i < length items → item ≡ get_or items i item → AreAllTold IsTold (take i items) old fails → IsTold item front first
    → new ≡ old ++ front → ends ≡ (fails || first) → AreAllTold IsTold (take (i + 1) items) new ends
next_told IsTold items i item old new front fails ends first within at so_far is text same =
    let more : AreAllTold IsTold (take i items ++ item ∷ []) (old ++ front) (fails || first) =
    told_step IsTold (take i items) item old front fails first so_far is in
    let longer : AreAllTold IsTold (take (i + 1) items) (old ++ front) (fails || first) =
    subst (λ some. AreAllTold IsTold some (old ++ front) (fails || first)) (ap (λ e. take i items ++ e ∷ []) at ∙ sym ((take_at_read items i item within).1)) more in
    subst (λ t. AreAllTold IsTold (take (i + 1) items) t ends) (sym text)
    (subst (λ f. AreAllTold IsTold (take (i + 1) items) (old ++ front) f) (sym same) longer)

-- all items
pub told_whole : {X : Type 0} (IsTold : X → List ℕ → Bool → Type 0) (items : List X) (i : ℕ) (text : List ℕ) (fails : Bool) → length items ≤ i
    → AreAllTold IsTold (take i items) text fails → AreAllTold IsTold items text fails
told_whole IsTold items i text fails past so_far = subst (λ front. AreAllTold IsTold front text fails) (take_all i items past) so_far

false_or : (a : Bool) → (a || false) ≡ a
false_or true = refl
false_or false = refl

-- one item alone
pub told_one : {X : Type 0} (IsTold : X → List ℕ → Bool → Type 0) (item : X) (text : List ℕ) (fails : Bool) → AreAllTold IsTold (item ∷ []) text fails → IsTold item text fails
told_one IsTold item text fails (front, rest, first, later, is, nothing, parts, ends) =
    let same_text : text ≡ front = parts ∙ (ap (λ others. front ++ others) nothing.0 ∙ append_nil front) in
    let same_end : fails ≡ first = ends ∙ (ap (λ others. first || others) nothing.1 ∙ false_or first) in
    subst (λ t. IsTold item t fails) (sym same_text) (subst (λ f. IsTold item front f) (sym same_end) is)

-- what is printed of two lists, one behind the other
abbrev pub AreBothTold : {X : Type 0} → (X → List ℕ → Bool → Type 0) → List X → List X → List ℕ → Bool → Type 0
AreBothTold IsTold xs ys text fails =
    (front rest : List ℕ) × (first later : Bool) × AreAllTold IsTold xs front first × AreAllTold IsTold ys rest later
    × (text ≡ front ++ rest) × (fails ≡ (first || later))

behind : {X : Type 0} (IsTold : X → List ℕ → Bool → Type 0) (x : X) (xs ys : List X) (text front rest : List ℕ) (fails first later : Bool) → IsTold x front first
    → text ≡ front ++ rest → fails ≡ (first || later) → AreBothTold IsTold xs ys rest later → AreBothTold IsTold (x ∷ xs) ys text fails
behind IsTold x xs ys text front rest fails first later is parts ends (a, b, f, g, of_xs, of_ys, whole, ending) = (
  front ++ a,
  b,
  first || f,
  g,
  (front, a, first, f, is, of_xs, refl, refl),
  of_ys,
  parts ∙ (ap (λ others. front ++ others) whole ∙ sym (append_assoc front a b)),
  ends ∙ (ap (λ others. first || others) ending ∙ sym (or_assoc first f g)),
)

pub told_apart : {X : Type 0} (IsTold : X → List ℕ → Bool → Type 0) (xs ys : List X) (text : List ℕ) (fails : Bool) → AreAllTold IsTold (xs ++ ys) text fails → AreBothTold IsTold xs ys text fails
told_apart IsTold [] ys text fails told = ([], text, false, fails, (refl, refl), told, refl, refl)
told_apart IsTold (x ∷ xs) ys text fails (front, rest, first, later, is, others, parts, ends) =
    behind IsTold x xs ys text front rest fails first later is parts ends (told_apart IsTold xs ys rest later others)
