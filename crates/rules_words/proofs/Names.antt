-- The first fault of words, step by step.
use Rattle.std.proofs.Common.{◌≡◌, ℕ, ◌+◌, ◌<◌, ◌≤◌, true, false, List, ◌∷◌, ◌++◌, Option, None, Some, is_some, nat_lt, length, drop, get_or, refl, sym, ap, ◌∙◌, arith, length-append}
use Rattle.std.specs.Option.{option_or}
use Rattle.std.proofs.lemmas.Bool.Decides.{nat_tests}
use Rattle.std.proofs.lemmas.List.{drop_more}
use Rattle.rules_words.specs.Naming.{at, except_fault, excepted, fault_at, front, group_fault, group_name_fault, is_other, many_fault, name_fault, names_fault, names_of, place, rest, some_fault, who_fault}
use Rattle.rules_words.specs.declared.naming.Group.{Group}
use Rattle.rules_words.specs.declared.naming.NameFault.TheVariants.{TooManyNames}
use Rattle.rules_words.specs.declared.naming.NamesFault.{NamesFault}
use Rattle.rules_words.specs.declared.words.Word.{Word}

at_place : (xs : List Word) (i : ℕ) (x : Word) → i < length xs → x ≡ get_or xs i x → drop i xs ≡ x ∷ drop (i + 1) xs
at_place xs i x inside is = drop_more xs i x inside ∙ ap (λ y. y ∷ drop (i + 1) xs) (sym is)

or_found : (a b : Option NamesFault) → is_some a ≡ true → option_or a b ≡ a
or_found None b h = absurd cc
or_found (Some f) b h = refl

or_none : (a b : Option NamesFault) → is_some a ≡ false → option_or a b ≡ b
or_none None b h = refl
or_none (Some f) b h = absurd cc

-- a word that has a fault, behind others that have none
pub name_found : (words : List Word) (i : ℕ) (word : Word) (fault : Option NamesFault) → i < length words
    → word ≡ get_or words i word → fault ≡ fault_at word.at (name_fault word) → is_some fault ≡ true
    → names_fault words ≡ names_fault (drop i words) → fault ≡ names_fault words
name_found words i word fault inside is has some so_far =
    sym (so_far ∙ (ap names_fault (at_place words i word inside is)
    ∙ (ap (λ f. option_or f (names_fault (drop (i + 1) words))) (sym has)
    ∙ or_found fault (names_fault (drop (i + 1) words)) some)))

-- a word that has none
pub name_passed : (words : List Word) (i : ℕ) (word : Word) (fault : Option NamesFault) → i < length words
    → word ≡ get_or words i word → fault ≡ fault_at word.at (name_fault word) → is_some fault ≡ false
    → names_fault words ≡ names_fault (drop i words) → names_fault words ≡ names_fault (drop (i + 1) words)
name_passed words i word fault inside is has none so_far =
    so_far ∙ (ap names_fault (at_place words i word inside is)
    ∙ (ap (λ f. option_or f (names_fault (drop (i + 1) words))) (sym has)
    ∙ or_none fault (names_fault (drop (i + 1) words)) none))

-- ---- too many names

pub more_than : (names more all : List (List ℕ)) → names ++ more ≡ all → 4096 < length names → 4096 < length all
more_than names more all whole many = omega (arith, length-append names more, ap length whole)

pub are_few : (groups : List Group) (end : ℕ) (words : List Word) → length (names_of groups words) ≤ 4096
    → many_fault groups end words ≡ None
are_few groups end words few =
    let no : nat_lt 4096 (length (names_of groups words)) ≡ false = grind (arith, nat_tests) in
    rw no refl

pub are_too_many : (groups : List Group) (end : ℕ) (words : List Word) → 4096 < length (names_of groups words)
    → many_fault groups end words ≡ Some (at (place end words) TooManyNames)
are_too_many groups end words many =
    let yes : nat_lt 4096 (length (names_of groups words)) ≡ true = grind (arith, nat_tests) in
    rw yes refl

-- ---- whom words name

pub who_some : (groups : List Group) (end : ℕ) (words : List Word) (f : NamesFault)
    → some_fault (place end (rest is_other words)) (front is_other words) ≡ Some f → who_fault groups end words ≡ Some f
who_some groups end words f a = rw a refl

pub who_except : (groups : List Group) (end : ℕ) (words : List Word) (f : NamesFault)
    → some_fault (place end (rest is_other words)) (front is_other words) ≡ None
    → except_fault end (rest is_other words) ≡ Some f
    → who_fault groups end words ≡ Some f
who_except groups end words f a b = rw (a, b) refl

pub who_many : (groups : List Group) (end : ℕ) (words : List Word) (f : NamesFault)
    → some_fault (place end (rest is_other words)) (front is_other words) ≡ None
    → except_fault end (rest is_other words) ≡ None
    → many_fault groups end (front is_other words) ≡ Some f → who_fault groups end words ≡ Some f
who_many groups end words f a b m = rw (a, b, m) refl

pub who_last : (groups : List Group) (end : ℕ) (words : List Word) (last : Option NamesFault)
    → some_fault (place end (rest is_other words)) (front is_other words) ≡ None
    → except_fault end (rest is_other words) ≡ None
    → many_fault groups end (front is_other words) ≡ None
    → many_fault groups end (excepted (rest is_other words)) ≡ last → who_fault groups end words ≡ last
who_last groups end words last a b m n = rw (a, b, m) n

-- ---- groups

pub group_named : (groups : List Group) (end : ℕ) (name : Word) (members : List Word) (f : NamesFault)
    → fault_at name.at (group_name_fault groups name) ≡ Some f → group_fault groups end name members ≡ Some f
group_named groups end name members f a = rw a refl

pub group_some : (groups : List Group) (end : ℕ) (name : Word) (members : List Word) (f : NamesFault)
    → fault_at name.at (group_name_fault groups name) ≡ None → some_fault end members ≡ Some f
    → group_fault groups end name members ≡ Some f
group_some groups end name members f a b = rw (a, b) refl

pub group_last : (groups : List Group) (end : ℕ) (name : Word) (members : List Word) (last : Option NamesFault)
    → fault_at name.at (group_name_fault groups name) ≡ None → some_fault end members ≡ None
    → many_fault groups end members ≡ last → group_fault groups end name members ≡ last
group_last groups end name members last a b m = rw (a, b) m
