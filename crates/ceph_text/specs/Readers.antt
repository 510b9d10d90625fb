-- Statement: contracts of public calls use it.
-- Parsing expressions: what may be at the front of a text, by ordered choice.
use Rattle.std.specs.Prelude.{ℕ, Bool, true, false, not, ◌||◌, ◌==◌, List, [], ◌∷◌, length, take, drop, Option, Some, None, nat_eq, if◌then◌else◌}
use Rattle.std.specs.List.{prefix_len, starts_with}
use Rattle.std.specs.Option.{option_or}

-- A reader takes the bytes that are left. It gives a value and the bytes behind it, or nothing.
abbrev pub Reader : Type 0 → Type 0
Reader A = List ℕ → Option (A × List ℕ)

-- a value, and no byte is read
abbrev pub give : {A : Type 0} → A → Reader A
give x text = Some (x, text)

abbrev pub refuse : {A : Type 0} → Reader A
refuse text = None

abbrev pub behind : {A B : Type 0} → Option (A × List ℕ) → (A → Reader B) → Option (B × List ℕ)
behind None next = None
behind (Some found) next = next found.0 found.1

-- one reader, and behind it the next
infixl 10 ◌>>=◌
abbrev pub ◌>>=◌ : {A B : Type 0} → Reader A → (A → Reader B) → Reader B
(first >>= next) text = behind (first text) next

infixl 10 ◌>>◌
abbrev pub ◌>>◌ : {A B : Type 0} → Reader A → Reader B → Reader B
(first >> next) text = behind (first text) (λ _. next)

-- ordered choice: the second only where the first gives nothing
infixl 9 ◌</>◌
abbrev pub ◌</>◌ : {A : Type 0} → Reader A → Reader A → Reader A
(first </> second) text = option_or (first text) (second text)

abbrev pub or_nothing : {A : Type 0} → Option (A × List ℕ) → Reader (Option A)
or_nothing None text = Some (None, text)
or_nothing (Some found) text = Some (Some found.0, found.1)

-- it, or nothing
abbrev pub optional : {A : Type 0} → Reader A → Reader (Option A)
optional reader text = or_nothing (reader text) text

abbrev pub or_absent : {A : Type 0} → Option (A × List ℕ) → Reader Bool
or_absent None text = Some (false, text)
or_absent (Some found) text = Some (true, found.1)

-- whether it is there
abbrev pub present : {A : Type 0} → Reader A → Reader Bool
present reader text = or_absent (reader text) text

-- these bytes
abbrev pub word : List ℕ → Reader (Unit {0})
word bytes text = if starts_with nat_eq text bytes then Some (tt, drop (length bytes) text) else None

-- as many bytes as pass the test, perhaps none
abbrev pub many : (ℕ → Bool) → Reader (List ℕ)
many test text = Some (take (prefix_len test text) text, drop (prefix_len test text) text)

-- as many bytes as pass the test, at least one
abbrev pub some : (ℕ → Bool) → Reader (List ℕ)
some test text = if prefix_len test text == 0 then None else many test text
