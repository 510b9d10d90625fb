-- Statement: contracts of public calls use it.
-- How often something was seen, and when first and last.
use Rattle.std.specs.Prelude.{◌≡◌, ℕ, ◌+◌, ◌-◌, ◌^◌, min, List, [], ◌∷◌, Option, None, Some, if◌then◌else◌}
use Rattle.std.specs.Str.{bytes_eq}
use Rattle.std.specs.HashMap.{get_by_text}
use Rattle.log_core.specs.declared.tally.Summary.{Summary}
use Rattle.log_core.specs.declared.tally.Tally.{Tally}

abbrev pub once : List ℕ → Summary
once time = record { count = 1; first = time; last = time }

-- one more time
abbrev pub again : Summary → List ℕ → Summary
again summary time = record { count = min (summary.count + 1) (2 ^ 64 - 1); first = summary.first; last = time }

abbrev pub next : Option Summary → List ℕ → Summary
next None time = once time
next (Some summary) time = again summary time

-- Of what was seen, each with its time, the newest first: the summary of something.
abbrev pub summary_of : List (List ℕ × List ℕ) → List ℕ → Option Summary
summary_of [] what = None
summary_of (seen ∷ before) what = if bytes_eq seen.0 what then Some (next (summary_of before seen.0) seen.1) else summary_of before what

-- a tally has the summaries of all that was seen
abbrev pub HasSummaries : List (List ℕ × List ℕ) → Tally → Type 0
HasSummaries before tally = (what : List ℕ) → get_by_text tally.summaries what ≡ summary_of before what
