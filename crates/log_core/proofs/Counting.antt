-- One more time.
use Rattle.std.proofs.Common.{◌≡◌, ℕ, List, ◌∷◌, cond, Option, Some, ap, ◌∙◌}
use Rattle.std.specs.HashMap.{get_by_text}
use Rattle.std.specs.Str.{bytes_eq}
use Rattle.log_core.specs.Tally as spec
use Rattle.log_core.specs.Tally.{HasSummaries, summary_of}
use Rattle.log_core.specs.declared.tally.Summary.{Summary}
use Rattle.log_core.specs.declared.tally.Tally.{Tally}

pub counted_more : (before : List (List ℕ × List ℕ)) (old new : Tally) (what time : List ℕ) (summary : Summary) → summary ≡ spec.next (get_by_text old.summaries what) time
    → ((q : List ℕ) → get_by_text new.summaries q ≡ cond (bytes_eq what q) (Some summary) (get_by_text old.summaries q)) → HasSummaries before old → HasSummaries ((what, time) ∷ before) new
counted_more before old new what time summary is put has =
    let now : summary ≡ spec.next (summary_of before what) time = is ∙ ap (λ (o : Option Summary). spec.next o time) (has what) in
    λ q. put q ∙ (λ i. cond (bytes_eq what q) (Some (now i)) (has q i))
