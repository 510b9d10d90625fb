-- A move that was prepared happens.
use Rattle.std.proofs.Common.{ℕ, ◌≡◌, Bool, true, false, not, ◌==◌, ◌&&◌, List, [], ◌∷◌, ◌++◌, map, take, refl, sym, ◌∙◌, ap, subst, append_assoc, if◌then◌else◌}
use Rattle.std.specs.Prelude.{Option, Some, None}
use Rattle.entry_core.specs.Log.{is_in}
use Rattle.place_core.specs.Placement.{numbers_of}
use Rattle.peer_core.specs.Steps.{restarted}
use Rattle.group_wire.specs.declared.opening.Opening.{Opening}
use Rattle.group_messages.specs.declared.group_move.GroupMove.TheVariants.{NewInterval as Moves, Restart as Restarts}
use Rattle.group_model.specs.Types.{Daemon, Sent}
use Rattle.group_model.specs.Group.{Group, NewInterval, Restart, last_set, same_set, announced, resent}
use Rattle.group_wire.specs.Furthest.{furthest}
use Rattle.group_core.specs.Moves.{IsOpening, IsReady, HasOpened}
use Rattle.group_core.proofs.Calls.{Next, next_same, next_begun, next_restarted, next_rejoined}

-- whether a move begins an interval, by its test

stays_same : (b : Bool) (a : List ℕ) → (if b then None else Some a) ≡ None → b ≡ true
stays_same true a is = refl
stays_same false a is = absurd (cc)

begins_with : (b : Bool) (a c : List ℕ) → (if b then None else Some a) ≡ Some c → (b ≡ false) × (a ≡ c)
begins_with true a c is = absurd (cc)
begins_with false a c is = (refl, cc)

stays_out : (b : Bool) (a : List ℕ) → (if b then Some a else None) ≡ None → b ≡ false
stays_out true a is = absurd (cc)
stays_out false a is = refl

comes_again : (b : Bool) (a c : List ℕ) → (if b then Some a else None) ≡ Some c → (b ≡ true) × (a ≡ c)
comes_again true a c is = (refl, cc)
comes_again false a c is = absurd (cc)

abbrev pub Moved : Group → ℕ → List (List ℕ) → List Sent → List ℕ → List Daemon → Group
Moved g n sets wire up copies = record g { wire = wire; sets = sets; up = up; copies = copies; audit = take n (furthest copies) }

module _ {g : Group} {n room : ℕ} (acting : List ℕ) (up : List Bool) (copies : List Daemon) (shown : take n (furthest g.copies) ≡ g.audit)
    (is_copies : copies ≡ map (λ c. if is_in g.up c.number && not (is_in (numbers_of up) c.number) then restarted c else c) g.copies) where
  pub moved_to : (o : Option Opening) (sets : List (List ℕ)) (wire : List Sent) (up' : List Bool) → IsReady g n room (Moves acting up) o → HasOpened g.sets g.wire o sets wire → up' ≡ up →
      Next g (NewInterval acting (numbers_of up)) (Moved g n sets wire (numbers_of up') copies) n
  moved_to None sets wire up' ready opened is_up =
      let same : same_set acting (last_set g.sets) ≡ true = stays_same (same_set acting (last_set g.sets)) acting ready.made in
      subst (λ s. Next g (NewInterval acting (numbers_of up)) (Moved g n s wire (numbers_of up') copies) n) (sym opened.0)
      (subst (λ w. Next g (NewInterval acting (numbers_of up)) (Moved g n g.sets w (numbers_of up') copies) n) (sym opened.1)
      (subst (λ u. Next g (NewInterval acting (numbers_of up)) (Moved g n g.sets g.wire (numbers_of u) copies) n) (sym is_up)
      (next_same ready.whole acting (numbers_of up) copies ready.fits same is_copies shown)))
  moved_to (Some o) sets wire up' ready opened is_up =
      let made : IsOpening g (Moves acting up) o.sets o.sent.items = ready.made in
      let parts : (same_set acting (last_set g.sets) ≡ false) × (acting ≡ made.acting) = begins_with (same_set acting (last_set g.sets)) acting made.acting made.begins in
      let is_sets : sets ≡ g.sets ++ acting ∷ [] = opened.0 ∙ made.sets_are ∙ ap (λ a. g.sets ++ a ∷ []) (sym parts.1) in
      let is_sent : o.sent.items ≡ announced (g.sets ++ acting ∷ []) ++ resent (g.sets ++ acting ∷ []) g.requests g.answers =
      made.sent_are ∙ ap (λ a. announced (g.sets ++ a ∷ []) ++ resent (g.sets ++ a ∷ []) g.requests g.answers) (sym parts.1) in
      let is_wire : wire ≡ (g.wire ++ announced (g.sets ++ acting ∷ [])) ++ resent (g.sets ++ acting ∷ []) g.requests g.answers =
      opened.1 ∙ ap (λ l. g.wire ++ l) is_sent ∙ sym (append_assoc g.wire (announced (g.sets ++ acting ∷ [])) (resent (g.sets ++ acting ∷ []) g.requests g.answers)) in
      subst (λ u. Next g (NewInterval acting (numbers_of up)) (Moved g n sets wire (numbers_of u) copies) n) (sym is_up)
      (next_begun ready.whole acting (numbers_of up) copies sets wire ready.fits parts.0 made.room is_sets is_wire is_copies shown)

module _ {g : Group} {n room : ℕ} (daemon : ℕ) (copies : List Daemon) (shown : take n (furthest g.copies) ≡ g.audit)
    (is_copies : copies ≡ map (λ c. if c.number == daemon then restarted c else c) g.copies) where
  pub restarted_to : (o : Option Opening) (sets : List (List ℕ)) (wire : List Sent) → IsReady g n room (Restarts daemon) o → HasOpened g.sets g.wire o sets wire →
      Next g (Restart daemon) (Moved g n sets wire g.up copies) n
  restarted_to None sets wire ready opened =
      let out : is_in (last_set g.sets) daemon ≡ false = stays_out (is_in (last_set g.sets) daemon) (last_set g.sets) ready.made in
      subst (λ s. Next g (Restart daemon) (Moved g n s wire g.up copies) n) (sym opened.0)
      (subst (λ w. Next g (Restart daemon) (Moved g n g.sets w g.up copies) n) (sym opened.1)
      (next_restarted ready.whole daemon copies out is_copies shown))
  restarted_to (Some o) sets wire ready opened =
      let made : IsOpening g (Restarts daemon) o.sets o.sent.items = ready.made in
      let parts : (is_in (last_set g.sets) daemon ≡ true) × (last_set g.sets ≡ made.acting) = comes_again (is_in (last_set g.sets) daemon) (last_set g.sets) made.acting made.begins in
      let is_sets : sets ≡ g.sets ++ last_set g.sets ∷ [] = opened.0 ∙ made.sets_are ∙ ap (λ a. g.sets ++ a ∷ []) (sym parts.1) in
      let is_sent : o.sent.items ≡ announced (g.sets ++ last_set g.sets ∷ []) ++ resent (g.sets ++ last_set g.sets ∷ []) g.requests g.answers =
      made.sent_are ∙ ap (λ a. announced (g.sets ++ a ∷ []) ++ resent (g.sets ++ a ∷ []) g.requests g.answers) (sym parts.1) in
      let is_wire : wire ≡ (g.wire ++ announced (g.sets ++ last_set g.sets ∷ [])) ++ resent (g.sets ++ last_set g.sets ∷ []) g.requests g.answers =
      opened.1 ∙ ap (λ l. g.wire ++ l) is_sent ∙ sym (append_assoc g.wire (announced (g.sets ++ last_set g.sets ∷ [])) (resent (g.sets ++ last_set g.sets ∷ []) g.requests g.answers)) in
      next_rejoined ready.whole daemon copies sets wire parts.0 made.room is_sets is_wire is_copies shown
