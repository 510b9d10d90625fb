-- Which daemons are up, and the acting sets that they make.
use Rattle.std.proofs.Common.{◌≡◌, ℕ, zero, suc, ◌+◌, ◌<◌, ◌≤◌, List, [], ◌∷◌, ◌++◌, Bool, true, false, not, ◌||◌, cond, length, fold, map, slice_index_or, slice_set, nat_lt, nat_le, Option, Some, None, All, ◌⊎◌, inl, inr, refl, sym, ap, ◌∙◌, arith, subst}
use Rattle.std.specs.List.{range_with_len}
use Rattle.std.specs.Option.{option_map, IfSome}
use Rattle.std.specs.Str.{bytes_eq}
use Rattle.std.proofs.lemmas.Bool.{false≢true}
use Rattle.std.proofs.lemmas.Bool.Decides.{nat_tests}
use Rattle.std.proofs.lemmas.List.{length-set}
use Rattle.std.proofs.lemmas.List.Elements.{filter_passes, All-contains}
use Rattle.place_core.specs.Placement.{IsActing, acting_of, numbers_of}
use Rattle.place_core.proofs.Counted.{acting_is, acting_set_is}
use Rattle.map_core.specs.State.{MapState, History}
use Rattle.map_core.specs.Map.{after, initial, map_of, epoch_of}
use Rattle.map_core.specs.Refusal.{refusal, tests}
use Rattle.map_core.specs.Limits.{AcceptedFrom}
use Rattle.map_core.specs.Intervals.{size_in, set_of, begun, restarts}
use Rattle.map_core.specs.ActingSets.{IsSetOf}
use Rattle.map_core.specs.Laws.{later, SetsAreActing, UpAreThere}
use Rattle.map_core.proofs.Acceptance.{limits_of, all_fail, accepted_push}
use Rattle.map_core.proofs.IntervalLists.{size_small}
use Rattle.map_core.proofs.Current.{daemons_stay, after_push}
use Rattle.map_core.specs.declared.command.MapCommand.{MapCommand}
use Rattle.map_core.specs.declared.command.MapCommand.TheVariants.{PoolCreate, AppEnable, AppSet, AppRm, OsdUp, OsdDown, OsdRestart}

-- sixteen flags, and each one that is set has an index below the number of daemons
pub record FlagsFit (state : MapState) : Type 0 where
  pub long : length state.up ≡ 16
  pub below : (d : ℕ) → slice_index_or state.up d false ≡ true → d < state.daemons

first_below : (m k n d : ℕ) → slice_index_or (map (λ x. nat_lt x m) (range_with_len k n)) d false ≡ true → k + d < m
first_below m k zero d h = absurd (false≢true h)
first_below m k (suc n) zero h = let less : k < m = grind (arith, nat_tests) in omega arith
first_below m k (suc n) (suc d) h = let more : (k + 1) + d < m = first_below m (k + 1) n d h in omega arith

first_flags : (daemons : ℕ) → FlagsFit (initial daemons)
first_flags daemons = record { long = refl; below = λ d h. let less : 0 + d < daemons = first_below daemons 0 16 d h in omega arith }

set_up : (up : List Bool) (x d : ℕ) → slice_index_or (slice_set up x true) d false ≡ true → (slice_index_or up d false ≡ true) ⊎ (d ≡ x)
set_up [] x d h = inl h
set_up (u ∷ us) zero zero h = inr refl
set_up (u ∷ us) zero (suc d) h = inl h
set_up (u ∷ us) (suc x) zero h = inl h
set_up (u ∷ us) (suc x) (suc d) h = go (set_up us x d h)
  where
    go : (slice_index_or us d false ≡ true) ⊎ (d ≡ x) → (slice_index_or us d false ≡ true) ⊎ (suc d ≡ suc x)
    go (inl k) = inl k
    go (inr e) = inr (ap suc e)

set_down : (up : List Bool) (x d : ℕ) → slice_index_or (slice_set up x false) d false ≡ true → slice_index_or up d false ≡ true
set_down [] x d h = h
set_down (u ∷ us) zero zero h = absurd (false≢true h)
set_down (u ∷ us) zero (suc d) h = h
set_down (u ∷ us) (suc x) zero h = h
set_down (u ∷ us) (suc x) (suc d) h = set_down us x d h

flags_step : (state : MapState) (epoch : ℕ) (c : MapCommand) → refusal state epoch c ≡ None → FlagsFit state → FlagsFit (after state c)
unfolding refusal
flags_step state epoch (PoolCreate name pg_num size min_size) h fit = record { long = fit.long; below = fit.below }
flags_step state epoch (AppEnable pool app) h fit = record { long = fit.long; below = fit.below }
flags_step state epoch (AppSet pool app key value) h fit = record { long = fit.long; below = fit.below }
flags_step state epoch (AppRm pool app key) h fit = record { long = fit.long; below = fit.below }
flags_step state epoch (OsdRestart d) h fit = record { long = fit.long; below = fit.below }
flags_step state epoch (OsdDown x) h fit = record { long = length-set state.up x false ∙ fit.long; below = λ d k. fit.below d (set_down state.up x d k) }
flags_step state epoch (OsdUp x) h fit = record { long = length-set state.up x true ∙ fit.long; below = λ d k. go d (set_up state.up x d k) }
  where
    there : nat_le state.daemons x ≡ false
    there = (all_fail (tests state epoch (OsdUp x)) h).0

    less : (m n : ℕ) → nat_le m n ≡ false → n < m
    less m n e = grind (arith, nat_tests)

    go : (d : ℕ) → (slice_index_or state.up d false ≡ true) ⊎ (d ≡ x) → d < state.daemons
    go d (inl k) = fit.below d k
    go d (inr e) = subst (λ (n : ℕ). n < state.daemons) (sym e) (less state.daemons x there)

flags_steps : (state : MapState) (epoch : ℕ) (commands : List MapCommand) → AcceptedFrom state epoch commands → FlagsFit state → FlagsFit (fold after state commands)
flags_steps state epoch [] accepted fit = fit
flags_steps state epoch (c ∷ commands) accepted fit = flags_steps (after state c) (epoch + 1) commands accepted.1 (flags_step state epoch c accepted.0 fit)

flags_of : (history : History) → AcceptedFrom (initial history.daemons) 1 history.commands → FlagsFit (map_of history)
flags_of history accepted = flags_steps (initial history.daemons) 1 history.commands accepted (first_flags history.daemons)

-- each daemon that is up has a number below the number of daemons
up_below : (state : MapState) → FlagsFit state → All (λ d. d < state.daemons) (numbers_of state.up)
unfolding numbers_of
up_below state fit = λ k d low. fit.below _ (filter_passes (λ i. slice_index_or state.up i false) (range_with_len 0 (length state.up)) k d low)

pub up_are_there : UpAreThere
up_are_there history accepted =
    subst (λ (n : ℕ). All (λ d. d < n) (numbers_of (map_of history).up)) (daemons_stay (initial history.daemons) history.commands) (up_below (map_of history) (flags_of history accepted))

-- a set comes of a size
pub set_sized : (state : MapState) (pool : List ℕ) (group : ℕ) (members : List ℕ) → set_of state pool group ≡ Some members → (size : ℕ) × (size_in state.pools pool ≡ Some size) × (acting_of pool group (numbers_of state.up) size ≡ members)
unfolding set_of
set_sized state pool group members h = go (size_in state.pools pool) refl h
  where
    go : (o : Option ℕ) → size_in state.pools pool ≡ o → option_map (acting_of pool group (numbers_of state.up)) o ≡ Some members → (size : ℕ) × (size_in state.pools pool ≡ Some size) × (acting_of pool group (numbers_of state.up) size ≡ members)
    go None e k = absurd (cc)
    go (Some size) e k = let same : acting_of pool group (numbers_of state.up) size ≡ members = cc in (size, e, same)

pub sets_are_acting : SetsAreActing
sets_are_acting history pool group members accepted h =
    let state = map_of history in
    let fit = flags_of history accepted in
    let s = set_sized state pool group members h in
    let P : Option ℕ → Type 0 = λ o. IfSome o (λ size. size ≤ 5) in
    let small : s.0 ≤ 5 = subst P s.1 (size_small state.pools pool (limits_of history.daemons history.commands accepted)) in
    let acting = subst (λ (l : List ℕ). IsActing pool group (numbers_of state.up) s.0 l) s.2 (acting_is pool group state.up s.0 fit.long) in
    let is = acting_set_is pool group (numbers_of state.up) s.0 members small acting in
    record {
      size = s.0;
      sized = s.1;
      acting = acting;
      is_set = is;
      there = λ k d low. All-contains (λ x. x < state.daemons) (numbers_of state.up) _ (up_below state fit) (is.from_up k d low);
    }

-- this holds for a map by another name, and for the map after a command
pub set_shown : (history shown : History) (pool : List ℕ) (group : ℕ) (members : List ℕ) → AcceptedFrom (initial history.daemons) 1 history.commands → history ≡ shown → set_of (map_of shown) pool group ≡ Some members → IsSetOf (map_of shown) pool group members
set_shown history shown pool group members accepted view h =
    let P : History → Type 0 = λ x. AcceptedFrom (initial x.daemons) 1 x.commands in
    sets_are_acting shown pool group members (subst P view accepted) h

pub set_shown_after : (history shown : History) (command : MapCommand) (pool : List ℕ) (group : ℕ) (members : List ℕ) → AcceptedFrom (initial history.daemons) 1 history.commands → history ≡ shown
    → refusal (map_of shown) (epoch_of shown) command ≡ None → set_of (after (map_of shown) command) pool group ≡ Some members → IsSetOf (after (map_of shown) command) pool group members
set_shown_after history shown command pool group members accepted view allowed h =
    let P : History → Type 0 = λ x. AcceptedFrom (initial x.daemons) 1 x.commands in
    let next : map_of (later shown (command ∷ [])) ≡ after (map_of shown) command = after_push shown.daemons shown.commands command in
    let longer : AcceptedFrom (initial shown.daemons) 1 (shown.commands ++ command ∷ []) = accepted_push (initial shown.daemons) 1 (epoch_of shown) shown.commands command (subst P view accepted) refl allowed in
    subst (λ (s : MapState). IsSetOf s pool group members) next
    (sets_are_acting (later shown (command ∷ [])) pool group members longer (ap (λ (s : MapState). set_of s pool group) next ∙ h))

-- a set with which an interval begins is the one after the command
pub begun_is : (P : List ℕ → Type 0) (command : MapCommand) (old new : Option (List ℕ)) → IfSome new P → IfSome (begun command old new) P
begun_is P command None None h = h
begun_is P command (Some old) None h = h
begun_is P command None (Some new) h = h
begun_is P command (Some old) (Some new) h = go (restarts command old || not (bytes_eq old new))
  where
    go : (b : Bool) → IfSome (cond b (Some new) None) P
    go true = h
    go false = tt
